use Rattle.std.proofs.Common.{refl, rules, ◌≡◌, ◌+◌, ℕ, ℤ, List, length, w64, arith, pos, sym, ap, subst, take, None, Some, vec_len, get_or}
use Rattle.std.specs.Prelude.{Option}
use Rattle.std.proofs.lemmas.Int.{to_z-of_z}
use mir.Val.{SFits}
use Rattle.market_model.specs.declared.participants.Factor.{Factor}
use Rattle.market_model.specs.Factors.{IsTable}
use Rattle.market_model.specs.LostLines.{factor_after}
use Rattle.market_model.specs.Market.{IsTableFactor}
use Rattle.market_model.proofs.LostLemmas.{place_few, place_inside, row_few}
use Rattle.market_model.proofs.TableLemmas.{factor_fits, loss_more, loss_none}
use Rattle.market_model.proofs.factor_table.loss_table.Goals as goal
use Rattle.market_model.proofs.factor_table.loss_table.Goals.{in-Some, in_default}

abbrev nothing : Factor
nothing = record { line = 0; of = 0; value = pos 0 }

-- what is neither some number is none
no_number : (o : Option ℕ) → ((x : ℕ) → o ≡ Some x → ⊥) → o ≡ None
no_number None h = refl
no_number (Some x) h = absurd (h x refl)

pub overflow_mul-outage : goal.overflow_mul-outage
overflow_mul-outage c =
    let is : IsTableFactor c.args.lines c.args.lines (get_or c.args.factors.now c.loop-factor.factor-index nothing) = c.requires.factors.each c.loop-factor.factor-index nothing c.loop-factor-test.true in
    let at = c.requires.index.found (get_or c.args.factors.now c.loop-factor.factor-index nothing).of c.in-Some.outage c.in-Some.is in
    let r = row_few c.args.lines (length c.args.lost.now) c.requires.lines c.requires.lost c.in-Some.outage (get_or c.args.factors.now c.loop-factor.factor-index nothing).line at.0 is.line in
    omega (arith, r)

pub overflow_add-outage : goal.overflow_add-outage
overflow_add-outage c =
    let is : IsTableFactor c.args.lines c.args.lines (get_or c.args.factors.now c.loop-factor.factor-index nothing) = c.requires.factors.each c.loop-factor.factor-index nothing c.loop-factor-test.true in
    let at = c.requires.index.found (get_or c.args.factors.now c.loop-factor.factor-index nothing).of c.in-Some.outage c.in-Some.is in
    let r = place_few c.args.lines (length c.args.lost.now) c.requires.lines c.requires.lost c.in-Some.outage (get_or c.args.factors.now c.loop-factor.factor-index nothing).line at.0 is.line in
    omega (arith, r)

pub index_mut-requires : goal.index_mut-requires
index_mut-requires c =
    let is : IsTableFactor c.args.lines c.args.lines (get_or c.args.factors.now c.loop-factor.factor-index nothing) = c.requires.factors.each c.loop-factor.factor-index nothing c.loop-factor-test.true in
    let at = c.requires.index.found (get_or c.args.factors.now c.loop-factor.factor-index nothing).of c.in-Some.outage c.in-Some.is in
    let r = place_inside c.args.lines (length c.args.lost.now) c.requires.lines c.requires.lost c.in-Some.outage (get_or c.args.factors.now c.loop-factor.factor-index nothing).line at.0 is.line
    c.loop-factor.table.items c.loop-factor.invariant.table.count in
    let long : vec_len c.loop-factor.table ≡ length c.loop-factor.table.items = search rules in
    rw long r

pub loop-factor-preserved : goal.loop-factor-preserved
loop-factor-preserved c =
    let i = c.loop-factor.factor-index in
    let is : IsTableFactor c.args.lines c.args.lines (get_or c.args.factors.now i nothing) = c.requires.factors.each i nothing c.loop-factor-test.true in
    let fits : SFits w64 (get_or c.args.factors.now i nothing).value = factor_fits (get_or c.args.factors.now i nothing).value is.size in
    let value = to_z-of_z w64 (get_or c.args.factors.now i nothing).value fits in
    let put = λ (items : List ℤ). IsTable (length c.args.lost.now) c.args.lines (factor_after (take (i + 1) c.args.factors.now) c.args.lost.now) items in
    elim c.match-index-factor.branch [
      | in-Some w ↦
          let items = rw value at (ap (λ t. t.items) w.table-is) in
          record {
            table = subst put (sym items)
                (loss_more c.args.lines c.args.lost.now c.args.index.now c.requires.index c.args.factors.now i nothing c.loop-factor-test.true c.requires.factors.distinct c.loop-factor.table.items c.loop-factor.invariant.table
                w.in-Some.outage w.in-Some.is is.line);
          }
      | in_default w ↦
          record {
            table = subst put (sym (ap (λ t. t.items) w.table-is))
                (loss_none c.args.lines c.args.lost.now c.args.index.now c.requires.index c.args.factors.now i nothing c.loop-factor-test.true c.requires.factors.distinct c.loop-factor.table.items c.loop-factor.invariant.table
                (no_number _ w.in_default.not-Some));
          }
    ]
