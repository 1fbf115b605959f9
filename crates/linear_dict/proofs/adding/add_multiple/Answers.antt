use Rattle.std.proofs.Common.{◌∙◌, ◌+◌, ℕ, Vec, Global, arith, ap, length, map, refl, subst, sym, ◌≡◌}
use Rattle.std.proofs.lemmas.List.{length-set}
use Rattle.fraction_theory.specs.Fraction.{Fraction, ◌*ℚ◌}
use Rattle.linear_dict.specs.Adding.{AreSums}
use Rattle.linear_dict.specs.Tables.{cell}
use Rattle.std.proofs.lemmas.Result.{err_from_is_err_and}
use Rattle.linear_dict.specs.Causes.{MultipleShare, increase}
use Rattle.linear_dict.proofs.CauseLemmas.{refused_share}
use Rattle.linear_dict.proofs.AddingLemmas.{added_to, added-yet, sums_read, added_start, added_keep, added_step, added_end}
use Rattle.linear_dict.proofs.ProductLemmas.{times_zero}
use Rattle.linear_dict.proofs.TableLemmas.{cell_read_within}
use Rattle.linear_dict.proofs.adding.add_multiple.Goals as goal
use Rattle.linear_dict.proofs.adding.add_multiple.Goals.{then-not-is_zero+in_ok-sum, else-not-is_zero}

pub loop-c-init : goal.loop-c-init
loop-c-init g c = (c.requires.count, λ f s. added_start g.N.Exact.value c.args.columns f _ c.args.sums.now.items s)

pub loop-c-preserved : goal.loop-c-preserved
loop-c-preserved g c =
    let value : g.row.N.Denot → Fraction = g.N.Exact.value in
    let n : ℕ = c.args.columns in
    let k : ℕ = c.loop-c.c in
    let a : Fraction = value c.args.factor in
    let row : ℕ → Fraction = cell n (map value c.args.table.now) c.args.row in
    let t : ℕ → Fraction = λ j. a *ℚ row j in
    let number : value c.index-table-start.result ≡ row k =
    cell_read_within value c.args.table.now n c.args.row k c.index-table-start.result (Prim.omega (arith, c.requires.room, c.loop-c-test.true)) c.index-table-start.is in
    elim c.if-not-is_zero.branch [
      | then-not-is_zero+in_ok-sum w ↦
          subst (λ (x : Vec g.row.N.Denot Global). (length x.items ≡ n) × ((f : ℕ → Fraction) → AreSums value c.args.sums.now.items n f → AreSums value x.items n (added_to f t (k + 1)))) (sym w.sums-is) (
            length-set c.loop-c.sums.items k w.in_ok-sum.sum ∙ c.loop-c.invariant.0,
            λ f s. added_step value n f t c.loop-c.sums.items k w.index.result.now w.in_ok-sum.sum (a *ℚ value c.index-table-start.result) (c.loop-c.invariant.1 f s) c.loop-c-test.true w.index.ensures
                (ap (λ (x : Fraction). a *ℚ x) number) w.in_ok-sum.ensures.exact,
          )
      | else-not-is_zero w ↦
          subst (λ (x : Vec g.row.N.Denot Global). (length x.items ≡ n) × ((f : ℕ → Fraction) → AreSums value c.args.sums.now.items n f → AreSums value x.items n (added_to f t (k + 1)))) (sym w.sums-is) (
            c.loop-c.invariant.0,
            λ f s. added_keep value n f t c.loop-c.sums.items k (c.loop-c.invariant.1 f s) (times_zero a (row k) (sym number ∙ c.is_zero.ensures.0 w.if-not-is_zero.false)),
          )
    ]

pub returns-clause-added : goal.returns-clause-added
returns-clause-added g c = λ f s. added_end g.N.Exact.value c.args.columns f _ c.loop-c.sums.items c.loop-c.c (c.loop-c.invariant.1 f s) c.loop-c-test.false

pub returns-in_err-sum-clause-stops : goal.returns-in_err-sum-clause-stops
returns-in_err-sum-clause-stops g c =
    let value : g.row.N.Denot → Fraction = g.N.Exact.value in
    let n : ℕ = c.args.columns in
    let a : Fraction = value c.args.factor in
    let t : ℕ → Fraction = cell n (map value c.args.table.now) c.args.row in
    let k : ℕ = c.loop-c.c in
    let number : value c.index-table-start.result ≡ t k = cell_read_within value c.args.table.now n c.args.row k c.index-table-start.result (Prim.omega (arith, c.requires.room, c.loop-c-test.true)) c.index-table-start.is in
    let p = err_from_is_err_and c.from_residual.result c.from_residual.ensures.1 in
    rw (p.1, p.2) (λ f s.
    let u : ℕ → Fraction = λ j. a *ℚ t j in
    refused_share value g.N.Exact.bound (MultipleShare n f a t) c.index.result.now c.args.factor c.index-table-start.result c.in_err-sum.field-0.0
    (f k) a (t k) c.in_err-sum.ensures
    (sums_read value c.loop-c.sums.items n (added_to f u k) k c.index.result.now (c.loop-c.invariant.1 f s) c.loop-c-test.true c.index.ensures ∙ added-yet value n f u k k (Prim.omega arith)) refl number
    (increase k c.loop-c-test.true))
