use Rattle.std.proofs.Common.{rules, Err, ◌<◌, ◌≡◌, ◌∙◌, ap, length, pos, arith, List}
use Rattle.std.specs.Prelude.{slice_index_or}
use Rattle.market_data.specs.declared.participants.Unit as unit
use Rattle.market_model.specs.Valued.{passed_at}
use Rattle.market_model.proofs.PutInSteps.{fixed_step, fixed_refused}
use Rattle.market_model.proofs.putting.fixed_at.Goals as goal

pub loop-at-preserved : goal.loop-at-preserved
loop-at-preserved g c =
    let units = c.slice-unit-items.ensures ∙ c.units.ensures.list in
    fixed_step c.args.market.now c.args.bus c.loop-at.at _ _ _
    (ap (λ (us : List unit.Unit). slice_index_or {A = unit.Unit} us c.loop-at.at (record { row = 0; bus = 0; fixed = pos 0; up = pos 0; down = pos 0 })) units)
    c.loop-at.invariant (rw c.fixed_of.ensures at c.in_ok-mw.ensures.sum)

pub returns-clause-sum : goal.returns-clause-sum
returns-clause-sum g c =
    let units = c.slice-unit-items.ensures ∙ c.units.ensures.list in
    let all : c.loop-at.at ≡ length c.args.market.now.units = omega (arith, ap length units) in
    rw all at c.loop-at.invariant

pub returns-in_err-mw-clause-stops : goal.returns-in_err-mw-clause-stops
returns-in_err-mw-clause-stops g c =
    let m = c.args.market.now in
    let k = c.loop-at.at in
    let units = c.slice-unit-items.ensures ∙ c.units.ensures.list in
    let given : c.from_residual.result ≡ Err c.in_err-mw.field-0.0 = search rules in
    let below : k < length m.units = omega (arith, c.loop-at-test.true, ap length units) in
    rw given
    (fixed_refused m c.args.bus k _ (g.N.Exact.value c.loop-at.mw) g.N.Exact.bound (passed_at g.N.Exact.value c.in_err-mw.field-0.0) below
    (ap (λ (us : List unit.Unit). slice_index_or {A = unit.Unit} us k (record { row = 0; bus = 0; fixed = pos 0; up = pos 0; down = pos 0 })) units)
    c.in_err-mw.ensures.counts c.loop-at.invariant (rw c.fixed_of.ensures at c.in_err-mw.ensures.stops))
