use Rattle.std.proofs.Common.{arith, ◌≡◌, ◌<◌, ◌+◌, ◌++◌, ◌∷◌, [], length, take, get_or, pos}
use Rattle.std.proofs.lemmas.List.{length-take-le, take_more}
use Rattle.std.proofs.lemmas.List.Elements.{Contains-get_or}
use Rattle.std.proofs.lemmas.Result.{err_from_is_err_and}
use Rattle.market_data.specs.declared.participants.Unit as unit
use Rattle.unit_offers.proofs.OfferLemmas.{add-stop, unit-more, unit-stop}
use Rattle.unit_offers.proofs.offers.offers_of.Goals as goal

abbrev no_unit : unit.Unit
no_unit = record { row = 0; bus = 0; fixed = pos 0; up = pos 0; down = pos 0 }

pub returns-in_err-unit-clause-is : goal.returns-in_err-unit-clause-is
returns-in_err-unit-clause-is c =
    let p = err_from_is_err_and c.from_residual.result c.from_residual.ensures.1 in
    let units = c.args.list.now.units in
    let lt : c.loop-place.place < length units = Prim.rw c.slice-units.ensures at c.loop-place-test.true in
    let u = get_or units c.loop-place.place no_unit in
    Prim.rw (p.1, p.2) (unit-stop c.args.list.now c.args.costs.now c.args.steps u c.in_err-unit.field-0.0 (Contains-get_or units c.loop-place.place no_unit lt) (Prim.rw c.slice-units.ensures at c.in_err-unit.ensures))

pub returns-in_err-add_unit-clause-is : goal.returns-in_err-add_unit-clause-is
returns-in_err-add_unit-clause-is c =
    let p = err_from_is_err_and c.from_residual-in_err-add_unit.result c.from_residual-in_err-add_unit.ensures.1 in
    let units = c.args.list.now.units in
    let i = c.loop-place.place in
    let lt : i < length units = Prim.rw c.slice-units.ensures at c.loop-place-test.true in
    let u = get_or units i no_unit in
    let first : take (i + 1) units ≡ take i units ++ u ∷ [] = take_more units i no_unit lt in
    let long : length (take i units) ≡ i = length-take-le i units (omega (arith, lt)) in
    Prim.rw (p.1, p.2) (add-stop c.args.costs.now c.args.steps (take i units) i u c.loop-place.offers c.in_ok-unit.unit long c.loop-place.invariant.offered
    (Prim.rw c.slice-units.ensures at c.in_ok-unit.ensures) c.args.list.now (i + 1) c.in_err-add_unit.field-0.0 first c.in_err-add_unit.ensures)

pub loop-place-preserved : goal.loop-place-preserved
loop-place-preserved c =
    let units = c.args.list.now.units in
    let i = c.loop-place.place in
    let lt : i < length units = Prim.rw c.slice-units.ensures at c.loop-place-test.true in
    let u = get_or units i no_unit in
    let first : take (i + 1) units ≡ take i units ++ u ∷ [] = take_more units i no_unit lt in
    let long : length (take i units) ≡ i = length-take-le i units (omega (arith, lt)) in
    record {
      offered = Prim.rw first (unit-more c.args.costs.now c.args.steps (take i units) i u c.loop-place.offers c.in_ok-unit.unit long c.loop-place.invariant.offered
          (Prim.rw c.slice-units.ensures at c.in_ok-unit.ensures) c.add_unit.new.self c.in_ok-add_unit.ensures.0);
      within = c.in_ok-add_unit.ensures.1;
    }
