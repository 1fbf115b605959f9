use Rattle.std.proofs.Common.{rules, arith, ◌≡◌, ◌<◌, ◌≤◌, ◌+◌, ◌++◌, ◌∷◌, ◌∙◌, sym, ap, Err, [], get_or, length, length-append}
use Rattle.std.proofs.lemmas.List.Elements.{All-append, All-cons, All-nil}
use Rattle.record_reading.proofs.GatherLemmas.{read_records-end, read_records-fault, read_records-step}
use Rattle.outage_list.specs.PickupRecords.{IsUnitPickup, unit_pickup_in}
use Rattle.outage_list.proofs.pickup_records.unit_pickups_of.Goals as goal

pub returns-in_err-unit_pickup-clause-err : goal.returns-in_err-unit_pickup-clause-err
returns-in_err-unit_pickup-clause-err c =
    let lt : c.loop-place.place < length c.args.table.now = omega arith in
    let fails = ap (λ done. unit_pickup_in c.args.network.now done (c.loop-place.place + 2) (get_or c.args.table.now c.loop-place.place [])) (sym c.slice.ensures) ∙ sym c.unit_pickup_of.ensures.is ∙ c.in_err-unit_pickup.was in
    let here = c.loop-place.invariant.is ∙ read_records-fault (unit_pickup_in c.args.network.now) c.loop-place.unit_pickups (c.loop-place.place + 2) c.args.table.now c.loop-place.place c.in_err-unit_pickup.field-0.0 lt fails in
    let given : c.from_residual.result ≡ Err c.in_err-unit_pickup.field-0.0 = search rules in
    rw given (λ _. here)

pub loop-place-preserved : goal.loop-place-preserved
loop-place-preserved c =
    let lt : c.loop-place.place < length c.args.table.now = omega arith in
    let reads = ap (λ done. unit_pickup_in c.args.network.now done (c.loop-place.place + 2) (get_or c.args.table.now c.loop-place.place [])) (sym c.slice.ensures) ∙ sym c.unit_pickup_of.ensures.is ∙ c.in_ok-unit_pickup.was in
    let here = c.loop-place.invariant.is ∙ read_records-step (unit_pickup_in c.args.network.now) c.loop-place.unit_pickups (c.loop-place.place + 2) c.args.table.now c.loop-place.place c.in_ok-unit_pickup.unit_pickup lt reads in
    let added : c.push.new.self ≡ c.loop-place.unit_pickups ++ c.in_ok-unit_pickup.unit_pickup ∷ [] = search rules in
    let next : c.loop-place.place + 2 + 1 ≡ c.loop-place.place + 1 + 2 = omega arith in
    let units = length c.args.network.now.units in
    record {
      count = omega (arith, ap length added, length-append c.loop-place.unit_pickups (c.in_ok-unit_pickup.unit_pickup ∷ []));
      kept = rw added (All-append (IsUnitPickup units) c.loop-place.unit_pickups (c.in_ok-unit_pickup.unit_pickup ∷ []) c.loop-place.invariant.kept (All-cons (IsUnitPickup units) c.in_ok-unit_pickup.unit_pickup [] c.in_ok-unit_pickup.ensures.kept (All-nil _)));
      is = rw (added, ← next) here;
    }

pub returns-clause-ok : goal.returns-clause-ok
returns-clause-ok c =
    let le : length c.args.table.now ≤ c.loop-place.place = omega arith in
    c.loop-place.invariant.is ∙ read_records-end (unit_pickup_in c.args.network.now) c.loop-place.unit_pickups (c.loop-place.place + 2) c.args.table.now c.loop-place.place le
