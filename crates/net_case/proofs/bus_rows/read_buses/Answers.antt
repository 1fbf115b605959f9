use Rattle.std.proofs.Common.{rules, arith, ◌≡◌, ◌<◌, ◌≤◌, ◌+◌, ◌-◌, ◌++◌, ◌∷◌, ◌∙◌, sym, ap, Ok, Err, [], length, get_or, refl}
use Rattle.record_reading.proofs.GatherLemmas.{read_records-end, read_records-fault, read_records-step, length-listed}
use Rattle.net_case.specs.NetworkReading.{bus_row, bus_rows}
use Rattle.net_case.proofs.BusLemmas.{read-push, keeps-push}
use Rattle.net_case.proofs.bus_rows.read_buses.Goals as goal

pub loop-row-init : goal.loop-row-init
loop-row-init c = record { rows = search rules; count = search rules; is = ([], record { buses = search rules; places = search rules; reference = search rules }, refl) }

pub returns-in_err-bus-clause-is : goal.returns-in_err-bus-clause-is
unfolding bus_rows
returns-in_err-bus-clause-is c =
    let done = c.loop-row.invariant.is.0 in
    let kept = c.loop-row.invariant.is.1 in
    let lt : c.loop-row.row < length c.args.case.now.bus = omega arith in
    let at_row : c.loop-row.row + 1 - 1 ≡ c.loop-row.row = omega arith in
    let fails : bus_row done (c.loop-row.row + 1) (get_or c.args.case.now.bus c.loop-row.row []) ≡ Err c.in_err-bus.field-0.0 =
    rw (kept.places, at_row) at (sym c.read_bus.ensures.is ∙ c.in_err-bus.was) in
    let here = c.loop-row.invariant.is.2 ∙ read_records-fault bus_row done (c.loop-row.row + 1) c.args.case.now.bus c.loop-row.row c.in_err-bus.field-0.0 lt fails in
    let given : c.from_residual.result ≡ Err c.in_err-bus.field-0.0 = search rules in
    rw given (λ _. rw here refl)

pub loop-row-preserved : goal.loop-row-preserved
loop-row-preserved c =
    let done = c.loop-row.invariant.is.0 in
    let kept = c.loop-row.invariant.is.1 in
    let bus = c.in_ok-bus.bus in
    let lt : c.loop-row.row < length c.args.case.now.bus = omega arith in
    let at_row : c.loop-row.row + 1 - 1 ≡ c.loop-row.row = omega arith in
    let reads : bus_row done (c.loop-row.row + 1) (get_or c.args.case.now.bus c.loop-row.row []) ≡ Ok bus =
    rw (kept.places, at_row) at (sym c.read_bus.ensures.is ∙ c.in_ok-bus.was) in
    let here = c.loop-row.invariant.is.2 ∙ read_records-step bus_row done (c.loop-row.row + 1) c.args.case.now.bus c.loop-row.row bus lt reads in
    let k = c.in_ok-keep_bus.ensures in
    record {
      rows = read-push c.loop-row.rows c.keep_bus.new.rows bus c.loop-row.invariant.rows c.in_ok-bus.ensures.bus c.in_ok-bus.ensures.new k.buses k.places c.keep_bus.ensures.reference;
      count = omega (arith, ap length k.buses, length-listed c.loop-row.rows.buses bus.live);
      is = (done ++ bus ∷ [], keeps-push done c.loop-row.rows c.keep_bus.new.rows bus kept c.in_ok-bus.ensures.bus k.buses k.places k.reference, here);
    }

pub returns-in-Some-clause-is : goal.returns-in-Some-clause-is
unfolding bus_rows
returns-in-Some-clause-is c =
    let done = c.loop-row.invariant.is.0 in
    let kept = c.loop-row.invariant.is.1 in
    let le : length c.args.case.now.bus ≤ c.loop-row.row = omega arith in
    let all = c.loop-row.invariant.is.2 ∙ read_records-end bus_row done (c.loop-row.row + 1) c.args.case.now.bus c.loop-row.row le in
    record { done = done; read = rw (all, ← kept.reference, c.in-Some.is) refl; buses = kept.buses; places = kept.places }

pub returns-in-None-clause-is : goal.returns-in-None-clause-is
unfolding bus_rows
returns-in-None-clause-is c =
    let done = c.loop-row.invariant.is.0 in
    let kept = c.loop-row.invariant.is.1 in
    let le : length c.args.case.now.bus ≤ c.loop-row.row = omega arith in
    let all = c.loop-row.invariant.is.2 ∙ read_records-end bus_row done (c.loop-row.row + 1) c.args.case.now.bus c.loop-row.row le in
    λ _. rw (all, ← kept.reference, c.in-None.is) refl
