use Rattle.std.proofs.Common.{rules, arith, ◌≡◌, ◌<◌, ◌≤◌, ◌+◌, ◌-◌, ◌∙◌, sym, ap, Ok, Err, [], length, get_or}
use Rattle.net_case.specs.Networks.{IsNetUnit}
use Rattle.net_case.specs.NetworkReading.{unit_row}
use Rattle.record_reading.proofs.GatherLemmas.{gather-end, gather-fault, gather-step, All-listed, length-listed}
use Rattle.net_case.specs.declared.live_parts.NetUnit.{NetUnit}
use Rattle.net_case.proofs.RowLemmas.{rows-listed}
use Rattle.net_case.proofs.gen_rows.read_units.Goals as goal

pub returns-in_err-unit-clause-is : goal.returns-in_err-unit-clause-is
returns-in_err-unit-clause-is c =
    let lt : c.loop-row.row < length c.args.case.now.generators = omega arith in
    let at_row : c.loop-row.row + 1 - 1 ≡ c.loop-row.row = omega arith in
    let fails : unit_row c.args.places.now.entries (c.loop-row.row + 1) (get_or c.args.case.now.generators c.loop-row.row []) ≡ Err c.in_err-unit.field-0.0 =
    rw at_row at (sym c.read_unit.ensures.is ∙ c.in_err-unit.was) in
    let here = c.loop-row.invariant.is ∙ gather-fault (λ _. unit_row c.args.places.now.entries) c.loop-row.units (c.loop-row.row + 1) c.args.case.now.generators c.loop-row.row c.in_err-unit.field-0.0 lt fails in
    let given : c.from_residual.result ≡ Err c.in_err-unit.field-0.0 = search rules in
    λ _. given ∙ sym here

pub loop-row-preserved : goal.loop-row-preserved
loop-row-preserved c =
    let lt : c.loop-row.row < length c.args.case.now.generators = omega arith in
    let at_row : c.loop-row.row + 1 - 1 ≡ c.loop-row.row = omega arith in
    let reads : unit_row c.args.places.now.entries (c.loop-row.row + 1) (get_or c.args.case.now.generators c.loop-row.row []) ≡ Ok c.in_ok-unit.unit =
    rw at_row at (sym c.read_unit.ensures.is ∙ c.in_ok-unit.was) in
    let here = c.loop-row.invariant.is ∙ gather-step (λ _. unit_row c.args.places.now.entries) c.loop-row.units (c.loop-row.row + 1) c.args.case.now.generators c.loop-row.row c.in_ok-unit.unit lt reads in
    let added = c.in_ok-push_some.ensures in
    record {
      count = omega (arith, ap length added, length-listed c.loop-row.units c.in_ok-unit.unit);
      units = λ buses places. rw added (All-listed (IsNetUnit buses) c.loop-row.units c.in_ok-unit.unit (c.loop-row.invariant.units buses places) (c.in_ok-unit.ensures.unit buses places));
      rows = rw added (rows-listed (λ (u : NetUnit). u.row) c.loop-row.units c.in_ok-unit.unit c.loop-row.row c.loop-row.invariant.rows c.in_ok-unit.ensures.row);
      is = rw added here;
    }

pub returns-clause-is : goal.returns-clause-is
returns-clause-is c =
    let le : length c.args.case.now.generators ≤ c.loop-row.row = omega arith in
    λ _. sym (c.loop-row.invariant.is ∙ gather-end (λ _. unit_row c.args.places.now.entries) c.loop-row.units (c.loop-row.row + 1) c.args.case.now.generators c.loop-row.row le)
