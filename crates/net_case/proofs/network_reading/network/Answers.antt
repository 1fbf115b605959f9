use Rattle.std.proofs.Common.{rules, ◌≡◌, ◌≢◌, ◌∙◌, sym, ap, length, arith, refl, Ok, Err, []}
use Rattle.market_data.specs.Scales.{most_buses, most_units}
use Rattle.record_reading.specs.Gathering.{gather}
use Rattle.net_case.specs.NetworkReading.{few_rows, network_of, branch_count, branches_in, unit_row}
use Rattle.net_case.specs.declared.live_parts.NetFault.TheVariants as fault
use Rattle.case_text.specs.declared.Field.TheVariants as field
use Rattle.net_case.proofs.BusLemmas.{places-within}
use Rattle.net_case.proofs.PlaceLemmas.{distinct-numbers, live-numbers}
use Rattle.net_case.proofs.network_reading.network.Goals as goal

pub invariant_of-result : goal.invariant_of-result
invariant_of-result c =
    let buses = c.in_ok-rows.rows.buses in
    let rows = c.in_ok-rows.ensures.rows in
    record {
      bus_count = omega (arith, c.in_ok-rows.ensures.count, c.in_ok-row_count.ensures.few.0, c.in_ok-row_count.ensures.few.1);
      unit_count = omega (arith, c.in_ok-units.ensures.count, c.in_ok-gen_rows.ensures.few.0);
      branch_count = omega (arith, c.in_ok-branches.ensures.count, c.in_ok-branch_rows.ensures.few);
      gen_count = c.in_ok-gen_rows.ensures.few.0;
      branch_row_count = c.in_ok-branch_rows.ensures.few;
      buses = rows.buses;
      numbers = live-numbers buses c.in_ok-rows.rows.places.entries rows.places;
      distinct = distinct-numbers buses c.in_ok-rows.rows.places.entries rows.places;
      units = c.in_ok-units.ensures.units (length buses) (places-within buses c.in_ok-rows.rows.places.entries rows.places);
      unit_rows = c.in_ok-units.ensures.rows;
      branches = c.in_ok-branches.ensures.branches (length buses) (places-within buses c.in_ok-rows.rows.places.entries rows.places);
      rows_of_branches = c.in_ok-branches.ensures.rows;
      reference = rows.reference;
      bus_rows = rows.places;
    }

pub returns-clause-network : goal.returns-clause-network
returns-clause-network c =
    let buses = c.in_ok-rows.rows.buses in
    let rows = c.in_ok-rows.ensures.rows in
    record {
      bus_count = omega (arith, c.in_ok-rows.ensures.count, c.in_ok-row_count.ensures.few.0, c.in_ok-row_count.ensures.few.1);
      unit_count = omega (arith, c.in_ok-units.ensures.count, c.in_ok-gen_rows.ensures.few.0);
      branch_count = omega (arith, c.in_ok-branches.ensures.count, c.in_ok-branch_rows.ensures.few);
      gen_count = c.in_ok-gen_rows.ensures.few.0;
      branch_row_count = c.in_ok-branch_rows.ensures.few;
      buses = rows.buses;
      numbers = live-numbers buses c.in_ok-rows.rows.places.entries rows.places;
      distinct = distinct-numbers buses c.in_ok-rows.rows.places.entries rows.places;
      units = c.in_ok-units.ensures.units (length buses) (places-within buses c.in_ok-rows.rows.places.entries rows.places);
      unit_rows = c.in_ok-units.ensures.rows;
      branches = c.in_ok-branches.ensures.branches (length buses) (places-within buses c.in_ok-rows.rows.places.entries rows.places);
      rows_of_branches = c.in_ok-branches.ensures.rows;
      reference = rows.reference;
      bus_rows = rows.places;
    }

pub returns-clause-is : goal.returns-clause-is
unfolding network_of
returns-clause-is c =
    let buses : few_rows most_buses field.Bus c.args.case.now.bus ≡ Ok c.in_ok-row_count.field-0 = sym c.row_count.ensures.is ∙ c.in_ok-row_count.was in
    let rows : few_rows most_units field.Gen c.args.case.now.generators ≡ Ok c.in_ok-gen_rows.gen_rows = sym c.row_count-2.ensures.is ∙ c.in_ok-gen_rows.was in
    let counted : branch_count c.args.branches c.args.case.now.branch ≡ Ok c.in_ok-branch_rows.branch_rows = sym c.count_branches.ensures.is ∙ c.in_ok-branch_rows.was in
    let held = c.in_ok-rows.ensures.is in
    let done : c.read_units.result ≢ Err fault.Memory = λ h. cc (h, c.in_ok-units.was) in
    let units : gather (λ _. unit_row c.in_ok-rows.rows.places.entries) [] 1 c.args.case.now.generators ≡ Ok c.in_ok-units.units = sym (c.read_units.ensures.is done) ∙ c.in_ok-units.was in
    let made : c.read_branches.result ≢ Err fault.Memory = λ h. cc (h, c.in_ok-branches.was) in
    let live : branches_in c.args.branches c.in_ok-rows.rows.places.entries c.args.case.now.branch ≡ Ok c.in_ok-branches.branches = sym (c.read_branches.ensures.is made) ∙ c.in_ok-branches.was in
    λ _. rw (buses, rows, counted, held.read, ← held.places, ← held.buses, units, live) refl

pub returns-in_err-units-clause-is : goal.returns-in_err-units-clause-is
unfolding network_of
returns-in_err-units-clause-is c =
    let buses : few_rows most_buses field.Bus c.args.case.now.bus ≡ Ok c.in_ok-row_count.field-0 = sym c.row_count.ensures.is ∙ c.in_ok-row_count.was in
    let rows : few_rows most_units field.Gen c.args.case.now.generators ≡ Ok c.in_ok-gen_rows.gen_rows = sym c.row_count-2.ensures.is ∙ c.in_ok-gen_rows.was in
    let counted : branch_count c.args.branches c.args.case.now.branch ≡ Ok c.in_ok-branch_rows.branch_rows = sym c.count_branches.ensures.is ∙ c.in_ok-branch_rows.was in
    let held = c.in_ok-rows.ensures.is in
    let given : c.from_residual-in_err-units.result ≡ Err c.in_err-units.field-0.0 = search rules in
    λ made.
    let done : c.read_units.result ≢ Err fault.Memory = λ h. let is : c.in_err-units.field-0.0 ≡ fault.Memory = cc (h, c.in_err-units.was) in made (given ∙ ap Err is) in
    let units : gather (λ _. unit_row c.in_ok-rows.rows.places.entries) [] 1 c.args.case.now.generators ≡ Err c.in_err-units.field-0.0 = sym (c.read_units.ensures.is done) ∙ c.in_err-units.was in
    rw (given, buses, rows, counted, held.read, ← held.places, units) refl

pub returns-in_err-branches-clause-is : goal.returns-in_err-branches-clause-is
unfolding network_of
returns-in_err-branches-clause-is c =
    let buses : few_rows most_buses field.Bus c.args.case.now.bus ≡ Ok c.in_ok-row_count.field-0 = sym c.row_count.ensures.is ∙ c.in_ok-row_count.was in
    let rows : few_rows most_units field.Gen c.args.case.now.generators ≡ Ok c.in_ok-gen_rows.gen_rows = sym c.row_count-2.ensures.is ∙ c.in_ok-gen_rows.was in
    let counted : branch_count c.args.branches c.args.case.now.branch ≡ Ok c.in_ok-branch_rows.branch_rows = sym c.count_branches.ensures.is ∙ c.in_ok-branch_rows.was in
    let held = c.in_ok-rows.ensures.is in
    let done : c.read_units.result ≢ Err fault.Memory = λ h. cc (h, c.in_ok-units.was) in
    let units : gather (λ _. unit_row c.in_ok-rows.rows.places.entries) [] 1 c.args.case.now.generators ≡ Ok c.in_ok-units.units = sym (c.read_units.ensures.is done) ∙ c.in_ok-units.was in
    let given : c.from_residual-in_err-branches.result ≡ Err c.in_err-branches.field-0.0 = search rules in
    λ made.
    let read : c.read_branches.result ≢ Err fault.Memory = λ h. let is : c.in_err-branches.field-0.0 ≡ fault.Memory = cc (h, c.in_err-branches.was) in made (given ∙ ap Err is) in
    let live : branches_in c.args.branches c.in_ok-rows.rows.places.entries c.args.case.now.branch ≡ Err c.in_err-branches.field-0.0 = sym (c.read_branches.ensures.is read) ∙ c.in_err-branches.was in
    rw (given, buses, rows, counted, held.read, ← held.places, units, live) refl
