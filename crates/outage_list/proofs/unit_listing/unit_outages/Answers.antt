use Rattle.std.proofs.Common.{rules, ◌≡◌, ◌∙◌, sym, ap, Some, Err, [], refl}
use Rattle.record_reading.specs.Gathering.{read_records}
use Rattle.record_reading.specs.Steps.{and_then}
use Rattle.market_data.specs.Scales.{most_pickups}
use Rattle.csv_table.proofs.Framed.{framed-fault, framed-fits}
use Rattle.outage_list.specs.declared.unit_fault.UnitOutageFault.TheVariants as fault
use Rattle.outage_list.specs.PickupRecords.{unit_pickup_in}
use Rattle.outage_list.specs.UnitListing.{listed_by, unit_outage_header, unit_outages_of}
use Rattle.outage_list.proofs.unit_listing.unit_outages.Goals as goal

pub returns-in_err-table-clause-is : goal.returns-in_err-table-clause-is
unfolding unit_outages_of
returns-in_err-table-clause-is c =
    let given : c.from_residual-in_err-table.result ≡ Err (fault.Frame c.in_err-table.field-0.0) = search rules in
    λ _. rw (given, framed-fault fault.Frame (read_records (unit_pickup_in c.args.network.now) [] 2) (Some most_pickups) c.args.bytes.now unit_outage_header _ c.in_err-table.field-0.0 refl (sym c.in_err-table.was ∙ c.in_ok-read_table.ensures.is)) refl

pub returns-in_err-unit_pickups-clause-is : goal.returns-in_err-unit_pickups-clause-is
unfolding unit_outages_of
returns-in_err-unit_pickups-clause-is c =
    let fits = framed-fits fault.Frame (read_records (unit_pickup_in c.args.network.now) [] 2) (Some most_pickups) c.args.bytes.now unit_outage_header _ _ refl (sym c.in_ok-table.was ∙ c.in_ok-read_table.ensures.is) in
    let given : c.from_residual-in_err-unit_pickups.result ≡ Err c.in_err-unit_pickups.field-0.0 = search rules in
    λ other. rw (given, fits, c.in_err-unit_pickups.ensures.err (λ m. other (given ∙ ap Err m))) refl

pub returns-clause-is : goal.returns-clause-is
unfolding unit_outages_of
returns-clause-is c =
    let fits = framed-fits fault.Frame (read_records (unit_pickup_in c.args.network.now) [] 2) (Some most_pickups) c.args.bytes.now unit_outage_header _ _ refl (sym c.in_ok-table.was ∙ c.in_ok-read_table.ensures.is) in
    λ other. c.listed_by.ensures.is other ∙ ap (listed_by c.args.network.now) c.slice.ensures
    ∙ sym (ap (λ r. and_then r (listed_by c.args.network.now)) (fits ∙ c.in_ok-unit_pickups.ensures.ok))
