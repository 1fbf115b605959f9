use Rattle.std.proofs.Common.{◌<◌, ◌≡◌, ◌∙◌, [], ℕ, ℤ, List, None, ap, length, subst, sym}
use Rattle.std.specs.Prelude.{slice_index_or}
use Rattle.dc_network.specs.DcNetworks.{dc_network}
use Rattle.factor_maker.specs.Columns.{AreColumns}
use Rattle.factor_maker.proofs.ColumnSteps.{shift_stopped}
use Rattle.factor_maker.proofs.Records.{columns_count, shift_records_apart, shift_records_small, shift_table}
use Rattle.factor_maker.proofs.shifting.make_shift.Goals as goal

pub returns-in-Err-clause-stop : goal.returns-in-Err-clause-stop
returns-in-Err-clause-stop c =
    shift_stopped _ 170141183460469231731687303715884105727 c.args.network.now c.args.reactances.now c.len.result c.len-2.result (c.len.ensures ∙ ap length c.branches.ensures.list)
    (c.len-2.ensures ∙ ap length c.buses.ensures.list) c.in_ok-check_count.ensures.few c.in_ok-check_positive.ensures.positive c.in-Err.stop c.flow_stop.result c.flow_stop.ensures c.in-Err.ensures.stop

pub records_of-requires-clause-units : goal.records_of-requires-clause-units
records_of-requires-clause-units c =
    subst (λ (columns : List (List ℤ)). (i : ℕ) → i < length columns → length (slice_index_or columns i []) ≡ length c.args.network.now.branches) (sym c.slice.ensures)
    (columns_count c.args.network.now c.args.reactances.now c.args.places c.in-Ok.columns c.in-Ok.ensures.columns.1)

pub of-requires-clause-once : goal.of-requires-clause-once
of-requires-clause-once c =
    let network = c.args.network.now in
    let xs = c.args.reactances.now in
    shift_records_apart network xs c.args.places c.branches.ensures.network c.requires.reactances c.in_ok-check_positive.ensures.positive c.requires.joined c.slice.result.now c.slice-2.result.now
    (ap length c.slice.ensures ∙ c.in-Ok.ensures.columns.0) (subst (AreColumns (dc_network network xs None) network.reference c.args.places) (sym c.slice.ensures) c.in-Ok.ensures.columns.1)
    (c.slice-2.ensures ∙ c.in_ok-records.ensures)

pub of-requires-clause-sizes : goal.of-requires-clause-sizes
of-requires-clause-sizes c =
    let network = c.args.network.now in
    let xs = c.args.reactances.now in
    shift_records_small network xs c.args.places c.branches.ensures.network c.requires.reactances c.in_ok-check_positive.ensures.positive c.requires.joined c.slice.result.now c.slice-2.result.now
    (ap length c.slice.ensures ∙ c.in-Ok.ensures.columns.0) (subst (AreColumns (dc_network network xs None) network.reference c.args.places) (sym c.slice.ensures) c.in-Ok.ensures.columns.1)
    (c.slice-2.ensures ∙ c.in_ok-records.ensures)

pub returns-clause-made : goal.returns-clause-made
returns-clause-made c =
    let network = c.args.network.now in
    let xs = c.args.reactances.now in
    shift_table network xs c.args.places c.branches.ensures.network c.requires.reactances c.in_ok-check_positive.ensures.positive c.requires.joined c.slice.result.now c.slice-2.result.now
    (ap length c.slice.ensures ∙ c.in-Ok.ensures.columns.0) (subst (AreColumns (dc_network network xs None) network.reference c.args.places) (sym c.slice.ensures) c.in-Ok.ensures.columns.1)
    (c.slice-2.ensures ∙ c.in_ok-records.ensures) c.in_ok-of.field-0 c.in_ok-of.ensures
