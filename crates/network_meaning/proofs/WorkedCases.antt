-- Worked cases are read, or refused, by computation.
use Rattle.std.proofs.Common.{◌≡◌, [], ◌∷◌, refl, sym, ◌∙◌, Ok, Err, codes}
use Rattle.scaled_decimal.specs.declared.DecimalFault.TheVariants.{NotFinite, TooFine}
use Rattle.scaled_decimal.specs.Reading.{units_of, units_in, whole_number, decimal_in, sign_in}
use Rattle.record_reading.specs.Gathering.{gather}
use Rattle.record_reading.specs.declared.Why.TheVariants as why
use Rattle.case_text.specs.Matrices.{CaseMatrices}
use Rattle.case_text.specs.declared.Field.TheVariants as field
use Rattle.net_case.specs.declared.live_parts.Branches.TheVariants.{Read, Skip}
use Rattle.net_case.specs.declared.live_parts.NetFault.{NetFault}
use Rattle.net_case.specs.declared.live_parts.NetFault.TheVariants as fault
use Rattle.net_case.specs.declared.live_parts.PostRating.TheVariants as post
use Rattle.net_case.specs.NetworkReading.{network_of, few_rows, bus_rows, bus_row_after, counted_in, row_of_type, demands_in, place_of_number, unit_row, unit_where, bounds_in, branch_row, branch_where, limits_in, limit_in, rated_limit, shifted_in}
use Rattle.network_meaning.specs.Worked.{cells, worked, worked_network, worked_pool, with_rows, some_bus, some_unit, some_branch, first_unit, first_branch, HasNone, WorkedCases}
use Rattle.network_meaning.proofs.NetworksRead.{network-read, read-network}

network-is : network_of (Read post.B) worked ≡ Ok worked_network
unfolding network_of few_rows bus_rows gather bus_row_after counted_in row_of_type demands_in place_of_number unit_row unit_where bounds_in branch_row branch_where limits_in limit_in rated_limit shifted_in units_of units_in whole_number decimal_in sign_in
network-is = refl

pool-is : network_of Skip worked ≡ Ok worked_pool
unfolding network_of few_rows bus_rows gather bus_row_after counted_in row_of_type demands_in place_of_number unit_row unit_where bounds_in branch_row branch_where limits_in limit_in rated_limit shifted_in units_of units_in whole_number decimal_in sign_in
pool-is = refl

bus_twice-refused : network_of (Read post.C) (with_rows (cells (codes "7.0 1 0 0 0 0 1 1 0 230 1 1.1 0.9")) first_unit first_branch) ≡ Err (fault.BusTwice 2)
unfolding network_of few_rows bus_rows gather bus_row_after counted_in row_of_type demands_in place_of_number unit_row unit_where bounds_in branch_row branch_where limits_in limit_in rated_limit shifted_in units_of units_in whole_number decimal_in sign_in
bus_twice-refused = refl

part_number-refused : network_of (Read post.C) (with_rows (cells (codes "8.5 1 0 0 0 0 1 1 0 230 1 1.1 0.9")) first_unit first_branch) ≡ Err (fault.Cell field.Bus 2 1 (why.Decimal TooFine))
unfolding network_of few_rows bus_rows gather bus_row_after counted_in row_of_type demands_in place_of_number unit_row unit_where bounds_in branch_row branch_where limits_in limit_in rated_limit shifted_in units_of units_in whole_number decimal_in sign_in
part_number-refused = refl

large_number-refused : network_of (Read post.C) (with_rows (cells (codes "2147483648 1 0 0 0 0 1 1 0 230 1 1.1 0.9")) first_unit first_branch) ≡ Err (fault.Cell field.Bus 2 1 why.Bounds)
unfolding network_of few_rows bus_rows gather bus_row_after counted_in row_of_type demands_in place_of_number unit_row unit_where bounds_in branch_row branch_where limits_in limit_in rated_limit shifted_in units_of units_in whole_number decimal_in sign_in
large_number-refused = refl

unknown_type-refused : network_of (Read post.C) (with_rows (cells (codes "8 5 0 0 0 0 1 1 0 230 1 1.1 0.9")) some_unit some_branch) ≡ Err (fault.Cell field.Bus 2 2 why.Bounds)
unfolding network_of few_rows bus_rows gather bus_row_after counted_in row_of_type demands_in place_of_number unit_row unit_where bounds_in branch_row branch_where limits_in limit_in rated_limit shifted_in units_of units_in whole_number decimal_in sign_in
unknown_type-refused = refl

fine_load-refused : network_of (Read post.C) (with_rows (cells (codes "8 1 0.0000000005 0 0 0 1 1 0 230 1 1.1 0.9")) some_unit some_branch) ≡ Err (fault.Cell field.Bus 2 3 (why.Decimal TooFine))
unfolding network_of few_rows bus_rows gather bus_row_after counted_in row_of_type demands_in place_of_number unit_row unit_where bounds_in branch_row branch_where limits_in limit_in rated_limit shifted_in units_of units_in whole_number decimal_in sign_in
fine_load-refused = refl

no_reference-refused : network_of (Read post.C) (record { bus = some_bus ∷ []; generators = []; branch = [] }) ≡ Err (fault.NoReference)
unfolding network_of few_rows bus_rows gather bus_row_after counted_in row_of_type demands_in place_of_number unit_row unit_where bounds_in branch_row branch_where limits_in limit_in rated_limit shifted_in units_of units_in whole_number decimal_in sign_in
no_reference-refused = refl

no_bus-refused : network_of (Read post.C) (with_rows some_bus (cells (codes "9 0 0 0 0 1 100 0 100 0")) some_branch) ≡ Err (fault.NoBus field.Gen 1)
unfolding network_of few_rows bus_rows gather bus_row_after counted_in row_of_type demands_in place_of_number unit_row unit_where bounds_in branch_row branch_where limits_in limit_in rated_limit shifted_in units_of units_in whole_number decimal_in sign_in
no_bus-refused = refl

no_end-refused : network_of (Read post.C) (with_rows some_bus some_unit (cells (codes "7 9 0 0.2 0 0 0 0 0 0 0"))) ≡ Err (fault.NoBus field.Branch 1)
unfolding network_of few_rows bus_rows gather bus_row_after counted_in row_of_type demands_in place_of_number unit_row unit_where bounds_in branch_row branch_where limits_in limit_in rated_limit shifted_in units_of units_in whole_number decimal_in sign_in
no_end-refused = refl

least_above_most-refused : network_of (Read post.C) (with_rows some_bus (cells (codes "8 0 0 0 0 1 100 1 100 100.5")) some_branch) ≡ Err (fault.MinAboveMax 1)
unfolding network_of few_rows bus_rows gather bus_row_after counted_in row_of_type demands_in place_of_number unit_row unit_where bounds_in branch_row branch_where limits_in limit_in rated_limit shifted_in units_of units_in whole_number decimal_in sign_in
least_above_most-refused = refl

one_end-refused : network_of (Read post.C) (with_rows some_bus some_unit (cells (codes "8 8 0 0.2 0 0 0 0 0 0 1"))) ≡ Err (fault.SameEnds 1)
unfolding network_of few_rows bus_rows gather bus_row_after counted_in row_of_type demands_in place_of_number unit_row unit_where bounds_in branch_row branch_where limits_in limit_in rated_limit shifted_in units_of units_in whole_number decimal_in sign_in
one_end-refused = refl

below_zero-refused : network_of (Read post.C) (with_rows some_bus some_unit (cells (codes "7 8 0 0.2 0 -40 0 0 0 0 1"))) ≡ Err (fault.Cell field.Branch 1 6 why.Bounds)
unfolding network_of few_rows bus_rows gather bus_row_after counted_in row_of_type demands_in place_of_number unit_row unit_where bounds_in branch_row branch_where limits_in limit_in rated_limit shifted_in units_of units_in whole_number decimal_in sign_in
below_zero-refused = refl

below_all-refused : network_of (Read post.C) (with_rows some_bus some_unit (cells (codes "7 8 0 0.2 0 0 0 -Inf 0 0 1"))) ≡ Err (fault.Cell field.Branch 1 8 why.Bounds)
unfolding network_of few_rows bus_rows gather bus_row_after counted_in row_of_type demands_in place_of_number unit_row unit_where bounds_in branch_row branch_where limits_in limit_in rated_limit shifted_in units_of units_in whole_number decimal_in sign_in
below_all-refused = refl

not_a_number-refused : network_of (Read post.C) (with_rows some_bus some_unit (cells (codes "7 8 0 0.2 0 NaN 0 0 0 0 1"))) ≡ Err (fault.Cell field.Branch 1 6 (why.Decimal NotFinite))
unfolding network_of few_rows bus_rows gather bus_row_after counted_in row_of_type demands_in place_of_number unit_row unit_where bounds_in branch_row branch_where limits_in limit_in rated_limit shifted_in units_of units_in whole_number decimal_in sign_in
not_a_number-refused = refl

none : (case : CaseMatrices) (why : NetFault) → network_of (Read post.C) case ≡ Err why → HasNone case
none case why refused network h = let e : Ok network ≡ Err why = sym (read-network (Read post.C) case network h) ∙ refused in cc e

pub worked-cases : WorkedCases
worked-cases = record {
  network = network-read (Read post.B) worked worked_network network-is;
  pool = network-read Skip worked worked_pool pool-is;
  bus_twice = none (with_rows (cells (codes "7.0 1 0 0 0 0 1 1 0 230 1 1.1 0.9")) first_unit first_branch) (fault.BusTwice 2) bus_twice-refused;
  part_number = none (with_rows (cells (codes "8.5 1 0 0 0 0 1 1 0 230 1 1.1 0.9")) first_unit first_branch) (fault.Cell field.Bus 2 1 (why.Decimal TooFine)) part_number-refused;
  large_number = none (with_rows (cells (codes "2147483648 1 0 0 0 0 1 1 0 230 1 1.1 0.9")) first_unit first_branch) (fault.Cell field.Bus 2 1 why.Bounds) large_number-refused;
  unknown_type = none (with_rows (cells (codes "8 5 0 0 0 0 1 1 0 230 1 1.1 0.9")) some_unit some_branch) (fault.Cell field.Bus 2 2 why.Bounds) unknown_type-refused;
  fine_load = none (with_rows (cells (codes "8 1 0.0000000005 0 0 0 1 1 0 230 1 1.1 0.9")) some_unit some_branch) (fault.Cell field.Bus 2 3 (why.Decimal TooFine)) fine_load-refused;
  no_reference = none (record { bus = some_bus ∷ []; generators = []; branch = [] }) (fault.NoReference) no_reference-refused;
  no_bus = none (with_rows some_bus (cells (codes "9 0 0 0 0 1 100 0 100 0")) some_branch) (fault.NoBus field.Gen 1) no_bus-refused;
  no_end = none (with_rows some_bus some_unit (cells (codes "7 9 0 0.2 0 0 0 0 0 0 0"))) (fault.NoBus field.Branch 1) no_end-refused;
  least_above_most = none (with_rows some_bus (cells (codes "8 0 0 0 0 1 100 1 100 100.5")) some_branch) (fault.MinAboveMax 1) least_above_most-refused;
  one_end = none (with_rows some_bus some_unit (cells (codes "8 8 0 0.2 0 0 0 0 0 0 1"))) (fault.SameEnds 1) one_end-refused;
  below_zero = none (with_rows some_bus some_unit (cells (codes "7 8 0 0.2 0 -40 0 0 0 0 1"))) (fault.Cell field.Branch 1 6 why.Bounds) below_zero-refused;
  below_all = none (with_rows some_bus some_unit (cells (codes "7 8 0 0.2 0 0 0 -Inf 0 0 1"))) (fault.Cell field.Branch 1 8 why.Bounds) below_all-refused;
  not_a_number = none (with_rows some_bus some_unit (cells (codes "7 8 0 0.2 0 NaN 0 0 0 0 1"))) (fault.Cell field.Branch 1 6 (why.Decimal NotFinite)) not_a_number-refused;
}
