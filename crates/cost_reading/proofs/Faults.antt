-- Cells that can't be read, as faults of their row.
use Rattle.std.specs.Prelude.{◌≡◌, ℕ, ◌+◌, ◌*◌, ◌<◌, ◌≤◌, Option, Some, None}
use Rattle.std.proofs.Common.{arith, inl, inr, refl}
use Rattle.std.proofs.lemmas.Bool.Decides.{nat_tests}
use Rattle.record_reading.specs.Records.{Record}
use Rattle.cost_reading.specs.declared.RowFault.{RowFault}
use Rattle.cost_reading.specs.CostRows.{HasCount, HasModel, IsReadTo, IsRowFault, degree_column, degree_places}
use Rattle.cost_reading.specs.Cells.{IsCoefficientFault, IsCountFault, IsHigherFault, IsMisread, IsPointFault}

-- a column that is read
pub of_read : (r : Record) (col : ℕ) (places : Option ℕ) (f : RowFault) → IsReadTo r col places → IsMisread r col places f → IsRowFault r f
of_read r col places f to (e, is, fails) = rw is (places, to, fails)

pub of_model : (r : Record) (f : RowFault) → IsMisread r 1 (Some 0) f → IsRowFault r f
of_model r f bad = of_read r 1 (Some 0) f (inl (refl, refl)) bad

of_told : (r : Record) (f : RowFault) → IsMisread r 4 (Some 0) f → IsRowFault r f
of_told r f bad = of_read r 4 (Some 0) f (inr (inl (refl, refl))) bad

-- NCOST, of points and of coefficients
pub of_points_count : (r : Record) (f : RowFault) → HasModel r 1 → IsCountFault r 2 2 f → IsRowFault r f
of_points_count r f model (inl bad) = of_told r f bad
of_points_count r f model (inr (is, none)) = rw is (inl (model, none))

pub of_coefficients_count : (r : Record) (f : RowFault) → HasModel r 2 → IsCountFault r 1 1 f → IsRowFault r f
of_coefficients_count r f model (inl bad) = of_told r f bad
of_coefficients_count r f model (inr (is, none)) = rw is (inr (model, none))

-- a parameter of points
of_parameter : (r : Record) (n i col : ℕ) (f : RowFault) → HasModel r 1 → HasCount r 2 2 n → i < n * 2 → col ≡ 5 + i → IsMisread r col (Some 9) f → IsRowFault r f
of_parameter r n i col f model count inside is bad = of_read r col (Some 9) f (inr (inr (inl (n, i, model, count, inside, is, refl)))) bad

pub of_point : (r : Record) (n i : ℕ) (f : RowFault) → HasModel r 1 → HasCount r 2 2 n → i < n → IsPointFault r i f → IsRowFault r f
of_point r n i f model count inside (inl bad) = of_parameter r n (i * 2) (5 + i * 2) f model count (omega arith) refl bad
of_point r n i f model count inside (inr bad) = of_parameter r n (i * 2 + 1) (6 + i * 2) f model count (omega arith) (omega arith) bad

-- a coefficient
pub of_coefficient : (r : Record) (n degree : ℕ) (places : Option ℕ) (f : RowFault) → HasModel r 2 → HasCount r 1 1 n → places ≡ degree_places degree → IsCoefficientFault r n degree places f → IsRowFault r f
of_coefficient r n degree places f model count is bad =
    of_read r (degree_column n degree) places f (inr (inr (inr (n, degree, model, count, bad.given, refl, is)))) bad.misread

no_places : (degree : ℕ) → 3 ≤ degree → None ≡ degree_places degree
no_places degree high = grind (arith, nat_tests)

pub of_higher : (r : Record) (n : ℕ) (f : RowFault) → HasModel r 2 → HasCount r 1 1 n → IsHigherFault r n f → IsRowFault r f
of_higher r n f model count (degree, high, inl bad) = of_coefficient r n degree None f model count (no_places degree high) bad
of_higher r n f model count (degree, high, inr bad) = rw bad.told (n, degree, model, count, high, bad.given, bad.other.0, bad.other.1, bad.other.2)

-- the constant
pub of_constant : (r : Record) (n : ℕ) (f : RowFault) → HasModel r 2 → HasCount r 1 1 n → IsMisread r (degree_column n 0) None f → IsRowFault r f
of_constant r n f model count bad = of_coefficient r n 0 None f model count refl (record { given = count.enough; misread = bad })
