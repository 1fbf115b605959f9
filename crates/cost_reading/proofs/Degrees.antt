-- Coefficients by their columns.
use Rattle.std.specs.Prelude.{◌≡◌, ◌≢◌, ◌⊎◌, ℕ, ◌<◌, ℤ, Result, Ok, Err, Some, MatchResult}
use Rattle.std.proofs.Common.{arith, inl, inr, refl, subst}
use Rattle.record_reading.specs.Records.{Record}
use Rattle.fraction_theory.specs.declared.Sign.{Sign}
use Rattle.fraction_theory.specs.declared.Sign.TheVariants as sign
use Rattle.cost_reading.specs.declared.RowFault.{RowFault}
use Rattle.cost_reading.specs.declared.RowFault.TheVariants as row_fault
use Rattle.cost_reading.specs.CostRows.{HasCount, HasModel, IsCoefficient, IsPolynomial, Says, degree_column}
use Rattle.cost_reading.specs.Cells.{AreFactors, IsCoefficientFault, IsMisread, IsOther, IsSign}

-- the coefficient of a degree that there is, or why its cell has none
pub given : (r : Record) (n degree places col : ℕ) (read : Result ℤ RowFault) → degree < n → col ≡ degree_column n degree →
    MatchResult read (Says r col places) (IsMisread r col (Some places)) →
    MatchResult read (IsCoefficient r n degree places) (IsCoefficientFault r n degree (Some places))
given r n degree places col (Ok value) inside is says = record {
  given = λ _. subst (λ (col : ℕ). Says r col places value) is says;
  absent = λ out. absurd (omega arith);
}
given r n degree places col (Err f) inside is bad = record {
  given = inside;
  misread = subst (λ (col : ℕ). IsMisread r col (Some places) f) is bad;
}

pub not_zero : (s : Sign) → (s ≡ sign.Below) ⊎ (s ≡ sign.Above) → s ≢ sign.Zero
not_zero s (inl below) zero = cc
not_zero s (inr above) zero = cc

-- a coefficient that is not 0
pub other : (r : Record) (n degree col : ℕ) (s : Sign) → degree < n → col ≡ degree_column n degree → IsSign r col s → s ≢ sign.Zero → IsOther r n degree row_fault.Degree
other r n degree col s inside is says not = record {
  given = inside;
  told = refl;
  other = (s, subst (λ (col : ℕ). IsSign r col s) is says, not);
}

-- the factors of the coefficients that are counted
pub polynomial : (r : Record) (n : ℕ) (square linear : ℤ) → HasModel r 2 → HasCount r 1 1 n → AreFactors r n square linear → IsPolynomial r square linear
polynomial r n square linear model count found = record {
  n = n;
  model = model;
  count = count;
  second = found.second;
  first = found.first;
  constant = found.constant;
  higher = found.higher;
}
