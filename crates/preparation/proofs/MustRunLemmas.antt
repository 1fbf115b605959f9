-- The sum of what units put out, one unit more.
use Rattle.std.proofs.Common.{◌≡◌, ◌<◌, ◌≤◌, ◌+◌, ◌*◌, ◌^◌, ◌∙◌, ℕ, ℤ, pos, negsuc, ◌+ℤ◌, List, length, take, get_or, sym, ap, ap₂, subst, arith, w64}
use Rattle.std.specs.Int.{w128}
use Rattle.std.specs.Prelude.{◌≤ℤ◌, unsigned_abs}
use mir.Val.{to_z, of_z}
use Rattle.std.proofs.lemmas.Int.{ints, to_z-of_z, fits_signed_from_abs}
use Rattle.market_data.proofs.WholeSumLaws.{int_sum_more}
use Rattle.market_data.specs.WholeSums.{int_sum}
use Rattle.market_data.specs.declared.participants.Unit as unit
use Rattle.preparation.specs.Lines.{must_run_of}

-- the sum of so many units, each of which puts out less than 2^63
pub record SumSoFar (units : List unit.Unit) (i : ℕ) (sum : ℤ) : Type 0 where
  pub is : sum ≡ int_sum must_run_of (take i units)
  pub least : pos 0 ≤ℤ sum
  pub most : sum ≤ℤ pos (i * 9223372036854775808)

sum-more : (units : List unit.Unit) (i : ℕ) (d : unit.Unit) (sum term : ℤ) → i < length units → SumSoFar units i sum → term ≡ must_run_of (get_or units i d) → pos 0 ≤ℤ term → term ≤ℤ pos 9223372036854775808
    → SumSoFar units (i + 1) (sum +ℤ term)
sum-more units i d sum term lt so is least most = record {
  is = ap₂ ◌+ℤ◌ so.is is ∙ sym (int_sum_more must_run_of units i d lt);
  least = omega (arith, ints, so.least, least);
  most = omega (arith, ints, so.most, most);
}

-- numbers that machine numbers hold
narrow : (z : ℤ) → unsigned_abs z < 9223372036854775808 → to_z w64 (of_z w64 z) ≡ z
narrow z h = to_z-of_z w64 z (fits_signed_from_abs w64 z h)

wide : (z : ℤ) → unsigned_abs z < 170141183460469231731687303715884105728 → to_z w128 (of_z w128 z) ≡ z
wide z h = to_z-of_z w128 z (fits_signed_from_abs w128 z h)

size-of : (z : ℤ) (n : ℕ) → pos 0 ≤ℤ z → z ≤ℤ pos n → unsigned_abs z ≤ n
size-of (pos k) n least most = omega (arith, ints, most)
size-of (negsuc k) n least most = absurd (omega (arith, ints, least))

most-of : (z : ℤ) (n : ℕ) → unsigned_abs z < n → z ≤ℤ pos n
most-of (pos k) n h = omega (arith, ints, h)
most-of (negsuc k) n h = omega (arith, ints)

-- the sum as the machine makes it
pub sum-step : (units : List unit.Unit) (i : ℕ) (d : unit.Unit) (sum term told : ℤ) → length units < 18446744073709551616 → i < length units → SumSoFar units i sum
    → term ≡ must_run_of (get_or units i d) → pos 0 ≤ℤ term → unsigned_abs term < 9223372036854775808 → told ≡ to_z w64 (of_z w64 term)
    → SumSoFar units (i + 1) (to_z w128 (of_z w128 (sum +ℤ to_z w128 (of_z w128 told))))
sum-step units i d sum term told few lt so is least size told_is =
    let most = most-of term 9223372036854775808 size in
    let next = sum-more units i d sum term lt so is least most in
    let one : told ≡ term = told_is ∙ narrow term size in
    let two : to_z w128 (of_z w128 told) ≡ term = ap (λ z. to_z w128 (of_z w128 z)) one ∙ wide term (omega (arith, size)) in
    let both : to_z w128 (of_z w128 (sum +ℤ term)) ≡ sum +ℤ term = wide (sum +ℤ term) (omega (arith, size-of (sum +ℤ term) ((i + 1) * 9223372036854775808) next.least next.most, lt, few)) in
    subst (SumSoFar units (i + 1)) (sym (ap (λ z. to_z w128 (of_z w128 (sum +ℤ z))) two ∙ both)) next
