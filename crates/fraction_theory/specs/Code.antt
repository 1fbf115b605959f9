-- A fraction as a value that a model may hold.
use Rattle.std.specs.Prelude.{◌≡◌, ℕ, ◌/◌, ◌<◌, ℤ, pos, negsuc, unsigned_abs, int_div, neg_ℤ}
use Rattle.std.specs.Int.{IsGcd}
use Rattle.std.specs.Coded.{Coded, code_by, coded×, coded_ℕ, coded_ℤ}
use Rattle.std.proofs.Common.{zero, suc, ap, ◌∙◌}
use Rattle.std.proofs.Math.Nat.{div-one, not-suc-le-zero}
use Rattle.std.proofs.lemmas.Nat.Gcd.{same_from_IsGcd}
use Rattle.fraction_theory.specs.Divisors.{gcd, gcd_is}
use Rattle.fraction_theory.specs.Fraction.{Fraction, over, lowest_fraction, same_fraction}

int_div-one : (n : ℤ) → int_div n (pos 1) ≡ n
int_div-one (pos n) = ap pos (div-one n)
int_div-one (negsuc n) = ap (λ (t : ℕ). neg_ℤ (pos t)) (div-one (suc n))

over-lowest : (n : ℤ) (d : ℕ) (h : 0 < d) (l : IsGcd (unsigned_abs n) d 1) → over n d ≡ lowest_fraction n d h l
unfolding over
over-lowest n zero h l = absurd (not-suc-le-zero h)
over-lowest n (suc d) h l =
    let one : gcd (unsigned_abs n) (suc d) ≡ 1 = same_from_IsGcd (unsigned_abs n) (suc d) (gcd (unsigned_abs n) (suc d)) 1 (gcd_is (unsigned_abs n) (suc d)) l in
    same_fraction (over n (suc d)) (lowest_fraction n (suc d) h l) (ap (λ (t : ℕ). int_div n (pos t)) one ∙ int_div-one n) (ap (λ (t : ℕ). suc d / t) one ∙ div-one (suc d))

-- a fraction is its numerator over its denominator
pub over_parts : (x : Fraction) → over x.num x.den ≡ x
over_parts x = over-lowest x.num x.den x.above x.lowest

-- a fraction by its numerator and denominator
abbrev pub fraction_code : Coded Fraction
fraction_code = code_by (ℤ × ℕ) (coded× coded_ℤ coded_ℕ) (λ x. (x.num, x.den)) (λ p. over p.0 p.1) over_parts
