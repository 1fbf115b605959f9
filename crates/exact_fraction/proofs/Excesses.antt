-- A number less a whole one that it is above has no greater parts than it has itself.
use Rattle.std.proofs.Common.{◌≡◌, ℕ, zero, suc, ℤ, pos, negsuc, arith, sym, subst, inl, inr, [], ◌∷◌, refl, ◌*◌, ◌≤◌, ◌<◌}
use Rattle.std.specs.Prelude.{◌+ℤ◌, ◌*ℤ◌, ◌≤ℤ◌, ◌<ℤ◌, neg_ℤ, unsigned_abs}
use Rattle.std.proofs.lemmas.Int.{ints}
use Rattle.std.proofs.Math.Nat.{div-le_self}
use Rattle.fraction_theory.specs.Divisors.{gcd}
use Rattle.fraction_theory.specs.Fraction.{unsigned_abs-int_div, Fraction, over, whole, neg_ℚ, ◌+ℚ◌, ◌-ℚ◌}
use Rattle.fraction_theory.specs.Order.{◌<ℚ◌}
use Rattle.fraction_theory.proofs.IntegerLaws.{ring_ℤ}
use Rattle.fraction_theory.proofs.Ring.{at, by_ring, pmul, pneg, pone, ◌⊕◌}
use Rattle.exact_fraction.specs.Passes.{IsTooLarge}

-- lowest terms are no greater
pub over_within : (n : ℤ) (d : ℕ) → 0 < d → (unsigned_abs (over n d).num ≤ unsigned_abs n) × ((over n d).den ≤ d)
unfolding over
over_within n zero h = absurd (Prim.omega (arith, h))
over_within n (suc d) h = (
  subst (λ t. t ≤ unsigned_abs n) (sym (unsigned_abs-int_div n (gcd (unsigned_abs n) (suc d)))) (div-le_self (unsigned_abs n) (gcd (unsigned_abs n) (suc d))),
  div-le_self (suc d) (gcd (unsigned_abs n) (suc d)),
)

less_within : (n t : ℤ) → pos 0 ≤ℤ t → t <ℤ n → unsigned_abs (n +ℤ neg_ℤ t) ≤ unsigned_abs n
less_within (pos n) (pos t) h k = by t k
  where
    by : (t : ℕ) → pos t <ℤ pos n → unsigned_abs (pos n +ℤ neg_ℤ (pos t)) ≤ n
    by t k = Prim.omega (arith, ints, k)
less_within (pos n) (negsuc t) h k = absurd (Prim.omega (arith, ints, h))
less_within (negsuc n) (pos t) h k = absurd (Prim.omega (arith, ints, k))
less_within (negsuc n) (negsuc t) h k = absurd (Prim.omega (arith, ints, h))

times_above : (m : ℤ) (d : ℕ) → pos 0 ≤ℤ m → pos 0 ≤ℤ (m *ℤ pos d)
times_above (pos m) d h = zero_le (m * d)
  where
    zero_le : (k : ℕ) → pos 0 ≤ℤ pos k
    zero_le k = Prim.omega (arith, ints)
times_above (negsuc m) d h = absurd (Prim.omega (arith, ints, h))

pub excess_fits : (bound : ℕ) (x : Fraction) (m : ℤ) → pos 0 ≤ℤ m → whole m <ℚ x → unsigned_abs x.num ≤ bound → x.den ≤ bound → ¬ (IsTooLarge bound (x -ℚ whole m))
unfolding ◌+ℚ◌ neg_ℚ whole
excess_fits bound x m sign above num den = by
  where
    one : x.den * 1 ≡ x.den
    one = Prim.omega arith

    single : x.num *ℤ pos 1 ≡ x.num
    single = by_ring ring_ℤ (x.num ∷ []) (pmul (at 0) pone) (at 0) refl

    top : x.num *ℤ pos 1 +ℤ neg_ℤ m *ℤ pos x.den ≡ x.num +ℤ neg_ℤ (m *ℤ pos x.den)
    top = by_ring ring_ℤ (x.num ∷ m ∷ pos x.den ∷ []) (pmul (at 0) pone ⊕ pmul (pneg (at 1)) (at 2)) (at 0 ⊕ pneg (pmul (at 1) (at 2))) refl

    below : (m *ℤ pos x.den) <ℤ x.num
    below = subst (λ t. (m *ℤ pos x.den) <ℤ t) single above.cross

    lowest : (unsigned_abs (over (x.num *ℤ pos 1 +ℤ neg_ℤ m *ℤ pos x.den) (x.den * 1)).num ≤ unsigned_abs (x.num *ℤ pos 1 +ℤ neg_ℤ m *ℤ pos x.den)) × ((over (x.num *ℤ pos 1 +ℤ neg_ℤ m *ℤ pos x.den) (x.den * 1)).den ≤ x.den * 1)
    lowest = over_within (x.num *ℤ pos 1 +ℤ neg_ℤ m *ℤ pos x.den) (x.den * 1) (subst (λ t. 0 < t) (sym one) x.above)

    top_within : unsigned_abs (x.num *ℤ pos 1 +ℤ neg_ℤ m *ℤ pos x.den) ≤ unsigned_abs x.num
    top_within = subst (λ t. unsigned_abs t ≤ unsigned_abs x.num) (sym top) (less_within x.num (m *ℤ pos x.den) (times_above m x.den sign) below)

    by : ¬ (IsTooLarge bound (over (x.num *ℤ pos 1 +ℤ neg_ℤ m *ℤ pos x.den) (x.den * 1)))
    by (inl h) = let a = lowest.0 in Prim.omega (arith, h, a, top_within, num)
    by (inr h) = let a = lowest.1 in Prim.omega (arith, h, a, one, den)
