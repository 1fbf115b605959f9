-- The digits of a number, the last of them apart.
use Rattle.std.proofs.Common.{◌≡◌, ◌≢◌, ℕ, suc, zero, ◌-◌, ◌+◌, ◌/◌, ◌%◌, ◌^◌, ◌<◌, ◌≤◌, true, false, [], ◌∷◌, ◌++◌, refl, arith}
use Rattle.std.specs.Prelude.{nat_eq}
use Rattle.std.proofs.lemmas.Bool.{eq-eqb, ne_eqb}
use Rattle.std.proofs.Math.Nat.{pow-le-pow_right, one-le-pow}
use Rattle.exact_fraction.specs.Written.{last_digits, trimmed_places}

pub last-step : (k n : ℕ) → 0 < k → last_digits (k - 1) (n / 10) ++ (48 + n % 10) ∷ [] ≡ last_digits k n
last-step zero n h = absurd (omega (arith, h))
last-step (suc k) n h = let e : suc k - 1 ≡ k = omega arith in rw e refl

pub trimmed-zero : (k n : ℕ) → 0 < k → n % 10 ≡ 0 → trimmed_places (k - 1) (n / 10) ≡ trimmed_places k n
trimmed-zero zero n h z = absurd (omega (arith, h))
trimmed-zero (suc k) n h z = let e : suc k - 1 ≡ k = omega arith in let is : nat_eq (n % 10) 0 ≡ true = eq-eqb (n % 10) 0 z in rw (e, is) refl

pub trimmed-digits : (k n : ℕ) → 0 < k → n % 10 ≢ 0 → 46 ∷ last_digits k n ≡ trimmed_places k n
trimmed-digits zero n h z = absurd (omega (arith, h))
trimmed-digits (suc k) n h z = let is : nat_eq (n % 10) 0 ≡ false = ne_eqb (n % 10) 0 z in rw is refl

-- a unit of few places
pub unit_fits : (places : ℕ) → places ≤ 28 → 10 ^ places < 340282366920938463463374607431768211456
unit_fits places h = let most : 10 ^ places ≤ 10 ^ 28 = pow-le-pow_right (omega arith) h in omega (arith, most)

pub unit_above : (places u : ℕ) → u ≡ 10 ^ places → 0 < u
unit_above places u e = let least : 1 ≤ 10 ^ places = one-le-pow places 10 (omega arith) in omega (arith, least, e)
