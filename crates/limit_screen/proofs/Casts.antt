-- Sums and products of whole numbers that 128 bits hold.
use Rattle.std.proofs.Common.{◌≡◌, ◌+◌, ◌*◌, ℕ, ℤ, pos, arith, ap, sym, ◌∙◌, subst, subst₂, ◌^◌, ◌≤◌, ◌<◌, w64}
use Rattle.std.specs.Prelude.{◌+ℤ◌, ◌-ℤ◌, ◌*ℤ◌, ◌≤ℤ◌, unsigned_abs, FitsSigned, IsTrue, neg_ℤ, true, T}
use lib.Signed.{le_z}
use Rattle.std.specs.Int.{w128}
use Rattle.std.proofs.lemmas.Int.{ints, to_z_pos, to_z-of_z, fits_signed_from_abs, unsigned_abs-mul}
use Rattle.std.proofs.Math.Nat.{lt_of_le_of_lt, mul-le-mul}
use Rattle.std.specs.Int.Signed.{nat_abs-le}
use Rattle.market_data.specs.Scales.{pickup_one}
use mir.Val.{to_z, of_z}

-- what is left of a number where it is kept in 64 or 128 bits
abbrev pub narrow : ℤ → ℤ
narrow z = to_z w64 (of_z w64 z)

abbrev pub wide : ℤ → ℤ
wide z = to_z w128 (of_z w128 z)

pub wide_is : (z : ℤ) → unsigned_abs z < 2 ^ 127 → wide z ≡ z
wide_is z h = to_z-of_z w128 z (fits_signed_from_abs w128 z h)

pub narrow_is : (z : ℤ) → FitsSigned w64 z → narrow z ≡ z
narrow_is z f = to_z-of_z w64 z f

pub size_64 : (z : ℤ) → FitsSigned w64 z → unsigned_abs z ≤ 2 ^ 63
size_64 z f = nat_abs-le z f.sfits

-- a product of two numbers of 64 bits
module _ (a b f g : ℤ) (fa : FitsSigned w64 a) (fb : FitsSigned w64 b) (ef : f ≡ narrow a) (eg : g ≡ narrow b) where
  product_size : unsigned_abs (a *ℤ b) ≤ 2 ^ 63 * 2 ^ 63
  product_size = subst (λ t. t ≤ 2 ^ 63 * 2 ^ 63) (sym (unsigned_abs-mul a b)) (mul-le-mul (size_64 a fa) (size_64 b fb))

  left_is : wide f ≡ a
  left_is = ap wide (ef ∙ narrow_is a fa) ∙ wide_is a (lt_of_le_of_lt (size_64 a fa) (Prim.omega arith))

  right_is : wide g ≡ b
  right_is = ap wide (eg ∙ narrow_is b fb) ∙ wide_is b (lt_of_le_of_lt (size_64 b fb) (Prim.omega arith))

  pub product_is : wide (wide f *ℤ wide g) ≡ a *ℤ b
  product_is = ap (λ t. wide (t *ℤ wide g)) left_is ∙ ap (λ t. wide (a *ℤ t)) right_is ∙ wide_is (a *ℤ b) (lt_of_le_of_lt product_size (Prim.omega arith))

  pub product_up_to : (most : ℕ) → unsigned_abs a ≤ most → unsigned_abs (wide (wide f *ℤ wide g)) ≤ most * 2 ^ 63
  product_up_to most few = subst (λ t. unsigned_abs t ≤ most * 2 ^ 63) (sym product_is) (subst (λ t. t ≤ most * 2 ^ 63) (sym (unsigned_abs-mul a b)) (mul-le-mul few (size_64 b fb)))

-- the size of a number of 64 bits
module _ (a r : ℤ) (u : ℕ) (fa : FitsSigned w64 a) (er : r ≡ pos u) (eu : u ≡ unsigned_abs (narrow a)) where
  pub size_is : wide r ≡ pos (unsigned_abs a)
  size_is = ap wide (er ∙ ap pos (eu ∙ ap unsigned_abs (narrow_is a fa))) ∙ wide_is (pos (unsigned_abs a)) (lt_of_le_of_lt (size_64 a fa) (Prim.omega arith))

  pub size_up_to : (most : ℕ) → unsigned_abs a ≤ most → unsigned_abs (wide r) ≤ most * 2 ^ 63
  size_up_to most few = subst (λ t. unsigned_abs t ≤ most * 2 ^ 63) (sym size_is) (Prim.omega (arith, few))

-- sums and differences
module _ (a b : ℤ) (h : unsigned_abs a ≤ 2 ^ 126 + 2 ^ 113) (k : unsigned_abs b ≤ 2 ^ 126 + 2 ^ 113) where
  kept : (z : ℤ) → unsigned_abs z ≤ 2 ^ 126 + 2 ^ 113 → wide z ≡ z
  kept z p = wide_is z (Prim.omega (arith, p))

  pub sum_is : unsigned_abs (a +ℤ b) < 2 ^ 127 → wide (wide a +ℤ wide b) ≡ a +ℤ b
  sum_is few = ap (λ t. wide (t +ℤ wide b)) (kept a h) ∙ ap (λ t. wide (a +ℤ t)) (kept b k) ∙ wide_is (a +ℤ b) few

  pub difference_is : unsigned_abs (a -ℤ b) < 2 ^ 127 → wide (wide a -ℤ wide b) ≡ a -ℤ b
  difference_is few = ap (λ t. wide (t -ℤ wide b)) (kept a h) ∙ ap (λ t. wide (a -ℤ t)) (kept b k) ∙ wide_is (a -ℤ b) few

-- a number and one that is much smaller
module _ (a b : ℤ) (h : unsigned_abs a ≤ 2 ^ 113) (k : unsigned_abs b ≤ 2 ^ 126) where
  pub small_sum_is : wide (wide a +ℤ wide b) ≡ a +ℤ b
  small_sum_is = sum_is a b (Prim.omega (arith, h)) (Prim.omega (arith, k)) (Prim.omega (arith, ints, h, k))

  pub small_sum_up_to : unsigned_abs (wide (wide a +ℤ wide b)) ≤ 2 ^ 126 + 2 ^ 113
  small_sum_up_to = subst (λ t. unsigned_abs t ≤ 2 ^ 126 + 2 ^ 113) (sym small_sum_is) (Prim.omega (arith, ints, h, k))

-- a sum of two numbers of 64 bits, in parts of which so many are one
module _ (a b x y z : ℤ) (n : ℕ) (fa : FitsSigned w64 a) (fb : FitsSigned w64 b) (few : n ≤ pickup_one) (ex : x ≡ narrow a) (ey : y ≡ narrow b) (ez : z ≡ pos n) where
  total_size : unsigned_abs (a +ℤ b) ≤ 2 ^ 64
  total_size = Prim.omega (arith, ints, size_64 a fa, size_64 b fb)

  parts_size : unsigned_abs ((a +ℤ b) *ℤ pos n) ≤ 2 ^ 64 * pickup_one
  parts_size = subst (λ t. t ≤ 2 ^ 64 * pickup_one) (sym (unsigned_abs-mul (a +ℤ b) (pos n))) (mul-le-mul total_size few)

  same : (v : ℤ) (u : ℤ) → u ≡ narrow v → FitsSigned w64 v → wide u ≡ v
  same v u e f = ap wide (e ∙ narrow_is v f) ∙ wide_is v (lt_of_le_of_lt (size_64 v f) (Prim.omega arith))

  pub parts_are : wide (wide (wide x +ℤ wide y) *ℤ wide z) ≡ (a +ℤ b) *ℤ pos n
  parts_are =
      ap (λ t. wide (wide (t +ℤ wide y) *ℤ wide z)) (same a x ex fa) ∙ ap (λ t. wide (wide (a +ℤ t) *ℤ wide z)) (same b y ey fb)
      ∙ ap (λ t. wide (t *ℤ wide z)) (wide_is (a +ℤ b) (lt_of_le_of_lt total_size (Prim.omega arith)))
      ∙ ap (λ t. wide ((a +ℤ b) *ℤ t)) (ap wide ez ∙ wide_is (pos n) (Prim.omega (arith, few)))
      ∙ wide_is ((a +ℤ b) *ℤ pos n) (lt_of_le_of_lt parts_size (Prim.omega arith))

  pub parts_up_to : unsigned_abs (wide (wide (wide x +ℤ wide y) *ℤ wide z)) ≤ 2 ^ 114
  parts_up_to = subst (λ t. unsigned_abs t ≤ 2 ^ 114) (sym parts_are) (Prim.omega (arith, parts_size))

-- a whole number of parts as a number of 64 bits
pub one_is : (n : ℕ) → n ≤ pickup_one → to_z w64 n ≡ pos n
one_is n few = to_z_pos w64 n (Prim.omega (arith, few))

-- ---- comparisons
told : (x y : ℤ) → le_z x y ≡ true → x ≤ℤ y
told x y e = record { le = subst T (sym e) tt }

less_room : (n : ℕ) → n ≤ 2 ^ 114 → n ≤ 2 ^ 126 + 2 ^ 113
less_room n l = Prim.omega (arith, l)

below_wide : (n : ℕ) → n ≤ 2 ^ 126 + 2 ^ 113 → n < 2 ^ 127
below_wide n h = Prim.omega (arith, h)

left_size : (a b : ℤ) → unsigned_abs a ≤ 2 ^ 114 → unsigned_abs b ≤ 2 ^ 126 + 2 ^ 113 → unsigned_abs (a -ℤ b) < 2 ^ 127
left_size a b h k = Prim.omega (arith, ints, h, k)

right_size : (a b : ℤ) → unsigned_abs a ≤ 2 ^ 114 → unsigned_abs b ≤ 2 ^ 126 + 2 ^ 113 → unsigned_abs (b -ℤ a) < 2 ^ 127
right_size a b h k = Prim.omega (arith, ints, h, k)

from_high : (number off most : ℤ) → number ≤ℤ (most -ℤ off) → (number +ℤ off) ≤ℤ most
from_high number off most h = Prim.omega (arith, ints, h)

from_low : (number off most : ℤ) → (off -ℤ most) ≤ℤ number → neg_ℤ most ≤ℤ (number +ℤ neg_ℤ off)
from_low number off most h = Prim.omega (arith, ints, h)

-- a number and how far another one is from it, both sides against the greatest size
pub told_within : (number off most : ℤ) → unsigned_abs number ≤ 2 ^ 126 + 2 ^ 113 → unsigned_abs off ≤ 2 ^ 126 + 2 ^ 113 → unsigned_abs most ≤ 2 ^ 114
    → le_z (wide number) (wide (wide most -ℤ wide off)) ≡ true → IsTrue (le_z (wide (wide off -ℤ wide most)) (wide number))
    → ((number +ℤ off) ≤ℤ most) × (neg_ℤ most ≤ℤ (number +ℤ neg_ℤ off))
told_within number off most h k l above below =
    let l' : unsigned_abs most ≤ 2 ^ 126 + 2 ^ 113 = less_room (unsigned_abs most) l in
    let same : wide number ≡ number = wide_is number (below_wide (unsigned_abs number) h) in
    let high : number ≤ℤ (most -ℤ off) = told number (most -ℤ off) (subst₂ (λ x y. le_z x y ≡ true) same (difference_is most off l' k (left_size most off l k)) above) in
    let low : (off -ℤ most) ≤ℤ number = told (off -ℤ most) number (subst₂ (λ x y. le_z x y ≡ true) (difference_is off most k l' (right_size most off l k)) same below) in
    (from_high number off most high, from_low number off most low)
