-- The whole numbers are a ring.
use Rattle.std.specs.Prelude.{◌≡◌, ℕ, ◌+◌, ◌*◌, ◌<◌, ◌≤ℤ◌, ◌/◌, ◌⊎◌, ℤ, pos, negsuc, ◌+ℤ◌, ◌*ℤ◌, neg_ℤ, unsigned_abs, int_div}
use Rattle.std.proofs.Common.{inl, inr, zero, suc, arith, ap}
use Rattle.std.proofs.Math.IntN.{+ℤ_assoc, +ℤ_comm, +ℤ_idr, +ℤ_invr, *ℤ_comm}
use Rattle.std.proofs.lemmas.Int.{ints, unsigned_abs-mul}
use borrow.Author.Differences.{up, down, sum_is_lem, product_is, same_in}
use Prim.Native.Nat.{◌∣◌}
use Rattle.std.proofs.Math.Nat.{div-mul_cancel, eq_of_mul-eq-mul_right}
use Rattle.fraction_theory.proofs.Ring.{Ring}

pub *ℤ_assoc : (x y z : ℤ) → (x *ℤ y) *ℤ z ≡ x *ℤ (y *ℤ z)
*ℤ_assoc x y z = same_in ((x *ℤ y) *ℤ z) (x *ℤ (y *ℤ z)) (Prim.omega (arith, product_is (x *ℤ y) z, product_is x (y *ℤ z), ap (λ t. t * up z) (product_is x y).0, ap (λ t. t * down z) (product_is x y).0, ap (λ t. t * up z) (product_is x y).1, ap (λ t. t * down z) (product_is x y).1, ap (λ t. up x * t) (product_is y z).0, ap (λ t. down x * t) (product_is y z).0, ap (λ t. up x * t) (product_is y z).1, ap (λ t. down x * t) (product_is y z).1))

pub *ℤ-+ℤ : (x y z : ℤ) → x *ℤ (y +ℤ z) ≡ x *ℤ y +ℤ x *ℤ z
*ℤ-+ℤ x y z = same_in (x *ℤ (y +ℤ z)) (x *ℤ y +ℤ x *ℤ z) (Prim.omega (arith, product_is x (y +ℤ z), product_is x y, product_is x z, sum_is_lem (x *ℤ y) (x *ℤ z), ap (λ t. up x * t) (sum_is_lem y z), ap (λ t. down x * t) (sum_is_lem y z)))

pub *ℤ-pos_one : (x : ℤ) → x *ℤ pos 1 ≡ x
*ℤ-pos_one x = same_in (x *ℤ pos 1) x (Prim.omega (arith, product_is x (pos 1)))

-- the ring of whole numbers
abbrev pub ring_ℤ : Ring ℤ
ring_ℤ = record {
  nil = pos 0;
  one = pos 1;
  plus = ◌+ℤ◌;
  times = ◌*ℤ◌;
  neg = neg_ℤ;
  plus_assoc = +ℤ_assoc;
  plus_comm = +ℤ_comm;
  plus_nil = +ℤ_idr;
  plus_neg = +ℤ_invr;
  times_assoc = *ℤ_assoc;
  times_comm = *ℤ_comm;
  times_one = *ℤ-pos_one;
  times_plus = *ℤ-+ℤ;
}

-- a factor above 0 is taken away
pub *ℤ_cancel : (x y : ℤ) (d : ℕ) → 0 < d → x *ℤ pos d ≡ y *ℤ pos d → x ≡ y
*ℤ_cancel x y d h e =
    same_in x y (eq_of_mul-eq-mul_right d h (up x + down y) (up y + down x)
    (Prim.omega (arith, product_is x (pos d), product_is y (pos d), ap up e, ap down e)))

pub unsigned_abs-*ℤ : (x : ℤ) (d : ℕ) → unsigned_abs (x *ℤ pos d) ≡ unsigned_abs x * d
unsigned_abs-*ℤ x d = unsigned_abs-mul x (pos d)

-- exact division by a number above 0
pub int_div-exact : (x : ℤ) (g : ℕ) → g ∣ unsigned_abs x → int_div x (pos g) *ℤ pos g ≡ x
int_div-exact (pos n) g h = ap pos (div-mul_cancel g h)
int_div-exact (negsuc n) g h = zero_or (suc n / g) (div-mul_cancel g h)
  where
    zero_or : (q : ℕ) → q * g ≡ suc n → neg_ℤ (pos q) *ℤ pos g ≡ negsuc n
    zero_or zero e = absurd (Prim.omega arith)
    zero_or (suc q) e = Prim.rw e

pub zero≤*ℤ : (x y : ℤ) → pos 0 ≤ℤ x → pos 0 ≤ℤ y → pos 0 ≤ℤ (x *ℤ y)
zero≤*ℤ (pos a) (pos b) p q = Prim.omega (arith, ints)
zero≤*ℤ (negsuc a) y p q = absurd p.le
zero≤*ℤ (pos a) (negsuc b) p q = absurd q.le

pub zero≤-cancel : (x : ℤ) (d : ℕ) → 0 < d → pos 0 ≤ℤ (x *ℤ pos d) → pos 0 ≤ℤ x
zero≤-cancel (pos n) d h p = Prim.omega (arith, ints)
zero≤-cancel (negsuc n) zero h p = absurd (Prim.omega arith)
zero≤-cancel (negsuc n) (suc d) h p = absurd (Prim.omega (arith, ints))

pub zero≤-times : (x : ℤ) (d : ℕ) → pos 0 ≤ℤ x → pos 0 ≤ℤ (x *ℤ pos d)
zero≤-times x d p = zero≤*ℤ x (pos d) p (Prim.omega (arith, ints))

-- the difference of two numbers and their order
pub le_by_difference : (x y : ℤ) → pos 0 ≤ℤ (y +ℤ neg_ℤ x) → x ≤ℤ y
le_by_difference x y p = Prim.omega (arith, ints)

pub difference_by_le : (x y : ℤ) → x ≤ℤ y → pos 0 ≤ℤ (y +ℤ neg_ℤ x)
difference_by_le x y p = Prim.omega (arith, ints)

pub zero≤_or : (x : ℤ) → (pos 0 ≤ℤ x) ⊎ (pos 0 ≤ℤ neg_ℤ x)
zero≤_or (pos n) = inl (Prim.omega (arith, ints))
zero≤_or (negsuc n) = inr (Prim.omega (arith, ints))

pub zero≤_antisym : (x : ℤ) → pos 0 ≤ℤ x → pos 0 ≤ℤ neg_ℤ x → x ≡ pos 0
zero≤_antisym x p q = Prim.omega (arith, ints)

pub zero≤+ℤ : (x y : ℤ) → pos 0 ≤ℤ x → pos 0 ≤ℤ y → pos 0 ≤ℤ (x +ℤ y)
zero≤+ℤ x y p q = Prim.omega (arith, ints)
