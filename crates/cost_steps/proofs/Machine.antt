-- What the code computes in 64 and 128 bits is what the whole numbers are.
use Rattle.std.specs.Prelude.{◌≡◌, ℕ, ◌+◌, ◌*◌, ◌^◌, ◌<◌, ◌≤◌, ℤ, pos, ◌+ℤ◌, ◌-ℤ◌, ◌*ℤ◌, ◌≤ℤ◌, unsigned_abs}
use Rattle.std.proofs.Common.{arith, ap, sym, ◌∙◌, subst, w64}
use Rattle.std.specs.Int.{w128}
use Rattle.std.proofs.lemmas.Int.{ints, to_z-of_z, fits_signed_from_abs, unsigned_abs-mul}
use Rattle.std.proofs.Math.Nat.{mul-le-mul}
use mir.Syntax.{Width}
use mir.Val.{SFits, to_z, of_z}

-- a number as it is read from its bits
abbrev read : Width → ℤ → ℤ
read w z = to_z w (of_z w z)

size_of_fits : (z : ℤ) → SFits w64 z → unsigned_abs z ≤ 2 ^ 63
size_of_fits z h = Prim.omega (arith, ints, h)

wide : (z : ℤ) → SFits w64 z → SFits w128 z
wide z h = Prim.omega (arith, ints, h)

-- a number of 64 bits that was read as one of 128
pub widened : (z wider : ℤ) → SFits w64 z → wider ≡ read w64 z → read w128 wider ≡ z
widened z wider h e = ap (read w128) (e ∙ to_z-of_z w64 z h) ∙ to_z-of_z w128 z (wide z h)

size_of_sum : (x y : ℤ) (m n : ℕ) → unsigned_abs x ≤ m → unsigned_abs y ≤ n → unsigned_abs (x +ℤ y) ≤ m + n
size_of_sum x y m n p q = Prim.omega (arith, ints, p, q)

size_of_difference : (x y : ℤ) (m n : ℕ) → unsigned_abs x ≤ m → unsigned_abs y ≤ n → unsigned_abs (x -ℤ y) ≤ m + n
size_of_difference x y m n p q = Prim.omega (arith, ints, p, q)

size_of_product : (x y : ℤ) (m n : ℕ) → unsigned_abs x ≤ m → unsigned_abs y ≤ n → unsigned_abs (x *ℤ y) ≤ m * n
size_of_product x y m n p q = subst (λ t. t ≤ m * n) (sym (unsigned_abs-mul x y)) (mul-le-mul p q)

fits_by : (z : ℤ) (n : ℕ) → unsigned_abs z ≤ n → n < 2 ^ 127 → SFits w128 z
fits_by z n p q = fits_signed_from_abs w128 z (Prim.omega (arith, p, q))

-- ---- the rise of a quadratic cost's slope
module _ (square linear a b s l x y : ℤ) (least : pos 0 ≤ℤ square) (most : square ≤ℤ pos (1000 * 10 ^ 15))
    (square_fits : SFits w64 square) (linear_fits : SFits w64 linear) (a_fits : SFits w64 a) (b_fits : SFits w64 b)
    (s_is : s ≡ read w64 square) (l_is : l ≡ read w64 linear) (x_is : x ≡ read w64 a) (y_is : y ≡ read w64 b) where
  abbrev E : ℕ
  E = 2 ^ 63 + 2 ^ 63

  abbrev P : ℕ
  P = 10 ^ 18 * E

  abbrev Q : ℕ
  Q = 2 ^ 63 * 10 ^ 12

  square_size : unsigned_abs square ≤ 10 ^ 18
  square_size = Prim.omega (arith, ints, least, most)

  ends_size : unsigned_abs (a +ℤ b) ≤ E
  ends_size = size_of_sum a b (2 ^ 63) (2 ^ 63) (size_of_fits a a_fits) (size_of_fits b b_fits)

  product_size : unsigned_abs (square *ℤ (a +ℤ b)) ≤ P
  product_size = size_of_product square (a +ℤ b) (10 ^ 18) E square_size ends_size

  linear_size : unsigned_abs (linear *ℤ pos (10 ^ 12)) ≤ Q
  linear_size = size_of_product linear (pos (10 ^ 12)) (2 ^ 63) (10 ^ 12) (size_of_fits linear linear_fits) (Prim.omega arith)

  pub rise_size : unsigned_abs (square *ℤ (a +ℤ b) +ℤ linear *ℤ pos (10 ^ 12)) < 2 ^ 127
  rise_size = below (size_of_sum (square *ℤ (a +ℤ b)) (linear *ℤ pos (10 ^ 12)) P Q product_size linear_size)
    where
      below : {n : ℕ} → n ≤ P + Q → n < 2 ^ 127
      below h = Prim.omega (arith, h)

  ends_read : read w128 (read w128 x +ℤ read w128 y) ≡ a +ℤ b
  ends_read = ap (λ t. read w128 (t +ℤ read w128 y)) (widened a x a_fits x_is) ∙ ap (λ t. read w128 (a +ℤ t)) (widened b y b_fits y_is)
      ∙ to_z-of_z w128 (a +ℤ b) (fits_by (a +ℤ b) E ends_size (Prim.omega arith))

  -- the two terms
  pub product_parts : read w128 s *ℤ read w128 (read w128 x +ℤ read w128 y) ≡ square *ℤ (a +ℤ b)
  product_parts = ap (λ t. t *ℤ read w128 (read w128 x +ℤ read w128 y)) (widened square s square_fits s_is) ∙ ap (λ t. square *ℤ t) ends_read

  pub product_fits : SFits w128 (read w128 s *ℤ read w128 (read w128 x +ℤ read w128 y))
  product_fits = subst (SFits w128) (sym product_parts) (fits_by (square *ℤ (a +ℤ b)) P product_size (Prim.omega arith))

  product_read : read w128 (read w128 s *ℤ read w128 (read w128 x +ℤ read w128 y)) ≡ square *ℤ (a +ℤ b)
  product_read = to_z-of_z w128 (read w128 s *ℤ read w128 (read w128 x +ℤ read w128 y)) product_fits ∙ product_parts

  linear_read : read w128 (read w128 l *ℤ pos (10 ^ 12)) ≡ linear *ℤ pos (10 ^ 12)
  linear_read = ap (λ t. read w128 (t *ℤ pos (10 ^ 12))) (widened linear l linear_fits l_is)
      ∙ to_z-of_z w128 (linear *ℤ pos (10 ^ 12)) (fits_by (linear *ℤ pos (10 ^ 12)) Q linear_size (Prim.omega arith))

  abbrev given : ℤ
  given = read w128 (read w128 s *ℤ read w128 (read w128 x +ℤ read w128 y)) +ℤ read w128 (read w128 l *ℤ pos (10 ^ 12))

  sum_parts : given ≡ square *ℤ (a +ℤ b) +ℤ linear *ℤ pos (10 ^ 12)
  sum_parts = ap (λ t. t +ℤ read w128 (read w128 l *ℤ pos (10 ^ 12))) product_read ∙ ap (λ t. square *ℤ (a +ℤ b) +ℤ t) linear_read

  pub rise_fits : SFits w128 given
  rise_fits = fits_signed_from_abs w128 given (subst (λ t. unsigned_abs t < 2 ^ 127) (sym sum_parts) rise_size)

  pub rise_read : read w128 given ≡ square *ℤ (a +ℤ b) +ℤ linear *ℤ pos (10 ^ 12)
  rise_read = to_z-of_z w128 given rise_fits ∙ sum_parts

-- ---- the rise of a segment
module _ (first second x y : ℤ) (first_fits : SFits w64 first) (second_fits : SFits w64 second) (x_is : x ≡ read w64 first) (y_is : y ≡ read w64 second) where
  abbrev D : ℕ
  D = 2 ^ 63 + 2 ^ 63

  apart_size : unsigned_abs (second -ℤ first) ≤ D
  apart_size = size_of_difference second first (2 ^ 63) (2 ^ 63) (size_of_fits second second_fits) (size_of_fits first first_fits)

  pub apart_read : read w128 (read w128 y -ℤ read w128 x) ≡ second -ℤ first
  apart_read =
      ap (λ t. read w128 (t -ℤ read w128 x)) (widened second y second_fits y_is) ∙ ap (λ t. read w128 (second -ℤ t)) (widened first x first_fits x_is)
      ∙ to_z-of_z w128 (second -ℤ first) (fits_by (second -ℤ first) D apart_size (Prim.omega arith))

  pub units_size : unsigned_abs ((second -ℤ first) *ℤ pos (10 ^ 6)) < 2 ^ 127
  units_size = below (size_of_product (second -ℤ first) (pos (10 ^ 6)) D (10 ^ 6) apart_size (Prim.omega arith))
    where
      below : {n : ℕ} → n ≤ D * 10 ^ 6 → n < 2 ^ 127
      below h = Prim.omega (arith, h)

  pub units_read : read w128 (read w128 (read w128 y -ℤ read w128 x) *ℤ pos (10 ^ 6)) ≡ (second -ℤ first) *ℤ pos (10 ^ 6)
  units_read = ap (λ t. read w128 (t *ℤ pos (10 ^ 6))) apart_read ∙ to_z-of_z w128 ((second -ℤ first) *ℤ pos (10 ^ 6)) (fits_signed_from_abs w128 ((second -ℤ first) *ℤ pos (10 ^ 6)) units_size)
