-- Products of reactances and flows round a loop.
use Rattle.std.proofs.Common.{◌≡◌, ◌∙◌, ◌≤◌, ℤ, pos, ◌+ℤ◌, ◌-ℤ◌, ◌*ℤ◌, neg_ℤ, unsigned_abs, to_z, of_z, sym, ap, subst, arith}
use mir.Syntax.{w128}
use mathlib.Core.Path.{ap₂}
use Rattle.std.proofs.lemmas.Int.{ints, unsigned_abs-mul, to_z-of_z}
use Rattle.std.proofs.Math.Nat.{mul-le-mul}
use Rattle.market_data.specs.Scales.{most_factor, most_scaled_reactance}
use Rattle.factor_residuals.specs.declared.loop_sums.LoopSum.{LoopSum}

-- a number that is read as one of 128 bits
pub small_is : (n : ℤ) → unsigned_abs n ≤ 100000000000000000000000000000000000000 → to_z w128 (of_z w128 n) ≡ n
small_is n h = to_z-of_z w128 n (omega (arith, ints, h))

-- a product of two numbers of these sizes
pub product-size : (x y : ℤ) → unsigned_abs x ≤ most_scaled_reactance → unsigned_abs y ≤ most_factor → unsigned_abs (x *ℤ y) ≤ 10000000000000000000000000000000000
product-size x y h k = subst (λ n. n ≤ 10000000000000000000000000000000000) (sym (unsigned_abs-mul x y)) (mul-le-mul h k)

module _ (x y z : ℤ) (h : unsigned_abs x ≤ most_scaled_reactance) (k : unsigned_abs y ≤ most_factor) (e : z ≡ y) where
  product : ℤ
  product = to_z w128 (of_z w128 (to_z w128 (of_z w128 x) *ℤ to_z w128 (of_z w128 z)))

  pub product_is : to_z w128 (of_z w128 (to_z w128 (of_z w128 x) *ℤ to_z w128 (of_z w128 z))) ≡ x *ℤ y
  product_is =
      let size = product-size x y h k in
      ap (λ (p : ℤ). to_z w128 (of_z w128 p)) (ap₂ ◌*ℤ◌ (small_is x (omega (arith, h))) (ap (λ (t : ℤ). to_z w128 (of_z w128 t)) e ∙ small_is y (omega (arith, k)))) ∙ small_is (x *ℤ y) (omega (arith, size))

  pub opposite_is : to_z w128 (of_z w128 (pos 0 -ℤ to_z w128 (of_z w128 (to_z w128 (of_z w128 x) *ℤ to_z w128 (of_z w128 z))))) ≡ neg_ℤ (x *ℤ y)
  opposite_is =
      let size = product-size x y h k in
      ap (λ (p : ℤ). to_z w128 (of_z w128 (pos 0 -ℤ p))) product_is ∙ small_is (pos 0 -ℤ (x *ℤ y)) (omega (arith, ints, size)) ∙ omega (arith, ints)

pub loop_sum-is : (m m' s s' : ℤ) → m ≡ m' → s ≡ s' → ◌≡◌ {A = LoopSum} (record { miss = m; sizes = s }) (record { miss = m'; sizes = s' })
loop_sum-is m m' s s' e f = ap₂ (λ (a b : ℤ). record { miss = a; sizes = b }) e f

pub sum-is : (a b : ℤ) → unsigned_abs a ≤ 10000000000000000000000000000000000000 → unsigned_abs b ≤ 10000000000000000000000000000000000000
    → to_z w128 (of_z w128 (to_z w128 (of_z w128 a) +ℤ to_z w128 (of_z w128 b))) ≡ a +ℤ b
sum-is a b h k = ap (λ (p : ℤ). to_z w128 (of_z w128 p)) (ap₂ ◌+ℤ◌ (small_is a (omega (arith, h))) (small_is b (omega (arith, k)))) ∙ small_is (a +ℤ b) (omega (arith, ints, h, k))
