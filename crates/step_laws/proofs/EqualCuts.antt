-- Where a range is cut equally.
use Rattle.std.specs.Prelude.{◌≡◌, ℕ, ◌+◌, ◌*◌, ◌<◌, ◌≤◌, ℤ, pos, ◌+ℤ◌, ◌-ℤ◌, ◌≤ℤ◌, ◌<ℤ◌, unsigned_abs, Bool, if◌then◌else◌, ◌⊎◌}
use Rattle.std.proofs.Common.{arith, ap, sym, ◌∙◌, subst, inl, inr}
use Rattle.std.proofs.lemmas.Int.{ints}
use Rattle.std.proofs.lemmas.Bool.{eq-eqb, ne_eqb, cases_eq}
use Rattle.std.proofs.Math.Nat.{div-mul-le_self, mul_comm}
use Rattle.cost_steps.specs.declared.parts.Way.TheVariants.{Up, Down}
use Rattle.cost_steps.specs.Parts.{equal_cut, equal_width}

module _ (low high : ℤ) (count : ℕ) where
  abbrev W : ℕ
  W = equal_width low high count

  -- ---- the cuts by place
  pub up_inner : (k : ℕ) → (k ≡ count → ⊥) → equal_cut Up low high count k ≡ low +ℤ pos (k * W)
  up_inner k n = ap (λ (b : Bool). if b then high else low +ℤ pos (k * W)) (ne_eqb k count n)

  pub up_last : (k : ℕ) → k ≡ count → equal_cut Up low high count k ≡ high
  up_last k e = ap (λ (b : Bool). if b then high else low +ℤ pos (k * W)) (eq-eqb k count e)

  pub down_inner : (k : ℕ) → (k ≡ count → ⊥) → equal_cut Down low high count k ≡ high -ℤ pos (k * W)
  down_inner k n = ap (λ (b : Bool). if b then low else high -ℤ pos (k * W)) (ne_eqb k count n)

  pub down_last : (k : ℕ) → k ≡ count → equal_cut Down low high count k ≡ low
  down_last k e = ap (λ (b : Bool). if b then low else high -ℤ pos (k * W)) (eq-eqb k count e)

  nothing : (w : ℕ) → 0 * w ≡ 0
  nothing w = omega arith

  pub up_first : 1 ≤ count → equal_cut Up low high count 0 ≡ low
  up_first some = up_inner 0 (λ e. omega (arith, e, some)) ∙ ap (λ t. low +ℤ pos t) (nothing W) ∙ same low
    where
      same : (x : ℤ) → x +ℤ pos 0 ≡ x
      same x = omega (arith, ints)

  pub down_first : 1 ≤ count → equal_cut Down low high count 0 ≡ high
  down_first some = down_inner 0 (λ e. omega (arith, e, some)) ∙ ap (λ t. high -ℤ pos t) (nothing W) ∙ same high
    where
      same : (x : ℤ) → x -ℤ pos 0 ≡ x
      same x = omega (arith, ints)

  -- ---- the widths between them
  next_width : (k w : ℕ) → pos ((k + 1) * w) ≡ pos (k * w) +ℤ pos w
  next_width k w = omega (arith, ints)

  pub up_width : (k : ℕ) → k + 1 < count → equal_cut Up low high count (k + 1) -ℤ equal_cut Up low high count k ≡ pos W
  up_width k h = ap (λ t. t -ℤ equal_cut Up low high count k) (up_inner (k + 1) (λ e. omega (arith, e, h))) ∙ ap (λ t. low +ℤ pos ((k + 1) * W) -ℤ t) (up_inner k (λ e. omega (arith, e, h)))
      ∙ between low (pos ((k + 1) * W)) (pos (k * W)) (pos W) (next_width k W)
    where
      between : (x y z w : ℤ) → y ≡ z +ℤ w → (x +ℤ y) -ℤ (x +ℤ z) ≡ w
      between x y z w e = omega (arith, ints, e)

  pub down_width : (k : ℕ) → k + 1 < count → equal_cut Down low high count k -ℤ equal_cut Down low high count (k + 1) ≡ pos W
  down_width k h = ap (λ t. t -ℤ equal_cut Down low high count (k + 1)) (down_inner k (λ e. omega (arith, e, h))) ∙ ap (λ t. high -ℤ pos (k * W) -ℤ t) (down_inner (k + 1) (λ e. omega (arith, e, h)))
      ∙ between high (pos ((k + 1) * W)) (pos (k * W)) (pos W) (next_width k W)
    where
      between : (x y z w : ℤ) → y ≡ z +ℤ w → (x -ℤ z) -ℤ (x -ℤ y) ≡ w
      between x y z w e = omega (arith, ints, e)

  pub up_rest : (k : ℕ) → k + 1 ≡ count → equal_cut Up low high count (k + 1) -ℤ equal_cut Up low high count k ≡ (high -ℤ low) -ℤ pos (k * W)
  up_rest k h = ap (λ t. t -ℤ equal_cut Up low high count k) (up_last (k + 1) h) ∙ ap (λ t. high -ℤ t) (up_inner k (λ e. omega (arith, e, h))) ∙ between low high (pos (k * W))
    where
      between : (x y z : ℤ) → y -ℤ (x +ℤ z) ≡ (y -ℤ x) -ℤ z
      between x y z = omega (arith, ints)

  pub down_rest : (k : ℕ) → k + 1 ≡ count → equal_cut Down low high count k -ℤ equal_cut Down low high count (k + 1) ≡ (high -ℤ low) -ℤ pos (k * W)
  down_rest k h = ap (λ t. t -ℤ equal_cut Down low high count (k + 1)) (down_inner k (λ e. omega (arith, e, h))) ∙ ap (λ t. (high -ℤ pos (k * W)) -ℤ t) (down_last (k + 1) h) ∙ between low high (pos (k * W))
    where
      between : (x y z : ℤ) → (y -ℤ z) -ℤ x ≡ (y -ℤ x) -ℤ z
      between x y z = omega (arith, ints)

  -- ---- what is left over
  -- so many widths are within the range
  all_within : count * W ≤ unsigned_abs (high -ℤ low)
  all_within = within (mul_comm W count) (div-mul-le_self (unsigned_abs (high -ℤ low)) count)
    where
      within : W * count ≡ count * W → W * count ≤ unsigned_abs (high -ℤ low) → count * W ≤ unsigned_abs (high -ℤ low)
      within e p = omega (arith, e, p)

  all_but_one : (k w n : ℕ) → (k + 1) * w ≤ n → k * w + w ≤ n
  all_but_one k w n p = omega (arith, p)

  most : (k : ℕ) → k + 1 ≡ count → k * W + W ≤ unsigned_abs (high -ℤ low)
  most k e = all_but_one k W (unsigned_abs (high -ℤ low)) (subst (λ t. t * W ≤ unsigned_abs (high -ℤ low)) (sym e) all_within)

  pub rest_least : (k : ℕ) → k + 1 ≡ count → low ≤ℤ high → pos 0 ≤ℤ ((high -ℤ low) -ℤ pos (k * W))
  rest_least k e order = least low high (k * W) W order (most k e)
    where
      least : (x y : ℤ) (m w : ℕ) → x ≤ℤ y → m + w ≤ unsigned_abs (y -ℤ x) → pos 0 ≤ℤ ((y -ℤ x) -ℤ pos m)
      least x y m w h p = omega (arith, ints, h, p)

  pub rest_above : (k : ℕ) → k + 1 ≡ count → low <ℤ high → pos 0 <ℤ ((high -ℤ low) -ℤ pos (k * W))
  rest_above k e order = by (cases_eq W 0)
    where
      nil : (k : ℕ) → k * 0 ≡ 0
      nil k = omega arith

      none : (k w : ℕ) → w ≡ 0 → k * w ≡ 0
      none k w e = ap (λ t. k * t) e ∙ nil k

      left : (x y : ℤ) (m : ℕ) → x <ℤ y → m ≡ 0 → pos 0 <ℤ ((y -ℤ x) -ℤ pos m)
      left x y m h e = omega (arith, ints, h, e)

      above : (x y : ℤ) (m w : ℕ) → x <ℤ y → (w ≡ 0 → ⊥) → m + w ≤ unsigned_abs (y -ℤ x) → pos 0 <ℤ ((y -ℤ x) -ℤ pos m)
      above x y m w h n p = omega (arith, ints, h, n, p)

      by : (W ≡ 0) ⊎ (W ≡ 0 → ⊥) → pos 0 <ℤ ((high -ℤ low) -ℤ pos (k * W))
      by (inl z) = left low high (k * W) order (none k W z)
      by (inr n) = above low high (k * W) W order n (most k e)

  -- ---- the cuts follow the way
  from_width : (x y : ℤ) → pos 0 ≤ℤ (y -ℤ x) → x ≤ℤ y
  from_width x y h = omega (arith, ints, h)

  not_below : (w : ℕ) → pos 0 ≤ℤ pos w
  not_below w = omega (arith, ints)

  pub up_rise : low ≤ℤ high → (k : ℕ) → k < count → equal_cut Up low high count k ≤ℤ equal_cut Up low high count (k + 1)
  up_rise order k h = from_width (equal_cut Up low high count k) (equal_cut Up low high count (k + 1)) (by (cases_eq (k + 1) count))
    where
      by : (k + 1 ≡ count) ⊎ (k + 1 ≡ count → ⊥) → pos 0 ≤ℤ (equal_cut Up low high count (k + 1) -ℤ equal_cut Up low high count k)
      by (inl e) = subst (λ t. pos 0 ≤ℤ t) (sym (up_rest k e)) (rest_least k e order)
      by (inr n) = subst (λ t. pos 0 ≤ℤ t) (sym (up_width k (omega (arith, n, h)))) (not_below W)

  pub down_rise : low ≤ℤ high → (k : ℕ) → k < count → equal_cut Down low high count (k + 1) ≤ℤ equal_cut Down low high count k
  down_rise order k h = from_width (equal_cut Down low high count (k + 1)) (equal_cut Down low high count k) (by (cases_eq (k + 1) count))
    where
      by : (k + 1 ≡ count) ⊎ (k + 1 ≡ count → ⊥) → pos 0 ≤ℤ (equal_cut Down low high count k -ℤ equal_cut Down low high count (k + 1))
      by (inl e) = subst (λ t. pos 0 ≤ℤ t) (sym (down_rest k e)) (rest_least k e order)
      by (inr n) = subst (λ t. pos 0 ≤ℤ t) (sym (down_width k (omega (arith, n, h)))) (not_below W)
