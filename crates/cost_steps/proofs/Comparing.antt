-- The order of two quotients, by whole numbers.
use Rattle.std.specs.Prelude.{◌≡◌, ℕ, ◌*◌, ◌<◌, ◌≤◌, ◌↔◌, ℤ, pos, negsuc, ◌*ℤ◌, ◌≤ℤ◌, ◌<ℤ◌, neg_ℤ, unsigned_abs, leb, IsTrue, [], ◌∷◌}
use Rattle.std.proofs.Common.{arith, ap, sym, ◌∙◌, subst, subst₂, refl}
use Rattle.std.proofs.Math.Nat.{mul-pos}
use Rattle.std.proofs.lemmas.Int.{ints, by_lt_z}
use Rattle.std.proofs.lemmas.Bool.{leb-true, le-leb}
use Rattle.fraction_theory.specs.Fraction.{Fraction, over}
use Rattle.fraction_theory.specs.Order.{◌≤ℚ◌}
use Rattle.fraction_theory.proofs.Ring.{at, pneg, ◌⊗◌, by_ring, by_ring2}
use Rattle.fraction_theory.proofs.IntegerLaws.{ring_ℤ, *ℤ_cancel}
use Rattle.fraction_theory.proofs.FractionLaws.{Is, over_is}
use Rattle.fraction_theory.proofs.FieldLaws.{over-same}
use Rattle.fraction_theory.proofs.OrderLaws.{≤ℚ_antisym}
use Rattle.cost_steps.proofs.Orders.{over_order}

module _ (a c : ℤ) (b d : ℕ) (b_above : 0 < b) (d_above : 0 < d) where
  -- over one denominator
  first : over a b ≡ over (a *ℤ pos d) (b * d)
  first = over-same a (a *ℤ pos d) b (b * d) b_above (mul-pos b_above d_above) (by_ring ring_ℤ (a ∷ pos b ∷ pos d ∷ []) (at 0 ⊗ (at 1 ⊗ at 2)) (at 0 ⊗ at 2 ⊗ at 1) refl)

  second : over c d ≡ over (c *ℤ pos b) (b * d)
  second = over-same c (c *ℤ pos b) d (b * d) d_above (mul-pos b_above d_above) (by_ring ring_ℤ (c ∷ pos b ∷ pos d ∷ []) (at 0 ⊗ (at 1 ⊗ at 2)) (at 0 ⊗ at 1 ⊗ at 2) refl)

  from_whole : (a *ℤ pos d) ≤ℤ (c *ℤ pos b) → over a b ≤ℚ over c d
  from_whole h = subst₂ ◌≤ℚ◌ (sym first) (sym second) (over_order (a *ℤ pos d) (c *ℤ pos b) (b * d) (mul-pos b_above d_above) h)

  same_whole : over a b ≡ over c d → a *ℤ pos d ≡ c *ℤ pos b
  same_whole e =
      let x : Fraction = over c d in
      let is : Is x a b = subst (λ t. Is t a b) e (over_is a b b_above) in
      *ℤ_cancel (a *ℤ pos d) (c *ℤ pos b) x.den x.above
      (by_ring2 ring_ℤ (a ∷ pos b ∷ c ∷ pos d ∷ x.num ∷ pos x.den ∷ []) (at 0 ⊗ at 3 ⊗ at 5) (at 2 ⊗ at 1 ⊗ at 5)
      (pneg (at 3)) (at 4 ⊗ at 1) (at 0 ⊗ at 5) (at 1) (at 4 ⊗ at 3) (at 2 ⊗ at 5) is.cross (over_is c d d_above).cross refl)

  to_whole : over a b ≤ℚ over c d → (a *ℤ pos d) ≤ℤ (c *ℤ pos b)
  to_whole h = by_lt_z (c *ℤ pos b) (a *ℤ pos d) (λ k. absurd (apart k)) (λ k. k)
    where
      weak : (x y : ℤ) → x <ℤ y → x ≤ℤ y
      weak x y h = Prim.omega (arith, ints, h)

      strict : (x y : ℤ) → x <ℤ y → y ≡ x → ⊥
      strict x y h e = Prim.omega (arith, ints, h, e)

      back : (c *ℤ pos b) <ℤ (a *ℤ pos d) → over c d ≤ℚ over a b
      back k = subst₂ ◌≤ℚ◌ (sym second) (sym first) (over_order (c *ℤ pos b) (a *ℤ pos d) (b * d) (mul-pos b_above d_above) (weak (c *ℤ pos b) (a *ℤ pos d) k))

      apart : (c *ℤ pos b) <ℤ (a *ℤ pos d) → ⊥
      apart k = strict (c *ℤ pos b) (a *ℤ pos d) k (same_whole (≤ℚ_antisym (over a b) (over c d) h (back k)))

  pub by_whole : (over a b ≤ℚ over c d) ↔ ((a *ℤ pos d) ≤ℤ (c *ℤ pos b))
  by_whole = (to_whole, from_whole)

-- ---- products by the sizes of numbers
size_times : (a : ℤ) (d : ℕ) → pos 0 ≤ℤ a → a *ℤ pos d ≡ pos (unsigned_abs a * d)
size_times (pos m) d h = refl
size_times (negsuc m) d h = absurd h.le

below_times : (a : ℤ) (d : ℕ) → a <ℤ pos 0 → a *ℤ pos d ≡ neg_ℤ (pos (unsigned_abs a * d))
below_times (pos m) d h = absurd (Prim.omega (arith, ints))
below_times (negsuc m) d h = refl

size_above : (a : ℤ) → a <ℤ pos 0 → 0 < unsigned_abs a
size_above a h = Prim.omega (arith, ints, h)

module _ (a c : ℤ) (b d : ℕ) (b_above : 0 < b) (d_above : 0 < d) where
  abbrev Below : Type 0
  Below = over a b ≤ℚ over c d

  through : (x y : ℤ) → a *ℤ pos d ≡ x → c *ℤ pos b ≡ y → Below ↔ (x ≤ℤ y)
  through x y e f = (λ h. subst₂ ◌≤ℤ◌ e f ((by_whole a c b d b_above d_above).0 h), λ h. (by_whole a c b d b_above d_above).1 (subst₂ ◌≤ℤ◌ (sym e) (sym f) h))

  pub both_above : pos 0 ≤ℤ a → pos 0 ≤ℤ c → Below ↔ (unsigned_abs a * d ≤ unsigned_abs c * b)
  both_above p q = let by = through (pos (unsigned_abs a * d)) (pos (unsigned_abs c * b)) (size_times a d p) (size_times c b q) in
      (λ h. to (unsigned_abs a * d) (unsigned_abs c * b) (by.0 h), λ h. by.1 (from (unsigned_abs a * d) (unsigned_abs c * b) h))
    where
      to : (m n : ℕ) → pos m ≤ℤ pos n → m ≤ n
      to m n h = Prim.omega (arith, ints, h)

      from : (m n : ℕ) → m ≤ n → pos m ≤ℤ pos n
      from m n h = Prim.omega (arith, ints, h)

  pub both_below : a <ℤ pos 0 → c <ℤ pos 0 → Below ↔ (unsigned_abs c * b ≤ unsigned_abs a * d)
  both_below p q = let by = through (neg_ℤ (pos (unsigned_abs a * d))) (neg_ℤ (pos (unsigned_abs c * b))) (below_times a d p) (below_times c b q) in
      (λ h. to (unsigned_abs a * d) (unsigned_abs c * b) (by.0 h), λ h. by.1 (from (unsigned_abs a * d) (unsigned_abs c * b) h))
    where
      to : (m n : ℕ) → neg_ℤ (pos m) ≤ℤ neg_ℤ (pos n) → n ≤ m
      to m n h = Prim.omega (arith, ints, h)

      from : (m n : ℕ) → n ≤ m → neg_ℤ (pos m) ≤ℤ neg_ℤ (pos n)
      from m n h = Prim.omega (arith, ints, h)

  pub below_above : a <ℤ pos 0 → pos 0 ≤ℤ c → Below
  below_above p q = (through (neg_ℤ (pos (unsigned_abs a * d))) (pos (unsigned_abs c * b)) (below_times a d p) (size_times c b q)).1 (least (unsigned_abs a * d) (unsigned_abs c * b))
    where
      least : (m n : ℕ) → neg_ℤ (pos m) ≤ℤ pos n
      least m n = Prim.omega (arith, ints)

  pub above_below : pos 0 ≤ℤ a → c <ℤ pos 0 → ¬ Below
  above_below p q h = most (unsigned_abs a * d) (unsigned_abs c * b) (mul-pos (size_above c q) b_above)
      ((through (pos (unsigned_abs a * d)) (neg_ℤ (pos (unsigned_abs c * b))) (size_times a d p) (below_times c b q)).0 h)
    where
      most : (m n : ℕ) → 0 < n → pos m ≤ℤ neg_ℤ (pos n) → ⊥
      most m n p h = Prim.omega (arith, ints, p, h)

-- ---- by what the code computes
module _ (a c : ℤ) (b d m n e f : ℕ) (b_above : 0 < b) (d_above : 0 < d) (m_is : m ≡ unsigned_abs a) (n_is : n ≡ unsigned_abs c) (e_is : e ≡ d) (f_is : f ≡ b) where
  left : m * e ≡ unsigned_abs a * d
  left = ap (λ t. t * e) m_is ∙ ap (λ t. unsigned_abs a * t) e_is

  right : n * f ≡ unsigned_abs c * b
  right = ap (λ t. t * f) n_is ∙ ap (λ t. unsigned_abs c * t) f_is

  pub tested_above : pos 0 ≤ℤ a → pos 0 ≤ℤ c → IsTrue (leb (m * e) (n * f)) ↔ (over a b ≤ℚ over c d)
  tested_above p q = let by = both_above a c b d b_above d_above p q in
      (λ t. by.1 (subst₂ ◌≤◌ left right (leb-true (m * e) (n * f) t)), λ h. le-leb (m * e) (n * f) (subst₂ ◌≤◌ (sym left) (sym right) (by.0 h)))

  pub tested_below : a <ℤ pos 0 → c <ℤ pos 0 → IsTrue (leb (n * f) (m * e)) ↔ (over a b ≤ℚ over c d)
  tested_below p q = let by = both_below a c b d b_above d_above p q in
      (λ t. by.1 (subst₂ ◌≤◌ right left (leb-true (n * f) (m * e) t)), λ h. le-leb (n * f) (m * e) (subst₂ ◌≤◌ (sym right) (sym left) (by.0 h)))
