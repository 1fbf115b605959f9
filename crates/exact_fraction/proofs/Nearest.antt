-- The laws of the nearest whole number of units: it keeps the order, there is one, and what lies between two numbers of one nearest has it too.
use Rattle.std.specs.Prelude.{◌≡◌, ℕ, ◌<◌, ◌≤◌, ◌+◌, ◌*◌, ◌^◌, ℤ, pos, negsuc, ◌+ℤ◌, ◌-ℤ◌, ◌*ℤ◌, neg_ℤ, ◌<ℤ◌, ◌≤ℤ◌, unsigned_abs, refl, [], ◌∷◌}
use Rattle.std.proofs.Common.{arith, ap, sym, ◌∙◌, subst, subst₂, inl, inr, w64, to_z, of_z}
use Rattle.std.proofs.Math.IntN.{*ℤ_comm}
use Rattle.std.proofs.Math.Nat.{mul-pos, zero-lt-suc}
use Rattle.std.proofs.lemmas.Int.{ints, by_lt_z, fits_signed_from_abs, to_z-of_z, to_z_pos}
use Rattle.fraction_theory.specs.Fraction.{Fraction, whole, ◌+ℚ◌, ◌-ℚ◌, ◌*ℚ◌, neg_ℚ, unsigned_abs-neg}
use Rattle.fraction_theory.specs.Order.{◌≤ℚ◌, ◌<ℚ◌, NonNeg}
use Rattle.fraction_theory.specs.Signs.{abs_ℚ}
use Rattle.fraction_theory.proofs.Ring.{at, pnil, pone, pneg, ◌⊕◌, ◌⊗◌, by_ring, by_ring1}
use Rattle.fraction_theory.proofs.FieldLaws.{ring_ℚ, whole_is, whole-+ℚ, whole-*ℚ, whole-neg, widen}
use Rattle.fraction_theory.proofs.FractionLaws.{same_value, itself, plus_is, times_is, over_is, Is}
use Rattle.fraction_theory.proofs.OrderLaws.{≤ℚ-or-<ℚ, <ℚ-≤ℚ, ≤ℚ_trans, ≤ℚ_refl, ≤ℚ_antisym, ≤ℚ_of_same, *ℚ-≤ℚ, by_le1, by_le2, NonNeg-one, NonNeg-plus, NonNeg-times, NonNeg_to, *ℚ-≤ℚ_cancel, not-≤ℚ, whole-≤ℚ}
use Rattle.fraction_theory.proofs.SignLaws.{abs_above, abs_below, abs_within, abs_opposite}
use Rattle.exact_fraction.specs.Nearest.{IsNearest, NearestKeepsOrder, OneNearest, in_units, half}

-- ---- absolute values
abs_most : (x : Fraction) → x ≤ℚ abs_ℚ x
abs_most x = elim (≤ℚ-or-<ℚ x (whole (pos 0))) [
  | inl below ↦ subst (λ t. x ≤ℚ t) (sym (abs_below x below)) (by_le2 (x ∷ []) (at 0) (pneg (at 0)) pone (at 0) pnil pone (at 0) pnil NonNeg-one below NonNeg-one below refl)
  | inr above ↦ ≤ℚ_of_same x (abs_ℚ x) (sym (abs_above x (<ℚ-≤ℚ (whole (pos 0)) x above)))
]

opposite_within : (x : Fraction) → neg_ℚ x ≤ℚ abs_ℚ x
opposite_within x = subst (λ t. neg_ℚ x ≤ℚ t) (abs_opposite x) (abs_most (neg_ℚ x))

-- ---- one half
whole_nonneg : (n : ℕ) → NonNeg (whole (pos n))
unfolding whole
whole_nonneg n = record { sign = Prim.omega (arith, ints) }

one_of_four : Is (whole (pos 1)) (pos 4) 4
unfolding whole
one_of_four = record { cross = refl }

twice_half : half +ℚ half ≡ whole (pos 1)
twice_half = same_value (half +ℚ half) (whole (pos 1)) (pos 4) 4 (zero-lt-suc 3) (plus_is half half (pos 1) (pos 1) 2 2 (over_is (pos 1) 2 (zero-lt-suc 1)) (over_is (pos 1) 2 (zero-lt-suc 1))) one_of_four

one_above : ¬ (whole (pos 1) ≤ℚ whole (pos 0))
unfolding whole
one_above h = Prim.omega (arith, ints, h.cross)

-- ---- numbers in units: u is near w
abbrev IsNear : Fraction → Fraction → Type 0
IsNear u w = (abs_ℚ (u -ℚ w) ≤ℚ half) × (abs_ℚ (u -ℚ w) ≡ half → abs_ℚ u ≤ℚ abs_ℚ w)

not_above : (u w : Fraction) → IsNear u w → (u -ℚ w) ≤ℚ half
not_above u w h = ≤ℚ_trans (u -ℚ w) (abs_ℚ (u -ℚ w)) half (abs_most (u -ℚ w)) h.0

not_below : (u w : Fraction) → IsNear u w → neg_ℚ (u -ℚ w) ≤ℚ half
not_below u w h = ≤ℚ_trans (neg_ℚ (u -ℚ w)) (abs_ℚ (u -ℚ w)) half (opposite_within (u -ℚ w)) h.0

-- between two that are near w
near_between : (a u b w : Fraction) → a ≤ℚ u → u ≤ℚ b → IsNear a w → IsNear b w → IsNear u w
near_between a u b w low high na nb = (
  abs_within (u -ℚ w) half
      (by_le2 (a ∷ u ∷ w ∷ half ∷ []) (pneg (at 3)) (at 1 ⊕ pneg (at 2)) pone (at 0) (at 1) pone (pneg (at 0 ⊕ pneg (at 2))) (at 3) NonNeg-one low NonNeg-one (not_below a w na) refl)
      (by_le2 (b ∷ u ∷ w ∷ half ∷ []) (at 1 ⊕ pneg (at 2)) (at 3) pone (at 1) (at 0) pone (at 0 ⊕ pneg (at 2)) (at 3) NonNeg-one high NonNeg-one (not_above b w nb) refl),
  away,
)
  where
    away : abs_ℚ (u -ℚ w) ≡ half → abs_ℚ u ≤ℚ abs_ℚ w
    away e = elim (≤ℚ-or-<ℚ (u -ℚ w) (whole (pos 0))) [
      | inl below ↦
          let at_half : half ≤ℚ neg_ℚ (u -ℚ w) = ≤ℚ_of_same half (neg_ℚ (u -ℚ w)) (sym e ∙ abs_below (u -ℚ w) below) in
          let same : u ≡ a = ≤ℚ_antisym u a (by_le2 (a ∷ u ∷ w ∷ half ∷ []) (at 1) (at 0) pone (pneg (at 0 ⊕ pneg (at 2))) (at 3) pone (at 3) (pneg (at 1 ⊕ pneg (at 2))) NonNeg-one (not_below a w na) NonNeg-one at_half refl) low in
          subst (λ t. abs_ℚ t ≤ℚ abs_ℚ w) (sym same) (na.1 (subst (λ t. abs_ℚ (t -ℚ w) ≡ half) same e))
      | inr above ↦
          let at_half : half ≤ℚ (u -ℚ w) = ≤ℚ_of_same half (u -ℚ w) (sym e ∙ abs_above (u -ℚ w) (<ℚ-≤ℚ (whole (pos 0)) (u -ℚ w) above)) in
          let same : u ≡ b = ≤ℚ_antisym u b high (by_le2 (b ∷ u ∷ w ∷ half ∷ []) (at 0) (at 1) pone (at 0 ⊕ pneg (at 2)) (at 3) pone (at 3) (at 1 ⊕ pneg (at 2)) NonNeg-one (not_above b w nb) NonNeg-one at_half refl) in
          subst (λ t. abs_ℚ t ≤ℚ abs_ℚ w) (sym same) (nb.1 (subst (λ t. abs_ℚ (t -ℚ w) ≡ half) same e))
    ]

in_units_order : (places : ℕ) (x y : Fraction) → x ≤ℚ y → in_units places x ≤ℚ in_units places y
in_units_order places x y h = *ℚ-≤ℚ (whole (pos (10 ^ places))) x y (whole_nonneg (10 ^ places)) h

-- what lies between two numbers of one nearest number of units has the same
pub nearest_between : (places : ℕ) (a q b : Fraction) (n : ℤ) → a ≤ℚ q → q ≤ℚ b → IsNearest places a n → IsNearest places b n → IsNearest places q n
nearest_between places a q b n low high na nb =
    let near = near_between (in_units places a) (in_units places q) (in_units places b) (whole n) (in_units_order places a q low) (in_units_order places q b high) (na.within, na.away) (nb.within, nb.away) in
    record { within = near.0; away = near.1 }

-- ---- the order
half_above : ¬ (half ≤ℚ whole (pos 0))
half_above h = one_above (by_le2 (half ∷ whole (pos 1) ∷ []) (at 1) pnil (pone ⊕ pone) (at 0) pnil pone (at 1) (at 0 ⊕ at 0) NonNeg-one2 h NonNeg-one (≤ℚ_of_same (whole (pos 1)) (half +ℚ half) (sym twice_half)) refl)
  where
    NonNeg-one2 : NonNeg (whole (pos 1) +ℚ whole (pos 1))
    NonNeg-one2 = NonNeg-plus (whole (pos 1)) (whole (pos 1)) NonNeg-one NonNeg-one

half_size : abs_ℚ half ≡ half
half_size = abs_above half (elim (≤ℚ-or-<ℚ half (whole (pos 0))) [ inl h ↦ absurd (half_above h) | inr h ↦ <ℚ-≤ℚ (whole (pos 0)) half h ])

-- a greater number is near no less whole number: all of these would be one, and half a unit from both, of which one is nearer to 0
module _ (u v m n : Fraction) (nu : IsNear u m) (nv : IsNear v n) (low : u ≤ℚ v) (next : (n +ℚ whole (pos 1)) ≤ℚ m) where
  up : v ≤ℚ (n +ℚ half)
  up = by_le1 (v ∷ n ∷ half ∷ []) (at 0) (at 1 ⊕ at 2) pone (at 0 ⊕ pneg (at 1)) (at 2) NonNeg-one (not_above v n nv) refl

  down : (m -ℚ half) ≤ℚ u
  down = by_le1 (u ∷ m ∷ half ∷ []) (at 1 ⊕ pneg (at 2)) (at 0) pone (pneg (at 0 ⊕ pneg (at 1))) (at 2) NonNeg-one (not_below u m nu) refl

  middle : (n +ℚ half) ≤ℚ (m -ℚ half)
  middle = by_le2 (m ∷ n ∷ half ∷ []) (at 1 ⊕ at 2) (at 0 ⊕ pneg (at 2)) pone (at 1 ⊕ pone) (at 0) pone (at 2 ⊕ at 2) pone NonNeg-one next NonNeg-one (≤ℚ_of_same (half +ℚ half) (whole (pos 1)) twice_half) refl

  v_is : v ≡ n +ℚ half
  v_is = ≤ℚ_antisym v (n +ℚ half) up (≤ℚ_trans (n +ℚ half) (m -ℚ half) v middle (≤ℚ_trans (m -ℚ half) u v down low))

  u_is : u ≡ m -ℚ half
  u_is = ≤ℚ_antisym u (m -ℚ half) (≤ℚ_trans u v (m -ℚ half) low (≤ℚ_trans v (n +ℚ half) (m -ℚ half) up middle)) down

  v_most : abs_ℚ v ≤ℚ abs_ℚ n
  v_most = nv.1 (ap abs_ℚ (by_ring1 ring_ℚ (v ∷ n ∷ half ∷ []) (at 0 ⊕ pneg (at 1)) (at 2) pone (at 0) (at 1 ⊕ at 2) v_is refl) ∙ half_size)

  u_most : abs_ℚ u ≤ℚ abs_ℚ m
  u_most = nu.1 (ap abs_ℚ (by_ring1 ring_ℚ (u ∷ m ∷ half ∷ []) (at 0 ⊕ pneg (at 1)) (pneg (at 2)) pone (at 0) (at 1 ⊕ pneg (at 2)) u_is refl) ∙ abs_opposite half ∙ half_size)

  -- the lesser one is not at or above 0
  not_at_least : ¬ (whole (pos 0) ≤ℚ n)
  not_at_least h = half_above (by_le2 (v ∷ n ∷ half ∷ []) (at 2) pnil pone (at 0) (at 1) pone (at 1 ⊕ at 2) (at 0) NonNeg-one
      (≤ℚ_trans v (abs_ℚ v) n (abs_most v) (subst (λ t. abs_ℚ v ≤ℚ t) (abs_above n h) v_most)) NonNeg-one (≤ℚ_of_same (n +ℚ half) v (sym v_is)) refl)

  -- nor is the greater one at or below it
  not_at_most : ¬ (m ≤ℚ whole (pos 0))
  not_at_most h = half_above (by_le2 (u ∷ m ∷ half ∷ []) (at 2) pnil pone (pneg (at 0)) (pneg (at 1)) pone (at 0) (at 1 ⊕ pneg (at 2)) NonNeg-one
      (≤ℚ_trans (neg_ℚ u) (abs_ℚ u) (neg_ℚ m) (opposite_within u) (subst (λ t. abs_ℚ u ≤ℚ t) (abs_below m h) u_most)) NonNeg-one (≤ℚ_of_same u (m -ℚ half) u_is) refl)

  one_apart : m ≤ℚ (n +ℚ whole (pos 1))
  one_apart = by_le2 (m ∷ n ∷ half ∷ []) (at 0) (at 1 ⊕ pone) pone (at 0 ⊕ pneg (at 2)) (at 1 ⊕ at 2) pone (at 2 ⊕ at 2) pone NonNeg-one
      (≤ℚ_trans (m -ℚ half) u (n +ℚ half) down (≤ℚ_trans u v (n +ℚ half) low up)) NonNeg-one (≤ℚ_of_same (half +ℚ half) (whole (pos 1)) twice_half) refl

near_apart : (u v : Fraction) (m n : ℤ) → u ≤ℚ v → IsNear u (whole m) → IsNear v (whole n) → ¬ (n <ℤ m)
near_apart u v m n low nu nv h =
    let next : (whole n +ℚ whole (pos 1)) ≤ℚ whole m = subst (λ t. t ≤ℚ whole m) (whole-+ℚ n (pos 1)) (whole-≤ℚ (n +ℤ pos 1) m (Prim.omega (arith, ints, h))) in
    by_lt_z n (pos 0)
    (λ k. not_at_most u v (whole m) (whole n) nu nv low next
    (≤ℚ_trans (whole m) (whole n +ℚ whole (pos 1)) (whole (pos 0)) (one_apart u v (whole m) (whole n) nu nv low next)
    (subst (λ t. t ≤ℚ whole (pos 0)) (whole-+ℚ n (pos 1)) (whole-≤ℚ (n +ℤ pos 1) (pos 0) (Prim.omega (arith, ints, k))))))
    (λ k. not_at_least u v (whole m) (whole n) nu nv low next (whole-≤ℚ (pos 0) n k))

-- a number that is not less has no lesser nearest number
pub nearest_order : NearestKeepsOrder
nearest_order places x y m n low nx ny = by_lt_z n m (λ h. absurd (near_apart (in_units places x) (in_units places y) m n (in_units_order places x y low) (nx.within, nx.away) (ny.within, ny.away) h)) (λ h. h)

pub one_nearest : OneNearest
one_nearest places q m n hm hn = Prim.omega (arith, ints, nearest_order places q q m n (≤ℚ_refl q) hm hn, nearest_order places q q n m (≤ℚ_refl q) hn hm)

-- ---- by whole numbers
one_factor : (d : ℕ) → 1 * d ≡ d * 1
one_factor d = Prim.omega arith

-- the denominator times a number
by_den : (y : Fraction) → whole (pos y.den) *ℚ y ≡ whole y.num
by_den y = same_value (whole (pos y.den) *ℚ y) (whole y.num) (pos y.den *ℤ y.num) (1 * y.den) (mul-pos (zero-lt-suc 0) y.above)
    (times_is (whole (pos y.den)) y (pos y.den) y.num 1 y.den (whole_is (pos y.den)) (itself y))
    (subst (λ t. Is (whole y.num) t (1 * y.den)) (*ℤ_comm y.num (pos y.den)) (widen (whole y.num) y.num 1 y.den (whole_is y.num)))

whole_cancel : (m n : ℤ) → whole m ≤ℚ whole n → m ≤ℤ n
unfolding whole
whole_cancel m n h = Prim.omega (arith, ints, h.cross)

den_above : (y : Fraction) → whole (pos 0) <ℚ whole (pos y.den)
unfolding whole
den_above y = record { cross = Prim.omega (arith, ints, y.above) }

whole_doubled : (n : ℕ) → whole (pos (2 * n)) ≡ whole (pos n) +ℚ whole (pos n)
whole_doubled n = ap (λ t. whole (pos t)) (doubled n) ∙ whole-+ℚ (pos n) (pos n)
  where
    doubled : (n : ℕ) → 2 * n ≡ n + n
    doubled n = Prim.omega arith

-- a number at or above 0 of the parts N and d, in units of which k are a whole, and s units
module _ (k N s : ℕ) (y : Fraction) (is : y.num ≡ pos N) (low : 2 * (s * y.den) ≤ 2 * (N * k) + y.den) (high : 2 * (N * k) < 2 * (s * y.den) + y.den) where
  abbrev K : Fraction
  K = whole (pos k)

  abbrev D : Fraction
  D = whole (pos y.den)

  abbrev S : Fraction
  S = whole (pos s)

  abbrev M : Fraction
  M = whole (pos N)

  parts : D *ℚ y ≡ M
  parts = by_den y ∙ ap whole is

  left : whole (pos (2 * (s * y.den))) ≡ S *ℚ D +ℚ S *ℚ D
  left = whole_doubled (s * y.den) ∙ ap (λ t. t +ℚ t) (whole-*ℚ (pos s) (pos y.den))

  right : whole (pos (2 * (N * k))) ≡ M *ℚ K +ℚ M *ℚ K
  right = whole_doubled (N * k) ∙ ap (λ t. t +ℚ t) (whole-*ℚ (pos N) (pos k))

  low_whole : (S *ℚ D +ℚ S *ℚ D) ≤ℚ (M *ℚ K +ℚ M *ℚ K +ℚ D)
  low_whole = subst₂ ◌≤ℚ◌ left (whole-+ℚ (pos (2 * (N * k))) (pos y.den) ∙ ap (λ t. t +ℚ D) right) (whole-≤ℚ (pos (2 * (s * y.den))) (pos (2 * (N * k) + y.den)) (Prim.omega (arith, ints, low)))

  -- two times as much
  low_units : (S +ℚ S) ≤ℚ (K *ℚ y +ℚ K *ℚ y +ℚ whole (pos 1))
  low_units = *ℚ-≤ℚ_cancel D (S +ℚ S) (K *ℚ y +ℚ K *ℚ y +ℚ whole (pos 1)) (den_above y)
      (by_le2 (D ∷ S ∷ K ∷ y ∷ M ∷ []) (at 0 ⊗ (at 1 ⊕ at 1)) (at 0 ⊗ (at 2 ⊗ at 3 ⊕ at 2 ⊗ at 3 ⊕ pone)) pone (at 1 ⊗ at 0 ⊕ at 1 ⊗ at 0) (at 4 ⊗ at 2 ⊕ at 4 ⊗ at 2 ⊕ at 0)
      (at 2 ⊕ at 2) (at 4) (at 0 ⊗ at 3) NonNeg-one low_whole (NonNeg-plus K K (whole_nonneg k) (whole_nonneg k)) (≤ℚ_of_same M (D *ℚ y) (sym parts)) refl)

  high_units : ¬ ((S +ℚ S +ℚ whole (pos 1)) ≤ℚ (K *ℚ y +ℚ K *ℚ y))
  high_units h =
      let over_den : (S *ℚ D +ℚ S *ℚ D +ℚ D) ≤ℚ (M *ℚ K +ℚ M *ℚ K) = by_le2 (D ∷ S ∷ K ∷ y ∷ M ∷ []) (at 1 ⊗ at 0 ⊕ at 1 ⊗ at 0 ⊕ at 0) (at 4 ⊗ at 2 ⊕ at 4 ⊗ at 2) (at 0) (at 1 ⊕ at 1 ⊕ pone) (at 2 ⊗ at 3 ⊕ at 2 ⊗ at 3)
      (at 2 ⊕ at 2) (at 0 ⊗ at 3) (at 4) (whole_nonneg y.den) h (NonNeg-plus K K (whole_nonneg k) (whole_nonneg k)) (≤ℚ_of_same (D *ℚ y) M parts) refl in
      let by_ints = whole_cancel (pos (2 * (s * y.den) + y.den)) (pos (2 * (N * k))) (subst₂ ◌≤ℚ◌ (sym (whole-+ℚ (pos (2 * (s * y.den))) (pos y.den) ∙ ap (λ t. t +ℚ D) left)) (sym right) over_den) in
      Prim.omega (arith, ints, by_ints, high)

  abbrev u : Fraction
  u = K *ℚ y

  two_above : whole (pos 0) <ℚ (whole (pos 1) +ℚ whole (pos 1))
  two_above = not-≤ℚ (whole (pos 1) +ℚ whole (pos 1)) (whole (pos 0)) (λ h. one_above (by_le2 (half ∷ []) pone pnil pone (pone ⊕ pone) pnil pone pnil pone NonNeg-one h NonNeg-one (NonNeg_to (whole (pos 1)) NonNeg-one) refl))

  -- s is at most one half above, and less than that below
  not_over : neg_ℚ half ≤ℚ (u -ℚ S)
  not_over = *ℚ-≤ℚ_cancel (whole (pos 1) +ℚ whole (pos 1)) (neg_ℚ half) (u -ℚ S) two_above
      (by_le2 (u ∷ S ∷ half ∷ []) ((pone ⊕ pone) ⊗ pneg (at 2)) ((pone ⊕ pone) ⊗ (at 0 ⊕ pneg (at 1))) pone (at 1 ⊕ at 1) (at 0 ⊕ at 0 ⊕ pone) pone pone (at 2 ⊕ at 2) NonNeg-one low_units NonNeg-one (≤ℚ_of_same (whole (pos 1)) (half +ℚ half) (sym twice_half)) refl)

  not_under : ¬ (half ≤ℚ (u -ℚ S))
  not_under h = high_units (by_le2 (u ∷ S ∷ half ∷ []) (at 1 ⊕ at 1 ⊕ pone) (at 0 ⊕ at 0) (pone ⊕ pone) (at 2) (at 0 ⊕ pneg (at 1)) pone pone (at 2 ⊕ at 2) (NonNeg-plus (whole (pos 1)) (whole (pos 1)) NonNeg-one NonNeg-one) h NonNeg-one (≤ℚ_of_same (whole (pos 1)) (half +ℚ half) (sym twice_half)) refl)

  near_above : IsNear u S
  near_above = (
    abs_within (u -ℚ S) half not_over (<ℚ-≤ℚ (u -ℚ S) half (not-≤ℚ half (u -ℚ S) not_under)),
    λ e. elim (≤ℚ-or-<ℚ (u -ℚ S) (whole (pos 0))) [
      | inl below ↦ subst₂ ◌≤ℚ◌ (sym (abs_above u (NonNeg_to u (NonNeg-times K y (whole_nonneg k) (record { sign = subst (λ t. pos 0 ≤ℤ t) (sym is) (least N) }))))) (sym (abs_above S (NonNeg_to S (whole_nonneg s))))
          (by_le1 (u ∷ S ∷ []) (at 0) (at 1) pone (at 0 ⊕ pneg (at 1)) pnil NonNeg-one below refl)
      | inr above ↦ absurd (not_under (≤ℚ_of_same half (u -ℚ S) (sym e ∙ abs_above (u -ℚ S) (<ℚ-≤ℚ (whole (pos 0)) (u -ℚ S) above))))
    ],
  )
    where
      least : (n : ℕ) → pos 0 ≤ℤ pos n
      least n = Prim.omega (arith, ints)

near_opposite : (u w : Fraction) → IsNear u w → IsNear (neg_ℚ u) (neg_ℚ w)
near_opposite u w h =
    let apart : neg_ℚ u -ℚ neg_ℚ w ≡ neg_ℚ (u -ℚ w) = by_ring ring_ℚ (u ∷ w ∷ []) (pneg (at 0) ⊕ pneg (pneg (at 1))) (pneg (at 0 ⊕ pneg (at 1))) refl in
    let size : abs_ℚ (neg_ℚ u -ℚ neg_ℚ w) ≡ abs_ℚ (u -ℚ w) = ap abs_ℚ apart ∙ abs_opposite (u -ℚ w) in (
      subst (λ t. t ≤ℚ half) (sym size) h.0,
      λ e. subst₂ ◌≤ℚ◌ (sym (abs_opposite u)) (sym (abs_opposite w)) (h.1 (sym size ∙ e)),
    )

-- the nearest number of a fraction by that of its size
module _ (places s : ℕ) (x : Fraction) (low : 2 * (s * x.den) ≤ 2 * (unsigned_abs x.num * 10 ^ places) + x.den) (high : 2 * (unsigned_abs x.num * 10 ^ places) < 2 * (s * x.den) + x.den) where
  pub nearest_above : pos 0 ≤ℤ x.num → IsNearest places x (pos s)
  nearest_above h =
      let near = near_above (10 ^ places) (unsigned_abs x.num) s x (size_at_least x.num h) low high in
      record { within = near.0; away = near.1 }
    where
      size_at_least : (z : ℤ) → pos 0 ≤ℤ z → z ≡ pos (unsigned_abs z)
      size_at_least (pos n) h = refl
      size_at_least (negsuc n) h = absurd h.le

  near_of_opposite : x.num <ℤ pos 0 → IsNear (in_units places (neg_ℚ x)) (whole (pos s))
  unfolding neg_ℚ
  near_of_opposite h = near_above (10 ^ places) (unsigned_abs x.num) s (neg_ℚ x) (opposite_size x.num h) low high
    where
      opposite_size : (z : ℤ) → z <ℤ pos 0 → neg_ℤ z ≡ pos (unsigned_abs z)
      opposite_size (pos n) h = absurd (Prim.omega (arith, ints))
      opposite_size (negsuc n) h = refl

  pub nearest_below : x.num <ℤ pos 0 → IsNearest places x (neg_ℤ (pos s))
  nearest_below h =
      let near = near_opposite (in_units places (neg_ℚ x)) (whole (pos s)) (near_of_opposite h) in
      let back : neg_ℚ (in_units places (neg_ℚ x)) ≡ in_units places x = by_ring ring_ℚ (whole (pos (10 ^ places)) ∷ x ∷ []) (pneg (at 0 ⊗ pneg (at 1))) (at 0 ⊗ at 1) refl in
      let near' : IsNear (in_units places x) (whole (neg_ℤ (pos s))) = subst₂ IsNear back (sym (whole-neg (pos s))) near in
      record { within = near'.0; away = near'.1 }

-- ---- by machine integers
num_most : (z : ℤ) (d : ℕ) → (z *ℤ pos 1) ≤ℤ (pos 1000 *ℤ pos d) → (neg_ℤ z *ℤ pos 1) ≤ℤ (pos 1000 *ℤ pos d) → unsigned_abs z ≤ 1000 * d
num_most (pos n) d p q = Prim.omega (arith, ints, p)
num_most (negsuc n) d p q = Prim.omega (arith, ints, q)

pub size_most : (x : Fraction) → abs_ℚ x ≤ℚ whole (pos 1000) → unsigned_abs x.num ≤ 1000 * x.den
unfolding whole neg_ℚ
size_most x h = num_most x.num x.den (≤ℚ_trans x (abs_ℚ x) (whole (pos 1000)) (abs_most x) h).cross (≤ℚ_trans (neg_ℚ x) (abs_ℚ x) (whole (pos 1000)) (opposite_within x) h).cross

negated : (s : ℕ) → s < 2 ^ 63 → to_z w64 (of_z w64 (pos 0 -ℤ to_z w64 s)) ≡ neg_ℤ (pos s)
negated s h =
    ap (λ t. to_z w64 (of_z w64 (pos 0 -ℤ t))) (to_z_pos w64 s h) ∙ ap (λ t. to_z w64 (of_z w64 t)) (from_zero s)
    ∙ to_z-of_z w64 (neg_ℤ (pos s)) (fits_signed_from_abs w64 (neg_ℤ (pos s)) (subst (λ t. t < 2 ^ 63) (sym (unsigned_abs-neg (pos s))) h))
  where
    from_zero : (s : ℕ) → pos 0 -ℤ pos s ≡ neg_ℤ (pos s)
    from_zero s = Prim.omega (arith, ints)

module _ (places s n k d : ℕ) (x : Fraction) (num : n ≡ unsigned_abs x.num) (units : k ≡ 10 ^ places) (den : d ≡ x.den) (low : 2 * (s * d) ≤ 2 * (n * k) + d) (high : 2 * (n * k) < 2 * (s * d) + d) (fits : s < 2 ^ 63) where
  of_parts : n * k ≡ unsigned_abs x.num * 10 ^ places
  of_parts = ap (λ t. t * k) num ∙ ap (λ t. unsigned_abs x.num * t) units

  of_den : s * d ≡ s * x.den
  of_den = ap (λ t. s * t) den

  low_at : 2 * (s * x.den) ≤ 2 * (unsigned_abs x.num * 10 ^ places) + x.den
  low_at = Prim.omega (arith, low, of_parts, of_den, den)

  high_at : 2 * (unsigned_abs x.num * 10 ^ places) < 2 * (s * x.den) + x.den
  high_at = Prim.omega (arith, high, of_parts, of_den, den)

  pub nearest_by : pos 0 ≤ℤ x.num → IsNearest places x (to_z w64 s)
  nearest_by h = subst (IsNearest places x) (sym (to_z_pos w64 s fits)) (nearest_above places s x low_at high_at h)

  pub nearest_by_opposite : x.num <ℤ pos 0 → IsNearest places x (to_z w64 (of_z w64 (pos 0 -ℤ to_z w64 s)))
  nearest_by_opposite h = subst (IsNearest places x) (sym (negated s fits)) (nearest_below places s x low_at high_at h)
