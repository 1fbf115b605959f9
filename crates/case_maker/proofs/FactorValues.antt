-- The factors of a ring by pair, and as whole numbers of 10^-6.
use Rattle.std.proofs.Common.{◌≡◌, ◌≢◌, ◌⊎◌, ◌≤◌, ◌<◌, ◌+◌, ◌-◌, ◌*◌, ◌/◌, ◌∙◌, ℕ, ℤ, pos, neg_ℤ, ◌+ℤ◌, Bool, true, false, ◌==◌, ◌&&◌, List, ◌∷◌, ◌++◌, map, flat_map, zero, suc, refl, sym, ap, ap₂, arith, inl, inr, eq-eqb, lt-ltb, le-ltb, mul_left_comm, if◌then◌else◌}
use Rattle.std.specs.List.{range_with_len}
use Rattle.std.proofs.lemmas.Int.{ints}
use Rattle.std.proofs.lemmas.Bool.Decides.{eqb_tells}
use Rattle.market_data.specs.Scales.{factor_one, IsRingSize}
use Rattle.market_data.specs.WholeSums.{int_sum}
use Rattle.market_model.specs.declared.participants.Factor.{Factor}
use Rattle.market_model.specs.Dispatch.{places}
use Rattle.market_model.specs.Factors.{factor_in, is_pair}
use Rattle.case_maker.specs.Rings.{factor_by, ring_factors, ring_shift}
use Rattle.case_maker.proofs.RingMarkets.{by-size}

-- ---- by pair
module _ (value : ℕ → ℕ → ℤ) (l i : ℕ) where
  abbrev row_from : ℕ → ℕ → ℕ → List Factor
  row_from k a m = map (factor_by value k) (range_with_len a m)

  -- a pair that its line or its place rules out
  not-pair : (k j : ℕ) → (k ≢ l) ⊎ (j ≢ i) → is_pair l i (factor_by value k j) ≡ false
  not-pair k j h = by (eqb_tells k l) (eqb_tells j i) h
    where
      by : ((k == l ≡ true) × (k ≡ l)) ⊎ ((k == l ≡ false) × (k ≢ l)) → ((j == i ≡ true) × (j ≡ i)) ⊎ ((j == i ≡ false) × (j ≢ i)) → (k ≢ l) ⊎ (j ≢ i) → ((k == l) && (j == i)) ≡ false
      by (inr s) t h = ap (λ (b : Bool). b && (j == i)) s.0
      by (inl s) (inr t) h = ap (λ (b : Bool). b && (j == i)) s.0 ∙ t.0
      by (inl s) (inl t) (inl h) = absurd (h s.1)
      by (inl s) (inl t) (inr h) = absurd (h t.1)

  one-more : (f : Factor) (fs : List Factor) (b : Bool) → is_pair l i f ≡ b → factor_in (f ∷ fs) l i ≡ (if b then f.value else factor_in fs l i)
  one-more f fs b e = ap (λ (t : Bool). if t then f.value else factor_in fs l i) e

  other-line : (k a m : ℕ) (rest : List Factor) → k ≢ l → factor_in (row_from k a m ++ rest) l i ≡ factor_in rest l i
  other-line k a zero rest h = refl
  other-line k a (suc m) rest h = one-more (factor_by value k a) (row_from k (a + 1) m ++ rest) false (not-pair k a (inl h)) ∙ other-line k (a + 1) m rest h

  its-line : (a m : ℕ) (rest : List Factor) → a ≤ i → i < a + m → factor_in (row_from l a m ++ rest) l i ≡ value l i
  its-line a zero rest low high = absurd (omega (arith, low, high))
  its-line a (suc m) rest low high = by (eqb_tells a i) (λ further. its-line (a + 1) m rest (omega (arith, low, further)) (omega (arith, high)))
    where
      by : ((a == i ≡ true) × (a ≡ i)) ⊎ ((a == i ≡ false) × (a ≢ i)) → (a ≢ i → factor_in (row_from l (a + 1) m ++ rest) l i ≡ value l i) → factor_in (row_from l a (suc m) ++ rest) l i ≡ value l i
      by (inl t) later = one-more (factor_by value l a) (row_from l (a + 1) m ++ rest) true (ap₂ (λ (b d : Bool). b && d) (eq-eqb l l refl) t.0) ∙ ap (value l) t.1
      by (inr t) later = one-more (factor_by value l a) (row_from l (a + 1) m ++ rest) false (not-pair l a (inr t.1)) ∙ later t.1

  lines-from : (n a m : ℕ) → i < n → a ≤ l → l < a + m → factor_in (flat_map (λ k. map (factor_by value k) (places n)) (range_with_len a m)) l i ≡ value l i
  lines-from n a zero lt low high = absurd (omega (arith, low, high))
  lines-from n a (suc m) lt low high = by (eqb_tells a l) (λ further. lines-from n (a + 1) m lt (omega (arith, low, further)) (omega (arith, high)))
    where
      by : ((a == l ≡ true) × (a ≡ l)) ⊎ ((a == l ≡ false) × (a ≢ l)) → (a ≢ l → factor_in (flat_map (λ k. map (factor_by value k) (places n)) (range_with_len (a + 1) m)) l i ≡ value l i)
          → factor_in (flat_map (λ k. map (factor_by value k) (places n)) (range_with_len a (suc m))) l i ≡ value l i
      by (inl t) later =
          ap (λ (k : ℕ). factor_in (map (factor_by value k) (places n) ++ flat_map (λ k. map (factor_by value k) (places n)) (range_with_len (a + 1) m)) l i) t.1
          ∙ its-line 0 n (flat_map (λ k. map (factor_by value k) (places n)) (range_with_len (a + 1) m)) (omega arith) (omega (arith, lt))
      by (inr t) later = other-line a 0 n (flat_map (λ k. map (factor_by value k) (places n)) (range_with_len (a + 1) m)) t.1 ∙ later t.1

pub factor-of : (value : ℕ → ℕ → ℤ) (n l i : ℕ) → l < n → i < n → factor_in (ring_factors value n) l i ≡ value l i
factor-of value n l i p q = lines-from value l i n 0 n q (omega arith) (omega (arith, p))

-- ---- one of n parts is whole
pub record HasParts (n : ℕ) : Type 0 where
  pub part : ℕ
  pub all : n * part ≡ factor_one
  pub shares : (k : ℕ) → k * factor_one / n ≡ k * part

pub size-parts : (n : ℕ) → IsRingSize n → HasParts n
size-parts n h =
    by-size HasParts
    (record { part = 250000000; all = refl; shares = λ k. omega arith })
    (record { part = 125000000; all = refl; shares = λ k. omega arith })
    (record { part = 62500000; all = refl; shares = λ k. omega arith })
    (record { part = 31250000; all = refl; shares = λ k. omega arith })
    (record { part = 15625000; all = refl; shares = λ k. omega arith })
    n h

module _ (n : ℕ) (parts : HasParts n) (i : ℕ) (lt : i < n) where
  abbrev along : ℕ
  along = i * parts.part

  abbrev against : ℕ
  against = (n - i) * parts.part

  pub both-ways : along + against ≡ factor_one
  both-ways =
      let all : i + (n - i) ≡ n = omega (arith, lt) in
      let sum : (i + (n - i)) * parts.part ≡ i * parts.part + (n - i) * parts.part = omega arith in
      sym sum ∙ ap (λ (k : ℕ). k * parts.part) all ∙ parts.all

  pub before : (l : ℕ) → l < i → ring_shift n l i ≡ neg_ℤ (pos against)
  before l h = ap (λ (b : Bool). if b then neg_ℤ (pos ((n - i) * factor_one / n)) else pos (i * factor_one / n)) (lt-ltb l i h) ∙ ap (λ (k : ℕ). neg_ℤ (pos k)) (parts.shares (n - i))

  pub behind : (l : ℕ) → i ≤ l → ring_shift n l i ≡ pos along
  behind l h = ap (λ (b : Bool). if b then neg_ℤ (pos ((n - i) * factor_one / n)) else pos (i * factor_one / n)) (le-ltb l i h) ∙ ap pos (parts.shares i)

  -- at a bus
  abbrev pub put_whole : ℕ → ℤ
  put_whole j = if i == j then pos factor_one else pos 0

  pub node : (j : ℕ) → ring_shift n (j + 1) i ≡ ring_shift n j i +ℤ put_whole (j + 1)
  node j = by (eqb_tells i (j + 1)) (order i j)
    where
      order : (a b : ℕ) → (a ≤ b) ⊎ (b < a)
      order zero b = inl (omega arith)
      order (suc a) zero = inr (omega arith)
      order (suc a) (suc b) = elim (order a b) [ inl h ↦ inl (omega (arith, h)) | inr h ↦ inr (omega (arith, h)) ]

      by : ((i == (j + 1) ≡ true) × (i ≡ j + 1)) ⊎ ((i == (j + 1) ≡ false) × (i ≢ j + 1)) → (i ≤ j) ⊎ (j < i) → ring_shift n (j + 1) i ≡ ring_shift n j i +ℤ put_whole (j + 1)
      by (inl t) h =
          let sum : along + against ≡ factor_one = both-ways in
          let step : pos along ≡ neg_ℤ (pos against) +ℤ pos factor_one = omega (arith, ints, sum) in
          behind (j + 1) (omega (arith, t.1)) ∙ step
          ∙ ap₂ (λ (u v : ℤ). u +ℤ v) (sym (before j (omega (arith, t.1)))) (ap (λ (b : Bool). if b then pos factor_one else pos 0) (sym t.0))
      by (inr t) (inl h) =
          let step : pos along ≡ pos along +ℤ pos 0 = omega (arith, ints) in
          behind (j + 1) (omega (arith, h)) ∙ step
          ∙ ap₂ (λ (u v : ℤ). u +ℤ v) (sym (behind j h)) (ap (λ (b : Bool). if b then pos factor_one else pos 0) (sym t.0))
      by (inr t) (inr h) =
          let step : neg_ℤ (pos against) ≡ neg_ℤ (pos against) +ℤ pos 0 = omega (arith, ints) in
          before (j + 1) (omega (arith, h, t.1)) ∙ step
          ∙ ap₂ (λ (u v : ℤ). u +ℤ v) (sym (before j h)) (ap (λ (b : Bool). if b then pos factor_one else pos 0) (sym t.0))

  -- round the ring
  sum-behind : (a m : ℕ) → i ≤ a → int_sum (λ l. ring_shift n l i) (range_with_len a m) ≡ pos (m * along)
  sum-behind a zero h = let e : pos 0 ≡ pos (0 * along) = ap pos (let z : 0 ≡ 0 * along = omega arith in z) in e
  sum-behind a (suc m) h =
      let more : along + m * along ≡ suc m * along = omega arith in
      let step : pos along +ℤ pos (m * along) ≡ pos (along + m * along) = omega (arith, ints) in
      ap₂ (λ (u v : ℤ). u +ℤ v) (behind a h) (sum-behind (a + 1) m (omega (arith, h))) ∙ step ∙ ap pos more

  sum-all : (x a m y : ℕ) → i ≡ a + x → m ≡ x + y → int_sum (λ l. ring_shift n l i) (range_with_len a m) ≡ neg_ℤ (pos (x * against)) +ℤ pos (y * along)
  sum-all zero a m y e f =
      let same : m ≡ y = omega (arith, f) in
      let none : 0 * against ≡ 0 = omega arith in
      let step : pos (y * along) ≡ neg_ℤ (pos 0) +ℤ pos (y * along) = omega (arith, ints) in
      sum-behind a m (omega (arith, e)) ∙ ap (λ (k : ℕ). pos (k * along)) same ∙ step ∙ ap (λ (k : ℕ). neg_ℤ (pos k) +ℤ pos (y * along)) (sym none)
  sum-all (suc x) a zero y e f = absurd (omega (arith, f))
  sum-all (suc x) a (suc m) y e f =
      let more : against + x * against ≡ suc x * against = omega arith in
      let step : neg_ℤ (pos against) +ℤ (neg_ℤ (pos (x * against)) +ℤ pos (y * along)) ≡ neg_ℤ (pos (against + x * against)) +ℤ pos (y * along) = omega (arith, ints) in
      ap₂ (λ (u v : ℤ). u +ℤ v) (before a (omega (arith, e))) (sum-all x (a + 1) m y (omega (arith, e)) (omega (arith, f))) ∙ step
      ∙ ap (λ (k : ℕ). neg_ℤ (pos k) +ℤ pos (y * along)) more

  pub round : int_sum (λ l. ring_shift n l i) (places n) ≡ pos 0
  round =
      let same : i * against ≡ (n - i) * along = mul_left_comm i (n - i) parts.part in
      sum-all i 0 n (n - i) (omega arith) (omega (arith, lt)) ∙ (let none : neg_ℤ (pos (i * against)) +ℤ pos ((n - i) * along) ≡ pos 0 = omega (arith, ints, same) in none)
