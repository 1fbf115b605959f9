-- The flows of an injection miss Kirchhoff's current law by the residuals times what goes in.
use Rattle.std.specs.Prelude.{◌≡◌, ℕ, ◌<◌, ◌≤◌, ◌==◌, ℤ, pos, negsuc, ◌+ℤ◌, ◌-ℤ◌, ◌≤ℤ◌, neg_ℤ, unsigned_abs, Bool, true, false, List, [], ◌∷◌, ◌++◌, if◌then◌else◌, refl}
use Rattle.std.proofs.Common.{zero, suc, ap, sym, subst, ◌∙◌, arith}
use Rattle.std.proofs.lemmas.Int.{ints}
use Rattle.std.proofs.lemmas.Bool.{ne_eqb, eq-eqb}
use Rattle.std.proofs.Math.Nat.{eq-or-lt_of_le}
use Rattle.std.specs.Prelude.{◌⊎◌}
use Rattle.std.proofs.Common.{inl, inr}
use mathlib.Core.Path.{ap₂}
use Rattle.fraction_theory.specs.Fraction.{Fraction, unsigned_abs-neg, whole, ◌+ℚ◌, ◌-ℚ◌, ◌*ℚ◌, neg_ℚ}
use Rattle.fraction_theory.specs.Order.{◌≤ℚ◌, NonNeg}
use Rattle.fraction_theory.specs.Signs.{abs_ℚ}
use Rattle.fraction_theory.specs.Sums.{sum_by}
use Rattle.fraction_theory.proofs.Ring.{by_ring, at, padd, pmul, pneg, pnil, nil_plus, times_nil}
use Rattle.fraction_theory.proofs.FieldLaws.{ring_ℚ, whole_is, one_is, whole-+ℚ, whole-neg, *ℚ_comm, *ℚ_one}
use Rattle.fraction_theory.proofs.IntegerLaws.{*ℤ-pos_one, zero≤-cancel, zero≤-times}
use Rattle.fraction_theory.proofs.FractionLaws.{Is, over_is, times_is, same_value}
use Rattle.fraction_theory.proofs.OrderLaws.{NonNeg_or, by_rest, le_to, ≤ℚ_refl, ≤ℚ_trans, ≤ℚ_of_same, +ℚ-≤ℚ, *ℚ-≤ℚ, whole-≤ℚ}
use Rattle.fraction_theory.proofs.SignLaws.{abs_above, abs_below, abs_within}
use Rattle.fraction_theory.proofs.SumLaws.{sum_by-append, sum_by-plus, sum_by-times, sum_by-nil, sum_by-exchange, sum_by-same}
use Rattle.std.specs.Prelude.{length, map, All, Contains, Option, Some, None, MatchOption}
use Rattle.std.specs.List.{flat_map}
use Rattle.std.specs.Option.{option_map_or}
use Rattle.fraction_theory.proofs.ListSums.{Contains-cons}
use Rattle.std.proofs.lemmas.List.Elements.{All-append, All-contains, Contains-append_left, Contains-append_right}
use Rattle.market_data.specs.WholeSums.{int_sum}
use Rattle.market_data.specs.Scales.{factor_one}
use Rattle.net_case.specs.declared.live_parts.NetBranch.{NetBranch}
use Rattle.net_paths.specs.Connection.{bus_number}
use Rattle.factor_tables.specs.Factors.{factor_at}
use Rattle.factor_residuals.specs.declared.spots.Spot.{Spot}
use Rattle.factor_residuals.specs.declared.spots.Residual.{Residual}
use Rattle.factor_residuals.specs.Kirchhoff.{taken, net_outflow, one_at, bus_spot}
use Rattle.factor_residuals.specs.Residuals.{IsMost, IsResidual, places_below, shift_column, shift_columns, bus_spots}
use Rattle.factor_residuals.specs.Injections.{billionths, taken_flow, greatest, LawOfInjections}

-- the flow over the branch of a row, by factors of rows and places
abbrev flow_by : (ℕ → ℕ → ℤ) → ℕ → (ℕ → Fraction) → ℕ → Fraction
flow_by h n p row = sum_by (λ i. billionths (h row i) *ℚ p i) (places_below n)

abbrev outflow_by : (ℕ → Fraction) → List NetBranch → ℕ → Fraction
outflow_by flow branches b = sum_by (taken_flow flow b) branches

abbrev miss : (ℕ → ℤ) → List NetBranch → ℕ → ℕ → ℕ → ℤ
miss flow branches source sink b = net_outflow flow branches b -ℤ one_at source b +ℤ one_at sink b

-- ---- billionths
billionths-whole : (n : ℤ) → billionths n ≡ whole n *ℚ billionths (pos 1)
billionths-whole n = same_value (billionths n) (whole n *ℚ billionths (pos 1)) n factor_one (Prim.omega arith) (over_is n factor_one (Prim.omega arith)) product
  where
    product : Is (whole n *ℚ billionths (pos 1)) n factor_one
    product = subst (λ m. Is (whole n *ℚ billionths (pos 1)) m factor_one) (*ℤ-pos_one n)
        (times_is (whole n) (billionths (pos 1)) n (pos 1) 1 factor_one (whole_is n) (over_is (pos 1) factor_one (Prim.omega arith)))

billionths-plus : (m n : ℤ) → billionths (m +ℤ n) ≡ billionths m +ℚ billionths n
billionths-plus m n = billionths-whole (m +ℤ n) ∙ ap (λ t. t *ℚ billionths (pos 1)) (whole-+ℚ m n)
    ∙ by_ring ring_ℚ (whole m ∷ whole n ∷ billionths (pos 1) ∷ []) (pmul (padd (at 0) (at 1)) (at 2)) (padd (pmul (at 0) (at 2)) (pmul (at 1) (at 2))) refl
    ∙ sym (ap₂ ◌+ℚ◌ (billionths-whole m) (billionths-whole n))

billionths-neg : (n : ℤ) → billionths (neg_ℤ n) ≡ neg_ℚ (billionths n)
billionths-neg n = billionths-whole (neg_ℤ n) ∙ ap (λ t. t *ℚ billionths (pos 1)) (whole-neg n)
    ∙ by_ring ring_ℚ (whole n ∷ billionths (pos 1) ∷ []) (pmul (pneg (at 0)) (at 1)) (pneg (pmul (at 0) (at 1))) refl ∙ sym (ap neg_ℚ (billionths-whole n))

minus-is : (m n : ℤ) → m -ℤ n ≡ m +ℤ neg_ℤ n
minus-is m n = Prim.omega (arith, ints)

billionths-minus : (m n : ℤ) → billionths (m -ℤ n) ≡ billionths m -ℚ billionths n
billionths-minus m n = ap billionths (minus-is m n) ∙ billionths-plus m (neg_ℤ n) ∙ ap (λ t. billionths m +ℚ t) (billionths-neg n)

billionths-none : billionths (pos 0) ≡ whole (pos 0)
billionths-none = billionths-whole (pos 0) ∙ *ℚ_comm (whole (pos 0)) (billionths (pos 1)) ∙ times_nil ring_ℚ (billionths (pos 1))

billionths-one : billionths (pos factor_one) ≡ whole (pos 1)
billionths-one = same_value (billionths (pos factor_one)) (whole (pos 1)) (pos factor_one) factor_one (Prim.omega arith) (over_is (pos factor_one) factor_one (Prim.omega arith)) (one_is (pos factor_one) factor_one refl)

-- ---- sums
-- the sum of a whole number of millionths times x
billionths-sum : {T : Type 0} (f : T → ℤ) (x : Fraction) (ls : List T) → sum_by (λ l. billionths (f l) *ℚ x) ls ≡ billionths (int_sum f ls) *ℚ x
billionths-sum f x [] = sym (ap (λ t. t *ℚ x) billionths-none ∙ *ℚ_comm (whole (pos 0)) x ∙ times_nil ring_ℚ x)
billionths-sum f x (l ∷ ls) = ap (λ t. (billionths (f l) *ℚ x) +ℚ t) (billionths-sum f x ls)
    ∙ by_ring ring_ℚ (billionths (f l) ∷ x ∷ billionths (int_sum f ls) ∷ []) (padd (pmul (at 0) (at 1)) (pmul (at 2) (at 1))) (pmul (padd (at 0) (at 2)) (at 1)) refl
    ∙ ap (λ t. t *ℚ x) (sym (billionths-plus (f l) (int_sum f ls)))

sum_by-minus : {T : Type 0} (f g : T → Fraction) (xs : List T) → sum_by (λ x. f x -ℚ g x) xs ≡ sum_by f xs -ℚ sum_by g xs
sum_by-minus f g [] = by_ring ring_ℚ [] pnil (padd pnil (pneg pnil)) refl
sum_by-minus f g (x ∷ xs) = ap (λ t. (f x -ℚ g x) +ℚ t) (sum_by-minus f g xs)
    ∙ by_ring ring_ℚ (f x ∷ g x ∷ sum_by f xs ∷ sum_by g xs ∷ []) (padd (padd (at 0) (pneg (at 1))) (padd (at 2) (pneg (at 3)))) (padd (padd (at 0) (at 2)) (pneg (padd (at 1) (at 3)))) refl

more-places : (f : ℕ → Fraction) (n : ℕ) → sum_by f (places_below (suc n)) ≡ sum_by f (places_below n) +ℚ f n
more-places f n = sum_by-append f (places_below n) (n ∷ []) ∙ ap (λ t. sum_by f (places_below n) +ℚ t) (ring_ℚ.plus_nil (f n))

-- ---- one branch
picked : (c : Bool) (h : ℕ → ℤ) (p : ℕ → Fraction) (is : List ℕ)
    → (if c then sum_by (λ i. billionths (h i) *ℚ p i) is else whole (pos 0)) ≡ sum_by (λ i. billionths (if c then h i else pos 0) *ℚ p i) is
picked true h p is = refl
picked false h p is = sym (sum_by-same (λ i. billionths (pos 0) *ℚ p i) (λ i. whole (pos 0)) is (λ i. ap (λ t. t *ℚ p i) billionths-none ∙ *ℚ_comm (whole (pos 0)) (p i) ∙ times_nil ring_ℚ (p i)) ∙ sum_by-nil is)

module _ (h : ℕ → ℕ → ℤ) (n : ℕ) (p : ℕ → Fraction) (b : ℕ) where
  one_branch : (l : NetBranch) → taken_flow (flow_by h n p) b l ≡ sum_by (λ i. billionths (taken (λ row. h row i) b l) *ℚ p i) (places_below n)
  one_branch l =
      let out : ℕ → ℤ = λ i. if l.from == b then h l.row i else pos 0 in
      let into : ℕ → ℤ = λ i. if l.to == b then h l.row i else pos 0 in
      ap₂ ◌-ℚ◌ (picked (l.from == b) (h l.row) p (places_below n)) (picked (l.to == b) (h l.row) p (places_below n))
      ∙ sym (sum_by-minus (λ i. billionths (out i) *ℚ p i) (λ i. billionths (into i) *ℚ p i) (places_below n))
      ∙ sum_by-same (λ i. (billionths (out i) *ℚ p i) -ℚ (billionths (into i) *ℚ p i)) (λ i. billionths (out i -ℤ into i) *ℚ p i) (places_below n)
      (λ i. by_ring ring_ℚ (billionths (out i) ∷ billionths (into i) ∷ p i ∷ []) (padd (pmul (at 0) (at 2)) (pneg (pmul (at 1) (at 2)))) (pmul (padd (at 0) (pneg (at 1))) (at 2)) refl
      ∙ ap (λ t. t *ℚ p i) (sym (billionths-minus (out i) (into i))))

  -- the net outflow, by columns
  by_columns : (branches : List NetBranch) → outflow_by (flow_by h n p) branches b ≡ sum_by (λ i. billionths (net_outflow (λ row. h row i) branches b) *ℚ p i) (places_below n)
  by_columns branches =
      sum_by-same (taken_flow (flow_by h n p) b) (λ l. sum_by (λ i. billionths (taken (λ row. h row i) b l) *ℚ p i) (places_below n)) branches one_branch
      ∙ sum_by-exchange (λ l i. billionths (taken (λ row. h row i) b l) *ℚ p i) branches (places_below n)
      ∙ sum_by-same (λ i. sum_by (λ l. billionths (taken (λ row. h row i) b l) *ℚ p i) branches) (λ i. billionths (net_outflow (λ row. h row i) branches b) *ℚ p i) (places_below n)
      (λ i. billionths-sum (taken (λ row. h row i) b) (p i) branches)

-- ---- what goes in
at-place : (c : Bool) (x : Fraction) → billionths (if c then pos factor_one else pos 0) *ℚ x ≡ (if c then x else whole (pos 0))
at-place true x = ap (λ t. t *ℚ x) billionths-one ∙ *ℚ_comm (whole (pos 1)) x ∙ *ℚ_one x
at-place false x = ap (λ t. t *ℚ x) billionths-none ∙ *ℚ_comm (whole (pos 0)) x ∙ times_nil ring_ℚ x

eq-not : (i b : ℕ) → i < b → (i == b) ≡ false
eq-not i b h = ne_eqb i b (Prim.omega (arith, h))

eq-same : (b : ℕ) → (b == b) ≡ true
eq-same b = eq-eqb b b refl

others-none : (p : ℕ → Fraction) (b n : ℕ) → n ≤ b → sum_by (λ i. billionths (one_at i b) *ℚ p i) (places_below n) ≡ whole (pos 0)
others-none p b zero h = refl
others-none p b (suc n) h =
    more-places (λ i. billionths (one_at i b) *ℚ p i) n
    ∙ ap₂ ◌+ℚ◌ (others-none p b n (Prim.omega (arith, h))) (at-place (n == b) (p n) ∙ ap (λ c. if c then p n else whole (pos 0)) (eq-not n b (Prim.omega (arith, h))))
    ∙ ring_ℚ.plus_nil (whole (pos 0))

goes-in : (p : ℕ → Fraction) (b n : ℕ) → b < n → sum_by (λ i. billionths (one_at i b) *ℚ p i) (places_below n) ≡ p b
goes-in p b zero h = absurd (Prim.omega (arith, h))
goes-in p b (suc n) h = more-places (λ i. billionths (one_at i b) *ℚ p i) n ∙ by (goes-in p b n) (eq-or-lt_of_le below)
  where
    below : b ≤ n
    below = Prim.omega (arith, h)

    by : (b < n → sum_by (λ i. billionths (one_at i b) *ℚ p i) (places_below n) ≡ p b) → (b ≡ n) ⊎ (b < n) → sum_by (λ i. billionths (one_at i b) *ℚ p i) (places_below n) +ℚ (billionths (one_at n b) *ℚ p n) ≡ p b
    by before (inl e) = ap₂ ◌+ℚ◌ (others-none p b n (Prim.omega (arith, e))) (at-place (n == b) (p n) ∙ ap (λ c. if c then p n else whole (pos 0)) (ap (λ m. m == b) (sym e) ∙ eq-same b))
        ∙ nil_plus ring_ℚ (p n) ∙ ap p (sym e)
    by before (inr l) = ap₂ ◌+ℚ◌ (before l) (at-place (n == b) (p n) ∙ ap (λ c. if c then p n else whole (pos 0)) (ne_eqb n b (Prim.omega (arith, l))))
        ∙ ring_ℚ.plus_nil (p b)

-- ---- sizes
billionths-≤ : (m n : ℤ) → m ≤ℤ n → billionths m ≤ℚ billionths n
billionths-≤ m n h =
    ≤ℚ_trans (billionths m) (billionths (pos 1) *ℚ whole m) (billionths n) (≤ℚ_of_same _ _ (billionths-whole m ∙ *ℚ_comm (whole m) (billionths (pos 1))))
    (≤ℚ_trans (billionths (pos 1) *ℚ whole m) (billionths (pos 1) *ℚ whole n) (billionths n) (*ℚ-≤ℚ (billionths (pos 1)) (whole m) (whole n) one_above (whole-≤ℚ m n h))
    (≤ℚ_of_same _ _ (*ℚ_comm (billionths (pos 1)) (whole n) ∙ sym (billionths-whole n))))
  where
    one_above : NonNeg (billionths (pos 1))
    one_above = record { sign = zero≤-cancel (billionths (pos 1)).num factor_one (Prim.omega arith) (subst (λ z. pos 0 ≤ℤ z) (sym (over_is (pos 1) factor_one (Prim.omega arith)).cross) (zero≤-times (pos 1) (billionths (pos 1)).den (Prim.omega (arith, ints)))) }

below-size : (m : ℤ) (g : ℕ) → unsigned_abs m ≤ g → (m ≤ℤ pos g) × (neg_ℤ m ≤ℤ pos g)
below-size (pos n) g h = (Prim.omega (arith, ints, h), Prim.omega (arith, ints, h))
below-size (negsuc n) g h = (Prim.omega (arith, ints, h), Prim.omega (arith, ints, h))

-- a product with a number of millionths of at most this size
product-≤ : (m : ℤ) (g : ℕ) (x : Fraction) → unsigned_abs m ≤ g → (billionths m *ℚ x) ≤ℚ (billionths (pos g) *ℚ abs_ℚ x)
product-≤ m g x h = by (NonNeg_or x)
  where
    by : NonNeg x ⊎ NonNeg (neg_ℚ x) → (billionths m *ℚ x) ≤ℚ (billionths (pos g) *ℚ abs_ℚ x)
    by (inl above) =
        let size : abs_ℚ x ≡ x = abs_above x (by_rest (x ∷ []) pnil (at 0) (at 0) above refl) in
        ≤ℚ_trans _ _ _ (≤ℚ_of_same _ _ (*ℚ_comm (billionths m) x))
        (≤ℚ_trans _ _ _ (*ℚ-≤ℚ x (billionths m) (billionths (pos g)) above (billionths-≤ m (pos g) (below-size m g h).0)) (≤ℚ_of_same _ _ (*ℚ_comm x (billionths (pos g)) ∙ ap (λ t. billionths (pos g) *ℚ t) (sym size))))
    by (inr below) =
        let size : abs_ℚ x ≡ neg_ℚ x = abs_below x (by_rest (x ∷ []) (at 0) pnil (pneg (at 0)) below refl) in
        let turned : billionths m *ℚ x ≡ neg_ℚ x *ℚ billionths (neg_ℤ m) =
        by_ring ring_ℚ (billionths m ∷ x ∷ []) (pmul (at 0) (at 1)) (pmul (pneg (at 1)) (pneg (at 0))) refl ∙ ap (λ t. neg_ℚ x *ℚ t) (sym (billionths-neg m)) in
        ≤ℚ_trans _ _ _ (≤ℚ_of_same _ _ turned)
        (≤ℚ_trans _ _ _ (*ℚ-≤ℚ (neg_ℚ x) (billionths (neg_ℤ m)) (billionths (pos g)) below (billionths-≤ (neg_ℤ m) (pos g) (below-size m g h).1))
        (≤ℚ_of_same _ _ (*ℚ_comm (neg_ℚ x) (billionths (pos g)) ∙ ap (λ t. billionths (pos g) *ℚ t) (sym size))))

sum-≤ : (f g : ℕ → Fraction) (n : ℕ) → ((i : ℕ) → i < n → f i ≤ℚ g i) → sum_by f (places_below n) ≤ℚ sum_by g (places_below n)
sum-≤ f g zero h = ≤ℚ_refl (whole (pos 0))
sum-≤ f g (suc n) h = ≤ℚ_trans _ _ _ (≤ℚ_of_same _ _ (more-places f n))
    (≤ℚ_trans _ _ _ (+ℚ-≤ℚ _ _ _ _ (sum-≤ f g n (λ i l. h i (Prim.omega (arith, l)))) (h n (Prim.omega arith))) (≤ℚ_of_same _ _ (sym (more-places g n))))

size-≤ : (x s : Fraction) → x ≤ℚ s → neg_ℚ x ≤ℚ s → abs_ℚ x ≤ℚ s
size-≤ x s h k = abs_within x s (by_rest (x ∷ s ∷ []) (pneg (at 1)) (at 0) (padd (at 1) (pneg (pneg (at 0)))) (le_to (neg_ℚ x) s k) refl) h

sum-neg : (f : ℕ → Fraction) (is : List ℕ) → neg_ℚ (sum_by f is) ≡ sum_by (λ i. neg_ℚ (f i)) is
sum-neg f [] = by_ring ring_ℚ [] (pneg pnil) pnil refl
sum-neg f (i ∷ is) = by_ring ring_ℚ (f i ∷ sum_by f is ∷ []) (pneg (padd (at 0) (at 1))) (padd (pneg (at 0)) (pneg (at 1))) refl ∙ ap (λ t. neg_ℚ (f i) +ℚ t) (sum-neg f is)

-- ---- the law
net-is : (x s k m : ℤ) → m ≡ x -ℤ s +ℤ k → x ≡ m +ℤ s -ℤ k
net-is x s k m e = Prim.omega (arith, ints, e)

module _ (h : ℕ → ℕ → ℤ) (branches : List NetBranch) (n reference : ℕ) (p : ℕ → Fraction) (b : ℕ) where
  missing : ℕ → ℤ
  missing i = miss (λ row. h row i) branches i reference b

  net : ℕ → ℤ
  net i = net_outflow (λ row. h row i) branches b

  one_column : (i : ℕ) → billionths (net i) *ℚ p i ≡ ((billionths (missing i) *ℚ p i) +ℚ (billionths (one_at i b) *ℚ p i)) -ℚ (billionths (one_at reference b) *ℚ p i)
  unfolding net missing
  one_column i =
      ap (λ t. billionths t *ℚ p i) (net-is (net i) (one_at i b) (one_at reference b) (missing i) refl)
      ∙ ap (λ t. t *ℚ p i) (billionths-minus (missing i +ℤ one_at i b) (one_at reference b) ∙ ap (λ t. t -ℚ billionths (one_at reference b)) (billionths-plus (missing i) (one_at i b)))
      ∙ by_ring ring_ℚ (billionths (missing i) ∷ billionths (one_at i b) ∷ billionths (one_at reference b) ∷ p i ∷ [])
      (pmul (padd (padd (at 0) (at 1)) (pneg (at 2))) (at 3)) (padd (padd (pmul (at 0) (at 3)) (pmul (at 1) (at 3))) (pneg (pmul (at 2) (at 3)))) refl

  difference : sum_by p (places_below n) ≡ whole (pos 0) → b < n → outflow_by (flow_by h n p) branches b -ℚ p b ≡ sum_by (λ i. billionths (missing i) *ℚ p i) (places_below n)
  unfolding net
  difference balanced within =
      let all = places_below n in
      let r = sum_by (λ i. billionths (missing i) *ℚ p i) all in
      let s = sum_by (λ i. billionths (one_at i b) *ℚ p i) all in
      let k = billionths (one_at reference b) in
      let out : outflow_by (flow_by h n p) branches b ≡ (r +ℚ s) -ℚ (k *ℚ sum_by p all) =
      by_columns h n p b branches
      ∙ sum_by-same (λ i. billionths (net i) *ℚ p i) (λ i. ((billionths (missing i) *ℚ p i) +ℚ (billionths (one_at i b) *ℚ p i)) -ℚ (k *ℚ p i)) all one_column
      ∙ sum_by-minus (λ i. (billionths (missing i) *ℚ p i) +ℚ (billionths (one_at i b) *ℚ p i)) (λ i. k *ℚ p i) all
      ∙ ap₂ ◌-ℚ◌ (sum_by-plus (λ i. billionths (missing i) *ℚ p i) (λ i. billionths (one_at i b) *ℚ p i) all) (sum_by-times k p all) in
      ap (λ t. t -ℚ p b) (out ∙ ap₂ (λ x y. (r +ℚ x) -ℚ (k *ℚ y)) (goes-in p b n within) balanced ∙ ap (λ t. (r +ℚ p b) -ℚ t) (times_nil ring_ℚ k))
      ∙ by_ring ring_ℚ (r ∷ p b ∷ []) (padd (padd (padd (at 0) (at 1)) (pneg pnil)) (pneg (at 1))) (at 0) refl

core_law : (h : ℕ → ℕ → ℤ) (branches : List NetBranch) (n reference : ℕ) (p : ℕ → Fraction) (g : ℕ) → sum_by p (places_below n) ≡ whole (pos 0)
    → ((i b : ℕ) → i < n → b < n → unsigned_abs (miss (λ row. h row i) branches i reference b) ≤ g)
    → (b : ℕ) → b < n → abs_ℚ (outflow_by (flow_by h n p) branches b -ℚ p b) ≤ℚ (billionths (pos g) *ℚ sum_by (λ i. abs_ℚ (p i)) (places_below n))
unfolding missing
core_law h branches n reference p most_size balanced most b within =
    let f : ℕ → Fraction = λ i. billionths (missing h branches n reference p b i) *ℚ p i in
    let g : ℕ → Fraction = λ i. billionths (pos most_size) *ℚ abs_ℚ (p i) in
    let is = difference h branches n reference p b balanced within in
    let high : sum_by f (places_below n) ≤ℚ sum_by g (places_below n) = sum-≤ f g n (λ i l. product-≤ (missing h branches n reference p b i) most_size (p i) (most i b l within)) in
    let low : neg_ℚ (sum_by f (places_below n)) ≤ℚ sum_by g (places_below n) =
    ≤ℚ_trans _ _ _ (≤ℚ_of_same _ _ (sum-neg f (places_below n))) (sum-≤ (λ i. neg_ℚ (f i)) g n (λ i l.
    ≤ℚ_trans _ _ _ (≤ℚ_of_same _ _ (by_ring ring_ℚ (billionths (missing h branches n reference p b i) ∷ p i ∷ []) (pneg (pmul (at 0) (at 1))) (pmul (pneg (at 0)) (at 1)) refl ∙ ap (λ t. t *ℚ p i) (sym (billionths-neg (missing h branches n reference p b i)))))
    (product-≤ (neg_ℤ (missing h branches n reference p b i)) most_size (p i) (subst (λ k. k ≤ most_size) (sym (unsigned_abs-neg (missing h branches n reference p b i))) (most i b l within))))) in
    let whole_sum = sum_by-times (billionths (pos most_size)) (λ i. abs_ℚ (p i)) (places_below n) in
    ≤ℚ_trans _ _ _ (≤ℚ_of_same _ _ (ap abs_ℚ is)) (≤ℚ_trans _ _ _ (size-≤ _ _ high low) (≤ℚ_of_same _ _ whole_sum))

-- ---- the residuals of a table
-- no spot is above the greatest
all_below : (spots : List Spot) (residual : Residual) → IsResidual spots residual → All (λ s. unsigned_abs s.value ≤ greatest residual) spots
all_below spots residual is = by residual.most is.most
  where
    Bounded : ℕ → List Spot → Type 0
    Bounded g xs = All (λ s. unsigned_abs s.value ≤ g) xs

    by : (o : Option Spot) → MatchOption o (spots ≡ []) (IsMost spots) → Bounded (option_map_or (λ s. unsigned_abs s.value) o 0) spots
    by None none = subst (Bounded 0) (sym none) (λ i d lt. absurd (Prim.omega (arith, lt)))
    by (Some s) most = subst (Bounded (unsigned_abs s.value)) (sym most.split)
        (All-append (λ (t : Spot). unsigned_abs t.value ≤ unsigned_abs s.value) most.before (s ∷ most.after) (λ i d lt. let below = most.above i d lt in Prim.omega (arith, below))
        (cons s most.after (Prim.omega arith) most.least))
      where
        cons : (x : Spot) (xs : List Spot) → unsigned_abs x.value ≤ unsigned_abs s.value → Bounded (unsigned_abs s.value) xs → Bounded (unsigned_abs s.value) (x ∷ xs)
        cons x xs h t zero d lt = h
        cons x xs h t (suc i) d lt = t i d (Prim.omega (arith, lt))

place_there : (i n : ℕ) → i < n → Contains (places_below n) i
place_there i zero h = absurd (Prim.omega (arith, h))
place_there i (suc n) h = by (place_there i n) (eq-or-lt_of_le below)
  where
    below : i ≤ n
    below = Prim.omega (arith, h)

    by : (i < n → Contains (places_below n) i) → (i ≡ n) ⊎ (i < n) → Contains (places_below n ++ n ∷ []) i
    by before (inl e) = Contains-append_right (places_below n) (n ∷ []) i (0, Prim.omega arith, sym e)
    by before (inr l) = Contains-append_left (places_below n) (n ∷ []) i (before l)

in-map : {A B : Type 0} (f : A → B) (xs : List A) (x : A) → Contains xs x → Contains (map f xs) (f x)
in-map f [] x (k, lt, is) = absurd (Prim.omega (arith, lt))
in-map f (z ∷ xs) x (zero, lt, is) = (0, Prim.omega arith, ap f is)
in-map f (z ∷ xs) x (suc k, lt, is) = Contains-cons (f z) (map f xs) (f x) (in-map f xs x (k, Prim.omega (arith, lt), is))

in-flat_map : {A B : Type 0} (f : A → List B) (xs : List A) (x : A) (y : B) → Contains xs x → Contains (f x) y → Contains (flat_map f xs) y
in-flat_map f [] x y (k, lt, is) h = absurd (Prim.omega (arith, lt))
in-flat_map f (z ∷ xs) x y (zero, lt, is) h = Contains-append_left (f z) (flat_map f xs) y (subst (λ t. Contains (f t) y) (sym is) h)
in-flat_map f (z ∷ xs) x y (suc k, lt, is) h = Contains-append_right (f z) (flat_map f xs) y (in-flat_map f xs x y (k, Prim.omega (arith, lt), is) h)

pub law_of_injections : LawOfInjections
law_of_injections network shift residual p is balanced b within =
    core_law (λ row i. factor_at shift.entries (row, bus_number network i)) network.branches (length network.buses) network.reference p (greatest residual) balanced
    (λ i bus li lb. All-contains (λ (t : Spot). unsigned_abs t.value ≤ greatest residual) (flat_map (bus_spots network) (shift_columns network shift)) (bus_spot network (shift_column network shift i) bus)
    (all_below (flat_map (bus_spots network) (shift_columns network shift)) residual is)
    (in-flat_map (bus_spots network) (shift_columns network shift) (shift_column network shift i) (bus_spot network (shift_column network shift i) bus)
    (in-map (shift_column network shift) (places_below (length network.buses)) i (place_there i (length network.buses) li))
    (in-map (bus_spot network (shift_column network shift i)) (places_below (length network.buses)) bus (place_there bus (length network.buses) lb))))
    b within
