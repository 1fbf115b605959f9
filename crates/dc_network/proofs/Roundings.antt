-- Factors that are exact ones rounded miss Kirchhoff's laws by at most half a step for each.
use Rattle.std.specs.Prelude.{◌≡◌, ℕ, ◌<◌, ◌≤◌, ◌+◌, ◌*◌, ◌^◌, ◌==◌, ◌||◌, ℤ, pos, negsuc, ◌+ℤ◌, ◌-ℤ◌, ◌*ℤ◌, neg_ℤ, ◌<ℤ◌, ◌≤ℤ◌, unsigned_abs, Bool, true, false, List, [], ◌∷◌, length, All, Contains, Option, sum_by as size_sum, cond, if◌then◌else◌, refl}
use Rattle.std.specs.Int.Signed.{lt_z}
use Rattle.std.specs.List.{AllZip}
use Rattle.std.proofs.Common.{arith, ap, sym, ◌∙◌, subst, subst₂, inl, inr}
use Rattle.std.proofs.Math.Nat.{mul-add, mul_assoc, mul_comm}
use Rattle.std.proofs.lemmas.Int.{ints}
use Rattle.std.proofs.lemmas.List.Elements.{All-cons, All-contains}
use Rattle.std.proofs.lemmas.List.Sums.{sum_by-cons}
use mathlib.Core.Path.{ap₂}
use Rattle.fraction_theory.specs.Fraction.{Fraction, whole, over, ◌+ℚ◌, ◌-ℚ◌, ◌*ℚ◌, neg_ℚ, recip_ℚ}
use Rattle.fraction_theory.specs.Order.{◌≤ℚ◌, NonNeg}
use Rattle.fraction_theory.specs.Signs.{abs_ℚ}
use Rattle.fraction_theory.specs.Sums.{sum_by}
use Rattle.fraction_theory.proofs.FieldLaws.{*ℚ-recip, ring_ℚ, whole_is, whole-+ℚ, whole-*ℚ, whole-neg, widen}
use Rattle.fraction_theory.proofs.FractionLaws.{Is, over_is, same_value, times_is}
use Rattle.fraction_theory.proofs.IntegerLaws.{ring_ℤ}
use Rattle.fraction_theory.proofs.ListSums.{Contains-cases, Contains-cons, Contains-head, kept as only_if}
use Rattle.fraction_theory.proofs.OrderLaws.{NonNeg-one, by_le1, by_le2, ≤ℚ-or-<ℚ, <ℚ-≤ℚ, ≤ℚ_of_same, ≤ℚ_trans, whole-≤ℚ}
use Rattle.fraction_theory.proofs.Ring.{at, by_ring, by_ring1, pnil, pone, pneg, times_nil, ◌⊕◌, ◌⊗◌}
use Rattle.fraction_theory.proofs.SignLaws.{abs_above, abs_below}
use Rattle.fraction_theory.proofs.SumLaws.{sum_by-times}
use Rattle.exact_fraction.specs.Nearest.{IsNearest, half, in_units}
use Rattle.market_data.specs.Scales.{factor_one, place_count, place_step}
use Rattle.market_data.specs.WholeSums.{int_sum}
use Rattle.market_data.specs.declared.scales.FactorPlaces.{FactorPlaces}
use Rattle.market_data.specs.declared.scales.FactorPlaces.TheVariants.{Six, Nine}
use Rattle.net_case.specs.Networks.{LiveNetwork}
use Rattle.net_case.specs.declared.live_parts.NetBranch.{NetBranch}
use Rattle.net_paths.specs.Loops.{IsLoop, kept, members_of}
use Rattle.net_paths.specs.declared.loops_of_tree.Member.{Member}
use Rattle.net_paths.specs.declared.steps.Step.{Step}
use Rattle.factor_residuals.specs.Kirchhoff.{Column, Flows, branches_at, bus_spot, directed, loop_miss, loop_spot, net_outflow, one_at, reactance_at, taken}
use Rattle.factor_residuals.specs.Residuals.{exceeds}
use Rattle.network_theory.specs.Carrying.{put_through}
use Rattle.network_theory.specs.Networks.{Branch, Network, IsSolution, flow as carried_flow}
use Rattle.network_theory.proofs.ByParts.{injection_taken, taken as taken_by}
use Rattle.network_theory.proofs.Existence.{law_of_solutions}
use Rattle.dc_network.specs.DcNetworks.{dc_branch, dc_network}
use Rattle.dc_network.specs.Laws.{IsSound}
use Rattle.dc_network.specs.Rounding.{AreExplained, AreRounded, LawOfRounding, rounded_column}
use Rattle.dc_network.proofs.Carried.{carried_by, everywhere}
use Rattle.dc_network.proofs.Connection.{Contains-map, is_connected, is_network, kept_live}
use Rattle.dc_network.proofs.ExactFactors.{sum_by-map}
use Rattle.dc_network.proofs.Potentials.{AllFall, loop_closes, step_drop}
use Rattle.dc_network.proofs.Reactances.{not_nil, reactance_above, reactance_positive}
use Rattle.dc_network.proofs.Ways.{from_parts}

-- ---- whole numbers as fractions
at_least_nil : (n : ℕ) → NonNeg (whole (pos n))
unfolding whole
at_least_nil n = record { sign = Prim.omega (arith, ints) }

cancel_whole : (m n : ℤ) → whole m ≤ℚ whole n → m ≤ℤ n
unfolding whole
cancel_whole m n h = Prim.omega (arith, ints, h.cross)

minus_is : (m n : ℤ) → m -ℤ n ≡ m +ℤ neg_ℤ n
minus_is m n = Prim.omega (arith, ints)

whole_minus : (m n : ℤ) → whole (m -ℤ n) ≡ whole m -ℚ whole n
whole_minus m n = ap whole (minus_is m n) ∙ whole-+ℚ m (neg_ℤ n) ∙ ap (λ t. whole m +ℚ t) (whole-neg n)

-- so many parts of a number of parts are that number
all_parts : (n : ℤ) (d : ℕ) → 0 < d → whole (pos d) *ℚ over n d ≡ whole n
all_parts n d h = same_value (whole (pos d) *ℚ over n d) (whole n) (n *ℤ pos d) (1 * d) (Prim.omega (arith, h))
    (subst (λ t. Is (whole (pos d) *ℚ over n d) t (1 * d)) (by_ring ring_ℤ (n ∷ pos d ∷ []) (at 1 ⊗ at 0) (at 0 ⊗ at 1) refl) (times_is (whole (pos d)) (over n d) (pos d) n 1 d (whole_is (pos d)) (over_is n d h)))
    (widen (whole n) n 1 d (whole_is n))

-- ---- whole numbers that are within half of so many units of a fraction
record IsOff (n : ℤ) (q : Fraction) (w : ℕ) : Type 0 where
  high : (whole n +ℚ whole n) ≤ℚ ((q +ℚ q) +ℚ whole (pos w))
  low : (q +ℚ q) ≤ℚ ((whole n +ℚ whole n) +ℚ whole (pos w))

off_same : (n m : ℤ) (q r : Fraction) (w : ℕ) → n ≡ m → q ≡ r → IsOff n q w → IsOff m r w
off_same n m q r w e f h = subst₂ (λ (k : ℤ) (t : Fraction). IsOff k t w) e f h

-- ---- sums, opposites and multiples of fractions that are off
sum_high : (m p v n q w : Fraction) → (m +ℚ m) ≤ℚ ((p +ℚ p) +ℚ v) → (n +ℚ n) ≤ℚ ((q +ℚ q) +ℚ w) → ((m +ℚ n) +ℚ (m +ℚ n)) ≤ℚ (((p +ℚ q) +ℚ (p +ℚ q)) +ℚ (v +ℚ w))
sum_high m p v n q w h k =
    by_le2 (m ∷ p ∷ v ∷ n ∷ q ∷ w ∷ []) ((at 0 ⊕ at 3) ⊕ (at 0 ⊕ at 3)) (((at 1 ⊕ at 4) ⊕ (at 1 ⊕ at 4)) ⊕ (at 2 ⊕ at 5))
    pone (at 0 ⊕ at 0) ((at 1 ⊕ at 1) ⊕ at 2) pone (at 3 ⊕ at 3) ((at 4 ⊕ at 4) ⊕ at 5) NonNeg-one h NonNeg-one k refl

opposite_high : (n q w : Fraction) → (q +ℚ q) ≤ℚ ((n +ℚ n) +ℚ w) → (neg_ℚ n +ℚ neg_ℚ n) ≤ℚ ((neg_ℚ q +ℚ neg_ℚ q) +ℚ w)
opposite_high n q w h =
    by_le1 (n ∷ q ∷ w ∷ []) (pneg (at 0) ⊕ pneg (at 0)) ((pneg (at 1) ⊕ pneg (at 1)) ⊕ at 2) pone (at 1 ⊕ at 1) ((at 0 ⊕ at 0) ⊕ at 2) NonNeg-one h refl

times_high : (x n q w : Fraction) → NonNeg x → (n +ℚ n) ≤ℚ ((q +ℚ q) +ℚ w) → ((x *ℚ n) +ℚ (x *ℚ n)) ≤ℚ (((x *ℚ q) +ℚ (x *ℚ q)) +ℚ (x *ℚ w))
times_high x n q w s h =
    by_le1 (x ∷ n ∷ q ∷ w ∷ []) ((at 0 ⊗ at 1) ⊕ (at 0 ⊗ at 1)) (((at 0 ⊗ at 2) ⊕ (at 0 ⊗ at 2)) ⊕ (at 0 ⊗ at 3)) (at 0) (at 1 ⊕ at 1) ((at 2 ⊕ at 2) ⊕ at 3) s h refl

more_high : (n q v w : Fraction) → v ≤ℚ w → n ≤ℚ (q +ℚ v) → n ≤ℚ (q +ℚ w)
more_high n q v w h k = by_le2 (n ∷ q ∷ v ∷ w ∷ []) (at 0) (at 1 ⊕ at 3) pone (at 0) (at 1 ⊕ at 2) pone (at 2) (at 3) NonNeg-one k NonNeg-one h refl

off_plus : (m n : ℤ) (p q : Fraction) (v w : ℕ) → IsOff m p v → IsOff n q w → IsOff (m +ℤ n) (p +ℚ q) (v + w)
off_plus m n p q v w h k =
    let number = sym (whole-+ℚ m n) in
    let width = sym (whole-+ℚ (pos v) (pos w)) in
    record {
      high = subst₂ (λ s t. (s +ℚ s) ≤ℚ (((p +ℚ q) +ℚ (p +ℚ q)) +ℚ t)) number width (sum_high (whole m) p (whole (pos v)) (whole n) q (whole (pos w)) h.high k.high);
      low = subst₂ (λ s t. ((p +ℚ q) +ℚ (p +ℚ q)) ≤ℚ ((s +ℚ s) +ℚ t)) number width (sum_high p (whole m) (whole (pos v)) q (whole n) (whole (pos w)) h.low k.low);
    }

off_opposite : (n : ℤ) (q : Fraction) (w : ℕ) → IsOff n q w → IsOff (neg_ℤ n) (neg_ℚ q) w
off_opposite n q w h =
    let number = sym (whole-neg n) in
    record {
      high = subst (λ s. (s +ℚ s) ≤ℚ ((neg_ℚ q +ℚ neg_ℚ q) +ℚ whole (pos w))) number (opposite_high (whole n) q (whole (pos w)) h.low);
      low = subst (λ s. (neg_ℚ q +ℚ neg_ℚ q) ≤ℚ ((s +ℚ s) +ℚ whole (pos w))) number (opposite_high q (whole n) (whole (pos w)) h.high);
    }

off_times : (x : ℕ) (n : ℤ) (q : Fraction) (w : ℕ) → IsOff n q w → IsOff (pos x *ℤ n) (whole (pos x) *ℚ q) (x * w)
off_times x n q w h =
    let number = sym (whole-*ℚ (pos x) n) in
    let width = sym (whole-*ℚ (pos x) (pos w)) in
    record {
      high = subst₂ (λ s t. (s +ℚ s) ≤ℚ (((whole (pos x) *ℚ q) +ℚ (whole (pos x) *ℚ q)) +ℚ t)) number width (times_high (whole (pos x)) (whole n) q (whole (pos w)) (at_least_nil x) h.high);
      low = subst₂ (λ s t. ((whole (pos x) *ℚ q) +ℚ (whole (pos x) *ℚ q)) ≤ℚ ((s +ℚ s) +ℚ t)) number width (times_high (whole (pos x)) q (whole n) (whole (pos w)) (at_least_nil x) h.low);
    }

-- a whole number is not off at all
off_none : (n : ℤ) → IsOff n (whole n) 0
off_none n =
    let same = ≤ℚ_of_same (whole n +ℚ whole n) ((whole n +ℚ whole n) +ℚ whole (pos 0)) (by_ring ring_ℚ (whole n ∷ []) (at 0 ⊕ at 0) ((at 0 ⊕ at 0) ⊕ pnil) refl) in
    record { high = same; low = same }

off_more : (n : ℤ) (q : Fraction) (v w : ℕ) → v ≤ w → IsOff n q v → IsOff n q w
off_more n q v w le h =
    let more : whole (pos v) ≤ℚ whole (pos w) = whole-≤ℚ (pos v) (pos w) (Prim.omega (arith, ints, le)) in
    record { high = more_high (whole n +ℚ whole n) (q +ℚ q) (whole (pos v)) (whole (pos w)) more h.high; low = more_high (q +ℚ q) (whole n +ℚ whole n) (whole (pos v)) (whole (pos w)) more h.low }

-- 0 is within half of any number of units of 0
off_nil : (w : ℕ) → IsOff (pos 0) (whole (pos 0)) w
off_nil w = off_more (pos 0) (whole (pos 0)) 0 w (Prim.omega arith) (off_none (pos 0))

-- sums over lists
off_sum : {T : Type 0} (f : T → ℤ) (g : T → Fraction) (w : T → ℕ) (xs : List T) → ((x : T) → Contains xs x → IsOff (f x) (g x) (w x)) → IsOff (int_sum f xs) (sum_by g xs) (size_sum w xs)
off_sum f g w [] h = off_nil 0
off_sum f g w (x ∷ xs) h =
    subst (IsOff (f x +ℤ int_sum f xs) (g x +ℚ sum_by g xs)) (sym (sum_by-cons w x xs))
    (off_plus (f x) (int_sum f xs) (g x) (sum_by g xs) (w x) (size_sum w xs) (h x (Contains-head x xs)) (off_sum f g w xs (λ y c. h y (Contains-cons x xs y c))))

-- whole numbers: the size of what is between them
off_size : (n m : ℤ) (w : ℕ) → IsOff n (whole m) w → 2 * unsigned_abs (n -ℤ m) ≤ w
off_size n m w h = size (n -ℤ m) w (Prim.omega (arith, ints, above)) (Prim.omega (arith, ints, below))
  where
    twice : (a : ℤ) → whole (a +ℤ a +ℤ pos w) ≡ (whole a +ℚ whole a) +ℚ whole (pos w)
    twice a = whole-+ℚ (a +ℤ a) (pos w) ∙ ap (λ t. t +ℚ whole (pos w)) (whole-+ℚ a a)

    above : (n +ℤ n) ≤ℤ (m +ℤ m +ℤ pos w)
    above = cancel_whole (n +ℤ n) (m +ℤ m +ℤ pos w) (subst₂ ◌≤ℚ◌ (sym (whole-+ℚ n n)) (sym (twice m)) h.high)

    below : (m +ℤ m) ≤ℤ (n +ℤ n +ℤ pos w)
    below = cancel_whole (m +ℤ m) (n +ℤ n +ℤ pos w) (subst₂ ◌≤ℚ◌ (sym (whole-+ℚ m m)) (sym (twice n)) h.low)

    size : (z : ℤ) (w : ℕ) → (z +ℤ z) ≤ℤ pos w → (neg_ℤ z +ℤ neg_ℤ z) ≤ℤ pos w → 2 * unsigned_abs z ≤ w
    size (pos k) w a b = Prim.omega (arith, ints, a)
    size (negsuc k) w a b = Prim.omega (arith, ints, b)

-- ---- what rounding explains
explained : (value : ℤ) (k w : ℕ) → 2 * unsigned_abs value ≤ w → k ≡ 5 * w → lt_z (pos k) (pos (unsigned_abs value * 10)) ≡ false
explained value k w h e = not_less (pos k) (pos (unsigned_abs value * 10)) (Prim.omega (arith, ints, h, e))
  where
    not_less : (a b : ℤ) → b ≤ℤ a → lt_z a b ≡ false
    not_less a b h = by_test (lt_z a b) refl
      where
        by_test : (t : Bool) → lt_z a b ≡ t → t ≡ false
        by_test true less = absurd (Prim.omega (arith, ints, h, less))
        by_test false less = refl

-- ---- a number rounded to units
half_is : half +ℚ half ≡ whole (pos 1)
half_is = all_two ∙ all_parts (pos 1) 2 (Prim.omega arith)
  where
    two : whole (pos 2) ≡ whole (pos 1) +ℚ whole (pos 1)
    two = whole-+ℚ (pos 1) (pos 1)

    all_two : half +ℚ half ≡ whole (pos 2) *ℚ half
    all_two = by_ring ring_ℚ (half ∷ []) (at 0 ⊕ at 0) ((pone ⊕ pone) ⊗ at 0) refl ∙ ap (λ t. t *ℚ half) (sym two)

size_most : (x : Fraction) → (x ≤ℚ abs_ℚ x) × (neg_ℚ x ≤ℚ abs_ℚ x)
size_most x = elim (≤ℚ-or-<ℚ x (whole (pos 0))) [
  | inl below ↦
      let size = abs_below x below in (
        subst (λ t. x ≤ℚ t) (sym size) (by_le2 (x ∷ []) (at 0) (pneg (at 0)) pone (at 0) pnil pone (at 0) pnil NonNeg-one below NonNeg-one below refl),
        ≤ℚ_of_same (neg_ℚ x) (abs_ℚ x) (sym size),
      )
  | inr above ↦
      let least = <ℚ-≤ℚ (whole (pos 0)) x above in
      let size = abs_above x least in (
        ≤ℚ_of_same x (abs_ℚ x) (sym size),
        subst (λ t. neg_ℚ x ≤ℚ t) (sym size) (by_le2 (x ∷ []) (pneg (at 0)) (at 0) pone pnil (at 0) pone pnil (at 0) NonNeg-one least NonNeg-one least refl),
      )
]

off_nearest : (u : Fraction) (n : ℤ) → abs_ℚ (u -ℚ whole n) ≤ℚ half → IsOff n u 1
off_nearest u n h =
    let sizes = size_most (u -ℚ whole n) in
    let one_is = ≤ℚ_of_same (half +ℚ half) (whole (pos 1)) half_is in
    record {
      high = by_le2 (u ∷ whole n ∷ half ∷ []) (at 1 ⊕ at 1) ((at 0 ⊕ at 0) ⊕ pone) (pone ⊕ pone) (pneg (at 0 ⊕ pneg (at 1))) (at 2) pone (at 2 ⊕ at 2) pone
          two_above (≤ℚ_trans (neg_ℚ (u -ℚ whole n)) (abs_ℚ (u -ℚ whole n)) half sizes.1 h) NonNeg-one one_is refl;
      low = by_le2 (u ∷ whole n ∷ half ∷ []) (at 0 ⊕ at 0) ((at 1 ⊕ at 1) ⊕ pone) (pone ⊕ pone) (at 0 ⊕ pneg (at 1)) (at 2) pone (at 2 ⊕ at 2) pone
          two_above (≤ℚ_trans (u -ℚ whole n) (abs_ℚ (u -ℚ whole n)) half sizes.0 h) NonNeg-one one_is refl;
    }
  where
    two_above : NonNeg (whole (pos 1) +ℚ whole (pos 1))
    two_above = subst (λ t. NonNeg t) (whole-+ℚ (pos 1) (pos 1)) (at_least_nil 2)

-- so many steps of a place, in 10^-9
steps_of : (places : FactorPlaces) → place_step places * 10 ^ place_count places ≡ factor_one
steps_of Six = refl
steps_of Nine = refl

-- a factor is within half a step of the exact one
off_factor : (places : FactorPlaces) (exact : Fraction) (units : ℤ) → IsNearest (place_count places) exact units
    → IsOff (units *ℤ pos (place_step places)) (whole (pos factor_one) *ℚ exact) (place_step places)
off_factor places exact units near =
    let step = place_step places in
    let part = 10 ^ place_count places in
    let scaled : whole (pos step) *ℚ (whole (pos part) *ℚ exact) ≡ whole (pos factor_one) *ℚ exact =
    by_ring ring_ℚ (whole (pos step) ∷ whole (pos part) ∷ exact ∷ []) (at 0 ⊗ (at 1 ⊗ at 2)) ((at 0 ⊗ at 1) ⊗ at 2) refl
    ∙ ap (λ t. t *ℚ exact) (sym (whole-*ℚ (pos step) (pos part)) ∙ ap (λ (k : ℕ). whole (pos k)) (steps_of places)) in
    subst (IsOff (units *ℤ pos step) (whole (pos factor_one) *ℚ exact)) (times_one step)
    (off_same (pos step *ℤ units) (units *ℤ pos step) (whole (pos step) *ℚ (whole (pos part) *ℚ exact)) (whole (pos factor_one) *ℚ exact) (step * 1)
    (by_ring ring_ℤ (pos step ∷ units ∷ []) (at 0 ⊗ at 1) (at 1 ⊗ at 0) refl) scaled
    (off_times step units (in_units (place_count places) exact) 1 (off_nearest (in_units (place_count places) exact) units near.within)))
  where
    times_one : (d : ℕ) → d * 1 ≡ d
    times_one d = Prim.omega arith

-- ---- at a bus
-- what a branch takes from a bus is off as much as its flow, where it stands there
off_taken : (k e : Fraction) (f : ℤ) (w : ℕ) (from to : Bool) → IsOff f (k *ℚ e) w
    → IsOff ((if from then f else pos 0) -ℤ (if to then f else pos 0)) (k *ℚ (only_if from e -ℚ only_if to e)) (if from || to then w else 0)
off_taken k e f w true true h = off_same (pos 0) (f -ℤ f) (whole (pos 0)) (k *ℚ (e -ℚ e)) w (Prim.omega (arith, ints)) (by_ring ring_ℚ (k ∷ e ∷ []) pnil (at 0 ⊗ (at 1 ⊕ pneg (at 1))) refl) (off_nil w)
off_taken k e f w true false h = off_same f (f -ℤ pos 0) (k *ℚ e) (k *ℚ (e -ℚ whole (pos 0))) w (Prim.omega (arith, ints)) (by_ring ring_ℚ (k ∷ e ∷ []) (at 0 ⊗ at 1) (at 0 ⊗ (at 1 ⊕ pneg pnil)) refl) h
off_taken k e f w false true h = off_same (neg_ℤ f) (pos 0 -ℤ f) (neg_ℚ (k *ℚ e)) (k *ℚ (whole (pos 0) -ℚ e)) w (Prim.omega (arith, ints)) (by_ring ring_ℚ (k ∷ e ∷ []) (pneg (at 0 ⊗ at 1)) (at 0 ⊗ (pnil ⊕ pneg (at 1))) refl) (off_opposite f (k *ℚ e) w h)
off_taken k e f w false false h = off_same (pos 0) (pos 0 -ℤ pos 0) (whole (pos 0)) (k *ℚ (whole (pos 0) -ℚ whole (pos 0))) 0 refl (by_ring ring_ℚ (k ∷ []) pnil (at 0 ⊗ (pnil ⊕ pneg pnil)) refl) (off_nil 0)

-- as many steps as branches pass a test
counted : (p : NetBranch → Bool) (step : ℕ) (branches : List NetBranch) → size_sum (λ l. if p l then step else 0) branches ≡ step * size_sum (λ l. cond (p l) 1 0) branches
counted p step [] = nothing step
  where
    nothing : (d : ℕ) → 0 ≡ d * 0
    nothing d = Prim.omega arith
counted p step (l ∷ branches) =
    sum_by-cons (λ (k : NetBranch). if p k then step else 0) l branches ∙ ap (λ (t : ℕ). (if p l then step else 0) + t) (counted p step branches)
    ∙ one_more (p l) (size_sum (λ k. cond (p k) 1 0) branches) ∙ ap (λ (t : ℕ). step * t) (sym (sum_by-cons (λ (k : NetBranch). cond (p k) 1 0) l branches))
  where
    one_more : (c : Bool) (m : ℕ) → (if c then step else 0) + step * m ≡ step * (cond c 1 0 + m)
    one_more c m = ap (λ (t : ℕ). t + step * m) (one_or_none c step) ∙ sym (mul-add step (cond c 1 0) m)
      where
        one_or_none : (c : Bool) (d : ℕ) → (if c then d else 0) ≡ d * cond c 1 0
        one_or_none true d = Prim.omega arith
        one_or_none false d = Prim.omega arith

-- what goes in, in 10^-9
put_in : (p q : Bool) → whole (pos factor_one) *ℚ ((if p then whole (pos 1) else whole (pos 0)) -ℚ (if q then whole (pos 1) else whole (pos 0))) ≡ whole ((if p then pos factor_one else pos 0) -ℤ (if q then pos factor_one else pos 0))
put_in p q =
    by_ring ring_ℚ (whole (pos factor_one) ∷ (if p then whole (pos 1) else whole (pos 0)) ∷ (if q then whole (pos 1) else whole (pos 0)) ∷ []) (at 0 ⊗ (at 1 ⊕ pneg (at 2))) ((at 0 ⊗ at 1) ⊕ pneg (at 0 ⊗ at 2)) refl
    ∙ ap₂ ◌-ℚ◌ (all_or_none p) (all_or_none q) ∙ sym (whole_minus (if p then pos factor_one else pos 0) (if q then pos factor_one else pos 0))
  where
    all_or_none : (p : Bool) → whole (pos factor_one) *ℚ (if p then whole (pos 1) else whole (pos 0)) ≡ whole (if p then pos factor_one else pos 0)
    all_or_none true = by_ring ring_ℚ (whole (pos factor_one) ∷ []) (at 0 ⊗ pone) (at 0) refl
    all_or_none false = times_nil ring_ℚ (whole (pos factor_one))

-- ---- round a loop
-- the drop along a step is off by the reactance's size times as much as the flow
off_drop : (q e : Fraction) (x f : ℤ) (w : ℕ) (forward : Bool) → pos 0 <ℤ x → IsOff f (q *ℚ e) w
    → IsOff (directed forward (x *ℤ f)) ((whole (pos (10 ^ 18)) *ℚ q) *ℚ (if forward then over x (10 ^ 18) *ℚ e else neg_ℚ (over x (10 ^ 18) *ℚ e))) (w * unsigned_abs x)
off_drop q e (negsuc k) f w forward above h = absurd (Prim.omega (arith, ints, above))
off_drop q e (pos k) f w forward above h = by forward
  where
    forwards : IsOff (pos k *ℤ f) ((whole (pos (10 ^ 18)) *ℚ q) *ℚ (over (pos k) (10 ^ 18) *ℚ e)) (w * k)
    forwards =
        subst (IsOff (pos k *ℤ f) ((whole (pos (10 ^ 18)) *ℚ q) *ℚ (over (pos k) (10 ^ 18) *ℚ e))) (mul_comm k w)
        (off_same (pos k *ℤ f) (pos k *ℤ f) (whole (pos k) *ℚ (q *ℚ e)) ((whole (pos (10 ^ 18)) *ℚ q) *ℚ (over (pos k) (10 ^ 18) *ℚ e)) (k * w) refl
        (by_ring1 ring_ℚ (whole (pos k) ∷ q ∷ e ∷ whole (pos (10 ^ 18)) ∷ over (pos k) (10 ^ 18) ∷ []) (at 0 ⊗ (at 1 ⊗ at 2)) ((at 3 ⊗ at 1) ⊗ (at 4 ⊗ at 2)) (at 1 ⊗ at 2) (at 0) (at 3 ⊗ at 4)
        (sym (all_parts (pos k) (10 ^ 18) (Prim.omega arith))) refl)
        (off_times k f (q *ℚ e) w h))

    by : (forward : Bool) → IsOff (directed forward (pos k *ℤ f)) ((whole (pos (10 ^ 18)) *ℚ q) *ℚ (if forward then over (pos k) (10 ^ 18) *ℚ e else neg_ℚ (over (pos k) (10 ^ 18) *ℚ e))) (w * k)
    by true = forwards
    by false =
        off_same (neg_ℤ (pos k *ℤ f)) (neg_ℤ (pos k *ℤ f)) (neg_ℚ ((whole (pos (10 ^ 18)) *ℚ q) *ℚ (over (pos k) (10 ^ 18) *ℚ e))) ((whole (pos (10 ^ 18)) *ℚ q) *ℚ neg_ℚ (over (pos k) (10 ^ 18) *ℚ e)) (w * k) refl
        (by_ring ring_ℚ (whole (pos (10 ^ 18)) ∷ q ∷ over (pos k) (10 ^ 18) ∷ e ∷ []) (pneg ((at 0 ⊗ at 1) ⊗ (at 2 ⊗ at 3))) ((at 0 ⊗ at 1) ⊗ pneg (at 2 ⊗ at 3)) refl)
        (off_opposite (pos k *ℤ f) ((whole (pos (10 ^ 18)) *ℚ q) *ℚ (over (pos k) (10 ^ 18) *ℚ e)) (w * k) forwards)

-- ---- the factors of a column
module _ (network : LiveNetwork) (xs : List ℤ) (lost : Option ℕ) (places : FactorPlaces) (name source sink : ℕ) (flow : Flows) (sound : IsSound network xs lost)
    (source_in : source < length network.buses) (sink_in : sink < length network.buses) (rounded : AreRounded network xs lost places source sink flow) where
  abbrev branches : List NetBranch
  branches = kept lost network.branches

  abbrev n : Network
  n = dc_network network xs lost

  abbrev dc : NetBranch → Branch
  dc l = dc_branch network xs l

  abbrev column : Column
  column = rounded_column network lost places name source sink flow

  abbrev step : ℕ
  step = place_step places

  abbrev scale : Fraction
  scale = whole (pos factor_one)

  abbrev reactance : ℕ → ℤ
  reactance row = reactance_at network xs row

  -- by the angles of the one solution
  module _ (angle : ℕ → Fraction) (solves : IsSolution n network.reference (put_through source sink) angle) where
    one_off : (l : NetBranch) → Contains branches l → IsOff (flow l.row) (scale *ℚ carried_flow angle (dc l)) step
    one_off l c =
        let r = rounded l c in
        let same : r.exact ≡ carried_flow angle (dc l) =
        carried_by n network.reference source sink (is_network network xs lost sound) (is_connected network xs lost sound) sound.network_is.reference source_in sink_in angle solves (dc l) (Contains-map dc branches l c) r.exact r.is_exact in
        off_same (r.units *ℤ pos step) (flow l.row) (scale *ℚ r.exact) (scale *ℚ carried_flow angle (dc l)) step (sym r.factor_is) (ap (λ t. scale *ℚ t) same) (off_factor places r.exact r.units r.nearest)

    -- ---- at each bus
    net_off : (b : ℕ) → IsOff (net_outflow flow branches b) (sum_by (λ l. scale *ℚ taken_by angle b (dc l)) branches) (size_sum (λ l. if l.from == b || l.to == b then step else 0) branches)
    net_off b = off_sum (taken flow b) (λ l. scale *ℚ taken_by angle b (dc l)) (λ l. if l.from == b || l.to == b then step else 0) branches
        (λ l c. off_taken scale (carried_flow angle (dc l)) (flow l.row) step (l.from == b) (l.to == b) (one_off l c))

    goes_in : (b : ℕ) → b < length network.buses → sum_by (λ l. scale *ℚ taken_by angle b (dc l)) branches ≡ whole (one_at source b -ℤ one_at sink b)
    goes_in b lt =
        sum_by-times scale (λ l. taken_by angle b (dc l)) branches
        ∙ ap (λ t. scale *ℚ t) (sym (sum_by-map (taken_by angle b) dc branches) ∙ sym (injection_taken n angle b)
        ∙ everywhere n network.reference source sink (is_network network xs lost sound) (is_connected network xs lost sound) sound.network_is.reference source_in sink_in angle solves b lt)
        ∙ put_in (source == b) (sink == b)

    bus_explained : (b : ℕ) → b < length network.buses → exceeds (bus_spot network column b) ≡ false
    bus_explained b lt =
        explained (net_outflow flow branches b -ℤ one_at source b +ℤ one_at sink b) (5 * step * branches_at branches b) (step * branches_at branches b)
        (subst₂ (λ (z : ℤ) (w : ℕ). 2 * unsigned_abs z ≤ w) (regroup (net_outflow flow branches b) (one_at source b) (one_at sink b)) (counted (λ l. l.from == b || l.to == b) step branches)
        (off_size (net_outflow flow branches b) (one_at source b -ℤ one_at sink b) (size_sum (λ l. if l.from == b || l.to == b then step else 0) branches)
        (subst (λ (t : Fraction). IsOff (net_outflow flow branches b) t (size_sum (λ l. if l.from == b || l.to == b then step else 0) branches)) (goes_in b lt) (net_off b))))
        (mul_assoc 5 step (branches_at branches b))
      where
        regroup : (a s t : ℤ) → a -ℤ (s -ℤ t) ≡ a -ℤ s +ℤ t
        regroup a s t = Prim.omega (arith, ints)

    -- ---- round each loop
    drop : NetBranch → Fraction
    drop l = over (reactance l.row) (10 ^ 18) *ℚ carried_flow angle (dc l)

    all_fall : AllFall drop angle branches
    unfolding drop
    all_fall l c =
        let x = over (reactance l.row) (10 ^ 18) in
        let unit = *ℚ-recip x (not_nil x (reactance_above network sound.network_is xs sound.reactances sound.positive l (kept_live lost network.branches l c))) in
        by_ring1 ring_ℚ (x ∷ recip_ℚ x ∷ angle l.from ∷ angle l.to ∷ []) (at 0 ⊗ (at 1 ⊗ (at 2 ⊕ pneg (at 3)))) (at 2 ⊕ pneg (at 3)) (at 2 ⊕ pneg (at 3)) (at 0 ⊗ at 1) pone unit refl

    abbrev loop_scale : Fraction
    loop_scale = whole (pos (10 ^ 18)) *ℚ scale

    abbrev sizes : List Member → ℕ
    sizes members = size_sum (λ m. unsigned_abs (reactance m.branch)) members

    step_off : (s : Step) → Contains branches s.branch
        → IsOff (directed s.forward (reactance s.branch.row *ℤ flow s.branch.row)) (loop_scale *ℚ step_drop drop s) (step * unsigned_abs (reactance s.branch.row))
    unfolding drop
    step_off s c = off_drop scale (carried_flow angle (dc s.branch)) (reactance s.branch.row) (flow s.branch.row) step s.forward
        (reactance_positive network sound.network_is xs sound.reactances sound.positive s.branch (kept_live lost network.branches s.branch c)) (one_off s.branch c)

    round_off : (steps : List Step) → ((s : Step) → Contains steps s → Contains branches s.branch)
        → IsOff (loop_miss reactance flow (members_of steps)) (loop_scale *ℚ sum_by (step_drop drop) steps) (step * sizes (members_of steps))
    round_off [] pass = off_same (pos 0) (pos 0) (whole (pos 0)) (loop_scale *ℚ whole (pos 0)) (step * sizes []) refl (sym (times_nil ring_ℚ loop_scale)) (off_nil (step * sizes []))
    round_off (s ∷ steps) pass =
        let first = directed s.forward (reactance s.branch.row *ℤ flow s.branch.row) in
        let rest = loop_miss reactance flow (members_of steps) in
        let size = unsigned_abs (reactance s.branch.row) in
        subst (λ (w : ℕ). IsOff (first +ℤ rest) (loop_scale *ℚ (step_drop drop s +ℚ sum_by (step_drop drop) steps)) w)
        (sym (mul-add step size (sizes (members_of steps))) ∙ ap (λ (t : ℕ). step * t) (sym (sum_by-cons (λ (m : Member). unsigned_abs (reactance m.branch)) (record { branch = s.branch.row; forward = s.forward }) (members_of steps))))
        (off_same (first +ℤ rest) (first +ℤ rest) (loop_scale *ℚ step_drop drop s +ℚ loop_scale *ℚ sum_by (step_drop drop) steps) (loop_scale *ℚ (step_drop drop s +ℚ sum_by (step_drop drop) steps))
        (step * size + step * sizes (members_of steps)) refl (sym (ring_ℚ.times_plus loop_scale (step_drop drop s) (sum_by (step_drop drop) steps)))
        (off_plus first rest (loop_scale *ℚ step_drop drop s) (loop_scale *ℚ sum_by (step_drop drop) steps) (step * size) (step * sizes (members_of steps)) (step_off s (pass s (Contains-head s steps)))
        (round_off steps (λ t c. pass t (Contains-cons s steps t c)))))

    steps_explained : (steps : List Step) → ((s : Step) → Contains steps s → Contains branches s.branch) → sum_by (step_drop drop) steps ≡ whole (pos 0)
        → exceeds (loop_spot reactance column (members_of steps)) ≡ false
    steps_explained steps pass closed =
        let miss = loop_miss reactance flow (members_of steps) in
        explained miss (5 * step * sizes (members_of steps)) (step * sizes (members_of steps))
        (subst (λ (z : ℤ). 2 * unsigned_abs z ≤ step * sizes (members_of steps)) (less_nothing miss)
        (off_size miss (pos 0) (step * sizes (members_of steps))
        (subst (λ (t : Fraction). IsOff miss t (step * sizes (members_of steps))) (ap (λ t. loop_scale *ℚ t) closed ∙ times_nil ring_ℚ loop_scale) (round_off steps pass))))
        (mul_assoc 5 step (sizes (members_of steps)))
      where
        less_nothing : (z : ℤ) → z -ℤ pos 0 ≡ z
        less_nothing z = Prim.omega (arith, ints)

    loop_explained : (tree : List NetBranch) → ((l : NetBranch) → Contains tree l → Contains branches l) → (b : NetBranch) → Contains branches b → (members : List Member) → IsLoop tree b members
        → exceeds (loop_spot reactance column members) ≡ false
    loop_explained tree within b there members round =
        subst (λ (ms : List Member). exceeds (loop_spot reactance column ms) ≡ false) (sym round.members_are)
        (steps_explained (record { branch = b; forward = true } ∷ round.back) pass
        (loop_closes drop angle tree (λ l c. all_fall l (within l c)) b round.back round.pass round.lead (all_fall b there)))
      where
        pass : (s : Step) → Contains (record { branch = b; forward = true } ∷ round.back) s → Contains branches s.branch
        pass s c = elim (Contains-cases (record { branch = b; forward = true }) round.back s c) [
          | inl e ↦ subst (λ (t : Step). Contains branches t.branch) e there
          | inr k ↦ within s.branch (All-contains (λ (t : Step). Contains tree t.branch) round.back s round.pass k)
        ]

    loops_explained : (tree rest : List NetBranch) (loops : List (List Member)) → ((l : NetBranch) → Contains tree l → Contains branches l) → ((l : NetBranch) → Contains rest l → Contains branches l)
        → AllZip (IsLoop tree) rest loops → All (λ members. exceeds (loop_spot reactance column members) ≡ false) loops
    loops_explained tree [] [] within chords zip = λ k d lt. absurd (Prim.omega (arith, lt))
    loops_explained tree [] (members ∷ loops) within chords zip = absurd zip
    loops_explained tree (b ∷ rest) [] within chords zip = absurd zip
    loops_explained tree (b ∷ rest) (members ∷ loops) within chords zip =
        All-cons (λ (m : List Member). exceeds (loop_spot reactance column m) ≡ false) members loops (loop_explained tree within b (chords b (Contains-head b rest)) members zip.0)
        (loops_explained tree rest loops within (λ l c. chords l (Contains-cons b rest l c)) zip.1)

    all_explained : AreExplained network xs column
    all_explained = record {
      at_buses = bus_explained;
      round_loops = λ loops are. loops_explained are.tree are.rest loops
          (λ l c. from_parts branches are.tree are.rest are.parts l (inl c)) (λ l c. from_parts branches are.tree are.rest are.parts l (inr c)) are.loops_are;
    }

pub law_of_rounding : LawOfRounding
law_of_rounding network xs lost places name source sink flow sound source_in sink_in rounded =
    let s = law_of_solutions (dc_network network xs lost) network.reference (put_through source sink) (is_network network xs lost sound) (is_connected network xs lost sound) in
    all_explained network xs lost places name source sink flow sound source_in sink_in rounded s.0 s.1
