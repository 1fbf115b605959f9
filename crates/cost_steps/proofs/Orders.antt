-- The slopes of parts in the order of the way, and the prices of their steps.
use Rattle.std.specs.Prelude.{◌≡◌, ℕ, ◌+◌, ◌-◌, ◌^◌, ◌<◌, ◌≤◌, ℤ, pos, ◌+ℤ◌, ◌-ℤ◌, ◌≤ℤ◌, List, [], ◌∷◌, length, map, get_or}
use Rattle.std.specs.List.{range_with_len, AllPairs, AllZip}
use Rattle.std.proofs.Common.{zero, suc, arith, ap, sym, subst, subst₂, refl}
use Rattle.std.proofs.lemmas.Int.{ints}
use Rattle.std.proofs.lemmas.List.FromFn.{get_or-map-range_with_len, length-map-range_with_len}
use Rattle.std.proofs.lemmas.List.Kept.{AllPairs-filter}
use Rattle.fraction_theory.specs.Fraction.{over, whole}
use Rattle.fraction_theory.specs.Order.{◌≤ℚ◌, NonNeg}
use Rattle.fraction_theory.proofs.Ring.{at, ◌⊕◌, ◌⊗◌}
use Rattle.fraction_theory.proofs.FractionLaws.{over_is}
use Rattle.fraction_theory.proofs.IntegerLaws.{zero≤-cancel, zero≤-times}
use Rattle.fraction_theory.proofs.OrderLaws.{le_from, by_le2, ≤ℚ_refl, ≤ℚ_trans}
use Rattle.exact_fraction.proofs.Nearest.{nearest_order}
use Rattle.cost_steps.specs.declared.costs.CostPoint.{CostPoint}
use Rattle.cost_steps.specs.declared.costs.Cost.{Cost}
use Rattle.cost_steps.specs.declared.costs.Cost.TheVariants.{Quadratic, Segments}
use Rattle.cost_steps.specs.declared.parts.Way.{Way}
use Rattle.cost_steps.specs.declared.parts.Way.TheVariants.{Up, Down}
use Rattle.cost_steps.specs.declared.steps.Step.{Step}
use Rattle.cost_steps.specs.Costs.{AreCostPoints, IsCost, mw, square_of, linear_of, quadratic_slope, slope_at}
use Rattle.cost_steps.specs.Parts.{Part, equal_cut, part_at, part_count, parts, has_width}
use Rattle.cost_steps.specs.Steps.{IsStepOf, AreInOrder}
use Rattle.cost_steps.proofs.Slopes.{difference_over}
use Rattle.cost_steps.proofs.Marks.{marks_rise, equal_mark, equal_marks, up_cut, down_cut}

-- ---- fractions over one denominator
over_nonneg : (n : ℤ) (d : ℕ) → 0 < d → pos 0 ≤ℤ n → NonNeg (over n d)
over_nonneg n d above h = record { sign = zero≤-cancel (over n d).num d above (subst (λ t. pos 0 ≤ℤ t) (sym (over_is n d above).cross) (zero≤-times n (over n d).den h)) }

pub over_order : (x y : ℤ) (d : ℕ) → 0 < d → x ≤ℤ y → over x d ≤ℚ over y d
over_order x y d above h = le_from (over x d) (over y d) (subst NonNeg (sym (difference_over x y d above)) (over_nonneg (y -ℤ x) d above (apart x y h)))
  where
    apart : (x y : ℤ) → x ≤ℤ y → pos 0 ≤ℤ (y -ℤ x)
    apart x y h = Prim.omega (arith, ints, h)

-- ---- slopes of a quadratic cost
slope_order : (square linear a b x y : ℤ) → pos 0 ≤ℤ square → a ≤ℤ x → b ≤ℤ y → quadratic_slope square linear a b ≤ℚ quadratic_slope square linear x y
slope_order square linear a b x y h p q =
    by_le2 (square_of square ∷ linear_of linear ∷ mw a ∷ mw b ∷ mw x ∷ mw y ∷ [])
    (at 0 ⊗ (at 2 ⊕ at 3) ⊕ at 1) (at 0 ⊗ (at 4 ⊕ at 5) ⊕ at 1) (at 0) (at 2) (at 4) (at 0) (at 3) (at 5)
    (over_nonneg square (10 ^ 15) (Prim.omega arith) h) (over_order a x (10 ^ 9) (Prim.omega arith) p) (over_nonneg square (10 ^ 15) (Prim.omega arith) h) (over_order b y (10 ^ 9) (Prim.omega arith) q) refl

up_order : (low high : ℤ) (count i j : ℕ) → low ≤ℤ high → 1 ≤ count → i ≤ j → j ≤ count → equal_cut Up low high count i ≤ℤ equal_cut Up low high count j
up_order low high count i j order some p q = subst₂ ◌≤ℤ◌ (sym (up_cut low high count i)) (sym (up_cut low high count j))
    (more low (equal_mark low high count i) (equal_mark low high count j) (marks_rise count (high -ℤ low) (equal_mark low high count) (equal_marks low high count order some) i j p q))
  where
    more : (x y z : ℤ) → y ≤ℤ z → (x +ℤ y) ≤ℤ (x +ℤ z)
    more x y z h = Prim.omega (arith, ints, h)

down_order : (low high : ℤ) (count i j : ℕ) → low ≤ℤ high → 1 ≤ count → i ≤ j → j ≤ count → equal_cut Down low high count j ≤ℤ equal_cut Down low high count i
down_order low high count i j order some p q = subst₂ ◌≤ℤ◌ (sym (down_cut low high count j)) (sym (down_cut low high count i))
    (less high (equal_mark low high count i) (equal_mark low high count j) (marks_rise count (high -ℤ low) (equal_mark low high count) (equal_marks low high count order some) i j p q))
  where
    less : (x y z : ℤ) → y ≤ℤ z → (x -ℤ z) ≤ℤ (x -ℤ y)
    less x y z h = Prim.omega (arith, ints, h)

-- ---- slopes of segments
bend_by : (points : List CostPoint) → AreCostPoints points → (i d j : ℕ) → i + d ≡ j → j + 1 < length points → slope_at points i ≤ℚ slope_at points j
bend_by points are i zero j e h = let same : i ≡ j = Prim.omega (arith, e) in subst (λ t. slope_at points i ≤ℚ slope_at points t) same (≤ℚ_refl (slope_at points i))
bend_by points are i (suc d) j e h =
    let same : i + d + 1 ≡ j = Prim.omega (arith, e) in
    subst (λ t. slope_at points i ≤ℚ slope_at points t) same
    (≤ℚ_trans (slope_at points i) (slope_at points (i + d)) (slope_at points (i + d + 1)) (bend_by points are i d (i + d) refl (Prim.omega (arith, e, h))) (are.bend_up (i + d) (Prim.omega (arith, e, h))))

bend_up : (points : List CostPoint) → AreCostPoints points → (i j : ℕ) → i ≤ j → j + 1 < length points → slope_at points i ≤ℚ slope_at points j
bend_up points are i j p h = bend_by points are i (j - i) j (Prim.omega (arith, p)) h

-- ---- of all parts
-- the first of two slopes and the second in the order of a way
abbrev pub SlopesGo : Way → Part → Part → Type 0
SlopesGo Up first second = first.slope ≤ℚ second.slope
SlopesGo Down first second = second.slope ≤ℚ first.slope

slopes_go : (cost : Cost) (way : Way) (low high : ℤ) (count : ℕ) → IsCost cost → low ≤ℤ high → 1 ≤ count → (i j : ℕ) → i < j → j < part_count cost count
    → SlopesGo way (part_at cost way low high count i) (part_at cost way low high count j)
slopes_go (Quadratic square linear) Up low high count is order some i j p q =
    slope_order square linear (equal_cut Up low high count i) (equal_cut Up low high count (i + 1)) (equal_cut Up low high count j) (equal_cut Up low high count (j + 1)) is.least
    (up_order low high count i j order some (Prim.omega (arith, p)) (Prim.omega (arith, q))) (up_order low high count (i + 1) (j + 1) order some (Prim.omega (arith, p)) (Prim.omega (arith, q)))
slopes_go (Quadratic square linear) Down low high count is order some i j p q =
    slope_order square linear (equal_cut Down low high count (j + 1)) (equal_cut Down low high count j) (equal_cut Down low high count (i + 1)) (equal_cut Down low high count i) is.least
    (down_order low high count (i + 1) (j + 1) order some (Prim.omega (arith, p)) (Prim.omega (arith, q))) (down_order low high count i j order some (Prim.omega (arith, p)) (Prim.omega (arith, q)))
slopes_go (Segments points) Up low high count is order some i j p q = bend_up points is i j (Prim.omega (arith, p)) (Prim.omega (arith, q))
slopes_go (Segments points) Down low high count is order some i j p q = bend_up points is (length points - 2 - j) (length points - 2 - i) (Prim.omega (arith, p)) (Prim.omega (arith, p, q))

-- a relation between the elements of places, through a map and a filter
mapped_pairs : {X : Type 0} (R : X → X → Type 0) (f : ℕ → X) (n : ℕ) → ((i j : ℕ) → i < j → j < n → R (f i) (f j)) → AllPairs R (map f (range_with_len 0 n))
mapped_pairs R f n h i j d p q =
    let lt : j < n = subst (λ t. j < t) (length-map-range_with_len f 0 n) q in
    subst₂ R (sym (get_or-map-range_with_len f 0 n i i d (Prim.omega (arith, p, lt)) (none i))) (sym (get_or-map-range_with_len f 0 n j j d lt (none j))) (h i j p lt)
  where
    none : (i : ℕ) → 0 + i ≡ i
    none i = Prim.omega arith

pub parts_go : (cost : Cost) (way : Way) (low high : ℤ) (count : ℕ) → IsCost cost → low ≤ℤ high → 1 ≤ count → AllPairs (SlopesGo way) (parts cost way low high count)
parts_go cost way low high count is order some =
    AllPairs-filter (SlopesGo way) has_width (map (part_at cost way low high count) (range_with_len 0 (part_count cost count)))
    (mapped_pairs (SlopesGo way) (part_at cost way low high count) (part_count cost count) (slopes_go cost way low high count is order some))

-- ---- of the steps
zip_length : {A B : Type 0} (R : A → B → Type 0) (xs : List A) (ys : List B) → AllZip R xs ys → length xs ≡ length ys
zip_length R [] [] h = refl
zip_length R [] (y ∷ ys) h = absurd h
zip_length R (x ∷ xs) [] h = absurd h
zip_length R (x ∷ xs) (y ∷ ys) h = ap suc (zip_length R xs ys h.1)

zip_at : {A B : Type 0} (R : A → B → Type 0) (xs : List A) (ys : List B) (i : ℕ) (a : A) (b : B) → AllZip R xs ys → i < length ys → R (get_or xs i a) (get_or ys i b)
zip_at R [] [] i a b h lt = absurd (Prim.omega (arith, lt))
zip_at R [] (y ∷ ys) i a b h lt = absurd h
zip_at R (x ∷ xs) [] i a b h lt = absurd h
zip_at R (x ∷ xs) (y ∷ ys) zero a b h lt = h.0
zip_at R (x ∷ xs) (y ∷ ys) (suc i) a b h lt = zip_at R xs ys i a b h.1 (Prim.omega (arith, lt))

zip_pairs : {A B : Type 0} (R : A → B → Type 0) (P : A → A → Type 0) (Q : B → B → Type 0) → ((x y : A) (u v : B) → P x y → R x u → R y v → Q u v) → A
    → (xs : List A) (ys : List B) → AllZip R xs ys → AllPairs P xs → AllPairs Q ys
zip_pairs R P Q go a xs ys zip pairs i j d p q =
    go (get_or xs i a) (get_or xs j a) (get_or ys i d) (get_or ys j d) (pairs i j a p (subst (λ t. j < t) (sym (zip_length R xs ys zip)) q))
    (zip_at R xs ys i a d zip (Prim.omega (arith, p, q))) (zip_at R xs ys j a d zip q)

no_part : Part
no_part = record { from = pos 0; to = pos 0; slope = whole (pos 0) }

pub steps_go : (way : Way) (parts : List Part) (steps : List Step) → AllZip IsStepOf parts steps → AllPairs (SlopesGo way) parts → AreInOrder way steps
steps_go Up parts steps zip pairs = zip_pairs IsStepOf (SlopesGo Up) (λ first second. first.price ≤ℤ second.price)
    (λ x y u v h p q. nearest_order 6 x.slope y.slope u.price v.price h p.nearest q.nearest) no_part parts steps zip pairs
steps_go Down parts steps zip pairs = zip_pairs IsStepOf (SlopesGo Down) (λ first second. second.price ≤ℤ first.price)
    (λ x y u v h p q. nearest_order 6 y.slope x.slope v.price u.price h q.nearest p.nearest) no_part parts steps zip pairs
