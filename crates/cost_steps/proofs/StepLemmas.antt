-- The steps of parts, one more of them, and what all of them keep.
use Rattle.std.specs.Prelude.{◌≡◌, ℕ, ◌+◌, ◌^◌, ◌<◌, ◌≤◌, ℤ, pos, ◌+ℤ◌, ◌-ℤ◌, ◌≤ℤ◌, ◌<ℤ◌, int_lt, unsigned_abs, Bool, true, false, cond, List, [], ◌∷◌, ◌++◌, map}
use Rattle.std.specs.List.{filter, range_with_len, All, AllZip, Contains}
use Rattle.std.proofs.Common.{arith, ap, sym, ◌∙◌, subst, refl}
use Rattle.std.proofs.lemmas.Int.{ints}
use Rattle.std.proofs.lemmas.List.Elements.{All-cons, All-nil, All-head, All-tail, filter_passes}
use Rattle.std.proofs.lemmas.List.FromFn.{filter_of_map_range_with_len_more, get_or-map-range_with_len, length-map-range_with_len}
use Rattle.fraction_theory.proofs.ListSums.{Contains-filter}
use Rattle.fraction_theory.specs.Fraction.{over}
use Rattle.market_data.specs.WholeSums.{int_sum}
use Rattle.cost_steps.specs.declared.costs.Cost.{Cost}
use Rattle.cost_steps.specs.declared.parts.Way.{Way}
use Rattle.cost_steps.specs.declared.parts.Stretch.{Stretch}
use Rattle.cost_steps.specs.declared.steps.Step.{Step}
use Rattle.cost_steps.specs.declared.steps.CostStop.{CostStop}
use Rattle.cost_steps.specs.Costs.{IsCost}
use Rattle.cost_steps.specs.Parts.{Part, IsStretch, part_at, part_count, parts, has_width}
use Rattle.cost_steps.specs.Steps.{AreSteps, IsStepBy, IsStepOf, IsStop, IsStopBy, IsTooSteep}
use Rattle.cost_steps.proofs.Marks.{are_parts, kept_total, width_of, width_within}
use Rattle.cost_steps.proofs.Orders.{parts_go, steps_go}
use Rattle.cost_steps.proofs.Slopes.{nearest_moved, exact_moved}

-- ---- the step of one part
pub step_made : (part : Part) (stretch : Stretch) (step : Step) → IsStretch part stretch → IsStepBy stretch step → IsStepOf part step
step_made part stretch step is by = record {
  quantity = by.quantity ∙ ap (λ t. t -ℤ stretch.from) is.to ∙ ap (λ t. part.to -ℤ t) is.from;
  nearest = nearest_moved part.slope (over stretch.rise stretch.run) step.price is.slope by.price.nearest;
  fits = by.price.fits;
  exact = exact_moved part.slope (over stretch.rise stretch.run) step.price _ is.slope by.price.exact;
}

steep_made : (part : Part) (stretch : Stretch) (why : CostStop) → IsStretch part stretch → IsStopBy stretch why → IsTooSteep part
steep_made part stretch why is by = (by.beyond.0, nearest_moved part.slope (over stretch.rise stretch.run) by.beyond.0 is.slope by.beyond.1, by.beyond.2)

wide : (part : Part) (stretch : Stretch) → IsStretch part stretch → stretch.from <ℤ stretch.to → has_width part ≡ true
wide part stretch is h = tested part.from part.to (subst (λ t. part.from <ℤ t) is.to (subst (λ t. t <ℤ stretch.to) is.from h))
  where
    tested : (x y : ℤ) → x <ℤ y → int_lt x y ≡ true
    tested x y h = Prim.grind (arith, ints)

narrow : (part : Part) (stretch : Stretch) → IsStretch part stretch → stretch.to ≤ℤ stretch.from → has_width part ≡ false
narrow part stretch is h = tested part.from part.to (subst (λ t. t ≤ℤ part.from) is.to (subst (λ t. stretch.to ≤ℤ t) is.from h))
  where
    tested : (x y : ℤ) → y ≤ℤ x → int_lt x y ≡ false
    tested x y h = Prim.grind (arith, ints)

-- ---- one part more
abbrev pub kept : (ℕ → Part) → ℕ → List Part
kept part k = filter has_width (map part (range_with_len 0 k))

kept_more : (part : ℕ → Part) (k : ℕ) → kept part (k + 1) ≡ kept part k ++ cond (has_width (part k)) (part k ∷ []) []
kept_more part k = filter_of_map_range_with_len_more has_width part 0 k k (Prim.omega arith)

zip_last : (xs : List Part) (ys : List Step) (x : Part) (y : Step) → AllZip IsStepOf xs ys → IsStepOf x y → AllZip IsStepOf (xs ++ x ∷ []) (ys ++ y ∷ [])
zip_last [] [] x y h r = (r, tt)
zip_last [] (z ∷ ys) x y h r = absurd h
zip_last (w ∷ xs) [] x y h r = absurd h
zip_last (w ∷ xs) (z ∷ ys) x y h r = (h.0, zip_last xs ys x y h.1 r)

append_none : (xs : List Part) → xs ++ [] ≡ xs
append_none [] = refl
append_none (x ∷ xs) = ap (λ ys. x ∷ ys) (append_none xs)

pub steps_more : (part : ℕ → Part) (k : ℕ) (stretch : Stretch) (steps : List Step) (step : Step) → IsStretch (part k) stretch → stretch.from <ℤ stretch.to → AllZip IsStepOf (kept part k) steps → IsStepBy stretch step
    → AllZip IsStepOf (kept part (k + 1)) (steps ++ step ∷ [])
steps_more part k stretch steps step is width zip by =
    subst (λ xs. AllZip IsStepOf xs (steps ++ step ∷ [])) (sym (kept_more part k ∙ ap (λ (b : Bool). kept part k ++ cond b (part k ∷ []) []) (wide (part k) stretch is width)))
    (zip_last (kept part k) steps (part k) step zip (step_made (part k) stretch step is by))

pub steps_same : (part : ℕ → Part) (k : ℕ) (stretch : Stretch) (steps : List Step) → IsStretch (part k) stretch → stretch.to ≤ℤ stretch.from → AllZip IsStepOf (kept part k) steps → AllZip IsStepOf (kept part (k + 1)) steps
steps_same part k stretch steps is none zip =
    subst (λ xs. AllZip IsStepOf xs steps) (sym (kept_more part k ∙ ap (λ (b : Bool). kept part k ++ cond b (part k ∷ []) []) (narrow (part k) stretch is none) ∙ append_none (kept part k))) zip

-- a part that has no step
pub stops : (part : ℕ → Part) (n k : ℕ) (stretch : Stretch) (why : CostStop) → k < n → IsStretch (part k) stretch → stretch.from <ℤ stretch.to → IsStopBy stretch why → IsStop (kept part n) why
stops part n k stretch why lt is width by =
    subst (IsStop (kept part n)) (sym by.price) (found.0, part k, found.1, found.2, steep_made (part k) stretch why is by)
  where
    among : Contains (map part (range_with_len 0 n)) (part k)
    among = (k, subst (λ t. k < t) (sym (length-map-range_with_len part 0 n)) lt, get_or-map-range_with_len part 0 n k k (part k) lt (Prim.omega arith))

    found : Contains (kept part n) (part k)
    found = Contains-filter has_width (map part (range_with_len 0 n)) (part k) among (wide (part k) stretch is width)

-- ---- what all steps keep
sum_of : (parts : List Part) (steps : List Step) → AllZip IsStepOf parts steps → int_sum (λ step. step.quantity) steps ≡ int_sum width_of parts
sum_of [] [] zip = refl
sum_of [] (s ∷ steps) zip = absurd zip
sum_of (p ∷ parts) [] zip = absurd zip
sum_of (p ∷ parts) (s ∷ steps) zip = ap (λ t. t +ℤ int_sum (λ (step : Step). step.quantity) steps) zip.0.quantity ∙ ap (λ t. width_of p +ℤ t) (sum_of parts steps zip.1)

above_of : (parts : List Part) (steps : List Step) → AllZip IsStepOf parts steps → All (λ part. has_width part ≡ true) parts → All (λ step. pos 0 <ℤ step.quantity) steps
above_of [] [] zip all = All-nil (λ step. pos 0 <ℤ step.quantity)
above_of [] (s ∷ steps) zip all = absurd zip
above_of (p ∷ parts) [] zip all = absurd zip
above_of (p ∷ parts) (s ∷ steps) zip all = All-cons (λ step. pos 0 <ℤ step.quantity) s steps
    (subst (λ t. pos 0 <ℤ t) (sym zip.0.quantity) (tested p.from p.to (All-head (λ part. has_width part ≡ true) p parts all)))
    (above_of parts steps zip.1 (All-tail (λ part. has_width part ≡ true) p parts all))
  where
    tested : (x y : ℤ) → int_lt x y ≡ true → pos 0 <ℤ (y -ℤ x)
    tested x y h = Prim.grind (arith, ints)

pub are_steps : (cost : Cost) (way : Way) (low high : ℤ) (count : ℕ) (steps : List Step) → IsCost cost → low ≤ℤ high → 1 ≤ count → AllZip IsStepOf (parts cost way low high count) steps → AreSteps way low high steps
are_steps cost way low high count steps is order some zip =
    let n = part_count cost count in
    let part = part_at cost way low high count in
    let are = are_parts cost way low high count is order some in
    record {
      above = above_of (kept part n) steps zip (filter_passes has_width (map part (range_with_len 0 n)));
      total = sum_of (kept part n) steps zip ∙ kept_total n (high -ℤ low) are.mark part are.marks are.widths n (Prim.omega arith) ∙ are.marks.last;
      order = steps_go way (kept part n) steps zip (parts_go cost way low high count is order some);
    }

-- no step is wider than the range
pub fits_within : (cost : Cost) (way : Way) (low high : ℤ) (count k : ℕ) (stretch : Stretch) → IsCost cost → low ≤ℤ high → 1 ≤ count → unsigned_abs (high -ℤ low) < 2 ^ 63 → k < part_count cost count
    → IsStretch (part_at cost way low high count k) stretch → unsigned_abs (stretch.to -ℤ stretch.from) < 2 ^ 63
fits_within cost way low high count k stretch is order some width lt at =
    let are = are_parts cost way low high count is order some in
    let part = part_at cost way low high count in
    let within = width_within (part_count cost count) (high -ℤ low) are.mark part are.marks are.widths k lt in
    subst (λ t. unsigned_abs t < 2 ^ 63) (sym (ap (λ t. t -ℤ stretch.from) at.to ∙ ap (λ t. (part k).to -ℤ t) at.from)) (below (width_of (part k)) (high -ℤ low) within.0 within.1 width)
  where
    below : (x y : ℤ) → pos 0 ≤ℤ x → x ≤ℤ y → unsigned_abs y < 2 ^ 63 → unsigned_abs x < 2 ^ 63
    below x y p q r = Prim.omega (arith, ints, p, q, r)
