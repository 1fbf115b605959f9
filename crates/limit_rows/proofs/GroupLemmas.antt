-- Rows by causes.
use Rattle.std.specs.Prelude.{◌≡◌, ℕ, ◌+◌, ◌<◌, List, [], ◌∷◌, map, length, Some, ◌-◌, refl}
use Rattle.std.specs.List.{flat_map, slice_get}
use Rattle.std.proofs.Common.{zero, suc, arith, ap, sym, subst, ◌∙◌, get_or}
use Rattle.std.proofs.lemmas.List.{get_or_append_left, get_or-append-add, get_or-map, length-append}
use Rattle.std.proofs.lemmas.List.FromFn.{length-range_with_len}
use Rattle.std.proofs.lemmas.Option.{slice_get_within, get_or_from_slice_get, slice_get-get_or}
use Rattle.market_model.specs.declared.limits.Cause.{Cause}
use Rattle.market_model.specs.declared.limits.Cause.TheVariants.{Branch, UnitOutage}
use Rattle.market_model.specs.declared.participants.Parts.{Parts}
use Rattle.market_model.specs.Dispatch.{places}
use Rattle.market_model.specs.Market.{IsMarket}
use Rattle.market_model.specs.LimitRows.{rows, place_of_line, causes, lost_lines, rows_of}
use Rattle.market_model.proofs.LostLemmas.{lost_inside, place_at}

-- the rows are those of the causes in order
pub rows-causes : (m : Parts) → rows m ≡ flat_map (rows_of m) (causes m)
unfolding rows
rows-causes m = refl

pub length-map : {X Y : Type 0} (f : X → Y) (xs : List X) → length (map f xs) ≡ length xs
length-map f [] = refl
length-map f (x ∷ xs) = ap suc (length-map f xs)

-- ---- causes by place
pub length-causes : (m : Parts) → length (causes m) ≡ 1 + length m.outages + length m.unit_outages
length-causes m =
    let lost = length-map Branch (lost_lines m) in
    let lines = length-map (place_of_line m) m.outages in
    let units = length-map UnitOutage (places (length m.unit_outages)) in
    Prim.omega (arith, length-append (map Branch (lost_lines m)) (map UnitOutage (places (length m.unit_outages))), lost, lines, units, length-range_with_len 0 (length m.unit_outages))

pub cause_behind : (m : Parts) (i l : ℕ) → (i ≡ 0 → ⊥) → slice_get (lost_lines m) (i - 1) ≡ Some l → slice_get (causes m) i ≡ Some (Branch l)
cause_behind m zero l h e = absurd (h refl)
cause_behind m (suc i) l h e =
    let k : suc i - 1 ≡ i = Prim.omega arith in
    let at : slice_get (lost_lines m) i ≡ Some l = Prim.rw k at e in
    let lt : i < length (lost_lines m) = slice_get_within (lost_lines m) i l at in
    let inside : i < length (map Branch (lost_lines m)) = Prim.omega (arith, lt, length-map Branch (lost_lines m)) in
    let long : suc i < length (causes m) = Prim.omega (arith, inside, length-append (map Branch (lost_lines m)) (map UnitOutage (places (length m.unit_outages)))) in
    slice_get-get_or (causes m) (suc i) (Branch l) long
    ∙ ap (λ (c : Cause). Some c)
    (get_or_append_left (map Branch (lost_lines m)) (map UnitOutage (places (length m.unit_outages))) (Branch l) i inside
    ∙ get_or-map Branch (lost_lines m) i l (Branch l) lt ∙ ap Branch (get_or_from_slice_get (lost_lines m) i l l at))

-- those of units stand behind those of branches
pub unit_behind : (m : Parts) (i k : ℕ) → i ≡ 1 + length (lost_lines m) + k → k < length m.unit_outages → slice_get (causes m) i ≡ Some (UnitOutage k)
unit_behind m i k e lt =
    let branches : List Cause = map Branch (lost_lines m) in
    let units : List Cause = map UnitOutage (places (length m.unit_outages)) in
    let counted : length (map Branch (lost_lines m)) ≡ length (lost_lines m) = length-map Branch (lost_lines m) in
    let inside : k < length (places (length m.unit_outages)) = Prim.omega (arith, lt, length-range_with_len 0 (length m.unit_outages)) in
    let at : i ≡ suc (length (map Branch (lost_lines m)) + k) = Prim.omega (arith, e, counted) in
    let long : i < length (causes m) = Prim.omega (arith, at, inside, length-append (map Branch (lost_lines m)) (map UnitOutage (places (length m.unit_outages))), length-map UnitOutage (places (length m.unit_outages))) in
    slice_get-get_or (causes m) i (UnitOutage k) long
    ∙ ap (λ (n : ℕ). Some (get_or (causes m) n (UnitOutage k))) at
    ∙ ap (λ (c : Cause). Some c)
    (get_or-append-add branches units k (UnitOutage k) ∙ get_or-map UnitOutage (places (length m.unit_outages)) k k (UnitOutage k) inside ∙ ap UnitOutage (place_at (length m.unit_outages) k k lt))

pub lost_line-inside : (m : Parts) → IsMarket m → (i l : ℕ) → slice_get (lost_lines m) i ≡ Some l → l < length m.lines
lost_line-inside m market i l e = subst (λ (k : ℕ). k < length m.lines) (get_or_from_slice_get (lost_lines m) i l l e) (lost_inside m market i l (slice_get_within (lost_lines m) i l e))

pub lost_line-of : (m : Parts) (i row l : ℕ) → i < length m.outages → get_or m.outages i row ≡ row → slice_get (lost_lines m) i ≡ Some l → l ≡ place_of_line m row
lost_line-of m i row l inside is e = sym (get_or_from_slice_get (lost_lines m) i l 0 e) ∙ get_or-map (place_of_line m) m.outages i row 0 inside ∙ ap (place_of_line m) is
