-- Members of lists that are made of lists, and which rows a market has.
use Rattle.std.specs.Prelude.{◌≡◌, ◌⊎◌, ℕ, ◌<◌, true, List, [], ◌∷◌, ◌++◌, map, length, Contains}
use Rattle.std.specs.List.{flat_map}
use Rattle.std.proofs.Common.{arith, inl, inr, ap, sym, subst, ◌∙◌}
use Rattle.std.proofs.lemmas.List.{get_or-map, length-map}
use Rattle.std.proofs.lemmas.List.FromFn.{length-range_with_len}
use Rattle.std.proofs.lemmas.List.Elements.{All-contains, Contains-append_left, Contains-append_right, Contains-append_cases}
use Rattle.fraction_theory.proofs.ListSums.{Contains-head, Contains-cons, Contains-cases, Contains-filter, Contains-from_filter}
use Rattle.market_model.specs.declared.limits.Cause.{Cause}
use Rattle.market_model.specs.declared.limits.Cause.TheVariants.{Base, Branch, UnitOutage}
use Rattle.market_model.specs.declared.limits.Row.{Row}
use Rattle.market_model.specs.declared.participants.Parts.{Parts}
use Rattle.market_model.specs.Dispatch.{places}
use Rattle.market_model.specs.LimitRows.{IsCauseOf, bears, causes, lost_lines, lost_unit, rows, rows_of, lines_among}
use Rattle.market_model.specs.Market.{IsMarket}
use Rattle.market_model.proofs.LostLemmas.{lost_inside, place_at}

-- ---- members of lists
pub Contains-map : {X Y : Type 0} (f : X → Y) (xs : List X) (x : X) → Contains xs x → Contains (map f xs) (f x)
Contains-map f xs x (k, lt, e) = (k, Prim.omega (arith, lt, length-map xs f), get_or-map f xs k x (f x) lt ∙ ap f e)

pub Contains-from_map : {X Y : Type 0} (f : X → Y) (xs : List X) (y : Y) → Contains (map f xs) y → (x : X) × Contains xs x × (f x ≡ y)
Contains-from_map f [] y (k, lt, e) = absurd (Prim.omega (arith, lt))
Contains-from_map {X} f (x ∷ xs) y c = by (Contains-from_map f xs y) (Contains-cases (f x) (map f xs) y c)
  where
    by : (Contains (map f xs) y → (z : X) × Contains xs z × (f z ≡ y)) → (f x ≡ y) ⊎ Contains (map f xs) y → (z : X) × Contains (x ∷ xs) z × (f z ≡ y)
    by more (inl e) = (x, Contains-head x xs, e)
    by more (inr d) = let r = more d in (r.0, Contains-cons x xs r.0 r.1, r.2)

pub Contains-flat : {X Y : Type 0} (f : X → List Y) (xs : List X) (x : X) (y : Y) → Contains xs x → Contains (f x) y → Contains (flat_map f xs) y
Contains-flat f [] x y (k, lt, e) d = absurd (Prim.omega (arith, lt))
Contains-flat f (z ∷ xs) x y c d = by (λ h. Contains-flat f xs x y h d) (Contains-cases z xs x c)
  where
    by : (Contains xs x → Contains (flat_map f xs) y) → (z ≡ x) ⊎ Contains xs x → Contains (flat_map f (z ∷ xs)) y
    by more (inl e) = Contains-append_left (f z) (flat_map f xs) y (subst (λ w. Contains (f w) y) (sym e) d)
    by more (inr h) = Contains-append_right (f z) (flat_map f xs) y (more h)

pub Contains-from_flat : {X Y : Type 0} (f : X → List Y) (xs : List X) (y : Y) → Contains (flat_map f xs) y → (x : X) × Contains xs x × Contains (f x) y
Contains-from_flat f [] y (k, lt, e) = absurd (Prim.omega (arith, lt))
Contains-from_flat {X} f (x ∷ xs) y c = by (Contains-from_flat f xs y) (Contains-append_cases (f x) (flat_map f xs) y c)
  where
    by : (Contains (flat_map f xs) y → (z : X) × Contains xs z × Contains (f z) y) → Contains (f x) y ⊎ Contains (flat_map f xs) y → (z : X) × Contains (x ∷ xs) z × Contains (f z) y
    by more (inl d) = (x, Contains-head x xs, d)
    by more (inr d) = let r = more d in (r.0, Contains-cons x xs r.0 r.1, r.2)

pub Contains-places : (n l : ℕ) → l < n → Contains (places n) l
Contains-places n l h = (l, Prim.omega (arith, h, length-range_with_len 0 n), place_at n l l h)

pub Contains-from_places : (n l : ℕ) → Contains (places n) l → l < n
Contains-from_places n l (k, lt, e) =
    let inside : k < n = Prim.omega (arith, lt, length-range_with_len 0 n) in
    subst (λ (i : ℕ). i < n) (sym (place_at n k l inside) ∙ e) inside

-- ---- the rows are those of the lines that have one under a cause
abbrev pub lines_of : Parts → Cause → List ℕ
lines_of m cause = lines_among m cause (places (length m.lines))

abbrev pub row_on : Cause → ℕ → Row
row_on cause l = record { line = l; cause = cause }

-- a line that has a row under a cause of the market
pub record IsRowOf (m : Parts) (cause : Cause) (l : ℕ) : Type 0 where
  pub group : Contains (causes m) cause
  pub line : l < length m.lines
  pub bears : bears m cause l ≡ true

pub row_to : (m : Parts) (cause : Cause) (l : ℕ) → IsRowOf m cause l → Contains (rows m) (row_on cause l)
unfolding rows
row_to m cause l h =
    Contains-flat (rows_of m) (causes m) cause (row_on cause l) h.group
    (Contains-map (row_on cause) (lines_of m cause) l (Contains-filter (bears m cause) (places (length m.lines)) l (Contains-places (length m.lines) l h.line) h.bears))

pub row_from : (m : Parts) (r : Row) → Contains (rows m) r → (cause : Cause) × (l : ℕ) × IsRowOf m cause l × (row_on cause l ≡ r)
unfolding rows
row_from m r c =
    let g = Contains-from_flat (rows_of m) (causes m) r c in
    let l = Contains-from_map (row_on g.0) (lines_of m g.0) r g.2 in
    let kept = Contains-from_filter (bears m g.0) (places (length m.lines)) l.0 l.1 in
    (g.0, l.0, record { group = g.1; line = Contains-from_places (length m.lines) l.0 kept.0; bears = kept.1 }, l.2)

-- a row of the market has its line under its cause
pub row_parts : (m : Parts) (r : Row) → Contains (rows m) r → IsRowOf m r.cause r.line
row_parts m r c = let f = row_from m r c in subst (λ (s : Row). IsRowOf m s.cause s.line) f.3 f.2

-- ---- causes
-- which cause one of the market is
pub cause_from : (m : Parts) (cause : Cause) → Contains (causes m) cause
    → (cause ≡ Base) ⊎ (((l : ℕ) × Contains (lost_lines m) l × (Branch l ≡ cause)) ⊎ ((k : ℕ) × (k < length m.unit_outages) × (UnitOutage k ≡ cause)))
cause_from m cause c = elim (Contains-cases Base (map Branch (lost_lines m) ++ map UnitOutage (places (length m.unit_outages))) cause c) [
  | inl e ↦ inl (sym e)
  | inr d ↦ inr (elim (Contains-append_cases (map Branch (lost_lines m)) (map UnitOutage (places (length m.unit_outages))) cause d) [
    | inl b ↦ inl (Contains-from_map Branch (lost_lines m) cause b)
    | inr u ↦ let k = Contains-from_map UnitOutage (places (length m.unit_outages)) cause u in inr (k.0, Contains-from_places (length m.unit_outages) k.0 k.1, k.2)
  ])
]

pub cause_of : (m : Parts) → IsMarket m → (cause : Cause) → Contains (causes m) cause → IsCauseOf m cause
cause_of m market cause c = elim (cause_from m cause c) [
  | inl e ↦ subst (IsCauseOf m) (sym e) tt
  | inr d ↦ elim d [
    | inl b ↦ subst (IsCauseOf m) b.2 (All-contains (λ line. line < length m.lines) (lost_lines m) b.0 (lost_inside m market) b.1)
    | inr u ↦ subst (IsCauseOf m) u.2 u.1
  ]
]

-- a row stands at places that are there
pub at_places : (m : Parts) → IsMarket m → (r : Row) → Contains (rows m) r → (r.line < length m.lines) × IsCauseOf m r.cause
at_places m market r c = let h = row_parts m r c in (h.line, cause_of m market r.cause h.group)

-- the unit that an outage loses is one of the market
pub lost_unit-in : (m : Parts) → IsMarket m → (k : ℕ) → k < length m.unit_outages → lost_unit m k < length m.units
lost_unit-in m market k lt = market.unit_outages.each k 0 lt
