-- The rows of a list in the market's order, and their names; and the rooms of a list in the order of the units.
use Rattle.std.specs.Prelude.{◌≡◌, ◌≢◌, ℕ, ◌+◌, ◌<◌, ◌==◌, ◌&&◌, ◌||◌, Bool, true, false, List, [], ◌∷◌, ◌++◌, length, map, filter, AllPairs, Contains, refl, ◌⊎◌}
use Rattle.std.specs.List.Sorted.{IsStrictlyIncreasing}
use Rattle.std.proofs.Common.{zero, suc, arith, ap, ap₂, sym, ◌∙◌, subst, inl, inr, get_or}
use Rattle.std.proofs.lemmas.Bool.{cases_lt}
use Rattle.std.proofs.lemmas.Bool.Decides.{eqb_tells}
use Rattle.std.proofs.lemmas.List.Elements.{All-append, All-map}
use Rattle.std.proofs.lemmas.List.Kept.{AllPairs-cons, AllPairs-filter}
use Rattle.std.proofs.lemmas.List.Sums.{position_or_len_is, fails_before_first}
use Rattle.fraction_theory.proofs.ListSums.{Contains-head, Contains-cons, Contains-cases, Contains-filter, Contains-from_filter}
use Rattle.market_model.specs.declared.participants.Parts.{Parts}
use Rattle.market_model.specs.declared.limits.Cause.{Cause}
use Rattle.market_model.specs.declared.limits.Row.{Row}
use Rattle.market_model.specs.declared.limits.Cause.TheVariants.{Base, Branch, UnitOutage}
use Rattle.market_model.specs.LimitRows.{rows}
use Rattle.market_model.specs.Optimality.{Taken}
use Rattle.market_model.specs.Reserves.{reserve_units}
use Rattle.market_system.specs.MarketSystem.{same_cause, same_row, is_in, in_order, is_among, rooms_in_order, row_place, row_name}

-- ---- rows that are one
pub and_true : (b c : Bool) → (b && c) ≡ true → (b ≡ true) × (c ≡ true)
and_true true c h = (refl, h)
and_true false c h = absurd Prim.cc

pub same_number : (a b : ℕ) → (a == b) ≡ true → a ≡ b
same_number a b h = elim (eqb_tells a b) [ inl t ↦ t.1 | inr t ↦ let wrong : false ≡ true = sym t.0 ∙ h in absurd cc ]

number_itself : (a : ℕ) → (a == a) ≡ true
number_itself a = elim (eqb_tells a a) [ inl t ↦ t.0 | inr t ↦ absurd (t.1 refl) ]

same_cause-is : (a b : Cause) → same_cause a b ≡ true → a ≡ b
same_cause-is Base Base h = refl
same_cause-is Base (Branch k) h = absurd Prim.cc
same_cause-is Base (UnitOutage k) h = absurd Prim.cc
same_cause-is (Branch j) Base h = absurd Prim.cc
same_cause-is (Branch j) (Branch k) h = ap Branch (same_number j k h)
same_cause-is (Branch j) (UnitOutage k) h = absurd Prim.cc
same_cause-is (UnitOutage j) Base h = absurd Prim.cc
same_cause-is (UnitOutage j) (Branch k) h = absurd Prim.cc
same_cause-is (UnitOutage j) (UnitOutage k) h = ap UnitOutage (same_number j k h)

same_cause-itself : (a : Cause) → same_cause a a ≡ true
same_cause-itself Base = refl
same_cause-itself (Branch k) = number_itself k
same_cause-itself (UnitOutage k) = number_itself k

pub same_row-is : (a b : Row) → same_row a b ≡ true → a ≡ b
same_row-is a b h =
    let both = and_true (a.line == b.line) (same_cause a.cause b.cause) h in
    let make : ℕ → Cause → Row = λ l c. record { line = l; cause = c } in
    ap₂ make (same_number a.line b.line both.0) (same_cause-is a.cause b.cause both.1)

pub same_row-itself : (a : Row) → same_row a a ≡ true
same_row-itself a = ap₂ ◌&&◌ (number_itself a.line) (same_cause-itself a.cause)

pub same_row-not : (a b : Row) → a ≢ b → same_row a b ≡ false
same_row-not a b n = by (same_row a b) refl
  where
    by : (t : Bool) → same_row a b ≡ t → same_row a b ≡ false
    by true e = absurd (n (same_row-is a b e))
    by false e = e

pub row_or_not : (a b : Row) → (a ≡ b) ⊎ (a ≢ b)
row_or_not a b = by (same_row a b) refl
  where
    by : (t : Bool) → same_row a b ≡ t → (a ≡ b) ⊎ (a ≢ b)
    by true e = inl (same_row-is a b e)
    by false e = inr (λ s. let wrong : false ≡ true = sym e ∙ ap (same_row a) (sym s) ∙ same_row-itself a in absurd cc)

-- ---- rows of a list
pub is_in-in : (g : List Row) (r : Row) → Contains g r → is_in g r ≡ true
is_in-in [] r c = absurd (Prim.omega (arith, c.1))
is_in-in (t ∷ ts) r c = elim (Contains-cases t ts r c) [
  | inl e ↦ ap (λ (b : Bool). b || is_in ts r) (ap (same_row t) (sym e) ∙ same_row-itself t)
  | inr k ↦ ap (λ (b : Bool). same_row t r || b) (is_in-in ts r k) ∙ or_true (same_row t r)
]
  where
    or_true : (b : Bool) → (b || true) ≡ true
    or_true true = refl
    or_true false = refl

pub is_in-from : (g : List Row) (r : Row) → is_in g r ≡ true → Contains g r
is_in-from [] r h = absurd Prim.cc
is_in-from (t ∷ ts) r h = by (same_row t r) refl h (is_in-from ts r)
  where
    by : (b : Bool) → same_row t r ≡ b → (b || is_in ts r) ≡ true → (is_in ts r ≡ true → Contains ts r) → Contains (t ∷ ts) r
    by true e k more = subst (λ (x : Row). Contains (t ∷ ts) x) (same_row-is t r e) (Contains-head t ts)
    by false e k more = Contains-cons t ts r (more k)

pub in_order-in : (m : Parts) (g : List Row) (r : Row) → Contains (rows m) r → Contains g r → Contains (in_order m g) r
in_order-in m [] r c k = absurd (Prim.omega (arith, k.1))
in_order-in m (t ∷ ts) r c k = Contains-filter (is_in (t ∷ ts)) (rows m) r c (is_in-in (t ∷ ts) r k)

pub in_order-from : (m : Parts) (g : List Row) (r : Row) → Contains (in_order m g) r → Contains (rows m) r × Contains g r
in_order-from m [] r c = absurd (Prim.omega (arith, c.1))
in_order-from m (t ∷ ts) r c = let both = Contains-from_filter (is_in (t ∷ ts)) (rows m) r c in (both.0, is_in-from (t ∷ ts) r both.1)

pub in_order-filter : (m : Parts) (g : List Row) → in_order m g ≡ filter (is_in g) (rows m)
in_order-filter m [] = none (rows m)
  where
    none : (rs : List Row) → [] ≡ filter (λ (r : Row). false) rs
    none [] = refl
    none (r ∷ rs) = none rs
in_order-filter m (t ∷ ts) = refl

-- ---- rooms of a list
pub is_among-in : (us : List ℕ) (u : ℕ) → Contains us u → is_among us u ≡ true
is_among-in [] u c = absurd (Prim.omega (arith, c.1))
is_among-in (t ∷ ts) u c = elim (Contains-cases t ts u c) [
  | inl e ↦ ap (λ (b : Bool). b || is_among ts u) (ap (λ (a : ℕ). t == a) (sym e) ∙ number_itself t)
  | inr k ↦ ap (λ (b : Bool). (t == u) || b) (is_among-in ts u k) ∙ or_true (t == u)
]
  where
    or_true : (b : Bool) → (b || true) ≡ true
    or_true true = refl
    or_true false = refl

pub is_among-from : (us : List ℕ) (u : ℕ) → is_among us u ≡ true → Contains us u
is_among-from [] u h = absurd Prim.cc
is_among-from (t ∷ ts) u h = by (t == u) refl h (is_among-from ts u)
  where
    by : (b : Bool) → (t == u) ≡ b → (b || is_among ts u) ≡ true → (is_among ts u ≡ true → Contains ts u) → Contains (t ∷ ts) u
    by true e k more = subst (λ (x : ℕ). Contains (t ∷ ts) x) (same_number t u e) (Contains-head t ts)
    by false e k more = Contains-cons t ts u (more k)

pub rooms_in_order-in : (m : Parts) (us : List ℕ) (u : ℕ) → Contains (reserve_units m) u → Contains us u → Contains (rooms_in_order m us) u
rooms_in_order-in m [] u c k = absurd (Prim.omega (arith, k.1))
rooms_in_order-in m (t ∷ ts) u c k = Contains-filter (is_among (t ∷ ts)) (reserve_units m) u c (is_among-in (t ∷ ts) u k)

pub rooms_in_order-from : (m : Parts) (us : List ℕ) (u : ℕ) → Contains (rooms_in_order m us) u → Contains (reserve_units m) u × Contains us u
rooms_in_order-from m [] u c = absurd (Prim.omega (arith, c.1))
rooms_in_order-from m (t ∷ ts) u c = let both = Contains-from_filter (is_among (t ∷ ts)) (reserve_units m) u c in (both.0, is_among-from (t ∷ ts) u both.1)

pub rooms_in_order-filter : (m : Parts) (us : List ℕ) → rooms_in_order m us ≡ filter (is_among us) (reserve_units m)
rooms_in_order-filter m [] = none (reserve_units m)
  where
    none : (ws : List ℕ) → [] ≡ filter (λ (u : ℕ). false) ws
    none [] = refl
    none (w ∷ ws) = none ws
rooms_in_order-filter m (t ∷ ts) = refl

-- ---- pairs of lists
pub pairs-append : {X : Type 0} (R : X → X → Type 0) (xs ys : List X) → AllPairs R xs → AllPairs R ys → ((x y : X) → Contains xs x → Contains ys y → R x y) → AllPairs R (xs ++ ys)
pairs-append R [] ys p q cross = q
pairs-append {X} R (x ∷ xs) ys p q cross =
    AllPairs-cons R x (xs ++ ys)
    (All-append (R x) xs ys
    (λ k d lt. p 0 (suc k) d (Prim.omega arith) (Prim.omega (arith, lt)))
    (λ k d lt. cross x (get_or ys k d) (Contains-head x xs) (k, lt, own ys k d lt)))
    (pairs-append R xs ys (λ i j d lt h. p (suc i) (suc j) d (Prim.omega (arith, lt)) (Prim.omega (arith, h))) q (λ y z c k. cross y z (Contains-cons x xs y c) k))
  where
    own : (zs : List X) (k : ℕ) (d : X) → k < length zs → get_or zs k (get_or zs k d) ≡ get_or zs k d
    own [] k d lt = absurd (Prim.omega (arith, lt))
    own (z ∷ zs) zero d lt = refl
    own (z ∷ zs) (suc k) d lt = own zs k d (Prim.omega (arith, lt))

pub increasing-from_pairs : (xs : List ℕ) → AllPairs (λ a b. a < b) xs → IsStrictlyIncreasing xs
increasing-from_pairs xs p k h = p k (k + 1) 0 (Prim.omega arith) h

pub pairs-map : {X Y : Type 0} (R : Y → Y → Type 0) (f : X → Y) (xs : List X) → AllPairs (λ a b. R (f a) (f b)) xs → AllPairs R (map f xs)
pairs-map R f [] p = λ i j d lt h. absurd (Prim.omega (arith, h))
pairs-map {X} {Y} R f (x ∷ xs) p =
    AllPairs-cons R (f x) (map f xs)
    (All-map (R (f x)) f xs (λ k d lt. p 0 (suc k) d (Prim.omega arith) (Prim.omega (arith, lt))))
    (pairs-map R f xs (λ i j d lt h. p (suc i) (suc j) d (Prim.omega (arith, lt)) (Prim.omega (arith, h))))

-- ---- rows of the market in its order, by their names
pub record AreOrdered (m : Parts) (rs : List Row) : Type 0 where
  pub rows : (r : Row) → Contains rs r → Contains (rows m) r
  pub ascend : AllPairs (λ (a b : Row). row_name m a < row_name m b) rs

-- what is taken of the market, in its order: such rows, and rooms of units that offer reserve, which ascend
pub record AreInOrder (m : Parts) (t : Taken) : Type 0 where
  pub limits : AreOrdered m t.limits
  pub units : (u : ℕ) → Contains t.rooms u → Contains (reserve_units m) u
  pub rooms : AllPairs (λ (a b : ℕ). a < b) t.rooms

pub ordered-distinct : (m : Parts) (rs : List Row) → AreOrdered m rs → AllPairs (λ (a b : Row). a ≢ b) rs
ordered-distinct m rs ordered i j d lt h e = Prim.omega (arith, ordered.ascend i j d lt h, ap (row_name m) e)

-- ---- names of rows, where the rows of the market are distinct
pub row_place-below : (m : Parts) (r : Row) → Contains (rows m) r → row_place m r < length (rows m)
row_place-below m r (k, inside, is) = elim (cases_lt k (row_place m r)) [
  | inl lt ↦ let wrong : false ≡ true = sym (fails_before_first (same_row r) (rows m) k r lt) ∙ ap (same_row r) is ∙ same_row-itself r in absurd cc
  | inr ge ↦ Prim.omega (arith, inside, ge)
]

abbrev pub RowsApart : Parts → Type 0
RowsApart m = AllPairs (λ (a b : Row). a ≢ b) (rows m)

module _ (m : Parts) (apart : RowsApart m) where
  -- a row's name tells its place
  pub row_name-at : (k : ℕ) (d : Row) → k < length (rows m) → row_name m (get_or (rows m) k d) ≡ length m.blocks + 1 + k
  row_name-at k d lt =
      ap (λ (p : ℕ). length m.blocks + 1 + p)
      (position_or_len_is (same_row (get_or (rows m) k d)) (rows m) k d (Prim.omega (arith, lt))
      (λ j h. same_row-not (get_or (rows m) k d) (get_or (rows m) j d) (λ e. apart j k d h lt (sym e)))
      (λ h. same_row-itself (get_or (rows m) k d)))

  pub names-ascend : AllPairs (λ (a b : Row). row_name m a < row_name m b) (rows m)
  names-ascend i j d lt h = let first = row_name-at i d (Prim.omega (arith, lt, h)) in let second = row_name-at j d h in Prim.omega (arith, first, second, lt)

  -- the rows of a list in order are so, too
  pub in_order-ascends : (g : List Row) → AllPairs (λ (a b : Row). row_name m a < row_name m b) (in_order m g)
  in_order-ascends [] = λ i j d lt h. absurd (Prim.omega (arith, h))
  in_order-ascends (t ∷ ts) = AllPairs-filter (λ (a b : Row). row_name m a < row_name m b) (is_in (t ∷ ts)) (rows m) names-ascend

  pub in_order-ordered : (g : List Row) → AreOrdered m (in_order m g)
  in_order-ordered g = record { rows = λ r c. (in_order-from m g r c).0; ascend = in_order-ascends g }
