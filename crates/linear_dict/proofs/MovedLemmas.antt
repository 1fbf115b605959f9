-- Two variables that exchange their places in the index.
use Rattle.std.specs.Prelude.{◌≡◌, ◌≢◌, ℕ, ◌<◌, pos, Bool, false, List, [], ◌∷◌, length, map, slice_index, slice_get, slice_set, Some, ◌⊎◌, refl}
use Rattle.std.specs.List.{Contains}
use Rattle.std.proofs.Common.{zero, suc, arith, ap, sym, ◌∙◌, subst, get_or, inl, inr}
use Rattle.std.proofs.lemmas.List.{length-map, length-set, get_or-set_same, get_or-set_other}
use Rattle.std.proofs.lemmas.Option.{slice_get-get_or, get_or_from_slice_get}
use Rattle.std.proofs.Math.Seq.{map-set_same}
use Rattle.fraction_theory.specs.Fraction.{Fraction, whole}
use Rattle.fraction_theory.proofs.ListSums.{Distinct, Distinct-increasing, same_or_not}
use Rattle.linear_dict.specs.declared.index.Variable.{Variable}
use Rattle.linear_dict.specs.declared.place.Place.{Place}
use Rattle.linear_dict.specs.declared.place.Place.TheVariants.{Row, Column}
use Rattle.linear_dict.specs.Dictionaries.{Dictionary, IsDictionary, seen, pivoted}
use Rattle.linear_dict.specs.Notes.{Noted, noted}
use Rattle.linear_dict.specs.Indexes.{name_of, IsIndex}
use Rattle.linear_dict.specs.Places.{place_in, StandsAt}
use Rattle.linear_dict.specs.Tables.{cell, table_of, pivoted_cell}
use Rattle.std.proofs.lemmas.Grind.{get_or_default_zero}
use Rattle.linear_dict.proofs.ExchangeLemmas.{pivoted_dictionary}
use Rattle.linear_dict.proofs.SplitLemmas.{Contains-at}
use Rattle.linear_dict.proofs.IndexLemmas.{slice_get-set_other}
use Rattle.linear_dict.proofs.NameLemmas.{place_in-at, place_in-within}

-- what a list gives after one item is written
get-cases : {X : Type 0} (xs : List X) (k : ℕ) (u : X) (j : ℕ) (x : X) → k < length xs → slice_get (slice_set xs k u) j ≡ Some x → ((j ≡ k) × (u ≡ x)) ⊎ ((j ≢ k) × (slice_get xs j ≡ Some x))
get-cases xs k u j x h e = elim (same_or_not j k) [
  | inl d ↦ inl (d, sym (get_or-set_same xs k u u h) ∙ ap (λ (t : ℕ). get_or (slice_set xs k u) t u) (sym d) ∙ get_or_from_slice_get (slice_set xs k u) j x u e)
  | inr n ↦ inr (n, sym (slice_get-set_other xs k j u n) ∙ e)
]

-- a place keeps its name where neither name is exchanged
stays : (basics others : List ℕ) (r c w : ℕ) (p : Place) → w ≢ slice_index basics r → w ≢ slice_index others c → StandsAt basics others w p
    → StandsAt (slice_set basics r (slice_index others c)) (slice_set others c (slice_index basics r)) w p
stays basics others r c w (Row i) na nb s =
    let apart : i ≢ r = λ e. na (sym s.1 ∙ ap (slice_index basics) e) in
    (Prim.omega (arith, s.0, length-set basics r (slice_index others c)), get_or-set_other basics r i (slice_index others c) 0 apart ∙ s.1)
stays basics others r c w (Column j) na nb s =
    let apart : j ≢ c = λ e. nb (sym s.1 ∙ ap (slice_index others) e) in
    (Prim.omega (arith, s.0, length-set others c (slice_index basics r)), get_or-set_other others c j (slice_index basics r) 0 apart ∙ s.1)

-- the name of a variable by its rank
pub name_at : {N : Type 0} (vs : List (Variable N)) (j : ℕ) (x : Variable N) → slice_get vs j ≡ Some x → (j < length vs) × (slice_index (map name_of vs) j ≡ x.name)
name_at [] j x e = absurd cc
name_at (v ∷ vs) zero x e = (Prim.omega arith, ap name_of (get_or_from_slice_get (v ∷ vs) zero x v e))
name_at (v ∷ vs) (suc j) x e = let r = name_at vs j x e in (Prim.omega (arith, r.0), r.1)

module _ {N : Type 0} (vs : List (Variable N)) (basics others rows columns : List ℕ) (r c la eb : ℕ) (x y : Variable N) where
  first : Variable N
  first = record { name = x.name; place = Column c; put = x.put; note = x.note }

  second : Variable N
  second = record { name = y.name; place = Row r; put = y.put; note = y.note }

  abbrev pub moved : List (Variable N)
  moved = slice_set (slice_set vs la (record { name = x.name; place = Column c; put = x.put; note = x.note })) eb (record { name = y.name; place = Row r; put = y.put; note = y.note })

  -- nothing but places is changed
  pub moved_same : {Y : Type 0} (f : Variable N → Y) → f (record { name = x.name; place = Column c; put = x.put; note = x.note }) ≡ f x → f (record { name = y.name; place = Row r; put = y.put; note = y.note }) ≡ f y
      → x ≡ get_or vs la x → y ≡ get_or (slice_set vs la (record { name = x.name; place = Column c; put = x.put; note = x.note })) eb y → map f moved ≡ map f vs
  moved_same f fx fy ex ey =
      let once : List (Variable N) = slice_set vs la (record { name = x.name; place = Column c; put = x.put; note = x.note }) in
      map-set_same f once eb (record { name = y.name; place = Row r; put = y.put; note = y.note }) y (fy ∙ ap f ey)
      ∙ map-set_same f vs la (record { name = x.name; place = Column c; put = x.put; note = x.note }) x (fx ∙ ap f ex)

  module _ (distinct : Distinct (map name_of vs)) (hr : r < length basics) (hc : c < length others)
      (named_a : Contains (map name_of vs) (slice_index basics r)) (named_b : Contains (map name_of vs) (slice_index others c)) (differ : slice_index basics r ≢ slice_index others c)
      (at_a : la ≡ place_in (map name_of vs) (slice_index basics r)) (at_b : eb ≡ place_in (map name_of vs) (slice_index others c))
      (is_x : x ≡ get_or vs la x) (is_y : y ≡ get_or (slice_set vs la (record { name = x.name; place = Column c; put = x.put; note = x.note })) eb y)
      (index : IsIndex vs basics others rows columns) where
    names : List ℕ
    names = map name_of vs

    a_within : (la < length vs) × (slice_index names la ≡ slice_index basics r)
    unfolding names
    a_within = let p = place_in-within (map name_of vs) (slice_index basics r) named_a in
        (Prim.omega (arith, p.0, at_a, length-map vs (name_of {N = N})), ap (slice_index (map name_of vs)) at_a ∙ p.1)

    b_within : (eb < length vs) × (slice_index names eb ≡ slice_index others c)
    unfolding names
    b_within = let p = place_in-within (map name_of vs) (slice_index others c) named_b in
        (Prim.omega (arith, p.0, at_b, length-map vs (name_of {N = N})), ap (slice_index (map name_of vs)) at_b ∙ p.1)

    apart : eb ≢ la
    unfolding names
    apart e = differ (sym a_within.1 ∙ ap (slice_index (map name_of vs)) (sym e) ∙ b_within.1)

    got_x : slice_get vs la ≡ Some x
    got_x = slice_get-get_or vs la x a_within.0 ∙ ap Some (sym is_x)

    got_y : slice_get vs eb ≡ Some y
    got_y = slice_get-get_or vs eb y b_within.0 ∙ ap Some (sym (is_y ∙ get_or-set_other vs la eb (record { name = x.name; place = Column c; put = x.put; note = x.note }) y apart))

    x_name : slice_index basics r ≡ x.name
    unfolding names
    x_name = sym a_within.1 ∙ (name_at vs la x got_x).1

    y_name : slice_index others c ≡ y.name
    unfolding names
    y_name = sym b_within.1 ∙ (name_at vs eb y got_y).1

    cases : (j : ℕ) (v : Variable N) → slice_get moved j ≡ Some v → (second ≡ v) ⊎ ((first ≡ v) ⊎ ((slice_get vs j ≡ Some v) × (v.name ≢ slice_index basics r) × (v.name ≢ slice_index others c)))
    unfolding first second
    cases j v e =
        let once : List (Variable N) = slice_set vs la (record { name = x.name; place = Column c; put = x.put; note = x.note }) in
        elim (get-cases once eb second j v (Prim.omega (arith, b_within.0, length-set vs la first)) e) [
          | inl p ↦ inl p.1
          | inr p ↦ elim (get-cases vs la first j v a_within.0 p.1) [
            | inl q ↦ inr (inl q.1)
            | inr q ↦
                let n = name_at vs j v q.1 in
                let below : j < length (map name_of vs) = Prim.omega (arith, n.0, length-map vs (name_of {N = N})) in
                let place : (w : ℕ) → v.name ≡ w → place_in (map name_of vs) w ≡ j = λ w d. place_in-at (map name_of vs) j w distinct below (n.1 ∙ d) in
                inr (inr (q.1, λ d. q.0 (sym (at_a ∙ place (slice_index basics r) d)), λ d. p.0 (sym (at_b ∙ place (slice_index others c) d))))
          ]
        ]

    -- the index after the exchange
    pub moved_index : IsIndex moved (slice_set basics r (slice_index others c)) (slice_set others c (slice_index basics r)) rows columns
    unfolding first second
    moved_index = record {
      stands = λ j v e. elim (cases j v e) [
        | inl d ↦ subst (λ (t : Variable N). StandsAt (slice_set basics r (slice_index others c)) (slice_set others c (slice_index basics r)) t.name t.place) d
            (Prim.omega (arith, hr, length-set basics r (slice_index others c)), get_or-set_same basics r (slice_index others c) 0 hr ∙ y_name)
        | inr w ↦ elim w [
          | inl d ↦ subst (λ (t : Variable N). StandsAt (slice_set basics r (slice_index others c)) (slice_set others c (slice_index basics r)) t.name t.place) d
              (Prim.omega (arith, hc, length-set others c (slice_index basics r)), get_or-set_same others c (slice_index basics r) 0 hc ∙ x_name)
          | inr p ↦ stays basics others r c v.name v.place p.1 p.2 (index.stands j v p.0)
        ]
      ];
      was_put = λ j v e. elim (cases j v e) [
        | inl d ↦ subst (λ (t : Variable N). StandsAt rows columns t.name t.put) d (index.was_put eb y got_y)
        | inr w ↦ elim w [
          | inl d ↦ subst (λ (t : Variable N). StandsAt rows columns t.name t.put) d (index.was_put la x got_x)
          | inr p ↦ index.was_put j v p.0
        ]
      ];
    }

-- the dictionary that is seen after a pivot in code
pub seen_pivoted : {N : Type 0} (value : N → Fraction) (columns rows : List ℕ) (coefficients : List N) (others basics : List ℕ) (table : List N) (vs : List (Variable N)) (spent : Bool)
    (r c a b : ℕ) (table' : List N) (vs' : List (Variable N))
    → a ≡ slice_index basics r → b ≡ slice_index others c
    → map value table' ≡ table_of (length basics) (length others) (pivoted_cell (cell (length others) (map value table)) r c)
    → map name_of vs' ≡ map name_of vs → map (λ (v : Variable N). noted value v.note) vs' ≡ map (λ (v : Variable N). noted value v.note) vs → spent ≡ false
    → seen value columns rows coefficients (slice_set others c a) (slice_set basics r b) table' vs' false ≡ pivoted (seen value columns rows coefficients others basics table vs spent) r c
unfolding pivoted
seen_pivoted {N} value columns rows coefficients others basics table vs spent r c a b table' vs' ea eb et en eo es =
    let make : List ℕ → List ℕ → List Fraction → List ℕ → List Noted → Bool → Dictionary = λ os bs ts ns notes s. record {
      columns = columns;
      rows = rows;
      coefficients = map value coefficients;
      others = os;
      basics = bs;
      table = ts;
      names = ns;
      notes = notes;
      spent = s;
    } in
    let table_new : List Fraction = table_of (length basics) (length others) (pivoted_cell (cell (length others) (map value table)) r c) in
    ap (λ (k : ℕ). make (slice_set others c k) (slice_set basics r b) (map value table') (map name_of vs') (map (λ (v : Variable N). noted value v.note) vs') false) ea
    ∙ ap (λ (k : ℕ). make (slice_set others c (slice_index basics r)) (slice_set basics r k) (map value table') (map name_of vs') (map (λ (v : Variable N). noted value v.note) vs') false) eb
    ∙ ap (λ (ts : List Fraction). make (slice_set others c (slice_index basics r)) (slice_set basics r (slice_index others c)) ts (map name_of vs') (map (λ (v : Variable N). noted value v.note) vs') false) et
    ∙ ap (λ (ns : List ℕ). make (slice_set others c (slice_index basics r)) (slice_set basics r (slice_index others c)) table_new ns (map (λ (v : Variable N). noted value v.note) vs') false) en
    ∙ ap (λ (ns : List Noted). make (slice_set others c (slice_index basics r)) (slice_set basics r (slice_index others c)) table_new (map name_of vs) ns false) eo
    ∙ ap (λ (s : Bool). make (slice_set others c (slice_index basics r)) (slice_set basics r (slice_index others c)) table_new (map name_of vs) (map (λ (v : Variable N). noted value v.note) vs) s) (sym es)

-- what a pivot in code leaves: the index, the dictionary that is seen, that it is one, and the names
pub pivot_in_code : {N : Type 0} (value : N → Fraction) (columns rows : List ℕ) (coefficients : List N) (others basics : List ℕ) (table : List N) (vs : List (Variable N)) (spent : Bool)
    (r c a b la eb : ℕ) (x y : Variable N) (table' : List N)
    → IsIndex vs basics others rows columns → IsDictionary (seen value columns rows coefficients others basics table vs spent) → spent ≡ false → r < length basics → c < length others
    → cell (length others) (map value table) r c ≢ whole (pos 0)
    → a ≡ get_or basics r a → b ≡ get_or others c b → la ≡ place_in (map name_of vs) a → eb ≡ place_in (map name_of vs) b
    → x ≡ get_or vs la x → y ≡ get_or (slice_set vs la (record { name = x.name; place = Column c; put = x.put; note = x.note })) eb y
    → map value table' ≡ table_of (length basics) (length others) (pivoted_cell (cell (length others) (map value table)) r c)
    → IsIndex (moved vs basics others rows columns r c la eb x y) (slice_set basics r b) (slice_set others c a) rows columns
    × (seen value columns rows coefficients (slice_set others c a) (slice_set basics r b) table' (moved vs basics others rows columns r c la eb x y) false
    ≡ pivoted (seen value columns rows coefficients others basics table vs spent) r c)
    × IsDictionary (seen value columns rows coefficients (slice_set others c a) (slice_set basics r b) table' (moved vs basics others rows columns r c la eb x y) false)
    × (map name_of (moved vs basics others rows columns r c la eb x y) ≡ map name_of vs)
pivot_in_code {N} value columns rows coefficients others basics table vs spent r c a b la eb x y table' index h live hr hc entry is_a is_b at_a at_b is_x is_y et =
    let d : Dictionary = seen value columns rows coefficients others basics table vs spent in
    let new : List (Variable N) = moved vs basics others rows columns r c la eb x y in
    let ea : a ≡ slice_index basics r = is_a ∙ get_or_default_zero basics r a hr in
    let eb' : b ≡ slice_index others c = is_b ∙ get_or_default_zero others c b hc in
    let in_basics : Contains basics (slice_index basics r) = Contains-at basics r hr in
    let in_others : Contains others (slice_index others c) = Contains-at others c hc in
    let differ : slice_index basics r ≢ slice_index others c = λ e. h.split.apart (slice_index others c) (subst (Contains basics) e in_basics) in_others in
    let same : seen value columns rows coefficients (slice_set others c a) (slice_set basics r b) table' new false ≡ pivoted d r c =
    seen_pivoted value columns rows coefficients others basics table vs spent r c a b table' new ea eb' et
    (moved_same vs basics others rows columns r c la eb x y name_of refl refl is_x is_y)
    (moved_same vs basics others rows columns r c la eb x y (λ (v : Variable N). noted value v.note) refl refl is_x is_y) live in (
      subst (λ (k : ℕ). IsIndex new (slice_set basics r k) (slice_set others c a) rows columns) (sym eb')
          (subst (λ (k : ℕ). IsIndex new (slice_set basics r (slice_index others c)) (slice_set others c k) rows columns) (sym ea)
          (moved_index vs basics others rows columns r c la eb x y (Distinct-increasing (map name_of vs) h.ascending) hr hc
          (h.split.first_named (slice_index basics r) in_basics) (h.split.second_named (slice_index others c) in_others) differ
          (at_a ∙ ap (place_in (map name_of vs)) ea) (at_b ∙ ap (place_in (map name_of vs)) eb') is_x is_y index)),
      same,
      subst IsDictionary (sym same) (pivoted_dictionary d h r c hr hc live entry),
      moved_same vs basics others rows columns r c la eb x y name_of refl refl is_x is_y,
    )
