-- What add_row in code leaves.
use Rattle.std.specs.Prelude.{◌≡◌, ℕ, ◌+◌, ◌*◌, ◌<◌, ◌≤◌, Bool, false, pos, List, [], ◌∷◌, ◌++◌, length, map, insert, slice_index, slice_get, Some, refl, take, drop, filter, cond, true}
use Rattle.std.specs.List.{Contains}
use Rattle.std.specs.List.Sorted.{IsStrictlyIncreasing}
use Rattle.std.proofs.Common.{suc, arith, ap, sym, ◌∙◌, subst, inl, inr, get_or, length-append}
use Rattle.std.proofs.lemmas.List.{get_or_append_left, length-map, map-append, take-append-drop, take-map, length-take, get_or-take}
use Rattle.std.proofs.lemmas.List.Edits.{get_or-insert_at, get_or-insert_above, get_or-insert_below, length-insert}
use Rattle.std.proofs.Math.Nat.{mul-le-mul_right}
use Rattle.std.proofs.Math.Path.{subst₃}
use Rattle.std.proofs.Math.Seq.{get_or-append_seam, take-append_seam, drop-cons}
use Rattle.std.proofs.lemmas.Option.{slice_get-get_or, get_or_from_slice_get}
use mathlib.Core.Path.{ap₂}
use Rattle.fraction_theory.specs.Fraction.{Fraction, whole, ◌+ℚ◌, ◌*ℚ◌}
use Rattle.fraction_theory.specs.Sums.{sum_by, Term, Product, total, prefix}
use Rattle.fraction_theory.proofs.ListSums.{Distinct, Distinct-increasing, kept, sum_by-filter, sum_by-members, same_or_not, put_at-here, put_at-elsewhere}
use Rattle.linear_system.specs.Choices.{column_entry}
use Rattle.linear_system.specs.Choices as choices
use Rattle.linear_system.proofs.ChoiceLaws.{column_entry-basic, column_entry-itself, column_entry-other}
use Rattle.std.proofs.lemmas.List.Elements.{filter-append}
use Rattle.fraction_theory.proofs.SumLaws.{total-Product}
use Rattle.linear_dict.specs.Adding.{AreSums, row_term, AreInTable, IsInTable, IsPutAmong}
use Rattle.exact_fraction.specs.declared.Op.{Op}
use Rattle.exact_fraction.specs.Passes.{IsShareRefused}
use Rattle.linear_system.specs.Pairs.{IsSystemPair}
use Rattle.linear_system.specs.SameSystems.{SameRows}
use Rattle.linear_system.specs.Systems.{System}
use Rattle.std.specs.List.{range_with_len}
use Rattle.std.proofs.lemmas.List.FromFn.{get_or-map-range_with_len, length-map-range_with_len}
use Rattle.linear_dict.specs.Causes.{AddShare, RowShare, TermShare, MultipleShare, increase, of_basic, of_other, of_variable, adding_term, put_number, put_terms}
use Rattle.linear_dict.proofs.MovedLemmas.{name_at}
use Rattle.linear_dict.specs.declared.index.Variable.{Variable}
use Rattle.linear_dict.specs.declared.place.Place.{Place}
use Rattle.linear_dict.specs.declared.place.Place.TheVariants.{Row, Column}
use Rattle.linear_dict.specs.Dictionaries.{AddsRow, Dictionary, IsDictionary, seen, system_in, choice_of, entry_of, note_of}
use Rattle.linear_dict.specs.Indexes.{name_of, AddsVariable, IsIndex}
use Rattle.linear_dict.specs.Notes.{Noted, noted, blank}
use Rattle.linear_dict.specs.Places.{place_in, is_among, StandsAt}
use Rattle.linear_dict.specs.Tables.{cell}
use Rattle.linear_dict.proofs.AddingLemmas.{term_of_row, term_of_basic, term_of_other}
use Rattle.linear_dict.proofs.GrowLemmas.{index_added, got_below}
use Rattle.linear_dict.proofs.IndexLemmas.{belongs, map-insert}
use Rattle.linear_dict.proofs.NameLemmas.{place_in-at, place_in-within, among-tells, among-not, lt_or_le}
use Rattle.linear_dict.proofs.RowLemmas.{added_pair, grown, grown_dictionary, grown_entries}
use Rattle.linear_dict.proofs.SplitLemmas.{Contains-at, other_in}

-- a dictionary as it is seen and as it is are one
pub adds_row_to : {N : Type 0} {value : N → Fraction} {d e new : Dictionary} {row : ℕ} {entries : List N} → d ≡ e → AddsRow value d row entries new → AddsRow value e row entries new
adds_row_to {value = value} {new = new} {row = row} {entries = entries} same h = subst (λ (x : Dictionary). AddsRow value x row entries new) same h

sum_by-map : {S T : Type 0} (f : T → Fraction) (g : S → T) (xs : List S) → sum_by f (map g xs) ≡ sum_by (λ x. f (g x)) xs
sum_by-map f g [] = refl
sum_by-map f g (x ∷ xs) = ap (λ t. f (g x) +ℚ t) (sum_by-map f g xs)

module _ {N : Type 0} (value : N → Fraction) (columns rows : List ℕ) (coefficients : List N) (others basics : List ℕ) (table : List N) (vs : List (Variable N)) (spent : Bool) where
  abbrev d : Dictionary
  d = seen value columns rows coefficients others basics table vs spent

  module _ (h : IsDictionary (seen value columns rows coefficients others basics table vs spent)) (index : IsIndex vs basics others rows columns) (entries : List N) where
    number : ℕ → ℕ → Fraction
    number w j = get_or (map value entries) (place_in columns j) (whole (pos 0)) *ℚ column_entry (choice_of d) j w

    -- where a column stands, its term is its entry as put in, times its entry in the table
    term_is : (v : Variable N) (k : ℕ) → k < length others → (p q : Place) → v.put ≡ p → v.place ≡ q → StandsAt rows columns v.name p → StandsAt basics others v.name q
        → row_term value (length others) table entries k v ≡ kept (is_among columns v.name) (number (slice_index others k) v.name)
    unfolding number choice_of entry_of
    term_is v k hk (Row r) q ep eq sp sq =
        let in_rows : Contains rows v.name = subst (Contains rows) sp.1 (Contains-at rows r sp.0) in
        term_of_row value (length others) table entries v r k ep
        ∙ sym (ap (λ (b : Bool). kept b (number (slice_index others k) v.name)) (among-not columns v.name (λ m. h.put_in.apart v.name in_rows m)))
    term_is v k hk (Column j) (Row r) ep eq sp sq =
        let in_columns : Contains columns v.name = subst (Contains columns) sp.1 (Contains-at columns j sp.0) in
        let in_basics : Contains basics v.name = subst (Contains basics) sq.1 (Contains-at basics r sq.0) in
        term_of_basic value (length others) table entries v j r k ep eq
        ∙ ap₂ ◌*ℚ◌ (ap (λ (i : ℕ). get_or (map value entries) i (whole (pos 0))) (sym (place_in-at columns j v.name h.put_in.second_distinct sp.0 sp.1)))
        (ap₂ (cell (length others) (map value table)) (sym (place_in-at basics r v.name h.split.first_distinct sq.0 sq.1)) (sym (place_in-at others k (slice_index others k) h.split.second_distinct hk refl))
        ∙ sym (column_entry-basic (choice_of d) v.name (slice_index others k) (among-tells basics v.name in_basics)))
        ∙ sym (ap (λ (b : Bool). kept b (number (slice_index others k) v.name)) (among-tells columns v.name in_columns))
    term_is v k hk (Column j) (Column m) ep eq sp sq =
        let in_columns : Contains columns v.name = subst (Contains columns) sp.1 (Contains-at columns j sp.0) in
        let in_others : Contains others v.name = subst (Contains others) sq.1 (Contains-at others m sq.0) in
        let other : is_among basics v.name ≡ false = among-not basics v.name (λ q. h.split.apart v.name q in_others) in
        term_of_other value (length others) table entries v j m k ep eq
        ∙ ap₂ ◌*ℚ◌ (ap (λ (i : ℕ). get_or (map value entries) i (whole (pos 0))) (sym (place_in-at columns j v.name h.put_in.second_distinct sp.0 sp.1)))
        (elim (same_or_not k m) [
          | inl e ↦ put_at-here m (whole (pos 1)) (λ _. whole (pos 0)) k e
              ∙ sym (ap (column_entry (choice_of d) v.name) (ap (slice_index others) e ∙ sq.1) ∙ column_entry-itself (choice_of d) v.name other)
          | inr n ↦ put_at-elsewhere m (whole (pos 1)) (λ _. whole (pos 0)) k n
              ∙ sym (column_entry-other (choice_of d) v.name (slice_index others k) other (λ e. n (sym (place_in-at others k v.name h.split.second_distinct hk (sym e)) ∙ place_in-at others m v.name h.split.second_distinct sq.0 sq.1)))
        ])
        ∙ sym (ap (λ (b : Bool). kept b (number (slice_index others k) v.name)) (among-tells columns v.name in_columns))

    -- sums in code over some of the variables are sums over the columns of these
    sums_over : (us : List (Variable N)) (k : ℕ) → k < length others → ((v : Variable N) → Contains us v → (m : ℕ) × (slice_get vs m ≡ Some v))
        → sum_by (row_term value (length others) table entries k) us ≡ sum_by (number (slice_index others k)) (filter (is_among columns) (map name_of us))
    sums_over us k hk each =
        let w : ℕ = slice_index others k in
        sum_by-members (row_term value (length others) table entries k) (λ v. kept (is_among columns v.name) (number w v.name)) us
        (λ v m. let got = each v m in term_is v k hk v.put v.place refl refl (index.was_put got.0 v got.1) (index.stands got.0 v got.1))
        ∙ sym (sum_by-map (λ j. kept (is_among columns j) (number w j)) name_of us)
        ∙ sym (sum_by-filter (number w) (is_among columns) (map name_of us))

    -- the sums in code are the sums over the columns
    pub code_sums : (k : ℕ) → k < length others → sum_by (row_term value (length others) table entries k) vs
        ≡ sum_by (λ j. get_or (map value entries) (place_in columns j) (whole (pos 0)) *ℚ column_entry (choice_of (seen value columns rows coefficients others basics table vs spent)) j (slice_index others k))
        (system_in (seen value columns rows coefficients others basics table vs spent)).columns
    unfolding number system_in
    code_sums k hk = sums_over vs k hk (λ v m. (m.0, slice_get-get_or vs m.0 v m.1 ∙ ap Some m.2))

    basic_false : (w : ℕ) → Contains others w → (choice_of d).basic w ≡ false
    unfolding choice_of
    basic_false w m = among-not basics w (λ q. h.split.apart w q m)

    module _ (k : ℕ) (v : Variable N) (got : slice_get vs k ≡ Some v) where
      test : ℕ → Bool
      test = is_among columns

      names : List ℕ
      names = map name_of vs

      before : List ℕ
      before = filter test (take k names)

      rest : List ℕ
      rest = filter test (drop (suc k) names)

      -- the columns before this variable's, it, and those after it
      columns_split : test v.name ≡ true → (system_in d).columns ≡ before ++ v.name ∷ rest
      unfolding test names before rest system_in
      columns_split e =
          let p = name_at vs k v got in
          let below : k < length (map name_of vs) = Prim.omega (arith, p.0, length-map vs (name_of {N = N})) in
          ap (filter (is_among columns)) (sym (take-append-drop k (map name_of vs)))
          ∙ filter-append (is_among columns) (take k (map name_of vs)) (drop k (map name_of vs))
          ∙ ap (λ (xs : List ℕ). filter (is_among columns) (take k (map name_of vs)) ++ filter (is_among columns) xs) (drop-cons (map name_of vs) k 0 below ∙ ap (λ (x : ℕ). x ∷ drop (suc k) (map name_of vs)) p.1)
          ∙ ap (λ (b : Bool). filter (is_among columns) (take k (map name_of vs)) ++ cond b (v.name ∷ filter (is_among columns) (drop (suc k) (map name_of vs))) (filter (is_among columns) (drop (suc k) (map name_of vs)))) e

      column_here : test v.name ≡ true → slice_get (system_in d).columns (length before) ≡ Some v.name
      column_here e =
          let at : slice_get (before ++ v.name ∷ rest) (length before) ≡ Some v.name =
          slice_get-get_or (before ++ v.name ∷ rest) (length before) v.name (Prim.omega (arith, length-append before (v.name ∷ rest))) ∙ ap Some (get_or-append_seam before v.name rest v.name) in
          ap (λ (xs : List ℕ). slice_get xs (length before)) (columns_split e) ∙ at

      column_in : test v.name ≡ true → Contains (system_in d).columns v.name
      column_in e = let r = column_here e in (length before, got_below (system_in d).columns (length before) v.name r, get_or_from_slice_get (system_in d).columns (length before) v.name v.name r)

      -- the sum so far is that of the first terms
      prefix_here : test v.name ≡ true → (c : ℕ) → c < length others → prefix (length before) (put_terms d (map value entries) (slice_index others c)) ≡ sum_by (row_term value (length others) table entries c) (take k vs)
      unfolding put_terms put_number number before names test
      prefix_here e c hc =
          let w : ℕ = slice_index others c in
          let term : ℕ → Term = λ j. Product (get_or (map value entries) (place_in columns j) (whole (pos 0))) (column_entry (choice_of d) j w) in
          ap (λ (xs : List ℕ). total (take (length before) (map term xs))) (columns_split e)
          ∙ ap total (take-map term (length before) (before ++ v.name ∷ rest) ∙ ap (map term) (take-append_seam before (v.name ∷ rest)))
          ∙ total-Product (λ j. get_or (map value entries) (place_in columns j) (whole (pos 0))) (λ j. column_entry (choice_of d) j w) before
          ∙ ap (λ (xs : List ℕ). sum_by (number w) (filter (is_among columns) xs)) (take-map name_of k vs)
          ∙ sym (sums_over (take k vs) c hc (λ x m.
          let low : m.0 < k = Prim.omega (arith, m.1, length-take k vs) in
          (m.0, slice_get-get_or vs m.0 x (Prim.omega (arith, m.1, length-take k vs)) ∙ ap Some (sym (get_or-take k vs m.0 x low) ∙ m.2))))

      number_here : (j : ℕ) → v.put ≡ Column j → (test v.name ≡ true) × (put_number d (map value entries) v.name ≡ get_or (map value entries) j (whole (pos 0)))
      unfolding put_number test
      number_here j e =
          let s : StandsAt rows columns v.name (Column j) = subst (StandsAt rows columns v.name) e (index.was_put k v got) in (
            among-tells columns v.name (subst (Contains columns) s.1 (Contains-at columns j s.0)),
            ap (λ (i : ℕ). get_or (map value entries) i (whole (pos 0))) (place_in-at columns j v.name h.put_in.second_distinct s.0 s.1),
          )

      other_here : (c : ℕ) → c < length others → Contains (choices.others (system_in d) (choice_of d)) (slice_index others c)
      other_here c hc = other_in d h (slice_index others c) (Contains-at others c hc)

      entry_here : (r c : ℕ) → v.place ≡ Row r → c < length others → ((choice_of d).basic v.name ≡ true) × ((choice_of d).entry v.name (slice_index others c) ≡ cell (length others) (map value table) r c) × Contains basics v.name
      unfolding choice_of entry_of
      entry_here r c e hc =
          let s : StandsAt basics others v.name (Row r) = subst (StandsAt basics others v.name) e (index.stands k v got) in
          let m : Contains basics v.name = subst (Contains basics) s.1 (Contains-at basics r s.0) in (
            among-tells basics v.name m,
            ap₂ (cell (length others) (map value table)) (place_in-at basics r v.name h.split.first_distinct s.0 s.1) (place_in-at others c (slice_index others c) h.split.second_distinct hc refl),
            m,
          )

      multiple_asks : (j r : ℕ) → v.put ≡ Column j → v.place ≡ Row r → (x a b : Fraction)
          → MultipleShare (length others) (λ c. sum_by (row_term value (length others) table entries c) (take k vs)) (get_or (map value entries) j (whole (pos 0))) (cell (length others) (map value table) r) x a b
          → AddShare d (map value entries) x a b
      multiple_asks j r put at _ _ _ (increase c hc) =
          let n = number_here j put in
          let e = entry_here r c at hc in
          subst₃ (AddShare d (map value entries)) (prefix_here n.0 c hc) n.1 (column_entry-basic (choice_of d) v.name (slice_index others c) e.0 ∙ e.1)
          (adding_term (length before) v.name (slice_index others c) (column_here n.0) (other_here c hc))

      variable_asks : (x a b : Fraction) → TermShare value (length others) table entries v (λ c. sum_by (row_term value (length others) table entries c) (take k vs)) x a b → AddShare d (map value entries) x a b
      variable_asks _ _ _ (of_basic j r x a b put at o) = multiple_asks j r put at x a b o
      variable_asks _ _ _ (of_other j c put at) =
          let n = number_here j put in
          let s : StandsAt basics others v.name (Column c) = subst (StandsAt basics others v.name) at (index.stands k v got) in
          let in_others : Contains others v.name = subst (Contains others) s.1 (Contains-at others c s.0) in
          let other : (choice_of d).basic v.name ≡ false = basic_false v.name in_others in
          subst₃ (AddShare d (map value entries)) (prefix_here n.0 c s.0) n.1 (ap (column_entry (choice_of d) v.name) s.1 ∙ column_entry-itself (choice_of d) v.name other)
          (adding_term (length before) v.name (slice_index others c) (column_here n.0) (other_here c s.0))

    -- what adding the terms asks is what adding the row asks
    pub row_asks : (x a b : Fraction) → RowShare value (length others) table entries vs x a b → AddShare (seen value columns rows coefficients others basics table vs spent) (map value entries) x a b
    row_asks _ _ _ (of_variable k v x a b got o) = variable_asks k v got x a b o

    -- each variable's places are in the table and among the entries
    pub places_within : length entries ≡ length columns → AreInTable (length table) (length others) (length entries) vs
    places_within e = record { each = λ k v got. record { place = in_table v.place v.name (index.stands k v got); put = among v.put v.name (index.was_put k v got) } }
      where
        in_table : (p : Place) (w : ℕ) → StandsAt basics others w p → IsInTable (length table) (length others) p
        in_table (Row r) w s =
            let a : suc r * length others ≤ length basics * length others = mul-le-mul_right (length others) s.0 in
            Prim.omega (arith, a, h.table_count, length-map table value)
        in_table (Column c) w s = s.0

        among : (p : Place) (w : ℕ) → StandsAt rows columns w p → IsPutAmong (length entries) p
        among (Row r) w s = tt
        among (Column j) w s = Prim.omega (arith, s.0, e)

-- what is read by name after one more name is put in
pub insert_read : (names : List ℕ) (notes : List Noted) (i row : ℕ) (n : Noted) (w : ℕ) → IsStrictlyIncreasing (insert names i row) → i ≤ length names → length notes ≡ length names → Contains names w
    → get_or (insert notes i n) (place_in (insert names i row) w) blank ≡ get_or notes (place_in names w) blank
insert_read names notes i row n w rises h l m =
    let p = place_in-within names w m in
    let k : ℕ = place_in names w in
    let distinct : Distinct (insert names i row) = Distinct-increasing (insert names i row) rises in
    let size : length (insert names i row) ≡ length names + 1 = length-insert names i row h in
    elim (lt_or_le k i) [
      | inl b ↦ ap (λ (x : ℕ). get_or (insert notes i n) x blank) (place_in-at (insert names i row) k w distinct (Prim.omega (arith, p.0, size)) (get_or-insert_below names i row 0 k b h ∙ p.1))
          ∙ get_or-insert_below notes i n blank k b (Prim.omega (arith, h, l))
      | inr b ↦ ap (λ (x : ℕ). get_or (insert notes i n) x blank) (place_in-at (insert names i row) (k + 1) w distinct (Prim.omega (arith, p.0, size)) (get_or-insert_above names i row 0 k b h ∙ p.1))
          ∙ get_or-insert_above notes i n blank k b (Prim.omega (arith, h, l))
    ]

pub insert_read_new : (names : List ℕ) (notes : List Noted) (i row : ℕ) (n : Noted) → IsStrictlyIncreasing (insert names i row) → i ≤ length names → length notes ≡ length names
    → get_or (insert notes i n) (place_in (insert names i row) row) blank ≡ n
insert_read_new names notes i row n rises h l =
    ap (λ (x : ℕ). get_or (insert notes i n) x blank)
    (place_in-at (insert names i row) i row (Distinct-increasing (insert names i row) rises) (Prim.omega (arith, h, length-insert names i row h)) (get_or-insert_at names i row 0 h))
    ∙ get_or-insert_at notes i n blank (Prim.omega (arith, h, l))

module _ {N : Type 0} (value : N → Fraction) (columns rows : List ℕ) (coefficients : List N) (others basics : List ℕ) (table : List N) (vs : List (Variable N)) (spent : Bool)
    (h : IsDictionary (seen value columns rows coefficients others basics table vs spent)) (index : IsIndex vs basics others rows columns) (live : spent ≡ false)
    (row : ℕ) (absent : ¬ (Contains (map name_of vs) row)) (entries fresh : List N) (entry_count : length entries ≡ length columns)
    (sums : AreSums value fresh (length others) (λ c. sum_by (row_term value (length others) table entries c) vs))
    (us : List (Variable N)) (v : Variable N) (a : AddsVariable vs v us) (is_row : v.name ≡ row) (is_place : v.place ≡ Row (length basics)) (is_put : v.put ≡ Row (length rows)) (is_blank : noted value v.note ≡ blank) where
  old : Dictionary
  old = seen value columns rows coefficients others basics table vs spent

  notes : List (Variable N) → List Noted
  notes = map (λ (x : Variable N). noted value x.note)

  new : Dictionary
  new = record {
    columns = columns;
    rows = rows ++ row ∷ [];
    coefficients = map value coefficients ++ map value entries;
    others = others;
    basics = basics ++ row ∷ [];
    table = map value table ++ map value fresh;
    names = insert (map name_of vs) a.rank row;
    notes = insert (map (λ (x : Variable N). noted value x.note) vs) a.rank blank;
    spent = false;
  }

  rank_within : a.rank ≤ length (map name_of vs)
  rank_within = Prim.omega (arith, a.within, length-map vs (name_of {N = N}))

  names_are : map name_of us ≡ insert (map name_of vs) a.rank row
  names_are = ap (map name_of) a.is ∙ map-insert name_of vs a.rank v ∙ ap (insert (map name_of vs) a.rank) is_row

  notes_are : notes us ≡ insert (notes vs) a.rank blank
  unfolding notes
  notes_are = ap (map (λ (x : Variable N). noted value x.note)) a.is ∙ map-insert (λ (x : Variable N). noted value x.note) vs a.rank v ∙ ap (insert (map (λ (x : Variable N). noted value x.note) vs) a.rank) is_blank

  rises : IsStrictlyIncreasing (insert (map name_of vs) a.rank row)
  rises = subst IsStrictlyIncreasing names_are a.ascending

  note_size : length (notes vs) ≡ length (map name_of vs)
  unfolding notes
  note_size = length-map vs (λ (x : Variable N). noted value x.note) ∙ sym (length-map vs (name_of {N = N}))

  -- the dictionary that is seen after it
  same : seen value columns (rows ++ row ∷ []) (coefficients ++ entries) others (basics ++ row ∷ []) (table ++ fresh) us spent ≡ new
  unfolding new old notes
  same =
      let make : List Fraction → List Fraction → List ℕ → List Noted → Bool → Dictionary = λ cs ts ns os s. record {
        columns = columns;
        rows = rows ++ row ∷ [];
        coefficients = cs;
        others = others;
        basics = basics ++ row ∷ [];
        table = ts;
        names = ns;
        notes = os;
        spent = s;
      } in
      ap (λ (cs : List Fraction). make cs (map value (table ++ fresh)) (map name_of us) (map (λ (x : Variable N). noted value x.note) us) spent) (map-append value coefficients entries)
      ∙ ap (λ (ts : List Fraction). make (map value coefficients ++ map value entries) ts (map name_of us) (map (λ (x : Variable N). noted value x.note) us) spent) (map-append value table fresh)
      ∙ ap (λ (ns : List ℕ). make (map value coefficients ++ map value entries) (map value table ++ map value fresh) ns (map (λ (x : Variable N). noted value x.note) us) spent) names_are
      ∙ ap (λ (os : List Noted). make (map value coefficients ++ map value entries) (map value table ++ map value fresh) (insert (map name_of vs) a.rank row) os spent) notes_are
      ∙ ap (λ (s : Bool). make (map value coefficients ++ map value entries) (map value table ++ map value fresh) (insert (map name_of vs) a.rank row) (insert (map (λ (x : Variable N). noted value x.note) vs) a.rank blank) s) live

  fresh_sums : (k : ℕ) → k < length others → get_or (map value fresh) k (whole (pos 0))
      ≡ sum_by (λ j. get_or (map value entries) (place_in columns j) (whole (pos 0)) *ℚ column_entry (choice_of old) j (slice_index others k)) (system_in old).columns
  unfolding old
  fresh_sums k hk = sums.at k hk ∙ code_sums value columns rows coefficients others basics table vs spent h index entries k hk

  adds : AddsRow value old row entries new
  unfolding new old note_of notes
  adds =
      let ec : length (map value entries) ≡ length columns = length-map entries value ∙ entry_count in
      let fc : length (map value fresh) ≡ length others = length-map fresh value ∙ sums.size in
      let nc : length (insert (map (λ (x : Variable N). noted value x.note) vs) a.rank blank) ≡ length (map name_of vs) + 1 =
      length-insert (map (λ (x : Variable N). noted value x.note) vs) a.rank blank (Prim.omega (arith, rank_within, note_size)) ∙ ap (λ (k : ℕ). k + 1) note_size in record {
        live = refl;
        columns = refl;
        rows = refl;
        coefficients = refl;
        others = refl;
        basics = refl;
        table = take-append_seam (map value table) (map value fresh);
        row_entries = grown_entries (seen value columns rows coefficients others basics table vs spent) h live row a.rank absent rank_within rises (map value entries) (map value fresh)
            (insert (map (λ (x : Variable N). noted value x.note) vs) a.rank blank) ec fc nc fresh_sums;
        notes = λ w m. insert_read (map name_of vs) (map (λ (x : Variable N). noted value x.note) vs) a.rank row blank w rises rank_within note_size m;
        blank_note = insert_read_new (map name_of vs) (map (λ (x : Variable N). noted value x.note) vs) a.rank row blank rises rank_within note_size;
        sound = grown_dictionary (seen value columns rows coefficients others basics table vs spent) h live row a.rank absent rank_within rises (map value entries) (map value fresh)
            (insert (map (λ (x : Variable N). noted value x.note) vs) a.rank blank) ec fc nc fresh_sums;
      }

  pub add_row_in_code : IsIndex us (basics ++ row ∷ []) others (rows ++ row ∷ []) columns
      × AddsRow value (seen value columns rows coefficients others basics table vs spent) row entries
      (seen value columns (rows ++ row ∷ []) (coefficients ++ entries) others (basics ++ row ∷ []) (table ++ fresh) us spent)
  unfolding old
  add_row_in_code = (
    index_added vs us v basics others rows columns (basics ++ row ∷ []) others (rows ++ row ∷ []) columns a
        (λ w p s. grow_first basics others w p s) (λ w p s. grow_first rows columns w p s)
        (subst (λ (p : Place). StandsAt (basics ++ row ∷ []) others v.name p) (sym is_place) (Prim.omega (arith, length-append basics (row ∷ [])), get_or-append_seam basics row [] 0 ∙ sym is_row))
        (subst (λ (p : Place). StandsAt (rows ++ row ∷ []) columns v.name p) (sym is_put) (Prim.omega (arith, length-append rows (row ∷ [])), get_or-append_seam rows row [] 0 ∙ sym is_row))
        index,
    subst (AddsRow value (seen value columns rows coefficients others basics table vs spent) row entries) (sym same) adds,
  )
    where
      grow_first : (first second : List ℕ) (w : ℕ) (p : Place) → StandsAt first second w p → StandsAt (first ++ row ∷ []) second w p
      grow_first first second w (Row r) s = (Prim.omega (arith, s.0, length-append first (row ∷ [])), get_or_append_left first (row ∷ []) 0 r s.0 ∙ s.1)
      grow_first first second w (Column c) s = s

  -- the same of lists that are these
  pub add_row_lists : (rs bs : List ℕ) (cs ts : List N) → rs ≡ rows ++ row ∷ [] → bs ≡ basics ++ row ∷ [] → cs ≡ coefficients ++ entries → ts ≡ table ++ fresh
      → IsIndex us bs others rs columns × AddsRow value (seen value columns rows coefficients others basics table vs spent) row entries (seen value columns rs cs others bs ts us spent)
  add_row_lists rs bs cs ts er eb ec et =
      let P : List ℕ → List ℕ → List N → List N → Type 0 = λ r b x y. IsIndex us b others r columns
      × AddsRow value (seen value columns rows coefficients others basics table vs spent) row entries (seen value columns r x others b y us spent) in
      subst (λ (r : List ℕ). P r bs cs ts) (sym er)
      (subst (λ (b : List ℕ). P (rows ++ row ∷ []) b cs ts) (sym eb)
      (subst (λ (x : List N). P (rows ++ row ∷ []) (basics ++ row ∷ []) x ts) (sym ec)
      (subst (λ (y : List N). P (rows ++ row ∷ []) (basics ++ row ∷ []) (coefficients ++ entries) y) (sym et) add_row_in_code)))

-- Whatever the numbers of the type can hold, a row can be put in; what is refused in doing so is a working pair with it,
-- whatever the prices and bounds.
pub row_pair : {N : Type 0} (value : N → Fraction) (d : Dictionary) → IsDictionary d → d.spent ≡ false → (row : ℕ) → ¬ (Contains d.names row) → (entries : List N) → length entries ≡ length d.columns
    → (bound : ℕ) (op : Op) (left right x a b : Fraction) → AddShare d (map value entries) x a b → IsShareRefused bound x a b op left right
    → (new : Dictionary) × AddsRow value d row entries new × ((s : System) → SameRows (system_in new) s → IsSystemPair s bound op left right)
unfolding note_of
row_pair value d h live row absent entries count bound op left right x a b asked refused =
    let es : List Fraction = map value entries in
    let at = belongs d.names row h.ascending absent in
    let entry : ℕ → Fraction = λ k. sum_by (λ j. get_or es (place_in d.columns j) (whole (pos 0)) *ℚ column_entry (choice_of d) j (slice_index d.others k)) (system_in d).columns in
    let n : ℕ = length d.others in
    let fresh : List Fraction = map entry (range_with_len 0 n) in
    let notes : List Noted = insert d.notes at.0 blank in
    let ec : length es ≡ length d.columns = length-map entries value ∙ count in
    let fc : length fresh ≡ n = length-map-range_with_len entry 0 n in
    let nc : length notes ≡ length d.names + 1 = length-insert d.notes at.0 blank (Prim.omega (arith, at.1, h.note_count)) ∙ ap (λ (k : ℕ). k + 1) h.note_count in
    let sums : (k : ℕ) → k < length d.others → get_or fresh k (whole (pos 0)) ≡ entry k = λ k l. get_or-map-range_with_len entry 0 n k k (whole (pos 0)) l (Prim.omega arith) in (
      grown d h live row at.0 absent at.1 at.2 es fresh notes ec fc nc,
      record {
        live = refl;
        columns = refl;
        rows = refl;
        coefficients = refl;
        others = refl;
        basics = refl;
        table = take-append_seam d.table fresh;
        row_entries = grown_entries d h live row at.0 absent at.1 at.2 es fresh notes ec fc nc sums;
        notes = λ w m. insert_read d.names d.notes at.0 row blank w at.2 at.1 h.note_count m;
        blank_note = insert_read_new d.names d.notes at.0 row blank at.2 at.1 h.note_count;
        sound = grown_dictionary d h live row at.0 absent at.1 at.2 es fresh notes ec fc nc sums;
      },
      added_pair d h live row at.0 absent at.1 at.2 es fresh notes ec fc nc sums bound op left right x a b asked refused,
    )
