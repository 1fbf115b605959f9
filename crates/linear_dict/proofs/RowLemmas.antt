-- A dictionary after one more row.
use Rattle.std.specs.Prelude.{◌≡◌, ◌≢◌, ℕ, ◌+◌, ◌*◌, ◌<◌, ◌≤◌, Bool, true, false, not, cond, pos, List, [], ◌∷◌, ◌++◌, length, filter, insert, map, take, drop, refl, slice_index, slice_get, Some}
use Rattle.std.specs.List.{Contains}
use Rattle.std.specs.List.Sorted.{IsStrictlyIncreasing}
use Rattle.std.proofs.Common.{arith, ap, sym, ◌∙◌, subst, inl, inr, get_or, length-append}
use Rattle.std.proofs.lemmas.List.{get_or_append_left, get_or-append-add, get_or-map, length-map, take-append-drop}
use Rattle.std.proofs.lemmas.List.Elements.{filter-append, Contains-append_left, Contains-push, Contains-push_cases}
use Rattle.std.proofs.lemmas.List.Edits.{length-insert}
use Rattle.std.proofs.Math.Seq.{get_or-append_seam}
use Rattle.fraction_theory.specs.Fraction.{Fraction, whole, ◌+ℚ◌, ◌*ℚ◌}
use Rattle.fraction_theory.specs.Sums.{sum_by, total, prefix, Term, Product, term_value}
use mathlib.Core.Path.{ap₂}
use Rattle.fraction_theory.proofs.SumLaws.{total-Product, prefix-more}
use Rattle.fraction_theory.proofs.ListSums.{Contains-head, Contains-cons, Distinct, Distinct-increasing, Contains-filter, Contains-from_filter, filter-members, same_or_not, sum_by-members}
use Rattle.exact_fraction.specs.declared.Op.{Op}
use Rattle.exact_fraction.specs.Passes.{IsShareRefused}
use Rattle.linear_system.specs.Numbers.{Kind, Factor, SystemNumber, is_zero, is_one, is_coefficient, is_entry, is_row_entry}
use Rattle.linear_system.specs.Pairs.{IsSystemPair, OfEither, alone}
use Rattle.linear_system.specs.Choices.{Choice, row_entry_terms, IsChoice, MeetsTable, basics, others, column_entry}
use Rattle.linear_system.specs.Systems.{System, MeetsRows, activity}
use Rattle.linear_system.specs.SameSystems.{SameRows}
use Rattle.linear_system.proofs.SameSystems.{same_rows_choice, same_rows_factor}
use Rattle.linear_system.proofs.ChoiceLaws.{is_basic, basics_are, sum_by_others, column_entry-basic, column_entry-itself, column_entry-other}
use Rattle.linear_dict.specs.Causes.{AddShare, adding_term, put_number, put_terms}
use Rattle.linear_dict.specs.Dictionaries.{Dictionary, IsDictionary, system_in, choice_of, entry_of}
use Rattle.linear_dict.specs.Notes.{Noted}
use Rattle.linear_dict.specs.Places.{place_in, is_among}
use Rattle.linear_dict.specs.Tables.{cell}
use Rattle.std.proofs.lemmas.Option.{get_or_from_slice_get}
use Rattle.linear_dict.proofs.CauseLemmas.{share_pair, written}
use Rattle.linear_dict.proofs.GrowLemmas.{got_below, Contains-insert, Contains-inserted, Distinct-push, split_first}
use Rattle.linear_dict.proofs.NameLemmas.{place_in-at, place_in-within, among-tells, among-from, among-not}
use Rattle.linear_dict.proofs.SplitLemmas.{basic_in, in_basics, in_others}
use Rattle.linear_dict.proofs.TableLemmas.{within}

-- a filter drops a name that is put in where its test says so
pub filter-insert : (test : ℕ → Bool) (xs : List ℕ) (i x : ℕ) → test x ≡ false → filter test (insert xs i x) ≡ filter test xs
filter-insert test xs i x e =
    filter-append test (take i xs) (x ∷ drop i xs)
    ∙ ap (λ (b : Bool). filter test (take i xs) ++ cond b (x ∷ filter test (drop i xs)) (filter test (drop i xs))) e
    ∙ sym (filter-append test (take i xs) (drop i xs)) ∙ ap (filter test) (take-append-drop i xs)

pub place-push_old : (xs : List ℕ) (y w : ℕ) → Distinct xs → ¬ (Contains xs y) → Contains xs w → place_in (xs ++ y ∷ []) w ≡ place_in xs w
place-push_old xs y w d n c =
    let p = place_in-within xs w c in
    place_in-at (xs ++ y ∷ []) (place_in xs w) w (Distinct-push xs y d n) (Prim.omega (arith, p.0, length-append xs (y ∷ []))) (get_or_append_left xs (y ∷ []) 0 (place_in xs w) p.0 ∙ p.1)

pub place-push_new : (xs : List ℕ) (y : ℕ) → Distinct xs → ¬ (Contains xs y) → place_in (xs ++ y ∷ []) y ≡ length xs
place-push_new xs y d n = place_in-at (xs ++ y ∷ []) (length xs) y (Distinct-push xs y d n) (Prim.omega (arith, length-append xs (y ∷ []))) (get_or-append_seam xs y [] 0)

map-members : {S T : Type 0} (f g : S → T) (xs : List S) → ((x : S) → Contains xs x → f x ≡ g x) → map f xs ≡ map g xs
map-members f g [] e = refl
map-members f g (x ∷ xs) e = ap₂ ◌∷◌ (e x (Contains-head x xs)) (map-members f g xs (λ y m. e y (Contains-cons x xs y m)))

-- the cells of a table with one more row
pub cell-old : (columns : ℕ) (xs ys : List Fraction) (rows i j : ℕ) → length xs ≡ rows * columns → i < rows → j < columns → cell columns (xs ++ ys) i j ≡ cell columns xs i j
unfolding cell
cell-old columns xs ys rows i j e hi hj = get_or_append_left xs ys (whole (pos 0)) (i * columns + j) (Prim.omega (arith, within rows columns i j hi hj, e))

pub cell-new : (columns : ℕ) (xs ys : List Fraction) (rows j : ℕ) → length xs ≡ rows * columns → cell columns (xs ++ ys) rows j ≡ get_or ys j (whole (pos 0))
unfolding cell
cell-new columns xs ys rows j e = ap (λ (k : ℕ). get_or (xs ++ ys) (k + j) (whole (pos 0))) (sym e) ∙ get_or-append-add xs ys j (whole (pos 0))

module _ (d : Dictionary) (h : IsDictionary d) (live : d.spent ≡ false) (row i : ℕ) (absent : ¬ (Contains d.names row)) (hi : i ≤ length d.names)
    (rises : IsStrictlyIncreasing (insert d.names i row)) (es fresh : List Fraction) (ns : List Noted)
    (entry_count : length es ≡ length d.columns) (fresh_count : length fresh ≡ length d.others) (note_count : length ns ≡ length d.names + 1) where
  abbrev pub grown : Dictionary
  grown = record {
    columns = d.columns;
    rows = d.rows ++ row ∷ [];
    coefficients = d.coefficients ++ es;
    others = d.others;
    basics = d.basics ++ row ∷ [];
    table = d.table ++ fresh;
    names = insert d.names i row;
    notes = ns;
    spent = false;
  }

  s : System
  s = system_in d

  c : Choice
  c = choice_of d

  after : System
  after = system_in grown

  later : Choice
  later = choice_of grown

  no_basic : ¬ (Contains d.basics row)
  no_basic k = absent (h.split.first_named row k)

  no_row : ¬ (Contains d.rows row)
  no_row k = absent (h.put_in.first_named row k)

  not_row : (w : ℕ) → Contains d.names w → row ≢ w
  not_row w k e = absent (subst (Contains d.names) (sym e) k)

  same_columns : after.columns ≡ s.columns
  unfolding after s system_in
  same_columns = filter-insert (is_among d.columns) d.names i row (among-not d.columns row (λ k. absent (h.put_in.second_named row k)))

  among_grown : (w : ℕ) → Contains d.names w → is_among (d.basics ++ row ∷ []) w ≡ is_among d.basics w
  among_grown w k = elim (h.split.either w k) [
    | inl m ↦ among-tells (d.basics ++ row ∷ []) w (Contains-append_left d.basics (row ∷ []) w m) ∙ sym (among-tells d.basics w m)
    | inr m ↦ among-not (d.basics ++ row ∷ []) w (λ q. elim (Contains-push_cases d.basics row w q) [ inl p ↦ h.split.apart w p m | inr e ↦ not_row w k e ])
        ∙ sym (among-not d.basics w (λ q. h.split.apart w q m))
  ]

  same_others : others after later ≡ others s c
  unfolding others after later s c system_in choice_of
  same_others =
      filter-insert (λ w. not (is_among (d.basics ++ row ∷ []) w)) d.names i row (ap not (among-tells (d.basics ++ row ∷ []) row (Contains-push d.basics row)))
      ∙ filter-members (λ w. not (is_among (d.basics ++ row ∷ []) w)) (λ w. not (is_among d.basics w)) d.names (λ w k. ap not (among_grown w k))

  -- what the new row makes of a point, and the same by the new entries
  row_number : ℕ → Fraction
  row_number j = get_or es (place_in d.columns j) (whole (pos 0))

  new_activity : (v : ℕ → Fraction) → activity after v row ≡ sum_by (λ j. row_number j *ℚ v j) s.columns
  unfolding activity after row_number system_in
  new_activity v =
      ap (sum_by (λ j. after.coefficient row j *ℚ v j)) same_columns
      ∙ sum_by-members (λ j. after.coefficient row j *ℚ v j) (λ j. row_number j *ℚ v j) s.columns
      (λ j k. ap (λ t. t *ℚ v j) (ap (λ (p : ℕ). cell (length d.columns) (d.coefficients ++ es) p (place_in d.columns j)) (place-push_new d.rows row h.put_in.first_distinct no_row)
      ∙ cell-new (length d.columns) d.coefficients es (length d.rows) (place_in d.columns j) h.coefficient_count))

  new_sum : (v : ℕ → Fraction) → sum_by (λ j. after.coefficient row j *ℚ v j) after.columns ≡ sum_by (λ j. row_number j *ℚ v j) s.columns
  unfolding activity
  new_sum v = new_activity v

  old_activity : (v : ℕ → Fraction) (r : ℕ) → Contains d.rows r → activity after v r ≡ activity s v r
  unfolding activity after s system_in
  old_activity v r m =
      let p = place_in-within d.rows r m in
      ap (sum_by (λ j. after.coefficient r j *ℚ v j)) same_columns
      ∙ sum_by-members (λ j. after.coefficient r j *ℚ v j) (λ j. s.coefficient r j *ℚ v j) s.columns
      (λ j k.
      let q = place_in-within d.columns j (among-from d.columns j (Contains-from_filter (is_among d.columns) d.names j k).1) in
      ap (λ t. t *ℚ v j) (ap (λ (x : ℕ). cell (length d.columns) (d.coefficients ++ es) x (place_in d.columns j)) (place-push_old d.rows row r h.put_in.first_distinct no_row m)
      ∙ cell-old (length d.columns) d.coefficients es (length d.rows) (place_in d.rows r) (place_in d.columns j) h.coefficient_count p.0 q.0))

  old_entry : (b w : ℕ) → Contains d.basics b → Contains d.others w → later.entry b w ≡ c.entry b w
  unfolding later c choice_of entry_of
  old_entry b w m k =
      let p = place_in-within d.basics b m in
      let q = place_in-within d.others w k in
      ap (λ (x : ℕ). cell (length d.others) (d.table ++ fresh) x (place_in d.others w)) (place-push_old d.basics row b h.split.first_distinct no_basic m)
      ∙ cell-old (length d.others) d.table fresh (length d.basics) (place_in d.basics b) (place_in d.others w) h.table_count p.0 q.0

  new_entry : (w : ℕ) → later.entry row w ≡ get_or fresh (place_in d.others w) (whole (pos 0))
  unfolding later choice_of entry_of
  new_entry w =
      ap (λ (x : ℕ). cell (length d.others) (d.table ++ fresh) x (place_in d.others w)) (place-push_new d.basics row h.split.first_distinct no_basic)
      ∙ cell-new (length d.others) d.table fresh (length d.basics) (place_in d.others w) h.table_count

  module _ (sums : (k : ℕ) → k < length d.others → get_or fresh k (whole (pos 0)) ≡ sum_by (λ j. get_or es (place_in d.columns j) (whole (pos 0)) *ℚ column_entry (choice_of d) j (slice_index d.others k)) (system_in d).columns) where
    new_row : (v : ℕ → Fraction) → MeetsTable s c v → activity after v row ≡ sum_by (λ w. later.entry row w *ℚ v w) (others after later)
    unfolding row_number s c system_in
    new_row v m =
        new_activity v
        ∙ sum_by_others s (Distinct-increasing d.names h.ascending) c v m row_number s.columns (λ j k. (Contains-from_filter (is_among d.columns) d.names j k).0)
        ∙ sum_by-members (λ w. sum_by (λ j. row_number j *ℚ column_entry c j w) s.columns *ℚ v w) (λ w. later.entry row w *ℚ v w) (others s c)
        (λ w k.
        let p = place_in-within d.others w (in_others d h w k) in
        ap (λ t. t *ℚ v w) (ap (λ (x : ℕ). sum_by (λ j. row_number j *ℚ column_entry c j x) s.columns) (sym p.1) ∙ sym (new_entry w ∙ sums (place_in d.others w) p.0)))
        ∙ ap (sum_by (λ w. later.entry row w *ℚ v w)) (sym same_others)

    rows_before : (v : ℕ → Fraction) → MeetsRows after v → MeetsRows s v
    unfolding after s system_in
    rows_before v m = record {
      row = λ r k.
          let q = Contains-from_filter (is_among d.rows) d.names r k in
          let in_rows : Contains d.rows r = among-from d.rows r q.1 in
          m.row r (Contains-filter (is_among (d.rows ++ row ∷ [])) (insert d.names i row) r (Contains-insert d.names i row r hi q.0) (among-tells (d.rows ++ row ∷ []) r (Contains-append_left d.rows (row ∷ []) r in_rows)))
          ∙ old_activity v r in_rows;
    }

    basic_later : (b : ℕ) → Contains (d.basics ++ row ∷ []) b → Contains (basics after later) b
    unfolding after later system_in choice_of
    basic_later b k = is_basic after later b
        (elim (Contains-push_cases d.basics row b k) [ inl p ↦ Contains-insert d.names i row b hi (h.split.first_named b p) | inr e ↦ subst (Contains (insert d.names i row)) e (Contains-inserted d.names i row hi) ])
        (among-tells (d.basics ++ row ∷ []) b k)

    same_sum : (v : ℕ → Fraction) (b : ℕ) → Contains d.basics b → sum_by (λ w. later.entry b w *ℚ v w) (others after later) ≡ sum_by (λ w. c.entry b w *ℚ v w) (others s c)
    unfolding s c
    same_sum v b k =
        ap (sum_by (λ w. later.entry b w *ℚ v w)) same_others
        ∙ sum_by-members (λ w. later.entry b w *ℚ v w) (λ w. c.entry b w *ℚ v w) (others s c) (λ w m. ap (λ t. t *ℚ v w) (old_entry b w k (in_others d h w m)))

    table_before : (v : ℕ → Fraction) → MeetsTable after later v → MeetsTable s c v
    unfolding s c
    table_before v m = record {
      basic = λ b k.
          let in_old : Contains d.basics b = in_basics d h b k in
          m.basic b (basic_later b (Contains-append_left d.basics (row ∷ []) b in_old)) ∙ same_sum v b in_old;
    }

    grown_choice : IsChoice after later
    unfolding after later s c system_in choice_of
    grown_choice =
        let choice : IsChoice s c = h.solutions live in record {
          to_table = λ v m.
              let table : MeetsTable s c v = choice.to_table v (rows_before v m) in record {
                basic = λ b k. elim (Contains-push_cases d.basics row b (among-from (d.basics ++ row ∷ []) b (basics_are after later b k).1)) [
                  | inl p ↦ table.basic b (basic_in d h b p) ∙ sym (same_sum v b p)
                  | inr e ↦ ap v (sym e)
                      ∙ m.row row (Contains-filter (is_among (d.rows ++ row ∷ [])) (insert d.names i row) row (Contains-inserted d.names i row hi) (among-tells (d.rows ++ row ∷ []) row (Contains-push d.rows row)))
                      ∙ new_row v table ∙ ap (λ (x : ℕ). sum_by (λ w. later.entry x w *ℚ v w) (others after later)) e
                ];
              };
          to_rows = λ v m.
              let table : MeetsTable s c v = table_before v m in
              let old : MeetsRows s v = choice.to_rows v table in record {
                row = λ r k. elim (Contains-push_cases d.rows row r (among-from (d.rows ++ row ∷ []) r (Contains-from_filter (is_among (d.rows ++ row ∷ [])) (insert d.names i row) r k).1)) [
                  | inl p ↦ old.row r (Contains-filter (is_among d.rows) d.names r (h.put_in.first_named r p) (among-tells d.rows r p)) ∙ sym (old_activity v r p)
                  | inr e ↦ ap v (sym e) ∙ m.basic row (basic_later row (Contains-push d.basics row)) ∙ sym (new_row v table) ∙ ap (activity after v) e
                ];
              };
        }

    pub grown_dictionary : IsDictionary grown
    unfolding after later
    grown_dictionary = record {
      row_count = length-append d.rows (row ∷ []) ∙ Prim.omega (arith, h.row_count) ∙ sym (length-append d.basics (row ∷ []));
      column_count = h.column_count;
      coefficient_count = length-append d.coefficients es ∙ Prim.omega (arith, h.coefficient_count, entry_count) ∙ ap (λ (k : ℕ). k * length d.columns) (sym (length-append d.rows (row ∷ [])));
      table_count = length-append d.table fresh ∙ Prim.omega (arith, h.table_count, fresh_count) ∙ ap (λ (k : ℕ). k * length d.others) (sym (length-append d.basics (row ∷ [])));
      note_count = note_count ∙ sym (length-insert d.names i row hi);
      ascending = rises;
      put_in = split_first d.names d.rows d.columns i row hi absent h.put_in;
      split = split_first d.names d.basics d.others i row hi absent h.split;
      solutions = λ _. grown_choice;
    }

    -- the new row's entries are the named sums
    pub grown_entries : (k : ℕ) → k < length d.others → cell (length d.others) (d.table ++ fresh) (length d.basics) k ≡ total (row_entry_terms (system_in grown) (choice_of d) row (slice_index d.others k))
    unfolding row_entry_terms s c after row_number
    grown_entries k hk =
        let w : ℕ = slice_index d.others k in
        cell-new (length d.others) d.table fresh (length d.basics) k h.table_count ∙ sums k hk
        ∙ sym (new_sum (λ j. column_entry (choice_of d) j w))
        ∙ sym (total-Product ((system_in grown).coefficient row) (λ j. column_entry (choice_of d) j w) (system_in grown).columns)

    -- The later choice has the numbers that adding the row needs, whatever the prices and bounds.
    Number : Kind → Fraction → Type 0
    Number kind x = (t : System) → SameRows after t → OfEither (SystemNumber t) later later kind x

    factor : (x : Fraction) → SystemNumber after later Factor x → Number Factor x
    unfolding Number
    factor x n = λ t same. inl (same_rows_factor after t same later Factor x n refl)

    column_named : (j : ℕ) → Contains s.columns j → Contains d.names j
    unfolding s system_in
    column_named j k = (Contains-from_filter (is_among d.columns) d.names j k).0

    other_later : (w : ℕ) → Contains (others s c) w → Contains (others after later) w
    other_later w k = subst (λ (ws : List ℕ). Contains ws w) (sym same_others) k

    row_in : Contains after.rows row
    unfolding after system_in
    row_in = Contains-filter (is_among (d.rows ++ row ∷ [])) (insert d.names i row) row (Contains-inserted d.names i row hi) (among-tells (d.rows ++ row ∷ []) row (Contains-push d.rows row))

    coefficient_is : (j : ℕ) → after.coefficient row j ≡ put_number d es j
    unfolding after system_in put_number
    coefficient_is j =
        ap (λ (p : ℕ). cell (length d.columns) (d.coefficients ++ es) p (place_in d.columns j)) (place-push_new d.rows row h.put_in.first_distinct no_row)
        ∙ cell-new (length d.columns) d.coefficients es (length d.rows) (place_in d.columns j) h.coefficient_count

    row_coefficient : (j : ℕ) → Contains s.columns j → Number Factor (put_number d es j)
    row_coefficient j k = factor _ (subst (SystemNumber after later Factor) (coefficient_is j) (is_coefficient row j row_in (subst (λ (ws : List ℕ). Contains ws j) (sym same_columns) k)))

    entry_number : (j w : ℕ) → Contains d.basics j → Contains (others s c) w → Number Factor (c.entry j w)
    unfolding s c
    entry_number j w m o = factor _ (subst (SystemNumber after later Factor) (old_entry j w m (in_others d h w o)) (is_entry j w (basic_later j (Contains-append_left d.basics (row ∷ []) j m)) (other_later w o)))

    before_basic : (j : ℕ) → Contains d.basics j → c.basic j ≡ true
    unfolding c choice_of
    before_basic j m = among-tells d.basics j m

    before_other : (j : ℕ) → Contains d.others j → c.basic j ≡ false
    unfolding c choice_of
    before_other j m = among-not d.basics j (λ q. h.split.apart j q m)

    later_same : (j : ℕ) → Contains d.names j → later.basic j ≡ c.basic j
    unfolding later c choice_of
    later_same j k = among_grown j k

    -- the columns' entries stay, and are numbers
    column_stays : (j w : ℕ) → Contains d.names j → Contains d.others w → column_entry later j w ≡ column_entry c j w
    column_stays j w k o = elim (h.split.either j k) [
      | inl m ↦ column_entry-basic later j w (later_same j k ∙ before_basic j m) ∙ old_entry j w m o ∙ sym (column_entry-basic c j w (before_basic j m))
      | inr m ↦ elim (same_or_not j w) [
        | inl e ↦ ap (column_entry later j) (sym e) ∙ column_entry-itself later j (later_same j k ∙ before_other j m)
            ∙ sym (ap (column_entry c j) (sym e) ∙ column_entry-itself c j (before_other j m))
        | inr n ↦ column_entry-other later j w (later_same j k ∙ before_other j m) n ∙ sym (column_entry-other c j w (before_other j m) n)
      ]
    ]

    column_number : (j w : ℕ) → Contains d.names j → Contains (others s c) w → Number Factor (column_entry c j w)
    column_number j w k o = elim (h.split.either j k) [
      | inl m ↦ subst (Number Factor) (sym (column_entry-basic c j w (before_basic j m))) (entry_number j w m o)
      | inr m ↦ elim (same_or_not j w) [
        | inl e ↦ factor _ (subst (SystemNumber after later Factor) (sym (ap (column_entry c j) (sym e) ∙ column_entry-itself c j (before_other j m))) is_one)
        | inr n ↦ factor _ (subst (SystemNumber after later Factor) (sym (column_entry-other c j w (before_other j m) n)) is_zero)
      ]
    ]

    prefix_stays : (k w : ℕ) → Contains (others s c) w → prefix k (row_entry_terms after later row w) ≡ prefix k (put_terms d es w)
    unfolding row_entry_terms put_terms s c
    prefix_stays k w o =
        ap (λ (js : List ℕ). prefix k (map (λ j. Product (after.coefficient row j) (column_entry later j w)) js)) same_columns
        ∙ ap (prefix k) (map-members (λ j. Product (after.coefficient row j) (column_entry later j w)) (λ j. Product (put_number d es j) (column_entry (choice_of d) j w)) (system_in d).columns
        (λ j m. ap₂ Product (coefficient_is j) (column_stays j w (column_named j m) (in_others d h w o))))

    -- the sum with the next term is that of one term more
    next_prefix : (k j w : ℕ) → slice_get (system_in d).columns k ≡ Some j → prefix (k + 1) (put_terms d es w) ≡ prefix k (put_terms d es w) +ℚ put_number d es j *ℚ column_entry (choice_of d) j w
    unfolding put_terms
    next_prefix k j w got =
        let term : ℕ → Term = λ i. Product (put_number d es i) (column_entry (choice_of d) i w) in
        let columns : List ℕ = (system_in d).columns in
        let below : k < length columns = got_below columns k j got in
        let here : get_or (map term columns) k (term j) ≡ term j = get_or-map term columns k j (term j) below ∙ ap term (get_or_from_slice_get columns k j j got) in
        prefix-more k (map term columns) (term j) (Prim.omega (arith, below, length-map columns term)) ∙ ap (λ t. prefix k (map term columns) +ℚ term_value t) here

    row_prefix : (k w : ℕ) → Contains (others s c) w → Number Factor (prefix k (put_terms d es w))
    row_prefix k w o = factor _ (subst (SystemNumber after later Factor) (prefix_stays k w o) (is_row_entry row w k row_in (other_later w o)))

    -- the numbers of what adding the row asks
    added_numbers : (x p q : Fraction) → AddShare d es x p q → Number Factor x × (Number Factor p × Number Factor q) × Number Factor (x +ℚ p *ℚ q)
    unfolding s c
    added_numbers _ _ _ (adding_term k j w got o) =
        let m : Contains (system_in d).columns j = (k, got_below (system_in d).columns k j got, get_or_from_slice_get (system_in d).columns k j j got) in (
          row_prefix k w o,
          (row_coefficient j m, column_number j w (column_named j m) o),
          subst (Number Factor) (next_prefix k j w got) (row_prefix (k + 1) w o),
        )

    -- a refused operation of the row is a working pair of each system with it
    pub added_pair : (bound : ℕ) (op : Op) (left right x p q : Fraction) → AddShare d es x p q → IsShareRefused bound x p q op left right
        → (t : System) → SameRows (system_in grown) t → IsSystemPair t bound op left right
    unfolding after later Number
    added_pair bound op left right x p q asked refused t same =
        let h : Choice = choice_of grown in
        let choice : IsChoice t h = same_rows_choice (system_in grown) t same h grown_choice in
        let n = added_numbers x p q asked in
        share_pair t h h choice choice (inl refl) Factor x p q (n.0 t same) (inl (n.1.0 t same, alone q (n.1.1 t same))) (written t h h Factor (x +ℚ p *ℚ q) (n.2 t same)) bound op left right refused
