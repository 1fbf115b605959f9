-- Noted reduced prices stay those of the table where a row or a column is put in.
use Rattle.std.specs.Prelude.{◌≡◌, ◌≢◌, ℕ, ◌+◌, ◌*◌, ◌<◌, true, false, pos, List, [], ◌∷◌, length, filter, map, if◌then◌else◌, refl}
use Rattle.std.specs.List.{Contains}
use Rattle.std.proofs.Common.{arith, ap, sym, ◌∙◌, subst, inl, inr, get_or}
use Rattle.std.proofs.lemmas.List.{get_or-take}
use Rattle.std.proofs.lemmas.List.Elements.{Contains-append_left, Contains-push, Contains-push_cases}
use mathlib.Core.Path.{ap₂}
use Rattle.fraction_theory.specs.Fraction.{Fraction, whole, ◌*ℚ◌}
use Rattle.fraction_theory.specs.Sums.{Product, sum_by, total}
use Rattle.fraction_theory.proofs.ListSums.{Contains-filter, Contains-from_filter, Distinct-filter, Distinct-increasing, same_or_not, sum_by-members, sum_by-within}
use Rattle.fraction_theory.proofs.SumLaws.{total-Product, sum_by-nil}
use Rattle.linear_system.specs.Choices.{Choice, column_entry, others, basics, reduced, reduced_terms}
use Rattle.linear_system.specs.Systems.{System}
use Rattle.linear_system.proofs.ChoiceLaws.{basics_are, others_are, column_entry-basic, column_entry-itself, column_entry-other}
use Rattle.linear_dict.specs.Dictionaries.{AddsColumn, AddsRow, Dictionary, IsDictionary, choice_of, entry_of, note_of, system_in}
use Rattle.linear_dict.specs.Notes.{Noted}
use Rattle.linear_dict.specs.Places.{is_among, place_in}
use Rattle.linear_dict.specs.ReducedPrices.{HasReducedPrices}
use Rattle.linear_dict.specs.Tables.{cell}
use Rattle.linear_dict.proofs.ColumnLemmas as wider
use Rattle.linear_dict.proofs.NameLemmas.{among-from, among-not, among-tells, place_in-within}
use Rattle.linear_dict.proofs.ProductLemmas.{times_zero, zero_times}
use Rattle.linear_dict.proofs.RowLemmas.{place-push_old}
use Rattle.linear_dict.proofs.SplitLemmas.{basic_in, other_in}
use Rattle.linear_dict.proofs.TableLemmas.{within}

nil : Fraction
nil = whole (pos 0)

-- the reduced price of a basic variable, and of an other one as a sum
pub reduced_basic : (s : System) (h : Choice) (b : ℕ) → Contains (basics s h) b → reduced s h b ≡ whole (pos 0)
unfolding reduced
reduced_basic s h b c = ap (λ t. if t then whole (pos 0) else total (reduced_terms s h b)) (basics_are s h b c).1

pub reduced_other : (s : System) (h : Choice) (w : ℕ) → Contains (others s h) w → reduced s h w ≡ sum_by (λ j. s.price j *ℚ column_entry h j w) s.columns
unfolding reduced reduced_terms
reduced_other s h w c =
    ap (λ t. if t then whole (pos 0) else total (map (λ j. Product (s.price j) (column_entry h j w)) s.columns)) (others_are s h w c).1
    ∙ total-Product s.price (λ j. column_entry h j w) s.columns

-- sums over the columns of two dictionaries of the same columns
column_sums : (d e : Dictionary) → IsDictionary d → IsDictionary e → e.columns ≡ d.columns → (f : ℕ → Fraction) → sum_by f (system_in e).columns ≡ sum_by f (system_in d).columns
unfolding system_in
column_sums d e h k same f =
    sum_by-within f (filter (is_among e.columns) e.names) (filter (is_among d.columns) d.names)
    (Distinct-filter (is_among e.columns) e.names (Distinct-increasing e.names k.ascending))
    (Distinct-filter (is_among d.columns) d.names (Distinct-increasing d.names h.ascending))
    (λ w c.
    let m : Contains d.columns w = subst (λ (ws : List ℕ). Contains ws w) same (among-from e.columns w (Contains-from_filter (is_among e.columns) e.names w c).1) in
    Contains-filter (is_among d.columns) d.names w (h.put_in.second_named w m) (among-tells d.columns w m))
    (λ w c.
    let m : Contains e.columns w = subst (λ (ws : List ℕ). Contains ws w) (sym same) (among-from d.columns w (Contains-from_filter (is_among d.columns) d.names w c).1) in
    inl (Contains-filter (is_among e.columns) e.names w (k.put_in.second_named w m) (among-tells e.columns w m)))

column_of : (d : Dictionary) (j : ℕ) → Contains (system_in d).columns j → Contains d.columns j
unfolding system_in
column_of d j c = among-from d.columns j (Contains-from_filter (is_among d.columns) d.names j c).1

basic-of : (d : Dictionary) (j : ℕ) → Contains d.basics j → (choice_of d).basic j ≡ true
unfolding choice_of
basic-of d j c = among-tells d.basics j c

other-of : (d : Dictionary) → IsDictionary d → (j : ℕ) → Contains d.others j → (choice_of d).basic j ≡ false
unfolding choice_of
other-of d h j c = among-not d.basics j (λ k. h.split.apart j k c)

price-of : (d : Dictionary) (j : ℕ) → (system_in d).price j ≡ (note_of d j).price
unfolding system_in
price-of d j = refl

-- How much a column rises with an other variable is the same in two dictionaries where the entries are.
same_column_entry : (d e : Dictionary) → IsDictionary d → IsDictionary e → (j w : ℕ) → Contains d.names j
    → (Contains d.basics j → Contains e.basics j × ((choice_of e).entry j w ≡ (choice_of d).entry j w)) → (Contains d.others j → Contains e.others j)
    → column_entry (choice_of e) j w ≡ column_entry (choice_of d) j w
same_column_entry d e h k j w named basic other = elim (h.split.either j named) [
  | inl b ↦ column_entry-basic (choice_of e) j w (basic-of e j (basic b).0) ∙ (basic b).1 ∙ sym (column_entry-basic (choice_of d) j w (basic-of d j b))
  | inr o ↦ elim (same_or_not j w) [
    | inl s ↦ subst (λ (x : ℕ). column_entry (choice_of e) j x ≡ column_entry (choice_of d) j x) s
        (column_entry-itself (choice_of e) j (other-of e k j (other o)) ∙ sym (column_entry-itself (choice_of d) j (other-of d h j o)))
    | inr n ↦ column_entry-other (choice_of e) j w (other-of e k j (other o)) n ∙ sym (column_entry-other (choice_of d) j w (other-of d h j o) n)
  ]
]

module _ {N : Type 0} (value : N → Fraction) (old new : Dictionary) (row : ℕ) (entries : List N) (h : IsDictionary old) (absent : ¬ (Contains old.names row)) (adds : AddsRow value old row entries new) where
  no_basic : ¬ (Contains old.basics row)
  no_basic m = absent (h.split.first_named row m)

  still_basic : (b : ℕ) → Contains old.basics b → Contains new.basics b
  still_basic b m = subst (λ (bs : List ℕ). Contains bs b) (sym adds.basics) (Contains-append_left old.basics (row ∷ []) b m)

  still_other : (w : ℕ) → Contains old.others w → Contains new.others w
  still_other w m = subst (λ (ws : List ℕ). Contains ws w) (sym adds.others) m

  still_entry : (b w : ℕ) → Contains old.basics b → Contains old.others w → (choice_of new).entry b w ≡ (choice_of old).entry b w
  unfolding choice_of entry_of cell
  still_entry b w m o =
      let i : ℕ = place_in old.basics b in
      let j : ℕ = place_in old.others w in
      let count : ℕ = length old.others in
      let inside : i * count + j < length old.table =
      Prim.omega (arith, within (length old.basics) count i j (place_in-within old.basics b m).0 (place_in-within old.others w o).0, h.table_count) in
      ap (λ (ws : List ℕ). get_or new.table (place_in new.basics b * length ws + place_in ws w) (whole (pos 0))) adds.others
      ∙ ap (λ (bs : List ℕ). get_or new.table (place_in bs b * count + j) (whole (pos 0))) adds.basics
      ∙ ap (λ (k : ℕ). get_or new.table (k * count + j) (whole (pos 0))) (place-push_old old.basics row b h.split.first_distinct no_basic m)
      ∙ sym (get_or-take (length old.table) new.table (i * count + j) (whole (pos 0)) inside)
      ∙ ap (λ (ts : List Fraction). get_or ts (i * count + j) (whole (pos 0))) adds.table

  same_reduced : (w : ℕ) → Contains old.others w → reduced (system_in new) (choice_of new) w ≡ reduced (system_in old) (choice_of old) w
  same_reduced w o =
      reduced_other (system_in new) (choice_of new) w (other_in new adds.sound w (still_other w o))
      ∙ column_sums old new h adds.sound adds.columns (λ j. (system_in new).price j *ℚ column_entry (choice_of new) j w)
      ∙ sum_by-members (λ j. (system_in new).price j *ℚ column_entry (choice_of new) j w) (λ j. (system_in old).price j *ℚ column_entry (choice_of old) j w) (system_in old).columns
      (λ j c.
      let named : Contains old.names j = h.put_in.second_named j (column_of old j c) in
      ap₂ ◌*ℚ◌ (price-of new j ∙ ap Noted.price (adds.notes j named) ∙ sym (price-of old j))
      (same_column_entry old new h adds.sound j w named (λ b. (still_basic j b, still_entry j w b o)) (still_other j)))
      ∙ sym (reduced_other (system_in old) (choice_of old) w (other_in old h w o))

  -- they are so after a row is put in
  pub reduced_with_row : HasReducedPrices old → HasReducedPrices new
  reduced_with_row r = record {
    of = λ w c. elim (adds.sound.split.either w c) [
      | inl b ↦ elim (Contains-push_cases old.basics row w (subst (λ (bs : List ℕ). Contains bs w) adds.basics b)) [
        | inl m ↦ ap Noted.reduced (adds.notes w (h.split.first_named w m)) ∙ r.of w (h.split.first_named w m) ∙ reduced_basic (system_in old) (choice_of old) w (basic_in old h w m)
            ∙ sym (reduced_basic (system_in new) (choice_of new) w (basic_in new adds.sound w b))
        | inr e ↦ ap (λ (x : ℕ). (note_of new x).reduced) (sym e) ∙ ap Noted.reduced adds.blank_note ∙ sym (reduced_basic (system_in new) (choice_of new) w (basic_in new adds.sound w b))
      ]
      | inr o ↦
          let m : Contains old.others w = subst (λ (ws : List ℕ). Contains ws w) adds.others o in
          ap Noted.reduced (adds.notes w (h.split.second_named w m)) ∙ r.of w (h.split.second_named w m) ∙ sym (same_reduced w m)
    ];
  }

module _ (old new : Dictionary) (column : ℕ) (h : IsDictionary old) (absent : ¬ (Contains old.names column)) (adds : AddsColumn old column new) where
  k : wider.IsWider old column new
  k = wider.wider_of old column new adds

  not_column : (j : ℕ) → Contains old.names j → j ≢ column
  not_column j m e = absent (subst (Contains old.names) e m)

  basic_stays : (b : ℕ) → Contains old.basics b → Contains new.basics b
  basic_stays b m = subst (λ (bs : List ℕ). Contains bs b) (sym adds.basics) m

  other_stays : (w : ℕ) → Contains old.others w → Contains new.others w
  other_stays w m = subst (λ (ws : List ℕ). Contains ws w) (sym adds.others) (Contains-append_left old.others (column ∷ []) w m)

  new_other : Contains new.others column
  new_other = subst (λ (ws : List ℕ). Contains ws column) (sym adds.others) (Contains-push old.others column)

  -- the new column has no price
  no_price : (x : Fraction) → (system_in new).price column *ℚ x ≡ whole (pos 0)
  no_price x = let e : (system_in new).price column ≡ whole (pos 0) = price-of new column ∙ ap Noted.price adds.blank_note in zero_times ((system_in new).price column) x e ∙ e

  terms_over : (w : ℕ) → Contains new.others w → (g : ℕ → Fraction) → ((j : ℕ) → Contains (system_in old).columns j → (system_in new).price j *ℚ column_entry (choice_of new) j w ≡ g j)
      → reduced (system_in new) (choice_of new) w ≡ sum_by g (system_in old).columns
  terms_over w o g same =
      reduced_other (system_in new) (choice_of new) w (other_in new adds.sound w o)
      ∙ wider.column_sum old new column h absent k (λ j. (system_in new).price j *ℚ column_entry (choice_of new) j w) (no_price (column_entry (choice_of new) column w))
      ∙ sum_by-members (λ j. (system_in new).price j *ℚ column_entry (choice_of new) j w) g (system_in old).columns same

  stays_reduced : (w : ℕ) → Contains old.others w → reduced (system_in new) (choice_of new) w ≡ reduced (system_in old) (choice_of old) w
  stays_reduced w o =
      terms_over w (other_stays w o) (λ j. (system_in old).price j *ℚ column_entry (choice_of old) j w)
      (λ j c.
      let named : Contains old.names j = h.put_in.second_named j (column_of old j c) in
      ap₂ ◌*ℚ◌ (price-of new j ∙ ap Noted.price (adds.notes j named) ∙ sym (price-of old j))
      (same_column_entry old new h adds.sound j w named (λ b. (basic_stays j b, wider.kept_entry old new column h absent k j w b o)) (other_stays j)))
      ∙ sym (reduced_other (system_in old) (choice_of old) w (other_in old h w o))

  none_rises : (j : ℕ) → Contains old.names j → column_entry (choice_of new) j column ≡ whole (pos 0)
  none_rises j named = elim (h.split.either j named) [
    | inl b ↦ column_entry-basic (choice_of new) j column (basic-of new j (basic_stays j b)) ∙ wider.new_entry old new column h absent k j b
    | inr o ↦ column_entry-other (choice_of new) j column (other-of new adds.sound j (other_stays j o)) (not_column j named)
  ]

  new_reduced : reduced (system_in new) (choice_of new) column ≡ whole (pos 0)
  new_reduced =
      terms_over column new_other (λ _. whole (pos 0))
      (λ j c. times_zero ((system_in new).price j) (column_entry (choice_of new) j column) (none_rises j (h.put_in.second_named j (column_of old j c))))
      ∙ sum_by-nil (system_in old).columns

  -- and after a column is
  pub reduced_with_column : HasReducedPrices old → HasReducedPrices new
  reduced_with_column r = record {
    of = λ w c. elim (adds.sound.split.either w c) [
      | inl b ↦
          let m : Contains old.basics w = subst (λ (bs : List ℕ). Contains bs w) adds.basics b in
          ap Noted.reduced (adds.notes w (h.split.first_named w m)) ∙ r.of w (h.split.first_named w m) ∙ reduced_basic (system_in old) (choice_of old) w (basic_in old h w m)
          ∙ sym (reduced_basic (system_in new) (choice_of new) w (basic_in new adds.sound w b))
      | inr o ↦ elim (Contains-push_cases old.others column w (subst (λ (ws : List ℕ). Contains ws w) adds.others o)) [
        | inl m ↦ ap Noted.reduced (adds.notes w (h.split.second_named w m)) ∙ r.of w (h.split.second_named w m) ∙ sym (stays_reduced w m)
        | inr e ↦ subst (λ (x : ℕ). (note_of new x).reduced ≡ reduced (system_in new) (choice_of new) x) e (ap Noted.reduced adds.blank_note ∙ sym new_reduced)
      ]
    ];
  }
