-- What add_column in code leaves.
use Rattle.std.specs.Prelude.{◌≡◌, ℕ, ◌≤◌, Bool, false, List, [], ◌∷◌, ◌++◌, length, map, insert, refl}
use Rattle.std.specs.List.{Contains}
use Rattle.std.specs.List.Sorted.{IsStrictlyIncreasing}
use Rattle.std.proofs.Common.{arith, ap, sym, ◌∙◌, subst, get_or, length-append}
use Rattle.std.proofs.lemmas.List.{get_or_append_left, length-map}
use Rattle.std.proofs.Math.Seq.{get_or-append_seam}
use mathlib.Core.Path.{ap₂}
use Rattle.fraction_theory.specs.Fraction.{Fraction}
use Rattle.linear_dict.specs.declared.index.Variable.{Variable}
use Rattle.linear_dict.specs.declared.place.Place.{Place}
use Rattle.linear_dict.specs.declared.place.Place.TheVariants.{Column, Row}
use Rattle.linear_dict.specs.Dictionaries.{AddsColumn, Dictionary, IsDictionary, note_of, seen}
use Rattle.linear_dict.specs.Indexes.{AddsVariable, IsIndex, name_of}
use Rattle.linear_dict.specs.Notes.{Noted, blank, noted}
use Rattle.linear_dict.specs.Places.{StandsAt, place_in}
use Rattle.linear_dict.specs.Tables.{widened}
use Rattle.linear_dict.proofs.AddRowLemmas.{insert_read, insert_read_new}
use Rattle.linear_dict.proofs.ColumnLemmas.{IsWider, rows_after, rows_before, wider_dictionary}
use Rattle.linear_dict.proofs.GrowLemmas.{index_added}
use Rattle.linear_dict.proofs.IndexLemmas.{added_map}

-- the index after it
pub index_with_column : {N : Type 0} (vs us : List (Variable N)) (v : Variable N) (basics others rows columns os cs : List ℕ) → AddsVariable vs v us → v.place ≡ Column (length others) → v.put ≡ Column (length columns)
    → os ≡ others ++ v.name ∷ [] → cs ≡ columns ++ v.name ∷ [] → IsIndex vs basics others rows columns → IsIndex us basics os rows cs
index_with_column vs us v basics others rows columns os cs a is_place is_put eo ec index =
    index_added vs us v basics others rows columns basics os rows cs a
    (λ w p s. subst (λ (ws : List ℕ). StandsAt basics ws w p) (sym eo) (grow_second basics others w p s))
    (λ w p s. subst (λ (ws : List ℕ). StandsAt rows ws w p) (sym ec) (grow_second rows columns w p s))
    (subst (λ (ws : List ℕ). StandsAt basics ws v.name v.place) (sym eo) (stands_last basics others v.place is_place))
    (subst (λ (ws : List ℕ). StandsAt rows ws v.name v.put) (sym ec) (stands_last rows columns v.put is_put)) index
  where
    grow_second : (first second : List ℕ) (w : ℕ) (p : Place) → StandsAt first second w p → StandsAt first (second ++ v.name ∷ []) w p
    grow_second first second w (Row r) s = s
    grow_second first second w (Column c) s = (Prim.omega (arith, s.0, length-append second (v.name ∷ [])), get_or_append_left second (v.name ∷ []) 0 c s.0 ∙ s.1)

    stands_last : (first second : List ℕ) (p : Place) → p ≡ Column (length second) → StandsAt first (second ++ v.name ∷ []) v.name p
    stands_last first second p e =
        subst (StandsAt first (second ++ v.name ∷ []) v.name) (sym e) (Prim.omega (arith, length-append second (v.name ∷ [])), get_or-append_seam second v.name [] 0)

module _ {N : Type 0} (value : N → Fraction) (columns rows : List ℕ) (coefficients : List N) (others basics : List ℕ) (table : List N) (vs : List (Variable N)) (spent : Bool)
    (h : IsDictionary (seen value columns rows coefficients others basics table vs spent)) (live : spent ≡ false) (us : List (Variable N)) (v : Variable N) (a : AddsVariable vs v us)
    (absent : ¬ (Contains (map name_of vs) v.name)) (is_blank : noted value v.note ≡ blank) (cs os : List ℕ) (wide_coefficients wide_table : List N)
    (columns_are : cs ≡ columns ++ v.name ∷ []) (others_are : os ≡ others ++ v.name ∷ [])
    (coefficients_are : map value wide_coefficients ≡ widened (length rows) (length columns) (map value coefficients)) (table_is : map value wide_table ≡ widened (length basics) (length others) (map value table)) where
  old : Dictionary
  old = seen value columns rows coefficients others basics table vs spent

  new : Dictionary
  new = seen value cs rows wide_coefficients os basics wide_table us spent

  note_in : Variable N → Noted
  note_in x = noted value x.note

  within : a.rank ≤ length (map name_of vs)
  within = Prim.omega (arith, a.within, length-map vs (name_of {N = N}))

  names_are : map name_of us ≡ insert (map name_of vs) a.rank v.name
  names_are = added_map name_of vs us v a

  notes_are : map note_in us ≡ insert (map note_in vs) a.rank blank
  unfolding note_in
  notes_are = added_map (λ (x : Variable N). noted value x.note) vs us v a ∙ ap (insert (map (λ (x : Variable N). noted value x.note) vs) a.rank) is_blank

  rises : IsStrictlyIncreasing (insert (map name_of vs) a.rank v.name)
  rises = subst IsStrictlyIncreasing names_are a.ascending

  note_size : length (map note_in vs) ≡ length (map name_of vs)
  note_size = length-map vs note_in ∙ sym (length-map vs (name_of {N = N}))

  wider : IsWider old v.name new
  unfolding old new
  wider = record {
    columns = columns_are;
    rows = refl;
    coefficients = coefficients_are;
    others = others_are;
    basics = refl;
    table = table_is;
    rank = a.rank;
    within = within;
    names = names_are;
  }

  read_note : (w : ℕ) → note_of new w ≡ get_or (insert (map note_in vs) a.rank blank) (place_in (insert (map name_of vs) a.rank v.name) w) blank
  unfolding new note_of note_in
  read_note w = ap₂ (λ (xs : List Noted) (ns : List ℕ). get_or xs (place_in ns w) blank) notes_are names_are

  -- the dictionary that is seen after it
  pub add_column_in_code : AddsColumn (seen value columns rows coefficients others basics table vs spent) v.name (seen value cs rows wide_coefficients os basics wide_table us spent)
  unfolding old new note_of note_in
  add_column_in_code = record {
    live = live;
    columns = columns_are;
    rows = refl;
    coefficients = coefficients_are;
    others = others_are;
    basics = refl;
    table = table_is;
    names = (a.rank, within, names_are);
    notes = λ w m. read_note w ∙ insert_read (map name_of vs) (map note_in vs) a.rank v.name blank w rises within note_size m;
    blank_note = read_note v.name ∙ insert_read_new (map name_of vs) (map note_in vs) a.rank v.name blank rises within note_size;
    same_solutions = λ x. (rows_before old new v.name h absent wider x, rows_after old new v.name h absent wider x);
    sound = wider_dictionary old new v.name h absent wider live a.ascending (length-map us (λ (x : Variable N). noted value x.note) ∙ sym (length-map us (name_of {N = N})));
  }
