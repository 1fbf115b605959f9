-- A dictionary after one more column.
use Rattle.std.specs.Prelude.{◌≡◌, ℕ, ◌+◌, ◌*◌, ◌<◌, ◌≤◌, Bool, true, false, not, cond, pos, List, [], ◌∷◌, ◌++◌, length, filter, insert, take, drop, refl}
use Rattle.std.specs.List.{Contains}
use Rattle.std.specs.List.Sorted.{IsStrictlyIncreasing}
use Rattle.std.proofs.Common.{arith, ap, sym, ◌∙◌, subst, inl, inr, length-append}
use Rattle.std.proofs.lemmas.List.{take-append-drop}
use Rattle.std.proofs.lemmas.List.Elements.{filter-append, Contains-append_left, Contains-push_cases}
use Rattle.std.proofs.Math.Path.{subst₃}
use mathlib.Core.Path.{ap₂}
use Rattle.fraction_theory.specs.Fraction.{Fraction, whole, ◌+ℚ◌, ◌*ℚ◌}
use Rattle.fraction_theory.specs.Sums.{sum_by}
use Rattle.fraction_theory.proofs.FieldLaws.{ring_ℚ}
use Rattle.fraction_theory.proofs.ListSums.{Contains-from_filter, Distinct, filter-members, put_at-elsewhere, put_at-here, sum_by-members}
use Rattle.fraction_theory.proofs.Ring.{nil_plus}
use Rattle.fraction_theory.proofs.SumLaws.{sum_by-append}
use Rattle.linear_system.specs.Choices.{Choice, IsChoice, MeetsTable, basics, others}
use Rattle.linear_system.specs.Systems.{System, MeetsRows, activity}
use Rattle.linear_dict.specs.Dictionaries.{AddsColumn, Dictionary, IsDictionary, choice_of, entry_of, system_in}
use Rattle.linear_dict.specs.Places.{IsSplit, is_among, place_in}
use Rattle.linear_dict.specs.Tables.{cell, widened, widened_cell}
use Rattle.linear_dict.proofs.GrowLemmas.{split_second}
use Rattle.linear_dict.proofs.NameLemmas.{among-from, among-not, among-tells, place_in-within}
use Rattle.linear_dict.proofs.ProductLemmas.{zero_times}
use Rattle.linear_dict.proofs.RowLemmas.{filter-insert, place-push_new, place-push_old}
use Rattle.linear_dict.proofs.SplitLemmas.{in_basics, in_others}
use Rattle.linear_dict.proofs.TableLemmas.{shows_table}

abbrev nil : Fraction
nil = whole (pos 0)

-- ---- the table
pub widened_cell-old : (f : ℕ → ℕ → Fraction) (columns i j : ℕ) → j < columns → widened_cell f columns i j ≡ f i j
unfolding widened_cell
widened_cell-old f columns i j h = put_at-elsewhere columns nil (f i) j (λ e. Prim.omega (arith, e, h))

pub widened_cell-new : (f : ℕ → ℕ → Fraction) (columns i : ℕ) → widened_cell f columns i columns ≡ nil
unfolding widened_cell
widened_cell-new f columns i = put_at-here columns nil (f i) columns refl

widened-length : (rows columns : ℕ) (xs : List Fraction) → length (widened rows columns xs) ≡ rows * (columns + 1)
unfolding widened
widened-length rows columns xs = (shows_table rows (columns + 1) (widened_cell (cell columns xs) columns)).count

widened-old : (rows columns : ℕ) (xs : List Fraction) (i j : ℕ) → i < rows → j < columns → cell (columns + 1) (widened rows columns xs) i j ≡ cell columns xs i j
unfolding widened
widened-old rows columns xs i j hi hj =
    (shows_table rows (columns + 1) (widened_cell (cell columns xs) columns)).at i j hi (Prim.omega (arith, hj)) ∙ widened_cell-old (cell columns xs) columns i j hj

widened-new : (rows columns : ℕ) (xs : List Fraction) (i : ℕ) → i < rows → cell (columns + 1) (widened rows columns xs) i columns ≡ nil
unfolding widened
widened-new rows columns xs i hi =
    (shows_table rows (columns + 1) (widened_cell (cell columns xs) columns)).at i columns hi (Prim.omega arith) ∙ widened_cell-new (cell columns xs) columns i

-- the cells of a wider table by the names of its rows and columns
module _ (rows columns : List ℕ) (xs : List Fraction) (column : ℕ) (distinct : Distinct columns) (absent : ¬ (Contains columns column))
    (rs cs : List ℕ) (ys : List Fraction) (rows_are : rs ≡ rows) (columns_are : cs ≡ columns ++ column ∷ []) (wide : ys ≡ widened (length rows) (length columns) xs) where
  by_place : (r j : ℕ) → cell (length cs) ys (place_in rs r) (place_in cs j) ≡ cell (length columns + 1) (widened (length rows) (length columns) xs) (place_in rows r) (place_in (columns ++ column ∷ []) j)
  by_place r j =
      ap (λ (zs : List Fraction). cell (length cs) zs (place_in rs r) (place_in cs j)) wide
      ∙ ap (λ (ws : List ℕ). cell (length cs) (widened (length rows) (length columns) xs) (place_in ws r) (place_in cs j)) rows_are
      ∙ ap (λ (ws : List ℕ). cell (length ws) (widened (length rows) (length columns) xs) (place_in rows r) (place_in ws j)) columns_are
      ∙ ap (λ (n : ℕ). cell n (widened (length rows) (length columns) xs) (place_in rows r) (place_in (columns ++ column ∷ []) j)) (length-append columns (column ∷ []))

  cell_kept : (r j : ℕ) → Contains rows r → Contains columns j → cell (length cs) ys (place_in rs r) (place_in cs j) ≡ cell (length columns) xs (place_in rows r) (place_in columns j)
  cell_kept r j m k =
      by_place r j ∙ ap (cell (length columns + 1) (widened (length rows) (length columns) xs) (place_in rows r)) (place-push_old columns column j distinct absent k)
      ∙ widened-old (length rows) (length columns) xs (place_in rows r) (place_in columns j) (place_in-within rows r m).0 (place_in-within columns j k).0

  cell_nil : (r : ℕ) → Contains rows r → cell (length cs) ys (place_in rs r) (place_in cs column) ≡ whole (pos 0)
  cell_nil r m =
      by_place r column ∙ ap (cell (length columns + 1) (widened (length rows) (length columns) xs) (place_in rows r)) (place-push_new columns column distinct absent)
      ∙ widened-new (length rows) (length columns) xs (place_in rows r) (place_in-within rows r m).0

-- ---- sums over names
-- a name more, whose term is 0, adds nothing
sum-insert : (f : ℕ → Fraction) (test : ℕ → Bool) (xs : List ℕ) (i x : ℕ) → f x ≡ whole (pos 0) → sum_by f (filter test (insert xs i x)) ≡ sum_by f (filter test xs)
sum-insert f test xs i x z =
    ap (sum_by f) (filter-append test (take i xs) (x ∷ drop i xs)) ∙ sum_by-append f (filter test (take i xs)) (filter test (x ∷ drop i xs))
    ∙ ap (λ t. sum_by f (filter test (take i xs)) +ℚ t) (dropped (test x) (filter test (drop i xs)))
    ∙ sym (sum_by-append f (filter test (take i xs)) (filter test (drop i xs)))
    ∙ ap (sum_by f) (sym (filter-append test (take i xs) (drop i xs)) ∙ ap (filter test) (take-append-drop i xs))
  where
    dropped : (b : Bool) (ys : List ℕ) → sum_by f (cond b (x ∷ ys) ys) ≡ sum_by f ys
    dropped true ys = ap (λ t. t +ℚ sum_by f ys) z ∙ nil_plus ring_ℚ (sum_by f ys)
    dropped false ys = refl

among-push : (xs : List ℕ) (y w : ℕ) → ¬ (y ≡ w) → is_among (xs ++ y ∷ []) w ≡ is_among xs w
among-push xs y w n = by_bool (is_among xs w) refl
  where
    by_bool : (b : Bool) → is_among xs w ≡ b → is_among (xs ++ y ∷ []) w ≡ is_among xs w
    by_bool true e = among-tells (xs ++ y ∷ []) w (Contains-append_left xs (y ∷ []) w (among-from xs w e)) ∙ sym e
    by_bool false e =
        among-not (xs ++ y ∷ []) w (λ q. elim (Contains-push_cases xs y w q) [
          | inl p ↦ let wrong : false ≡ true = sym e ∙ among-tells xs w p in absurd Prim.cc
          | inr d ↦ n d
        ]) ∙ sym e

-- ---- the dictionary
-- the lists of a dictionary with a column more
pub record IsWider (d : Dictionary) (column : ℕ) (new : Dictionary) : Type 0 where
  pub columns : new.columns ≡ d.columns ++ column ∷ []
  pub rows : new.rows ≡ d.rows
  pub coefficients : new.coefficients ≡ widened (length d.rows) (length d.columns) d.coefficients
  pub others : new.others ≡ d.others ++ column ∷ []
  pub basics : new.basics ≡ d.basics
  pub table : new.table ≡ widened (length d.basics) (length d.others) d.table
  pub rank : ℕ
  pub within : rank ≤ length d.names
  pub names : new.names ≡ insert d.names rank column

pub wider_of : (old : Dictionary) (column : ℕ) (new : Dictionary) → AddsColumn old column new → IsWider old column new
wider_of old column new a = record {
  columns = a.columns;
  rows = a.rows;
  coefficients = a.coefficients;
  others = a.others;
  basics = a.basics;
  table = a.table;
  rank = a.names.0;
  within = a.names.1;
  names = a.names.2;
}

module _ (d new : Dictionary) (column : ℕ) (h : IsDictionary d) (absent : ¬ (Contains d.names column)) (k : IsWider d column new) where
  s : System
  s = system_in d

  c : Choice
  c = choice_of d

  after : System
  after = system_in new

  later : Choice
  later = choice_of new

  no_column : ¬ (Contains d.columns column)
  no_column m = absent (h.put_in.second_named column m)

  no_other : ¬ (Contains d.others column)
  no_other m = absent (h.split.second_named column m)

  -- the rows stay, and so do the basic variables
  pub same_rows : (system_in new).rows ≡ (system_in d).rows
  unfolding system_in
  same_rows =
      ap₂ (λ (rs ns : List ℕ). filter (is_among rs) ns) k.rows k.names
      ∙ filter-insert (is_among d.rows) d.names k.rank column (among-not d.rows column (λ m. absent (h.put_in.first_named column m)))

  same_basics : basics after later ≡ basics s c
  unfolding after later s c basics system_in choice_of
  same_basics =
      ap₂ (λ (bs ns : List ℕ). filter (is_among bs) ns) k.basics k.names
      ∙ filter-insert (is_among d.basics) d.names k.rank column (among-not d.basics column (λ m. absent (h.split.first_named column m)))

  -- sums over the columns, and over the others
  pub column_sum : (f : ℕ → Fraction) → f column ≡ whole (pos 0) → sum_by f (system_in new).columns ≡ sum_by f (system_in d).columns
  unfolding after s system_in
  column_sum f z =
      ap (sum_by f) (ap₂ (λ (cs ns : List ℕ). filter (is_among cs) ns) k.columns k.names) ∙ sum-insert f (is_among (d.columns ++ column ∷ [])) d.names k.rank column z
      ∙ ap (sum_by f) (filter-members (is_among (d.columns ++ column ∷ [])) (is_among d.columns) d.names (λ w m. among-push d.columns column w (λ e. absent (subst (Contains d.names) (sym e) m))))

  other_sum : (f : ℕ → Fraction) → f column ≡ whole (pos 0) → sum_by f (others after later) ≡ sum_by f (others s c)
  unfolding after later s c others system_in choice_of
  other_sum f z =
      ap (sum_by f) (ap₂ (λ (bs ns : List ℕ). filter (λ w. not (is_among bs w)) ns) k.basics k.names) ∙ sum-insert f (λ w. not (is_among d.basics w)) d.names k.rank column z

  -- the old coefficients stay, and the new ones are 0
  pub kept_coefficient : (r j : ℕ) → Contains d.rows r → Contains d.columns j → (system_in new).coefficient r j ≡ (system_in d).coefficient r j
  unfolding system_in
  kept_coefficient r j m q = cell_kept d.rows d.columns d.coefficients column h.put_in.second_distinct no_column new.rows new.columns new.coefficients k.rows k.columns k.coefficients r j m q

  pub new_coefficient : (r : ℕ) → Contains d.rows r → (system_in new).coefficient r column ≡ whole (pos 0)
  unfolding system_in
  new_coefficient r m = cell_nil d.rows d.columns d.coefficients column h.put_in.second_distinct no_column new.rows new.columns new.coefficients k.rows k.columns k.coefficients r m

  pub kept_entry : (b w : ℕ) → Contains d.basics b → Contains d.others w → (choice_of new).entry b w ≡ (choice_of d).entry b w
  unfolding choice_of entry_of
  kept_entry b w m q = cell_kept d.basics d.others d.table column h.split.second_distinct no_other new.basics new.others new.table k.basics k.others k.table b w m q

  pub new_entry : (b : ℕ) → Contains d.basics b → (choice_of new).entry b column ≡ whole (pos 0)
  unfolding choice_of entry_of
  new_entry b m = cell_nil d.basics d.others d.table column h.split.second_distinct no_other new.basics new.others new.table k.basics k.others k.table b m

  nil_times_any : (a t : Fraction) → a ≡ whole (pos 0) → a *ℚ t ≡ whole (pos 0)
  nil_times_any a t e = zero_times a t e ∙ e

  -- what a row makes of a point stays
  pub same_activity : (v : ℕ → Fraction) (r : ℕ) → Contains d.rows r → activity (system_in new) v r ≡ activity (system_in d) v r
  unfolding activity after s system_in
  same_activity v r m =
      column_sum (λ j. after.coefficient r j *ℚ v j) (nil_times_any (after.coefficient r column) (v column) (new_coefficient r m))
      ∙ sum_by-members (λ j. after.coefficient r j *ℚ v j) (λ j. s.coefficient r j *ℚ v j) s.columns
      (λ j q. ap (λ t. t *ℚ v j) (kept_coefficient r j m (among-from d.columns j (Contains-from_filter (is_among d.columns) d.names j q).1)))

  same_sum : (v : ℕ → Fraction) (b : ℕ) → Contains d.basics b → sum_by (λ w. later.entry b w *ℚ v w) (others after later) ≡ sum_by (λ w. c.entry b w *ℚ v w) (others s c)
  unfolding later s c
  same_sum v b m =
      other_sum (λ w. later.entry b w *ℚ v w) (nil_times_any (later.entry b column) (v column) (new_entry b m))
      ∙ sum_by-members (λ w. later.entry b w *ℚ v w) (λ w. c.entry b w *ℚ v w) (others s c) (λ w q. ap (λ t. t *ℚ v w) (kept_entry b w m (in_others d h w q)))

  row_in : (r : ℕ) → Contains (system_in d).rows r → Contains d.rows r
  unfolding system_in
  row_in r m = among-from d.rows r (Contains-from_filter (is_among d.rows) d.names r m).1

  -- A point meets the rows where it met them before, and the table likewise.
  pub rows_before : (v : ℕ → Fraction) → MeetsRows (system_in new) v → MeetsRows (system_in d) v
  rows_before v m = record { row = λ r q. m.row r (subst (λ (rs : List ℕ). Contains rs r) (sym same_rows) q) ∙ same_activity v r (row_in r q) }

  pub rows_after : (v : ℕ → Fraction) → MeetsRows (system_in d) v → MeetsRows (system_in new) v
  rows_after v m = record {
    row = λ r q. let p : Contains (system_in d).rows r = subst (λ (rs : List ℕ). Contains rs r) same_rows q in m.row r p ∙ sym (same_activity v r (row_in r p));
  }

  table_before : (v : ℕ → Fraction) → MeetsTable after later v → MeetsTable s c v
  unfolding s c
  table_before v m = record { basic = λ b q. m.basic b (subst (λ (bs : List ℕ). Contains bs b) (sym same_basics) q) ∙ same_sum v b (in_basics d h b q) }

  table_after : (v : ℕ → Fraction) → MeetsTable s c v → MeetsTable after later v
  unfolding s c
  table_after v m = record {
    basic = λ b q. let p : Contains (basics s c) b = subst (λ (bs : List ℕ). Contains bs b) same_basics q in m.basic b p ∙ sym (same_sum v b (in_basics d h b p));
  }

  wider_choice : IsChoice s c → IsChoice after later
  unfolding after s
  wider_choice choice = record { to_table = λ v m. table_after v (choice.to_table v (rows_before v m)); to_rows = λ v m. rows_after v (choice.to_rows v (table_before v m)) }

  grown_split : (first second fs ss : List ℕ) → fs ≡ first → ss ≡ second ++ column ∷ [] → IsSplit d.names first second → IsSplit new.names fs ss
  grown_split first second fs ss ef es p = subst₃ IsSplit (sym k.names) (sym ef) (sym es) (split_second d.names first second k.rank column k.within absent p)

  grown_size : (first second fs ss : List ℕ) (xs ys : List Fraction) → fs ≡ first → ss ≡ second ++ column ∷ [] → ys ≡ widened (length first) (length second) xs → length ys ≡ length fs * length ss
  grown_size first second fs ss xs ys ef es ey =
      ap length ey ∙ widened-length (length first) (length second) xs ∙ ap₂ ◌*◌ (sym (ap length ef)) (sym (ap length es ∙ length-append second (column ∷ [])))

  pub wider_dictionary : d.spent ≡ false → IsStrictlyIncreasing new.names → length new.notes ≡ length new.names → IsDictionary new
  unfolding after later s c
  wider_dictionary live rises noted = record {
    row_count = ap length k.rows ∙ h.row_count ∙ sym (ap length k.basics);
    column_count =
        ap length k.columns ∙ length-append d.columns (column ∷ []) ∙ ap (λ (n : ℕ). n + 1) h.column_count ∙ sym (ap length k.others ∙ length-append d.others (column ∷ []));
    coefficient_count = grown_size d.rows d.columns new.rows new.columns d.coefficients new.coefficients k.rows k.columns k.coefficients;
    table_count = grown_size d.basics d.others new.basics new.others d.table new.table k.basics k.others k.table;
    note_count = noted;
    ascending = rises;
    put_in = grown_split d.rows d.columns new.rows new.columns k.rows k.columns h.put_in;
    split = grown_split d.basics d.others new.basics new.others k.basics k.others h.split;
    solutions = λ _. wider_choice (h.solutions live);
  }
