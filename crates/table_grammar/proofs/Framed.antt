-- A text's records against the frame of a table.
use Rattle.std.proofs.Common.{◌≡◌, ◌==◌, ◌+◌, ◌≤◌, ℕ, Bool, true, false, cond, List, [], ◌∷◌, length, Option, Some, None, Ok, Err, refl, ap, subst, ◌∙◌}
use Rattle.std.specs.Prelude.{IfSome}
use Rattle.std.specs.List.{AllByRecursion}
use Rattle.std.specs.Option.{option_map_or}
use Rattle.std.specs.Str.{bytes_eq}
use Rattle.std.proofs.lemmas.Bool.{eq-eqb, eqb-true, ltb-false, le-ltb, cond-true, and_parts}
use Rattle.std.proofs.lemmas.Slice.Eq.{bytes_eq-Decides}
use Rattle.csv_table.specs.Table.{table_of, frame_of, is_over, same_record}
use Rattle.record_reading.specs.Records.{Record, first_ragged}
use Rattle.record_reading.specs.declared.FrameFault.TheVariants as fault
use Rattle.table_grammar.specs.TableTexts.{IsTable}
use Rattle.table_grammar.proofs.LinesRead.{derived-read}
use Rattle.table_grammar.proofs.TextsDerived.{read-derived}

-- ---- widths
even-none : (width number : ℕ) (rows : List Record) → AllByRecursion (λ row. length row ≡ width) rows → first_ragged width number rows ≡ None
unfolding first_ragged
even-none width number [] h = refl
even-none width number (row ∷ rows) h = cond-true (length row == width) _ _ (eq-eqb (length row) width h.0) ∙ even-none width (number + 1) rows h.1

none-even : (width place : ℕ) (rows : List Record) → first_ragged width place rows ≡ None → AllByRecursion (λ row. length row ≡ width) rows
unfolding first_ragged
none-even width place [] e = tt
none-even width place (row ∷ rows) e = by_test (length row == width) refl e (none-even width (place + 1) rows) where
  by_test : (test : Bool) → (length row == width) ≡ test → cond test (first_ragged width (place + 1) rows) (Some place) ≡ None →
      (first_ragged width (place + 1) rows ≡ None → AllByRecursion (λ r. length r ≡ width) rows) → (length row ≡ width) × AllByRecursion (λ r. length r ≡ width) rows
  by_test true t e h = (eqb-true (length row) width t, h e)
  by_test false t e h = absurd (Prim.cc)

-- ---- the header
same-as : (r : Record) → same_record r r ≡ true
same-as [] = refl
same-as (x ∷ r) = rw ((bytes_eq-Decides x x).1 refl, same-as r) refl

same-is : (a b : Record) → same_record a b ≡ true → a ≡ b
same-is [] [] e = refl
same-is [] (y ∷ b) e = cc e
same-is (x ∷ a) [] e = cc e
same-is (x ∷ a) (y ∷ b) e =
    let p = and_parts (bytes_eq x y) (same_record a b) e in
    ap (λ z. z ∷ a) ((bytes_eq-Decides x y).0 p.0) ∙ ap (λ r. y ∷ r) (same-is a b p.1)

-- ---- the number of records
few-under : (most : Option ℕ) (count : ℕ) → IfSome most (λ limit. count ≤ limit) → is_over most count ≡ false
few-under None count few = refl
few-under (Some limit) count few = le-ltb limit count few

under-few : (most : Option ℕ) (count : ℕ) → is_over most count ≡ false → IfSome most (λ limit. count ≤ limit)
under-few None count under = tt
under-few (Some limit) count under = ltb-false limit count under

-- ---- a table is read
frame-ok : (header : Record) (most : Option ℕ) (rows : List Record) → AllByRecursion (λ r. length r ≡ length header) rows → IfSome most (λ limit. length rows ≤ limit)
    → frame_of header most (header ∷ rows) ≡ Ok rows
unfolding frame_of
frame-ok header most rows wide few =
    let even = even-none (length header) 1 (header ∷ rows) (refl, wide) in
    rw (even, same-as header, few-under most (length rows) few) refl

pub table-read : (header : Record) (most : Option ℕ) (bytes : List ℕ) (rows : List Record) → IsTable header most bytes rows → frame_of header most (table_of bytes) ≡ Ok rows
table-read header most bytes rows table =
    ap (λ all. frame_of header most all) (derived-read bytes (header ∷ rows) table.text) ∙ frame-ok header most rows table.wide table.few

-- ---- what is read is a table
pub record Frames (header : Record) (most : Option ℕ) (all rows : List Record) : Type 0 where
  pub all_are : all ≡ header ∷ rows
  pub wide : AllByRecursion (λ r. length r ≡ length header) rows
  pub few : IfSome most (λ limit. length rows ≤ limit)

frames-by : (header : Record) (most : Option ℕ) (h : Record) (rest rows : List Record) (ragged : Option ℕ) (same over : Bool)
    → first_ragged (length h) 1 (h ∷ rest) ≡ ragged → same_record h header ≡ same → is_over most (length rest) ≡ over
    → option_map_or (λ line. Err (fault.Width line)) ragged (cond same (cond over (Err (fault.TooMany (length rest))) (Ok rest)) (Err fault.Header)) ≡ Ok rows
    → Frames header most (h ∷ rest) rows
frames-by header most h rest rows (Some line) same over r s o e = cc e
frames-by header most h rest rows None false over r s o e = cc e
frames-by header most h rest rows None true true r s o e = cc e
frames-by header most h rest rows None true false r s o e =
    let is_header = same-is h header s in
    let are : rest ≡ rows = cc e in
    let even = none-even (length h) 1 (h ∷ rest) r in
    let wide = subst (λ (k : Record). AllByRecursion (λ x. length x ≡ length k) rest) is_header even.1 in
    record {
      all_are = ap (λ k. k ∷ rest) is_header ∙ ap (λ rs. header ∷ rs) are;
      wide = subst (λ rs. AllByRecursion (λ x. length x ≡ length header) rs) are wide;
      few = subst (λ rs. IfSome most (λ limit. length rs ≤ limit)) are (under-few most (length rest) o);
    }

frames : (header : Record) (most : Option ℕ) (all rows : List Record) → frame_of header most all ≡ Ok rows → Frames header most all rows
unfolding frame_of
frames header most [] rows e = cc e
frames header most (h ∷ rest) rows e =
    frames-by header most h rest rows (first_ragged (length h) 1 (h ∷ rest)) (same_record h header) (is_over most (length rest)) refl refl refl e

pub read-table : (header : Record) (most : Option ℕ) (bytes : List ℕ) (rows : List Record) → frame_of header most (table_of bytes) ≡ Ok rows → IsTable header most bytes rows
read-table header most bytes rows read =
    let f = frames header most (table_of bytes) rows read in
    record { text = read-derived bytes (header ∷ rows) f.all_are; wide = f.wide; few = f.few }
