-- Records of one width as one run of cells.
use Rattle.std.proofs.Common.{◌≡◌, ◌≢◌, ◌≤◌, ◌<◌, ◌+◌, ◌*◌, ◌∷◌, ◌++◌, ℕ, zero, suc, List, [], Some, None, length, take, drop, get_or, refl, sym, arith, ne_eqb, append-nil, ◌∙◌, ap, ◌^◌, mul-le-mul_right}
use Rattle.std.proofs.lemmas.Bool.{eq-eqb}
use Rattle.std.proofs.lemmas.List.{drop-append-le, get_or-drop, get_or-take, length-drop, length-take, take-append-le, take_all}
use Rattle.record_reading.specs.Records.{Record, cell_of, first_ragged}
use Rattle.csv.specs.Records.{fields_of}
use Rattle.csv_table.specs.Records.{IsFlat, IsPushStop, IsRecordsStop, cut, first_of, records_in}
use Rattle.csv_table.specs.declared.Records.{Records}
use Rattle.csv_table.specs.declared.RecordsStop.{RecordsStop}
use Rattle.csv_table.specs.declared.RecordsStop.TheVariants as stop

-- a run of one record more and those behind it
more_cells : (width count n : ℕ) → n ≡ suc count * width → width ≤ n
more_cells width count n is = grind arith

pub length-cut : (width count : ℕ) (cells : List (List ℕ)) → length (cut width count cells) ≡ count
unfolding cut
length-cut width zero cells = refl
length-cut width (suc count) cells = let rest = length-cut width count (drop width cells) in omega arith

-- cells behind the first record are those of the others
rest_cells : (width count : ℕ) (cells : List (List ℕ)) → length cells ≡ suc count * width → length (drop width cells) ≡ count * width
rest_cells width count cells is = grind (arith, length-drop width cells)

-- each record has the width
pub wide : (width count : ℕ) (cells : List (List ℕ)) (k : ℕ) → length cells ≡ count * width → k < count → length (get_or (cut width count cells) k []) ≡ width
unfolding cut
wide width zero cells k is lt = absurd (omega arith)
wide width (suc count) cells zero is lt =
    let enough = more_cells width count (length cells) is in
    omega (arith, length-take width cells)
wide width (suc count) cells (suc k) is lt = wide width count (drop width cells) k (rest_cells width count cells is) (omega arith)

-- the cell of a record stands behind those of the records before it
pub cell-cut : (width count : ℕ) (cells : List (List ℕ)) (k col : ℕ) → length cells ≡ count * width → k < count → col < width
    → cell_of cells (k * width + col) ≡ cell_of (get_or (cut width count cells) k []) col
unfolding cut
cell-cut width zero cells k col is lt below = absurd (omega arith)
cell-cut width (suc count) cells zero col is lt below =
    let place : 0 * width + col ≡ col = omega arith in
    rw place (sym (get_or-take width cells col [] below))
cell-cut width (suc count) cells (suc k) col is lt below =
    let others = cell-cut width count (drop width cells) k col (rest_cells width count cells is) (omega arith) below in
    let place : suc k * width + col ≡ width + (k * width + col) = grind arith in
    rw (place, ← get_or-drop width cells (k * width + col) []) others

-- one record more
pub cut-more : (width count : ℕ) (cells : List (List ℕ)) (r : Record) → length cells ≡ count * width → length r ≡ width
    → cut width (count + 1) (cells ++ r) ≡ cut width count cells ++ r ∷ []
unfolding cut
cut-more width zero [] r is even =
    let whole : length r ≤ width = omega arith in
    rw (take_all width r whole) refl
cut-more width zero (c ∷ cells) r is even = absurd (omega arith)
cut-more width (suc count) cells r is even =
    let enough : width ≤ length cells = more_cells width count (length cells) is in
    let others = cut-more width count (drop width cells) r (rest_cells width count cells is) even in
    let step : suc count + 1 ≡ suc (count + 1) = omega arith in
    rw (step, take-append-le width cells r enough, drop-append-le width cells r enough, others) refl

-- records of the width are passed over
pub first_ragged-cut : (width count line : ℕ) (cells : List (List ℕ)) (tail : List Record) → length cells ≡ count * width
    → first_ragged width line (cut width count cells ++ tail) ≡ first_ragged width (line + count) tail
unfolding cut first_ragged
first_ragged-cut width zero line cells tail is = let same : line + 0 ≡ line = omega arith in rw same refl
first_ragged-cut width (suc count) line cells tail is =
    let enough : width ≤ length cells = more_cells width count (length cells) is in
    let first : length (take width cells) ≡ width = omega (arith, length-take width cells) in
    let others = first_ragged-cut width count (line + 1) (drop width cells) tail (rest_cells width count cells is) in
    let same : line + 1 + count ≡ line + suc count = omega arith in
    rw (eq-eqb _ _ first, ← same) others

-- the first record has its own width
first_ragged-first : (width line : ℕ) (r : Record) (records : List Record) → length r ≡ width → first_ragged (length r) line (r ∷ records) ≡ first_ragged width (line + 1) records
unfolding first_ragged
first_ragged-first width line r records is =
    let step : first_ragged (length r) line (r ∷ records) ≡ first_ragged (length r) (line + 1) records = rw (eq-eqb (length r) (length r) refl) refl in
    step ∙ ap (λ (w : ℕ). first_ragged w (line + 1) records) is

-- a record of another width behind some of one width is the first such one
pub first_ragged-behind : (width count : ℕ) (cells : List (List ℕ)) (r : Record) (tail : List Record) → length cells ≡ count * width → 0 < count → length r ≢ width
    → first_ragged (length (first_of (cut width count cells ++ r ∷ tail))) 1 (cut width count cells ++ r ∷ tail) ≡ Some (count + 1)
unfolding cut first_ragged
first_ragged-behind width zero cells r tail is some odd = absurd (omega arith)
first_ragged-behind width (suc count) cells r tail is some odd =
    let enough : width ≤ length cells = more_cells width count (length cells) is in
    let first : length (take width cells) ≡ width = omega (arith, length-take width cells) in
    let run = first_ragged-cut width count 2 (drop width cells) (r ∷ tail) (rest_cells width count cells is) in
    let line : 2 + count ≡ suc count + 1 = omega arith in
    first_ragged-first width 1 (take width cells) (cut width count (drop width cells) ++ r ∷ tail) first ∙ rw (ne_eqb _ _ odd, line) at run

-- records of one width have no other
pub first_ragged-none : (width count : ℕ) (cells : List (List ℕ)) → length cells ≡ count * width → first_ragged (length (first_of (cut width count cells))) 1 (cut width count cells) ≡ None
unfolding cut first_ragged
first_ragged-none width zero cells is = refl
first_ragged-none width (suc count) cells is =
    let enough : width ≤ length cells = more_cells width count (length cells) is in
    let first : length (take width cells) ≡ width = omega (arith, length-take width cells) in
    let run = first_ragged-cut width count 2 (drop width cells) [] (rest_cells width count cells is) in
    first_ragged-first width 1 (take width cells) (cut width count (drop width cells)) first ∙ rw (append-nil (cut width count (drop width cells))) at run

length_0 : (cells : List (List ℕ)) → length cells ≡ 0 → cells ≡ []
length_0 [] is = refl
length_0 (c ∷ cells) is = absurd (omega arith)

-- ---- the same of the records that are kept
pub records-count : (records : Records) → length (records_in records) ≡ records.count
unfolding records_in
records-count records = length-cut records.width records.count (fields_of records.cells)

pub records-wide : (records : Records) (k : ℕ) → IsFlat records → k < records.count → length (get_or (records_in records) k []) ≡ records.width
unfolding records_in
records-wide records k flat lt = wide records.width records.count (fields_of records.cells) k flat.cells lt

pub records-cell : (records : Records) (k col : ℕ) → IsFlat records → k < records.count → col < records.width
    → cell_of (fields_of records.cells) (k * records.width + col) ≡ cell_of (get_or (records_in records) k []) col
unfolding records_in
records-cell records k col flat lt below = cell-cut records.width records.count (fields_of records.cells) k col flat.cells lt below

-- a cell's place among all cells
pub place_fits : (records : Records) (k col : ℕ) → IsFlat records → k < records.count → col < records.width → k * records.width + col < 2 ^ 64
place_fits records k col flat lt below = let cells_before : suc k * records.width ≤ records.count * records.width = mul-le-mul_right records.width lt in grind (arith, flat.cells, flat.small)

pub records-push : (old new : Records) (r : Record) → IsFlat old → new.count ≡ old.count + 1 → fields_of new.cells ≡ fields_of old.cells ++ r
    → length r ≡ new.width → (0 < old.count → new.width ≡ old.width) → records_in new ≡ records_in old ++ r ∷ []
unfolding records_in cut
records-push old new r flat counted cells even same = rw (counted, cells) (by old.count refl)
  where
    by : (count : ℕ) → old.count ≡ count → cut new.width (old.count + 1) (fields_of old.cells ++ r) ≡ cut old.width old.count (fields_of old.cells) ++ r ∷ []
    by zero none =
        let empty : fields_of old.cells ≡ [] = length_0 (fields_of old.cells) (let n = rw none at flat.cells in omega arith) in
        let whole : length r ≤ new.width = omega arith in
        rw (none, empty) (rw (take_all new.width r whole) refl)
    by (suc count) some =
        let width : new.width ≡ old.width = same (omega arith) in
        let wide : length r ≡ old.width = omega arith in
        rw width (cut-more old.width old.count (fields_of old.cells) r flat.cells wide)

pub records-none : (records : Records) → IsFlat records → first_ragged (length (first_of (records_in records))) 1 (records_in records) ≡ None
unfolding records_in
records-none records flat = first_ragged-none records.width records.count (fields_of records.cells) flat.cells

pub records-odd : (records : Records) (r : Record) (tail : List Record) → IsFlat records → 0 < records.count → length r ≢ records.width
    → first_ragged (length (first_of (records_in records ++ r ∷ tail))) 1 (records_in records ++ r ∷ tail) ≡ Some (records.count + 1)
unfolding records_in
records-odd records r tail flat some odd = first_ragged-behind records.width records.count (fields_of records.cells) r tail flat.cells some odd

-- why a record was not added to those of a text that stand before it
pub push-stops : (records : Records) (r : Record) (tail : List Record) (stop : RecordsStop) → IsFlat records → IsPushStop records r stop → IsRecordsStop (records_in records ++ r ∷ tail) stop
push-stops records r tail (stop.Reader e) flat stops = absurd stops
push-stops records r tail (stop.Width line) flat stops = rw stops.2 (records-odd records r tail flat stops.0 stops.1)
push-stops records r tail stop.Memory flat stops = tt
