-- A record's cells, the header, and a text's records against its frame.
use Rattle.std.proofs.Common.{◌≡◌, ◌≢◌, ◌≤◌, ◌<◌, ◌+◌, ◌∷◌, ◌&&◌, ℕ, zero, suc, List, [], Bool, true, false, Option, Some, None, Ok, Err, Bor, length, get_or, drop, refl, sym, arith, not}
use Rattle.std.proofs.lemmas.Bool.{ltb-false}
use Rattle.std.specs.Prelude.{IfSome}
use Rattle.std.specs.Str.{bytes_eq}
use Rattle.csv.specs.Records.{field_at}
use Rattle.csv.proofs.RecordFacts.{field-get}
use Rattle.record_reading.specs.Records.{Record, cell_of, first_ragged}
use Rattle.csv_table.specs.Table.{frame_of, is_over, same_record}
use Rattle.csv_table.specs.Records.{first_of}
use Rattle.record_reading.specs.declared.FrameFault.TheVariants as fault

-- a field that is there is the cell
pub cell-there : (r : Record) (col : ℕ) (field : Bor (List ℕ)) → field_at r col ≡ Some field.now → field.now ≡ cell_of r col
cell-there r col field there = sym (field-get r col field.now there)

-- where there is no field, the cell is empty
pub cell-none : (r : Record) (col : ℕ) → field_at r col ≡ None → ◌≡◌ {A = List ℕ} [] (cell_of r col)
unfolding field_at
cell-none [] col none = refl
cell-none (field ∷ fields) zero none = cc
cell-none (field ∷ fields) (suc col) none = cell-none fields col none

-- ---- whether two records are the same
-- they are if they have one length and agree at each place
pub same-at_each : (a b : Record) → length a ≡ length b → ((k : ℕ) → k < length b → bytes_eq (get_or a k []) (get_or b k []) ≡ true) → same_record a b ≡ true
same-at_each [] [] long each = refl
same-at_each [] (y ∷ ys) long each = absurd (omega arith)
same-at_each (x ∷ xs) [] long each = absurd (omega arith)
same-at_each (x ∷ xs) (y ∷ ys) long each =
    let head : bytes_eq x y ≡ true = each 0 (omega arith) in
    let tail = same-at_each xs ys (omega arith) (λ k lt. each (suc k) (omega arith)) in
    rw (head, tail) refl

false-and : (b : Bool) {rest : Bool} → rest ≡ false → (b && rest) ≡ false
false-and true fails = fails
false-and false fails = refl

-- they are not if their lengths differ
pub other-length : (a b : Record) → length a ≢ length b → same_record a b ≡ false
other-length [] [] differ = absurd (differ refl)
other-length [] (y ∷ ys) differ = refl
other-length (x ∷ xs) [] differ = refl
other-length (x ∷ xs) (y ∷ ys) differ = false-and (bytes_eq x y) (other-length xs ys (λ same. differ (omega arith)))

-- they are not if they differ at a place
pub other-at : (a b : Record) (k : ℕ) → k < length b → bytes_eq (get_or a k []) (get_or b k []) ≡ false → same_record a b ≡ false
other-at a [] k lt differ = absurd (omega arith)
other-at [] (y ∷ ys) k lt differ = refl
other-at (x ∷ xs) (y ∷ ys) zero lt differ = rw differ refl
other-at (x ∷ xs) (y ∷ ys) (suc k) lt differ = false-and (bytes_eq x y) (other-at xs ys k (omega arith) differ)

pub not-true : (b : Bool) → not b ≡ true → b ≡ false
not-true true fails = sym fails
not-true false fails = refl

-- ---- the records of a text against its frame
pub frame-none : (header : Record) (most : Option ℕ) (records : List Record) → length records ≡ 0 → frame_of header most records ≡ Err fault.Header
unfolding frame_of
frame-none header most [] none = refl
frame-none header most (r ∷ records) none = absurd (omega arith)

module _ (header : Record) (most : Option ℕ) where
  pub frame-width : (line : ℕ) (records : List Record) → first_ragged (length (first_of records)) 1 records ≡ Some line → frame_of header most records ≡ Err (fault.Width line)
  unfolding frame_of first_ragged
  frame-width line [] odd = cc odd
  frame-width line (r ∷ records) odd = rw odd refl

  pub frame-header : (records : List Record) → first_ragged (length (first_of records)) 1 records ≡ None → same_record (first_of records) header ≡ false
      → frame_of header most records ≡ Err fault.Header
  unfolding frame_of
  frame-header [] even other = refl
  frame-header (r ∷ records) even other = rw (even, other) refl

  pub frame-many : (count : ℕ) (records : List Record) → first_ragged (length (first_of records)) 1 records ≡ None → same_record (first_of records) header ≡ true
      → length records ≡ count + 1 → is_over most count ≡ true → frame_of header most records ≡ Err (fault.TooMany count)
  unfolding frame_of
  frame-many count [] even same counted many = absurd (omega arith)
  frame-many count (r ∷ records) even same counted many =
      let all : length records ≡ count = omega arith in
      rw (even, same, all, many) refl

  pub frame-ok : (count : ℕ) (records : List Record) → first_ragged (length (first_of records)) 1 records ≡ None → same_record (first_of records) header ≡ true
      → length records ≡ count + 1 → is_over most count ≡ false → frame_of header most records ≡ Ok (drop 1 records)
  unfolding frame_of
  frame-ok count [] even same counted few = absurd (omega arith)
  frame-ok count (r ∷ records) even same counted few =
      let all : length records ≡ count = omega arith in
      rw (even, same, all, few) refl

-- a number that is not above a limit is at most the limit
pub within-most : (most : Option ℕ) (count : ℕ) → is_over most count ≡ false → IfSome most (λ most. count ≤ most)
within-most None count few = tt
within-most (Some most) count few = ltb-false _ _ few
