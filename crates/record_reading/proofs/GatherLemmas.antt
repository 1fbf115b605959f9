-- What `gather` and `read_records` give from the record at a place on, one step for each outcome of a reader's loop.
use Rattle.std.proofs.Common.{◌≡◌, ◌≤◌, ◌<◌, ◌+◌, ◌∷◌, ◌++◌, ℕ, List, [], length, drop, get_or, refl, arith, length-append, All, Ok, Err, Result, Option, Some, None, ap}
use Rattle.std.specs.Prelude.{IfSome}
use Rattle.std.proofs.lemmas.List.Elements.{All-append, All-cons, All-nil}
use Rattle.std.proofs.lemmas.List.{drop_all, drop_more}
use Rattle.record_reading.specs.Records.{Record}
use Rattle.record_reading.specs.Gathering.{gather, listed, read_records}
use Rattle.record_reading.specs.Steps.{some_of}

module _ {A F : Type 0} (read : List A → ℕ → Record → Result (Option A) F) where
  -- the record at i is read, and the others follow in the light of it
  pub gather-step : (done : List A) (number : ℕ) (records : List Record) (i : ℕ) (x : Option A) → i < length records → read done number (get_or records i []) ≡ Ok x
      → gather read done number (drop i records) ≡ gather read (done ++ listed x) (number + 1) (drop (i + 1) records)
  unfolding gather
  gather-step done number records i x lt reads = rw (drop_more records i [] lt, reads) refl

  -- the record at i is at fault
  pub gather-fault : (done : List A) (number : ℕ) (records : List Record) (i : ℕ) (error : F) → i < length records → read done number (get_or records i []) ≡ Err error
      → gather read done number (drop i records) ≡ Err error
  unfolding gather
  gather-fault done number records i error lt reads = rw (drop_more records i [] lt, reads) refl

  -- no record is left
  pub gather-end : (done : List A) (number : ℕ) (records : List Record) (i : ℕ) → length records ≤ i → gather read done number (drop i records) ≡ Ok done
  unfolding gather
  gather-end done number records i le = rw (drop_all i records le) refl

-- ---- the same of records that give one item each
module _ {A F : Type 0} (read : List A → ℕ → Record → Result A F) where
  pub read_records-step : (done : List A) (line : ℕ) (records : List Record) (i : ℕ) (x : A) → i < length records → read done line (get_or records i []) ≡ Ok x
      → read_records read done line (drop i records) ≡ read_records read (done ++ x ∷ []) (line + 1) (drop (i + 1) records)
  read_records-step done line records i x lt reads = gather-step (λ earlier n r. some_of (read earlier n r)) done line records i (Some x) lt (ap some_of reads)

  pub read_records-fault : (done : List A) (line : ℕ) (records : List Record) (i : ℕ) (error : F) → i < length records → read done line (get_or records i []) ≡ Err error
      → read_records read done line (drop i records) ≡ Err error
  read_records-fault done line records i error lt reads = gather-fault (λ earlier n r. some_of (read earlier n r)) done line records i error lt (ap some_of reads)

  pub read_records-end : (done : List A) (line : ℕ) (records : List Record) (i : ℕ) → length records ≤ i → read_records read done line (drop i records) ≡ Ok done
  read_records-end done line records i le = gather-end (λ earlier n r. some_of (read earlier n r)) done line records i le

-- ---- a list with an item more, where there is one
module _ {A : Type 0} where
  pub All-listed : (P : A → Type 0) (xs : List A) (x : Option A) → All P xs → IfSome x P → All P (xs ++ listed x)
  All-listed P xs None all here = All-append P xs [] all (All-nil P)
  All-listed P xs (Some x) all here = All-append P xs (x ∷ []) all (All-cons P x [] here (All-nil P))

  pub length-listed : (xs : List A) (x : Option A) → length (xs ++ listed x) ≤ length xs + 1
  length-listed xs None = omega (arith, length-append xs [])
  length-listed xs (Some x) = omega (arith, length-append xs (x ∷ []))
