-- Rows that rise, with one row more, and how many rows there are.
use Rattle.std.proofs.Common.{◌≡◌, ℕ, ◌+◌, ◌≤◌, ◌<◌, List, [], ◌∷◌, ◌++◌, map, arith, All, Option, Some, None, length, Ok, Err, Bool, true, false}
use Rattle.std.specs.Prelude.{IfSome, nat_lt, if◌then◌else◌}
use Rattle.std.proofs.lemmas.List.{append-nil, map-append}
use Rattle.std.proofs.lemmas.List.Elements.{All-nil, All-push}
use Rattle.std.proofs.lemmas.List.Quantifiers.{all_pairs_push}
use Rattle.record_reading.specs.Records.{Record}
use Rattle.record_reading.specs.Gathering.{listed}
use Rattle.case_text.specs.declared.Field.{Field}
use Rattle.net_case.specs.declared.live_parts.NetFault.TheVariants as fault
use Rattle.net_case.specs.NetworkReading.{few_rows}
use Rattle.net_case.specs.Networks.{AreRows}

pub rows-none : (last : ℕ) → AreRows last []
rows-none last = record { range = All-nil (λ (row : ℕ). (1 ≤ row) × (row ≤ last)); rise = λ i j d lt within. absurd (omega arith) }

wider : (last : ℕ) (rows : List ℕ) → AreRows last rows → All (λ row. (1 ≤ row) × (row ≤ last + 1)) rows
wider last rows kept i d lt = let h = kept.range i d lt in (h.0, omega (arith, h.1))

pub rows-listed : {A : Type 0} (row : A → ℕ) (xs : List A) (x : Option A) (last : ℕ) → AreRows last (map row xs) → IfSome x (λ x. row x ≡ last + 1) → AreRows (last + 1) (map row (xs ++ listed x))
rows-listed row xs None last kept is = rw (append-nil xs) (record { range = wider last (map row xs) kept; rise = kept.rise })
rows-listed row xs (Some x) last kept is = rw (map-append row xs (x ∷ []), is) (record {
  range = All-push (λ (r : ℕ). (1 ≤ r) × (r ≤ last + 1)) (map row xs) (last + 1) (wider last (map row xs) kept) (omega arith, omega arith);
  rise = all_pairs_push (λ (a b : ℕ). a < b) (map row xs) (last + 1) kept.rise (λ i d lt. let h = kept.range i d lt in omega (arith, h.1));
})

-- ---- the number of rows
pub few_rows-count : (most : ℕ) (f : Field) (rows : List Record) (count : ℕ) → few_rows most f rows ≡ Ok count → count ≡ length rows
unfolding few_rows
few_rows-count most f rows count = by (nat_lt most (length rows))
  where
    by : (t : Bool) → (if t then Err (fault.TooMany f (length rows)) else Ok (length rows)) ≡ Ok count → count ≡ length rows
    by true is = absurd (cc is)
    by false is = cc
