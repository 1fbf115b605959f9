-- The numbers that bus rows have.
use Rattle.std.proofs.Common.{◌≡◌, ◌≢◌, ℕ, ◌≤◌, ◌<◌, ℤ, pos, negsuc, List, length, map, arith, true, All, None, Option}
use Rattle.std.specs.Prelude.{◌≤ℤ◌, is_some}
use Rattle.std.proofs.lemmas.Bool.{cases_lt}
use Rattle.std.proofs.lemmas.List.{get_or-map, length-map}
use Rattle.std.proofs.lemmas.Int.{ints}
use Rattle.std.proofs.Math.Logic.{⊎_elim}
use Rattle.net_case.specs.Networks.{IsBusNumber, IsNetwork, LiveNetwork, has_bus, place_of}
use Rattle.net_case.proofs.PlaceLemmas.{place-outside}

-- a number that no row may have stands nowhere
stands-not : (numbers : List ℕ) (k : ℕ) → All IsBusNumber numbers → is_some (place_of numbers (pos k)) ≡ true → ((m : ℕ) → 1 ≤ m → m ≤ 2147483647 → pos k ≢ pos m) → ⊥
stands-not numbers k range known out = let none = place-outside numbers 2147483647 (pos k) range out in cc (none, known)

-- a number that stands among some in range is in range
known-range : (numbers : List ℕ) (n : ℤ) → All IsBusNumber numbers → is_some (place_of numbers n) ≡ true → (pos 1 ≤ℤ n) × (n ≤ℤ pos 2147483647)
known-range numbers (negsuc k) range known = cc
known-range numbers (pos k) range known =
    ⊎_elim
    (λ low. absurd (stands-not numbers k range known (λ m one most is. let same : k ≡ m = cc in omega (arith, low, one, same))))
    (λ least. ⊎_elim
    (λ high. absurd (stands-not numbers k range known (λ m one most is. let same : k ≡ m = cc in omega (arith, high, most, same))))
    (λ most. (omega (arith, ints, least), omega (arith, ints, most)))
    (cases_lt 2147483647 k))
    (cases_lt k 1)

-- a number that a bus row has
pub bus-range : (network : LiveNetwork) (n : ℤ) → IsNetwork network → has_bus network n ≡ true → (pos 1 ≤ℤ n) × (n ≤ℤ pos 2147483647)
bus-range network n is known =
    known-range (map (λ row. row.0) network.bus_rows) n
    (λ i d lt.
    let within : i < length network.bus_rows = rw length-map at lt in
    rw (get_or-map (λ (row : ℕ × Option ℕ). row.0) network.bus_rows i (0, None) d within) (is.bus_rows.numbers i (0, None) within))
    known
