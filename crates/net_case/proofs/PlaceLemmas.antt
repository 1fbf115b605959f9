-- The place of a number among numbers, and of a bus among bus rows.
use Rattle.std.proofs.Common.{◌≡◌, ◌≢◌, ℕ, ◌+◌, ◌≤◌, ◌<◌, ℤ, pos, negsuc, List, length, get_or, map, arith, refl, sym, ap, subst, ◌∙◌, Option, Some, None, Bool, true, false, All}
use Rattle.std.specs.Prelude.{◌==◌, ◌&&◌, if◌then◌else◌, AllPairs, Contains, slice_get, is_some, IfSome}
use Rattle.std.specs.List.{position_or_len}
use Rattle.std.specs.Int.Signed.{le_z}
use Rattle.std.specs.Map.{lookup}
use Rattle.std.proofs.lemmas.Grind.{common_steps}
use Rattle.std.proofs.lemmas.Bool.{ne_eqb, eq-eqb, eqb-true}
use Rattle.std.proofs.lemmas.Bool.Decides.{Decides-eqb}
use Rattle.std.proofs.lemmas.List.{length-map}
use Rattle.std.proofs.Math.ListN.{get_or-map}
use Rattle.std.proofs.lemmas.List.Sums.{position_or_len_is}
use Rattle.std.proofs.lemmas.List.Elements.{All-contains, Contains-get_or}
use Rattle.std.proofs.lemmas.Map.Made.{IsDistinct-from_AllPairs}
use Rattle.std.proofs.lemmas.Map.Views.{lookup-from_Contains, Contains-from_lookup}
use Rattle.std.proofs.lemmas.Option.{slice_get_within, get_or_from_slice_get, slice_get-get_or}
use Rattle.std.specs.Cmp.{nat_eq_equiv}
use Rattle.std.proofs.lemmas.Bool.{cases_lt}
use Rattle.std.proofs.Math.Logic.{⊎_elim}
use Rattle.market_data.specs.declared.participants.Bus.{Bus}
use Rattle.net_case.specs.Networks.{AreBusRows, IsBusNumber, place_of, most_bus_number}
use Rattle.net_case.specs.NetworkReading.{place_of_number}

-- ---- among numbers
at_first : (numbers : List ℕ) (n p : ℕ) → position_or_len (λ m. m == n) numbers ≡ p → p < length numbers → place_of numbers (pos n) ≡ Some p
at_first numbers n p is within = grind (arith, common_steps)

pub place-some : (numbers : List ℕ) (n p : ℕ) → AllPairs (λ a b. a ≢ b) numbers → slice_get numbers p ≡ Some n → place_of numbers (pos n) ≡ Some p
place-some numbers n p distinct at =
    let within = slice_get_within numbers p n at in
    let here : get_or numbers p 0 ≡ n = get_or_from_slice_get numbers p n 0 at in
    at_first numbers n p (position_or_len_is (λ m. m == n) numbers p 0 (omega arith)
    (λ k lt. ne_eqb (get_or numbers k 0) n (λ e. distinct k p 0 lt within (e ∙ sym here)))
    (λ _. eq-eqb (get_or numbers p 0) n here)) within

at_none : (numbers : List ℕ) (n : ℕ) → position_or_len (λ m. m == n) numbers ≡ length numbers → place_of numbers (pos n) ≡ None
at_none numbers n is = grind (arith, common_steps)

pub place-none : (numbers : List ℕ) (n : ℕ) → ((k : ℕ) → k < length numbers → get_or numbers k 0 ≢ n) → place_of numbers (pos n) ≡ None
place-none numbers n never = at_none numbers n (position_or_len_is (λ m. m == n) numbers (length numbers) 0 (omega arith)
    (λ k lt. ne_eqb (get_or numbers k 0) n (never k lt)) (λ lt. absurd (omega arith)))

-- no row is outside the range of rows
pub place-outside : (rows : List ℕ) (last : ℕ) (n : ℤ) → All (λ row. (1 ≤ row) × (row ≤ last)) rows → ((m : ℕ) → 1 ≤ m → m ≤ last → n ≢ pos m) → place_of rows n ≡ None
place-outside rows last (pos k) range out = place-none rows k (λ i lt is. let h = range i 0 lt in out (get_or rows i 0) h.0 h.1 (ap pos (sym is)))
place-outside rows last (negsuc k) range out = refl

pub within-most : (last most : ℕ) (rows : List ℕ) → last ≤ most → All (λ row. (1 ≤ row) × (row ≤ last)) rows → All (λ row. (1 ≤ row) × (row ≤ most)) rows
within-most last most rows le range i d lt = let h = range i d lt in (h.0, omega (arith, h.1, le))

-- rows that rise are apart
pub apart-from_rise : (rows : List ℕ) → AllPairs (λ a b. a < b) rows → AllPairs (λ a b. a ≢ b) rows
apart-from_rise rows rise i j d lt within same = let h = rise i j d lt within in omega (arith, h, same)

-- rows up to one below n are below it, and rows from one above n on are above it
pub rows-less : (rows : List ℕ) (middle n : ℕ) → AllPairs (λ a b. a < b) rows → middle < length rows → get_or rows middle 0 < n → (k : ℕ) → k < middle + 1 → get_or rows k 0 < n
rows-less rows middle n rise within less k lt = ⊎_elim
    (λ old. let h = rise k middle 0 old within in omega (arith, h, less))
    (λ ge. let is : middle ≡ k = omega (arith, ge, lt) in subst (λ (m : ℕ). get_or rows m 0 < n) is less)
    (cases_lt k middle)

pub rows-more : (rows : List ℕ) (middle n : ℕ) → AllPairs (λ a b. a < b) rows → n < get_or rows middle 0 → (k : ℕ) → middle ≤ k → k < length rows → n < get_or rows k 0
rows-more rows middle n rise more k ge within = ⊎_elim
    (λ new. let h = rise middle k 0 new within in omega (arith, h, more))
    (λ le. let is : middle ≡ k = omega (arith, ge, le) in subst (λ (m : ℕ). n < get_or rows m 0) is more)
    (cases_lt middle k)

-- ---- among bus rows
-- a live bus has its place beside its number
module _ (buses : List Bus) (rows : List (ℕ × Option ℕ)) (kept : AreBusRows buses rows) where
  abbrev keys : List ℕ
  keys = map (λ row. row.0) rows

  abbrev numbers : List ℕ
  numbers = map (λ bus. bus.number) buses

  listed : (k : ℕ) (v : Option ℕ) → Contains rows (k, v) → lookup (λ other. k == other) rows ≡ Some v
  listed k v here = lookup-from_Contains nat_eq_equiv k v rows (IsDistinct-from_AllPairs Decides-eqb keys kept.distinct) here

  in_range : (k : ℕ) → IsBusNumber k → (le_z (pos 1) (pos k) && le_z (pos k) (pos most_bus_number)) ≡ true
  in_range k within = grind (arith, common_steps)

  place-listed : (k : ℕ) (v : Option ℕ) → Contains rows (k, v) → place_of_number rows (pos k) ≡ Some v
  unfolding place_of_number
  place-listed k v here = rw (in_range k (All-contains (λ (row : ℕ × Option ℕ). IsBusNumber row.0) rows (k, v) kept.numbers here), listed k v here) refl

  listed-place : (k : ℕ) (v : Option ℕ) → place_of_number rows (pos k) ≡ Some v → Contains rows (k, v)
  unfolding place_of_number
  listed-place k v = by (le_z (pos 1) (pos k) && le_z (pos k) (pos most_bus_number))
    where
      by : (t : Bool) → (if t then lookup (λ other. k == other) rows else None) ≡ Some v → Contains rows (k, v)
      by true is = Contains-from_lookup eqb-true k v rows is
      by false is = absurd (cc is)

  below : (k : ℕ) (v : Option ℕ) → place_of_number rows (negsuc k) ≡ Some v → ⊥
  unfolding place_of_number
  below k v is = cc is

  place-live : (q : ℕ) (d : Bus) (k : ℕ) → q < length buses → (get_or buses q d).number ≡ k → place_of_number rows (pos k) ≡ Some (Some q)
  place-live q d k lt is = place-listed k (Some q) (subst (λ (m : ℕ). Contains rows (m, Some q)) is (kept.all q d lt))

  pub distinct-numbers : AllPairs (λ a b. a ≢ b) numbers
  distinct-numbers i j d lt within same =
      let b : Bus = record { number = d; pd = pos 0; gs = pos 0 } in
      let inside : j < length buses = omega (arith, length-map buses (λ (bus : Bus). bus.number)) in
      let first : get_or numbers i d ≡ (get_or buses i b).number = get_or-map (λ (bus : Bus). bus.number) buses i b in
      let second : get_or numbers j d ≡ (get_or buses j b).number = get_or-map (λ (bus : Bus). bus.number) buses j b in
      let at_i = place-live i b (get_or numbers i d) (omega arith) (sym first) in
      let at_j = place-live j b (get_or numbers i d) inside (sym (same ∙ second)) in
      let equal : Some (Some i) ≡ Some (Some j) = sym at_i ∙ at_j in
      let places : i ≡ j = cc equal in
      omega arith

  pub live-numbers : All IsBusNumber numbers
  live-numbers i d lt =
      let b : Bus = record { number = d; pd = pos 0; gs = pos 0 } in
      let inside : i < length buses = omega (arith, length-map buses (λ (bus : Bus). bus.number)) in
      rw (get_or-map (λ (bus : Bus). bus.number) buses i b)
      (All-contains (λ (row : ℕ × Option ℕ). IsBusNumber row.0) rows ((get_or buses i b).number, Some i) kept.numbers (kept.all i b inside))

  no-live : (k : ℕ) → ((q : ℕ) → place_of_number rows (pos k) ≢ Some (Some q)) → place_of numbers (pos k) ≡ None
  no-live k never = place-none numbers k (λ q lt is.
      let b : Bus = record { number = 0; pd = pos 0; gs = pos 0 } in
      never q (place-live q b k (omega (arith, length-map buses (λ (bus : Bus). bus.number))) (sym (get_or-map (λ (bus : Bus). bus.number) buses q b) ∙ is)))

  -- what stands at a number is the place of the bus of that number
  pub some-bus : (n : ℤ) (place : Option ℕ) → place_of_number rows n ≡ Some place → place_of numbers n ≡ place
  some-bus (pos k) (Some q) is = place-some numbers k q distinct-numbers (All-contains (λ (row : ℕ × Option ℕ). IfSome row.1 (λ p. slice_get numbers p ≡ Some row.0)) rows (k, Some q) kept.live (listed-place k (Some q) is))
  some-bus (pos k) None is = no-live k (λ q h. cc (is, h))
  some-bus (negsuc k) place is = absurd (below k place is)

  pub no-bus : (n : ℤ) → place_of_number rows n ≡ None → place_of numbers n ≡ None
  no-bus (pos k) is = no-live k (λ q h. cc (is, h))
  no-bus (negsuc k) is = refl

  pub noted-bus : (n : ℤ) → is_some (place_of keys n) ≡ is_some (place_of_number rows n)
  noted-bus (pos k) = by (place_of_number rows (pos k)) refl
    where
      by : (found : Option (Option ℕ)) → place_of_number rows (pos k) ≡ found → is_some (place_of keys (pos k)) ≡ is_some found
      by None is = ap is_some (place-none keys k (λ i lt at.
          let row : ℕ × Option ℕ = get_or rows i (0, None) in
          let inside : i < length rows = omega (arith, length-map rows (λ (r : ℕ × Option ℕ). r.0)) in
          let key : row.0 ≡ k = sym (get_or-map (λ (r : ℕ × Option ℕ). r.0) rows i (0, None)) ∙ at in
          let here : Contains rows (k, row.1) = subst (λ (m : ℕ). Contains rows (m, row.1)) key (Contains-get_or rows i (0, None) inside) in
          cc (is, place-listed k row.1 here)))
      by (Some v) is =
          let here = listed-place k v is in
          let i = here.0 in
          let at : get_or keys i k ≡ k = get_or-map (λ (r : ℕ × Option ℕ). r.0) rows i (k, v) ∙ ap (λ (r : ℕ × Option ℕ). r.0) here.2 in
          let inside : i < length keys = omega (arith, here.1, length-map rows (λ (r : ℕ × Option ℕ). r.0)) in
          ap is_some (place-some keys k i kept.distinct (slice_get-get_or keys i k inside ∙ ap Some at))
  noted-bus (negsuc k) = by (place_of_number rows (negsuc k)) refl
    where
      by : (found : Option (Option ℕ)) → place_of_number rows (negsuc k) ≡ found → false ≡ is_some found
      by None is = refl
      by (Some v) is = absurd (below k v is)
