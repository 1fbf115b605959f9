-- What is kept of the bus rows, with one row more, and the places at which gen rows find their buses.
use Rattle.std.proofs.Common.{◌≡◌, ℕ, ◌+◌, ◌≤◌, ◌<◌, ℤ, pos, List, [], ◌∷◌, ◌++◌, length, get_or, arith, refl, sym, ap, ◌∙◌, length-append, Option, Some, None, Bool, true, false, Ok, subst}
use Rattle.std.specs.Prelude.{◌≢◌, suc, map, filter, not, cond, eqb, nat_lt, position, slice_get, Contains, is_some, IsSome, IfSome, ◌&&◌, ◌==◌, if◌then◌else◌, unsigned_abs}
use Rattle.std.specs.Int.Signed.{le_z}
use Rattle.std.specs.Map.{lookup, keys_of}
use Rattle.std.specs.List.{position_or_len}
use Rattle.std.specs.Cmp.{nat_eq_equiv}
use Rattle.std.proofs.lemmas.List.Elements.{All-push, Contains-append_left, Contains-push, Contains-get_or, filter-append, filter_map-append}
use Rattle.std.proofs.lemmas.List.Folds.{position_or_len_push}
use Rattle.std.proofs.lemmas.List.Sums.{prefix_len-le-length}
use Rattle.std.proofs.Math.Logic.{⊎_elim}
use Rattle.std.proofs.lemmas.Grind.{common_steps}
use Rattle.std.proofs.lemmas.Bool.{cases_lt}
use Rattle.std.proofs.lemmas.List.{append-nil, map-append, length-map}
use Rattle.std.proofs.lemmas.List.Quantifiers.{all_pairs_push}
use Rattle.std.proofs.lemmas.Map.Views.{IsSome-lookup_from_Contains}
use Rattle.std.proofs.lemmas.Option.{slice_get_within, get_or_from_slice_get, slice_get-get_or}
use Rattle.std.proofs.Math.ListN.{get_or-append, get_or-map}
use Rattle.std.proofs.Math.Seq.{get_or-append_seam}
use Rattle.std.proofs.lemmas.Map.Entries.{All-lookup}
use Rattle.case_text.specs.declared.Field.{Field}
use Rattle.market_data.specs.Participants.{IsBus}
use Rattle.market_data.specs.declared.participants.Bus.{Bus}
use Rattle.net_case.specs.declared.bus_rows.BusRow.{BusRow}
use Rattle.net_case.specs.declared.bus_rows.BusRows.{BusRows}
use Rattle.net_case.specs.BusReading.{IsBusRow, AreRead, Keeps}
use Rattle.record_reading.specs.Gathering.{listed}
use Rattle.net_case.specs.Networks.{AreBusRows, IsBusNumber, ArePlaces, most_bus_number}
use Rattle.net_case.specs.NetworkReading.{live_buses, next_place, places_from, reference_of, reference_after, place_of_number, named_place}
use Rattle.record_reading.proofs.GatherLemmas.{All-listed}

live_buses-push : (done : List BusRow) (b : BusRow) → live_buses (done ++ b ∷ []) ≡ live_buses done ++ listed b.live
live_buses-push done b = filter_map-append (λ r. r.live) done (b ∷ []) ∙ ap (λ t. live_buses done ++ t) (by b.live refl)
  where
    by : (live : Option Bus) → b.live ≡ live → live_buses (b ∷ []) ≡ listed live
    by None is = rw is refl
    by (Some bus) is = rw is refl

live-length : (b : BusRow) (rows : List BusRow) → length (live_buses (b ∷ rows)) ≡ length (listed b.live) + length (live_buses rows)
live-length b rows = by b.live refl
  where
    by : (live : Option Bus) → b.live ≡ live → length (live_buses (b ∷ rows)) ≡ length (listed live) + length (live_buses rows)
    by None is = rw is (omega arith)
    by (Some bus) is = rw is (omega arith)

places_from-push : (n : ℕ) (done : List BusRow) (b : BusRow)
    → places_from n (done ++ b ∷ []) ≡ places_from n done ++ (b.number, next_place (n + length (live_buses done)) b.live) ∷ []
places_from-push n [] b = let e : n + 0 ≡ n = omega arith in rw e refl
places_from-push n (r ∷ rows) b =
    let e : n + length (listed r.live) + length (live_buses rows) ≡ n + length (live_buses (r ∷ rows)) = omega (arith, live-length r rows) in
    ap (λ t. (r.number, next_place n r.live) ∷ t) (rw e at (places_from-push (n + length (listed r.live)) rows b))

first_places-push : (done : List BusRow) (b : BusRow) → places_from 0 (done ++ b ∷ []) ≡ places_from 0 done ++ (b.number, next_place (length (live_buses done)) b.live) ∷ []
first_places-push done b = let e : 0 + length (live_buses done) ≡ length (live_buses done) = omega arith in rw e at (places_from-push 0 done b)

abbrev live_rows : List BusRow → List BusRow
live_rows rows = filter (λ b. is_some b.live) rows

live_rows-length : (rows : List BusRow) → length (live_rows rows) ≡ length (live_buses rows)
live_rows-length [] = refl
live_rows-length (b ∷ rows) = by b.live refl (live_rows-length rows)
  where
    by : (live : Option Bus) → b.live ≡ live → length (live_rows rows) ≡ length (live_buses rows) → length (live_rows (b ∷ rows)) ≡ length (live_buses (b ∷ rows))
    by None is rest = rw is rest
    by (Some bus) is rest = rw is (ap (λ n. suc n) rest)

position-push : (p : BusRow → Bool) (rows : List BusRow) (b : BusRow) → position p (rows ++ b ∷ []) ≡ reference_after (position p rows) (length rows) (p b)
position-push p rows b = by (position_or_len p rows) (prefix_len-le-length (λ r. not (p r)) rows) (p b) (position_or_len_push p rows b)
  where
    by : (at : ℕ) → at ≤ length rows → (here : Bool) → position_or_len p (rows ++ b ∷ []) ≡ cond (eqb at (length rows)) (length rows + cond here 0 1) at
        → position p (rows ++ b ∷ []) ≡ reference_after (cond (nat_lt at (length rows)) (Some at) None) (length rows) here
    by at le true is = grind (arith, common_steps)
    by at le false is = grind (arith, common_steps)

none-is_some : false ≡ true → ⊥
none-is_some h = cc

not_true : (b : Bool) → (b ≡ true → ⊥) → b ≡ false
not_true true never = absurd (never refl)
not_true false never = refl

-- a row more, of which a reference is live
reference-push : (done : List BusRow) (b : BusRow) → (b.is_reference ≡ true → IsSome b.live)
    → reference_of (done ++ b ∷ []) ≡ reference_after (reference_of done) (length (live_buses done)) b.is_reference
reference-push done b live = by b.live refl
  where
    all : reference_of (done ++ b ∷ []) ≡ position (λ r. r.is_reference) (live_rows done ++ live_rows (b ∷ []))
    all = ap (position (λ r. r.is_reference)) (filter-append (λ r. is_some r.live) done (b ∷ []))

    dead : (o : Option ℕ) (n : ℕ) (is : Bool) → is ≡ false → o ≡ reference_after o n is
    dead None n is off = rw off refl
    dead (Some p) n is off = refl

    by : (here : Option Bus) → b.live ≡ here → reference_of (done ++ b ∷ []) ≡ reference_after (reference_of done) (length (live_buses done)) b.is_reference
    by None is =
        let gone : live_rows (b ∷ []) ≡ [] = rw is refl in
        let off : b.is_reference ≡ false = not_true b.is_reference (λ h. none-is_some (rw is at (live h))) in
        all ∙ ap (λ t. position (λ r. r.is_reference) (live_rows done ++ t)) gone ∙ ap (position (λ r. r.is_reference)) (append-nil (live_rows done))
        ∙ dead (reference_of done) (length (live_buses done)) b.is_reference off
    by (Some bus) is =
        let kept : live_rows (b ∷ []) ≡ b ∷ [] = rw is refl in
        all ∙ ap (λ t. position (λ r. r.is_reference) (live_rows done ++ t)) kept ∙ position-push (λ r. r.is_reference) (live_rows done) b
        ∙ ap (λ n. reference_after (reference_of done) n b.is_reference) (live_rows-length done)

pub keeps-push : (done : List BusRow) (before after : BusRows) (b : BusRow) → Keeps done before → IsBusRow b → after.buses ≡ before.buses ++ listed b.live
    → after.places.entries ≡ before.places.entries ++ (b.number, next_place (length before.buses) b.live) ∷ []
    → after.reference ≡ reference_after before.reference (length before.buses) b.is_reference → Keeps (done ++ b ∷ []) after
keeps-push done before after b kept row buses places reference = record {
  buses = buses ∙ ap (λ t. t ++ listed b.live) kept.buses ∙ sym (live_buses-push done b);
  places = rw (kept.places, kept.buses) at places ∙ sym (first_places-push done b);
  reference = rw (kept.reference, kept.buses) at reference ∙ sym (reference-push done b row.reference);
}

-- ---- what is kept of the bus rows, with one row more
-- a number that no entry has
new-number : (n : ℕ) (rows : List (ℕ × Option ℕ)) → lookup (λ other. n == other) rows ≡ None → (i : ℕ) (d : ℕ) → i < length (map (λ row. row.0) rows) → get_or (map (λ row. row.0) rows) i d ≢ n
new-number n rows none i d lt is =
    let inside : i < length rows = omega (arith, length-map rows (λ (r : ℕ × Option ℕ). r.0)) in
    let row : ℕ × Option ℕ = get_or rows i (d, None) in
    let key : row.0 ≡ n = sym (get_or-map (λ (r : ℕ × Option ℕ). r.0) rows i (d, None)) ∙ is in
    let found : IsSome (lookup (λ other. n == other) rows) = IsSome-lookup_from_Contains nat_eq_equiv n rows (subst (Contains (keys_of rows)) is (Contains-get_or (keys_of rows) i d lt)) in
    none-is_some (rw none at found)

old-place : (buses : List Bus) (live : Option Bus) (row : ℕ × Option ℕ)
    → IfSome row.1 (λ place. slice_get (map (λ bus. bus.number) buses) place ≡ Some row.0)
    → IfSome row.1 (λ place. slice_get (map (λ bus. bus.number) (buses ++ listed live)) place ≡ Some row.0)
old-place buses live (n, None) here = tt
old-place buses live (n, Some p) here =
    let numbers = map (λ (bus : Bus). bus.number) buses in
    let more = map (λ (bus : Bus). bus.number) (listed live) in
    let within = slice_get_within numbers p n here in
    let at : get_or (numbers ++ more) p n ≡ n = get_or-append numbers more n p within ∙ get_or_from_slice_get numbers p n n here in
    rw (map-append (λ (bus : Bus). bus.number) buses (listed live))
    (slice_get-get_or (numbers ++ more) p n (omega (arith, within, length-append numbers more)) ∙ ap Some at)

new-place : (buses : List Bus) (b : BusRow) → IsBusRow b
    → IfSome (next_place (length buses) b.live) (λ place. slice_get (map (λ bus. bus.number) (buses ++ listed b.live)) place ≡ Some b.number)
new-place buses b row = by b.live row.same
  where
    by : (live : Option Bus) → IfSome live (λ bus. bus.number ≡ b.number) → IfSome (next_place (length buses) live) (λ place. slice_get (map (λ bus. bus.number) (buses ++ listed live)) place ≡ Some b.number)
    by None same = tt
    by (Some bus) same =
        let numbers = map (λ (x : Bus). x.number) buses in
        let len : length numbers ≡ length buses = length-map buses (λ (x : Bus). x.number) in
        let at : get_or (numbers ++ bus.number ∷ []) (length buses) 0 ≡ bus.number = subst (λ (k : ℕ). get_or (numbers ++ bus.number ∷ []) k 0 ≡ bus.number) len (get_or-append_seam numbers bus.number [] 0) in
        rw (map-append (λ (x : Bus). x.number) buses (bus ∷ []))
        (slice_get-get_or (numbers ++ bus.number ∷ []) (length buses) 0 (omega (arith, len, length-append numbers (bus.number ∷ []))) ∙ ap Some (at ∙ same))

-- every live bus stands in its row
all-rows : (buses : List Bus) (rows : List (ℕ × Option ℕ)) (b : BusRow) → IsBusRow b
    → ((place : ℕ) (d : Bus) → place < length buses → Contains rows ((get_or buses place d).number, Some place))
    → (place : ℕ) (d : Bus) → place < length (buses ++ listed b.live)
    → Contains (rows ++ (b.number, next_place (length buses) b.live) ∷ []) ((get_or (buses ++ listed b.live) place d).number, Some place)
all-rows buses rows b row all place d lt = by b.live row.same lt
  where
    by : (live : Option Bus) → IfSome live (λ bus. bus.number ≡ b.number) → place < length (buses ++ listed live)
        → Contains (rows ++ (b.number, next_place (length buses) live) ∷ []) ((get_or (buses ++ listed live) place d).number, Some place)
    by None same within = rw (append-nil buses) (Contains-append_left rows ((b.number, None) ∷ []) ((get_or buses place d).number, Some place) (all place d (omega (arith, within, length-append buses []))))
    by (Some bus) same within = ⊎_elim
        (λ old. let at : get_or (buses ++ bus ∷ []) place d ≡ get_or buses place d = get_or-append buses (bus ∷ []) d place old in
        rw at (Contains-append_left rows ((b.number, Some (length buses)) ∷ []) ((get_or buses place d).number, Some place) (all place d old)))
        (λ ge. let is : length buses ≡ place = omega (arith, ge, within, length-append buses (bus ∷ [])) in
        let at : get_or (buses ++ bus ∷ []) place d ≡ bus = subst (λ (k : ℕ). get_or (buses ++ bus ∷ []) k d ≡ bus) is (get_or-append_seam buses bus [] d) in
        rw (at, same, ← is) (Contains-push rows (b.number, Some (length buses))))
        (cases_lt place (length buses))

rows-push : (buses : List Bus) (rows : List (ℕ × Option ℕ)) (b : BusRow) → AreBusRows buses rows → IsBusRow b → lookup (λ other. b.number == other) rows ≡ None
    → AreBusRows (buses ++ listed b.live) (rows ++ (b.number, next_place (length buses) b.live) ∷ [])
rows-push buses rows b good row new = record {
  numbers = All-push (λ (r : ℕ × Option ℕ). IsBusNumber r.0) rows last good.numbers row.number;
  distinct = rw (map-append (λ (r : ℕ × Option ℕ). r.0) rows (last ∷ []))
      (all_pairs_push (λ (m n : ℕ). m ≢ n) (map (λ (r : ℕ × Option ℕ). r.0) rows) b.number good.distinct (λ i d lt. new-number b.number rows new i d lt));
  live = All-push (λ (r : ℕ × Option ℕ). IfSome r.1 (λ place. slice_get (map (λ bus. bus.number) (buses ++ listed b.live)) place ≡ Some r.0)) rows last
      (λ i d lt. old-place buses b.live (get_or rows i d) (good.live i d lt)) (new-place buses b row);
  all = all-rows buses rows b row good.all;
}
  where
    last : ℕ × Option ℕ
    last = (b.number, next_place (length buses) b.live)

reference-within : (reference : Option ℕ) (count : ℕ) (is_reference : Bool) (live : Option Bus) → IfSome reference (λ place. place < count)
    → (is_reference ≡ true → IsSome live) → IfSome (reference_after reference count is_reference) (λ place. place < count + length (listed live))
reference-within (Some p) count is_reference live within here = omega (arith, within)
reference-within None count false live within here = tt
reference-within None count true None within here = absurd (none-is_some (here refl))
reference-within None count true (Some bus) within here = omega arith

pub read-push : (before after : BusRows) (b : BusRow) → AreRead before → IsBusRow b → lookup (λ other. b.number == other) before.places.entries ≡ None
    → after.buses ≡ before.buses ++ listed b.live
    → after.places.entries ≡ before.places.entries ++ (b.number, next_place (length before.buses) b.live) ∷ []
    → after.reference ≡ reference_after before.reference (length before.buses) b.is_reference → AreRead after
read-push before after b good row new buses places reference = record {
  buses = rw buses (All-listed IsBus before.buses b.live good.buses row.bus);
  places = rw (buses, places) (rows-push before.buses before.places.entries b good.places row new);
  reference = rw (reference, buses, length-append before.buses (listed b.live)) (reference-within before.reference (length before.buses) b.is_reference b.live good.reference row.reference);
}

-- the places of live buses are among them
pub places-within : (buses : List Bus) (rows : List (ℕ × Option ℕ)) → AreBusRows buses rows → ArePlaces (length buses) rows
places-within buses rows kept = λ i d lt. by (get_or rows i d) (kept.live i d lt)
  where
    by : (row : ℕ × Option ℕ) → IfSome row.1 (λ place. slice_get (map (λ bus. bus.number) buses) place ≡ Some row.0) → IfSome row.1 (λ place. place < length buses)
    by (n, None) here = tt
    by (n, Some p) here = omega (arith, slice_get_within (map (λ bus. bus.number) buses) p n here, length-map buses (λ (bus : Bus). bus.number))

pub place_of_number-within : (buses : ℕ) (places : List (ℕ × Option ℕ)) (n : ℤ) → ArePlaces buses places → IfSome (place_of_number places n) (λ place. IfSome place (λ bus. bus < buses))
unfolding place_of_number
place_of_number-within buses places n all = by (le_z (pos 1) n && le_z n (pos most_bus_number))
  where
    by : (is_number : Bool) → IfSome (if is_number then lookup (λ other. unsigned_abs n == other) places else None) (λ place. IfSome place (λ bus. bus < buses))
    by true = All-lookup (λ (place : Option ℕ). IfSome place (λ bus. bus < buses)) (λ other. unsigned_abs n == other) places all
    by false = tt

pub named_place-within : (buses : ℕ) (field : Field) (row : ℕ) (found : Option (Option ℕ)) (place : Option ℕ) → named_place field row found ≡ Ok place → IfSome found (λ place. IfSome place (λ bus. bus < buses))
    → IfSome place (λ bus. bus < buses)
named_place-within buses field row None place is within = cc
named_place-within buses field row (Some p) place is within = let same : p ≡ place = cc in rw (← same) within
