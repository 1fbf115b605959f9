-- The places of buses among the buses in service, and the place of the reference.
use Rattle.std.proofs.Common.{◌≡◌, ◌≢◌, ℕ, suc, ◌+◌, ◌≤◌, ◌==◌, Bool, true, false, List, [], ◌∷◌, ◌++◌, length, map, refl, sym, ap, subst, ◌∙◌, arith, Option, Some, None, length-append}
use Rattle.std.specs.Prelude.{AllPairs, All, is_some, IsSome, IfSome, filter, position, slice_get}
use Rattle.std.specs.List.{AllByRecursion, AllZip, cons_option}
use Rattle.std.proofs.Math.Logic.{⊎_elim}
use Rattle.std.proofs.Math.Seq.{get_or-append_seam}
use Rattle.std.proofs.lemmas.Bool.{eqb-true, eq-eqb, ne_eqb, cases_lt}
use Rattle.std.proofs.lemmas.Grind.{common_steps}
use Rattle.std.proofs.lemmas.List.{append_assoc, append-nil}
use Rattle.std.proofs.lemmas.List.Elements.{All-cons, All-nil}
use Rattle.std.proofs.lemmas.List.Kept.{AllPairs-cons}
use Rattle.std.proofs.lemmas.Option.{slice_get_within, get_or_from_slice_get, slice_get-get_or, slice_get-map}
use Rattle.market_data.specs.declared.participants.Bus.{Bus}
use Rattle.record_reading.specs.Records.{Record}
use Rattle.record_reading.specs.Gathering.{listed}
use Rattle.net_case.specs.declared.bus_rows.BusRow as read
use Rattle.net_case.specs.NetworkReading.{Places, places_from, reference_of, live_buses, next_place}
use Rattle.network_meaning.specs.BusRows.{BusRow, GivesBus, SaysBus, numbers, AreApart, in_service, IsReference, IsPlace, IsPlaced}
use Rattle.network_meaning.proofs.BusesRead.{all_read}

pub live-read : (rows : List BusRow) → live_buses (all_read rows) ≡ in_service rows
live-read [] = refl
live-read (row ∷ rows) = ap (cons_option row.bus) (live-read rows)

-- ---- what is known of each row
pub record IsFine (row : BusRow) : Type 0 where
  pub number : IfSome row.bus (λ bus. bus.number ≡ row.number)
  pub live : row.kind ≡ 3 → IsSome row.bus
  pub range : (1 ≤ row.number) × (row.number ≤ 2147483647)

fine-bus : (r : Record) (number kind : ℕ) (bus : Option Bus) → GivesBus r number kind bus → IfSome bus (λ bus. bus.number ≡ number) × (kind ≡ 3 → IsSome bus)
fine-bus r number kind None four = (tt, λ three. absurd (omega (arith, three, four)))
fine-bus r number kind (Some bus) h = (h.number_is, λ _. refl)

pub are-fine : (matrix : List Record) (rows : List BusRow) → AllZip SaysBus matrix rows → AllByRecursion IsFine rows
are-fine [] [] h = tt
are-fine [] (row ∷ rows) h = absurd h
are-fine (r ∷ matrix) [] h = absurd h
are-fine (r ∷ matrix) (row ∷ rows) h =
    let here = h.0 in
    let b = fine-bus r row.number row.kind row.bus here.bus in
    (record { number = b.0; live = b.1; range = here.number_range }, are-fine matrix rows h.1)

-- ---- places
listed-cons : (front : List Bus) (bus : Option Bus) (rows : List BusRow) (more : BusRow) → more.bus ≡ bus → (front ++ listed bus) ++ in_service rows ≡ front ++ in_service (more ∷ rows)
listed-cons front None rows more is = rw (is, append-nil front) refl
listed-cons front (Some bus) rows more is = rw is (append_assoc front (bus ∷ []) (in_service rows))

next-length : (front : List Bus) (bus : Option Bus) → length (front ++ listed bus) ≡ length front + length (listed bus)
next-length front bus = length-append front (listed bus)

at-seam : (front : List Bus) (bus : Bus) (behind : List Bus) → slice_get (front ++ bus ∷ behind) (length front) ≡ Some bus
at-seam front bus behind =
    slice_get-get_or (front ++ bus ∷ behind) (length front) bus (omega (arith, length-append front (bus ∷ behind))) ∙ ap Some (get_or-append_seam front bus behind bus)

pub placed-read : (rows : List BusRow) (front : List Bus) → AllZip (IsPlaced (front ++ in_service rows)) rows (places_from (length front) (all_read rows))
placed-read [] front = tt
placed-read (row ∷ rows) front = (
  (refl, here row.bus refl),
  subst (λ total. AllZip (IsPlaced total) rows (places_from (length front + length (listed row.bus)) (all_read rows))) (listed-cons front row.bus rows row refl)
      (rw (next-length front row.bus) at (placed-read rows (front ++ listed row.bus))),
)
  where
    here : (bus : Option Bus) → row.bus ≡ bus → IsPlace (front ++ in_service (row ∷ rows)) bus (next_place (length front) bus)
    here None is = tt
    here (Some bus) is = rw is (at-seam front bus (in_service rows))

abbrev pub bus_numbers : List Bus → List ℕ
bus_numbers buses = map (λ bus. bus.number) buses

abbrev pub Differ : List ℕ → Type 0
Differ numbers = AllPairs (λ one other. one ≢ other) numbers

one-place : (numbers : List ℕ) (p q n : ℕ) → Differ numbers → slice_get numbers p ≡ Some n → slice_get numbers q ≡ Some n → p ≡ q
one-place numbers p q n differ at_p at_q =
    let p_is = get_or_from_slice_get numbers p n n at_p in
    let q_is = get_or_from_slice_get numbers q n n at_q in
    ⊎_elim (λ lt. absurd (differ p q n lt (slice_get_within numbers q n at_q) (p_is ∙ sym q_is)))
    (λ ge. ⊎_elim (λ lt. absurd (differ q p n lt (slice_get_within numbers p n at_p) (q_is ∙ sym p_is))) (λ le. omega arith) (cases_lt q p))
    (cases_lt p q)

number-at : (buses : List Bus) (p : ℕ) (bus : Bus) → slice_get buses p ≡ Some bus → slice_get (bus_numbers buses) p ≡ Some bus.number
number-at buses p bus at = rw (slice_get-map (λ (b : Bus). b.number) buses p, at) refl

place-same : (front : List Bus) (rows : List BusRow) (row : BusRow) (bus : Option Bus) (place : Option ℕ) → Differ (bus_numbers (front ++ in_service (row ∷ rows))) → row.bus ≡ bus →
    IsPlace (front ++ in_service (row ∷ rows)) bus place → place ≡ next_place (length front) bus
place-same front rows row None None differ is h = refl
place-same front rows row None (Some place) differ is h = absurd h
place-same front rows row (Some bus) None differ is h = absurd h
place-same front rows row (Some bus) (Some place) differ is h =
    let buses = front ++ in_service (row ∷ rows) in
    let seam : slice_get buses (length front) ≡ Some bus = rw is (at-seam front bus (in_service rows)) in
    ap Some (one-place (bus_numbers buses) place (length front) bus.number differ (number-at buses place bus h) (number-at buses (length front) bus seam))

entry-same : (n m : ℕ) (p q : Option ℕ) (one other : Places) → n ≡ m → p ≡ q → one ≡ other → ◌≡◌ {A = Places} ((n, p) ∷ one) ((m, q) ∷ other)
entry-same n m p q one other a b c = rw (a, b, c) refl

pub read-placed : (rows : List BusRow) (front : List Bus) (entries : Places) → Differ (bus_numbers (front ++ in_service rows)) → AllZip (IsPlaced (front ++ in_service rows)) rows entries →
    entries ≡ places_from (length front) (all_read rows)
read-placed [] front [] differ h = refl
read-placed [] front (e ∷ entries) differ h = absurd h
read-placed (row ∷ rows) front [] differ h = absurd h
read-placed (row ∷ rows) front ((n, place) ∷ entries) differ h =
    let here = h.0 in
    let total = listed-cons front row.bus rows row refl in
    entry-same n row.number place (next_place (length front) row.bus) entries (places_from (length front + length (listed row.bus)) (all_read rows))
    here.0 (place-same front rows row row.bus place differ refl here.1)
    (rw (next-length front row.bus) at (read-placed rows (front ++ listed row.bus) entries (subst (λ t. Differ (bus_numbers t)) (sym total) differ) (subst (λ t. AllZip (IsPlaced t) rows entries) (sym total) h.1)))

-- ---- buses in service differ
rest-differ : (n : ℕ) (ns : List ℕ) → Differ (n ∷ ns) → Differ ns
rest-differ n ns h i j d lt within = h (suc i) (suc j) d (omega (arith, lt)) (omega (arith, within))

first-differs : (n : ℕ) (ns : List ℕ) → Differ (n ∷ ns) → All (λ m. n ≢ m) ns
first-differs n ns h k d lt = h 0 (suc k) d (omega arith) (omega (arith, lt))

rest-all : (P : ℕ → Type 0) (n : ℕ) (ns : List ℕ) → All P (n ∷ ns) → All P ns
rest-all P n ns h k d lt = h (suc k) d (omega (arith, lt))

all-buses : (n : ℕ) (rows : List BusRow) → AllByRecursion IsFine rows → All (λ m. n ≢ m) (numbers rows) → All (λ m. n ≢ m) (bus_numbers (in_service rows))
all-buses n [] fine h = All-nil (λ (m : ℕ). n ≢ m)
all-buses n (row ∷ rows) fine h = by row.bus refl (fine.0).number (all-buses n rows fine.1 (rest-all (λ (m : ℕ). n ≢ m) row.number (numbers rows) h))
  where
    by : (bus : Option Bus) → row.bus ≡ bus → IfSome bus (λ bus. bus.number ≡ row.number) → All (λ m. n ≢ m) (bus_numbers (in_service rows)) → All (λ m. n ≢ m) (bus_numbers (in_service (row ∷ rows)))
    by None is same rest = rw is rest
    by (Some bus) is same rest = rw is (All-cons (λ (m : ℕ). n ≢ m) bus.number (bus_numbers (in_service rows)) (rw same (h 0 0 (omega arith))) rest)

pub buses-differ : (rows : List BusRow) → AllByRecursion IsFine rows → AreApart rows → Differ (bus_numbers (in_service rows))
buses-differ [] fine h = λ i j d lt within. absurd (omega (arith, within))
buses-differ (row ∷ rows) fine h = by row.bus refl (fine.0).number (buses-differ rows fine.1 (rest-differ row.number (numbers rows) h))
  where
    by : (bus : Option Bus) → row.bus ≡ bus → IfSome bus (λ bus. bus.number ≡ row.number) → Differ (bus_numbers (in_service rows)) → Differ (bus_numbers (in_service (row ∷ rows)))
    by None is same rest = rw is rest
    by (Some bus) is same rest =
        let first = first-differs row.number (numbers rows) h in
        rw is (AllPairs-cons (λ (one other : ℕ). one ≢ other) bus.number (bus_numbers (in_service rows)) (rw same (all-buses row.number rows fine.1 first)) rest)

-- ---- the reference
abbrev later : Option ℕ → Option ℕ
later None = None
later (Some place) = Some (place + 1)

position-here : (p : read.BusRow → Bool) (x : read.BusRow) (xs : List read.BusRow) → p x ≡ true → position p (x ∷ xs) ≡ Some 0
position-here p x xs passes = grind (arith, common_steps)

position-later : (p : read.BusRow → Bool) (x : read.BusRow) (xs : List read.BusRow) → p x ≡ false → position p (x ∷ xs) ≡ later (position p xs)
position-later p x xs fails = grind (arith, common_steps)

reference-none : (row : BusRow) (rows : List BusRow) → row.bus ≡ None → reference_of (all_read (row ∷ rows)) ≡ reference_of (all_read rows)
reference-none row rows is = rw is refl

reference-here : (row : BusRow) (rows : List BusRow) (bus : Bus) → row.bus ≡ Some bus → row.kind ≡ 3 → reference_of (all_read (row ∷ rows)) ≡ Some 0
reference-here row rows bus is three = rw is (position-here (λ b. b.is_reference) (record { number = row.number; is_reference = row.kind == 3; live = Some bus }) (filter (λ b. is_some b.live) (all_read rows)) (eq-eqb row.kind 3 three))

reference-later : (row : BusRow) (rows : List BusRow) (bus : Bus) → row.bus ≡ Some bus → row.kind ≢ 3 → reference_of (all_read (row ∷ rows)) ≡ later (reference_of (all_read rows))
reference-later row rows bus is other = rw is (position-later (λ b. b.is_reference) (record { number = row.number; is_reference = row.kind == 3; live = Some bus }) (filter (λ b. is_some b.live) (all_read rows)) (ne_eqb row.kind 3 other))

later-some : (o : Option ℕ) (place : ℕ) → later o ≡ Some place → (p : ℕ) × (o ≡ Some p) × (place ≡ p + 1)
later-some None place e = absurd cc
later-some (Some p) place e = (p, refl, cc)

pub reference-read : (rows : List BusRow) (place : ℕ) → AllByRecursion IsFine rows → reference_of (all_read rows) ≡ Some place → IsReference rows place
reference-read [] place fine e = absurd cc
reference-read (row ∷ rows) place fine e = by row.bus refl (row.kind == 3) refl (λ p found. reference-read rows p fine.1 found)
  where
    further : (p : ℕ) → row.kind ≢ 3 → IsReference rows p → length (in_service (row ∷ [])) + p ≡ place → IsReference (row ∷ rows) place
    further p other h is = record {
      before = row ∷ h.before;
      reference = h.reference;
      behind = h.behind;
      rows_are = ap (λ t. row ∷ t) h.rows_are;
      is_reference = h.is_reference;
      is_first = (other, h.is_first);
      place_is = sym is ∙ ap (λ q. length (in_service (row ∷ [])) + q) h.place_is ∙ counts row.bus;
    }
      where
        counts : (bus : Option Bus) → length (cons_option bus []) + length (in_service h.before) ≡ length (cons_option bus (in_service h.before))
        counts None = omega arith
        counts (Some bus) = omega arith

    by : (bus : Option Bus) → row.bus ≡ bus → (test : Bool) → (row.kind == 3) ≡ test → ((p : ℕ) → reference_of (all_read rows) ≡ Some p → IsReference rows p) → IsReference (row ∷ rows) place
    by None is test t rest =
        let other : row.kind ≢ 3 = λ three. let some : is_some row.bus ≡ true = (fine.0).live three in let never : false ≡ true = rw is at some in absurd cc in
        let none : length (in_service (row ∷ [])) ≡ 0 = ap (λ bus. length (cons_option bus [])) is in
        further place other (rest place (sym (reference-none row rows is) ∙ e)) (omega (arith, none))
    by (Some bus) is true t rest =
        let three : row.kind ≡ 3 = eqb-true row.kind 3 t in
        let first : Some 0 ≡ Some place = sym (reference-here row rows bus is three) ∙ e in
        record { before = []; reference = row; behind = rows; rows_are = refl; is_reference = three; is_first = tt; place_is = cc }
    by (Some bus) is false t rest =
        let other : row.kind ≢ 3 = λ three. let never : true ≡ false = sym (eq-eqb row.kind 3 three) ∙ t in absurd cc in
        let found = later-some (reference_of (all_read rows)) place (sym (reference-later row rows bus is other) ∙ e) in
        let one : length (in_service (row ∷ [])) ≡ 1 = ap (λ bus. length (cons_option bus [])) is in
        further found.0 other (rest found.0 found.1) (omega (arith, one, found.2))

first-reference : (before : List BusRow) (reference : BusRow) (behind : List BusRow) → AllByRecursion IsFine (before ++ reference ∷ behind) → reference.kind ≡ 3 → AllByRecursion (λ row. row.kind ≢ 3) before →
    reference_of (all_read (before ++ reference ∷ behind)) ≡ Some (length (in_service before))
first-reference [] reference behind fine three others = by reference.bus refl
  where
    by : (bus : Option Bus) → reference.bus ≡ bus → reference_of (all_read (reference ∷ behind)) ≡ Some 0
    by None is = let some : is_some reference.bus ≡ true = (fine.0).live three in let never : false ≡ true = rw is at some in absurd cc
    by (Some bus) is = reference-here reference behind bus is three
first-reference (row ∷ before) reference behind fine three others = by row.bus refl (first-reference before reference behind fine.1 three others.1)
  where
    by : (bus : Option Bus) → row.bus ≡ bus → reference_of (all_read (before ++ reference ∷ behind)) ≡ Some (length (in_service before)) →
        reference_of (all_read (row ∷ (before ++ reference ∷ behind))) ≡ Some (length (in_service (row ∷ before)))
    by None is rest = reference-none row (before ++ reference ∷ behind) is ∙ rest ∙ rw is refl
    by (Some bus) is rest = reference-later row (before ++ reference ∷ behind) bus is others.0 ∙ ap later rest ∙ rw is (ap Some (omega arith))

pub read-reference : (rows : List BusRow) (place : ℕ) → AllByRecursion IsFine rows → IsReference rows place → reference_of (all_read rows) ≡ Some place
read-reference rows place fine h =
    ap (λ t. reference_of (all_read t)) h.rows_are ∙ first-reference h.before h.reference h.behind (subst (AllByRecursion IsFine) h.rows_are fine) h.is_reference h.is_first ∙ ap Some (sym h.place_is)
