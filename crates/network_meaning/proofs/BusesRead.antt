-- Bus rows that are read say what they are read as, and no number stands twice.
use Rattle.std.proofs.Common.{◌≡◌, ◌≢◌, ℕ, ◌+◌, ◌<◌, ◌==◌, Bool, true, false, List, [], ◌∷◌, ◌++◌, length, map, get_or, refl, sym, ap, subst, ◌∙◌, arith, Option, Some, None, Result, Ok, Err, length-append}
use Rattle.std.specs.Prelude.{if◌then◌else◌, AllPairs, Contains, is_some, IsSome}
use Rattle.std.specs.Map.{lookup, keys_of}
use Rattle.std.specs.List.{AllZip}
use Rattle.std.specs.Cmp.{nat_eq_equiv}
use Rattle.std.proofs.lemmas.Bool.{eqb-true, eq-eqb, ne_eqb}
use Rattle.std.proofs.lemmas.List.{append_assoc, append-nil, map-append}
use Rattle.std.proofs.lemmas.List.Elements.{Contains-get_or}
use Rattle.std.proofs.lemmas.List.Quantifiers.{all_pairs_push}
use Rattle.std.proofs.lemmas.Map.Views.{IsSome-lookup_from_Contains, Contains-keys_from_lookup}
use Rattle.std.proofs.Math.Seq.{get_or-append_seam}
use Rattle.std.proofs.Math.ListN.{get_or-append}
use Rattle.market_data.specs.Scales.{mw_places}
use Rattle.market_data.specs.declared.participants.Bus.{Bus}
use Rattle.record_reading.specs.Records.{Record}
use Rattle.record_reading.specs.Gathering.{gather, listed}
use Rattle.record_reading.specs.Steps.{and_then, some_of}
use Rattle.record_reading.proofs.StepLemmas.{then-ok, some-ok, ok-same}
use Rattle.case_text.specs.declared.Field.TheVariants as field
use Rattle.net_case.specs.declared.live_parts.NetFault.{NetFault}
use Rattle.net_case.specs.declared.live_parts.NetFault.TheVariants as fault
use Rattle.net_case.specs.Columns.{BUS_I, BUS_TYPE, PD, GS}
use Rattle.net_case.specs.Networks.{most_bus_number}
use Rattle.net_case.specs.declared.bus_rows.BusRow as read
use Rattle.net_case.specs.NetworkReading.{number_in, counted_in, demands_in, live_row, row_of_type, Places, places_from, bus_row_after, bus_row}
use Rattle.network_meaning.specs.Cells.{cell}
use Rattle.network_meaning.specs.BusRows.{BusRow, IsBusInService, GivesBus, SaysBus, numbers, AreApart}
use Rattle.network_meaning.proofs.CellsRead.{amount-read, read-amount, IsCounted, counted-read, read-counted}

-- as what a row is read
abbrev pub as_read : BusRow → read.BusRow
as_read says = record { number = says.number; is_reference = says.kind == 3; live = says.bus }

abbrev pub all_read : List BusRow → List read.BusRow
all_read rows = map as_read rows

-- ---- one row
demands-read : (row : ℕ) (r : Record) (number : ℕ) (bus : Bus) (kind : ℕ) → kind ≢ 4 → demands_in row r number ≡ Ok bus → IsBusInService r number kind bus
unfolding demands_in
demands-read row r number bus kind other e =
    let t = then-ok (number_in field.Bus row r PD mw_places)
    (λ pd. and_then (number_in field.Bus row r GS mw_places) (λ gs. Ok (record { number = number; pd = pd; gs = gs }))) bus e in
    let u = then-ok (number_in field.Bus row r GS mw_places) (λ gs. Ok (record { number = number; pd = t.0; gs = gs })) bus t.2 in
    subst (IsBusInService r number kind) (ok-same (record { number = number; pd = t.0; gs = u.0 }) bus u.2)
    (record { not_isolated = other; number_is = refl; pd = amount-read field.Bus row r PD mw_places t.0 t.1; gs = amount-read field.Bus row r GS mw_places u.0 u.1 })

read-demands : (row : ℕ) (r : Record) (number kind : ℕ) (bus : Bus) → IsBusInService r number kind bus → demands_in row r number ≡ Ok bus
unfolding demands_in
read-demands row r number kind bus h =
    rw (read-amount field.Bus row r PD mw_places bus.pd h.pd, read-amount field.Bus row r GS mw_places bus.gs h.gs, ← h.number_is) refl

record TypeRead (r : Record) (number kind : ℕ) (row : read.BusRow) : Type 0 where
  bus : Option Bus
  is_bus : GivesBus r number kind bus
  row_is : row ≡ as_read (record { number = number; kind = kind; bus = bus })

live-read : (row : ℕ) (r : Record) (number kind : ℕ) (said : read.BusRow) (found : Result Bus NetFault) → kind ≢ 4 → demands_in row r number ≡ found →
    live_row number (kind == 3) found ≡ Ok said → TypeRead r number kind said
live-read row r number kind said (Ok bus) other is e = record {
  bus = Some bus;
  is_bus = demands-read row r number bus kind other is;
  row_is = sym (ok-same (record { number = number; is_reference = kind == 3; live = Some bus }) said e);
}
live-read row r number kind said (Err why) other is e = absurd cc

type-read : (row : ℕ) (r : Record) (number kind : ℕ) (said : read.BusRow) → row_of_type row r number kind ≡ Ok said → TypeRead r number kind said
unfolding row_of_type
type-read row r number kind said e = by (kind == 4) refl e
  where
    by : (test : Bool) → (kind == 4) ≡ test → (if test then Ok (record { number = number; is_reference = false; live = None }) else live_row number (kind == 3) (demands_in row r number)) ≡ Ok said
        → TypeRead r number kind said
    by true is e =
        let four : kind ≡ 4 = eqb-true kind 4 is in
        let never : (kind == 3) ≡ false = rw four refl in
        record {
          bus = None;
          is_bus = four;
          row_is = sym (ok-same (record { number = number; is_reference = false; live = None }) said e) ∙ ap (λ b. record { number = number; is_reference = b; live = None }) (sym never);
        }
    by false is e = live-read row r number kind said (demands_in row r number) (λ four. let no : true ≡ false = sym (eq-eqb kind 4 four) ∙ is in absurd cc) refl e

read-type : (row : ℕ) (r : Record) (number kind : ℕ) (bus : Option Bus) → GivesBus r number kind bus → row_of_type row r number kind ≡ Ok (as_read (record { number = number; kind = kind; bus = bus }))
unfolding row_of_type
read-type row r number kind None four = rw four refl
read-type row r number kind (Some bus) h = rw (ne_eqb kind 4 h.not_isolated, read-demands row r number kind bus h) refl

record RowRead (places : Places) (r : Record) (row : read.BusRow) : Type 0 where
  says : BusRow
  is : SaysBus r says
  row_is : row ≡ as_read says
  new : lookup (λ other. says.number == other) places ≡ None

row-read : (places : Places) (row : ℕ) (r : Record) (said : read.BusRow) → bus_row_after places row r ≡ Ok said → RowRead places r said
unfolding bus_row_after
row-read places row r said e =
    let t = then-ok (counted_in row r BUS_I most_bus_number)
    (λ number. if is_some (lookup (λ other. number == other) places) then Err (fault.BusTwice row) else and_then (counted_in row r BUS_TYPE 4) (row_of_type row r number)) said e in
    let number : ℕ = t.0 in
    by number (counted-read row r BUS_I most_bus_number number t.1) (lookup (λ other. number == other) places) refl t.2
  where
    by : (number : ℕ) → IsCounted (cell r BUS_I) most_bus_number number → (found : Option (Option ℕ)) → lookup (λ other. number == other) places ≡ found
        → (if is_some found then Err (fault.BusTwice row) else and_then (counted_in row r BUS_TYPE 4) (row_of_type row r number)) ≡ Ok said → RowRead places r said
    by number n (Some place) is e = absurd cc
    by number n None is e =
        let u = then-ok (counted_in row r BUS_TYPE 4) (row_of_type row r number) said e in
        let k = counted-read row r BUS_TYPE 4 u.0 u.1 in
        let b = type-read row r number u.0 said u.2 in
        record {
          says = record { number = number; kind = u.0; bus = b.bus };
          is = record { number = n.is; number_range = (n.least, n.most); kind = k.is; kind_range = (k.least, k.most); bus = b.is_bus };
          row_is = b.row_is;
          new = is;
        }

read-row : (places : Places) (row : ℕ) (r : Record) (says : BusRow) → SaysBus r says → lookup (λ other. says.number == other) places ≡ None → bus_row_after places row r ≡ Ok (as_read says)
unfolding bus_row_after
read-row places row r says h new =
    let n = h.number_range in
    let k = h.kind_range in
    rw (
      read-counted row r BUS_I most_bus_number says.number (record { is = h.number; least = n.0; most = n.1 }),
      new,
      read-counted row r BUS_TYPE 4 says.kind (record { is = h.kind; least = k.0; most = k.1 }),
    )
    (read-type row r says.number says.kind says.bus h.bus)

-- ---- the numbers of rows before
pub keys-read : (n : ℕ) (rows : List BusRow) → keys_of (places_from n (all_read rows)) ≡ numbers rows
keys-read n [] = refl
keys-read n (row ∷ rows) = ap (λ t. row.number ∷ t) (keys-read (n + length (listed row.bus)) rows)

new-apart : (before : List BusRow) (number : ℕ) → lookup (λ other. number == other) (places_from 0 (all_read before)) ≡ None → (k : ℕ) (d : ℕ) → k < length (numbers before) → get_or (numbers before) k d ≢ number
new-apart before number new k d lt is =
    let here : Contains (numbers before) number = subst (Contains (numbers before)) is (Contains-get_or (numbers before) k d lt) in
    let found = IsSome-lookup_from_Contains nat_eq_equiv number (places_from 0 (all_read before)) (subst (λ ks. Contains ks number) (sym (keys-read 0 before)) here) in
    let never : false ≡ true = rw new at found in
    absurd cc

apart-new : (before : List BusRow) (number : ℕ) → ((k : ℕ) → k < length (numbers before) → get_or (numbers before) k number ≢ number) → lookup (λ other. number == other) (places_from 0 (all_read before)) ≡ None
apart-new before number apart = by (lookup (λ other. number == other) (places_from 0 (all_read before))) refl
  where
    by : (found : Option (Option ℕ)) → lookup (λ other. number == other) (places_from 0 (all_read before)) ≡ found → lookup (λ other. number == other) (places_from 0 (all_read before)) ≡ None
    by None is = is
    by (Some place) is =
        let some : IsSome (lookup (λ other. number == other) (places_from 0 (all_read before))) = rw is refl in
        let here : Contains (numbers before) number = subst (λ ks. Contains ks number) (keys-read 0 before) (Contains-keys_from_lookup eqb-true number (places_from 0 (all_read before)) some) in
        absurd (apart here.0 here.1 here.2)

-- ---- all rows
abbrev pub row_reader : List read.BusRow → ℕ → Record → Result (Option read.BusRow) NetFault
row_reader earlier n r = some_of (bus_row earlier n r)

pub record RowsRead (before : List BusRow) (rows : List Record) (all : List read.BusRow) : Type 0 where
  pub says : List BusRow
  pub are : AllZip SaysBus rows says
  pub apart : AreApart (before ++ says)
  pub all_are : all ≡ all_read (before ++ says)

push-read : (before : List BusRow) (says : BusRow) → all_read (before ++ says ∷ []) ≡ all_read before ++ as_read says ∷ []
push-read before says = map-append as_read before (says ∷ [])

apart-push : (before : List BusRow) (says : BusRow) → AreApart before → lookup (λ other. says.number == other) (places_from 0 (all_read before)) ≡ None → AreApart (before ++ says ∷ [])
apart-push before says apart new = rw (map-append (λ (row : BusRow). row.number) before (says ∷ []))
    (all_pairs_push (λ (one other : ℕ). one ≢ other) (numbers before) says.number apart (new-apart before says.number new))

seam : (before : List BusRow) (says : BusRow) (more : List BusRow) → (before ++ says ∷ []) ++ more ≡ before ++ says ∷ more
seam before says more = append_assoc before (says ∷ []) more

pub rows-read : (rows : List Record) (before : List BusRow) (n : ℕ) (all : List read.BusRow) → AreApart before → gather row_reader (all_read before) n rows ≡ Ok all → RowsRead before rows all
unfolding gather
rows-read [] before n all apart e = record { says = []; are = tt; apart = rw (append-nil before) apart; all_are = sym (ok-same (all_read before) all e) ∙ ap all_read (sym (append-nil before)) }
rows-read (r ∷ rows) before n all apart e =
    let t = then-ok (some_of (bus_row (all_read before) n r)) (λ x. gather row_reader (all_read before ++ listed x) (n + 1) rows) all e in
    let s = some-ok (bus_row (all_read before) n r) t.0 t.1 in
    let row = row-read (places_from 0 (all_read before)) n r s.0 s.1 in
    let says : BusRow = row.says in
    let given : t.0 ≡ Some (as_read says) = s.2 ∙ ap Some row.row_is in
    let done : all_read before ++ listed t.0 ≡ all_read (before ++ says ∷ []) = ap (λ x. all_read before ++ listed x) given ∙ sym (push-read before says) in
    let rest = rows-read rows (before ++ says ∷ []) (n + 1) all (apart-push before says apart row.new) (subst (λ d. gather row_reader d (n + 1) rows ≡ Ok all) done t.2) in
    record {
      says = says ∷ rest.says;
      are = (row.is, rest.are);
      apart = subst AreApart (seam before says rest.says) rest.apart;
      all_are = rest.all_are ∙ ap all_read (seam before says rest.says);
    }

-- a row is apart from those before it
apart-before : (before : List BusRow) (says : BusRow) (more : List BusRow) → AreApart (before ++ says ∷ more) → (k : ℕ) → k < length (numbers before) → get_or (numbers before) k says.number ≢ says.number
apart-before before says more apart k lt is =
    let all = numbers before ++ says.number ∷ numbers more in
    let pairs : AllPairs (λ (one other : ℕ). one ≢ other) all = rw (map-append (λ (row : BusRow). row.number) before (says ∷ more)) at apart in
    let inside : length (numbers before) < length all = omega (arith, length-append (numbers before) (says.number ∷ numbers more)) in
    let first : get_or all k says.number ≡ says.number = get_or-append (numbers before) (says.number ∷ numbers more) says.number k lt ∙ is in
    let second : get_or all (length (numbers before)) says.number ≡ says.number = get_or-append_seam (numbers before) says.number (numbers more) says.number in
    pairs k (length (numbers before)) says.number lt inside (first ∙ sym second)

pub read-rows : (rows : List Record) (says before : List BusRow) (n : ℕ) → AllZip SaysBus rows says → AreApart (before ++ says) → gather row_reader (all_read before) n rows ≡ Ok (all_read (before ++ says))
unfolding gather
read-rows [] [] before n h apart = ap (λ t. Ok (all_read t)) (sym (append-nil before))
read-rows [] (s ∷ says) before n h apart = absurd h
read-rows (r ∷ rows) [] before n h apart = absurd h
read-rows (r ∷ rows) (s ∷ says) before n h apart =
    let here : bus_row (all_read before) n r ≡ Ok (as_read s) = read-row (places_from 0 (all_read before)) n r s h.0 (apart-new before s.number (apart-before before s says apart)) in
    rw (here, ← push-read before s)
    (read-rows rows says (before ++ s ∷ []) (n + 1) h.1 (subst AreApart (sym (seam before s says)) apart) ∙ ap (λ t. Ok (all_read t)) (seam before s says))
