-- Places of buses that are looked up, and the units that are read of gen rows.
use Rattle.std.proofs.Common.{◌≡◌, ℕ, ◌≤◌, ◌==◌, ◌&&◌, ℤ, pos, Bool, true, false, List, [], ◌∷◌, refl, sym, ap, subst, ◌∙◌, arith, Option, Some, None, Ok, Err, inl, inr}
use Rattle.std.specs.Prelude.{if◌then◌else◌, All, Contains, IsSome, unsigned_abs, ◌≤ℤ◌, ◌<ℤ◌}
use Rattle.std.specs.Int.Signed.{le_z, lt_z, lt_z_no, lt_z_yes}
use Rattle.std.specs.List.{AllByRecursion}
use Rattle.std.specs.Map.{lookup, keys_of}
use Rattle.std.specs.Cmp.{nat_eq_equiv}
use Rattle.std.proofs.lemmas.Bool.{eqb-true}
use Rattle.std.proofs.lemmas.Bool.Decides.{Decides-eqb}
use Rattle.std.proofs.lemmas.Int.{ints}
use Rattle.std.proofs.lemmas.List.Elements.{All-cons, All-nil, All-contains}
use Rattle.std.proofs.lemmas.Map.Made.{IsDistinct-from_AllPairs}
use Rattle.std.proofs.lemmas.Map.Views.{lookup-from_Contains, Contains-from_lookup, Contains-keys_from_lookup}
use Rattle.fraction_theory.specs.declared.Sign.{Sign}
use Rattle.fraction_theory.specs.declared.Sign.TheVariants as sign
use Rattle.market_data.specs.Scales.{mw_places}
use Rattle.record_reading.specs.Records.{Record}
use Rattle.record_reading.specs.Steps.{and_then, some_of}
use Rattle.record_reading.proofs.StepLemmas.{then-ok, some-ok, ok-same}
use Rattle.case_text.specs.declared.Field.{Field}
use Rattle.case_text.specs.declared.Field.TheVariants as field
use Rattle.net_case.specs.declared.live_parts.NetUnit.{NetUnit}
use Rattle.net_case.specs.declared.live_parts.NetFault.TheVariants as fault
use Rattle.net_case.specs.Columns.{GEN_BUS, GEN_STATUS, PMAX, PMIN}
use Rattle.net_case.specs.Networks.{most_bus_number}
use Rattle.net_case.specs.NetworkReading.{number_in, service_in, is_above, Places, places_from, place_of_number, named_place, bounds_in, unit_where, unit_row}
use Rattle.network_meaning.specs.BusRows.{BusRow, numbers, AreApart}
use Rattle.network_meaning.specs.Units.{IsUnitInService, GivesUnit, IsGenRow}
use Rattle.network_meaning.proofs.CellsRead.{amount-read, read-amount, service-read, read-service, between, is_between}
use Rattle.network_meaning.proofs.BusesRead.{all_read, keys-read}
use Rattle.network_meaning.proofs.Places.{IsFine, Differ}

-- ---- places
pub named-read : (f : Field) (row : ℕ) (found : Option (Option ℕ)) (place : Option ℕ) → named_place f row found ≡ Ok place → found ≡ Some place
named-read f row None place e = absurd cc
named-read f row (Some p) place e = ap Some (ok-same p place e)

-- What is looked up among places is an entry, and each entry is found.
pub record AreFound (places : Places) : Type 0 where
  pub found : (n : ℤ) (place : Option ℕ) → place_of_number places n ≡ Some place → (k : ℕ) × (n ≡ pos k) × Contains places (k, place)
  pub finds : (k : ℕ) (place : Option ℕ) → Contains places (k, place) → place_of_number places (pos k) ≡ Some place

abbrev IsInRange : ℕ → Type 0
IsInRange n = (1 ≤ n) × (n ≤ 2147483647)

all-range : (rows : List BusRow) → AllByRecursion IsFine rows → All IsInRange (numbers rows)
all-range [] fine = All-nil IsInRange
all-range (row ∷ rows) fine = All-cons IsInRange row.number (numbers rows) (fine.0).range (all-range rows fine.1)

module _ (rows : List BusRow) (fine : AllByRecursion IsFine rows) (apart : AreApart rows) where
  abbrev places : Places
  places = places_from 0 (all_read rows)

  looked : (k : ℕ) (place : Option ℕ) → Contains places (k, place) → lookup (λ other. k == other) places ≡ Some place
  looked k place here = lookup-from_Contains nat_eq_equiv k place places (IsDistinct-from_AllPairs Decides-eqb (keys_of places) (subst Differ (sym (keys-read 0 rows)) apart)) here

  in_range : (k : ℕ) (place : Option ℕ) → Contains places (k, place) → IsInRange k
  in_range k place here =
      let some : IsSome (lookup (λ other. k == other) places) = rw (looked k place here) refl in
      All-contains IsInRange (numbers rows) k (all-range rows fine) (subst (λ ks. Contains ks k) (keys-read 0 rows) (Contains-keys_from_lookup eqb-true k places some))

  finds-place : (k : ℕ) (place : Option ℕ) → Contains places (k, place) → place_of_number places (pos k) ≡ Some place
  unfolding place_of_number
  finds-place k place here = let r = in_range k place here in rw (is_between k most_bus_number r.0 r.1, looked k place here) refl

  place-found : (n : ℤ) (place : Option ℕ) → place_of_number places n ≡ Some place → (k : ℕ) × (n ≡ pos k) × Contains places (k, place)
  unfolding place_of_number
  place-found n place e = by (le_z (pos 1) n && le_z n (pos most_bus_number)) refl e
    where
      by : (test : Bool) → (le_z (pos 1) n && le_z n (pos most_bus_number)) ≡ test → (if test then lookup (λ other. unsigned_abs n == other) places else None) ≡ Some place
          → (k : ℕ) × (n ≡ pos k) × Contains places (k, place)
      by true t e = let b = between n most_bus_number t in (unsigned_abs n, b.0, Contains-from_lookup eqb-true (unsigned_abs n) place places e)
      by false t e = absurd cc

  pub are-found : AreFound places
  are-found = record { found = place-found; finds = finds-place }

-- ---- bounds
bounds-read : (row : ℕ) (r : Record) (bus : ℕ) (unit : NetUnit) → bounds_in row r bus ≡ Ok unit → IsUnitInService row r (Some bus) sign.Above unit
unfolding bounds_in
bounds-read row r bus unit e =
    let t = then-ok (number_in field.Gen row r PMAX mw_places)
    (λ high. and_then (number_in field.Gen row r PMIN mw_places) (λ low. if lt_z high low then Err (fault.MinAboveMax row) else Ok (record { row = row; bus = bus; low = low; high = high }))) unit e in
    let u = then-ok (number_in field.Gen row r PMIN mw_places) (λ low. if lt_z t.0 low then Err (fault.MinAboveMax row) else Ok (record { row = row; bus = bus; low = low; high = t.0 })) unit t.2 in
    by t.0 u.0 t.1 u.1 (lt_z t.0 u.0) refl u.2
  where
    by : (high low : ℤ) → number_in field.Gen row r PMAX mw_places ≡ Ok high → number_in field.Gen row r PMIN mw_places ≡ Ok low → (test : Bool) → lt_z high low ≡ test
        → (if test then Err (fault.MinAboveMax row) else Ok (record { row = row; bus = bus; low = low; high = high })) ≡ Ok unit → IsUnitInService row r (Some bus) sign.Above unit
    by high low h l true t e = absurd cc
    by high low h l false t e = subst (IsUnitInService row r (Some bus) sign.Above) (ok-same (record { row = row; bus = bus; low = low; high = high }) unit e) (record {
      status_above = refl;
      bus_in_service = refl;
      row_is = refl;
      pmin = amount-read field.Gen row r PMIN mw_places low l;
      pmax = amount-read field.Gen row r PMAX mw_places high h;
      order = lt_z_no {a = high} {b = low} (rw t tt);
    })

not_less : (high low : ℤ) → low ≤ℤ high → lt_z high low ≡ false
not_less high low le = by (lt_z high low) refl
  where
    by : (test : Bool) → lt_z high low ≡ test → lt_z high low ≡ false
    by true t = let lt : high <ℤ low = lt_z_yes {a = high} {b = low} (rw t tt) in absurd (omega (arith, ints))
    by false t = t

read-bounds : (row : ℕ) (r : Record) (bus : ℕ) (unit : NetUnit) → IsUnitInService row r (Some bus) sign.Above unit → bounds_in row r bus ≡ Ok unit
unfolding bounds_in
read-bounds row r bus unit h =
    let at : bus ≡ unit.bus = cc (h.bus_in_service) in
    rw (read-amount field.Gen row r PMAX mw_places unit.high h.pmax, read-amount field.Gen row r PMIN mw_places unit.low h.pmin, not_less unit.high unit.low h.order, ← h.row_is, at) refl

-- ---- a unit
unit-read : (row : ℕ) (r : Record) (place : Option ℕ) (s : Sign) (gives : Option NetUnit) → unit_where row r place (is_above s) ≡ Ok gives → GivesUnit row r place s gives
unfolding unit_where
unit-read row r None s gives e = subst (GivesUnit row r None s) (ok-same None gives e) (inl refl)
unit-read row r (Some bus) sign.Below gives e = subst (GivesUnit row r (Some bus) sign.Below) (ok-same None gives e) (inr (λ above. cc above))
unit-read row r (Some bus) sign.Zero gives e = subst (GivesUnit row r (Some bus) sign.Zero) (ok-same None gives e) (inr (λ above. cc above))
unit-read row r (Some bus) sign.Above gives e =
    let t = some-ok (bounds_in row r bus) gives e in
    subst (GivesUnit row r (Some bus) sign.Above) (sym t.2) (bounds-read row r bus t.0 t.1)

read-unit : (row : ℕ) (r : Record) (place : Option ℕ) (s : Sign) (gives : Option NetUnit) → GivesUnit row r place s gives → unit_where row r place (is_above s) ≡ Ok gives
unfolding unit_where
read-unit row r None s None h = refl
read-unit row r None s (Some unit) h = absurd (cc (h.bus_in_service))
read-unit row r (Some bus) sign.Below None h = refl
read-unit row r (Some bus) sign.Zero None h = refl
read-unit row r (Some bus) sign.Above None (inl e) = absurd (cc e)
read-unit row r (Some bus) sign.Above None (inr other) = absurd (other refl)
read-unit row r (Some bus) sign.Below (Some unit) h = absurd (cc (h.status_above))
read-unit row r (Some bus) sign.Zero (Some unit) h = absurd (cc (h.status_above))
read-unit row r (Some bus) sign.Above (Some unit) h = ap some_of (read-bounds row r bus unit h)

-- ---- a gen row
pub gen_row-read : (places : Places) → AreFound places → (row : ℕ) (r : Record) (gives : Option NetUnit) → unit_row places row r ≡ Ok gives → IsGenRow places row r gives
unfolding unit_row
gen_row-read places f row r gives e =
    let t = then-ok (number_in field.Gen row r GEN_BUS 0)
    (λ n. and_then (named_place field.Gen row (place_of_number places n)) (λ place. and_then (service_in field.Gen row r GEN_STATUS) (unit_where row r place))) gives e in
    let u = then-ok (named_place field.Gen row (place_of_number places t.0)) (λ place. and_then (service_in field.Gen row r GEN_STATUS) (unit_where row r place)) gives t.2 in
    let v = then-ok (service_in field.Gen row r GEN_STATUS) (unit_where row r u.0) gives u.2 in
    let s = service-read field.Gen row r GEN_STATUS v.0 v.1 in
    let at = f.found t.0 u.0 (named-read field.Gen row (place_of_number places t.0) u.0 u.1) in
    record {
      bus = at.0;
      place = u.0;
      status = s.0;
      gen_bus = amount-read field.Gen row r GEN_BUS 0 (pos at.0) (t.1 ∙ ap Ok at.1);
      has_row = at.2;
      gen_status = s.1;
      unit = unit-read row r u.0 s.0 gives (subst (λ above. unit_where row r u.0 above ≡ Ok gives) s.2 v.2);
    }

pub read-gen_row : (places : Places) → AreFound places → (row : ℕ) (r : Record) (gives : Option NetUnit) → IsGenRow places row r gives → unit_row places row r ≡ Ok gives
unfolding unit_row
read-gen_row places f row r gives h =
    rw (read-amount field.Gen row r GEN_BUS 0 (pos h.bus) h.gen_bus, f.finds h.bus h.place h.has_row, read-service field.Gen row r GEN_STATUS h.status h.gen_status)
    (read-unit row r h.place h.status gives h.unit)
