-- The fixed part of a unit is the number of its range that is nearest 0.
use Rattle.std.proofs.Common.{◌≡◌, ℕ, ◌≤◌, ◌+◌, ℤ, pos, negsuc, Bool, true, false, List, [], ◌∷◌, map, refl, sym, subst, arith, Option, Some, None}
use Rattle.std.specs.Prelude.{if◌then◌else◌, ◌≤ℤ◌, ◌<ℤ◌, unsigned_abs}
use Rattle.std.specs.Int.Signed.{lt_z, lt_z_no, lt_z_yes}
use Rattle.std.specs.List.{AllByRecursion, AllZip, filter_map, enumerate_from}
use Rattle.std.proofs.lemmas.Int.{ints}
use Rattle.fraction_theory.specs.declared.Sign.{Sign}
use Rattle.record_reading.specs.Records.{Record}
use Rattle.case_text.specs.Matrices.{CaseMatrices}
use Rattle.net_case.specs.declared.live_parts.Branches.{Branches}
use Rattle.net_case.specs.declared.live_parts.NetUnit.{NetUnit}
use Rattle.net_case.specs.Networks.{LiveNetwork}
use Rattle.net_case.specs.NetworkReading.{nearest_0, unit_within, unit_list_of}
use Rattle.network_meaning.specs.Units.{GivesUnit, IsGenRow}
use Rattle.network_meaning.specs.LiveNetworks.{IsLiveNetwork}
use Rattle.network_meaning.specs.Rooms.{IsNearestZero, HasUnitRoom, HaveUnitRooms}

-- ---- sizes
larger-above : (low other : ℤ) → pos 0 <ℤ low → low ≤ℤ other → unsigned_abs low ≤ unsigned_abs other
larger-above (pos a) (pos b) above le = omega (arith, ints)
larger-above (pos a) (negsuc b) above le = absurd (omega (arith, ints))
larger-above (negsuc a) other above le = absurd (omega (arith, ints))

larger-below : (high other : ℤ) → high <ℤ pos 0 → other ≤ℤ high → unsigned_abs high ≤ unsigned_abs other
larger-below (pos a) other below le = absurd (omega (arith, ints))
larger-below (negsuc a) (pos b) below le = absurd (omega (arith, ints))
larger-below (negsuc a) (negsuc b) below le = omega (arith, ints)

-- ---- a unit
nearest : (low high : ℤ) → low ≤ℤ high → IsNearestZero low high (nearest_0 low high)
nearest low high order = by (lt_z (pos 0) low) refl (lt_z high (pos 0)) refl
  where
    by : (above : Bool) → lt_z (pos 0) low ≡ above → (below : Bool) → lt_z high (pos 0) ≡ below → IsNearestZero low high (if above then low else (if below then high else pos 0))
    by true a below b = record { from = omega (arith, ints); to = order; nearest = λ other ge le. larger-above low other (lt_z_yes {a = pos 0} {b = low} (rw a tt)) ge }
    by false a true b = record { from = order; to = omega (arith, ints); nearest = λ other ge le. larger-below high other (lt_z_yes {a = high} {b = pos 0} (rw b tt)) le }
    by false a false b = record { from = lt_z_no {a = pos 0} {b = low} (rw a tt); to = lt_z_no {a = high} {b = pos 0} (rw b tt); nearest = λ other ge le. omega arith }

has-room : (unit : NetUnit) → unit.low ≤ℤ unit.high → HasUnitRoom unit (unit_within unit)
unfolding unit_within
has-room unit order = record { row_is = refl; bus_is = refl; fixed = nearest unit.low unit.high order; to_sell = refl; to_buy = refl }

-- ---- all units
abbrev IsOrdered : NetUnit → Type 0
IsOrdered unit = unit.low ≤ℤ unit.high

have-room : (units : List NetUnit) → AllByRecursion IsOrdered units → AllZip HasUnitRoom units (map unit_within units)
have-room [] ordered = tt
have-room (unit ∷ units) ordered = (has-room unit ordered.0, have-room units ordered.1)

ordered-more : (number : ℕ) (row : Record) (place : Option ℕ) (status : Sign) (gives : Option NetUnit) (more : List (Option NetUnit)) → GivesUnit number row place status gives →
    AllByRecursion IsOrdered (filter_map (λ item. item) more) → AllByRecursion IsOrdered (filter_map (λ item. item) (gives ∷ more))
ordered-more number row place status None more h rest = rest
ordered-more number row place status (Some unit) more h rest = (h.order, rest)

ordered-from : (buses : List (ℕ × Option ℕ)) (rows : List Record) (number : ℕ) (given : List (Option NetUnit)) → AllZip (λ numbered item. IsGenRow buses numbered.0 numbered.1 item) (enumerate_from number rows) given →
    AllByRecursion IsOrdered (filter_map (λ item. item) given)
ordered-from buses [] number [] h = tt
ordered-from buses [] number (x ∷ given) h = absurd h
ordered-from buses (row ∷ rows) number [] h = absurd h
ordered-from buses (row ∷ rows) number (x ∷ given) h = let here = h.0 in ordered-more number row here.place here.status x given here.unit (ordered-from buses rows (number + 1) given h.1)

pub rooms : (asked : Branches) (case : CaseMatrices) (network : LiveNetwork) → IsLiveNetwork asked case network → HaveUnitRooms network (unit_list_of network)
rooms asked case network h =
    let given = h.units in
    record {
      rows = refl;
      units = have-room network.units (subst (AllByRecursion IsOrdered) (sym given.items_are) (ordered-from network.bus_rows case.generators 1 given.given given.rows));
    }
