-- What is read of a case is its live network, and the live network of a case is read of it.
use Rattle.std.proofs.Common.{◌≡◌, ℕ, ◌≤◌, Bool, true, false, List, [], length, refl, sym, ap, subst, ◌∙◌, arith, Option, Some, None, Result, Ok, Err}
use Rattle.std.specs.Prelude.{if◌then◌else◌, nat_lt}
use Rattle.std.specs.List.{AllZip}
use Rattle.std.proofs.lemmas.Grind.{common_steps}
use Rattle.market_data.specs.Scales.{most_buses, most_lines, most_units}
use Rattle.market_data.specs.declared.participants.Bus.{Bus}
use Rattle.record_reading.specs.Records.{Record}
use Rattle.record_reading.specs.Gathering.{gather, read_records}
use Rattle.record_reading.specs.Steps.{and_then}
use Rattle.record_reading.proofs.StepLemmas.{then-ok, ok-same}
use Rattle.case_text.specs.Matrices.{CaseMatrices}
use Rattle.case_text.specs.declared.Field.{Field}
use Rattle.case_text.specs.declared.Field.TheVariants as field
use Rattle.net_case.specs.declared.bus_rows.BusRow as read
use Rattle.net_case.specs.declared.live_parts.Branches.{Branches}
use Rattle.net_case.specs.declared.live_parts.Branches.TheVariants as branches
use Rattle.net_case.specs.declared.live_parts.NetBranch.{NetBranch}
use Rattle.net_case.specs.declared.live_parts.NetFault.{NetFault}
use Rattle.net_case.specs.declared.live_parts.NetFault.TheVariants as fault
use Rattle.net_case.specs.declared.live_parts.NetUnit.{NetUnit}
use Rattle.net_case.specs.Networks.{LiveNetwork}
use Rattle.net_case.specs.NetworkReading.{ReadBuses, Places, referenced, reference_of, bus_row, bus_rows, live_buses, places_from, unit_row, branch_row, few_rows, branch_count, branches_in, network_of}
use Rattle.network_meaning.specs.BusRows.{BusRow, SaysBus, AreApart, IsReference, IsPlaced}
use Rattle.network_meaning.specs.Units.{AreGiven, IsGenRow}
use Rattle.network_meaning.specs.BranchRows.{IsBranchRow}
use Rattle.network_meaning.specs.LiveNetworks.{AreBranches, IsLiveNetwork}
use Rattle.network_meaning.proofs.RowsRead.{given-read, read-given}
use Rattle.network_meaning.proofs.BusesRead.{all_read, rows-read, read-rows}
use Rattle.network_meaning.proofs.Places.{are-fine, live-read, placed-read, read-placed, buses-differ, reference-read, read-reference}
use Rattle.network_meaning.proofs.UnitsRead.{AreFound, are-found, gen_row-read, read-gen_row}
use Rattle.network_meaning.proofs.BranchesRead.{branch_row-read, read-branch_row}

-- ---- counts
few-read : (most : ℕ) (f : Field) (rows : List Record) (count : ℕ) → few_rows most f rows ≡ Ok count → (length rows ≤ most) × (count ≡ length rows)
unfolding few_rows
few-read most f rows count e = by (nat_lt most (length rows)) refl e
  where
    by : (test : Bool) → nat_lt most (length rows) ≡ test → (if test then Err (fault.TooMany f (length rows)) else Ok (length rows)) ≡ Ok count → (length rows ≤ most) × (count ≡ length rows)
    by true t e = absurd cc
    by false t e = (grind (arith, common_steps), sym (ok-same (length rows) count e))

read-few : (most : ℕ) (f : Field) (rows : List Record) → length rows ≤ most → few_rows most f rows ≡ Ok (length rows)
unfolding few_rows
read-few most f rows le = let few : nat_lt most (length rows) ≡ false = grind (arith, common_steps) in rw few refl

-- ---- bus rows
record BusesRead (matrix : List Record) (buses : ReadBuses) : Type 0 where
  says : List BusRow
  are : AllZip SaysBus matrix says
  apart : AreApart says
  reference : IsReference says buses.reference
  rows_are : buses.rows ≡ all_read says

referenced-read : (rows : List read.BusRow) (found : Option ℕ) (buses : ReadBuses) → referenced rows found ≡ Ok buses → (found ≡ Some buses.reference) × (buses.rows ≡ rows)
referenced-read rows None buses e = absurd cc
referenced-read rows (Some place) buses e =
    let same : buses ≡ record { rows = rows; reference = place } = sym (ok-same (record { rows = rows; reference = place }) buses e) in
    (ap (λ (b : ReadBuses). Some b.reference) (sym same), ap (λ (b : ReadBuses). b.rows) same)

buses-read : (matrix : List Record) (buses : ReadBuses) → bus_rows matrix ≡ Ok buses → BusesRead matrix buses
unfolding bus_rows
buses-read matrix buses e =
    let t = then-ok (read_records bus_row [] 1 matrix) (λ rows. referenced rows (reference_of rows)) buses e in
    let all = rows-read matrix [] 1 t.0 (λ i j d lt within. absurd (omega (arith, within))) t.1 in
    let fine = are-fine matrix all.says all.are in
    let r = referenced-read t.0 (reference_of t.0) buses t.2 in
    record {
      says = all.says;
      are = all.are;
      apart = all.apart;
      reference = reference-read all.says buses.reference fine (ap (λ rows. reference_of rows) (sym all.all_are) ∙ r.0);
      rows_are = r.1 ∙ all.all_are;
    }

read-buses : (matrix : List Record) (says : List BusRow) (reference : ℕ) → AllZip SaysBus matrix says → AreApart says → IsReference says reference →
    bus_rows matrix ≡ Ok (record { rows = all_read says; reference = reference })
unfolding bus_rows
read-buses matrix says reference are apart is =
    rw (read-rows matrix says [] 1 are apart, read-reference says reference (are-fine matrix says are) is) refl

-- ---- branch rows
branches-read : (read : Branches) (places : Places) → AreFound places → (matrix : List Record) (count : ℕ) (live : List NetBranch) → branch_count read matrix ≡ Ok count → branches_in read places matrix ≡ Ok live →
    AreBranches read places matrix count live
branches-read branches.Skip places f matrix count live e d = (sym (ok-same 0 count e), sym (ok-same [] live d))
branches-read (branches.Read rating) places f matrix count live e d =
    let few = few-read most_lines field.Branch matrix count e in
    (few.0, few.1, given-read (branch_row rating places) (IsBranchRow rating places) (branch_row-read rating places f) matrix live d)

read-branches : (read : Branches) (places : Places) → AreFound places → (matrix : List Record) (count : ℕ) (live : List NetBranch) → AreBranches read places matrix count live →
    (branch_count read matrix ≡ Ok count) × (branches_in read places matrix ≡ Ok live)
read-branches branches.Skip places f matrix count live h = (ap Ok (sym h.0), ap Ok (sym h.1))
read-branches (branches.Read rating) places f matrix count live h =
    (read-few most_lines field.Branch matrix h.0 ∙ ap Ok (sym h.1), read-given (branch_row rating places) (IsBranchRow rating places) (read-branch_row rating places f) matrix live h.2)

-- ---- the network
abbrev network_from : ℕ → ℕ → List read.BusRow → ℕ → List NetUnit → List NetBranch → LiveNetwork
network_from gen_rows branch_rows rows reference units live = record {
  buses = live_buses rows;
  units = units;
  branches = live;
  reference = reference;
  gen_rows = gen_rows;
  branch_rows = branch_rows;
  bus_rows = places_from 0 rows;
}

network-same : (network : LiveNetwork) (buses : List Bus) (gen_rows : ℕ) (places : Places) → buses ≡ network.buses → gen_rows ≡ network.gen_rows → places ≡ network.bus_rows →
    record { buses = buses; units = network.units; branches = network.branches; reference = network.reference; gen_rows = gen_rows; branch_rows = network.branch_rows; bus_rows = places } ≡ network
network-same network buses gen_rows places a b c = rw (a, b, c) refl

module _ (asked : Branches) (case : CaseMatrices) where
  abbrev finished : ℕ → ℕ → ReadBuses → List NetUnit → List NetBranch → Result LiveNetwork NetFault
  finished gen_rows branch_rows buses units live = Ok (network_from gen_rows branch_rows buses.rows buses.reference units live)

  abbrev behind_units : ℕ → ℕ → ReadBuses → List NetUnit → Result LiveNetwork NetFault
  behind_units gen_rows branch_rows buses units = and_then (branches_in asked (places_from 0 buses.rows) case.branch) (finished gen_rows branch_rows buses units)

  abbrev units_in : List read.BusRow → Result (List NetUnit) NetFault
  units_in rows = gather (λ _. unit_row (places_from 0 rows)) [] 1 case.generators

  abbrev behind_buses : ℕ → ℕ → ReadBuses → Result LiveNetwork NetFault
  behind_buses gen_rows branch_rows buses = and_then (units_in buses.rows) (behind_units gen_rows branch_rows buses)

  abbrev behind_counts : ℕ → ℕ → Result LiveNetwork NetFault
  behind_counts gen_rows branch_rows = and_then (bus_rows case.bus) (behind_buses gen_rows branch_rows)

  abbrev behind_gen_count : ℕ → Result LiveNetwork NetFault
  behind_gen_count gen_rows = and_then (branch_count asked case.branch) (behind_counts gen_rows)

  abbrev behind_bus_count : ℕ → Result LiveNetwork NetFault
  behind_bus_count _ = and_then (few_rows most_units field.Gen case.generators) behind_gen_count

  network-live : (says : List BusRow) (reference gen_rows branch_rows : ℕ) (units : List NetUnit) (live : List NetBranch) → length case.bus ≤ 1000 → AllZip SaysBus case.bus says → AreApart says → IsReference says reference →
      length case.generators ≤ 1000 → gen_rows ≡ length case.generators → units_in (all_read says) ≡ Ok units → branch_count asked case.branch ≡ Ok branch_rows → branches_in asked (places_from 0 (all_read says)) case.branch ≡ Ok live →
      IsLiveNetwork asked case (network_from gen_rows branch_rows (all_read says) reference units live)
  network-live says reference gen_rows branch_rows units live few are apart is few_units counted units_are count branches_are =
      let places = places_from 0 (all_read says) in
      let fine = are-fine case.bus says are in
      let f = are-found says fine apart in
      record {
        rows = says;
        bus_count = few;
        bus_rows = are;
        apart = apart;
        buses = live-read says;
        reference = is;
        places = subst (λ buses. AllZip (IsPlaced buses) says places) (sym (live-read says)) (placed-read says []);
        gen_count = few_units;
        gen_rows = counted;
        units = given-read (unit_row places) (IsGenRow places) (gen_row-read places f) case.generators units units_are;
        branches = branches-read asked places f case.branch branch_rows live count branches_are;
      }

  pub network-read : (network : LiveNetwork) → network_of asked case ≡ Ok network → IsLiveNetwork asked case network
  unfolding network_of
  network-read network e =
      let a = then-ok (few_rows most_buses field.Bus case.bus) behind_bus_count network e in
      let g = then-ok (few_rows most_units field.Gen case.generators) behind_gen_count network a.2 in
      let c = then-ok (branch_count asked case.branch) (behind_counts g.0) network g.2 in
      let b = then-ok (bus_rows case.bus) (behind_buses g.0 c.0) network c.2 in
      let u = then-ok (units_in (b.0).rows) (behind_units g.0 c.0 b.0) network b.2 in
      let l = then-ok (branches_in asked (places_from 0 (b.0).rows) case.branch) (finished g.0 c.0 b.0 u.0) network u.2 in
      let buses = buses-read case.bus b.0 b.1 in
      let few = few-read most_buses field.Bus case.bus a.0 a.1 in
      let few_units = few-read most_units field.Gen case.generators g.0 g.1 in
      subst (IsLiveNetwork asked case)
      (ap (λ rows. network_from g.0 c.0 rows (b.0).reference u.0 l.0) (sym buses.rows_are) ∙ ok-same (network_from g.0 c.0 (b.0).rows (b.0).reference u.0 l.0) network l.2)
      (network-live buses.says (b.0).reference g.0 c.0 u.0 l.0 few.0 buses.are buses.apart buses.reference few_units.0 few_units.1
      (subst (λ rows. units_in rows ≡ Ok u.0) buses.rows_are u.1) c.1
      (subst (λ rows. branches_in asked (places_from 0 rows) case.branch ≡ Ok l.0) buses.rows_are l.1))

  pub read-network : (network : LiveNetwork) → IsLiveNetwork asked case network → network_of asked case ≡ Ok network
  unfolding network_of
  read-network network h =
      let says = h.rows in
      let fine = are-fine case.bus says h.bus_rows in
      let places = places_from 0 (all_read says) in
      let placed : network.bus_rows ≡ places = read-placed says [] network.bus_rows (buses-differ says fine h.apart) (subst (λ buses. AllZip (IsPlaced buses) says network.bus_rows) h.buses h.places) in
      let f = are-found says fine h.apart in
      let units : units_in (all_read says) ≡ Ok network.units = read-given (unit_row places) (IsGenRow places) (read-gen_row places f) case.generators network.units
      (subst (λ ps. AreGiven (IsGenRow ps) case.generators network.units) placed h.units) in
      let live = read-branches asked places f case.branch network.branch_rows network.branches (subst (λ ps. AreBranches asked ps case.branch network.branch_rows network.branches) placed h.branches) in
      rw (read-few most_buses field.Bus case.bus h.bus_count, read-few most_units field.Gen case.generators h.gen_count, live.0, read-buses case.bus says network.reference h.bus_rows h.apart h.reference, units, live.1)
      (ap Ok (network-same network (live_buses (all_read says)) (length case.generators) places (live-read says ∙ sym h.buses) (sym h.gen_rows) (sym placed)))

  pub one-network : (network other : LiveNetwork) → IsLiveNetwork asked case network → IsLiveNetwork asked case other → network ≡ other
  one-network network other h k = ok-same network other (sym (read-network network h) ∙ read-network other k)
