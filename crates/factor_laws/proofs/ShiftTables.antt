-- Tables of shift factors that are made.
use Rattle.std.proofs.Common.{◌≡◌, ◌≢◌, ◌∙◌, ◌<◌, ℕ, ℤ, List, length, map, sym, ap, subst, inl, inr, None, false, Ok}
use Rattle.std.specs.Prelude.{All, Contains}
use Rattle.std.specs.List.{flat_map}
use Rattle.std.proofs.lemmas.List.Elements.{All-contains}
use Rattle.market_data.specs.declared.scales.FactorPlaces.{FactorPlaces}
use Rattle.net_case.specs.Networks.{LiveNetwork}
use Rattle.net_case.specs.declared.live_parts.NetBranch.{NetBranch}
use Rattle.net_paths.specs.Connection.{bus_number}
use Rattle.net_paths.specs.declared.loops_of_tree.Member.{Member}
use Rattle.dc_network.specs.DcNetworks.{IsShiftFactor}
use Rattle.dc_network.specs.Laws.{IsSound}
use Rattle.dc_network.specs.Rounding.{AreExplained, AreRounded, IsRounded, rounded_column}
use Rattle.dc_network.proofs.Connection.{Contains-from_map, Contains-map}
use Rattle.dc_network.proofs.Reactances.{same_row}
use Rattle.dc_network.proofs.Roundings.{law_of_rounding}
use Rattle.factor_tables.specs.declared.by_pair.Column.TheVariants as column
use Rattle.factor_tables.specs.Factors.{Entry, FactorRecords, HasNoPairTwice, Pair, factor_at, has_pair}
use Rattle.factor_tables.specs.Tables.{shift_of, table_of}
use Rattle.factor_tables.proofs.FactorLemmas.{factor_at-means}
use Rattle.factor_residuals.specs.Kirchhoff.{Column, bus_spot, loop_spot, reactance_at}
use Rattle.factor_residuals.specs.Residuals.{IsBusResidual, IsLoopResidual, bus_spots, exceeds, loop_spots, places_below, shift_column, shift_columns}
use Rattle.factor_residuals.specs.declared.spots.Residual.{Residual}
use Rattle.factor_residuals.specs.declared.spots.Spot.{Spot}
use Rattle.factor_text.specs.Laws.{IsTableOver, NamesWhatIsLive, ObeysRules}
use Rattle.factor_text.specs.Texts.{factor_table_text}
use Rattle.factor_text.proofs.RecordsRead.{read-back}
use Rattle.factor_maker.specs.Made.{IsMadeShift, IsShiftEntry, shift_pairs}
use Rattle.factor_maker.proofs.Lists as lists
use Rattle.factor_maker.proofs.Lists.{all-by_members, flat_contains, zip_pairs}
use Rattle.factor_maker.proofs.Made.{shift_apart}
use Rattle.factor_laws.specs.Laws.{IsExplained, ShiftTablesAreExplained, ShiftTablesAreReadBack}
use Rattle.factor_laws.proofs.Lists.{find_none, flat_there, pair_there, zip_member, zip_partner}
use Rattle.factor_laws.proofs.Names.{exact_small, factor_small, names_bus, same_bus}

module _ (network : LiveNetwork) (xs : List ℤ) (places : FactorPlaces) (shift : FactorRecords) (sound : IsSound network xs None) (made : IsMadeShift network xs places shift) where
  abbrev buses : ℕ
  buses = length network.buses

  abbrev pairs : List (NetBranch × ℕ)
  pairs = shift_pairs network

  -- a pair of the table is of a live branch and the place of a live bus
  pair_of : (pair : NetBranch × ℕ) → Contains pairs pair → Contains network.branches pair.0 × (pair.1 < buses)
  pair_of pair c =
      let r = flat_contains (λ l. map (λ i. (l, i)) (places_below buses)) network.branches pair c in
      let q = Contains-from_map (λ i. (r.0, i)) (places_below buses) pair r.2 in (
        subst (λ (l : NetBranch). Contains network.branches l) (ap (λ (w : NetBranch × ℕ). w.0) q.2) r.1,
        subst (λ (i : ℕ). i < buses) (ap (λ (w : NetBranch × ℕ). w.1) q.2) (lists.places_below-within buses q.0 q.1),
      )

  pair_there_of : (l : NetBranch) (i : ℕ) → Contains network.branches l → Contains (places_below buses) i → Contains pairs (l, i)
  pair_there_of l i c d = flat_there (λ m. map (λ j. (m, j)) (places_below buses)) network.branches l (l, i) c (Contains-map (λ j. (l, j)) (places_below buses) i d)

  -- ---- the table obeys the rules
  obeys : (e : Entry) → Contains shift.entries e → ObeysRules column.Bus network places e
  obeys e c =
      let m = zip_member (IsShiftEntry network xs places) pairs shift.entries made.entries e c in
      let pair = m.0 in
      let entry = m.2 in
      let within = pair_of pair m.1 in
      let names : NamesWhatIsLive column.Bus network e.0 = subst (λ (p : Pair). NamesWhatIsLive column.Bus network p) (sym entry.pair_is) (names_bus network sound.network_is pair.0 pair.1 within.0 within.1) in
      let factor = entry.factor in
      record {
        branch = names.branch;
        of = names.of;
        live = λ used. (names.live_branch, names.live_of);
        whole = (factor.units, factor.factor_is);
        size = factor_small places factor.exact factor.units e.1
            (exact_small network xs None pair.1 network.reference pair.0 factor.exact sound within.1 sound.network_is.reference within.0 factor.is_exact) factor.nearest factor.factor_is;
      }

  once : HasNoPairTwice shift.entries
  once = zip_pairs (IsShiftEntry network xs places) (λ p q. (p.0.row, bus_number network p.1) ≢ (q.0.row, bus_number network q.1)) (λ a b. a.0 ≢ b.0)
      (λ p q a b here there apart e. apart (sym here.pair_is ∙ e ∙ there.pair_is)) pairs shift.entries made.entries (shift_apart network sound.network_is)

  over : IsTableOver column.Bus network shift
  over = record {
    records = subst (λ (p : FactorPlaces). All (ObeysRules column.Bus network p) shift.entries) (sym made.places_are) (all-by_members (ObeysRules column.Bus network places) shift.entries obeys);
    once = once;
  }

  -- ---- each column is that of exact factors, rounded
  -- the record of a branch and a bus is of the two
  of_record : (l : NetBranch) (i : ℕ) (factor : ℤ) → Contains network.branches l → i < buses → Contains shift.entries ((l.row, bus_number network i), factor)
      → IsRounded places (IsShiftFactor network xs l i) factor
  of_record l i factor c lt there =
      let m = zip_member (IsShiftEntry network xs places) pairs shift.entries made.entries ((l.row, bus_number network i), factor) there in
      let within = pair_of m.0 m.1 in
      let branch : m.0.0 ≡ l = same_row network sound.network_is m.0.0 l within.0 c (sym (ap (λ (p : Pair). p.0) m.2.pair_is)) in
      let bus : m.0.1 ≡ i = same_bus network sound.network_is m.0.1 i within.1 lt (sym (ap (λ (p : Pair). p.1) m.2.pair_is)) in
      subst (λ (k : NetBranch). IsRounded places (IsShiftFactor network xs k i) factor) branch
      (subst (λ (j : ℕ). IsRounded places (IsShiftFactor network xs m.0.0 j) factor) bus m.2.factor)

  rounded : (i : ℕ) → Contains (places_below buses) i → AreRounded network xs None places i network.reference (λ row. factor_at shift.entries (row, bus_number network i))
  rounded i d l c = elim (factor_at-means shift.entries (l.row, bus_number network i)) [
    | inl there ↦ of_record l i (factor_at shift.entries (l.row, bus_number network i)) c (lists.places_below-within buses i d) there
    | inr lacking ↦ absurd (missing lacking.0)
  ]
    where
      missing : has_pair shift.entries (l.row, bus_number network i) ≡ false → ⊥
      missing lacking =
          let p = zip_partner (IsShiftEntry network xs places) pairs shift.entries made.entries (l, i) (pair_there_of l i c d) in
          let there : Contains shift.entries ((l.row, bus_number network i), p.0.1) = subst (λ (q : Pair). Contains shift.entries (q, p.0.1)) p.2.pair_is p.1 in
          let found = pair_there shift.entries (l.row, bus_number network i) p.0.1 there in
          cc (found, lacking)

  explained : (i : ℕ) → Contains (places_below buses) i → AreExplained network xs (shift_column network shift i)
  explained i d = subst (λ (p : FactorPlaces). AreExplained network xs (rounded_column network None p (bus_number network i) i network.reference (λ row. factor_at shift.entries (row, bus_number network i)))) (sym made.places_are)
      (law_of_rounding network xs None places (bus_number network i) i network.reference (λ row. factor_at shift.entries (row, bus_number network i)) sound (lists.places_below-within buses i d) sound.network_is.reference (rounded i d))

  at_buses : (r : Residual) → IsBusResidual network shift r → IsExplained r
  at_buses r is = is.over ∙ find_none exceeds (flat_map (bus_spots network) (shift_columns network shift)) (λ s c.
      let a = flat_contains (bus_spots network) (shift_columns network shift) s c in
      let i = Contains-from_map (shift_column network shift) (places_below buses) a.0 a.1 in
      let b = Contains-from_map (bus_spot network a.0) (places_below buses) s a.2 in
      subst (λ (t : Spot). exceeds t ≡ false) b.2
      (subst (λ (col : Column). exceeds (bus_spot network col b.0) ≡ false) i.2 ((explained i.0 i.1).at_buses b.0 (lists.places_below-within buses b.0 b.1))))

  round_loops : (r : Residual) → IsLoopResidual network xs shift r → IsExplained r
  round_loops r is = is.is.over ∙ find_none exceeds (flat_map (loop_spots network xs is.loops) (shift_columns network shift)) (λ s c.
      let a = flat_contains (loop_spots network xs is.loops) (shift_columns network shift) s c in
      let i = Contains-from_map (shift_column network shift) (places_below buses) a.0 a.1 in
      let b = Contains-from_map (loop_spot (reactance_at network xs) a.0) is.loops s a.2 in
      subst (λ (t : Spot). exceeds t ≡ false) b.2
      (subst (λ (col : Column). exceeds (loop_spot (reactance_at network xs) col b.0) ≡ false) i.2
      (All-contains (λ (members : List Member). exceeds (loop_spot (reactance_at network xs) (shift_column network shift i.0) members) ≡ false) is.loops b.0 ((explained i.0 i.1).round_loops is.loops is.are) b.1)))

  back : IsTableOver column.Bus network shift × (shift_of network (factor_table_text column.Bus shift.entries) places ≡ Ok shift)
  back = (
    over,
    subst (λ (p : FactorPlaces). table_of column.Bus network (factor_table_text column.Bus shift.entries) p ≡ Ok shift) made.places_are
        (read-back column.Bus network shift sound.network_is over),
  )

pub shift_read_back : ShiftTablesAreReadBack
shift_read_back network xs places shift sound made = back network xs places shift sound made

pub shift_explained : ShiftTablesAreExplained
shift_explained network xs places shift sound made = (at_buses network xs places shift sound made, round_loops network xs places shift sound made)
