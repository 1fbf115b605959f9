-- Tables of outage factors that are made.
use Rattle.std.proofs.Common.{◌≡◌, ◌≢◌, ◌∙◌, ◌∷◌, [], ℕ, ℤ, List, length, map, sym, ap, subst, arith, inl, inr, Some, None, false, Ok}
use Rattle.std.specs.Prelude.{All, AllPairs, Contains}
use Rattle.std.specs.List.{flat_map}
use Rattle.std.proofs.lemmas.List.Elements.{All-contains, Contains-append_cases, Contains-append_left, Contains-push}
use Rattle.market_data.specs.declared.scales.FactorPlaces.{FactorPlaces}
use Rattle.net_case.specs.Networks.{IsNetBranch, LiveNetwork}
use Rattle.net_case.specs.declared.live_parts.NetBranch.{NetBranch}
use Rattle.net_paths.specs.Detours.{IsBranchOf, others}
use Rattle.net_paths.specs.declared.loops_of_tree.Member.{Member}
use Rattle.outage_list.specs.Listing.{AreOutages, IsOutage}
use Rattle.dc_network.specs.DcNetworks.{IsOutageFactor}
use Rattle.dc_network.specs.Laws.{IsSound}
use Rattle.dc_network.specs.Rounding.{AreExplained, AreRounded, IsRounded, rounded_column}
use Rattle.dc_network.proofs.Connection.{Contains-from_map, Contains-map, kept_live}
use Rattle.dc_network.proofs.Reactances.{same_row}
use Rattle.dc_network.proofs.Roundings.{law_of_rounding}
use Rattle.factor_tables.specs.declared.by_pair.Column.TheVariants as column
use Rattle.factor_tables.specs.Factors.{Entry, FactorRecords, HasNoPairTwice, Pair, factor_at, has_pair}
use Rattle.factor_tables.specs.Tables.{loss_of, table_of}
use Rattle.factor_tables.proofs.FactorLemmas.{factor_at-means}
use Rattle.factor_residuals.specs.Kirchhoff.{bus_spot, loop_spot, reactance_at}
use Rattle.factor_residuals.specs.Residuals.{AreLost, AreOutageLoopSpots, IsOutageBusResidual, IsOutageLoopResidual, bus_spots, exceeds, loop_spots, more, none, outage_column, places_below}
use Rattle.factor_residuals.specs.declared.spots.Residual.{Residual}
use Rattle.factor_residuals.specs.declared.spots.Spot.{Spot}
use Rattle.factor_text.specs.Laws.{IsTableOver, NamesWhatIsLive, ObeysRules}
use Rattle.factor_text.specs.Texts.{factor_table_text}
use Rattle.factor_text.proofs.RecordsRead.{read-back}
use Rattle.factor_maker.specs.Made.{IsLossEntry, IsMadeLoss, loss_pairs}
use Rattle.factor_maker.proofs.Lists as lists
use Rattle.factor_maker.proofs.Lists.{all-by_members, flat_contains, zip_pairs}
use Rattle.factor_maker.proofs.Made.{loss_apart}
use Rattle.factor_laws.specs.Laws.{IsExplained, LossTablesAreExplained, LossTablesAreReadBack}
use Rattle.factor_laws.proofs.Lists.{find_none, flat_there, pair_there, zip_member, zip_partner}
use Rattle.factor_laws.proofs.Names.{exact_small, factor_small, names_branch}

module _ (network : LiveNetwork) (xs : List ℤ) (outages : List ℕ) (places : FactorPlaces) (loss : FactorRecords) (sound : IsSound network xs None) (listed : AreOutages network outages)
    (made : IsMadeLoss network xs outages places loss) where
  abbrev pairs : List (NetBranch × NetBranch)
  pairs = loss_pairs network made.lost

  -- a lost branch is live and a listed outage
  lost_live : (k : NetBranch) → Contains made.lost k → Contains network.branches k × IsOutage network k.row
  lost_live k c =
      let m = zip_member (IsBranchOf network) outages made.lost made.lost_are k c in
      (m.2.live, subst (IsOutage network) (sym m.2.row_is) (All-contains (IsOutage network) outages m.0 listed.each m.1))

  -- a live branch of a listed row is one of the lost ones
  is_lost : (k : NetBranch) (row : ℕ) → Contains network.branches k → k.row ≡ row → Contains outages row → Contains made.lost k
  is_lost k row live row_is c =
      let p = zip_partner (IsBranchOf network) outages made.lost made.lost_are row c in
      subst (λ (m : NetBranch). Contains made.lost m) (same_row network sound.network_is p.0 k p.2.live live (p.2.row_is ∙ sym row_is)) p.1

  without : (k : NetBranch) → Contains made.lost k → IsSound network xs (Some k.row)
  without k c = record { network_is = sound.network_is; reactances = sound.reactances; positive = sound.positive; joined = (sound.joined, (lost_live k c).1) }

  ends : (k : NetBranch) → Contains made.lost k → IsNetBranch (length network.buses) k
  ends k c = All-contains (IsNetBranch (length network.buses)) network.branches k sound.network_is.branches (lost_live k c).0

  -- a pair of the table is of a branch that is left and a lost one
  pair_of : (pair : NetBranch × NetBranch) → Contains pairs pair → Contains (others pair.1.row network.branches) pair.0 × Contains made.lost pair.1
  pair_of pair c =
      let r = flat_contains (λ k. map (λ l. (l, k)) (others k.row network.branches)) made.lost pair c in
      let q = Contains-from_map (λ l. (l, r.0)) (others r.0.row network.branches) pair r.2 in
      let second : r.0 ≡ pair.1 = ap (λ (w : NetBranch × NetBranch). w.1) q.2 in (
        subst (λ (k : NetBranch). Contains (others k.row network.branches) pair.0) second (subst (λ (l : NetBranch). Contains (others r.0.row network.branches) l) (ap (λ (w : NetBranch × NetBranch). w.0) q.2) q.1),
        subst (λ (k : NetBranch). Contains made.lost k) second r.1,
      )

  pair_there_of : (l k : NetBranch) → Contains made.lost k → Contains (others k.row network.branches) l → Contains pairs (l, k)
  pair_there_of l k c d = flat_there (λ m. map (λ b. (b, m)) (others m.row network.branches)) made.lost k (l, k) c (Contains-map (λ b. (b, k)) (others k.row network.branches) l d)

  -- ---- the table obeys the rules
  obeys : (e : Entry) → Contains loss.entries e → ObeysRules column.Outage network places e
  obeys e c =
      let m = zip_member (IsLossEntry network xs places) pairs loss.entries made.entries e c in
      let pair = m.0 in
      let entry = m.2 in
      let within = pair_of pair m.1 in
      let live = kept_live (Some pair.1.row) network.branches pair.0 within.0 in
      let names : NamesWhatIsLive column.Outage network e.0 = subst (λ (p : Pair). NamesWhatIsLive column.Outage network p) (sym entry.pair_is) (names_branch network sound.network_is pair.0 pair.1 live (lost_live pair.1 within.1).0) in
      let factor = entry.factor in
      let bounds = ends pair.1 within.1 in
      record {
        branch = names.branch;
        of = names.of;
        live = λ used. (names.live_branch, names.live_of);
        whole = (factor.units, factor.factor_is);
        size = factor_small places factor.exact factor.units e.1
            (exact_small network xs (Some pair.1.row) pair.1.from pair.1.to pair.0 factor.exact (without pair.1 within.1) bounds.from bounds.to within.0 factor.is_exact) factor.nearest factor.factor_is;
      }

  lost_apart : AllPairs (λ (k m : NetBranch). k.row ≢ m.row) made.lost
  lost_apart = zip_pairs (IsBranchOf network) (λ a b. a ≢ b) (λ (k m : NetBranch). k.row ≢ m.row) (λ a b k m p q apart e. apart (sym p.row_is ∙ e ∙ q.row_is)) outages made.lost made.lost_are listed.distinct

  once : HasNoPairTwice loss.entries
  once = zip_pairs (IsLossEntry network xs places) (λ p q. (p.0.row, p.1.row) ≢ (q.0.row, q.1.row)) (λ a b. a.0 ≢ b.0)
      (λ p q a b here there apart e. apart (sym here.pair_is ∙ e ∙ there.pair_is)) pairs loss.entries made.entries (loss_apart network sound.network_is made.lost lost_apart)

  over : IsTableOver column.Outage network loss
  over = record {
    records = subst (λ (p : FactorPlaces). All (ObeysRules column.Outage network p) loss.entries) (sym made.places_are) (all-by_members (ObeysRules column.Outage network places) loss.entries obeys);
    once = once;
  }

  back : IsTableOver column.Outage network loss × (loss_of network (factor_table_text column.Outage loss.entries) places ≡ Ok loss)
  back = (over, subst (λ (p : FactorPlaces). table_of column.Outage network (factor_table_text column.Outage loss.entries) p ≡ Ok loss) made.places_are (read-back column.Outage network loss sound.network_is over))

  -- ---- each column is that of exact factors, rounded
  -- the record of a branch and a lost one is of the two
  of_record : (l k : NetBranch) (factor : ℤ) → Contains network.branches l → Contains network.branches k → Contains loss.entries ((l.row, k.row), factor) → IsRounded places (IsOutageFactor network xs l k) factor
  of_record l k factor c d there =
      let m = zip_member (IsLossEntry network xs places) pairs loss.entries made.entries ((l.row, k.row), factor) there in
      let within = pair_of m.0 m.1 in
      let branch : m.0.0 ≡ l = same_row network sound.network_is m.0.0 l (kept_live (Some m.0.1.row) network.branches m.0.0 within.0) c (sym (ap (λ (p : Pair). p.0) m.2.pair_is)) in
      let lost : m.0.1 ≡ k = same_row network sound.network_is m.0.1 k (lost_live m.0.1 within.1).0 d (sym (ap (λ (p : Pair). p.1) m.2.pair_is)) in
      subst (λ (b : NetBranch). IsRounded places (IsOutageFactor network xs b k) factor) branch
      (subst (λ (b : NetBranch). IsRounded places (IsOutageFactor network xs m.0.0 b) factor) lost m.2.factor)

  rounded : (k : NetBranch) → Contains made.lost k → AreRounded network xs (Some k.row) places k.from k.to (λ row. factor_at loss.entries (row, k.row))
  rounded k d l c = elim (factor_at-means loss.entries (l.row, k.row)) [
    | inl there ↦ of_record l k (factor_at loss.entries (l.row, k.row)) (kept_live (Some k.row) network.branches l c) (lost_live k d).0 there
    | inr lacking ↦ absurd (missing lacking.0)
  ]
    where
      missing : has_pair loss.entries (l.row, k.row) ≡ false → ⊥
      missing lacking =
          let p = zip_partner (IsLossEntry network xs places) pairs loss.entries made.entries (l, k) (pair_there_of l k d c) in
          let there : Contains loss.entries ((l.row, k.row), p.0.1) = subst (λ (q : Pair). Contains loss.entries (q, p.0.1)) p.2.pair_is p.1 in
          let found = pair_there loss.entries (l.row, k.row) p.0.1 there in
          cc (found, lacking)

  explained : (k : NetBranch) → Contains made.lost k → AreExplained network xs (outage_column network loss k)
  explained k d =
      let bounds = ends k d in
      subst (λ (p : FactorPlaces). AreExplained network xs (rounded_column network (Some k.row) p k.row k.from k.to (λ row. factor_at loss.entries (row, k.row)))) (sym made.places_are)
      (law_of_rounding network xs (Some k.row) places k.row k.from k.to (λ row. factor_at loss.entries (row, k.row)) (without k d) bounds.from bounds.to (rounded k d))

  -- those that a check goes over are the lost ones
  checked : (lost : List NetBranch) → AreLost network outages lost → (k : NetBranch) → Contains lost k → Contains made.lost k
  checked lost are k c =
      let m = zip_member (λ row branch. Contains network.branches branch × (branch.row ≡ row)) outages lost are k c in
      is_lost k m.0 m.2.0 m.2.1 m.1

  at_buses : (r : Residual) → IsOutageBusResidual network loss outages r → IsExplained r
  at_buses r is = is.is.over ∙ find_none exceeds (flat_map (λ k. bus_spots network (outage_column network loss k)) is.lost) (λ s c.
      let a = flat_contains (λ k. bus_spots network (outage_column network loss k)) is.lost s c in
      let b = Contains-from_map (bus_spot network (outage_column network loss a.0)) (places_below (length network.buses)) s a.2 in
      subst (λ (t : Spot). exceeds t ≡ false) b.2 ((explained a.0 (checked is.lost is.are a.0 a.1)).at_buses b.0 (lists.places_below-within (length network.buses) b.0 b.1)))

  spots_explained : (lost : List NetBranch) (spots : List Spot) → AreOutageLoopSpots network xs loss lost spots → ((k : NetBranch) → Contains lost k → Contains made.lost k) → (s : Spot) → Contains spots s
      → exceeds s ≡ false
  spots_explained _ _ none within s c = absurd (omega (arith, c.1))
  spots_explained _ _ (more lost spots k loops before are) within s c = elim (Contains-append_cases spots (loop_spots network xs loops (outage_column network loss k)) s c) [
    | inl d ↦ spots_explained lost spots before (λ m e. within m (Contains-append_left lost (k ∷ []) m e)) s d
    | inr d ↦
        let b = Contains-from_map (loop_spot (reactance_at network xs) (outage_column network loss k)) loops s d in
        subst (λ (t : Spot). exceeds t ≡ false) b.2
        (All-contains (λ (members : List Member). exceeds (loop_spot (reactance_at network xs) (outage_column network loss k) members) ≡ false) loops b.0
        ((explained k (within k (Contains-push lost k))).round_loops loops are) b.1)
  ]

  round_loops : (r : Residual) → IsOutageLoopResidual network xs loss outages r → IsExplained r
  round_loops r is = is.is.over ∙ find_none exceeds is.spots (spots_explained is.lost is.spots is.spots_are (checked is.lost is.are))

pub loss_read_back : LossTablesAreReadBack
loss_read_back network xs outages places loss sound listed made = back network xs outages places loss sound listed made

pub loss_explained : LossTablesAreExplained
loss_explained network xs outages places loss sound listed made = (at_buses network xs outages places loss sound listed made, round_loops network xs outages places loss sound listed made)
