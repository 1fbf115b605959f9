-- The records of tables that are made, from their columns.
use Rattle.std.proofs.Common.{◌≡◌, ◌≢◌, ◌∙◌, ◌<◌, ◌++◌, ◌∷◌, ℕ, ℤ, pos, List, [], length, map, sym, ap, subst, refl, arith, Some, None}
use Rattle.std.specs.Prelude.{AllPairs, Contains, slice_get, slice_index_or}
use Rattle.std.specs.List.{AllZip, flat_map}
use Rattle.std.proofs.lemmas.List.{length-map}
use Rattle.std.proofs.lemmas.Grind.{flat_map-append}
use Rattle.market_data.specs.declared.scales.FactorPlaces.{FactorPlaces}
use Rattle.net_case.specs.Networks.{LiveNetwork, IsNetwork}
use Rattle.net_case.specs.declared.live_parts.NetBranch.{NetBranch}
use Rattle.net_paths.specs.Connection.{JoinAll, bus_number}
use Rattle.net_paths.specs.Detours.{IsBranchOf, others}
use Rattle.outage_list.specs.Listing.{AreOutages, IsOutage}
use Rattle.factor_tables.specs.Factors.{FactorRecords}
use Rattle.factor_tables.specs.Made.{AreApart, AreInBounds, made_entry, made_table}
use Rattle.factor_tables.specs.declared.made.MadeFactor.{MadeFactor}
use Rattle.factor_residuals.specs.Residuals.{AreReactances, places_below}
use Rattle.network_theory.specs.Networks.{Network}
use Rattle.network_theory.specs.Carrying.{IsCarried}
use Rattle.dc_network.specs.DcNetworks.{ArePositive, IsOutageFactor, IsShiftFactor, dc_branch, dc_network}
use Rattle.dc_network.specs.Laws.{IsSound}
use Rattle.dc_network.proofs.Connection.{Contains-from_map, Contains-map}
use Rattle.factor_maker.specs.Columns.{AreColumns, AreColumn, AreLossRecords, AreOutageRecords, IsLossMade, IsMade, IsShiftMade, made_of, shift_made}
use Rattle.factor_maker.specs.Made.{AreNearestUnits, IsLossEntry, IsMadeLoss, IsMadeShift, IsShiftEntry, loss_pairs, shift_pairs}
use Rattle.factor_maker.proofs.Lists as lists
use Rattle.factor_maker.proofs.Lists.{at_place, get_map, get_places, length-places, place_of, zip-all, zip-append, zip-at, zip-by_places, zip-flat, zip-last, zip-length, zip-map, zip-of_map, zip-same, zip_pairs}
use Rattle.factor_maker.proofs.Made.{are_apart, are_small, loss_apart, shift_apart}
use Rattle.factor_maker.proofs.Networks.{small_factor}

-- the branches stand with their places
places_stand : (branches : List NetBranch) → AllZip (λ l b. slice_get branches b ≡ Some l) branches (places_below (length branches))
places_stand branches = zip-by_places (λ l b. slice_get branches b ≡ Some l) branches (places_below (length branches)) (length-places (length branches))
    (λ k l b p q. subst (λ (c : ℕ). slice_get branches c ≡ Some l) (sym (get_places (length branches) k b q).1) p)

-- ---- of a column
module _ (network : LiveNetwork) (xs : List ℤ) (places : FactorPlaces) where
  made_at : (branches : List NetBranch) (n : Network) (reference source sink of : ℕ) (units : List ℤ) (l : NetBranch) (b : ℕ)
      → n ≡ record { buses = length network.buses; branches = map (dc_branch network xs) branches } → AreColumn n reference source sink places units → slice_get branches b ≡ Some l
      → IsMade places (l.row, of) (IsCarried n reference source sink (dc_branch network xs l)) (made_of branches of units b)
  made_at branches n reference source sink of units l b is column at =
      let here = at_place (map (λ (m : NetBranch). m.row) branches) b l.row 0 (get_map (λ (m : NetBranch). m.row) branches b l at) in
      let lines = subst (λ (m : Network). AreColumn m reference source sink places units) is column in
      let count = zip-length (λ br k. AreNearestUnits places (IsCarried n reference source sink br) k) n.branches units column in
      let long = ap (λ (m : Network). length m.branches) is ∙ length-map branches (dc_branch network xs) in
      let within = (at_place branches b l l at).0 in
      let unit = place_of units b (omega (arith, count, long, within)) in
      let read = (at_place units b unit.0 (pos 0) unit.1).1 in
      record {
        pair_is = ap (λ (r : ℕ). (r, of)) here.1;
        units = subst (λ (k : ℤ). AreNearestUnits places (IsCarried n reference source sink (dc_branch network xs l)) k) (sym read)
            (zip-at (λ br k. AreNearestUnits places (IsCarried n reference source sink br) k) n.branches units column b (dc_branch network xs l) unit.0
            (ap (λ (m : Network). slice_get m.branches b) is ∙ get_map (dc_branch network xs) branches b l at) unit.1);
      }

  -- ---- shift factors
  pub columns_count : (columns : List (List ℤ)) → AreColumns (dc_network network xs None) network.reference places columns → (i : ℕ) → i < length columns
      → length (slice_index_or columns i []) ≡ length network.branches
  columns_count columns are i within =
      zip-length (λ b k. AreNearestUnits places (IsCarried (dc_network network xs None) network.reference i network.reference b) k) (dc_network network xs None).branches (slice_index_or columns i []) (are.each i within)
      ∙ length-map network.branches (dc_branch network xs)

  shift_records : (columns : List (List ℤ)) → length columns ≡ length network.buses → AreColumns (dc_network network xs None) network.reference places columns
      → AllZip (IsShiftMade network xs places) (shift_pairs network) (flat_map (λ b. map (shift_made network columns b) (places_below (length network.buses))) (places_below (length network.branches)))
  shift_records columns count are = zip-flat (λ l b. slice_get network.branches b ≡ Some l) (IsShiftMade network xs places)
      (λ l. map (λ i. (l, i)) (places_below (length network.buses))) (λ b. map (shift_made network columns b) (places_below (length network.buses)))
      (λ l b at. zip-same (IsShiftMade network xs places) (λ i. (l, i)) (shift_made network columns b) (places_below (length network.buses))
      (λ i c. let within = lists.places_below-within (length network.buses) i c in
      made_at network.branches (dc_network network xs None) network.reference i network.reference (bus_number network i) (slice_index_or columns i []) l b refl (are.each i (omega (arith, within, count))) at))
      network.branches (places_below (length network.branches)) (places_stand network.branches)

  -- ---- outage factors
  pub outage_records : (k : NetBranch) (units : List ℤ) → AreColumn (dc_network network xs (Some k.row)) network.reference k.from k.to places units
      → AreOutageRecords network xs places k (map (made_of (others k.row network.branches) k.row units) (places_below (length (others k.row network.branches))))
  outage_records k units column =
      let left = others k.row network.branches in
      zip-of_map (λ l m. IsLossMade network xs places (l, k) m) (IsLossMade network xs places) (λ l. (l, k)) left (map (made_of left k.row units) (places_below (length left))) (λ l m c is. is)
      (zip-map (λ l b. slice_get left b ≡ Some l) (λ l m. IsLossMade network xs places (l, k) m) (made_of left k.row units)
      (λ l b at. made_at left (dc_network network xs (Some k.row)) network.reference k.from k.to k.row units l b refl column at)
      left (places_below (length left)) (places_stand left))

  pub no_records : AreLossRecords network xs places [] []
  no_records = record { lost = []; lost_are = tt; made = tt }

  pub more_records : (outages : List ℕ) (records more : List MadeFactor) (outage : ℕ) (k : NetBranch) → AreLossRecords network xs places outages records → IsBranchOf network outage k
      → AreOutageRecords network xs places k more → AreLossRecords network xs places (outages ++ outage ∷ []) (records ++ more)
  more_records outages records more outage k are of made = record {
    lost = are.lost ++ k ∷ [];
    lost_are = zip-last (IsBranchOf network) outages are.lost outage k are.lost_are of;
    made = subst (λ (pairs : List (NetBranch × NetBranch)). AllZip (IsLossMade network xs places) pairs (records ++ more))
        (sym (flat_map-append (λ m. map (λ l. (l, m)) (others m.row network.branches)) are.lost (k ∷ []) ∙ ap (λ (last : List (NetBranch × NetBranch)). loss_pairs network are.lost ++ last) (Rattle.std.proofs.lemmas.List.append-nil (map (λ l. (l, k)) (others k.row network.branches)))))
        (zip-append (IsLossMade network xs places) (loss_pairs network are.lost) records (map (λ l. (l, k)) (others k.row network.branches)) more are.made made);
  }

-- ---- the tables
module _ (network : LiveNetwork) (xs : List ℤ) (places : FactorPlaces) (is : IsNetwork network) (reactances : AreReactances network xs) (positive : ArePositive xs)
    (joined : JoinAll network.branches (length network.buses)) where
  module _ (columns : List (List ℤ)) (records : List MadeFactor) (count : length columns ≡ length network.buses) (are : AreColumns (dc_network network xs None) network.reference places columns)
      (records_are : records ≡ flat_map (λ b. map (shift_made network columns b) (places_below (length network.buses))) (places_below (length network.branches))) where
    made_all : AllZip (IsShiftMade network xs places) (shift_pairs network) records
    made_all = subst (λ (rs : List MadeFactor). AllZip (IsShiftMade network xs places) (shift_pairs network) rs) (sym records_are) (shift_records network xs places columns count are)

    pub shift_records_apart : AreApart records
    shift_records_apart = are_apart (λ pair. (pair.0.row, bus_number network pair.1)) (λ pair. IsShiftFactor network xs pair.0 pair.1) places (shift_pairs network) records made_all (shift_apart network is)

    pub shift_records_small : AreInBounds places records
    shift_records_small = are_small (λ pair. (pair.0.row, bus_number network pair.1)) (λ pair. IsShiftFactor network xs pair.0 pair.1) places (shift_pairs network) records made_all
        (λ pair f c factor.
        let sound : IsSound network xs None = record { network_is = is; reactances = reactances; positive = positive; joined = joined } in
        let r = lists.flat_contains (λ l. map (λ i. (l, i)) (places_below (length network.buses))) network.branches pair c in
        let q = Contains-from_map (λ i. (r.0, i)) (places_below (length network.buses)) pair r.2 in
        let within = subst (λ (i : ℕ). i < length network.buses) (ap (λ (w : NetBranch × ℕ). w.1) q.2) (lists.places_below-within (length network.buses) q.0 q.1) in
        let there = subst (λ (l : NetBranch). Contains network.branches l) (ap (λ (w : NetBranch × ℕ). w.0) q.2) r.1 in
        small_factor network xs None sound pair.1 network.reference (dc_branch network xs pair.0) f within is.reference (Contains-map (dc_branch network xs) network.branches pair.0 there) factor)

    pub shift_table : (table : FactorRecords) → table ≡ made_table places records → IsMadeShift network xs places table
    shift_table table e = record {
      places_are = ap (λ (t : FactorRecords). t.places) e;
      entries = subst (λ (t : FactorRecords). AllZip (IsShiftEntry network xs places) (shift_pairs network) t.entries) (sym e)
          (zip-map (IsShiftMade network xs places) (IsShiftEntry network xs places) (made_entry places)
          (λ pair m made. record { pair_is = made.pair_is; factor = record { exact = made.units.exact; is_exact = made.units.is_exact; units = m.units; nearest = made.units.nearest; factor_is = refl } }) (shift_pairs network) records made_all);
    }

  module _ (outages : List ℕ) (listed : AreOutages network outages) (records : List MadeFactor) (are : AreLossRecords network xs places outages records) where
    lost_apart : AllPairs (λ (k m : NetBranch). k.row ≢ m.row) are.lost
    lost_apart = zip_pairs (IsBranchOf network) (λ a b. a ≢ b) (λ (k m : NetBranch). k.row ≢ m.row) (λ a b k m p q apart e. apart (sym p.row_is ∙ e ∙ q.row_is)) outages are.lost are.lost_are listed.distinct

    pub loss_records_apart : AreApart records
    loss_records_apart = are_apart (λ pair. (pair.0.row, pair.1.row)) (λ pair. IsOutageFactor network xs pair.0 pair.1) places (loss_pairs network are.lost) records are.made (loss_apart network is are.lost lost_apart)

    -- a lost branch is a listed outage
    lost_listed : (k : NetBranch) → Contains are.lost k → IsOutage network k.row × Contains network.branches k
    lost_listed = zip-all (IsBranchOf network) (λ k. IsOutage network k.row × Contains network.branches k) outages are.lost
        (λ row k c of. (subst (IsOutage network) (sym of.row_is) (Rattle.std.proofs.lemmas.List.Elements.All-contains (IsOutage network) outages row listed.each c), of.live)) are.lost_are

    pub loss_records_small : AreInBounds places records
    loss_records_small = are_small (λ pair. (pair.0.row, pair.1.row)) (λ pair. IsOutageFactor network xs pair.0 pair.1) places (loss_pairs network are.lost) records are.made
        (λ pair f c factor.
        let r = lists.flat_contains (λ k. map (λ l. (l, k)) (others k.row network.branches)) are.lost pair c in
        let q = Contains-from_map (λ l. (l, r.0)) (others r.0.row network.branches) pair r.2 in
        let first : q.0 ≡ pair.0 = ap (λ (w : NetBranch × NetBranch). w.0) q.2 in
        let second : r.0 ≡ pair.1 = ap (λ (w : NetBranch × NetBranch). w.1) q.2 in
        let k = pair.1 in
        let outage = lost_listed k (subst (λ (m : NetBranch). Contains are.lost m) second r.1) in
        let sound : IsSound network xs (Some k.row) = record { network_is = is; reactances = reactances; positive = positive; joined = (joined, outage.0) } in
        let there = subst (λ (m : NetBranch). Contains (others m.row network.branches) pair.0) second (subst (λ (l : NetBranch). Contains (others r.0.row network.branches) l) first q.1) in
        let ends = Rattle.std.proofs.lemmas.List.Elements.All-contains (Rattle.net_case.specs.Networks.IsNetBranch (length network.buses)) network.branches k is.branches outage.1 in
        small_factor network xs (Some k.row) sound k.from k.to (dc_branch network xs pair.0) f ends.from ends.to (Contains-map (dc_branch network xs) (others k.row network.branches) pair.0 there) factor)

    pub loss_table : (table : FactorRecords) → table ≡ made_table places records → IsMadeLoss network xs outages places table
    loss_table table e = record {
      places_are = ap (λ (t : FactorRecords). t.places) e;
      lost = are.lost;
      lost_are = are.lost_are;
      entries = subst (λ (t : FactorRecords). AllZip (IsLossEntry network xs places) (loss_pairs network are.lost) t.entries) (sym e)
          (zip-map (IsLossMade network xs places) (IsLossEntry network xs places) (made_entry places)
          (λ pair m made. record { pair_is = made.pair_is; factor = record { exact = made.units.exact; is_exact = made.units.is_exact; units = m.units; nearest = made.units.nearest; factor_is = refl } }) (loss_pairs network are.lost) records are.made);
    }
