-- Columns that are told by a guess, columns of buses by exact fractions, and the records of both.
use Rattle.std.proofs.Common.{◌≡◌, ◌∙◌, ◌<◌, ◌≤◌, ◌*◌, ◌+◌, ◌++◌, ◌∷◌, [], ℕ, ℤ, pos, List, length, map, take, sym, ap, subst, Option, Some, None, get_or}
use mathlib.Core.Path.{ap₂}
use Rattle.std.specs.Prelude.{All, Contains, IfSome, Result, Err, IfErr, slice_index_or}
use Rattle.std.specs.List.{AllZip}
use Rattle.std.proofs.lemmas.List.{get_or-map, get_or_default, length-map, take_more}
use Rattle.std.proofs.lemmas.List.Elements.{All-contains, Contains-get_or}
use Rattle.fraction_theory.specs.Fraction.{Fraction, whole}
use Rattle.fraction_theory.specs.Order.{◌≤ℚ◌}
use Rattle.fraction_theory.specs.Signs.{abs_ℚ}
use Rattle.exact_fraction.specs.Nearest.{IsNearest}
use Rattle.market_data.specs.Scales.{place_count}
use Rattle.market_data.specs.declared.scales.FactorPlaces.{FactorPlaces}
use Rattle.net_case.specs.Networks.{LiveNetwork, IsNetBranch}
use Rattle.net_case.specs.declared.live_parts.NetBranch.{NetBranch}
use Rattle.net_paths.specs.Connection.{bus_number}
use Rattle.net_paths.specs.Detours.{IsBranchOf}
use Rattle.net_paths.specs.Loops.{kept}
use Rattle.factor_residuals.specs.Residuals.{places_below}
use Rattle.factor_tables.specs.declared.made.MadeFactor.{MadeFactor}
use Rattle.network_theory.specs.Carrying.{IsCarried}
use Rattle.dc_network.specs.DcNetworks.{ArePositive, dc_branch, dc_network}
use Rattle.dc_network.specs.Laws.{IsSound}
use Rattle.flow_guess.specs.Links.{Grid}
use Rattle.exact_flows.specs.Lines.{AreFlows}
use Rattle.exact_flows.specs.FlowSystems.{IsFlowStop}
use Rattle.exact_flows.specs.declared.stop.FlowStop.{FlowStop}
use Rattle.exact_flows.specs.declared.stop.FlowStop.TheVariants as flow
use Rattle.factor_maker.specs.Columns.{AreCarried, AreColumn, AreLossRecords, AreOutageRecords, AreTold, made_of, shift_made}
use Rattle.factor_maker.specs.ExactLists.{AreEntries}
use Rattle.factor_maker.specs.Made.{AreNearestUnits}
use Rattle.factor_maker.specs.Stops.{IsOutagePair, IsPairOfOne, IsShiftStop, OnPassed, made_stop, most_made}
use Rattle.factor_maker.specs.declared.stops.MakeStop.{MakeStop}
use Rattle.factor_maker.proofs.ColumnLemmas.{on_weaker}
use Rattle.factor_maker.proofs.Lists.{zip-length}
use Rattle.factor_maker.proofs.Networks.{entries_carried, guess_of, rounded_column, small_factors, told_column}
use Rattle.factor_maker.proofs.Records.{more_records, outage_records}

-- ---- told by guesses
pub told_outage : (network : LiveNetwork) (xs : List ℤ) (k : NetBranch) → IsSound network xs (Some k.row) → IsBranchOf network k.row k → (guess : Grid) (places : FactorPlaces) (units : List ℤ) (told : Option (List ℤ))
    → guess ≡ guess_of network xs (Some k.row) → told ≡ Some units → IfSome told (AreTold guess k.from k.to (place_count places)) → AreColumn (dc_network network xs (Some k.row)) network.reference k.from k.to places units
told_outage network xs k sound of guess places units told is some h =
    let ends = All-contains (IsNetBranch (length network.buses)) network.branches k sound.network_is.branches of.live in
    told_column network xs (Some k.row) sound guess k.from k.to places units is ends.from ends.to (subst (λ (t : Option (List ℤ)). IfSome t (AreTold guess k.from k.to (place_count places))) some h)

pub told_bus : (network : LiveNetwork) (xs : List ℤ) → IsSound network xs None → (guess : Grid) (bus r : ℕ) (places : FactorPlaces) (units : List ℤ) (told : Option (List ℤ)) → guess ≡ guess_of network xs None
    → bus < length network.buses → r ≡ network.reference → told ≡ Some units → IfSome told (AreTold guess bus r (place_count places)) → AreColumn (dc_network network xs None) network.reference bus network.reference places units
told_bus network xs sound guess bus r places units told is within place some h =
    told_column network xs None sound guess bus network.reference places units is within sound.network_is.reference
    (subst (λ (i : ℕ). AreTold guess bus i (place_count places) units) place (subst (λ (t : Option (List ℤ)). IfSome t (AreTold guess bus r (place_count places))) some h))

-- ---- from a bus to the reference by exact fractions
module _ {N : Type 0} (value : N → Fraction) (network : LiveNetwork) (xs : List ℤ) (sound : IsSound network xs None) (bus : ℕ) (within : bus < length network.buses) (flows part list factors : List N) (branches buses : ℕ)
    (are : AreFlows value (dc_network network xs None) network.reference flows) (is : part ≡ flows) (lines : branches ≡ length network.branches) (all : buses ≡ length network.buses)
    (entries : (length list ≡ branches) × AreEntries part buses bus list) (same : factors ≡ list) where
  bus_carried : AreCarried value (dc_network network xs None) network.reference bus network.reference factors
  bus_carried = subst (λ (fs : List N). AreCarried value (dc_network network xs None) network.reference bus network.reference fs) (sym same)
      (entries_carried value (dc_network network xs None) network.reference flows list bus are within (entries.0 ∙ lines ∙ sym (length-map network.branches (dc_branch network xs)))
      (subst (λ (fs : List N). AreEntries fs (length network.buses) bus list) is (subst (λ (m : ℕ). AreEntries part m bus list) all entries.1)))

  pub bus_small : All (λ factor. abs_ℚ (value factor) ≤ℚ whole (pos 1)) factors
  bus_small = small_factors network xs None sound value bus network.reference factors within sound.network_is.reference bus_carried

  pub bus_column : (places : FactorPlaces) (units : List ℤ) → AllZip (λ factor u. IsNearest (place_count places) (value factor) u) factors units → AreColumn (dc_network network xs None) network.reference bus network.reference places units
  bus_column places units near = rounded_column network xs None sound value bus network.reference places factors units bus_carried near

-- ---- the record of a branch and a bus
pub shift_made_is : (network : LiveNetwork) (columns : List (List ℤ)) (place bus of : ℕ) (none : NetBranch) (branches : List NetBranch) (column units : List ℤ) → branches ≡ network.branches → place < length network.branches
    → bus < length columns → column ≡ get_or columns bus column → units ≡ column → of ≡ bus_number network bus
    → record { branch = (slice_index_or branches place none).row; of = of; units = slice_index_or units place (pos 0) } ≡ shift_made network columns place bus
shift_made_is network columns place bus of none branches column units are within there read same number =
    ap₂ (λ (r : ℕ) (u : ℤ). record { branch = r; of = of; units = u })
    (ap (λ (bs : List NetBranch). (get_or bs place none).row) are ∙ sym (get_or-map (λ (l : NetBranch). l.row) network.branches place none 0 within))
    (ap (λ (us : List ℤ). get_or us place (pos 0)) (same ∙ read ∙ get_or_default columns bus column [] there))
    ∙ ap (λ (n : ℕ). record { branch = slice_index_or (map (λ (l : NetBranch). l.row) network.branches) place 0; of = n; units = slice_index_or (slice_index_or columns bus []) place (pos 0) }) number

-- ---- why there are no shift factors
pub shift_stopped : {N : Type 0} (value : N → Fraction) (bound : ℕ) (network : LiveNetwork) (xs : List ℤ) (rows columns : ℕ) → rows ≡ length network.branches → columns ≡ length network.buses → rows * columns ≤ most_made → ArePositive xs
    → (stop : FlowStop N) (made : MakeStop N) → made ≡ made_stop stop → IsFlowStop value bound (dc_network network xs None) network.reference stop → IsShiftStop value bound network xs made
shift_stopped {N} value bound network xs rows columns r c few positive stop made is h = subst (IsShiftStop value bound network xs) (sym is) (by stop h)
  where
    by : (s : FlowStop N) → IsFlowStop value bound (dc_network network xs None) network.reference s → IsShiftStop value bound network xs (made_stop s)
    by (flow.Passed e) p = (subst (λ (m : ℕ). m ≤ most_made) (ap₂ (λ (a b : ℕ). a * b) r c) few, positive, p)
    by flow.Memory p = tt

-- ---- outages one by one
pub column_count : (network : LiveNetwork) (xs : List ℤ) (k : NetBranch) (places : FactorPlaces) (units read : List ℤ) (branches list : List NetBranch) → AreColumn (dc_network network xs (Some k.row)) network.reference k.from k.to places units
    → read ≡ units → list ≡ branches → branches ≡ kept (Some k.row) network.branches → length read ≡ length list
column_count network xs k places units read branches list column same is are =
    ap length same
    ∙ zip-length (λ b u. AreNearestUnits places (IsCarried (dc_network network xs (Some k.row)) network.reference k.from k.to b) u) (dc_network network xs (Some k.row)).branches units column
    ∙ length-map (kept (Some k.row) network.branches) (dc_branch network xs) ∙ sym (ap length (is ∙ are))

module _ (network : LiveNetwork) (xs : List ℤ) (places : FactorPlaces) where
  -- the records of an outage behind others
  abbrev pub AddsOutage : ℕ → List MadeFactor → List MadeFactor → Type 0
  AddsOutage outage old new = (k : NetBranch) × IsBranchOf network outage k × (more : List MadeFactor) × (new ≡ old ++ more) × AreOutageRecords network xs places k more

  pub added_outage : (outage : ℕ) (k : NetBranch) (old new : List MadeFactor) (units read : List ℤ) (branches list : List NetBranch) → IsBranchOf network outage k → AreColumn (dc_network network xs (Some k.row)) network.reference k.from k.to places units
      → read ≡ units → list ≡ branches → branches ≡ kept (Some k.row) network.branches → new ≡ old ++ map (made_of list k.row read) (places_below (length list)) → AddsOutage outage old new
  added_outage outage k old new units read branches list of column same is are added = (
    k,
    of,
    map (made_of (kept (Some k.row) network.branches) k.row units) (places_below (length (kept (Some k.row) network.branches))),
    added ∙ ap₂ (λ (bs : List NetBranch) (us : List ℤ). old ++ map (made_of bs k.row us) (places_below (length bs))) (is ∙ are) same,
    outage_records network xs places k units column,
  )

  pub outage_more : (outages list : List ℕ) (i : ℕ) (old new : List MadeFactor) → list ≡ outages → i < length list → AreLossRecords network xs places (take i outages) old → AddsOutage (slice_index_or list i 0) old new
      → AreLossRecords network xs places (take (i + 1) outages) new
  outage_more outages list i old new is lt before adds =
      let within : i < length outages = subst (λ (os : List ℕ). i < length os) is lt in
      let of = subst (λ (os : List ℕ). IsBranchOf network (slice_index_or os i 0) adds.0) is adds.1 in
      subst (λ (os : List ℕ). AreLossRecords network xs places os new) (sym (take_more outages i 0 within))
      (subst (AreLossRecords network xs places (take i outages ++ get_or outages i 0 ∷ [])) (sym adds.3)
      (more_records network xs places (take i outages) old adds.2 (get_or outages i 0) adds.0 before of adds.4))

pub outage_refused : {N A : Type 0} (value : N → Fraction) (bound : ℕ) (network : LiveNetwork) (xs : List ℤ) (outages list : List ℕ) (i : ℕ) → list ≡ outages → i < length list → (result : Result A (MakeStop N)) (stop : MakeStop N)
    → result ≡ Err stop → OnPassed stop (λ e. (k : NetBranch) × IsBranchOf network (slice_index_or list i 0) k × IsOutagePair value bound network xs k e) → IfErr result (λ s. OnPassed s (IsPairOfOne value bound network xs outages))
outage_refused {N} {A} value bound network xs outages list i same lt result stop is h =
    let there : Contains outages (slice_index_or list i 0) = subst (λ (os : List ℕ). Contains os (slice_index_or list i 0)) same (Contains-get_or list i 0 lt) in
    subst (λ (r : Result A (MakeStop N)). IfErr r (λ s. OnPassed s (IsPairOfOne value bound network xs outages))) (sym is)
    (on_weaker (λ e. (k : NetBranch) × IsBranchOf network (slice_index_or list i 0) k × IsOutagePair value bound network xs k e) (IsPairOfOne value bound network xs outages)
    (λ e p. (slice_index_or list i 0, p.0, there, p.1, p.2)) stop h)
