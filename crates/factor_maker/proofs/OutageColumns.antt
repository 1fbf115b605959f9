-- The column of a lost branch by exact fractions: what goes from each of its ends to the reference, and the differences.
use Rattle.std.proofs.Common.{◌≡◌, ◌∙◌, ◌<◌, ◌≤◌, ℕ, ℤ, List, length, sym, subst, arith, Some, inl, inr}
use Rattle.std.specs.Prelude.{All, pos, Result, Err, IfErr}
use Rattle.std.specs.List.{AllZip}
use Rattle.std.proofs.lemmas.List.{length-map}
use Rattle.std.proofs.lemmas.List.Elements.{All-contains}
use Rattle.fraction_theory.specs.Fraction.{Fraction, whole}
use Rattle.fraction_theory.specs.Order.{◌≤ℚ◌}
use Rattle.fraction_theory.specs.Signs.{abs_ℚ}
use Rattle.exact_fraction.specs.Nearest.{IsNearest}
use Rattle.market_data.specs.Scales.{most_buses, most_lines, place_count}
use Rattle.market_data.specs.declared.scales.FactorPlaces.{FactorPlaces}
use Rattle.net_case.specs.Networks.{LiveNetwork, IsNetBranch}
use Rattle.net_case.specs.declared.live_parts.NetBranch.{NetBranch}
use Rattle.net_paths.specs.Detours.{IsBranchOf}
use Rattle.net_paths.specs.Loops.{kept}
use Rattle.network_theory.specs.Networks.{Network}
use Rattle.dc_network.specs.DcNetworks.{dc_branch, dc_network}
use Rattle.dc_network.specs.Laws.{IsSound}
use Rattle.exact_flows.specs.Lines.{AreFlows}
use Rattle.exact_flows.specs.FlowSystems.{IsFlowStop}
use Rattle.exact_flows.specs.declared.stop.FlowStop.{FlowStop}
use Rattle.factor_maker.specs.Columns.{AreCarried, AreColumn}
use Rattle.factor_maker.specs.ExactLists.{AreDifferences, AreEntries, IsRefusedDifference}
use Rattle.factor_maker.specs.Stops.{IsOutagePair, OnPassed, made_stop}
use Rattle.factor_maker.specs.declared.stops.MakeStop.{MakeStop}
use Rattle.factor_maker.proofs.ColumnLemmas.{differences_carried, on_flow, on_weaker, refused_difference}
use Rattle.factor_maker.proofs.Networks.{entries_carried, few_kept, rounded_column, small_factors}

-- what branches carry from each of two buses to the reference
pub record AreSides {N : Type 0} (value : N → Fraction) (n : Network) (reference source sink : ℕ) (left right : List N) : Type 0 where
  pub from_source : AreCarried value n reference source reference left
  pub from_sink : AreCarried value n reference sink reference right

-- few enough numbers
pub few_flows : (network : LiveNetwork) (xs : List ℤ) (k : NetBranch) → IsSound network xs (Some k.row) → (others buses : ℕ) → others ≡ length (kept (Some k.row) network.branches) → buses ≡ length network.buses
    → (others ≤ most_lines) × (buses ≤ most_buses)
few_flows network xs k sound others buses count all =
    let few = few_kept network xs (Some k.row) sound in
    let b = sound.network_is.bus_count in
    (omega (arith, few, count), omega (arith, b, all))

module _ {N : Type 0} (value : N → Fraction) (bound : ℕ) (network : LiveNetwork) (xs : List ℤ) (k : NetBranch) where
  -- the exact flows may be refused
  pub flow_stopped : (stop : FlowStop N) (made : MakeStop N) → made ≡ made_stop stop → IsFlowStop value bound (dc_network network xs (Some k.row)) network.reference stop
      → OnPassed made (IsOutagePair value bound network xs k)
  flow_stopped stop made is h = subst (λ (s : MakeStop N). OnPassed s (IsOutagePair value bound network xs k)) (sym is)
      (on_flow value bound (dc_network network xs (Some k.row)) network.reference (IsOutagePair value bound network xs k) (λ e passed. inl passed) stop h)

module _ {N : Type 0} (value : N → Fraction) (network : LiveNetwork) (xs : List ℤ) (k : NetBranch) (sound : IsSound network xs (Some k.row)) (of : IsBranchOf network k.row k) where
  abbrev dc : Network
  dc = dc_network network xs (Some k.row)

  ends : IsNetBranch (length network.buses) k
  ends = All-contains (IsNetBranch (length network.buses)) network.branches k sound.network_is.branches of.live

  pub sides : (others buses : ℕ) (flows first second left right source sink : List N) → others ≡ length (kept (Some k.row) network.branches) → buses ≡ length network.buses → AreFlows value dc network.reference flows
      → first ≡ flows → second ≡ flows → (length source ≡ others) × AreEntries first buses k.from source → (length sink ≡ others) × AreEntries second buses k.to sink → left ≡ source → right ≡ sink
      → AreSides value dc network.reference k.from k.to left right
  sides others buses flows first second left right source sink count all are one two from_source from_sink l r = record {
    from_source = subst (λ (list : List N). AreCarried value dc network.reference k.from network.reference list) (sym l) (from_bus first source k.from ends.from one from_source.0 from_source.1);
    from_sink = subst (λ (list : List N). AreCarried value dc network.reference k.to network.reference list) (sym r) (from_bus second sink k.to ends.to two from_sink.0 from_sink.1);
  }
    where
      from_bus : (part list : List N) (bus : ℕ) → bus < length network.buses → part ≡ flows → length list ≡ others → AreEntries part buses bus list → AreCarried value dc network.reference bus network.reference list
      from_bus part list bus within is long entries =
          entries_carried value dc network.reference flows list bus are within (long ∙ count ∙ sym (length-map (kept (Some k.row) network.branches) (dc_branch network xs)))
          (subst (λ (fs : List N). AreEntries fs dc.buses bus list) is (subst (λ (m : ℕ). AreEntries part m bus list) all entries))

  module _ (left right : List N) (are : AreSides value dc network.reference k.from k.to left right) where
    -- a difference may be refused
    pub sides_refused : {A : Type 0} (bound : ℕ) (result : Result A (MakeStop N)) (stop : MakeStop N) → result ≡ Err stop → OnPassed stop (IsRefusedDifference value bound left right)
        → IfErr result (λ s. OnPassed s (IsOutagePair value bound network xs k))
    sides_refused {A} bound result stop is h = subst (λ (r : Result A (MakeStop N)). IfErr r (λ s. OnPassed s (IsOutagePair value bound network xs k))) (sym is)
        (on_weaker (IsRefusedDifference value bound left right) (IsOutagePair value bound network xs k)
        (λ e refused. inr (refused_difference value dc network.reference k.from k.to left right are.from_source are.from_sink bound e refused)) stop h)

    module _ (list factors : List N) (is : factors ≡ list) (differ : AreDifferences value left right list) where
      carried : AreCarried value dc network.reference k.from k.to factors
      carried = subst (λ (fs : List N). AreCarried value dc network.reference k.from k.to fs) (sym is)
          (differences_carried value dc network.reference k.from k.to left right are.from_source are.from_sink list differ)

      pub sides_small : All (λ factor. abs_ℚ (value factor) ≤ℚ whole (pos 1)) factors
      sides_small = small_factors network xs (Some k.row) sound value k.from k.to factors ends.from ends.to carried

      pub sides_column : (places : FactorPlaces) (units : List ℤ) → AllZip (λ factor u. IsNearest (place_count places) (value factor) u) factors units → AreColumn dc network.reference k.from k.to places units
      sides_column places units near = rounded_column network xs (Some k.row) sound value k.from k.to places factors units carried near
