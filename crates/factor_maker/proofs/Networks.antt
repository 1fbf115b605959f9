-- The network of live branches as guesses take it, and columns that are told of it.
use Rattle.std.proofs.Common.{◌≡◌, ◌∙◌, ◌<◌, ◌≤◌, ◌^◌, ℕ, ℤ, pos, suc, Bool, true, false, cond, List, [], ◌∷◌, length, map, sym, ap, subst, refl, arith, Option, Some, None}
use mathlib.Core.Path.{ap₂}
use Rattle.std.specs.Prelude.{All, Contains, filter, not, ◌==◌, ◌<ℤ◌, slice_get, Result, Ok, Err, IfOk, IfErr, IfSome}
use Rattle.std.specs.List.{AllZip}
use Rattle.std.proofs.lemmas.Int.{ints}
use Rattle.std.proofs.lemmas.List.{length-map}
use Rattle.std.proofs.lemmas.List.Elements.{All-contains}
use Rattle.fraction_theory.specs.Fraction.{Fraction, whole, over}
use Rattle.fraction_theory.specs.Order.{◌≤ℚ◌}
use Rattle.fraction_theory.specs.Signs.{abs_ℚ}
use Rattle.exact_fraction.specs.Nearest.{IsNearest}
use Rattle.market_data.specs.Scales.{most_buses, most_lines, place_count}
use Rattle.market_data.specs.declared.scales.FactorPlaces.{FactorPlaces}
use Rattle.net_case.specs.Networks.{LiveNetwork, IsNetBranch}
use Rattle.net_case.specs.declared.live_parts.NetBranch.{NetBranch}
use Rattle.net_paths.specs.Loops.{kept}
use Rattle.factor_residuals.specs.Kirchhoff.{reactance_at}
use Rattle.network_theory.specs.Networks.{Branch, Network, IsTheoryNetwork, IsConnected}
use Rattle.network_theory.specs.Carrying.{IsCarried}
use Rattle.dc_network.specs.DcNetworks.{dc_branch, dc_network}
use Rattle.dc_network.specs.Laws.{IsSound}
use Rattle.dc_network.proofs.Carried.{law_of_one_factor}
use Rattle.dc_network.proofs.Connection.{Contains-from_map, kept_live, law_of_the_network}
use Rattle.dc_network.proofs.Reactances.{not_nil, reactance_above, reactance_positive}
use Rattle.flow_guess.specs.Links.{Grid, IsLink, link_branch, grid_network, link_network}
use Rattle.flow_guess.specs.Told.{AreNearest}
use Rattle.flow_guess.specs.declared.links.Link.{Link}
use Rattle.exact_flows.specs.Lines.{AreFlows, line_branch, line_network}
use Rattle.exact_flows.specs.FlowSystems.{IsFlowStop}
use Rattle.exact_flows.specs.declared.line.Line.{Line}
use Rattle.exact_flows.specs.declared.stop.FlowStop.{FlowStop}
use Rattle.factor_maker.specs.Columns.{AreCarried, AreColumn, AreTold, link_of}
use Rattle.factor_maker.specs.ExactLists.{AreEntries}
use Rattle.factor_maker.specs.Made.{AreNearestUnits}
use Rattle.factor_maker.proofs.Lists.{all-by_members, at_place, get_contains, get_map, map-members, zip-all, zip-by_places, zip-of_map, zip-through}
use Rattle.factor_maker.proofs.Recips.{recip_units}
use Rattle.factor_maker.proofs.Scaling.{carried_scaled, scaled}

-- the guess that a network without a lost branch is made to
abbrev pub guess_of : LiveNetwork → List ℤ → Option ℕ → Grid
guess_of network xs lost = record { buses = length network.buses; reference = network.reference; links = map (link_of network xs) (kept lost network.branches) }

kept_short : (lost : Option ℕ) (branches : List NetBranch) → length (kept lost branches) ≤ length branches
kept_short None branches = omega arith
kept_short (Some row) branches = shorter (λ (branch : NetBranch). not (branch.row == row)) branches
  where
    shorter : {A : Type 0} (test : A → Bool) (items : List A) → length (filter test items) ≤ length items
    shorter test [] = omega arith
    shorter test (x ∷ items) = by test (test x) x items (shorter test items)
      where
        by : {A : Type 0} (test : A → Bool) (b : Bool) (x : A) (items : List A) → length (filter test items) ≤ length items → length (cond b (x ∷ filter test items) (filter test items)) ≤ suc (length items)
        by test true x items h = omega (arith, h)
        by test false x items h = omega (arith, h)

module _ (network : LiveNetwork) (xs : List ℤ) (lost : Option ℕ) (sound : IsSound network xs lost) where
  abbrev bs : List NetBranch
  bs = kept lost network.branches

  abbrev one : Fraction
  one = whole (pos (10 ^ 18))

  abbrev dc : Network
  dc = dc_network network xs lost

  abbrev as_guessed : NetBranch → Branch
  as_guessed l = link_branch (link_of network xs l)

  branch_scaled : (l : NetBranch) → Contains network.branches l → dc_branch network xs l ≡ scaled one (as_guessed l)
  branch_scaled l c =
      let x = reactance_at network xs l.row in
      let above = reactance_above network sound.network_is xs sound.reactances sound.positive l c in
      let positive = reactance_positive network sound.network_is xs sound.reactances sound.positive l c in
      ap (λ (s : Fraction). record { from = l.from; to = l.to; susceptance = s }) (recip_units x (10 ^ 18) (omega arith) (not_nil (over x (10 ^ 18)) above) (λ e. absurd (omega (arith, ints, positive, e))))

  branches_scaled : dc.branches ≡ map (scaled one) (map link_branch (map (link_of network xs) bs))
  branches_scaled = map-members (dc_branch network xs) (λ l. scaled one (as_guessed l)) bs (λ l c. branch_scaled l (kept_live lost network.branches l c)) ∙ twice bs
    where
      twice : (ls : List NetBranch) → map (λ l. scaled one (as_guessed l)) ls ≡ map (scaled one) (map link_branch (map (link_of network xs) ls))
      twice [] = refl
      twice (l ∷ ls) = ap (λ (rest : List Branch). scaled one (as_guessed l) ∷ rest) (twice ls)

  carried_guessed : (source sink : ℕ) (l : NetBranch) (f : Fraction) → Contains network.branches l → IsCarried dc network.reference source sink (dc_branch network xs l) f
      → IsCarried (link_network (length network.buses) (map (link_of network xs) bs)) network.reference source sink (as_guessed l) f
  carried_guessed source sink l f c is =
      carried_scaled one (length network.buses) (map link_branch (map (link_of network xs) bs)) network.reference source sink (as_guessed l) f
      (subst (λ (b : Branch). IsCarried (record { buses = length network.buses; branches = map (scaled one) (map link_branch (map (link_of network xs) bs)) }) network.reference source sink b f) (branch_scaled l c)
      (subst (λ (all : List Branch). IsCarried (record { buses = length network.buses; branches = all }) network.reference source sink (dc_branch network xs l) f) branches_scaled is))

  -- ---- what guesses and exact flows want of the network
  pub above_all : (l : NetBranch) → Contains bs l → pos 0 <ℤ reactance_at network xs l.row
  above_all l c = reactance_positive network sound.network_is xs sound.reactances sound.positive l (kept_live lost network.branches l c)

  pub are_links : All (IsLink (length network.buses)) (map (link_of network xs) bs)
  are_links = all-by_members (IsLink (length network.buses)) (map (link_of network xs) bs) (λ link c.
      let l = Contains-from_map (link_of network xs) bs link c in
      let live = kept_live lost network.branches l.0 l.1 in
      let between = All-contains (IsNetBranch (length network.buses)) network.branches l.0 sound.network_is.branches live in
      subst (IsLink (length network.buses)) l.2 (record { from = between.from; to = between.to; reactance = above_all l.0 l.1 }))

  pub few_kept : length bs ≤ most_lines
  few_kept = let h = kept_short lost network.branches in let n = sound.network_is.branch_count in omega (arith, h, n)

  pub given_links : (n : ℕ) (links : List Link) → n ≡ length network.buses → links ≡ map (link_of network xs) bs → All (IsLink n) links
  given_links n links count is = subst (λ (m : ℕ). All (IsLink m) links) (sym count) (subst (λ (ls : List Link). All (IsLink (length network.buses)) ls) (sym is) are_links)

  module _ {N : Type 0} (value : N → Fraction) (lines : List (Line N)) (n r : ℕ) (count : n ≡ length network.buses) (place : r ≡ network.reference)
      (are : map (line_branch value) lines ≡ map (dc_branch network xs) bs) where
    network_is : line_network value n lines ≡ dc
    network_is = ap₂ (λ (m : ℕ) (all : List Branch). record { buses = m; branches = all }) count are

    pub given_few : (n ≤ most_buses) × (length lines ≤ most_lines)
    given_few =
        let b = sound.network_is.bus_count in
        let k = few_kept in
        let e = sym (length-map lines (line_branch value)) ∙ ap length are ∙ length-map bs (dc_branch network xs) in
        (omega (arith, b, count), omega (arith, k, e))

    pub given_network : IsTheoryNetwork (line_network value n lines)
    given_network = subst IsTheoryNetwork (sym network_is) (law_of_the_network network xs lost sound).0

    pub given_connected : IsConnected (line_network value n lines) r
    given_connected = subst (λ (m : Network). IsConnected m r) (sym network_is) (subst (λ (i : ℕ). IsConnected dc i) (sym place) (law_of_the_network network xs lost sound).1)

    pub given_flows : {E : Type 0} (result : Result (List N) E) → IfOk result (AreFlows value (line_network value n lines) r) → IfOk result (AreFlows value dc network.reference)
    given_flows result h = subst (λ (i : ℕ). IfOk result (AreFlows value dc i)) place (subst (λ (m : Network). IfOk result (AreFlows value m r)) network_is h)

    pub given_stop : {A : Type 0} (bound : ℕ) (result : Result A (FlowStop N)) → IfErr result (IsFlowStop value bound (line_network value n lines) r) → IfErr result (IsFlowStop value bound dc network.reference)
    given_stop bound result h = subst (λ (i : ℕ). IfErr result (IsFlowStop value bound dc i)) place (subst (λ (m : Network). IfErr result (IsFlowStop value bound m r)) network_is h)

  pub given_lines : {N : Type 0} (value : N → Fraction) {slice lines : List (Line N)} {branches : List NetBranch} → slice ≡ lines → branches ≡ bs
      → map (line_branch value) lines ≡ map (dc_branch network xs) branches → map (line_branch value) slice ≡ map (dc_branch network xs) bs
  given_lines {N} value is kept_are are = ap (map (line_branch value)) is ∙ are ∙ ap (map (dc_branch network xs)) kept_are

  -- ---- guesses that tell all
  pub told_column : (guess : Grid) (source sink : ℕ) (places : FactorPlaces) (units : List ℤ) → guess ≡ guess_of network xs lost → source < length network.buses → sink < length network.buses
      → AreTold guess source sink (place_count places) units → AreColumn dc network.reference source sink places units
  told_column guess source sink places units is s t told =
      zip-of_map (λ l k. AreNearestUnits places (IsCarried dc network.reference source sink (dc_branch network xs l)) k)
      (λ b k. AreNearestUnits places (IsCarried dc network.reference source sink b) k) (dc_branch network xs) bs units (λ l k c u. u)
      (zip-by_places (λ l k. AreNearestUnits places (IsCarried dc network.reference source sink (dc_branch network xs l)) k) bs units count each)
    where
      count : length units ≡ length bs
      count = told.count ∙ ap (λ (g : Grid). length g.links) is ∙ length-map bs (link_of network xs)

      each : (k : ℕ) (l : NetBranch) (u : ℤ) → slice_get bs k ≡ Some l → slice_get units k ≡ Some u → AreNearestUnits places (IsCarried dc network.reference source sink (dc_branch network xs l)) u
      each k l u p q =
          let c = get_contains bs k l p in
          let f = law_of_one_factor network xs lost source sink l sound s t c in
          let links = map (link_of network xs) bs in
          let link = link_of network xs l in
          let here = at_place links k link link (get_map (link_of network xs) bs k l p) in
          let told_here = subst (λ (g : Grid). AreTold g source sink (place_count places) units) is told in
          let number = at_place (map Some units) k (Some u) None (get_map Some units k u q) in
          record {
            exact = f.0;
            is_exact = f.1;
            nearest = told_here.nearest k link here.0 u f.0 number.1
                (subst (λ (d : Link). IsCarried (link_network (length network.buses) links) network.reference source sink (link_branch d) f.0) (sym here.1) (carried_guessed source sink l f.0 (kept_live lost network.branches l c) f.1));
          }

  -- ---- exact flows
  pub small_factor : (source sink : ℕ) (b : Branch) (f : Fraction) → source < length network.buses → sink < length network.buses → Contains dc.branches b
      → IsCarried dc network.reference source sink b f → abs_ℚ f ≤ℚ whole (pos 1)
  small_factor source sink b f s t c is =
      let l = Contains-from_map (dc_branch network xs) bs b c in
      let law = law_of_one_factor network xs lost source sink l.0 sound s t l.1 in
      subst (λ (x : Fraction). abs_ℚ x ≤ℚ whole (pos 1)) (sym (law.3 f (subst (λ (br : Branch). IsCarried dc network.reference source sink br f) (sym l.2) is))) law.2

  module _ {N : Type 0} (value : N → Fraction) where
    pub small_factors : (source sink : ℕ) (factors : List N) → source < length network.buses → sink < length network.buses → AreCarried value dc network.reference source sink factors
        → All (λ factor. abs_ℚ (value factor) ≤ℚ whole (pos 1)) factors
    small_factors source sink factors s t are = all-by_members (λ factor. abs_ℚ (value factor) ≤ℚ whole (pos 1)) factors
        (zip-all (λ b factor. IsCarried dc network.reference source sink b (value factor)) (λ factor. abs_ℚ (value factor) ≤ℚ whole (pos 1)) dc.branches factors
        (λ b factor c is. small_factor source sink b (value factor) s t c is) are)

    pub rounded_column : (source sink : ℕ) (places : FactorPlaces) (factors : List N) (units : List ℤ) → AreCarried value dc network.reference source sink factors
        → AllZip (λ factor k. IsNearest (place_count places) (value factor) k) factors units → AreColumn dc network.reference source sink places units
    rounded_column source sink places factors units are near = zip-through (λ b factor. IsCarried dc network.reference source sink b (value factor)) (λ factor k. IsNearest (place_count places) (value factor) k)
        (λ b k. AreNearestUnits places (IsCarried dc network.reference source sink b) k) dc.branches factors units (λ b factor k c is nearest. record { exact = value factor; is_exact = is; nearest = nearest }) are near

-- ---- flows by branch and by bus
module _ {N : Type 0} (value : N → Fraction) (n : Network) (reference : ℕ) where
  pub entries_carried : (flows list : List N) (bus : ℕ) → AreFlows value n reference flows → bus < n.buses → length list ≡ length n.branches → AreEntries flows n.buses bus list
      → AreCarried value n reference bus reference list
  entries_carried flows list bus are within count entries =
      zip-by_places (λ b flow. IsCarried n reference bus reference b (value flow)) n.branches list count
      (λ k b flow p q. let stands = at_place n.branches k b b p in are.carried k bus b flow (record { within = stands.0; there = stands.1 }) within (entries k flow q))

-- ---- a guess that tells all
module _ (grid : Grid) (source sink places : ℕ) (guess : List (Option ℤ)) (count : length guess ≡ length grid.links) (nearest : AreNearest (grid_network grid) grid.reference source sink places grid.links guess) where
  pub told_all : {E : Type 0} (items : List (Option ℤ)) (result : Result (Option (List ℤ)) E) → items ≡ guess → IfOk result (λ told. IfSome told (λ units. items ≡ map Some units))
      → IfOk result (λ told. IfSome told (AreTold grid source sink places))
  told_all items (Ok None) e h = h
  told_all items (Ok (Some units)) e h = record {
    count = sym (length-map units Some) ∙ ap length (sym h ∙ e) ∙ count;
    nearest = subst (λ (told : List (Option ℤ)). AreNearest (grid_network grid) grid.reference source sink places grid.links told) (sym e ∙ h) nearest;
  }
  told_all items (Err x) e h = h
