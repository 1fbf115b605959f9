-- What the pairs of made tables name: live branches and buses of a network.
use Rattle.std.proofs.Common.{◌≡◌, ◌≢◌, ◌∙◌, ◌<◌, ◌≤◌, ℕ, ℤ, pos, List, length, get_or, map, sym, ap, subst, arith, inl, inr, Option, Some, true}
use Rattle.std.specs.Prelude.{AllPairs, Contains, ◌&&◌, is_some, unsigned_abs, ◌*ℤ◌}
use Rattle.std.specs.Int.Signed.{le_z}
use Rattle.std.proofs.lemmas.Bool.{cases_lt}
use Rattle.std.proofs.lemmas.Grind.{common_steps}
use Rattle.std.proofs.lemmas.List.{get_or-map, length-map}
use Rattle.std.proofs.lemmas.List.Elements.{All-contains, Contains-get_or}
use Rattle.std.proofs.lemmas.Option.{slice_get-get_or}
use Rattle.fraction_theory.specs.Fraction.{Fraction, whole}
use Rattle.fraction_theory.specs.Order.{◌≤ℚ◌}
use Rattle.fraction_theory.specs.Signs.{abs_ℚ}
use Rattle.exact_fraction.specs.Nearest.{IsNearest}
use Rattle.market_data.specs.Scales.{most_factor, place_count, place_step}
use Rattle.market_data.specs.declared.participants.Bus.{Bus}
use Rattle.market_data.specs.declared.scales.FactorPlaces.{FactorPlaces}
use Rattle.net_case.specs.Networks.{IsNetwork, LiveNetwork, place_of}
use Rattle.net_case.specs.declared.live_parts.NetBranch.{NetBranch}
use Rattle.net_case.proofs.PlaceLemmas.{apart-from_rise, place-some}
use Rattle.net_paths.specs.Connection.{bus_number}
use Rattle.net_paths.specs.Loops.{kept}
use Rattle.network_theory.specs.Carrying.{IsCarried}
use Rattle.dc_network.specs.DcNetworks.{dc_branch, dc_network}
use Rattle.dc_network.specs.Laws.{IsSound}
use Rattle.dc_network.proofs.Carried.{law_of_one_factor}
use Rattle.dc_network.proofs.Connection.{Contains-map}
use Rattle.factor_tables.specs.declared.by_pair.Column.TheVariants as column
use Rattle.factor_tables.specs.declared.made.MadeFactor.{MadeFactor}
use Rattle.factor_tables.specs.Rules.{is_live_branch, is_row}
use Rattle.factor_tables.proofs.MadeLemmas.{entry-size}
use Rattle.factor_text.specs.Laws.{NamesWhatIsLive}
use Rattle.factor_maker.proofs.Sizes.{units_small}

-- a number that stands among others has a place there
known : (numbers : List ℕ) (n : ℕ) → AllPairs (λ a b. a ≢ b) numbers → Contains numbers n → is_some (place_of numbers (pos n)) ≡ true
known numbers n distinct c = ap is_some (place-some numbers n c.0 distinct (slice_get-get_or numbers c.0 n c.1 ∙ ap Some c.2))

in_rows : (last row : ℕ) → (1 ≤ row) × (row ≤ last) → (le_z (pos 1) (pos row) && le_z (pos row) (pos last)) ≡ true
in_rows last row within = grind (arith, common_steps)

module _ (network : LiveNetwork) (is : IsNetwork network) where
  abbrev rows : List ℕ
  rows = map (λ branch. branch.row) network.branches

  abbrev numbers : List ℕ
  numbers = map (λ bus. bus.number) network.buses

  branch_row : (l : NetBranch) → Contains network.branches l → Contains rows l.row
  branch_row l c = Contains-map (λ (branch : NetBranch). branch.row) network.branches l c

  row_named : (l : NetBranch) → Contains network.branches l → is_row network (pos l.row) ≡ true
  row_named l c = in_rows network.branch_rows l.row (All-contains (λ row. (1 ≤ row) × (row ≤ network.branch_rows)) rows l.row is.rows_of_branches.range (branch_row l c))

  branch_named : (l : NetBranch) → Contains network.branches l → is_live_branch network (pos l.row) ≡ true
  branch_named l c = known rows l.row (apart-from_rise rows is.rows_of_branches.rise) (branch_row l c)

  -- buses of one number are one
  pub same_bus : (i j : ℕ) → i < length network.buses → j < length network.buses → bus_number network i ≡ bus_number network j → i ≡ j
  same_bus i j p q e = elim (cases_lt i j) [
    | inl lt ↦ absurd (is.distinct i j 0 lt (omega (arith, q, count)) e)
    | inr le ↦ elim (cases_lt j i) [
      | inl lt ↦ absurd (is.distinct j i 0 lt (omega (arith, p, count)) (sym e))
      | inr ge ↦ omega (arith, le, ge)
    ]
  ]
    where
      count : length numbers ≡ length network.buses
      count = length-map network.buses (λ bus. bus.number)

  bus_there : (i : ℕ) → i < length network.buses → Contains numbers (bus_number network i)
  bus_there i lt = Contains-get_or numbers i 0 (let count = length-map network.buses (λ bus. bus.number) in omega (arith, lt, count))

  bus_listed : (i : ℕ) → i < length network.buses → Contains (map (λ row. row.0) network.bus_rows) (bus_number network i)
  bus_listed i lt =
      let none : Bus = record { number = 0; pd = pos 0; gs = pos 0 } in
      subst (λ (n : ℕ). Contains (map (λ row. row.0) network.bus_rows) n) (sym (get_or-map (λ (bus : Bus). bus.number) network.buses i none 0 lt))
      (Contains-map (λ (row : ℕ × Option ℕ). row.0) network.bus_rows ((get_or network.buses i none).number, Some i) (is.bus_rows.all i none lt))

  -- a live branch and a live bus
  pub names_bus : (l : NetBranch) (i : ℕ) → Contains network.branches l → i < length network.buses → NamesWhatIsLive column.Bus network (l.row, bus_number network i)
  names_bus l i c lt = record {
    branch = row_named l c;
    of = known (map (λ row. row.0) network.bus_rows) (bus_number network i) is.bus_rows.distinct (bus_listed i lt);
    live_branch = branch_named l c;
    live_of = known numbers (bus_number network i) is.distinct (bus_there i lt);
  }

  -- two live branches
  pub names_branch : (l k : NetBranch) → Contains network.branches l → Contains network.branches k → NamesWhatIsLive column.Outage network (l.row, k.row)
  names_branch l k c d = record { branch = row_named l c; of = row_named k d; live_branch = branch_named l c; live_of = branch_named k d }

-- ---- sizes
-- exact factors have a size of at most 1
pub exact_small : (network : LiveNetwork) (xs : List ℤ) (lost : Option ℕ) (source sink : ℕ) (l : NetBranch) (factor : Fraction) → IsSound network xs lost → source < length network.buses → sink < length network.buses
    → Contains (kept lost network.branches) l → IsCarried (dc_network network xs lost) network.reference source sink (dc_branch network xs l) factor → abs_ℚ factor ≤ℚ whole (pos 1)
exact_small network xs lost source sink l factor sound p q c carried =
    let (one, is, small, only) = law_of_one_factor network xs lost source sink l sound p q c in
    subst (λ (x : Fraction). abs_ℚ x ≤ℚ whole (pos 1)) (sym (only factor carried)) small

pub factor_small : (places : FactorPlaces) (exact : Fraction) (units factor : ℤ) → abs_ℚ exact ≤ℚ whole (pos 1) → IsNearest (place_count places) exact units → factor ≡ units *ℤ pos (place_step places)
    → unsigned_abs factor ≤ most_factor
factor_small places exact units factor small near is =
    let made : MadeFactor = record { branch = 0; of = 0; units = units } in
    subst (λ (z : ℤ). unsigned_abs z ≤ most_factor) (sym is) (entry-size places made (units_small places exact units small near))
