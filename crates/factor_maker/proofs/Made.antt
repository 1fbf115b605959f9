-- The pairs of the records of tables that are made: no two are one, and no factor is too great.
use Rattle.std.proofs.Common.{◌≡◌, ◌≢◌, ◌∙◌, ◌<◌, ◌≤◌, ◌*◌, ℕ, pos, List, length, map, sym, ap, arith, unsigned_abs}
use Rattle.std.specs.Prelude.{AllPairs, Contains, not, ◌==◌}
use Rattle.std.specs.List.{AllZip}
use Rattle.std.proofs.lemmas.List.{length-map}
use Rattle.std.proofs.lemmas.List.Kept.{AllPairs-filter}
use Rattle.fraction_theory.specs.Fraction.{Fraction, whole}
use Rattle.market_data.specs.Scales.{most_factor, place_step}
use Rattle.market_data.specs.declared.scales.FactorPlaces.{FactorPlaces}
use Rattle.net_case.specs.Networks.{LiveNetwork, IsNetwork}
use Rattle.net_case.specs.declared.live_parts.NetBranch.{NetBranch}
use Rattle.net_paths.specs.Connection.{bus_number}
use Rattle.net_paths.specs.Detours.{others}
use Rattle.factor_tables.specs.Made.{AreApart, AreInBounds, made_pair}
use Rattle.factor_tables.specs.declared.made.MadeFactor.{MadeFactor}
use Rattle.factor_residuals.specs.Residuals.{places_below}
use Rattle.dc_network.proofs.Connection.{kept_live}
use Rattle.factor_maker.specs.Columns.{IsMade}
use Rattle.factor_maker.specs.Made.{loss_pairs, shift_pairs}
use Rattle.factor_maker.proofs.Lists.{all-by_members, flat_pairs, pairs-map, pairs-of_map, pairs-places, pairs-weaker, zip-all, zip_pairs}
use Rattle.factor_maker.proofs.Sizes.{units_small}

-- ---- no two pairs are one
module _ (network : LiveNetwork) (is : IsNetwork network) where
  rows_apart : AllPairs (λ (l m : NetBranch). l.row ≢ m.row) network.branches
  rows_apart = pairs-weaker (λ (l m : NetBranch). l.row < m.row) (λ (l m : NetBranch). l.row ≢ m.row) network.branches (λ l m lt e. omega (arith, lt, e))
      (pairs-of_map (λ (a b : ℕ). a < b) (λ (l : NetBranch). l.row) network.branches is.rows_of_branches.rise)

  abbrev shift_key : NetBranch × ℕ → ℕ × ℕ
  shift_key pair = (pair.0.row, bus_number network pair.1)

  pub shift_apart : AllPairs (λ p q. shift_key p ≢ shift_key q) (shift_pairs network)
  shift_apart = flat_pairs (λ (l m : NetBranch). l.row ≢ m.row) (λ p q. shift_key p ≢ shift_key q) (λ l. map (λ i. (l, i)) (places_below (length network.buses))) network.branches
      (λ l c. pairs-map (λ p q. shift_key p ≢ shift_key q) (λ i. (l, i)) (places_below (length network.buses))
      (pairs-places (λ i j. shift_key (l, i) ≢ shift_key (l, j)) (length network.buses)
      (λ i j p q e. is.distinct i j 0 p (let n = length-map network.buses (λ bus. bus.number) in omega (arith, q, n)) (ap (λ (pair : ℕ × ℕ). pair.1) e))))
      (λ l m u v apart c d e. apart (same_first l u c ∙ ap (λ (pair : ℕ × ℕ). pair.0) e ∙ sym (same_first m v d)))
      rows_apart
    where
      same_first : (l : NetBranch) (u : NetBranch × ℕ) → Contains (map (λ i. (l, i)) (places_below (length network.buses))) u → l.row ≡ u.0.row
      same_first l u c = let r = Rattle.dc_network.proofs.Connection.Contains-from_map (λ i. (l, i)) (places_below (length network.buses)) u c in ap (λ (w : NetBranch × ℕ). w.0.row) r.2

  abbrev loss_key : NetBranch × NetBranch → ℕ × ℕ
  loss_key pair = (pair.0.row, pair.1.row)

  pub loss_apart : (lost : List NetBranch) → AllPairs (λ (k m : NetBranch). k.row ≢ m.row) lost → AllPairs (λ p q. loss_key p ≢ loss_key q) (loss_pairs network lost)
  loss_apart lost apart = flat_pairs (λ (l m : NetBranch). l.row ≢ m.row) (λ p q. loss_key p ≢ loss_key q) (λ k. map (λ l. (l, k)) (others k.row network.branches)) lost
      (λ k c. pairs-map (λ p q. loss_key p ≢ loss_key q) (λ l. (l, k)) (others k.row network.branches)
      (pairs-weaker (λ (l m : NetBranch). l.row ≢ m.row) (λ (l m : NetBranch). loss_key (l, k) ≢ loss_key (m, k)) (others k.row network.branches) (λ l m h e. h (ap (λ (pair : ℕ × ℕ). pair.0) e))
      (AllPairs-filter (λ (l m : NetBranch). l.row ≢ m.row) (λ (branch : NetBranch). not (branch.row == k.row)) network.branches rows_apart)))
      (λ k m u v h c d e. h (same_second k u c ∙ ap (λ (pair : ℕ × ℕ). pair.1) e ∙ sym (same_second m v d)))
      apart
    where
      same_second : (k : NetBranch) (u : NetBranch × NetBranch) → Contains (map (λ l. (l, k)) (others k.row network.branches)) u → k.row ≡ u.1.row
      same_second k u c = let r = Rattle.dc_network.proofs.Connection.Contains-from_map (λ l. (l, k)) (others k.row network.branches) u c in ap (λ (w : NetBranch × NetBranch). w.1.row) r.2

-- ---- records with the pairs of a list
module _ {A : Type 0} (key : A → ℕ × ℕ) (IsFactor : A → Fraction → Type 0) (places : FactorPlaces) (pairs : List A) (records : List MadeFactor)
    (made : AllZip (λ pair record_of. IsMade places (key pair) (IsFactor pair) record_of) pairs records) where
  pub are_apart : AllPairs (λ p q. key p ≢ key q) pairs → AreApart records
  are_apart apart = zip_pairs (λ pair record_of. IsMade places (key pair) (IsFactor pair) record_of) (λ p q. key p ≢ key q) (λ a b. made_pair a ≢ made_pair b)
      (λ p q u v here there h e. h (sym here.pair_is ∙ e ∙ there.pair_is)) pairs records made apart

  pub are_small : ((pair : A) (f : Fraction) → Contains pairs pair → IsFactor pair f → Rattle.fraction_theory.specs.Order.◌≤ℚ◌ (Rattle.fraction_theory.specs.Signs.abs_ℚ f) (whole (pos 1))) → AreInBounds places records
  are_small small = all-by_members (λ m. unsigned_abs m.units * place_step places ≤ most_factor) records
      (zip-all (λ pair record_of. IsMade places (key pair) (IsFactor pair) record_of) (λ m. unsigned_abs m.units * place_step places ≤ most_factor) pairs records
      (λ pair m c is. units_small places is.units.exact m.units (small pair is.units.exact c is.units.is_exact) is.units.nearest) made)
