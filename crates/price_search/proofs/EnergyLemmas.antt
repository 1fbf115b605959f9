-- The nearest margin of the blocks before a place, with the block there; and the price of energy that it tells.
use Rattle.std.specs.Prelude.{◌≡◌, ℕ, ◌+◌, ◌<◌, Option, Some, None, Result, IfErr, IfOk, length, slice_index, Contains, refl}
use Rattle.std.proofs.Common.{arith, ap, ap₂, sym, subst, inl, inr, ◌∙◌, Err, Ok}
use Rattle.std.proofs.lemmas.List.Elements.{Contains-get_or}
use Rattle.fraction_theory.specs.Fraction.{Fraction, whole, ◌-ℚ◌}
use Rattle.fraction_theory.proofs.ListSums.{same_or_not}
use Rattle.fraction_theory.proofs.OrderLaws.{≤ℚ_of_same, ≤ℚ_trans}
use Rattle.exact_fraction.specs.declared.Op.TheVariants.{Minus}
use Rattle.exact_fraction.specs.declared.Passed.{Passed}
use Rattle.exact_fraction.specs.Passes.{IsExactValue}
use Rattle.linear_dict.specs.Dictionaries.{Dictionary, IsDictionary, note_of}
use Rattle.linear_dict.specs.Notes.{Noted}
use Rattle.market_model.specs.declared.answered.Duals.{Duals}
use Rattle.market_model.specs.declared.participants.Block.{Block}
use Rattle.market_model.specs.declared.participants.Parts.{Parts}
use Rattle.market_model.specs.Dispatch.{Dispatch, accepted, block_at}
use Rattle.market_model.specs.NamedSums.{IsRefusal}
use Rattle.market_model.specs.Optimality.{energy_worth}
use Rattle.market_model.specs.Valued.{passed_at}
use Rattle.market_model.proofs.SumSteps.{refusal}
use Rattle.one_price.specs.Margins.{HasNoFloor, IsEnergyByMargins, IsGreatestMargin, IsLeastMargin, by_ceiling, by_floor, margin}
use Rattle.price_search.specs.declared.energy.Hold.{Hold}
use Rattle.price_search.specs.declared.energy.Hold.TheVariants.{Up, Down}
use Rattle.price_search.specs.Energy.{Holds, IsHolding, IsNearest, IsNearestBefore, IsNearestRefusal, IsEnergyRefusal, IsNoFurther, ShowsWorths, of_ceiling, of_floor, of_greatest, of_least}

further : (hold : Hold) (f g h : Fraction) → IsNoFurther hold f g → IsNoFurther hold g h → IsNoFurther hold f h
further Up f g h p q = ≤ℚ_trans f g h p q
further Down f g h p q = ≤ℚ_trans h g f q p

as_far : (hold : Hold) (f g : Fraction) → f ≡ g → IsNoFurther hold f g
as_far Up f g e = ≤ℚ_of_same f g e
as_far Down f g e = ≤ℚ_of_same g f (sym e)

module _ {N : Type 0} (value : N → Fraction) (hold : Hold) (m : Parts) (x : Dispatch) (d : Duals Fraction) (k : ℕ) where
  -- those before the place, and the one there
  next : (P : ℕ → Type 0) → ((j : ℕ) → j < k → P j) → P k → (j : ℕ) → j < k + 1 → P j
  next P before here j h = elim (same_or_not j k) [ inl e ↦ subst P (sym e) here | inr n ↦ before j (Prim.omega (arith, h, n)) ]

  -- a block that does not hold it so changes nothing
  pub passed_by : (o : Option N) → IsNearest value hold m x d k o → ¬ (IsHolding hold m x k) → IsNearest value hold m x d (k + 1) o
  passed_by None none other = next (λ j. ¬ (IsHolding hold m x j)) none other
  passed_by (Some f) found other = record {
    block = found.block;
    within = Prim.omega (arith, found.within);
    holds = found.holds;
    is = found.is;
    nearest = next (λ j. IsHolding hold m x j → IsNoFurther hold (value f) (margin m d j)) found.nearest (λ h. absurd (other h));
  }

  module _ (g : N) (holds : IsHolding hold m x k) (is : value g ≡ margin m d k) where
    pub begins : IsNearest value hold m x d k None → IsNearest value hold m x d (k + 1) (Some g)
    begins none = record {
      block = k;
      within = Prim.omega arith;
      holds = holds;
      is = sym is;
      nearest = next (λ j. IsHolding hold m x j → IsNoFurther hold (value g) (margin m d j)) (λ j h holding. absurd (none j h holding)) (λ h. as_far hold (value g) (margin m d k) is);
    }

    pub replaces : (f : N) → IsNearest value hold m x d k (Some f) → IsNoFurther hold (value g) (value f) → IsNearest value hold m x d (k + 1) (Some g)
    replaces f found nearer = record {
      block = k;
      within = Prim.omega arith;
      holds = holds;
      is = sym is;
      nearest = next (λ j. IsHolding hold m x j → IsNoFurther hold (value g) (margin m d j))
          (λ j h holding. further hold (value g) (value f) (margin m d j) nearer (found.nearest j h holding)) (λ h. as_far hold (value g) (margin m d k) is);
    }

    pub stays : (f : N) → IsNearest value hold m x d k (Some f) → IsNoFurther hold (value f) (value g) → IsNearest value hold m x d (k + 1) (Some f)
    stays f found nearer = record {
      block = found.block;
      within = Prim.omega (arith, found.within);
      holds = found.holds;
      is = found.is;
      nearest = next (λ j. IsHolding hold m x j → IsNoFurther hold (value f) (margin m d j)) found.nearest (λ h. subst (λ t. IsNoFurther hold (value f) t) is nearer);
    }

-- of all blocks
module _ (m : Parts) (x : Dispatch) (d : Duals Fraction) (f : Fraction) where
  pub is_least : IsNearestBefore Up m x d (length m.blocks) f → IsLeastMargin m x d f
  is_least found = record { block = found.block; within = found.within; floor = found.holds; is = found.is; least = found.nearest }

  pub is_greatest : IsNearestBefore Down m x d (length m.blocks) f → IsGreatestMargin m x d f
  is_greatest found = record { block = found.block; within = found.within; ceiling = found.holds; is = found.is; greatest = found.nearest }

-- a row as put in is among the names
pub row_named : (dict : Dictionary) → IsDictionary dict → (w k : ℕ) → k < length dict.rows → w ≡ slice_index dict.rows k → Contains dict.names w
row_named dict sound w k h e = subst (Contains dict.names) (sym e) (sound.put_in.first_named (slice_index dict.rows k) (Contains-get_or dict.rows k 0 h))

-- ---- a difference
module _ {N : Type 0} (value : N → Fraction) (bound : ℕ) (l r : N) (x y : Fraction) (left : value l ≡ x) (right : value r ≡ y) where
  pub difference : (result : Result N (Passed N)) → IsExactValue value bound Minus l r result → IfOk result (λ z. value z ≡ x -ℚ y)
  difference (Ok z) h = h.exact ∙ ap₂ ◌-ℚ◌ left right
  difference (Err p) h = tt

  pub difference_refused : (result : Result N (Passed N)) → IsExactValue value bound Minus l r result → IfErr result (λ p. IsRefusal Minus x y bound (passed_at value p))
  difference_refused (Ok z) h = tt
  difference_refused (Err p) h = refusal value bound Minus l r x y p left right h

-- what the note of a block's row shows
pub shown : (m : Parts) (d : Duals Fraction) (dict : Dictionary) → ShowsWorths m d dict → (j w : ℕ) → j < length m.blocks → w ≡ slice_index dict.rows (j + 1)
    → (n : Noted) → n ≡ note_of dict w → n.value ≡ energy_worth m d (block_at m j).unit
shown m d dict shows j w inside row n note =
    let place : j + 1 ≡ 1 + j = Prim.omega arith in
    ap (λ (t : Noted). t.value) note ∙ (ap (λ (v : ℕ). (note_of dict v).value) (row ∙ ap (slice_index dict.rows) place) ∙ shows.worth j inside)

-- a block as it is found at its place, with what is accepted of it and its quantity
module _ (hold : Hold) (m : Parts) (x : Dispatch) (k : ℕ) (b : Block) (a q : Fraction) (block : block_at m k ≡ b) (taken : a ≡ accepted x k) (all : q ≡ whole b.quantity) where
  pub holding : Holds hold b.side a q → IsHolding hold m x k
  holding h = subst (λ (t : Block). Holds hold t.side (accepted x k) (whole t.quantity)) (sym block) (subst (λ t. Holds hold b.side t (whole b.quantity)) taken (subst (λ t. Holds hold b.side a t) all h))

  pub found_holding : IsHolding hold m x k → Holds hold b.side a q
  found_holding h = subst (λ t. Holds hold b.side a t) (sym all) (subst (λ t. Holds hold b.side t (whole b.quantity)) (sym taken) (subst (λ (t : Block). Holds hold t.side (accepted x k) (whole t.quantity)) block h))

-- the price of energy less the margin that was found
module _ {N : Type 0} (value : N → Fraction) (bound : ℕ) (m : Parts) (x : Dispatch) (d : Duals Fraction) (energy f : N) (is : value energy ≡ d.energy) where
  pub floor_price : IsNearestBefore Up m x d (length m.blocks) (value f) → (result : Result N (Passed N)) → IsExactValue value bound Minus energy f result → IfOk result (λ p. IsEnergyByMargins m x d (value p))
  floor_price found (Ok p) h = by_floor (value f) (is_least m x d (value f) found) (h.exact ∙ ap (λ t. t -ℚ value f) is)
  floor_price found (Err p) h = tt

  pub ceiling_price : HasNoFloor m x → IsNearestBefore Down m x d (length m.blocks) (value f) → (result : Result N (Passed N)) → IsExactValue value bound Minus energy f result
      → IfOk result (λ p. IsEnergyByMargins m x d (value p))
  ceiling_price none found (Ok p) h = by_ceiling none (value f) (is_greatest m x d (value f) found) (h.exact ∙ ap (λ t. t -ℚ value f) is)
  ceiling_price none found (Err p) h = tt

  pub floor_refused : IsNearestBefore Up m x d (length m.blocks) (value f) → (result : Result N (Passed N)) → IsExactValue value bound Minus energy f result
      → IfErr result (λ p. IsEnergyRefusal m x d bound (passed_at value p))
  floor_refused found (Ok p) h = tt
  floor_refused found (Err p) h = of_least (value f) (is_least m x d (value f) found) (refusal value bound Minus energy f d.energy (value f) p is refl h)

  pub ceiling_refused : HasNoFloor m x → IsNearestBefore Down m x d (length m.blocks) (value f) → (result : Result N (Passed N)) → IsExactValue value bound Minus energy f result
      → IfErr result (λ p. IsEnergyRefusal m x d bound (passed_at value p))
  ceiling_refused none found (Ok p) h = tt
  ceiling_refused none found (Err p) h = of_greatest none (value f) (is_greatest m x d (value f) found) (refusal value bound Minus energy f d.energy (value f) p is refl h)

-- a refusal on the way to the nearest margin
module _ (bound : ℕ) (m : Parts) (x : Dispatch) (d : Duals Fraction) (p : Passed Fraction) where
  pub floor_margin_refused : IsNearestRefusal Up m x d bound p → IsEnergyRefusal m x d bound p
  floor_margin_refused r = of_floor r.block r.within r.holds r.refused

  pub ceiling_margin_refused : HasNoFloor m x → IsNearestRefusal Down m x d bound p → IsEnergyRefusal m x d bound p
  ceiling_margin_refused none r = of_ceiling none r.block r.within r.holds r.refused
