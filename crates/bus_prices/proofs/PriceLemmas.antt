-- Steps of the congestion at a bus, dual by dual, and of prices, bus by bus.
use Rattle.std.specs.Prelude.{◌≡◌, ◌⊎◌, ℕ, ◌+◌, ◌<◌, ◌≤◌, pos, false, List, [], ◌∷◌, map, length, take, refl}
use Rattle.std.proofs.Common.{arith, ap, ap₂, inl, inr, sym, subst, ◌∙◌, get_or, set}
use Rattle.std.proofs.lemmas.List.{take_all, get_or-set_other}
use Rattle.fraction_theory.specs.Fraction.{Fraction, whole, neg_ℚ, ◌+ℚ◌, ◌-ℚ◌, ◌*ℚ◌}
use Rattle.fraction_theory.specs.Sums.{sum_by, Term, Product, term_value}
use Rattle.fraction_theory.proofs.FieldLaws.{ring_ℚ}
use Rattle.fraction_theory.proofs.Ring.{by_ring, at, padd, pmul, pneg, pnil}
use Rattle.fraction_theory.proofs.SumLaws.{total-map}
use Rattle.exact_fraction.specs.declared.Op.TheVariants.{Plus}
use Rattle.exact_fraction.specs.declared.Passed.{Passed}
use Rattle.market_model.specs.declared.answered.Dual.{Dual}
use Rattle.market_model.specs.declared.answered.Duals.{Duals}
use Rattle.market_model.specs.declared.answered.Price.{Price}
use Rattle.market_model.specs.declared.participants.Parts.{Parts}
use Rattle.market_model.specs.declared.limits.Row.{Row}
use Rattle.market_model.specs.Dispatch.{places}
use Rattle.market_model.specs.LimitRows.{rows, row_id, row_factor}
use Rattle.market_model.specs.NamedSums.{IsRefusal, IsRefusedIn, IsShareRefusal}
use Rattle.market_model.specs.Optimality.{net_shadow_price, names_row, named_rows, congestion, congestion_terms, congestion_by, price_terms}
use Rattle.market_model.specs.RightAnswers.{price_made, price_of_parts}
use Rattle.market_model.specs.SumTables.{IsRefusedInBusPrices, congestion_at, BusFactorSum, IsRefusedAmong}
use Rattle.market_model.proofs.MorePlaces.{sum_by_more}
use Rattle.market_model.proofs.PlaceLists.{put_more, map_same}
use Rattle.market_model.proofs.SumSteps.{share_at, two_refused}
use Rattle.limit_rows.proofs.DualLemmas.{IsRowOfDual, up_unnamed, down_unnamed, sum_named, terms_named}
use Rattle.bus_prices.specs.PriceParts.{HaveParts}

module _ (m : Parts) (d : Duals Fraction) (i : ℕ) where
  abbrev term : Row → Term
  term r = Product (neg_ℚ (net_shadow_price m d r)) (row_factor m r i)

  unnamed : (r : Row) → names_row d.limits (row_id m r) ≡ false → term_value (term r) ≡ whole (pos 0)
  unnamed r h =
      ap₂ (λ u v. neg_ℚ (u -ℚ v) *ℚ row_factor m r i) (up_unnamed d.limits (row_id m r) h) (down_unnamed d.limits (row_id m r) h)
      ∙ by_ring ring_ℚ (row_factor m r i ∷ []) (pmul (pneg (padd pnil (pneg pnil))) (at 0)) pnil refl

  -- the sum over the first rows that duals name
  abbrev pub congestion_to : ℕ → Fraction
  congestion_to k = sum_by (λ r. term_value (term r)) (take k (named_rows m d))

  pub congestion_step : (k : ℕ) (e : Dual Fraction) (r : Row) (price factor old new : Fraction) → IsRowOfDual m d k e r → price ≡ neg_ℚ (e.up -ℚ e.down) → factor ≡ row_factor m r i → old ≡ congestion_to k
      → new ≡ old +ℚ price *ℚ factor → new ≡ congestion_to (k + 1)
  congestion_step k e r price factor old new h is share before eq =
      eq ∙ ap₂ (λ u v. old +ℚ u *ℚ v) (is ∙ ap₂ (λ u v. neg_ℚ (u -ℚ v)) (sym h.up) (sym h.down)) share
      ∙ ap (λ s. s +ℚ term_value (term r)) before
      ∙ ap (λ (s : Row). congestion_to k +ℚ term_value (term s)) h.at
      ∙ sym (sum_by_more (λ s. term_value (term s)) (named_rows m d) k r h.inside)

  pub congestion_all : (k : ℕ) → length (named_rows m d) ≤ k → congestion_to k ≡ congestion m d i
  unfolding congestion_by
  congestion_all k h =
      ap (sum_by (λ r. term_value (term r))) (take_all k (named_rows m d) h)
      ∙ sym (sum_named m d (λ r. term_value (term r)) (rows m) unnamed) ∙ sym (total-map term (rows m))

  pub congestion_refused : (k : ℕ) (e : Dual Fraction) (r : Row) (price factor sum : Fraction) (bound : ℕ) (p : Passed Fraction) → IsRowOfDual m d k e r → price ≡ neg_ℚ (e.up -ℚ e.down)
      → factor ≡ row_factor m r i → sum ≡ congestion_to k → IsShareRefusal sum price factor bound p → IsRefusedIn (congestion_terms m d i) bound p
  congestion_refused k e r price factor sum bound p h is share before why =
      let split = terms_named m d term unnamed k r h.inside h.at in
      let price_is : price ≡ neg_ℚ (net_shadow_price m d r) = is ∙ ap₂ (λ u v. neg_ℚ (u -ℚ v)) (sym h.up) (sym h.down) in
      share_at (congestion_terms m d i) split.0 split.1 (term r) split.2 bound p sum price factor (ap₂ Product (sym price_is) (sym share)) (before ∙ sym split.3) why

-- ---- the price that a row has
-- the opposite of what a row's flow costs, where one side has no price
pub lower_alone : (u v : Fraction) → v ≡ whole (pos 0) → neg_ℚ u ≡ neg_ℚ (u -ℚ v)
lower_alone u v e = by_ring ring_ℚ (u ∷ []) (pneg (at 0)) (pneg (padd (at 0) (pneg pnil))) refl ∙ ap (λ w. neg_ℚ (u -ℚ w)) (sym e)

pub upper_alone : (u v : Fraction) → u ≡ whole (pos 0) → v ≡ neg_ℚ (u -ℚ v)
upper_alone u v e = by_ring ring_ℚ (v ∷ []) (at 0) (pneg (padd pnil (pneg (at 0)))) refl ∙ ap (λ w. neg_ℚ (w -ℚ v)) (sym e)

-- ---- prices by bus, whose parts are put place by place
-- the first prices have these parts
pub record HaveFirstParts {N : Type 0} (value : N → Fraction) (energy : Fraction) (congestion : ℕ → Fraction) (count : ℕ) (prices : List (Price N)) : Type 0 where
  pub energy_at : (bus : ℕ) (p : Price N) → bus < count → value (get_or prices bus p).energy ≡ energy
  pub congestion_at : (bus : ℕ) (p : Price N) → bus < count → value (get_or prices bus p).congestion ≡ congestion bus

-- those from a place on are as before
abbrev pub AreLeft : {N : Type 0} → List (Price N) → ℕ → List (Price N) → Type 0
AreLeft {N} old count new = (bus : ℕ) (p : Price N) → count ≤ bus → get_or new bus p ≡ get_or old bus p

module _ {N : Type 0} (value : N → Fraction) where
  pub part_put : (energy : Fraction) (congestion : ℕ → Fraction) (i : ℕ) (prices : List (Price N)) (x : Price N) → i < length prices → HaveFirstParts value energy congestion i prices
      → value x.energy ≡ energy → value x.congestion ≡ congestion i → HaveFirstParts value energy congestion (i + 1) (set prices i x)
  part_put energy congestion i prices x inside before e f = record {
    energy_at = put_more (λ (p : Price N). value p.energy) (λ bus. energy) prices i x inside before.energy_at e;
    congestion_at = put_more (λ (p : Price N). value p.congestion) congestion prices i x inside before.congestion_at f;
  }

  pub all_parts : (energy : Fraction) (congestion : ℕ → Fraction) (count : ℕ) (prices : List (Price N)) → length prices ≤ count → HaveFirstParts value energy congestion count prices → HaveParts value energy congestion prices
  all_parts energy congestion count prices most h = record {
    energy_at = λ bus p lt. h.energy_at bus p (Prim.omega (arith, lt, most));
    congestion_at = λ bus p lt. h.congestion_at bus p (Prim.omega (arith, lt, most));
  }

  pub same_parts : (energy : Fraction) (f g : ℕ → Fraction) (prices : List (Price N)) → ((bus : ℕ) → f bus ≡ g bus) → HaveParts value energy f prices → HaveParts value energy g prices
  same_parts energy f g prices e h = record { energy_at = h.energy_at; congestion_at = λ bus p lt. h.congestion_at bus p lt ∙ e bus }

  -- the parts of a price behind those that were put
  pub read_energy : (energy : Fraction) (congestion : ℕ → Fraction) (old prices : List (Price N)) (i : ℕ) (p : Price N) → i < length old → HaveParts value energy congestion old → AreLeft old i prices
      → value (get_or prices i p).energy ≡ energy
  read_energy energy congestion old prices i p inside h left = ap (λ (q : Price N). value q.energy) (left i p (Prim.omega arith)) ∙ h.energy_at i p inside

  pub read_congestion : (energy : Fraction) (congestion : ℕ → Fraction) (old prices : List (Price N)) (i : ℕ) (p : Price N) → i < length old → HaveParts value energy congestion old → AreLeft old i prices
      → value (get_or prices i p).congestion ≡ congestion i
  read_congestion energy congestion old prices i p inside h left = ap (λ (q : Price N). value q.congestion) (left i p (Prim.omega arith)) ∙ h.congestion_at i p inside

pub still_left : {N : Type 0} (old prices : List (Price N)) (i : ℕ) (x : Price N) → AreLeft old i prices → AreLeft old (i + 1) (set prices i x)
still_left old prices i x left bus p most = let other : bus ≡ i → ⊥ = Prim.omega (arith, most) in get_or-set_other prices i bus x p other ∙ left bus p (Prim.omega (arith, most))

-- ---- the prices of all buses
module _ (m : Parts) (d : Duals Fraction) where
  pub made_of_parts : (congestion' : ℕ → Fraction) (n : ℕ) → ((i : ℕ) → congestion' i ≡ congestion m d i) → map (λ i. price_of_parts d.energy (congestion' i)) (places n) ≡ map (price_made m d) (places n)
  made_of_parts congestion' n e =
      map_same (λ i. price_of_parts d.energy (congestion' i)) (price_made m d) n (λ i lt. ap (price_of_parts d.energy) (e i))

  pub total_refused : (i : ℕ) (sum : Fraction) (bound : ℕ) (p : Passed Fraction) → sum ≡ congestion m d i → IsRefusal Plus d.energy sum bound p → IsRefusedIn (price_terms m d i) bound p
  total_refused i sum bound p is h = two_refused d.energy (congestion m d i) d.energy sum bound p refl is h

  -- what a row adds to prices is refused at a bus, or in its factor there
  pub added_refused : (k : ℕ) (e : Dual Fraction) (r s : Row) (price : Fraction) (bound : ℕ) (p : Passed Fraction) → IsRowOfDual m d k e r → price ≡ neg_ℚ (e.up -ℚ e.down) → s ≡ r
      → ((bus : ℕ) × (bus < length m.buses) × IsShareRefusal (congestion_to m d bus k) price (row_factor m s bus) bound p)
      ⊎ IsRefusedAmong (BusFactorSum m s) bound p → IsRefusedInBusPrices m d bound p
  added_refused k e r s price bound p h is same (inl (bus, inside, why)) =
      let refused = congestion_refused m d bus k e r price (row_factor m s bus) (congestion_to m d bus k) bound p h is (ap (λ (t : Row). row_factor m t bus) same) refl why in
      inl (bus, inside, (congestion_terms m d bus, congestion_at, refused))
  added_refused k e r s price bound p h is same (inr why) =
      inr (r, (k, h.inside, sym h.at), subst (λ (t : Row). IsRefusedAmong (BusFactorSum m t) bound p) same why)
