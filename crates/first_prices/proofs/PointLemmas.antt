-- First best points of the system have the first prices.
use Rattle.std.specs.Prelude.{◌≡◌, ℕ, ◌<◌, List, [], ◌∷◌, ◌++◌, length, map, reverse, slice_index, refl}
use Rattle.std.specs.List.{flat_map}
use Rattle.std.proofs.Common.{arith, ap, sym, ◌∙◌, subst, subst₂, get_or}
use Rattle.std.proofs.lemmas.List.{get_or-map, length-append, map-append, reverse-append}
use Rattle.fraction_theory.specs.Fraction.{Fraction, neg_ℚ}
use Rattle.fraction_theory.specs.Order.{◌<ℚ◌, ◌≤ℚ◌}
use Rattle.fraction_theory.proofs.FieldLaws.{ring_ℚ}
use Rattle.fraction_theory.proofs.OrderLaws.{<ℚ-not-≤ℚ, <ℚ-≤ℚ, not-≤ℚ, ≤ℚ_of_same, ≤ℚ_refl, ≤ℚ_trans}
use Rattle.fraction_theory.proofs.Ring.{by_ring, at, pneg}
use Rattle.linear_system.specs.Systems.{System, objective}
use Rattle.simplex_theory.specs.States.{IsBest}
use Rattle.optimal_face.specs.FirstPoints.{IsFirstBest}
use Rattle.optimal_face.proofs.FirstLemmas.{first_of_more}
use Rattle.limit_rows.proofs.GroupLemmas.{length-map}
use Rattle.market_model.specs.declared.answered.Duals.{Duals}
use Rattle.market_model.specs.declared.participants.Parts.{Parts}
use Rattle.market_model.specs.Dispatch.{Dispatch, zero}
use Rattle.market_model.specs.LimitRows.{rows}
use Rattle.market_model.specs.Market.{IsMarket}
use Rattle.market_model.specs.Optimality.{ProperDuals, Supports}
use Rattle.market_model.specs.Reserves.{reserve_units}
use Rattle.one_price.specs.FirstPrices.{GoesBefore, by_price, by_sum, other_price, other_prices, sum_of_prices, with_energy}
use Rattle.one_price.proofs.ListLemmas.{same_parts}
use Rattle.one_price.proofs.NamedLemmas.{others_long}
use Rattle.price_system.specs.Laws.{HasLeastPrices, IsPointOf}
use Rattle.price_system.specs.PriceSystem.{Caps, KeepsCaps, duals_of, name, point_of, price_order, price_system, two_sides}
use Rattle.price_system.specs.declared.variables.Variable.TheVariants.{Reserve, Room}
use Rattle.price_system.proofs.BackLemmas.{law_of_duals, law_of_points}
use Rattle.price_system.proofs.BestLemmas.{law_of_best_points}
use Rattle.price_system.proofs.SizeLemmas.{opposite}
use Rattle.price_system.proofs.SumLemmas.{law_of_the_order, law_of_the_sum}
use Rattle.first_prices.specs.FirstCaps.{HasFirstPrices, LoseNothing}
use Rattle.first_prices.specs.Laws.{LawOfFirstPoints}

-- ---- plain numbers
opposite_above : (p q : Fraction) → neg_ℚ p <ℚ neg_ℚ q → q <ℚ p
opposite_above p q l = not-≤ℚ p q (λ h. <ℚ-not-≤ℚ (neg_ℚ p) (neg_ℚ q) l (opposite p q h))

opposite_same : (p q : Fraction) → neg_ℚ p ≡ neg_ℚ q → p ≡ q
opposite_same p q e =
    by_ring ring_ℚ (p ∷ []) (at 0) (pneg (pneg (at 0))) refl ∙ ap neg_ℚ e ∙ by_ring ring_ℚ (q ∷ []) (pneg (pneg (at 0))) (at 0) refl

-- ---- the order
-- that of all columns but energy's, which is the last
abbrev other_order : Parts → List ℕ
other_order m = reverse (map (name m) (Reserve ∷ (flat_map two_sides (rows m) ++ map Room (reserve_units m))))

order_parts : (m : Parts) → price_order m ≡ other_order m ++ (0 ∷ [])
order_parts m = reverse-append (0 ∷ []) (map (name m) (Reserve ∷ (flat_map two_sides (rows m) ++ map Room (reserve_units m))))

module _ (m : Parts) (market : IsMarket m) where
  in_order : (v : ℕ → Fraction) → map (λ w. neg_ℚ (v w)) (other_order m) ≡ other_prices m (duals_of m v)
  in_order v =
      let opposite_of : ℕ → Fraction = λ w. neg_ℚ (v w) in
      let whole : map opposite_of (other_order m) ++ (neg_ℚ (v 0) ∷ []) ≡ other_prices m (duals_of m v) ++ (neg_ℚ (v 0) ∷ []) =
      sym (map-append opposite_of (other_order m) (0 ∷ [])) ∙ sym (ap (map opposite_of) (order_parts m)) ∙ law_of_the_order m v market in
      let long : length (map opposite_of (other_order m)) ≡ length (other_prices m (duals_of m v)) =
      Prim.omega (arith, ap length whole, length-append (map opposite_of (other_order m)) (neg_ℚ (v 0) ∷ []), length-append (other_prices m (duals_of m v)) (neg_ℚ (v 0) ∷ [])) in
      let parts = same_parts (map opposite_of (other_order m)) (neg_ℚ (v 0) ∷ []) (other_prices m (duals_of m v)) (neg_ℚ (v 0) ∷ []) long whole in
      parts.0

  order_long : (d : Duals Fraction) → length (other_order m) ≡ length (other_prices m d)
  order_long d =
      let v : ℕ → Fraction = λ w. zero in
      sym (length-map (λ w. neg_ℚ (v w)) (other_order m)) ∙ ap length (in_order v) ∙ others_long m (duals_of m v) d

  price_at : (v : ℕ → Fraction) (k : ℕ) → k < length (other_order m) → neg_ℚ (v (slice_index (other_order m) k)) ≡ other_price m (duals_of m v) k
  price_at v k h = sym (get_or-map (λ w. neg_ℚ (v w)) (other_order m) k 0 zero h) ∙ ap (λ ys. get_or ys k zero) (in_order v)

  -- two points stand at a column as their duals at its price
  same_at : (u v : ℕ → Fraction) (d e : Duals Fraction) (k : ℕ) → k < length (other_order m) → duals_of m u ≡ d → duals_of m v ≡ e → other_price m d k ≡ other_price m e k
      → u (slice_index (other_order m) k) ≡ v (slice_index (other_order m) k)
  same_at u v d e k h p q same = opposite_same _ _ (price_at u k h ∙ ap (λ f. other_price m f k) p ∙ same ∙ sym (ap (λ f. other_price m f k) q) ∙ sym (price_at v k h))

  more_at : (u v : ℕ → Fraction) (d e : Duals Fraction) (k : ℕ) → k < length (other_order m) → duals_of m u ≡ d → duals_of m v ≡ e → other_price m d k <ℚ other_price m e k
      → v (slice_index (other_order m) k) <ℚ u (slice_index (other_order m) k)
  more_at u v d e k h p q less = opposite_above (u (slice_index (other_order m) k)) (v (slice_index (other_order m) k))
      (subst₂ ◌<ℚ◌ (sym (price_at u k h ∙ ap (λ f. other_price m f k) p)) (sym (price_at v k h ∙ ap (λ f. other_price m f k) q)) less)

-- ---- proper duals are so at each price of energy
pub proper_at : (m : Parts) (d : Duals Fraction) (p : Fraction) → ProperDuals m d → ProperDuals m (with_energy d p)
proper_at m d p h = record { named = h.named; one_sided = h.one_sided; rooms_named = h.rooms_named; rooms_priced = h.rooms_priced; energy_alone = h.energy_alone }

-- ---- first best points
module _ (m : Parts) (x : Dispatch) (e : Duals Fraction) (c : Caps) (v : ℕ → Fraction) (market : IsMarket m) (is : ProperDuals m e) (holds : Supports m x e) (lose : LoseNothing m x e c)
    (first : IsFirstBest (price_system m x c) (other_order m) v) where
  abbrev s : System
  s = price_system m x c

  abbrev d : Duals Fraction
  d = duals_of m v

  prices : HasLeastPrices m x c v
  prices = law_of_best_points m x c v market first.best

  -- the sum of its prices is at most that of the duals that made the caps
  sum_most : sum_of_prices m d ≤ℚ sum_of_prices m e
  sum_most = let l = lose e holds (≤ℚ_refl (sum_of_prices m e)) in
      prices.least (with_energy e l.0) (proper_at m e l.0 is) l.1.supported l.1.keeps

  supported : Supports m x d
  supported = law_of_points m x c v market first.best.meets first.best.within

  -- the point of duals within the caps with the same sum is a best one
  module _ (g : Duals Fraction) (g_is : ProperDuals m g) (fits : Supports m x g) (keeps : KeepsCaps m x c g) (same : sum_of_prices m g ≡ sum_of_prices m d) where
    of_g : IsPointOf m x c g (point_of m g)
    of_g = law_of_duals m x c g market g_is fits keeps

    worth_same : objective s v ≡ objective s (point_of m g)
    worth_same = law_of_the_sum m x c v market ∙ ap neg_ℚ (sym same ∙ sym (ap (sum_of_prices m) of_g.back)) ∙ sym (law_of_the_sum m x c (point_of m g) market)

    best_of : IsBest s (point_of m g)
    best_of = record { meets = of_g.rows; within = of_g.bounds; best = λ w a b. subst (λ t. objective s w ≤ℚ t) worth_same (first.best.best w a b) }

  first_of : (g : Duals Fraction) → Supports m x g → ProperDuals m g → ¬ (GoesBefore m g d)
  first_of g fits g_is (by_sum less) =
      let l = lose g fits (≤ℚ_trans (sum_of_prices m g) (sum_of_prices m d) (sum_of_prices m e) (<ℚ-≤ℚ (sum_of_prices m g) (sum_of_prices m d) less) sum_most) in
      <ℚ-not-≤ℚ (sum_of_prices m g) (sum_of_prices m d) less (prices.least (with_energy g l.0) (proper_at m g l.0 g_is) l.1.supported l.1.keeps)
  first_of g fits g_is (by_price k h same before less) =
      let l = lose g fits (≤ℚ_trans (sum_of_prices m g) (sum_of_prices m d) (sum_of_prices m e) (≤ℚ_of_same (sum_of_prices m g) (sum_of_prices m d) same) sum_most) in
      let f : Duals Fraction = with_energy g l.0 in
      let f_is : ProperDuals m f = proper_at m g l.0 g_is in
      let point = of_g f f_is l.1.supported l.1.keeps same in
      let long = order_long m market g in
      first.first (point_of m f) (best_of f f_is l.1.supported l.1.keeps same) (record {
        place = k;
        within = Prim.omega (arith, h, long);
        same = λ i lt. same_at m market (point_of m f) v f d i (Prim.omega (arith, h, long, lt)) point.back refl (before i lt);
        more = more_at m market (point_of m f) v f d k (Prim.omega (arith, h, long)) point.back refl less;
      })

  first_prices : HasFirstPrices m x d
  first_prices = record { supported = supported; proper = prices.proper; first = first_of }

pub law_of_first_points : LawOfFirstPoints
law_of_first_points m x e c v market is holds lose first =
    first_prices m x e c v market is holds lose
    (first_of_more (price_system m x c) (other_order m) 0 v (subst (λ names. IsFirstBest (price_system m x c) names v) (order_parts m) first))
