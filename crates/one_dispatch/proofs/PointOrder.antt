-- The dispatch of the point that goes first goes first.
use Rattle.std.specs.Prelude.{◌≡◌, ℕ, ◌+◌, ◌-◌, ◌<◌, length, map, slice_index}
use Rattle.std.proofs.Common.{arith, ap, sym, ◌∙◌, subst, subst₂, inl, inr}
use Rattle.std.proofs.lemmas.Bool.{cases_lt}
use Rattle.std.proofs.lemmas.List.{get_or_append_left, get_or-append-add, length-append}
use Rattle.std.proofs.lemmas.List.FromFn.{length-range_with_len, length-map-range_with_len, get_or-map-range_with_len}
use Rattle.fraction_theory.specs.Fraction.{Fraction}
use Rattle.fraction_theory.specs.Order.{◌≤ℚ◌, ◌<ℚ◌}
use Rattle.fraction_theory.proofs.OrderLaws.{≤ℚ_trans}
use Rattle.linear_system.specs.Systems.{System, MeetsRows, InBounds, objective}
use Rattle.simplex_theory.specs.States.{IsBest}
use Rattle.market_model.specs.declared.participants.Parts.{Parts}
use Rattle.market_model.specs.Dispatch.{Dispatch, zero as nil, places, accepted, reserved}
use Rattle.market_model.specs.Market.{IsMarket}
use Rattle.market_model.specs.Optimality.{Taken, FeasibleFor, BestFor, welfare_for}
use Rattle.market_model.specs.Reserves.{offer_places}
use Rattle.market_model.proofs.LostLemmas.{place_at}
use Rattle.market_model.proofs.RowMembers.{Contains-places}
use Rattle.market_system.specs.MarketSystem.{offer_name, point_dispatch, system_of}
use Rattle.market_system.specs.SolvedLaws.{AreTaken, PointsAreDispatches}
use Rattle.market_system.proofs.LawsOfSolving.{law_of_the_points}
use Rattle.optimal_face.specs.FirstPoints.{GoesBefore as PointGoesBefore, IsFirstBest}
use Rattle.one_dispatch.specs.Laws.{LawOfThePoint}
use Rattle.market_system.specs.Ties.{GoesBefore, by_block, by_offer, dispatch_names}

-- ---- the names in the market's order
names_long : (m : Parts) → length (dispatch_names m) ≡ length m.blocks + length m.reserve.offers
names_long m =
    let all : length (dispatch_names m) ≡ length (places (length m.blocks)) + length (map (offer_name m) (offer_places m)) = length-append (places (length m.blocks)) (map (offer_name m) (offer_places m)) in
    Prim.omega (arith, all, length-range_with_len 0 (length m.blocks), length-map-range_with_len (offer_name m) 0 (length m.reserve.offers))

name_of_block : (m : Parts) (j : ℕ) → j < length m.blocks → slice_index (dispatch_names m) j ≡ j
name_of_block m j h =
    get_or_append_left (places (length m.blocks)) (map (offer_name m) (offer_places m)) 0 j (Prim.omega (arith, h, length-range_with_len 0 (length m.blocks))) ∙ place_at (length m.blocks) j 0 h

name_of_offer : (m : Parts) (n : ℕ) → n < length m.reserve.offers → slice_index (dispatch_names m) (length m.blocks + n) ≡ offer_name m n
name_of_offer m n h =
    ap (λ (k : ℕ). slice_index (dispatch_names m) (k + n)) (sym (length-range_with_len 0 (length m.blocks)))
    ∙ get_or-append-add (places (length m.blocks)) (map (offer_name m) (offer_places m)) n 0
    ∙ get_or-map-range_with_len (offer_name m) 0 (length m.reserve.offers) n n 0 h (Prim.omega arith)

-- ---- points and dispatches
-- a point has at the blocks and at the offers what a dispatch accepts
pub record IsPointOf (m : Parts) (x : Dispatch) (v : ℕ → Fraction) : Type 0 where
  pub blocks : (j : ℕ) → j < length m.blocks → v j ≡ accepted x j
  pub offers : (n : ℕ) → n < length m.reserve.offers → v (offer_name m n) ≡ reserved x n

at_block : (m : Parts) (x : Dispatch) (v : ℕ → Fraction) → IsPointOf m x v → (j : ℕ) → j < length m.blocks → v (slice_index (dispatch_names m) j) ≡ accepted x j
at_block m x v p j h = ap v (name_of_block m j h) ∙ p.blocks j h

at_offer : (m : Parts) (x : Dispatch) (v : ℕ → Fraction) → IsPointOf m x v → (n : ℕ) → n < length m.reserve.offers → v (slice_index (dispatch_names m) (length m.blocks + n)) ≡ reserved x n
at_offer m x v p n h = ap v (name_of_offer m n h) ∙ p.offers n h

-- any point is one of its own dispatch
own_point : (m : Parts) (v : ℕ → Fraction) → IsPointOf m (point_dispatch m v) v
own_point m v = record {
  blocks = λ j h. sym (get_or-map-range_with_len v 0 (length m.blocks) j j nil h (Prim.omega arith));
  offers = λ n h. sym (get_or-map-range_with_len (λ k. v (offer_name m k)) 0 (length m.reserve.offers) n n nil h (Prim.omega arith));
}

-- of two points one goes before the other where its dispatch does
pub goes_before : (m : Parts) (y x : Dispatch) (u v : ℕ → Fraction) → IsPointOf m y u → IsPointOf m x v → GoesBefore m y x → PointGoesBefore (dispatch_names m) u v
goes_before m y x u v p q (by_block j h same more) = record {
  place = j;
  within = Prim.omega (arith, h, names_long m);
  same = λ k lt. let inside : k < length m.blocks = Prim.omega (arith, lt, h) in at_block m y u p k inside ∙ same k lt ∙ sym (at_block m x v q k inside);
  more = subst₂ ◌<ℚ◌ (sym (at_block m x v q j h)) (sym (at_block m y u p j h)) more;
}
goes_before m y x u v p q (by_offer n h blocks same more) = record {
  place = length m.blocks + n;
  within = Prim.omega (arith, h, names_long m);
  same = λ k lt. elim (cases_lt k (length m.blocks)) [
    | inl inside ↦ at_block m y u p k inside ∙ blocks k inside ∙ sym (at_block m x v q k inside)
    | inr behind ↦
        let there : length m.blocks + (k - length m.blocks) ≡ k = Prim.omega (arith, behind) in
        let before : k - length m.blocks < n = Prim.omega (arith, behind, lt) in
        let inside : k - length m.blocks < length m.reserve.offers = Prim.omega (arith, before, h) in
        subst (λ (w : ℕ). u (slice_index (dispatch_names m) w) ≡ v (slice_index (dispatch_names m) w)) there
        (at_offer m y u p (k - length m.blocks) inside ∙ same (k - length m.blocks) before ∙ sym (at_offer m x v q (k - length m.blocks) inside))
  ];
  more = subst₂ ◌<ℚ◌ (sym (at_offer m x v q n h)) (sym (at_offer m y u p n h)) more;
}

-- ---- the point that goes first
module _ (m : Parts) (t : Taken) (v : ℕ → Fraction) (market : IsMarket m) (are : AreTaken m t) (first : IsFirstBest (system_of m t) (dispatch_names m) v) where
  abbrev s : System
  s = system_of m t

  abbrev x : Dispatch
  x = point_dispatch m v

  points : PointsAreDispatches m t
  points = law_of_the_points m t market are

  feasible : FeasibleFor m t x
  feasible = (points.dispatch v first.best.meets first.best.within).0

  worth : objective s v ≤ℚ welfare_for m t.limits x
  worth = (points.dispatch v first.best.meets first.best.within).1

  best : BestFor m t x
  best = record {
    feasible = feasible;
    best = λ y f. let p = points.point y f in
        ≤ℚ_trans (welfare_for m t.limits y) (objective s v) (welfare_for m t.limits x) (subst (λ w. w ≤ℚ objective s v) p.3 (first.best.best p.0 p.1 p.2)) worth;
  }

  -- a point that is worth no less is a best one
  as_good : (u : ℕ → Fraction) → MeetsRows s u → InBounds s u → objective s v ≤ℚ objective s u → IsBest s u
  as_good u meets within h = record {
    meets = meets;
    within = within;
    best = λ w row bounds. ≤ℚ_trans (objective s w) (objective s v) (objective s u) (first.best.best w row bounds) h;
  }

  none_before : (y : Dispatch) → BestFor m t y → ¬ (GoesBefore m y x)
  none_before y b goes =
      let p = points.point y b.feasible in
      first.first p.0
      (as_good p.0 p.1 p.2 (subst (λ w. objective s v ≤ℚ w) (sym p.3) (≤ℚ_trans (objective s v) (welfare_for m t.limits x) (welfare_for m t.limits y) worth (b.best x feasible))))
      (goes_before m y x p.0 v (record { blocks = λ j h. p.4 j (Contains-places (length m.blocks) j h); offers = λ n h. p.5 n (Contains-places (length m.reserve.offers) n h) }) (own_point m v) goes)

pub law_of_the_point : LawOfThePoint
law_of_the_point m t v market are first = record { best = best m t v market are first; first = none_before m t v market are first }
