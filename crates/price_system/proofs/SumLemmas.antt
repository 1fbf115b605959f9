-- What a point is worth, and the order of its columns.
use Rattle.std.specs.Prelude.{◌≡◌, ℕ, List, [], ◌∷◌, ◌++◌, map, reverse, refl}
use Rattle.std.specs.List.{flat_map}
use Rattle.std.proofs.Common.{ap, ap₂, sym, ◌∙◌, append_assoc}
use Rattle.std.proofs.lemmas.List.{map-append, reverse-append}
use Rattle.std.proofs.lemmas.List.Concat.{flat_map-append}
use Rattle.fraction_theory.specs.Fraction.{Fraction, neg_ℚ}
use Rattle.linear_system.specs.Systems.{System, objective}
use Rattle.market_model.specs.declared.answered.Duals.{Duals}
use Rattle.market_model.specs.declared.limits.Row.{Row}
use Rattle.market_model.specs.declared.participants.Parts.{Parts}
use Rattle.market_model.specs.LimitRows.{rows}
use Rattle.market_model.specs.Optimality.{room_price}
use Rattle.market_model.specs.Reserves.{reserve_units}
use Rattle.market_model.proofs.ListSteps.{map-map}
use Rattle.one_price.specs.FirstPrices.{limit_prices, room_prices, two_prices}
use Rattle.price_system.specs.Laws.{LawOfTheOrder, LawOfTheSum}
use Rattle.price_system.specs.PriceSystem.{down_name, duals_of, name, price_order, price_system, prices, room_name, up_name}
use Rattle.price_system.specs.declared.variables.Variable.{Variable}
use Rattle.price_system.specs.declared.variables.Variable.TheVariants.{Energy, Reserve, Up, Down, Room}
use Rattle.price_system.proofs.BackLemmas.{Contains-from_reverse, flat-members, map-members}
use Rattle.price_system.proofs.DualLemmas.{agrees-made, down-made, room-made, up-made}
use Rattle.price_system.proofs.NameLemmas.{sides}
use Rattle.price_system.proofs.WorthLemmas.{price-at, sum-priced}

-- ---- the sum
pub law_of_the_sum : LawOfTheSum
unfolding objective
law_of_the_sum m x c v market =
    let s : System = price_system m x c in
    sum-priced m x c market v (duals_of m v) (agrees-made m market v) s.price (price-at m x c market)

-- ---- the order
map-reverse : {X Y : Type 0} (f : X → Y) (xs : List X) → map f (reverse xs) ≡ reverse (map f xs)
map-reverse f [] = refl
map-reverse f (x ∷ xs) =
    ap (map f) (reverse-append (x ∷ []) xs) ∙ map-append f (reverse xs) (x ∷ [])
    ∙ ap (λ ys. ys ++ f x ∷ []) (map-reverse f xs) ∙ sym (reverse-append (f x ∷ []) (map f xs))

module _ (m : Parts) (v : ℕ → Fraction) where
  abbrev price_of : Variable → Fraction
  price_of w = neg_ℚ (v (name m w))

  abbrev down_first : Row → List Fraction
  down_first r = neg_ℚ (v (down_name m r)) ∷ neg_ℚ (v (up_name m r)) ∷ []

  sides-reverse : (rs : List Row) → reverse (map price_of (sides rs)) ≡ flat_map down_first (reverse rs)
  sides-reverse [] = refl
  sides-reverse (r ∷ rs) =
      reverse-append (price_of (Up r) ∷ price_of (Down r) ∷ []) (map price_of (sides rs))
      ∙ ap (λ ys. ys ++ down_first r) (sides-reverse rs)
      ∙ sym (ap (flat_map down_first) (reverse-append (r ∷ []) rs) ∙ flat_map-append down_first (reverse rs) (r ∷ []))

  rooms-reverse : reverse (map price_of (map Room (reserve_units m))) ≡ map (λ u. neg_ℚ (v (room_name m u))) (reverse (reserve_units m))
  rooms-reverse = ap reverse (map-map Room price_of (reserve_units m)) ∙ sym (map-reverse (λ u. neg_ℚ (v (room_name m u))) (reserve_units m))

  in_order : map (λ w. neg_ℚ (v w)) (price_order m)
      ≡ (map (λ u. neg_ℚ (v (room_name m u))) (reverse (reserve_units m)) ++ flat_map down_first (reverse (rows m))) ++ (price_of Reserve ∷ price_of Energy ∷ [])
  in_order =
      map-reverse (λ w. neg_ℚ (v w)) (map (name m) (prices m))
      ∙ ap reverse (map-map (name m) (λ w. neg_ℚ (v w)) (prices m))
      ∙ reverse-append (price_of Energy ∷ price_of Reserve ∷ []) (map price_of (sides (rows m) ++ map Room (reserve_units m)))
      ∙ ap (λ ys. ys ++ (price_of Reserve ∷ price_of Energy ∷ []))
      (ap reverse (map-append price_of (sides (rows m)) (map Room (reserve_units m)))
      ∙ reverse-append (map price_of (sides (rows m))) (map price_of (map Room (reserve_units m)))
      ∙ ap₂ ◌++◌ rooms-reverse (sides-reverse (rows m)))

pub law_of_the_order : LawOfTheOrder
law_of_the_order m v market =
    let d : Duals Fraction = duals_of m v in
    in_order m v
    ∙ ap (λ ys. ys ++ (neg_ℚ (v 1) ∷ neg_ℚ (v 0) ∷ []))
    (ap₂ ◌++◌
    (map-members (λ u. neg_ℚ (v (room_name m u))) (room_price m d) (reverse (reserve_units m)) (λ u k. sym (room-made m market v u (Contains-from_reverse (reserve_units m) u k))))
    (flat-members (down_first m v) (two_prices m d) (reverse (rows m))
    (λ r k.
    let l = Contains-from_reverse (rows m) r k in
    ap₂ (λ (a b : Fraction). a ∷ b ∷ []) (sym (down-made m market v r l)) (sym (up-made m market v r l)))))
    ∙ sym (append_assoc (room_prices m d ++ limit_prices m d) (d.reserve ∷ []) (neg_ℚ (v 0) ∷ []))
