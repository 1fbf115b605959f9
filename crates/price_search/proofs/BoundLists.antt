-- Which of two numbers is the lower, and prices and bounds with one more.
use Rattle.std.specs.Prelude.{◌≡◌, ℕ, ◌+◌, ◌<◌, pos, true, false, List, [], ◌∷◌, ◌++◌, length, map, take}
use Rattle.std.specs.List.{flat_map}
use Rattle.std.proofs.Common.{ap, ap₂, sym, ◌∙◌, inl, inr, subst, append_assoc, get_or}
use Rattle.std.proofs.lemmas.List.{append-nil, flat_map_more, map-append, map_more, take_more}
use Rattle.fraction_theory.specs.Fraction.{Fraction, whole, ◌+ℚ◌}
use Rattle.fraction_theory.specs.Order.{◌<ℚ◌, ◌≤ℚ◌}
use Rattle.fraction_theory.proofs.OrderLaws.{<ℚ-not-≤ℚ}
use Rattle.market_model.specs.declared.participants.Parts.{Parts}
use Rattle.market_model.specs.declared.limits.Row.{Row}
use Rattle.market_model.specs.Dispatch.{Dispatch, places}
use Rattle.market_model.proofs.MorePlaces.{places_more}
use Rattle.limit_screen.specs.Reaching.{is_below}
use Rattle.limit_screen.proofs.ReachLemmas.{below_tells}
use Rattle.simplex_core.specs.declared.bounds.Bounds.{Bounds}
use Rattle.price_system.specs.declared.variables.Variable.{Variable}
use Rattle.price_system.specs.declared.variables.Variable.TheVariants.{Up, Down, Room}
use Rattle.price_system.specs.PriceSystem.{Caps, column_price, low, high, two_sides}
use Rattle.price_search.specs.PriceBounds.{AreBounds}

-- whether a number is below another
pub is_lower : (x y : Fraction) → x <ℚ y → true ≡ is_below x y
is_lower x y less = elim (below_tells x y) [ inl t ↦ sym t.0 | inr t ↦ absurd (<ℚ-not-≤ℚ x y less t.1) ]

pub not_lower : (x y : Fraction) → y ≤ℚ x → false ≡ is_below x y
not_lower x y more = elim (below_tells x y) [ inl t ↦ absurd (<ℚ-not-≤ℚ x y t.1 more) | inr t ↦ sym t.0 ]

-- one and a number
pub with_one : (sum one x : Fraction) → sum ≡ one +ℚ x → one ≡ whole (pos 1) → sum ≡ whole (pos 1) +ℚ x
with_one sum one x e is = e ∙ ap (λ (t : Fraction). t +ℚ x) is

-- a number more at the end
pub map-pushed : {A B Y : Type 0} (value : A → Y) (f : B → Y) (xs : List A) (vs : List B) (x : A) (v : B) → map value xs ≡ map f vs → value x ≡ f v → map value (xs ++ x ∷ []) ≡ map f (vs ++ v ∷ [])
map-pushed {A} {B} {Y} value f xs vs x v before here = map-append value xs (x ∷ []) ∙ ap₂ (λ (us ws : List Y). us ++ ws) before (ap (λ (z : Y). z ∷ []) here) ∙ sym (map-append f vs (v ∷ []))

-- one price for each side of a limit
pub sides_pushed : {N : Type 0} (value : N → Fraction) (prices p1 p2 : List N) (one : N) (us : List Variable) (r : Row) → value one ≡ whole (pos 1) → map value prices ≡ map column_price us → p1 ≡ prices ++ one ∷ [] → p2 ≡ p1 ++ one ∷ []
    → map value p2 ≡ map column_price (us ++ two_sides r)
sides_pushed value prices p1 p2 one us r is are e1 e2 =
    ap (map value) e2
    ∙ map-pushed value column_price p1 (us ++ Up r ∷ []) one (Down r) (ap (map value) e1 ∙ map-pushed value column_price prices us one (Up r) are is) is
    ∙ ap (map column_price) (append_assoc us (Up r ∷ []) (Down r ∷ []))

-- and one for a room
pub room_pushed : {N : Type 0} (value : N → Fraction) (prices new : List N) (one : N) (front : List Variable) (us : List ℕ) (k d : ℕ) → k < length us → value one ≡ whole (pos 1) → map value prices ≡ map column_price (front ++ map Room (take k us))
    → new ≡ prices ++ one ∷ [] → map value new ≡ map column_price (front ++ map Room (take (k + 1) us))
room_pushed value prices new one front us k d lt is are e =
    ap (map value) e ∙ map-pushed value column_price prices (front ++ map Room (take k us)) one (Room (get_or us k d)) are is
    ∙ ap (map column_price) (append_assoc front (map Room (take k us)) (Room (get_or us k d) ∷ []) ∙ ap (λ (ws : List Variable). front ++ ws) (sym (map_more Room us k d lt)))

-- the images of places, with one more
pub places_mapped : {A : Type 0} (f : ℕ → A) (k : ℕ) → map f (places (k + 1)) ≡ map f (places k) ++ f k ∷ []
places_mapped f k = ap (map f) (places_more k) ∙ map-append f (places k) (k ∷ [])

-- and the sides of rows
pub sides_more : (us : List Variable) (rows : List Row) (k : ℕ) (d : Row) → k < length rows → (us ++ flat_map two_sides (take k rows)) ++ two_sides (get_or rows k d) ≡ us ++ flat_map two_sides (take (k + 1) rows)
sides_more us rows k d lt = flat_map_more two_sides us (take k rows) (get_or rows k d) ∙ ap (λ (rs : List Row). us ++ flat_map two_sides rs) (sym (take_more rows k d lt))

module _ {N : Type 0} (value : N → Fraction) (m : Parts) (x : Dispatch) (c : Caps) where
  -- one more
  pub are_pushed : (vs : List Variable) (v : Variable) (bs new : List (Bounds N)) (b : Bounds N) → new ≡ bs ++ b ∷ [] → AreBounds value m x c vs bs → value b.low ≡ low m x c v → value b.high ≡ high m x c v → AreBounds value m x c (vs ++ v ∷ []) new
  are_pushed vs v bs new b pushed are l h =
      subst (AreBounds value m x c (vs ++ v ∷ [])) (sym pushed)
      (record {
        lows = map-pushed (λ (t : Bounds N). value t.low) (low m x c) bs vs b v are.lows l;
        highs = map-pushed (λ (t : Bounds N). value t.high) (high m x c) bs vs b v are.highs h;
      })

  -- none more
  pub are_alone : (vs : List Variable) (bs : List (Bounds N)) → AreBounds value m x c vs bs → AreBounds value m x c (vs ++ []) bs
  are_alone vs bs are = subst (λ (zs : List Variable). AreBounds value m x c zs bs) (sym (append-nil vs)) are

  -- one more behind others
  pub are_more : (vs us all : List Variable) (v : Variable) (bs new : List (Bounds N)) (b : Bounds N) → all ≡ us ++ v ∷ [] → new ≡ bs ++ b ∷ [] → AreBounds value m x c (vs ++ us) bs → value b.low ≡ low m x c v → value b.high ≡ high m x c v
      → AreBounds value m x c (vs ++ all) new
  are_more vs us all v bs new b is pushed are l h =
      subst (λ (zs : List Variable). AreBounds value m x c (vs ++ zs) new) (sym is)
      (subst (λ (zs : List Variable). AreBounds value m x c zs new) (append_assoc vs us (v ∷ [])) (are_pushed (vs ++ us) v bs new b pushed are l h))

  -- more behind others
  pub are_behind : (vs us ws : List Variable) (bs : List (Bounds N)) → AreBounds value m x c ((vs ++ us) ++ ws) bs → AreBounds value m x c (vs ++ (us ++ ws)) bs
  are_behind vs us ws bs are = subst (λ (zs : List Variable). AreBounds value m x c zs bs) (append_assoc vs us ws) are
