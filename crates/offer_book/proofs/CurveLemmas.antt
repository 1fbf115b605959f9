-- Prices in order, and the blocks of a stair by their places.
use Rattle.std.specs.Prelude.{◌≡◌, ◌≢◌, ◌⊎◌, ℕ, ◌+◌, ◌-◌, ◌<◌, ◌≤◌, ℤ, Bool, true, false, List, [], ◌∷◌, ◌++◌, length, map, filter, cond, take, slice_set, AllPairs, Option, Some, refl}
use Rattle.std.specs.Int.Signed.{le_z_yes}
use Rattle.std.specs.List.{last_or}
use Rattle.std.proofs.Common.{zero, suc, add-one, arith, inl, inr, get_or, ap, sym, ◌∙◌, subst}
use Rattle.std.proofs.lemmas.Bool.{cases_eq}
use Rattle.std.proofs.lemmas.Int.{ints}
use Rattle.std.proofs.lemmas.Grind.{get_or-set_at}
use Rattle.std.proofs.lemmas.List.{get_or-set_other, length-set, map-append}
use Rattle.std.proofs.lemmas.List.Elements.{filter-append, filter_more}
use Rattle.market_model.specs.declared.participants.Side.{Side}
use Rattle.market_model.specs.declared.participants.Side.TheVariants.{Sell, Buy}
use Rattle.market_model.specs.Dispatch.{places}
use Rattle.market_model.proofs.MorePlaces.{places_more}
use Rattle.offer_book.specs.OfferTable.{follows}
use Rattle.offer_book.specs.Offers.{InOrder}

-- ---- the order of prices
pub order_trans : (side : Side) (a b c : ℤ) → InOrder side a b → InOrder side b c → InOrder side a c
order_trans Sell a b c h k = Prim.omega (arith, ints, h, k)
order_trans Buy a b c h k = Prim.omega (arith, ints, h, k)

pub follows_order : (side : Side) (a b : ℤ) → follows side (Some a) b ≡ true → InOrder side a b
follows_order Sell a b e = le_z_yes {a = a} {b = b} (Prim.rw e tt)
follows_order Buy a b e = le_z_yes {a = b} {b = a} (Prim.rw e tt)

-- what follows the last of prices in order comes after each
pub last_follows : (side : Side) (price : ℤ) (o : Option ℤ) (ps : List ℤ) → follows side (last_or o ps) price ≡ true → AllPairs (InOrder side) ps
    → (k : ℕ) (d : ℤ) → k < length ps → InOrder side (get_or ps k d) price
last_follows side price o [] e h k d within = absurd (Prim.omega (arith, within))
last_follows side price o (x ∷ []) e h zero d within = follows_order side x price e
last_follows side price o (x ∷ []) e h (suc k) d within = absurd (Prim.omega (arith, within))
last_follows side price o (x ∷ y ∷ ps) e h zero d within =
    let rest = last_follows side price (Some x) (y ∷ ps) e (λ i j d below inside. h (suc i) (suc j) d (Prim.omega (arith, below)) (Prim.omega (arith, inside))) 0 d (Prim.omega arith) in
    order_trans side x y price (h 0 1 d (Prim.omega arith) (Prim.omega arith)) rest
last_follows side price o (x ∷ y ∷ ps) e h (suc k) d within =
    last_follows side price (Some x) (y ∷ ps) e (λ i j d below inside. h (suc i) (suc j) d (Prim.omega (arith, below)) (Prim.omega (arith, inside))) k d (Prim.omega (arith, within))

-- prices in order with one changed, which is in order with the one before and the one after
pub order-set : (side : Side) (ps : List ℤ) (k : ℕ) (price : ℤ) → AllPairs (InOrder side) ps
    → ((i : ℕ) (d : ℤ) → suc i ≡ k → i < length ps → InOrder side (get_or ps i d) price)
    → ((d : ℤ) → suc k < length ps → InOrder side price (get_or ps (suc k) d))
    → AllPairs (InOrder side) (slice_set ps k price)
order-set side ps k price h before after i j d below inside = by (cases_eq i k) (cases_eq j k)
  where
    long : length (slice_set ps k price) ≡ length ps
    long = length-set ps k price

    j_inside : j < length ps
    j_inside = Prim.omega (arith, long, inside)

    up : (x : ℤ) → suc k ≤ j → InOrder side price (get_or ps j d)
    up x over = from (cases_eq j (suc k))
      where
        from : (j ≡ suc k) ⊎ (j ≢ suc k) → InOrder side price (get_or ps j d)
        from (inl e) = subst (λ (n : ℕ). InOrder side price (get_or ps n d)) (sym e) (after d (Prim.omega (arith, e, j_inside)))
        from (inr n) = order_trans side price (get_or ps (suc k) d) (get_or ps j d) (after d (Prim.omega (arith, over, n, j_inside))) (h (suc k) j d (Prim.omega (arith, over, n)) j_inside)

    by : (i ≡ k) ⊎ (i ≢ k) → (j ≡ k) ⊎ (j ≢ k) → InOrder side (get_or (slice_set ps k price) i d) (get_or (slice_set ps k price) j d)
    by (inl e) (inl f) = absurd (Prim.omega (arith, e, f, below))
    by (inl e) (inr n) = Prim.rw (get_or-set_at ps k i price d e (Prim.omega (arith, e, below, j_inside)), get_or-set_other ps k j price d n) (up price (Prim.omega (arith, e, below)))
    by (inr n) (inl f) = Prim.rw (get_or-set_other ps k i price d n, get_or-set_at ps k j price d f (Prim.omega (arith, f, j_inside))) (down (cases_eq (suc i) k))
      where
        down : (suc i ≡ k) ⊎ (suc i ≢ k) → InOrder side (get_or ps i d) price
        down (inl e) = before i d e (Prim.omega (arith, below, j_inside))
        down (inr m) =
            let e : suc (k - 1) ≡ k = Prim.omega (arith, f, below) in
            order_trans side (get_or ps i d) (get_or ps (k - 1) d) price (h i (k - 1) d (Prim.omega (arith, f, below, m)) (Prim.omega (arith, f, j_inside, below))) (before (k - 1) d e (Prim.omega (arith, f, j_inside, below)))
    by (inr n) (inr m) = Prim.rw (get_or-set_other ps k i price d n, get_or-set_other ps k j price d m) (h i j d below j_inside)

-- ---- what of a list passes a test, with one item changed
module _ {X : Type 0} (q : X → Bool) where
  -- another item that doesn't pass
  pub filter-set_off : (xs : List X) (j : ℕ) (x d : X) → q (get_or xs j d) ≡ false → q x ≡ false → filter q (slice_set xs j x) ≡ filter q xs
  filter-set_off [] j x d e f = refl
  filter-set_off (y ∷ xs) zero x d e f = Prim.rw (e, f) refl
  filter-set_off (y ∷ xs) (suc j) x d e f = ap (λ t. cond (q y) (y ∷ t) t) (filter-set_off xs j x d e f)

  -- another item that passes, in its place among those that do
  pub filter-set_on : (xs : List X) (j : ℕ) (x d : X) → j < length xs → q (get_or xs j d) ≡ true → q x ≡ true → filter q (slice_set xs j x) ≡ slice_set (filter q xs) (length (filter q (take j xs))) x
  filter-set_on [] j x d inside e f = absurd (Prim.omega (arith, inside))
  filter-set_on (y ∷ xs) zero x d inside e f = Prim.rw (e, f) refl
  filter-set_on (y ∷ xs) (suc j) x d inside e f = by (q y) (filter-set_on xs j x d (Prim.omega (arith, inside)) e f)
    where
      by : (t : Bool) → filter q (slice_set xs j x) ≡ slice_set (filter q xs) (length (filter q (take j xs))) x
          → cond t (y ∷ filter q (slice_set xs j x)) (filter q (slice_set xs j x)) ≡ slice_set (cond t (y ∷ filter q xs) (filter q xs)) (length (cond t (y ∷ filter q (take j xs)) (filter q (take j xs)))) x
      by true rest = ap (λ t. y ∷ t) rest
      by false rest = rest

  -- what a test and a function can't tell from the old item leaves the function's values of those that pass
  pub map-filter-set : {Y : Type 0} (f : X → Y) (xs : List X) (j : ℕ) (x d : X) → q x ≡ q (get_or xs j d) → f x ≡ f (get_or xs j d) → map f (filter q (slice_set xs j x)) ≡ map f (filter q xs)
  map-filter-set f [] j x d e g = refl
  map-filter-set f (y ∷ xs) zero x d e g = ap (λ (t : Bool). map f (cond t (x ∷ filter q xs) (filter q xs))) e ∙ by (q y)
    where
      by : (t : Bool) → map f (cond t (x ∷ filter q xs) (filter q xs)) ≡ map f (cond t (y ∷ filter q xs) (filter q xs))
      by true = ap (λ v. v ∷ map f (filter q xs)) g
      by false = refl
  map-filter-set f (y ∷ xs) (suc j) x d e g = by (q y) (map-filter-set f xs j x d e g)
    where
      by : (t : Bool) → map f (filter q (slice_set xs j x)) ≡ map f (filter q xs)
          → map f (cond t (y ∷ filter q (slice_set xs j x)) (filter q (slice_set xs j x))) ≡ map f (cond t (y ∷ filter q xs) (filter q xs))
      by true rest = ap (λ t. f y ∷ t) rest
      by false rest = rest

  -- those of the first that pass are the items at the places that pass
  pub filter-places : (p : ℕ → Bool) (xs : List X) (d : X) (i : ℕ) → i ≤ length xs → ((k : ℕ) → k < length xs → p k ≡ q (get_or xs k d))
      → filter q (take i xs) ≡ map (λ k. get_or xs k d) (filter p (places i))
  filter-places p xs d zero h agree = refl
  filter-places p xs d (suc i) h agree = more (filter-places p xs d i (Prim.omega (arith, h)) agree)
    where
      one : (t : Bool) → cond t (get_or xs i d ∷ []) [] ≡ map (λ k. get_or xs k d) (cond t (i ∷ []) [])
      one true = refl
      one false = refl

      step : filter q (take i xs) ≡ map (λ k. get_or xs k d) (filter p (places i)) → filter q (take (i + 1) xs) ≡ map (λ k. get_or xs k d) (filter p (places (i + 1)))
      step rest =
          filter_more q xs i d (Prim.omega (arith, h))
          ∙ ap (λ t. t ++ cond (q (get_or xs i d)) (get_or xs i d ∷ []) []) rest
          ∙ ap (λ (t : Bool). map (λ k. get_or xs k d) (filter p (places i)) ++ cond t (get_or xs i d ∷ []) []) (sym (agree i (Prim.omega (arith, h))))
          ∙ ap (λ t. map (λ k. get_or xs k d) (filter p (places i)) ++ t) (one (p i))
          ∙ sym (map-append (λ k. get_or xs k d) (filter p (places i)) (filter p (i ∷ [])))
          ∙ ap (map (λ k. get_or xs k d)) (sym (filter-append p (places i) (i ∷ [])))
          ∙ ap (λ ks. map (λ k. get_or xs k d) (filter p ks)) (sym (places_more i))

      more : filter q (take i xs) ≡ map (λ k. get_or xs k d) (filter p (places i)) → filter q (take (suc i) xs) ≡ map (λ k. get_or xs k d) (filter p (places (suc i)))
      more rest = Prim.rw add-one at (step rest)
