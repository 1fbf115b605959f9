-- Lists that are filled place by place.
use Rattle.std.specs.Prelude.{◌≡◌, ℕ, ◌+◌, ◌<◌, ◌≤◌, List, [], ◌∷◌, ◌++◌, map, length, take, slice_index}
use Rattle.std.proofs.Common.{suc, arith, ap, ap₂, sym, ◌∙◌, refl, append_assoc}
use Rattle.std.proofs.lemmas.List.{map-append, take_more, take_all}
use Rattle.std.specs.List.{Contains}
use Rattle.market_model.specs.Dispatch.{places}
use Rattle.market_model.proofs.MorePlaces.{places_more}

-- a number more at its end
pub map-pushed : {N Y : Type 0} (value : N → Y) (xs : List N) (ys : List Y) (x : N) (y : Y) → map value xs ≡ ys → value x ≡ y → map value (xs ++ x ∷ []) ≡ ys ++ y ∷ []
map-pushed value xs ys x y before here = map-append value xs (x ∷ []) ∙ ap₂ (λ (us vs : List _). us ++ vs) before (ap (λ z. z ∷ []) here)

pub places_filled : {N Y : Type 0} (value : N → Y) (f : ℕ → Y) (xs : List N) (k : ℕ) (x : N) → map value xs ≡ map f (places k) → value x ≡ f k → map value (xs ++ x ∷ []) ≡ map f (places (k + 1))
places_filled value f xs k x before here = map-pushed value xs (map f (places k)) x (f k) before here ∙ sym (ap (map f) (places_more k) ∙ map-append f (places k) (k ∷ []))

-- the same behind other numbers
pub filled_behind : {N Y : Type 0} (value : N → Y) (f : ℕ → Y) (ys : List Y) (xs : List N) (k : ℕ) (x : N) → map value xs ≡ ys ++ map f (places k) → value x ≡ f k → map value (xs ++ x ∷ []) ≡ ys ++ map f (places (k + 1))
filled_behind {N} {Y} value f ys xs k x before here =
    map-pushed value xs (ys ++ map f (places k)) x (f k) before here ∙ append_assoc ys (map f (places k)) (f k ∷ [])
    ∙ ap (λ (zs : List Y). ys ++ zs) (sym (ap (map f) (places_more k) ∙ map-append f (places k) (k ∷ [])))

-- the same over names, by rank
pub names_filled : {N Y : Type 0} (value : N → Y) (f : ℕ → Y) (names : List ℕ) (xs : List N) (k : ℕ) (x : N) → k < length names → map value xs ≡ map f (take k names) → value x ≡ f (slice_index names k)
    → map value (xs ++ x ∷ []) ≡ map f (take (k + 1) names)
names_filled value f names xs k x lt before here =
    map-pushed value xs (map f (take k names)) x (f (slice_index names k)) before here
    ∙ sym (ap (map f) (take_more names k 0 lt) ∙ map-append f (take k names) (slice_index names k ∷ []))

pub names_all : {Y : Type 0} (f : ℕ → Y) (names : List ℕ) (k : ℕ) → length names ≤ k → map f (take k names) ≡ map f names
names_all f names k h = ap (map f) (take_all k names h)

-- functions that agree on the elements of a list
pub map-members : {X Y : Type 0} (f g : X → Y) (xs : List X) → ((x : X) → Contains xs x → f x ≡ g x) → map f xs ≡ map g xs
map-members f g [] h = refl
map-members f g (x ∷ xs) h = ap₂ (λ y ys. y ∷ ys) (h x (0, Prim.omega arith, refl)) (map-members f g xs (λ y c. h y (suc c.0, Prim.omega (arith, c.1), c.2)))
