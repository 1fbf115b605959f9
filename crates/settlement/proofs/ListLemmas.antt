-- Lists that are filled one by one, and sums over them.
use Rattle.std.specs.Prelude.{◌≡◌, ℕ, ◌+◌, ◌<◌, ◌≤◌, List, [], ◌∷◌, ◌++◌, map, length, take, refl}
use Rattle.std.proofs.Common.{arith, ap, ap₂, sym, ◌∙◌, get_or}
use Rattle.std.proofs.lemmas.List.{map-append, length-map, take_more, take_all}
use Rattle.fraction_theory.specs.Fraction.{Fraction, ◌+ℚ◌}
use Rattle.fraction_theory.specs.Sums.{sum_by}
use Rattle.fraction_theory.proofs.FieldLaws.{+ℚ_assoc}
use Rattle.market_model.specs.Dispatch.{places}
use Rattle.market_model.proofs.ListSteps.{sum_step}
use Rattle.market_model.proofs.MorePlaces.{places_more}

pub sum_by-map : {A B : Type 0} (f : A → B) (g : B → Fraction) (xs : List A) → sum_by g (map f xs) ≡ sum_by (λ x. g (f x)) xs
sum_by-map f g [] = refl
sum_by-map f g (x ∷ xs) = ap (λ t. g (f x) +ℚ t) (sum_by-map f g xs)

-- one place more
pub put_place : {X Y : Type 0} (value : X → Y) (f : ℕ → Y) (old new : List X) (y : X) (k : ℕ) → new ≡ old ++ y ∷ [] → map value old ≡ map f (places k) → value y ≡ f k → map value new ≡ map f (places (k + 1))
put_place value f old new y k e before here =
    ap (map value) e ∙ map-append value old (y ∷ []) ∙ ap₂ (λ xs z. xs ++ z ∷ []) before here ∙ sym (map-append f (places k) (k ∷ [])) ∙ ap (map f) (sym (places_more k))

-- one of a list more
pub put_next : {X Y T : Type 0} (value : X → Y) (f : T → Y) (ts : List T) (old new : List X) (y : X) (k : ℕ) (t : T) → k < length ts → t ≡ get_or ts k t → new ≡ old ++ y ∷ []
    → map value old ≡ map f (take k ts) → value y ≡ f t → map value new ≡ map f (take (k + 1) ts)
put_next value f ts old new y k t h at e before here =
    ap (map value) e ∙ map-append value old (y ∷ []) ∙ ap₂ (λ xs z. xs ++ z ∷ []) before (here ∙ ap f at)
    ∙ sym (map-append f (take k ts) (get_or ts k t ∷ [])) ∙ ap (map f) (sym (take_more ts k t h))

-- all of it, where it is as long as another list
pub all_put_next : {X Y T Z : Type 0} (f : T → Y) (ts : List T) (xs : List X) (g : X → Z) (k : ℕ) → length (map g xs) ≡ length ts → length xs ≤ k → map f (take k ts) ≡ map f ts
all_put_next f ts xs g k count most = ap (map f) (take_all k ts (Prim.omega (arith, most, count, length-map xs g)))

-- a sum over a list's first elements, behind another sum: one element more
module _ {T : Type 0} (f : T → Fraction) (xs : List T) where
  pub sum_step_behind : (front : Fraction) (i : ℕ) (x : T) (old new : Fraction) → i < length xs → x ≡ get_or xs i x → old ≡ front +ℚ sum_by f (take i xs) → new ≡ old +ℚ f x
      → new ≡ front +ℚ sum_by f (take (i + 1) xs)
  sum_step_behind front i x old new h is before e =
      e ∙ ap (λ t. t +ℚ f x) before ∙ +ℚ_assoc front (sum_by f (take i xs)) (f x)
      ∙ ap (λ t. front +ℚ t) (sum_step f xs i x (sum_by f (take i xs)) (sum_by f (take i xs) +ℚ f x) h is refl refl)
