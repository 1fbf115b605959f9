-- Sums over lists, element by element, and lists round one element.
use Rattle.std.specs.Prelude.{◌≡◌, ℕ, ◌+◌, ◌<◌, ◌≤◌, List, [], ◌∷◌, ◌++◌, map, length, take, refl}
use Rattle.std.proofs.Common.{ap, sym, ◌∙◌, get_or, drop}
use Rattle.std.proofs.lemmas.List.{map-append, take_all, take-append-drop, drop_more}
use Rattle.fraction_theory.specs.Fraction.{Fraction, ◌+ℚ◌}
use Rattle.fraction_theory.specs.Sums.{sum_by, Term}
use Rattle.market_model.proofs.MorePlaces.{sum_by_more}

pub map-map : {A B C : Type 0} (f : A → B) (g : B → C) (xs : List A) → map g (map f xs) ≡ map (λ x. g (f x)) xs
map-map f g [] = refl
map-map f g (x ∷ xs) = ap (λ ys. g (f x) ∷ ys) (map-map f g xs)

-- a sum over a list's first elements: one element more, and all
module _ {T : Type 0} (f : T → Fraction) (xs : List T) where
  pub sum_step : (i : ℕ) (x : T) (old new : Fraction) → i < length xs → x ≡ get_or xs i x → old ≡ sum_by f (take i xs) → new ≡ old +ℚ f x → new ≡ sum_by f (take (i + 1) xs)
  sum_step i x old new h is before e = e ∙ ap (λ t. t +ℚ f x) before ∙ ap (λ y. sum_by f (take i xs) +ℚ f y) is ∙ sym (sum_by_more f xs i x h)

  pub sum_end : (i : ℕ) → length xs ≤ i → sum_by f (take i xs) ≡ sum_by f xs
  sum_end i h = ap (sum_by f) (take_all i xs h)

-- a list at one of its places
split_at : {T : Type 0} (xs : List T) (k : ℕ) (x : T) → k < length xs → x ≡ get_or xs k x → xs ≡ take k xs ++ x ∷ drop (k + 1) xs
split_at xs k x h at = sym (take-append-drop k xs) ∙ ap (λ ys. take k xs ++ ys) (drop_more xs k x h ∙ ap (λ y. y ∷ drop (k + 1) xs) (sym at))

pub mapped_at : {T : Type 0} (f : T → Term) (xs : List T) (k : ℕ) (x : T) → k < length xs → x ≡ get_or xs k x → map f xs ≡ map f (take k xs) ++ f x ∷ map f (drop (k + 1) xs)
mapped_at f xs k x h at = ap (map f) (split_at xs k x h at) ∙ map-append f (take k xs) (x ∷ drop (k + 1) xs)
