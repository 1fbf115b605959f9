-- Values that are made item after item.
use Rattle.std.proofs.Common.{◌≡◌, ◌<◌, ◌≤◌, ◌+◌, ◌∙◌, sym, ap, ap₂, refl, ℕ, List, [], ◌∷◌, ◌++◌, map, take, length, get_or}
use Rattle.std.proofs.lemmas.List.{map-append, take_all, take_more}

map-map : {A B C : Type 0} (f : B → C) (h : A → B) (xs : List A) → map (λ x. f (h x)) xs ≡ map f (map h xs)
map-map f h [] = refl
map-map f h (x ∷ xs) = ap (λ ys. f (h x) ∷ ys) (map-map f h xs)

module _ {A B D : Type 0} (view : B → D) (data_of : A → D) (xs : List A) (made : List B) (i : ℕ) where
  -- one more
  pub viewed-push : (x : A) (y : B) (new : List B) → i < length xs → x ≡ get_or xs i x → map view made ≡ map data_of (take i xs) → view y ≡ data_of x → new ≡ made ++ y ∷ [] → map view new ≡ map data_of (take (i + 1) xs)
  viewed-push x y new lt at e value is =
      ap (map view) is ∙ map-append view made (y ∷ []) ∙ ap₂ (λ ds d. ds ++ d ∷ []) e (value ∙ ap data_of at)
      ∙ sym (map-append data_of (take i xs) (get_or xs i x ∷ [])) ∙ ap (map data_of) (sym (take_more xs i x lt))

  -- and all
  pub viewed-all : length xs ≤ i → map view made ≡ map data_of (take i xs) → map view made ≡ map data_of xs
  viewed-all le e = e ∙ ap (map data_of) (take_all i xs le)

pub viewed-through : {A B C D : Type 0} (view : B → D) (f : C → D) (h : A → C) (xs : List A) (made : List B) → map view made ≡ map (λ x. f (h x)) xs → map view made ≡ map f (map h xs)
viewed-through view f h xs made e = e ∙ map-map f h xs
