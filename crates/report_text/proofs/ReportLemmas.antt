-- The lines of a report, one place more.
use Rattle.std.specs.Prelude.{◌≡◌, ◌==◌, ℕ, ◌+◌, ◌<◌, ◌≤◌, Option, None, List, [], ◌∷◌, ◌++◌, length, map, take, drop, count_by, filter, Bool, true, false, if◌then◌else◌, refl}
use Rattle.std.specs.List.{flat_map, zip}
use Rattle.std.specs.Map.{lookup}
use Rattle.std.proofs.Common.{zero, suc, ap, sym, ◌∙◌, get_or, slice_get, Some, arith, append_assoc}
use Rattle.std.proofs.lemmas.List.{drop_all, drop_more, flat_map_more, get_or-map, get_or_default, length-append, length-map, take_more, take_all, append-nil}
use Rattle.std.proofs.lemmas.List.Elements.{filter-append}
use Rattle.std.proofs.lemmas.List.FromFn.{length-range_with_len}
use Rattle.std.proofs.lemmas.Map.Entries.{lookup_head, lookup_tail}
use Rattle.std.proofs.lemmas.Slice.Zip.{firsts-zip, get_or-zip}
use Rattle.std.proofs.lemmas.List.Sums.{length-filter, count_by-le-length}
use Rattle.fraction_theory.specs.Fraction.{Fraction}
use Rattle.market_model.specs.Dispatch.{places}
use Rattle.market_model.proofs.MorePlaces.{places_more}

-- a text that grows by the line of each place
pub lines_more : (f : ℕ → List ℕ) (start before after : List ℕ) (k : ℕ) → before ≡ start ++ flat_map f (places k) → after ≡ before ++ f k → after ≡ start ++ flat_map f (places (k + 1))
lines_more f start before after k e more =
    more ∙ ap (λ t. t ++ f k) e ∙ flat_map_more f start (places k) k ∙ ap (λ ps. start ++ flat_map f ps) (sym (places_more k))

-- a text that grows by what each element of a list gives
module _ {X : Type 0} (f : X → List ℕ) (start : List ℕ) (xs : List X) where
  pub items_none : start ≡ start ++ flat_map f (take 0 xs)
  items_none = sym (append-nil start)

  pub items_more : (before after : List ℕ) (k : ℕ) (x : X) → k < length xs → x ≡ get_or xs k x → before ≡ start ++ flat_map f (take k xs) → after ≡ before ++ f x
      → after ≡ start ++ flat_map f (take (k + 1) xs)
  items_more before after k x h is e more =
      more ∙ ap (λ t. t ++ f x) e ∙ flat_map_more f start (take k xs) x
      ∙ ap (λ y. start ++ flat_map f (take k xs ++ y ∷ [])) is ∙ ap (λ ys. start ++ flat_map f ys) (sym (take_more xs k x h))

  pub items_all : (text : List ℕ) (k : ℕ) → length xs ≤ k → text ≡ start ++ flat_map f (take k xs) → text ≡ start ++ flat_map f xs
  items_all text k h e = e ∙ ap (λ ys. start ++ flat_map f ys) (take_all k xs h)

-- as many pairs as entries of two lists of one length
pub length_of_pairs : {A B : Type 0} (xs : List A) (ys : List B) → length ys ≡ length xs → length (zip xs ys) ≡ length xs
length_of_pairs xs ys e = sym (length-map (zip xs ys) (λ p. p.0)) ∙ ap length (firsts-zip xs ys e)

-- ---- the own price of a unit, in a list beside that of the units that are lost
-- what is found from i on
abbrev pub own_from : List ℕ → List Fraction → ℕ → ℕ → Option Fraction
own_from lost owns u i = lookup (λ v. v == u) (drop i (zip lost owns))

module _ (lost : List ℕ) (owns : List Fraction) (same : length owns ≡ length lost) (u i : ℕ) where
  own-step : (v : ℕ) (own : Fraction) → i < length lost → v ≡ get_or lost i v → own ≡ get_or owns i own → own_from lost owns u i ≡ lookup (λ w. w == u) ((v, own) ∷ drop (i + 1) (zip lost owns))
  own-step v own lt at there =
      let pair : ◌≡◌ {A = ℕ × Fraction} (get_or (zip lost owns) i (v, own)) (v, own) =
      get_or-zip lost owns i (v, own) lt (Prim.omega (arith, lt, same)) ∙ ap (λ (z : ℕ). (z, get_or owns i own)) (sym at) ∙ ap (λ (z : Fraction). (v, z)) (sym there) in
      ap (lookup (λ w. w == u)) (drop_more (zip lost owns) i (v, own) (Prim.omega (arith, lt, length_of_pairs lost owns same)) ∙ ap (λ (e : ℕ × Fraction). e ∷ drop (i + 1) (zip lost owns)) pair)

  pub own-here : (v : ℕ) (own : Fraction) → i < length lost → v ≡ get_or lost i v → own ≡ get_or owns i own → (v == u) ≡ true → own_from lost owns u i ≡ Some own
  own-here v own lt at there e = own-step v own lt at there ∙ lookup_head (λ w. w == u) (v, own) (drop (i + 1) (zip lost owns)) e

  pub own-later : (v : ℕ) (own : Fraction) → i < length lost → v ≡ get_or lost i v → (v == u) ≡ false → own_from lost owns u i ≡ own_from lost owns u (i + 1)
  own-later v own lt at e =
      own-step v (get_or owns i own) lt at (get_or_default owns i own (get_or owns i own) (Prim.omega (arith, lt, same))) ∙ lookup_tail (λ w. w == u) (v, get_or owns i own) (drop (i + 1) (zip lost owns)) e

  pub own-none : length lost ≤ i → own_from lost owns u i ≡ None
  own-none le = ap (lookup (λ w. w == u)) (drop_all i (zip lost owns) (Prim.omega (arith, le, length_of_pairs lost owns same)))

-- a text that grows by what each pair of entries of two lists gives
pub pairs_more : {A B : Type 0} (f : A × B → List ℕ) (start : List ℕ) (xs : List A) (ys : List B) (before after : List ℕ) (k : ℕ) (x : A) (y : B)
    → length ys ≡ length xs → k < length xs → x ≡ get_or xs k x → y ≡ get_or ys k y → before ≡ start ++ flat_map f (take k (zip xs ys)) → after ≡ before ++ f (x, y)
    → after ≡ start ++ flat_map f (take (k + 1) (zip xs ys))
pairs_more {A} {B} f start xs ys before after k x y same h x_is y_is e more =
    let pair : ◌≡◌ {A = A × B} (x, y) (get_or (zip xs ys) k (x, y)) =
    ap (λ (z : A). (z, y)) x_is ∙ ap (λ (z : B). (get_or xs k x, z)) y_is ∙ sym (get_or-zip xs ys k (x, y) h (Prim.omega (arith, h, same))) in
    items_more f start (zip xs ys) before after k (x, y) (Prim.omega (arith, h, length_of_pairs xs ys same)) pair e more

pub flat_map-map : {X Y : Type 0} (f : Y → List ℕ) (g : X → Y) (xs : List X) → flat_map (λ x. f (g x)) xs ≡ flat_map f (map g xs)
flat_map-map f g [] = refl
flat_map-map f g (x ∷ xs) = ap (λ t. f (g x) ++ t) (flat_map-map f g xs)

-- an entry as numbers, by the place that it was read at
pub entry_is : {X Y : Type 0} (value : X → Y) (xs : List X) (k : ℕ) (x : X) (d : Y) → k < length xs → slice_get xs k ≡ Some x → value x ≡ get_or (map value xs) k d
entry_is value xs k x d h read = ap value (get_or_of xs k x read) ∙ sym (get_or-map value xs k x d h)
  where
    get_or_of : {X : Type 0} (xs : List X) (k : ℕ) (x : X) → slice_get xs k ≡ Some x → x ≡ get_or xs k x
    get_or_of [] k x e = Prim.cc
    get_or_of (y ∷ ys) zero x e = Prim.cc
    get_or_of (y ∷ ys) (suc k) x e = get_or_of ys k x e

count_push : {X : Type 0} (p : X → Bool) (xs : List X) (x : X) → count_by p (xs ++ x ∷ []) ≡ count_by p xs + (if p x then 1 else 0)
count_push p xs x =
    sym (length-filter p (xs ++ x ∷ [])) ∙ ap length (filter-append p xs (x ∷ [])) ∙ by_test (p x) refl
  where
    by_test : (b : Bool) → p x ≡ b → length (filter p xs ++ filter p (x ∷ [])) ≡ count_by p xs + (if b then 1 else 0)
    by_test true e = Prim.rw e (length-append (filter p xs) (x ∷ []) ∙ ap (λ n. n + 1) (length-filter p xs))
    by_test false e = Prim.rw e (length-append (filter p xs) [] ∙ ap (λ n. n + 0) (length-filter p xs))

-- the line of a limit, part by part
pub line_grown : (t r a f o b x c y d z n u₀ u₁ u₂ u₃ u₄ u₅ : List ℕ) → u₀ ≡ t ++ r → u₁ ≡ u₀ ++ a ++ f → u₂ ≡ u₁ ++ o → u₃ ≡ u₂ ++ b ++ x → u₄ ≡ u₃ ++ c ++ y → u₅ ≡ u₄ ++ d ++ z
    → u₅ ++ n ≡ t ++ (r ++ a ++ f ++ o ++ b ++ x ++ c ++ y ++ d ++ z ++ n)
line_grown t r a f o b x c y d z n u₀ u₁ u₂ u₃ u₄ u₅ e₀ e₁ e₂ e₃ e₄ e₅ = Prim.rw (e₅, e₄, e₃, e₂, e₁, e₀) Prim.simp append_assoc

-- the places that pass a test, with one place more
pub count_more : (p : ℕ → Bool) (k : ℕ) (b : Bool) → p k ≡ b → count_by p (places (k + 1)) ≡ count_by p (places k) + (if b then 1 else 0)
count_more p k b e = ap (count_by p) (places_more k) ∙ count_push p (places k) k ∙ ap (λ (t : Bool). count_by p (places k) + (if t then 1 else 0)) e

-- no more pass than there are
pub count-le : (p : ℕ → Bool) (k : ℕ) → count_by p (places k) ≤ k
count-le p k = Prim.omega (arith, count_by-le-length p (places k), length-range_with_len 0 k)

-- a number that counts the places that pass, from 1
pub number_more : (p : ℕ → Bool) (k old new : ℕ) → p k ≡ true → old ≡ 1 + count_by p (places k) → new ≡ old + 1 → new ≡ 1 + count_by p (places (k + 1))
number_more p k old new e before up = Prim.omega (arith, count_more p k true e)

pub number_same : (p : ℕ → Bool) (k old new : ℕ) → p k ≡ false → old ≡ 1 + count_by p (places k) → new ≡ old → new ≡ 1 + count_by p (places (k + 1))
number_same p k old new e before same = Prim.omega (arith, count_more p k false e)
