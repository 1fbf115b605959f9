-- Lists of numbers: one order, and what lists of prices say of each price.
use Rattle.std.specs.Prelude.{◌≡◌, ℕ, ◌-◌, ◌<◌, List, [], ◌∷◌, ◌++◌, length, map, reverse, slice_index_or, Contains, refl}
use Rattle.std.specs.List.{flat_map}
use Rattle.std.proofs.Common.{zero, suc, arith, ap, ap₂, sym, ◌∙◌, inl, inr, get_or}
use Rattle.std.proofs.lemmas.List.{get_or-map, get_or-reverse, length-reverse}
use Rattle.fraction_theory.specs.Fraction.{Fraction}
use Rattle.fraction_theory.specs.Order.{◌<ℚ◌}
use Rattle.fraction_theory.proofs.ListSums.{Contains-cases}
use Rattle.fraction_theory.proofs.OrderLaws.{three_ways}
use Rattle.market_model.specs.Dispatch.{zero as nil}

-- xs has not less than ys at the first place at which they differ
abbrev pub NotLess : List Fraction → List Fraction → Type 0
NotLess xs ys = (k : ℕ) → k < length xs → ((i : ℕ) → i < k → slice_index_or xs i nil ≡ slice_index_or ys i nil) → ¬ (slice_index_or xs k nil <ℚ slice_index_or ys k nil)

-- two lists of one length are the same, where neither has less at the first place at which they differ
pub one_list : (xs ys : List Fraction) → length xs ≡ length ys → NotLess xs ys → NotLess ys xs → xs ≡ ys
one_list [] [] long less more = refl
one_list [] (y ∷ ys) long less more = absurd (Prim.omega (arith, long))
one_list (x ∷ xs) [] long less more = absurd (Prim.omega (arith, long))
one_list (x ∷ xs) (y ∷ ys) long less more = elim (three_ways x y) [
  | inl l ↦ absurd (less 0 (Prim.omega arith) (λ i lt. absurd (Prim.omega (arith, lt))) l)
  | inr w ↦ elim w [ inl e ↦ both e (one_list xs ys (Prim.omega (arith, long))) | inr l ↦ absurd (more 0 (Prim.omega arith) (λ i lt. absurd (Prim.omega (arith, lt))) l) ]
]
  where
    behind : (a b : Fraction) (us vs : List Fraction) (k : ℕ) → a ≡ b → ((i : ℕ) → i < k → slice_index_or us i nil ≡ slice_index_or vs i nil)
        → (i : ℕ) → i < suc k → slice_index_or (a ∷ us) i nil ≡ slice_index_or (b ∷ vs) i nil
    behind a b us vs k e before zero lt = e
    behind a b us vs k e before (suc i) lt = before i (Prim.omega (arith, lt))

    both : x ≡ y → (NotLess xs ys → NotLess ys xs → xs ≡ ys) → x ∷ xs ≡ y ∷ ys
    both e rest = ap₂ ◌∷◌ e
        (rest
        (λ k h before. less (suc k) (Prim.omega (arith, h)) (behind x y xs ys k e before))
        (λ k h before. more (suc k) (Prim.omega (arith, h)) (behind y x ys xs k (sym e) before)))

-- ---- parts of lists that are the same
pub same_head : {X : Type 0} (x y : X) (xs ys : List X) → x ∷ xs ≡ y ∷ ys → x ≡ y
same_head x y xs ys e = ap (λ zs. get_or zs 0 x) e

pub same_tail : {X : Type 0} (x y : X) (xs ys : List X) → x ∷ xs ≡ y ∷ ys → xs ≡ ys
same_tail {X} x y xs ys e = ap tail e
  where
    tail : List X → List X
    tail [] = []
    tail (z ∷ zs) = zs

-- where the fronts are of one length
pub same_parts : {X : Type 0} (us xs vs ys : List X) → length us ≡ length vs → us ++ xs ≡ vs ++ ys → (us ≡ vs) × (xs ≡ ys)
same_parts [] xs [] ys long e = (refl, e)
same_parts [] xs (v ∷ vs) ys long e = absurd (Prim.omega (arith, long))
same_parts (u ∷ us) xs [] ys long e = absurd (Prim.omega (arith, long))
same_parts (u ∷ us) xs (v ∷ vs) ys long e =
    let rest = same_parts us xs vs ys (Prim.omega (arith, long)) (same_tail u v (us ++ xs) (vs ++ ys) e) in
    (ap₂ ◌∷◌ (same_head u v (us ++ xs) (vs ++ ys) e) rest.0, rest.1)

-- ---- members
pub Contains-reverse : {X : Type 0} (xs : List X) (x : X) → Contains xs x → Contains (reverse xs) x
Contains-reverse xs x (i, lt, e) = (
  length xs - 1 - i,
  Prim.omega (arith, lt, length-reverse xs),
  get_or-reverse xs (length xs - 1 - i) x (Prim.omega (arith, lt))
      ∙ ap (λ (k : ℕ). get_or xs k x) (let back : length xs - 1 - (length xs - 1 - i) ≡ i = Prim.omega (arith, lt) in back) ∙ e,
)

-- maps that are the same have the same at each member
pub same_of_maps : {X : Type 0} (f g : X → Fraction) (xs : List X) → map f xs ≡ map g xs → (x : X) → Contains xs x → f x ≡ g x
same_of_maps f g xs same x (i, lt, e) =
    ap f (sym e) ∙ sym (get_or-map f xs i x nil lt) ∙ ap (λ (ys : List Fraction). get_or ys i nil) same ∙ get_or-map g xs i x nil lt ∙ ap g e

-- lists of two numbers for each member
abbrev pub pair_of : {X : Type 0} → (X → Fraction) → (X → Fraction) → X → List Fraction
pair_of f g x = f x ∷ g x ∷ []

pub length-pairs : {X : Type 0} (f g h k : X → Fraction) (xs : List X) → length (flat_map (pair_of f g) xs) ≡ length (flat_map (pair_of h k) xs)
length-pairs f g h k [] = refl
length-pairs f g h k (x ∷ xs) = Prim.omega (arith, length-pairs f g h k xs)

pub same_of_pairs : {X : Type 0} (f g h k : X → Fraction) (xs : List X) → flat_map (pair_of f g) xs ≡ flat_map (pair_of h k) xs → (x : X) → Contains xs x → (f x ≡ h x) × (g x ≡ k x)
same_of_pairs f g h k [] same x c = absurd (Prim.omega (arith, c.1))
same_of_pairs {X} f g h k (y ∷ ys) same x c = elim (Contains-cases y ys x c) [
  | inl e ↦ (
    ap f (sym e) ∙ same_head (f y) (h y) (g y ∷ flat_map (pair_of f g) ys) (k y ∷ flat_map (pair_of h k) ys) same ∙ ap h e,
    ap g (sym e) ∙ same_head (g y) (k y) (flat_map (pair_of f g) ys) (flat_map (pair_of h k) ys) behind ∙ ap k e,
  )
  | inr in' ↦ same_of_pairs f g h k ys (same_tail (g y) (k y) (flat_map (pair_of f g) ys) (flat_map (pair_of h k) ys) behind) x in'
]
  where
    behind : g y ∷ flat_map (pair_of f g) ys ≡ k y ∷ flat_map (pair_of h k) ys
    behind = same_tail (f y) (h y) (g y ∷ flat_map (pair_of f g) ys) (k y ∷ flat_map (pair_of h k) ys) same
