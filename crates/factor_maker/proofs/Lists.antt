-- Lists side by side, and pairs of lists.
use Rattle.std.proofs.Common.{◌≡◌, ◌∙◌, ◌<◌, ℕ, zero, suc, List, [], ◌∷◌, ◌++◌, length, map, get_or, sym, ap, subst, refl, arith, inl, inr, Option, Some, None}
use Rattle.std.specs.Prelude.{All, AllPairs, Contains, ◌⊎◌, slice_get}
use mathlib.Core.Path.{ap₂}
use Rattle.std.proofs.Math.Logic.{⊎_elim}
use Rattle.std.specs.List.{AllZip, flat_map}
use Rattle.std.proofs.lemmas.List.{get_or-map, length-map, length-append}
use Rattle.factor_residuals.specs.Residuals.{places_below}
use Rattle.std.proofs.lemmas.List.Elements.{All-append, All-contains, Contains-append_cases}
use Rattle.std.proofs.lemmas.List.Kept.{AllPairs-cons}
use Rattle.fraction_theory.proofs.ListSums.{Contains-head, Contains-cons, Contains-cases}

-- ---- an item at a place
pub at_place : {A : Type 0} (xs : List A) (k : ℕ) (x d : A) → slice_get xs k ≡ Some x → (k < length xs) × (get_or xs k d ≡ x)
at_place [] k x d e = absurd (none e)
  where
    none : {A : Type 0} {x : A} → ◌≡◌ {A = Option A} None (Some x) → ⊥
    none e = grind (arith, e)
at_place (y ∷ xs) zero x d e = (omega arith, some e)
  where
    some : {A : Type 0} {y x : A} → ◌≡◌ {A = Option A} (Some y) (Some x) → y ≡ x
    some e = grind (arith, e)
at_place (y ∷ xs) (suc k) x d e = let rest = at_place xs k x d e in (omega (arith, rest.0), rest.1)

pub place_of : {A : Type 0} (xs : List A) (k : ℕ) → k < length xs → (x : A) × (slice_get xs k ≡ Some x)
place_of [] k h = absurd (omega (arith, h))
place_of (y ∷ xs) zero h = (y, refl)
place_of (y ∷ xs) (suc k) h = place_of xs k (omega (arith, h))

pub get_map : {A B : Type 0} (f : A → B) (xs : List A) (k : ℕ) (x : A) → slice_get xs k ≡ Some x → slice_get (map f xs) k ≡ Some (f x)
get_map f [] k x e = absurd (none e)
  where
    none : {A : Type 0} {x : A} → ◌≡◌ {A = Option A} None (Some x) → ⊥
    none e = grind (arith, e)
get_map f (y ∷ xs) zero x e = some f e
  where
    some : {A B : Type 0} (f : A → B) {y x : A} → ◌≡◌ {A = Option A} (Some y) (Some x) → ◌≡◌ {A = Option B} (Some (f y)) (Some (f x))
    some f e = grind (arith, e)
get_map f (y ∷ xs) (suc k) x e = get_map f xs k x e

pub get_contains : {A : Type 0} (xs : List A) (k : ℕ) (x : A) → slice_get xs k ≡ Some x → Contains xs x
get_contains xs k x e = let h = at_place xs k x x e in (k, h.0, h.1)

-- ---- two lists place by place
module _ {A B : Type 0} (R : A → B → Type 0) where
  pub zip-by_places : (xs : List A) (ys : List B) → length ys ≡ length xs → ((k : ℕ) (x : A) (y : B) → slice_get xs k ≡ Some x → slice_get ys k ≡ Some y → R x y) → AllZip R xs ys
  zip-by_places [] [] e h = tt
  zip-by_places [] (y ∷ ys) e h = absurd (let q : suc (length ys) ≡ 0 = e in omega (arith, q))
  zip-by_places (x ∷ xs) [] e h = absurd (let q : 0 ≡ suc (length xs) = e in omega (arith, q))
  zip-by_places (x ∷ xs) (y ∷ ys) e h = (h 0 x y refl refl, zip-by_places xs ys (omega (arith, e)) (λ k a b p q. h (suc k) a b p q))

  pub zip-at : (xs : List A) (ys : List B) → AllZip R xs ys → (k : ℕ) (x : A) (y : B) → slice_get xs k ≡ Some x → slice_get ys k ≡ Some y → R x y
  zip-at [] [] z k x y p q = absurd (let h = at_place [] k x x p in omega (arith, h.0))
  zip-at [] (b ∷ ys) z k x y p q = absurd z
  zip-at (a ∷ xs) [] z k x y p q = absurd z
  zip-at (a ∷ xs) (b ∷ ys) z zero x y p q = subst (λ (s : A). R s y) (at_place (a ∷ xs) 0 x x p).1 (subst (R a) (at_place (b ∷ ys) 0 y y q).1 z.0)
  zip-at (a ∷ xs) (b ∷ ys) z (suc k) x y p q = zip-at xs ys z.1 k x y p q

  pub zip-length : (xs : List A) (ys : List B) → AllZip R xs ys → length ys ≡ length xs
  zip-length [] [] z = refl
  zip-length [] (b ∷ ys) z = absurd z
  zip-length (a ∷ xs) [] z = absurd z
  zip-length (a ∷ xs) (b ∷ ys) z = ap suc (zip-length xs ys z.1)

  pub zip-append : (xs : List A) (ys : List B) (more : List A) (others : List B) → AllZip R xs ys → AllZip R more others → AllZip R (xs ++ more) (ys ++ others)
  zip-append [] [] more others z w = w
  zip-append [] (b ∷ ys) more others z w = absurd z
  zip-append (a ∷ xs) [] more others z w = absurd z
  zip-append (a ∷ xs) (b ∷ ys) more others z w = (z.0, zip-append xs ys more others z.1 w)

  pub zip-last : (xs : List A) (ys : List B) (x : A) (y : B) → AllZip R xs ys → R x y → AllZip R (xs ++ x ∷ []) (ys ++ y ∷ [])
  zip-last xs ys x y z r = zip-append xs ys (x ∷ []) (y ∷ []) z (r, tt)

  -- each item of the second list stands with one of the first
  pub zip-all : (P : B → Type 0) (xs : List A) (ys : List B) → ((x : A) (y : B) → Contains xs x → R x y → P y) → AllZip R xs ys → (y : B) → Contains ys y → P y
  zip-all P [] [] h z y c = absurd (omega (arith, c.1))
  zip-all P [] (b ∷ ys) h z y c = absurd z
  zip-all P (a ∷ xs) [] h z y c = absurd z
  zip-all P (a ∷ xs) (b ∷ ys) h z y c = elim (Contains-cases b ys y c) [
    | inl e ↦ subst P e (h a b (Contains-head a xs) z.0)
    | inr d ↦ zip-all P xs ys (λ x w k r. h x w (Contains-cons a xs x k) r) z.1 y d
  ]

pub zip-map : {A B C : Type 0} (R : A → B → Type 0) (S : A → C → Type 0) (f : B → C) → ((x : A) (y : B) → R x y → S x (f y)) → (xs : List A) (ys : List B) → AllZip R xs ys → AllZip S xs (map f ys)
zip-map R S f h [] [] z = tt
zip-map R S f h [] (b ∷ ys) z = absurd z
zip-map R S f h (a ∷ xs) [] z = absurd z
zip-map R S f h (a ∷ xs) (b ∷ ys) z = (h a b z.0, zip-map R S f h xs ys z.1)

-- ---- all of a list
pub all-by_members : {A : Type 0} (P : A → Type 0) (xs : List A) → ((x : A) → Contains xs x → P x) → All P xs
all-by_members P xs h = λ k d lt. h (get_or xs k d) (k, lt, own xs k d lt)
  where
    own : {A : Type 0} (zs : List A) (k : ℕ) (d : A) → k < length zs → get_or zs k (get_or zs k d) ≡ get_or zs k d
    own [] k d lt = absurd (omega (arith, lt))
    own (z ∷ zs) zero d lt = refl
    own (z ∷ zs) (suc k) d lt = own zs k d (omega (arith, lt))

-- ---- pairs
module _ {A : Type 0} (P : A → A → Type 0) where
  pub pairs-append : (xs ys : List A) → AllPairs P xs → AllPairs P ys → ((x y : A) → Contains xs x → Contains ys y → P x y) → AllPairs P (xs ++ ys)
  pairs-append [] ys a b c = b
  pairs-append (x ∷ xs) ys a b c =
      AllPairs-cons P x (xs ++ ys)
      (All-append (P x) xs ys (λ k d lt. a zero (suc k) d (omega arith) (omega (arith, lt))) (all-by_members (P x) ys (λ y k. c x y (Contains-head x xs) k)))
      (pairs-append xs ys (λ i j d p q. a (suc i) (suc j) d (omega (arith, p)) (omega (arith, q))) b (λ u v k l. c u v (Contains-cons x xs u k) l))

  pub pairs-head : (x : A) (xs : List A) → AllPairs P (x ∷ xs) → (y : A) → Contains xs y → P x y
  pairs-head x xs a y c = All-contains (P x) xs y (λ k d lt. a zero (suc k) d (omega arith) (omega (arith, lt))) c

  pub pairs-tail : (x : A) (xs : List A) → AllPairs P (x ∷ xs) → AllPairs P xs
  pairs-tail x xs a = λ i j d p q. a (suc i) (suc j) d (omega (arith, p)) (omega (arith, q))

pub pairs-map : {A B : Type 0} (P : B → B → Type 0) (f : A → B) (xs : List A) → AllPairs (λ x y. P (f x) (f y)) xs → AllPairs P (map f xs)
pairs-map P f [] a = λ i j d p q. absurd (omega (arith, q))
pairs-map P f (x ∷ xs) a = AllPairs-cons P (f x) (map f xs)
    (all-by_members (P (f x)) (map f xs) (λ y c. from P f x xs (λ z k. pairs-head (λ u v. P (f u) (f v)) x xs a z k) y c))
    (pairs-map P f xs (pairs-tail (λ u v. P (f u) (f v)) x xs a))
  where
    from : {A B : Type 0} (P : B → B → Type 0) (f : A → B) (x : A) (zs : List A) → ((z : A) → Contains zs z → P (f x) (f z)) → (y : B) → Contains (map f zs) y → P (f x) y
    from P f x [] h y c = absurd (omega (arith, c.1))
    from {A} {B} P f x (z ∷ zs) h y c = by (from P f x zs (λ w k. h w (Contains-cons z zs w k)) y) (Contains-cases (f z) (map f zs) y c)
      where
        by : (Contains (map f zs) y → P (f x) y) → (f z ≡ y) ⊎ Contains (map f zs) y → P (f x) y
        by rest (inl e) = subst (P (f x)) e (h z (Contains-head z zs))
        by rest (inr d) = rest d

pub flat_contains : {A B : Type 0} (f : A → List B) (xs : List A) (y : B) → Contains (flat_map f xs) y → (x : A) × Contains xs x × Contains (f x) y
flat_contains f [] y c = absurd (omega (arith, c.1))
flat_contains f (x ∷ xs) y c = elim (Contains-append_cases (f x) (flat_map f xs) y c) [
  | inl d ↦ (x, Contains-head x xs, d)
  | inr d ↦ let r = flat_contains f xs y d in (r.0, Contains-cons x xs r.0 r.1, r.2)
]

pub flat_pairs : {A B : Type 0} (Q : A → A → Type 0) (P : B → B → Type 0) (f : A → List B) (xs : List A) → ((x : A) → Contains xs x → AllPairs P (f x))
    → ((x y : A) (u v : B) → Q x y → Contains (f x) u → Contains (f y) v → P u v) → AllPairs Q xs → AllPairs P (flat_map f xs)
flat_pairs Q P f [] each across a = λ i j d p q. absurd (omega (arith, q))
flat_pairs Q P f (x ∷ xs) each across a = pairs-append P (f x) (flat_map f xs) (each x (Contains-head x xs))
    (flat_pairs Q P f xs (λ y c. each y (Contains-cons x xs y c)) across (pairs-tail Q x xs a))
    (λ u v c d. let r = flat_contains f xs v d in across x r.0 u v (pairs-head Q x xs a r.0 r.1) c r.2)

-- pairs of a list that stands with another, by what stands with what
pub zip_pairs : {A B : Type 0} (R : A → B → Type 0) (P : A → A → Type 0) (Q : B → B → Type 0) → ((x y : A) (u v : B) → R x u → R y v → P x y → Q u v)
    → (xs : List A) (ys : List B) → AllZip R xs ys → AllPairs P xs → AllPairs Q ys
zip_pairs R P Q h [] [] z a = λ i j d p q. absurd (omega (arith, q))
zip_pairs R P Q h [] (b ∷ ys) z a = absurd z
zip_pairs R P Q h (x ∷ xs) [] z a = absurd z
zip_pairs R P Q h (x ∷ xs) (b ∷ ys) z a = AllPairs-cons Q b ys
    (all-by_members (Q b) ys (zip-all R (Q b) xs ys (λ y v c r. h x y b v z.0 r (pairs-head P x xs a y c)) z.1))
    (zip_pairs R P Q h xs ys z.1 (pairs-tail P x xs a))

pub zip-through : {A B C : Type 0} (R : A → B → Type 0) (S : B → C → Type 0) (T : A → C → Type 0) → (xs : List A) (ys : List B) (zs : List C)
    → ((x : A) (y : B) (z : C) → Contains xs x → R x y → S y z → T x z) → AllZip R xs ys → AllZip S ys zs → AllZip T xs zs
zip-through R S T [] [] [] h p q = tt
zip-through R S T [] [] (c ∷ zs) h p q = absurd q
zip-through R S T [] (b ∷ ys) zs h p q = absurd p
zip-through R S T (a ∷ xs) [] zs h p q = absurd p
zip-through R S T (a ∷ xs) (b ∷ ys) [] h p q = absurd q
zip-through R S T (a ∷ xs) (b ∷ ys) (c ∷ zs) h p q = (h a b c (Contains-head a xs) p.0 q.0, zip-through R S T xs ys zs (λ x y z k. h x y z (Contains-cons a xs x k)) p.1 q.1)

pub zip-of_map : {A B C : Type 0} (R : A → C → Type 0) (S : B → C → Type 0) (f : A → B) → (xs : List A) (zs : List C) → ((x : A) (z : C) → Contains xs x → R x z → S (f x) z)
    → AllZip R xs zs → AllZip S (map f xs) zs
zip-of_map R S f [] [] h p = tt
zip-of_map R S f [] (c ∷ zs) h p = absurd p
zip-of_map R S f (a ∷ xs) [] h p = absurd p
zip-of_map R S f (a ∷ xs) (c ∷ zs) h p = (h a c (Contains-head a xs) p.0, zip-of_map R S f xs zs (λ x z k. h x z (Contains-cons a xs x k)) p.1)

-- an item of a list with one more
pub get_last : {A : Type 0} (xs : List A) (x : A) (k : ℕ) (y : A) → slice_get (xs ++ x ∷ []) k ≡ Some y → (slice_get xs k ≡ Some y) ⊎ ((k ≡ length xs) × (y ≡ x))
get_last [] x zero y e = inr (refl, sym (at_place (x ∷ []) 0 y y e).1)
get_last [] x (suc k) y e = absurd (let h = at_place (x ∷ []) (suc k) y y e in omega (arith, h.0))
get_last (z ∷ xs) x zero y e = inl e
get_last (z ∷ xs) x (suc k) y e = ⊎_elim inl (λ h. inr (ap suc h.0, h.1)) (get_last xs x k y e)

pub map-members : {A B : Type 0} (f g : A → B) (xs : List A) → ((x : A) → Contains xs x → f x ≡ g x) → map f xs ≡ map g xs
map-members f g [] h = refl
map-members f g (x ∷ xs) h = ap₂ ◌∷◌ (h x (Contains-head x xs)) (map-members f g xs (λ y c. h y (Contains-cons x xs y c)))

-- ---- lists made of lists, side by side
pub zip-flat : {A B C D : Type 0} (S : A → B → Type 0) (R : C → D → Type 0) (f : A → List C) (g : B → List D) → ((x : A) (y : B) → S x y → AllZip R (f x) (g y))
    → (xs : List A) (ys : List B) → AllZip S xs ys → AllZip R (flat_map f xs) (flat_map g ys)
zip-flat S R f g h [] [] z = tt
zip-flat S R f g h [] (b ∷ ys) z = absurd z
zip-flat S R f g h (a ∷ xs) [] z = absurd z
zip-flat S R f g h (a ∷ xs) (b ∷ ys) z = zip-append R (f a) (g b) (flat_map f xs) (flat_map g ys) (h a b z.0) (zip-flat S R f g h xs ys z.1)

pub zip-same : {A C D : Type 0} (R : C → D → Type 0) (f : A → C) (g : A → D) (xs : List A) → ((x : A) → Contains xs x → R (f x) (g x)) → AllZip R (map f xs) (map g xs)
zip-same R f g [] h = tt
zip-same R f g (x ∷ xs) h = (h x (Contains-head x xs), zip-same R f g xs (λ y c. h y (Contains-cons x xs y c)))

pub pairs-of_map : {A B : Type 0} (P : B → B → Type 0) (f : A → B) (xs : List A) → AllPairs P (map f xs) → AllPairs (λ x y. P (f x) (f y)) xs
pairs-of_map P f xs a = λ i j d p q.
    subst (λ (u : _). P u (f (get_or xs j d))) (get_or-map f xs i d (f d) (omega (arith, p, q)))
    (subst (λ (v : _). P (get_or (map f xs) i (f d)) v) (get_or-map f xs j d (f d) q) (a i j (f d) p (omega (arith, q, length-map xs f))))

pub pairs-weaker : {A : Type 0} (P Q : A → A → Type 0) (xs : List A) → ((x y : A) → P x y → Q x y) → AllPairs P xs → AllPairs Q xs
pairs-weaker P Q xs h a = λ i j d p q. h (get_or xs i d) (get_or xs j d) (a i j d p q)

-- ---- the places below a number
pub length-places : (n : ℕ) → length (places_below n) ≡ n
length-places zero = refl
length-places (suc n) = let all = length-append (places_below n) (n ∷ []) in let rest = length-places n in omega (arith, all, rest)

pub get_places : (n k y : ℕ) → slice_get (places_below n) k ≡ Some y → (k < n) × (y ≡ k)
get_places zero k y e = absurd (let h = at_place [] k y y e in omega (arith, h.0))
get_places (suc n) k y e = ⊎_elim (λ h. let r = get_places n k y h in (omega (arith, r.0), r.1))
    (λ h. let c = length-places n in (omega (arith, h.0, c), h.1 ∙ (let q : n ≡ k = omega (arith, h.0, c) in q))) (get_last (places_below n) n k y e)

pub places_below-within : (n i : ℕ) → Contains (places_below n) i → i < n
places_below-within n i c = let r = get_places n c.0 i (get_there (places_below n) c.0 i c.1 c.2) in omega (arith, r.0, r.1)
  where
    get_there : (xs : List ℕ) (k x : ℕ) → k < length xs → get_or xs k x ≡ x → slice_get xs k ≡ Some x
    get_there [] k x lt e = absurd (omega (arith, lt))
    get_there (y ∷ xs) zero x lt e = ap Some e
    get_there (y ∷ xs) (suc k) x lt e = get_there xs k x (omega (arith, lt)) e

pub pairs-places : (P : ℕ → ℕ → Type 0) (n : ℕ) → ((i j : ℕ) → i < j → j < n → P i j) → AllPairs P (places_below n)
pairs-places P n h = λ i j d p q.
    let c = length-places n in
    subst (λ (u : ℕ). P u (get_or (places_below n) j d)) (sym (here n i d (omega (arith, p, q))))
    (subst (λ (v : ℕ). P i v) (sym (here n j d q)) (h i j p (omega (arith, q, c))))
  where
    here : (n k d : ℕ) → k < length (places_below n) → get_or (places_below n) k d ≡ k
    here n k d lt = let x = place_of (places_below n) k lt in (at_place (places_below n) k x.0 d x.1).1 ∙ (get_places n k x.0 x.1).1
