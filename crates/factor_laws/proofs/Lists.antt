-- What stands with an item in a list beside, and where none passes a test.
use Rattle.std.proofs.Common.{◌≡◌, ◌∙◌, ℤ, List, [], ◌∷◌, cond, sym, ap, subst, refl, arith, inl, inr, Some, None, Bool, true, false}
use Rattle.std.specs.Prelude.{Contains, is_some}
use Rattle.std.specs.List.{AllZip, find, flat_map}
use Rattle.std.specs.Map.{lookup}
use Rattle.std.proofs.lemmas.Bool.{eq-eqb}
use Rattle.std.proofs.lemmas.List.Elements.{Contains-append_left, Contains-append_right}
use Rattle.fraction_theory.proofs.ListSums.{Contains-cases, Contains-cons, Contains-head}
use Rattle.factor_tables.specs.Factors.{Entry, Pair, has_pair, same_pair}
use Rattle.factor_maker.proofs.Lists.{zip-all}

-- an item of one list stands with one of the other
pub zip_member : {A B : Type 0} (R : A → B → Type 0) (xs : List A) (ys : List B) → AllZip R xs ys → (y : B) → Contains ys y → (x : A) × Contains xs x × R x y
zip_member {A} R xs ys z y c = zip-all R (λ w. (x : A) × Contains xs x × R x w) xs ys (λ x w d r. (x, d, r)) z y c

pub zip_partner : {A B : Type 0} (R : A → B → Type 0) (xs : List A) (ys : List B) → AllZip R xs ys → (x : A) → Contains xs x → (y : B) × Contains ys y × R x y
zip_partner R [] [] z x c = absurd (omega (arith, c.1))
zip_partner R [] (b ∷ ys) z x c = absurd z
zip_partner R (a ∷ xs) [] z x c = absurd z
zip_partner R (a ∷ xs) (b ∷ ys) z x c = elim (Contains-cases a xs x c) [
  | inl e ↦ (b, Contains-head b ys, subst (λ w. R w b) e z.0)
  | inr d ↦ let r = zip_partner R xs ys z.1 x d in (r.0, Contains-cons b ys r.0 r.1, r.2)
]

-- an item of one of the lists that a list is made of
pub flat_there : {A B : Type 0} (f : A → List B) (xs : List A) (x : A) (y : B) → Contains xs x → Contains (f x) y → Contains (flat_map f xs) y
flat_there f [] x y c d = absurd (omega (arith, c.1))
flat_there f (a ∷ xs) x y c d = elim (Contains-cases a xs x c) [
  | inl e ↦ Contains-append_left (f a) (flat_map f xs) y (subst (λ w. Contains (f w) y) (sym e) d)
  | inr k ↦ Contains-append_right (f a) (flat_map f xs) y (flat_there f xs x y k d)
]

-- where no item passes, none is found
pub find_none : {A : Type 0} (test : A → Bool) (xs : List A) → ((x : A) → Contains xs x → test x ≡ false) → find test xs ≡ None
find_none test [] h = refl
find_none test (x ∷ xs) h = subst (λ (b : Bool). cond b (Some x) (find test xs) ≡ None) (sym (h x (Contains-head x xs))) (find_none test xs (λ y c. h y (Contains-cons x xs y c)))

-- a pair of a record is found
pub pair_there : (entries : List Entry) (pair : Pair) (factor : ℤ) → Contains entries (pair, factor) → has_pair entries pair ≡ true
pair_there [] pair factor c = absurd (omega (arith, c.1))
pair_there (e ∷ entries) pair factor c = elim (Contains-cases e entries (pair, factor) c) [
  | inl same ↦ subst (λ (b : Bool). is_some (cond b (Some e.1) (lookup (same_pair pair) entries)) ≡ true) (sym (ap (λ (x : Entry). same_pair pair x.0) same ∙ its_own pair)) refl
  | inr d ↦ by (same_pair pair e.0) (pair_there entries pair factor d)
]
  where
    its_own : (p : Pair) → same_pair p p ≡ true
    its_own (a, b) = let first = eq-eqb a a refl in let second = eq-eqb b b refl in rw (first, second) refl

    by : (b : Bool) → is_some (lookup (same_pair pair) entries) ≡ true → is_some (cond b (Some e.1) (lookup (same_pair pair) entries)) ≡ true
    by true h = refl
    by false h = h
