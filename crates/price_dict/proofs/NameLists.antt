-- Names that ascend.
use Rattle.std.specs.Prelude.{◌≡◌, ℕ, ◌<◌, List, [], ◌∷◌, Contains, AllPairs}
use Rattle.std.specs.List.Sorted.{IsStrictlyIncreasing}
use Rattle.std.proofs.Common.{suc, arith, ap₂, sym, subst, inl, inr, refl}
use Rattle.std.proofs.lemmas.List.Kept.{AllPairs-from_increasing}
use Rattle.fraction_theory.proofs.ListSums.{Contains-head, Contains-cons, Contains-cases}

-- ---- lists that ascend
later : (x : ℕ) (xs : List ℕ) → AllPairs (λ (a b : ℕ). a < b) (x ∷ xs) → (w : ℕ) → Contains xs w → x < w
later x xs p w c = subst (λ (z : ℕ). x < z) c.2 (p 0 (suc c.0) w (Prim.omega arith) (Prim.omega (arith, c.1)))

rest : (x : ℕ) (xs : List ℕ) → AllPairs (λ (a b : ℕ). a < b) (x ∷ xs) → AllPairs (λ (a b : ℕ). a < b) xs
rest x xs p i j d lt h = p (suc i) (suc j) d (Prim.omega (arith, lt)) (Prim.omega (arith, h))

pairs_same : (xs ys : List ℕ) → AllPairs (λ (a b : ℕ). a < b) xs → AllPairs (λ (a b : ℕ). a < b) ys → ((w : ℕ) → Contains xs w → Contains ys w) → ((w : ℕ) → Contains ys w → Contains xs w) → xs ≡ ys
pairs_same [] [] p q to from = refl
pairs_same [] (y ∷ ys) p q to from = let c = from y (Contains-head y ys) in absurd (Prim.omega (arith, c.1))
pairs_same (x ∷ xs) [] p q to from = let c = to x (Contains-head x xs) in absurd (Prim.omega (arith, c.1))
pairs_same (x ∷ xs) (y ∷ ys) p q to from =
    let one : x ≡ y = elim (Contains-cases y ys x (to x (Contains-head x xs))) [
      | inl e ↦ sym e
      | inr k ↦ elim (Contains-cases x xs y (from y (Contains-head y ys))) [
        | inl e ↦ e
        | inr l ↦ absurd (Prim.omega (arith, later y ys q x k, later x xs p y l))
      ]
    ] in
    ap₂ (λ (z : ℕ) (zs : List ℕ). z ∷ zs) one
    (pairs_same xs ys (rest x xs p) (rest y ys q)
    (λ w c. elim (Contains-cases y ys w (to w (Contains-cons x xs w c))) [ inl e ↦ absurd (Prim.omega (arith, later x xs p w c, one, e)) | inr k ↦ k ])
    (λ w c. elim (Contains-cases x xs w (from w (Contains-cons y ys w c))) [ inl e ↦ absurd (Prim.omega (arith, later y ys q w c, one, e)) | inr k ↦ k ]))

-- two lists that ascend and have the same members are one
pub ascending_same : (xs ys : List ℕ) → IsStrictlyIncreasing xs → IsStrictlyIncreasing ys → ((w : ℕ) → Contains xs w → Contains ys w) → ((w : ℕ) → Contains ys w → Contains xs w) → xs ≡ ys
ascending_same xs ys p q to from = pairs_same xs ys (AllPairs-from_increasing xs p) (AllPairs-from_increasing ys q) to from
