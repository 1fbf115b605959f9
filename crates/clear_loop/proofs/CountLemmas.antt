-- Lists of distinct members are no longer than the lists that they are of.
use Rattle.std.specs.Prelude.{◌≡◌, ◌≢◌, ◌+◌, ◌≤◌, List, [], ◌∷◌, ◌++◌, length, AllPairs, Contains}
use Rattle.std.proofs.Common.{suc, arith, ap, sym, ◌∙◌, subst, inl, inr, length-append}
use Rattle.std.proofs.lemmas.List.Elements.{Contains-append_cases, Contains-append_left, Contains-append_right}
use Rattle.fraction_theory.proofs.ListSums.{Contains-head, Contains-cons, Contains-cases}

module _ {X : Type 0} where
  split_at : (ys : List X) (x : X) → Contains ys x → (front : List X) × (back : List X) × (ys ≡ front ++ x ∷ back)
  split_at [] x c = absurd (Prim.omega (arith, c.1))
  split_at (y ∷ ys) x c = elim (Contains-cases y ys x c) [
    | inl e ↦ ([], ys, ap (λ (z : X). z ∷ ys) e)
    | inr k ↦ more (split_at ys x k)
  ]
    where
      more : (front : List X) × (back : List X) × (ys ≡ front ++ x ∷ back) → (front : List X) × (back : List X) × (y ∷ ys ≡ front ++ x ∷ back)
      more (front, back, e) = (y ∷ front, back, ap (λ zs. y ∷ zs) e)

  pub no_longer : (xs ys : List X) → AllPairs (λ (a b : X). a ≢ b) xs → ((x : X) → Contains xs x → Contains ys x) → length xs ≤ length ys
  no_longer [] ys d all = Prim.omega arith
  no_longer (x ∷ xs) ys d all = by (split_at ys x (all x (Contains-head x xs))) (λ zs h. no_longer xs zs (λ i j e lt k. d (suc i) (suc j) e (Prim.omega (arith, lt)) (Prim.omega (arith, k))) h)
    where
      apart : (z : X) → Contains xs z → z ≢ x
      apart z (k, lt, is) e = d 0 (suc k) z (Prim.omega arith) (Prim.omega (arith, lt)) (sym e ∙ sym is)

      by : (front : List X) × (back : List X) × (ys ≡ front ++ x ∷ back) → ((zs : List X) → ((z : X) → Contains xs z → Contains zs z) → length xs ≤ length zs) → length (x ∷ xs) ≤ length ys
      by (front, back, e) fewer =
          let kept : (z : X) → Contains xs z → Contains (front ++ back) z =
          λ z c. elim (Contains-append_cases front (x ∷ back) z (subst (λ zs. Contains zs z) e (all z (Contains-cons x xs z c)))) [
            | inl k ↦ Contains-append_left front back z k
            | inr k ↦ elim (Contains-cases x back z k) [ inl s ↦ absurd (apart z c (sym s)) | inr n ↦ Contains-append_right front back z n ]
          ] in
          let short = fewer (front ++ back) kept in
          let first = length-append front back in
          let all_of : length ys ≡ length front + length (x ∷ back) = ap length e ∙ length-append front (x ∷ back) in
          Prim.omega (arith, short, first, all_of)
