-- A point that goes before another one does so by the names that are kept, where the two agree at the others.
use Rattle.std.specs.Prelude.{◌≡◌, ℕ, ◌<◌, Bool, true, false, List, [], ◌∷◌, ◌++◌, cond, filter, length, reverse, slice_index, Contains, refl}
use Rattle.std.proofs.Common.{zero, suc, arith, ap, ap₂, sym, ◌∙◌, subst, inl, inr}
use Rattle.std.proofs.lemmas.List.{reverse-append}
use Rattle.std.proofs.lemmas.List.Elements.{Contains-append_cases, filter-append}
use Rattle.fraction_theory.specs.Fraction.{Fraction}
use Rattle.fraction_theory.specs.Order.{◌<ℚ◌}
use Rattle.fraction_theory.proofs.ListSums.{Contains-cases, Contains-cons, Contains-head}
use Rattle.fraction_theory.proofs.OrderLaws.{<ℚ_irrefl}
use Rattle.optimal_face.specs.FirstPoints.{GoesBefore}

pub filter-reverse : (p : ℕ → Bool) (xs : List ℕ) → filter p (reverse xs) ≡ reverse (filter p xs)
filter-reverse p [] = refl
filter-reverse p (x ∷ xs) =
    ap (filter p) (reverse-append (x ∷ []) xs) ∙ filter-append p (reverse xs) (x ∷ [])
    ∙ ap₂ ◌++◌ (filter-reverse p xs) (one (p x))
    ∙ sym (ap reverse (filter-append p (x ∷ []) xs) ∙ reverse-append (filter p (x ∷ [])) (filter p xs))
  where
    one : (b : Bool) → cond b (x ∷ []) [] ≡ reverse (cond b (x ∷ []) [])
    one true = refl
    one false = refl

pub from_reverse : (xs : List ℕ) (w : ℕ) → Contains (reverse xs) w → Contains xs w
from_reverse [] w c = c
from_reverse (x ∷ xs) w c = elim (Contains-append_cases (reverse xs) (x ∷ []) w (subst (λ (ys : List ℕ). Contains ys w) (reverse-append (x ∷ []) xs) c)) [
  | inl k ↦ Contains-cons x xs w (from_reverse xs w k)
  | inr k ↦ elim (Contains-cases x [] w k) [ inl e ↦ subst (Contains (x ∷ xs)) e (Contains-head x xs) | inr n ↦ absurd (Prim.omega (arith, n.1)) ]
]

module _ (kept : ℕ → Bool) (u z v : ℕ → Fraction) (agree : (w : ℕ) → kept w ≡ true → z w ≡ v w) where
  pub before_kept : (ns : List ℕ) → ((w : ℕ) → Contains ns w → kept w ≡ false → u w ≡ z w) → (p : ℕ) → p < length ns
      → ((k : ℕ) → k < p → u (slice_index ns k) ≡ z (slice_index ns k)) → z (slice_index ns p) <ℚ u (slice_index ns p) → GoesBefore (filter kept ns) u v
  before_kept [] others p below same more = absurd (Prim.omega (arith, below))
  before_kept (n ∷ ns) others zero below same more = by (kept n) refl
    where
      by : (b : Bool) → kept n ≡ b → GoesBefore (cond b (n ∷ filter kept ns) (filter kept ns)) u v
      by true e = record { place = 0; within = Prim.omega arith; same = λ k l. absurd (Prim.omega (arith, l)); more = subst (λ t. t <ℚ u n) (agree n e) more }
      by false e = absurd (<ℚ_irrefl (z n) (subst (λ t. z n <ℚ t) (others n (Contains-head n ns) e) more))
  before_kept (n ∷ ns) others (suc p) below same more =
      by (kept n) refl (before_kept ns (λ w c e. others w (Contains-cons n ns w c) e) p (Prim.omega (arith, below)) (λ k l. same (suc k) (Prim.omega (arith, l))) more)
    where
      by : (b : Bool) → kept n ≡ b → GoesBefore (filter kept ns) u v → GoesBefore (cond b (n ∷ filter kept ns) (filter kept ns)) u v
      by true e g = record { place = suc g.place; within = Prim.omega (arith, g.within); same = earlier; more = g.more }
        where
          earlier : (k : ℕ) → k < suc g.place → u (slice_index (n ∷ filter kept ns) k) ≡ v (slice_index (n ∷ filter kept ns) k)
          earlier zero l = same 0 (Prim.omega arith) ∙ agree n e
          earlier (suc k) l = g.same k (Prim.omega (arith, l))
      by false e g = g
