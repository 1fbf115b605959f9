-- A worked row: two blocks that sell, at 10 and at 30, for a load of 60 with a limit that leaves the second 10 to sell.
-- Columns x (0) and z (1) from 0 to 100; rows the balance y = x + z (2), at 60, and the flow u = -z/2 (3), from -85 to
-- -5. At the end x and z are basic, and the flow stands at its high bound: x = y + 2u and z = -2u.
use Rattle.std.specs.Prelude.{◌≡◌, ℕ, ◌==◌, if◌then◌else◌, nat_lt, pos, neg_ℤ, List, [], ◌∷◌, refl}
use Rattle.std.specs.List.{Contains}
use Rattle.std.proofs.Common.{arith, subst, inl, inr}
use Rattle.fraction_theory.specs.Divisors.{gcd, gcd_in}
use Rattle.fraction_theory.specs.Fraction.{Fraction, whole, over, ◌+ℚ◌, ◌*ℚ◌, neg_ℚ, same_fraction}
use Rattle.fraction_theory.proofs.FieldLaws.{ring_ℚ}
use Rattle.fraction_theory.proofs.Ring.{by_ring2, by_ring3, at, pnil, pone, pneg, ◌⊕◌, ◌⊗◌}
use Rattle.fraction_theory.proofs.ListSums.{Contains-cases}
use Rattle.linear_system.specs.Choices.{Choice, IsChoice, MeetsTable, at_bound, basics, column_entry, others, reduced, reduced_terms, value, value_terms}
use Rattle.linear_system.specs.Systems.{System, MeetsRows, activity}
use Rattle.fraction_theory.specs.Sums.{sum_by}

pub limited : System
limited = record {
  variables = 0 ∷ 1 ∷ 2 ∷ 3 ∷ [];
  columns = 0 ∷ 1 ∷ [];
  rows = 2 ∷ 3 ∷ [];
  coefficient = λ r j. if r == 2 then whole (pos 1) else if j == 0 then whole (pos 0) else over (neg_ℤ (pos 1)) 2;
  price = λ j. if j == 0 then whole (neg_ℤ (pos 10)) else whole (neg_ℤ (pos 30));
  low = λ w. if nat_lt w 2 then whole (pos 0) else if w == 2 then whole (pos 60) else whole (neg_ℤ (pos 85));
  high = λ w. if nat_lt w 2 then whole (pos 100) else if w == 2 then whole (pos 60) else whole (neg_ℤ (pos 5));
}

pub solved : Choice
solved = record {
  basic = λ w. nat_lt w 2;
  high = λ w. w == 3;
  entry = λ b w. if b == 0 then (if w == 2 then whole (pos 1) else whole (pos 2)) else if w == 2 then whole (pos 0) else neg_ℚ (whole (pos 2));
}

-- x is 50 and z is 10
pub limited-x : value limited solved 0 ≡ whole (pos 50)
unfolding limited solved value value_terms at_bound others ◌+ℚ◌ ◌*ℚ◌ neg_ℚ over whole gcd gcd_in
limited-x = same_fraction (value limited solved 0) (whole (pos 50)) refl refl

pub limited-z : value limited solved 1 ≡ whole (pos 10)
unfolding limited solved value value_terms at_bound others ◌+ℚ◌ ◌*ℚ◌ neg_ℚ over whole gcd gcd_in
limited-z = same_fraction (value limited solved 1) (whole (pos 10)) refl refl

-- a unit more of the balance is worth -10, and one more of the flow 40
pub limited-balance : reduced limited solved 2 ≡ whole (neg_ℤ (pos 10))
unfolding limited solved reduced reduced_terms column_entry ◌+ℚ◌ ◌*ℚ◌ neg_ℚ over whole gcd gcd_in
limited-balance = same_fraction (reduced limited solved 2) (whole (neg_ℤ (pos 10))) refl refl

pub limited-flow : reduced limited solved 3 ≡ whole (pos 40)
unfolding limited solved reduced reduced_terms column_entry ◌+ℚ◌ ◌*ℚ◌ neg_ℚ over whole gcd gcd_in
limited-flow = same_fraction (reduced limited solved 3) (whole (pos 40)) refl refl

-- twice minus a half
two_halves : whole (pos 2) *ℚ over (neg_ℤ (pos 1)) 2 ≡ neg_ℚ (whole (pos 1))
unfolding ◌+ℚ◌ ◌*ℚ◌ neg_ℚ over whole gcd gcd_in
two_halves = same_fraction (whole (pos 2) *ℚ over (neg_ℤ (pos 1)) 2) (neg_ℚ (whole (pos 1))) refl refl

both : (P : ℕ → Type 0) (a b : ℕ) → P a → P b → (w : ℕ) → Contains (a ∷ b ∷ []) w → P w
both P a b p q w c = elim (Contains-cases a (b ∷ []) w c) [
  | inl e ↦ subst P e p
  | inr d ↦ elim (Contains-cases b [] w d) [ inl e ↦ subst P e q | inr n ↦ absurd (Prim.omega (arith, n.1)) ]
]

module _ (v : ℕ → Fraction) where
  t : Fraction
  t = whole (pos 2)

  h : Fraction
  h = over (neg_ℤ (pos 1)) 2

  vs : List Fraction
  vs = v 0 ∷ v 1 ∷ v 2 ∷ v 3 ∷ t ∷ h ∷ []

  limited_table : MeetsRows limited v → MeetsTable limited solved v
  unfolding limited solved activity basics others t h vs
  limited_table m =
      let y : v 2 ≡ whole (pos 1) *ℚ v 0 +ℚ (whole (pos 1) *ℚ v 1 +ℚ whole (pos 0)) = m.row 2 (0, Prim.omega arith, refl) in
      let u : v 3 ≡ whole (pos 0) *ℚ v 0 +ℚ (h *ℚ v 1 +ℚ whole (pos 0)) = m.row 3 (1, Prim.omega arith, refl) in
      let x : v 0 ≡ whole (pos 1) *ℚ v 2 +ℚ (t *ℚ v 3 +ℚ whole (pos 0)) =
      by_ring3 ring_ℚ vs (at 0) (pone ⊗ at 2 ⊕ (at 4 ⊗ at 3 ⊕ pnil)) (pneg pone) (at 2) (pone ⊗ at 0 ⊕ (pone ⊗ at 1 ⊕ pnil))
      (pneg (at 4)) (at 3) (pnil ⊗ at 0 ⊕ (at 5 ⊗ at 1 ⊕ pnil)) (pneg (at 1)) (at 4 ⊗ at 5) (pneg pone) y u two_halves refl in
      let z : v 1 ≡ whole (pos 0) *ℚ v 2 +ℚ (neg_ℚ t *ℚ v 3 +ℚ whole (pos 0)) =
      by_ring2 ring_ℚ vs (at 1) (pnil ⊗ at 2 ⊕ (pneg (at 4) ⊗ at 3 ⊕ pnil)) (at 4) (at 3) (pnil ⊗ at 0 ⊕ (at 5 ⊗ at 1 ⊕ pnil))
      (at 1) (at 4 ⊗ at 5) (pneg pone) u two_halves refl in
      record { basic = both (λ b. v b ≡ sum_by (λ w. solved.entry b w *ℚ v w) (others limited solved)) 0 1 x z }

  limited_rows : MeetsTable limited solved v → MeetsRows limited v
  unfolding limited solved activity basics others t h vs
  limited_rows m =
      let x : v 0 ≡ whole (pos 1) *ℚ v 2 +ℚ (t *ℚ v 3 +ℚ whole (pos 0)) = m.basic 0 (0, Prim.omega arith, refl) in
      let z : v 1 ≡ whole (pos 0) *ℚ v 2 +ℚ (neg_ℚ t *ℚ v 3 +ℚ whole (pos 0)) = m.basic 1 (1, Prim.omega arith, refl) in
      let y : v 2 ≡ whole (pos 1) *ℚ v 0 +ℚ (whole (pos 1) *ℚ v 1 +ℚ whole (pos 0)) =
      by_ring2 ring_ℚ vs (at 2) (pone ⊗ at 0 ⊕ (pone ⊗ at 1 ⊕ pnil)) (pneg pone) (at 0) (pone ⊗ at 2 ⊕ (at 4 ⊗ at 3 ⊕ pnil))
      (pneg pone) (at 1) (pnil ⊗ at 2 ⊕ (pneg (at 4) ⊗ at 3 ⊕ pnil)) x z refl in
      let u : v 3 ≡ whole (pos 0) *ℚ v 0 +ℚ (h *ℚ v 1 +ℚ whole (pos 0)) =
      by_ring2 ring_ℚ vs (at 3) (pnil ⊗ at 0 ⊕ (at 5 ⊗ at 1 ⊕ pnil)) (pneg (at 5)) (at 1) (pnil ⊗ at 2 ⊕ (pneg (at 4) ⊗ at 3 ⊕ pnil))
      (at 3) (at 4 ⊗ at 5) (pneg pone) z two_halves refl in
      record { row = both (λ r. v r ≡ activity limited v r) 2 3 y u }

-- the split is a choice
pub limited-choice : IsChoice limited solved
limited-choice = record { to_table = limited_table; to_rows = limited_rows }
