-- Weak duality of linear programs, and columns that their prices support.
use Rattle.std.specs.Prelude.{◌≡◌, pos, List, [], ◌∷◌, refl}
use Rattle.std.proofs.Common.{sym, ◌∙◌, subst, inl, inr}
use Rattle.std.specs.List.{AllByRecursion}
use Rattle.fraction_theory.proofs.Ring.{by_ring, by_ring1, at, pnil, pneg, ◌⊕◌, ◌⊗◌}
use Rattle.fraction_theory.specs.Fraction.{Fraction, whole, ◌-ℚ◌, ◌*ℚ◌}
use Rattle.fraction_theory.proofs.FieldLaws.{ring_ℚ}
use Rattle.fraction_theory.specs.Order.{◌≤ℚ◌, NonNeg}
use Rattle.fraction_theory.proofs.OrderLaws.{≤ℚ_trans, *ℚ-≤ℚ, by_rest, NonNeg-times, le_to, ≤ℚ-or-<ℚ, <ℚ-not-≤ℚ, <ℚ-≤ℚ, ≤ℚ_antisym, ≤ℚ_of_same}
use Rattle.fraction_theory.specs.Sums.{sum_by}
use Rattle.fraction_theory.proofs.SumLaws.{sum_by-exchange, sum_by-≤, sum_by-same, sum_by-times}

module _ {S T : Type 0} (rows : List S) (columns : List T) (a : S → T → Fraction) (bound : S → Fraction) (price : T → Fraction) (x : T → Fraction) (y : S → Fraction) where
  -- x is 0 or above, and meets each row's bound
  pub record Feasible : Type 0 where
    pub above : AllByRecursion (λ j. NonNeg (x j)) columns
    pub rows_hold : AllByRecursion (λ i. sum_by (λ j. a i j *ℚ x j) columns ≤ℚ bound i) rows

  -- y is 0 or above, and covers each column's price
  pub record DualFeasible : Type 0 where
    pub above : AllByRecursion (λ i. NonNeg (y i)) rows
    pub columns_hold : AllByRecursion (λ j. price j ≤ℚ sum_by (λ i. y i *ℚ a i j) rows) columns

  both_columns : (js : List T) → AllByRecursion (λ j. NonNeg (x j)) js → AllByRecursion (λ j. price j ≤ℚ sum_by (λ i. y i *ℚ a i j) rows) js → AllByRecursion (λ j. (x j *ℚ price j) ≤ℚ (x j *ℚ sum_by (λ i. y i *ℚ a i j) rows)) js
  both_columns [] p q = tt
  both_columns (j ∷ js) p q = (*ℚ-≤ℚ (x j) (price j) (sum_by (λ i. y i *ℚ a i j) rows) p.0 q.0, both_columns js p.1 q.1)

  both_rows : (is : List S) → AllByRecursion (λ i. NonNeg (y i)) is → AllByRecursion (λ i. sum_by (λ j. a i j *ℚ x j) columns ≤ℚ bound i) is → AllByRecursion (λ i. (y i *ℚ sum_by (λ j. a i j *ℚ x j) columns) ≤ℚ (y i *ℚ bound i)) is
  both_rows [] p q = tt
  both_rows (i ∷ is) p q = (*ℚ-≤ℚ (y i) (sum_by (λ j. a i j *ℚ x j) columns) (bound i) p.0 q.0, both_rows is p.1 q.1)

  middle : sum_by (λ j. x j *ℚ sum_by (λ i. y i *ℚ a i j) rows) columns ≡ sum_by (λ i. y i *ℚ sum_by (λ j. a i j *ℚ x j) columns) rows
  middle =
      sum_by-same (λ j. x j *ℚ sum_by (λ i. y i *ℚ a i j) rows) (λ j. sum_by (λ i. x j *ℚ (y i *ℚ a i j)) rows) columns (λ j. sym (sum_by-times (x j) (λ i. y i *ℚ a i j) rows))
      ∙ sum_by-exchange (λ j i. x j *ℚ (y i *ℚ a i j)) columns rows
      ∙ sum_by-same (λ i. sum_by (λ j. x j *ℚ (y i *ℚ a i j)) columns) (λ i. y i *ℚ sum_by (λ j. a i j *ℚ x j) columns) rows
      (λ i. sum_by-same (λ j. x j *ℚ (y i *ℚ a i j)) (λ j. y i *ℚ (a i j *ℚ x j)) columns
      (λ j. by_ring ring_ℚ (x j ∷ y i ∷ a i j ∷ []) (at 0 ⊗ (at 1 ⊗ at 2)) (at 1 ⊗ (at 2 ⊗ at 0)) refl)
      ∙ sum_by-times (y i) (λ j. a i j *ℚ x j) columns)

  -- no x within the bounds is worth more than any y that covers the prices costs
  pub weak_duality : Feasible → DualFeasible → sum_by (λ j. x j *ℚ price j) columns ≤ℚ sum_by (λ i. y i *ℚ bound i) rows
  weak_duality f d =
      ≤ℚ_trans (sum_by (λ j. x j *ℚ price j) columns) (sum_by (λ j. x j *ℚ sum_by (λ i. y i *ℚ a i j) rows) columns) (sum_by (λ i. y i *ℚ bound i) rows)
      (sum_by-≤ (λ j. x j *ℚ price j) (λ j. x j *ℚ sum_by (λ i. y i *ℚ a i j) rows) columns (both_columns columns f.above d.columns_hold))
      (subst (λ t. t ≤ℚ sum_by (λ i. y i *ℚ bound i) rows) (sym middle)
      (sum_by-≤ (λ i. y i *ℚ sum_by (λ j. a i j *ℚ x j) columns) (λ i. y i *ℚ bound i) rows (both_rows rows d.above f.rows_hold)))

-- A quantity that its price supports: where it is worth more than the price all of it is taken, where less none.
pub record Supported (worth price taken most : Fraction) : Type 0 where
  pub full : ¬ (worth ≤ℚ price) → taken ≡ most
  pub empty : ¬ (price ≤ℚ worth) → taken ≡ whole (pos 0)

-- against any other quantity within its bounds it loses nothing
pub supports_best : (b p x q z : Fraction) → Supported b p x q → NonNeg z → z ≤ℚ q → ((b -ℚ p) *ℚ z) ≤ℚ ((b -ℚ p) *ℚ x)
supports_best b p x q z s h k = elim (≤ℚ-or-<ℚ b p) [
  | inr below ↦ subst (λ t. ((b -ℚ p) *ℚ z) ≤ℚ ((b -ℚ p) *ℚ t)) (sym (s.full (<ℚ-not-≤ℚ p b below)))
      (*ℚ-≤ℚ (b -ℚ p) z q (le_to p b (<ℚ-≤ℚ p b below)) k)
  | inl not_above ↦ elim (≤ℚ-or-<ℚ p b) [
    | inr above ↦ subst (λ t. ((b -ℚ p) *ℚ z) ≤ℚ ((b -ℚ p) *ℚ t)) (sym (s.empty (<ℚ-not-≤ℚ b p above)))
        (by_rest (b ∷ p ∷ z ∷ []) ((at 0 ⊕ pneg (at 1)) ⊗ at 2) ((at 0 ⊕ pneg (at 1)) ⊗ pnil) ((at 1 ⊕ pneg (at 0)) ⊗ at 2)
        (NonNeg-times (p -ℚ b) z (le_to b p (<ℚ-≤ℚ b p above)) h) refl)
    | inl not_below ↦ ≤ℚ_of_same ((b -ℚ p) *ℚ z) ((b -ℚ p) *ℚ x)
        (by_ring1 ring_ℚ (b ∷ p ∷ z ∷ x ∷ []) ((at 0 ⊕ pneg (at 1)) ⊗ at 2) ((at 0 ⊕ pneg (at 1)) ⊗ at 3) (at 2 ⊕ pneg (at 3)) (at 0) (at 1) (≤ℚ_antisym b p not_above not_below) refl)
  ]
]
