-- At most one dispatch goes first.
use Rattle.std.specs.Prelude.{◌≡◌, ℕ, ◌<◌, ◌≤◌, length}
use Rattle.std.proofs.Common.{zero, suc, arith, ap₂, sym, ◌∙◌, subst, inl, inr}
use Rattle.std.proofs.lemmas.Bool.{cases_lt}
use Rattle.std.proofs.lemmas.List.{ext_get_or}
use Rattle.fraction_theory.specs.Fraction.{Fraction}
use Rattle.fraction_theory.specs.Order.{◌<ℚ◌}
use Rattle.fraction_theory.proofs.OrderLaws.{three_ways}
use Rattle.market_model.specs.Dispatch.{IsDispatch, zero as nil, accepted, reserved, dispatch_with}
use Rattle.one_dispatch.specs.Laws.{LawOfOneDispatch}
use Rattle.market_system.specs.Ties.{by_block, by_offer}

-- numbers by place are the same, where neither has more at the first place at which they differ
pub same_below : (f g : ℕ → Fraction) (n : ℕ)
    → ((k : ℕ) → k < n → ((i : ℕ) → i < k → f i ≡ g i) → ¬ (f k <ℚ g k))
    → ((k : ℕ) → k < n → ((i : ℕ) → i < k → f i ≡ g i) → ¬ (g k <ℚ f k))
    → (k : ℕ) → k ≤ n → (i : ℕ) → i < k → f i ≡ g i
same_below f g n less more zero h i lt = absurd (Prim.omega (arith, lt))
same_below f g n less more (suc k) h i lt = so_far (same_below f g n less more k (Prim.omega (arith, h)))
  where
    so_far : ((j : ℕ) → j < k → f j ≡ g j) → f i ≡ g i
    so_far before = elim (cases_lt i k) [
      | inl below ↦ before i below
      | inr above ↦ let last : k ≡ i = Prim.omega (arith, lt, above) in subst (λ (j : ℕ). f j ≡ g j) last
          (elim (three_ways (f k) (g k)) [
            | inl l ↦ absurd (less k (Prim.omega (arith, h)) before l)
            | inr w ↦ elim w [ inl e ↦ e | inr l ↦ absurd (more k (Prim.omega (arith, h)) before l) ]
          ])
    ]

pub law_of_one_dispatch : LawOfOneDispatch
law_of_one_dispatch m t x y p q = ap₂ dispatch_with (ext_get_or nil x.blocks y.blocks (a.count ∙ sym b.count) (λ j h. blocks j (Prim.omega (arith, h, a.count))))
    (ext_get_or nil x.reserve y.reserve (a.reserve_count ∙ sym b.reserve_count) (λ n h. offers n (Prim.omega (arith, h, a.reserve_count))))
  where
    a : IsDispatch m x
    a = p.best.feasible.blocks

    b : IsDispatch m y
    b = q.best.feasible.blocks

    blocks : (j : ℕ) → j < length m.blocks → accepted x j ≡ accepted y j
    blocks = same_below (accepted x) (accepted y) (length m.blocks)
        (λ k h before more. p.first y q.best (by_block k h (λ i lt. sym (before i lt)) more))
        (λ k h before more. q.first x p.best (by_block k h before more))
        (length m.blocks) (Prim.omega arith)

    offers : (n : ℕ) → n < length m.reserve.offers → reserved x n ≡ reserved y n
    offers = same_below (reserved x) (reserved y) (length m.reserve.offers)
        (λ k h before more. p.first y q.best (by_offer k h (λ i lt. sym (blocks i lt)) (λ i lt. sym (before i lt)) more))
        (λ k h before more. q.first x p.best (by_offer k h blocks before more))
        (length m.reserve.offers) (Prim.omega arith)
