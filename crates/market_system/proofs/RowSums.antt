-- Sums over lists where one member alone has a number, and over rows in the market's order.
use Rattle.std.specs.Prelude.{◌≡◌, ◌≢◌, ◌||◌, Bool, true, false, List, [], ◌∷◌, filter, AllPairs, Contains, refl}
use Rattle.std.proofs.Common.{suc, arith, ap, sym, ◌∙◌, subst, inl, inr}
use mathlib.Core.Path.{ap₂}
use Rattle.fraction_theory.specs.Fraction.{Fraction, ◌+ℚ◌}
use Rattle.fraction_theory.specs.Sums.{sum_by}
use Rattle.fraction_theory.proofs.Ring.{nil_plus}
use Rattle.fraction_theory.proofs.FieldLaws.{ring_ℚ}
use Rattle.fraction_theory.proofs.SumLaws.{sum_by-nil, sum_by-plus, sum_by-same}
use Rattle.fraction_theory.proofs.ListSums.{kept, Contains-head, Contains-cons, Contains-cases, sum_by-filter, sum_by-members}
use Rattle.market_model.specs.declared.limits.Row.{Row}
use Rattle.market_model.specs.declared.participants.Parts.{Parts}
use Rattle.market_model.specs.Dispatch.{zero}
use Rattle.market_model.specs.LimitRows.{rows}
use Rattle.market_system.specs.MarketSystem.{same_row, is_in, in_order}
use Rattle.market_system.specs.SolvedLaws.{AreRows}
use Rattle.market_system.proofs.RowOrder.{RowsApart, same_row-is, same_row-itself, same_row-not, is_in-from, in_order-filter}

-- a sum over members of which none stands twice, and one alone has a number
pub sum_by-alone : {T : Type 0} (f : T → Fraction) (a : T) (xs : List T) → AllPairs (λ x y. x ≢ y) xs → Contains xs a → ((x : T) → Contains xs x → x ≢ a → f x ≡ zero) → sum_by f xs ≡ f a
sum_by-alone f a [] d c h = absurd (Prim.omega (arith, c.1))
sum_by-alone {T} f a (x ∷ xs) d c h = elim (Contains-cases x xs a c) [
  | inl e ↦ ap₂ ◌+ℚ◌ (ap f e) (sum_by-members f (λ y. zero) xs (λ y k. h y (Contains-cons x xs y k) (λ s. apart (subst (Contains xs) (s ∙ sym e) k))) ∙ sum_by-nil xs) ∙ ring_ℚ.plus_nil (f a)
  | inr k ↦ ap₂ ◌+ℚ◌ (h x (Contains-head x xs) (λ s. apart (subst (Contains xs) (sym s) k)))
      (sum_by-alone f a xs (λ i j e lt l. d (suc i) (suc j) e (Prim.omega (arith, lt)) (Prim.omega (arith, l))) k (λ y l. h y (Contains-cons x xs y l)))
      ∙ nil_plus ring_ℚ (f a)
]
  where
    apart : ¬ (Contains xs x)
    apart k = d 0 (suc k.0) x (Prim.omega arith) (Prim.omega (arith, k.1)) (sym k.2)

-- ---- the rows of a list in the market's order
module _ (m : Parts) (apart : RowsApart m) where
  either : (a b : Bool) (x : Fraction) → (a ≡ true → b ≡ true → ⊥) → kept a x +ℚ kept b x ≡ kept (a || b) x
  either true true x both = absurd (both refl refl)
  either true false x both = ring_ℚ.plus_nil x
  either false b x both = nil_plus ring_ℚ (kept b x)

  by_rows : (f : Row → Fraction) (g : List Row) → AreRows m g → sum_by f g ≡ sum_by (λ r. kept (is_in g r) (f r)) (rows m)
  by_rows f [] are = sym (sum_by-nil (rows m))
  by_rows f (t ∷ ts) are =
      ap₂ ◌+ℚ◌
      (sym (sum_by-alone (λ r. kept (same_row t r) (f r)) t (rows m) apart (are.rows t (Contains-head t ts)) (λ r c n. ap (λ (b : Bool). kept b (f r)) (same_row-not t r (λ e. n (sym e))))
      ∙ ap (λ (b : Bool). kept b (f t)) (same_row-itself t)))
      (by_rows f ts (record {
        rows = λ r c. are.rows r (Contains-cons t ts r c);
        distinct = λ i j d lt h. are.distinct (suc i) (suc j) d (Prim.omega (arith, lt)) (Prim.omega (arith, h));
      }))
      ∙ sym (sum_by-plus (λ r. kept (same_row t r) (f r)) (λ r. kept (is_in ts r) (f r)) (rows m))
      ∙ sum_by-same (λ r. kept (same_row t r) (f r) +ℚ kept (is_in ts r) (f r)) (λ r. kept (same_row t r || is_in ts r) (f r)) (rows m)
      (λ r. either (same_row t r) (is_in ts r) (f r) (λ a b. once (subst (Contains ts) (sym (same_row-is t r a)) (is_in-from ts r b))))
    where
      once : ¬ (Contains ts t)
      once k = are.distinct 0 (suc k.0) t (Prim.omega arith) (Prim.omega (arith, k.1)) (sym k.2)

  -- a sum over those that a test keeps is the same in that order
  pub sum_by-in_order : (f : Row → Fraction) (test : Row → Bool) (g : List Row) → AreRows m g → sum_by f (filter test g) ≡ sum_by f (filter test (in_order m g))
  sum_by-in_order f test g are =
      let tested : Row → Fraction = λ r. kept (test r) (f r) in
      sum_by-filter f test g ∙ by_rows tested g are ∙ sym (sum_by-filter tested (is_in g) (rows m)) ∙ ap (sum_by tested) (sym (in_order-filter m g)) ∙ sym (sum_by-filter f test (in_order m g))
