-- What multipliers of all variables say of the columns, where they give a combination of the columns at every solution.
use Rattle.std.specs.Prelude.{◌≡◌, ℕ, ◌==◌, pos, Bool, true, false, List, [], ◌∷◌, if◌then◌else◌, refl, ◌⊎◌}
use Rattle.std.specs.List.{Contains}
use Rattle.std.proofs.Common.{arith, ap, sym, ◌∙◌, subst, inl, inr}
use Rattle.std.proofs.lemmas.Bool.Decides.{eqb_tells}
use mathlib.Core.Path.{ap₂}
use Rattle.fraction_theory.specs.Fraction.{Fraction, whole, ◌+ℚ◌, ◌*ℚ◌}
use Rattle.fraction_theory.specs.Sums.{sum_by, total}
use Rattle.fraction_theory.proofs.Ring.{by_ring, at, pnil, pone, ◌⊗◌}
use Rattle.fraction_theory.proofs.FieldLaws.{ring_ℚ}
use Rattle.fraction_theory.proofs.ListSums.{Contains-head, Contains-cons, Contains-cases, Distinct-increasing, put_at, put_at-here, put_at-elsewhere, sum_by-members, sum_by-one, sum_by-within}
use Rattle.linear_system.specs.Systems.{System, IsSystem, MeetsRows, activity, objective}
use Rattle.linear_system.specs.Choices.{Choice, basics, others, IsChoice, reduced, reduced_terms}
use Rattle.linear_system.proofs.ChoiceLaws.{others_are, is_other, basics_are, is_basic, others_distinct, objective_by_others}

-- whether a name is in a list
has : List ℕ → ℕ → Bool
has [] w = false
has (n ∷ ns) w = if n == w then true else has ns w

has-in : (ns : List ℕ) (w : ℕ) → Contains ns w → has ns w ≡ true
unfolding has
has-in [] w c = absurd (Prim.omega (arith, c.1))
has-in (n ∷ ns) w c = elim (eqb_tells n w) [
  | inl t ↦ ap (λ (b : Bool). if b then true else has ns w) t.0
  | inr t ↦ ap (λ (b : Bool). if b then true else has ns w) t.0 ∙ has-in ns w (elim (Contains-cases n ns w c) [ inl e ↦ absurd (t.1 e) | inr k ↦ k ])
]

has-not : (ns : List ℕ) (w : ℕ) → ¬ (Contains ns w) → has ns w ≡ false
unfolding has
has-not [] w n = refl
has-not (m ∷ ns) w n = elim (eqb_tells m w) [
  | inl t ↦ absurd (n (subst (λ (x : ℕ). Contains (m ∷ ns) x) t.1 (Contains-head m ns)))
  | inr t ↦ ap (λ (b : Bool). if b then true else has ns w) t.0 ∙ has-not ns w (λ k. n (Contains-cons m ns w k))
]

times_nil : (x : Fraction) → x *ℚ whole (pos 0) ≡ whole (pos 0)
times_nil x = by_ring ring_ℚ (x ∷ []) (at 0 ⊗ pnil) pnil refl

nil_times : (x : Fraction) → whole (pos 0) *ℚ x ≡ whole (pos 0)
nil_times x = by_ring ring_ℚ (x ∷ []) (pnil ⊗ at 0) pnil refl

times_one : (x : Fraction) → x *ℚ whole (pos 1) ≡ x
times_one x = by_ring ring_ℚ (x ∷ []) (at 0 ⊗ pone) (at 0) refl

module _ (s : System) (system : IsSystem s) where
  -- the point with these values of the columns
  pub by_columns : (ℕ → Fraction) → ℕ → Fraction
  by_columns x w = if has s.columns w then x w else activity s x w

  pub by_columns-column : (x : ℕ → Fraction) (j : ℕ) → Contains s.columns j → by_columns x j ≡ x j
  unfolding by_columns
  by_columns-column x j c = ap (λ (b : Bool). if b then x j else activity s x j) (has-in s.columns j c)

  pub by_columns-row : (x : ℕ → Fraction) (r : ℕ) → Contains s.rows r → by_columns x r ≡ activity s x r
  unfolding by_columns
  by_columns-row x r c = ap (λ (b : Bool). if b then x r else activity s x r) (has-not s.columns r (λ k. system.apart r k c))

  pub by_columns-meets : (x : ℕ → Fraction) → MeetsRows s (by_columns x)
  unfolding activity
  by_columns-meets x = record {
    row = λ r c.
        by_columns-row x r c
        ∙ sum_by-members (λ j. s.coefficient r j *ℚ x j) (λ j. s.coefficient r j *ℚ by_columns x j) s.columns (λ j k. ap (λ t. s.coefficient r j *ℚ t) (sym (by_columns-column x j k)));
  }

  -- 1 at a column
  unit_at : ℕ → ℕ → Fraction
  unit_at j = put_at j (whole (pos 1)) (λ w. whole (pos 0))

  -- a sum of products with that
  at_unit : (j : ℕ) → Contains s.columns j → (f : ℕ → Fraction) → sum_by (λ w. f w *ℚ unit_at j w) s.columns ≡ f j
  unfolding unit_at
  at_unit j c f =
      sum_by-one (λ w. f w *ℚ unit_at j w) j s.columns (Distinct-increasing s.columns system.columns_ascend) c
      (λ w k n. ap (λ t. f w *ℚ t) (put_at-elsewhere j (whole (pos 1)) (λ w. whole (pos 0)) w n) ∙ times_nil (f w))
      ∙ ap (λ t. f j *ℚ t) (put_at-here j (whole (pos 1)) (λ w. whole (pos 0)) j refl)
      ∙ times_one (f j)

  module _ (both : (f : ℕ → Fraction) → sum_by f s.variables ≡ sum_by f s.columns +ℚ sum_by f s.rows) where
    -- a combination of the columns that the multipliers give at every solution
    pub multiplied : (p c : ℕ → Fraction)
        → ((v : ℕ → Fraction) → MeetsRows s v → sum_by (λ j. p j *ℚ v j) s.columns ≡ sum_by (λ w. c w *ℚ v w) s.variables)
        → (j : ℕ) → Contains s.columns j → p j ≡ c j +ℚ sum_by (λ r. c r *ℚ s.coefficient r j) s.rows
    unfolding activity
    multiplied p c identity j k =
        let v : ℕ → Fraction = by_columns (unit_at j) in
        let of_columns : (f : ℕ → Fraction) → sum_by (λ w. f w *ℚ v w) s.columns ≡ f j =
        λ f. sum_by-members (λ w. f w *ℚ v w) (λ w. f w *ℚ unit_at j w) s.columns (λ w m. ap (λ t. f w *ℚ t) (by_columns-column (unit_at j) w m)) ∙ at_unit j k f in
        sym (of_columns p) ∙ identity v (by_columns-meets (unit_at j)) ∙ both (λ w. c w *ℚ v w)
        ∙ ap₂ ◌+ℚ◌ (of_columns c)
        (sum_by-members (λ r. c r *ℚ v r) (λ r. c r *ℚ s.coefficient r j) s.rows (λ r m. ap (λ t. c r *ℚ t) (by_columns-row (unit_at j) r m ∙ at_unit j k (s.coefficient r))))

    module _ (h : Choice) (choice : IsChoice s h) where
      -- a sum over the others, of a function that is 0 at the basic variables
      pub over_all : (f : ℕ → Fraction) → ((b : ℕ) → Contains (basics s h) b → f b ≡ whole (pos 0)) → sum_by f (others s h) ≡ sum_by f s.variables
      over_all f none =
          let distinct = Distinct-increasing s.variables system.ascending in
          sum_by-within f (others s h) s.variables (others_distinct s h distinct) distinct (λ w c. (others_are s h w c).0)
          (λ w c. by_basic w c (h.basic w) refl)
        where
          by_basic : (w : ℕ) → Contains s.variables w → (b : Bool) → h.basic w ≡ b → Contains (others s h) w ⊎ (f w ≡ whole (pos 0))
          by_basic w c true e = inr (none w (is_basic s h w c e))
          by_basic w c false e = inl (is_other s h w c e)

      unpriced : (b : ℕ) → Contains (basics s h) b → reduced s h b ≡ whole (pos 0)
      unfolding reduced
      unpriced b c = ap (λ (t : Bool). if t then whole (pos 0) else total (reduced_terms s h b)) (basics_are s h b c).1

      -- the price of a column is its reduced price, and what the rows take at theirs
      pub price_by_rows : (j : ℕ) → Contains s.columns j → s.price j ≡ reduced s h j +ℚ sum_by (λ r. reduced s h r *ℚ s.coefficient r j) s.rows
      unfolding objective
      price_by_rows = multiplied s.price (reduced s h)
          (λ v m. objective_by_others s system h choice v m
          ∙ over_all (λ w. reduced s h w *ℚ v w) (λ b c. ap (λ t. t *ℚ v b) (unpriced b c) ∙ nil_times (v b)))
