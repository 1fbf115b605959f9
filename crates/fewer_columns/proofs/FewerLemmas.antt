-- Points of a system without columns that have to be 0 are those of the whole one.
use Rattle.std.specs.Prelude.{◌≡◌, ℕ, pos, Bool, true, false, List, [], ◌∷◌, filter, reverse, if◌then◌else◌, Contains, refl}
use Rattle.std.proofs.Common.{ap, sym, ◌∙◌, subst, subst₂, inl, inr}
use Rattle.std.proofs.lemmas.List.Kept.{IsStrictlyIncreasing-filter}
use Rattle.fraction_theory.specs.Fraction.{Fraction, whole, ◌*ℚ◌}
use Rattle.fraction_theory.specs.Order.{◌≤ℚ◌}
use Rattle.fraction_theory.specs.Sums.{sum_by}
use Rattle.fraction_theory.proofs.FieldLaws.{ring_ℚ}
use Rattle.fraction_theory.proofs.ListSums.{Contains-filter, Contains-from_filter, kept as counted, sum_by-filter, sum_by-members}
use Rattle.fraction_theory.proofs.OrderLaws.{≤ℚ_antisym, ≤ℚ_of_same}
use Rattle.fraction_theory.proofs.Ring.{by_ring, at, pnil, ◌⊗◌}
use Rattle.linear_system.specs.Systems.{InBounds, IsSystem, MeetsRows, System, activity, objective}
use Rattle.simplex_theory.specs.States.{IsBest}
use Rattle.optimal_face.specs.FirstPoints.{GoesBefore, IsFirstBest}
use Rattle.fewer_columns.specs.Fewer.{MayLeave, fewer, with_nil}
use Rattle.fewer_columns.specs.Laws.{LawOfFewerPoints, LawOfTheFewer, LawOfTheFirstOfFewer}
use Rattle.fewer_columns.proofs.OrderLemmas.{before_kept, filter-reverse, from_reverse}

abbrev nil : Fraction
nil = whole (pos 0)

module _ (kept : ℕ → Bool) where
  -- ---- with 0 for what is left out
  stays : (v : ℕ → Fraction) (w : ℕ) → kept w ≡ true → with_nil kept v w ≡ v w
  stays v w e = ap (λ (b : Bool). if b then v w else nil) e

  gone : (v : ℕ → Fraction) (w : ℕ) → kept w ≡ false → with_nil kept v w ≡ nil
  gone v w e = ap (λ (b : Bool). if b then v w else nil) e

  -- a sum over the columns that are kept is that over all with 0 for the others
  sum_kept : (f v : ℕ → Fraction) (cs : List ℕ) → sum_by (λ j. f j *ℚ v j) (filter kept cs) ≡ sum_by (λ j. f j *ℚ with_nil kept v j) cs
  sum_kept f v cs = sum_by-filter (λ j. f j *ℚ v j) kept cs ∙ sum_by-members (λ j. counted (kept j) (f j *ℚ v j)) (λ j. f j *ℚ with_nil kept v j) cs (λ j c. by j (kept j))
    where
      by : (j : ℕ) (b : Bool) → counted b (f j *ℚ v j) ≡ f j *ℚ (if b then v j else nil)
      by j true = refl
      by j false = by_ring ring_ℚ (f j ∷ []) pnil (at 0 ⊗ pnil) refl

module _ (s : System) (kept : ℕ → Bool) (system : IsSystem s) (may : MayLeave s kept) where
  abbrev t : System
  t = fewer s kept

  column_of : (w : ℕ) → Contains s.variables w → kept w ≡ false → Contains s.columns w
  column_of w c e = elim (system.either w c) [
    | inl k ↦ k
    | inr k ↦ let wrong : false ≡ true = sym e ∙ may.rows w k in absurd cc
  ]

  pub is_system : IsSystem t
  unfolding fewer
  is_system = record {
    ascending = IsStrictlyIncreasing-filter kept s.variables system.ascending;
    columns_ascend = IsStrictlyIncreasing-filter kept s.columns system.columns_ascend;
    rows_ascend = system.rows_ascend;
    column = λ j c. let k = Contains-from_filter kept s.columns j c in Contains-filter kept s.variables j (system.column j k.0) k.1;
    row = λ r c. Contains-filter kept s.variables r (system.row r c) (may.rows r c);
    either = λ w c. let k = Contains-from_filter kept s.variables w c in elim (system.either w k.0) [ inl l ↦ inl (Contains-filter kept s.columns w l k.1) | inr l ↦ inr l ];
    apart = λ w c. system.apart w (Contains-from_filter kept s.columns w c).0;
  }

  -- ---- a point of the whole one
  module _ (u : ℕ → Fraction) (meets : MeetsRows s u) (within : InBounds s u) where
    is_nil : (j : ℕ) → Contains s.columns j → kept j ≡ false → u j ≡ nil
    is_nil j c e =
        let k = system.column j c in
        ≤ℚ_antisym (u j) nil (subst (λ a. u j ≤ℚ a) (may.high j c e) (within.high j k)) (subst (λ a. a ≤ℚ u j) (may.low j c e) (within.low j k))

    same_nil : (j : ℕ) → Contains s.columns j → with_nil kept u j ≡ u j
    same_nil j c = by (kept j) refl
      where
        by : (b : Bool) → kept j ≡ b → (if b then u j else nil) ≡ u j
        by true e = refl
        by false e = sym (is_nil j c e)

    sum_same : (f : ℕ → Fraction) → sum_by (λ j. f j *ℚ u j) (filter kept s.columns) ≡ sum_by (λ j. f j *ℚ u j) s.columns
    sum_same f = sum_kept kept f u s.columns ∙ sum_by-members (λ j. f j *ℚ with_nil kept u j) (λ j. f j *ℚ u j) s.columns (λ j c. ap (λ a. f j *ℚ a) (same_nil j c))

    meets_fewer : MeetsRows t u
    unfolding fewer activity
    meets_fewer = record { row = λ r c. meets.row r c ∙ sym (sum_same (s.coefficient r)) }

    within_fewer : InBounds t u
    unfolding fewer
    within_fewer = record {
      low = λ w c. within.low w (Contains-from_filter kept s.variables w c).0;
      high = λ w c. within.high w (Contains-from_filter kept s.variables w c).0;
    }

    worth_fewer : objective t u ≡ objective s u
    unfolding fewer objective
    worth_fewer = sum_same s.price

  -- ---- a point of the fewer
  module _ (v : ℕ → Fraction) (meets : MeetsRows t v) (within : InBounds t v) where
    abbrev full : ℕ → Fraction
    full = with_nil kept v

    meets_whole : MeetsRows s full
    unfolding fewer activity
    meets_whole = record { row = λ r c. stays kept v r (may.rows r c) ∙ meets.row r c ∙ sum_kept kept (s.coefficient r) v s.columns }

    within_whole : InBounds s full
    unfolding fewer
    within_whole = record { low = low; high = high }
      where
        low : (w : ℕ) → Contains s.variables w → s.low w ≤ℚ full w
        low w c = by (kept w) refl
          where
            by : (b : Bool) → kept w ≡ b → s.low w ≤ℚ (if b then v w else nil)
            by true e = within.low w (Contains-filter kept s.variables w c e)
            by false e = ≤ℚ_of_same (s.low w) nil (may.low w (column_of w c e) e)

        high : (w : ℕ) → Contains s.variables w → full w ≤ℚ s.high w
        high w c = by (kept w) refl
          where
            by : (b : Bool) → kept w ≡ b → (if b then v w else nil) ≤ℚ s.high w
            by true e = within.high w (Contains-filter kept s.variables w c e)
            by false e = ≤ℚ_of_same nil (s.high w) (sym (may.high w (column_of w c e) e))

    worth_whole : objective t v ≡ objective s full
    unfolding fewer objective
    worth_whole = sum_kept kept s.price v s.columns

  -- ---- best points
  best_whole : (v : ℕ → Fraction) → IsBest t v → IsBest s (with_nil kept v)
  best_whole v best = record {
    meets = meets_whole v best.meets best.within;
    within = within_whole v best.meets best.within;
    best = λ u meets within. subst₂ ◌≤ℚ◌ (worth_fewer u meets within) (worth_whole v best.meets best.within)
        (best.best u (meets_fewer u meets within) (within_fewer u meets within));
  }

  best_fewer : (u : ℕ → Fraction) → IsBest s u → IsBest t u
  best_fewer u best = record {
    meets = meets_fewer u best.meets best.within;
    within = within_fewer u best.meets best.within;
    best = λ w meets within. subst₂ ◌≤ℚ◌ (sym (worth_whole w meets within)) (sym (worth_fewer u best.meets best.within))
        (best.best (with_nil kept w) (meets_whole w meets within) (within_whole w meets within));
  }

  pub first_whole : (v : ℕ → Fraction) → IsFirstBest t (reverse t.columns) v → IsFirstBest s (reverse s.columns) (with_nil kept v)
  unfolding fewer
  first_whole v first = record {
    best = best_whole v first.best;
    first = λ u best g. first.first u (best_fewer u best)
        (subst (λ (ns : List ℕ). GoesBefore ns u v) (filter-reverse kept s.columns)
        (before_kept kept u (with_nil kept v) v (stays kept v) (reverse s.columns) (others u best) g.place g.within g.same g.more));
  }
    where
      others : (u : ℕ → Fraction) → IsBest s u → (w : ℕ) → Contains (reverse s.columns) w → kept w ≡ false → u w ≡ with_nil kept v w
      others u best w c e = is_nil u best.meets best.within w (from_reverse s.columns w c) e ∙ sym (gone kept v w e)

pub law_of_the_fewer : LawOfTheFewer
law_of_the_fewer s kept system may = is_system s kept system may

pub law_of_fewer_points : LawOfFewerPoints
law_of_fewer_points s kept v system may point = record { rows = meets_fewer s kept system may v point.rows point.bounds; bounds = within_fewer s kept system may v point.rows point.bounds }

pub law_of_the_first_of_fewer : LawOfTheFirstOfFewer
law_of_the_first_of_fewer s kept v system may first = first_whole s kept system may v first
