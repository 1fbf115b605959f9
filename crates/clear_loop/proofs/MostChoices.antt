-- What a flow leaves of the most that it may be is a number of the market: the value of a column of its soft row, at the choice where that is basic
-- in place of the row, the row stands at its limit and the other column of the row at its most.
use Rattle.std.specs.Prelude.{◌≡◌, ◌≢◌, ◌||◌, ◌==◌, ℕ, ◌+◌, ◌<◌, ◌≤◌, pos, Bool, true, false, not, List, [], ◌∷◌, Contains, length, if◌then◌else◌, refl}
use Rattle.std.specs.List.Sorted.{IsStrictlyIncreasing}
use Rattle.std.proofs.Common.{arith, ap, ap₂, sym, ◌∙◌, subst, inl, inr}
use Rattle.std.proofs.lemmas.Bool.{eq-eqb, ne_eqb}
use Rattle.std.proofs.lemmas.List.Kept.{AllPairs-from_increasing, AllPairs-filter}
use Rattle.fraction_theory.specs.Fraction.{Fraction, whole, neg_ℚ, ◌+ℚ◌, ◌-ℚ◌, ◌*ℚ◌}
use Rattle.fraction_theory.specs.Sums.{sum_by, total}
use Rattle.fraction_theory.proofs.FieldLaws.{ring_ℚ}
use Rattle.fraction_theory.proofs.ListSums.{Distinct-increasing, kept, sum_by-members}
use Rattle.fraction_theory.proofs.Ring.{by_ring, at, pneg, pnil, ◌⊕◌, ◌⊗◌}
use Rattle.fraction_theory.proofs.SumLaws.{prefix-all, sum_by-nil}
use Rattle.linear_dict.specs.Places.{is_among}
use Rattle.linear_dict.proofs.NameLemmas.{among-tells, among-from, among-not}
use Rattle.linear_system.specs.Choices.{Choice, IsChoice, at_bound, basics, others, value, value_terms}
use Rattle.linear_system.specs.Exchanges.{exchanged}
use Rattle.linear_system.specs.Numbers.{Quantity, SystemNumber, is_value}
use Rattle.linear_system.specs.Systems.{IsSystem, System, activity}
use Rattle.linear_system.proofs.ChoiceLaws.{basics_are, is_basic, is_other, others_are, value_meets}
use Rattle.linear_system.proofs.ExchangeLaws.{exchanged_is}
use Rattle.market_model.specs.declared.limits.Row.{Row}
use Rattle.market_model.specs.declared.participants.Parts.{Parts}
use Rattle.market_model.specs.Dispatch.{empty, places, zero}
use Rattle.market_model.specs.LimitRows.{flow, is_soft, limit, most_excess, most_flow}
use Rattle.market_model.specs.Optimality.{Taken}
use Rattle.market_model.proofs.RowMembers.{Contains-from_places}
use Rattle.market_system.specs.declared.variables.Variable.TheVariants.{Block, Limit, Over, Under}
use Rattle.market_system.specs.MarketSystem.{block_coefficient, least_added, most_added, over_name, row_name, system_over, under_name}
use Rattle.market_system.proofs.RowOrder.{AreInOrder, increasing-from_pairs, same_row-itself}
use Rattle.market_system.proofs.VariableLaws as law
use Rattle.market_dict.proofs.NameLists.{ascending_same}

-- ---- the choice whose rows are basic, with the other variables at these bounds
abbrev pub rows_basic : System → (ℕ → Bool) → Choice
rows_basic s high = record { basic = is_among s.rows; high = high; entry = s.coefficient }

module _ (s : System) (system : IsSystem s) (high : ℕ → Bool) where
  abbrev h : Choice
  h = rows_basic s high

  not_row : (w : ℕ) → Contains s.columns w → is_among s.rows w ≡ false
  not_row w c = among-not s.rows w (system.apart w c)

  other_column : (w : ℕ) → Contains (others s h) w → Contains s.columns w
  other_column w c =
      let k = others_are s h w c in
      elim (system.either w k.0) [
        | inl l ↦ l
        | inr l ↦ let wrong : true ≡ false = sym (among-tells s.rows w l) ∙ k.1 in absurd Prim.cc
      ]

  pub column_other : (w : ℕ) → Contains s.columns w → Contains (others s h) w
  column_other w c = is_other s h w (system.column w c) (not_row w c)

  others_ascend : IsStrictlyIncreasing (others s h)
  unfolding others
  others_ascend =
      increasing-from_pairs (others s h) (AllPairs-filter (λ (a b : ℕ). a < b) (λ w. not (is_among s.rows w)) s.variables (AllPairs-from_increasing s.variables system.ascending))

  others_columns : others s h ≡ s.columns
  others_columns = ascending_same (others s h) s.columns others_ascend system.columns_ascend other_column column_other

  pub row_basic : (r : ℕ) → Contains s.rows r → Contains (basics s h) r
  row_basic r c = is_basic s h r (system.row r c) (among-tells s.rows r c)

  pub rows_choice : IsChoice s h
  unfolding activity
  rows_choice = record {
    to_table = λ v meets. record {
      basic = λ b c.
          meets.row b (among-from s.rows b (basics_are s h b c).1) ∙ ap (λ (ws : List ℕ). sum_by (λ w. s.coefficient b w *ℚ v w) ws) (sym others_columns);
    };
    to_rows = λ v meets. record { row = λ r c. meets.basic r (row_basic r c) ∙ ap (λ (ws : List ℕ). sum_by (λ w. s.coefficient r w *ℚ v w) ws) others_columns };
  }

one_not_nil : whole (pos 1) ≢ whole (pos 0)
unfolding whole
one_not_nil e = let wrong : pos 1 ≡ pos 0 = ap (λ (q : Fraction). q.num) e in absurd Prim.cc

-- ---- a column that is basic in place of a limit row
module _ (m : Parts) (t : Taken) (ordered : AreInOrder m t) (r : Row) (c : Contains t.limits r) (b : ℕ) (high : ℕ → Bool) where
  abbrev s : System
  s = system_over m t

  abbrev a : ℕ
  a = row_name m r

  abbrev pub entered : Choice
  entered = exchanged (rows_basic s high) a b

  system : IsSystem s
  system = law.is_system_over m t ordered

  row_in : Contains s.rows a
  row_in = law.row_listed m t (Limit r) (law.limit_in m t r c)

  module _ (column : Contains s.columns b) (pivot : s.coefficient a b ≢ whole (pos 0)) where
    pub entered_choice : IsChoice s entered
    entered_choice = exchanged_is s system (rows_basic s high) a b (rows_choice s system high) (row_basic s system high a row_in) (column_other s system high b column) pivot

    no_row : (w : ℕ) → Contains s.columns w → w ≢ a
    no_row w k e = system.apart w k (subst (Contains s.rows) (sym e) row_in)

    row_free : entered.basic a ≡ false
    unfolding exchanged
    row_free = ap (λ (x : Bool). if x then false else if a == b then true else is_among s.rows a) (eq-eqb a a refl)

    is_in : entered.basic b ≡ true
    unfolding exchanged
    is_in =
        ap (λ (x : Bool). if x then false else if b == b then true else is_among s.rows b) (ne_eqb b a (no_row b column))
        ∙ ap (λ (x : Bool). if x then true else is_among s.rows b) (eq-eqb b b refl)

    column_free : (w : ℕ) → Contains s.columns w → w ≢ b → entered.basic w ≡ false
    unfolding exchanged
    column_free w k other =
        ap (λ (x : Bool). if x then false else if w == b then true else is_among s.rows w) (ne_eqb w a (no_row w k))
        ∙ ap (λ (x : Bool). if x then true else is_among s.rows w) (ne_eqb w b other)
        ∙ not_row s system high w k

    stands : (w : ℕ) → entered.basic w ≡ false → value s entered w ≡ (if high w then s.high w else s.low w)
    unfolding value at_bound exchanged
    stands w free = ap (λ (x : Bool). if x then total (value_terms s entered w) else at_bound s entered w) free

    stands_high : (w : ℕ) → entered.basic w ≡ false → high w ≡ true → value s entered w ≡ s.high w
    stands_high w free e = stands w free ∙ ap (λ (x : Bool). if x then s.high w else s.low w) e

    stands_low : (w : ℕ) → entered.basic w ≡ false → high w ≡ false → value s entered w ≡ s.low w
    stands_low w free e = stands w free ∙ ap (λ (x : Bool). if x then s.high w else s.low w) e

    pub row_high : high a ≡ true → value s entered a ≡ most_added m r
    row_high e = stands_high a row_free e ∙ law.high-at m t ordered (Limit r) c

    pub row_low : high a ≡ false → value s entered a ≡ least_added m r
    row_low e = stands_low a row_free e ∙ law.low-at m t ordered (Limit r) c

    pub column_high : (w : ℕ) → Contains s.columns w → w ≢ b → high w ≡ true → value s entered w ≡ s.high w
    column_high w k other e = stands_high w (column_free w k other) e

    -- its value is a number of the market's system
    pub entered_number : SystemNumber s entered Quantity (value s entered b)
    unfolding value
    entered_number =
        subst (SystemNumber s entered Quantity)
        (prefix-all (value_terms s entered b) ∙ sym (ap (λ (x : Bool). if x then total (value_terms s entered b) else at_bound s entered b) is_in))
        (is_value b (length (value_terms s entered b)) (is_basic s entered b (system.column b column) is_in))

    module _ (behind : length m.blocks ≤ b) (low : (j : ℕ) → j < length m.blocks → high j ≡ false) (soft : is_soft m r ≡ true) where
      block_none : (j : ℕ) → j < length m.blocks → value s entered j ≡ zero
      block_none j lt =
          let k : Contains s.columns j = law.column_in m t j lt in
          let other : j ≢ b = Prim.omega (arith, lt, behind) in
          stands_low j (column_free j k other) (low j lt) ∙ law.low-at m t ordered (Block j) lt

      blocks_none : sum_by (λ j. block_coefficient m r j *ℚ value s entered j) (places (length m.blocks)) ≡ zero
      blocks_none =
          sum_by-members (λ j. block_coefficient m r j *ℚ value s entered j) (λ j. zero) (places (length m.blocks))
          (λ j k. ap (λ x. block_coefficient m r j *ℚ x) (block_none j (Contains-from_places (length m.blocks) j k)) ∙ by_ring ring_ℚ (block_coefficient m r j ∷ []) (at 0 ⊗ pnil) pnil refl)
          ∙ sum_by-nil (places (length m.blocks))

      pub row_value : value s entered a ≡ value s entered (under_name m r) -ℚ value s entered (over_name m r)
      row_value =
          (value_meets s (Distinct-increasing s.variables system.ascending) entered entered_choice).row a row_in
          ∙ law.activity-limit m t ordered (value s entered) r c
          ∙ ap₂ (λ x (y : Bool). x +ℚ (kept y (value s entered (under_name m r)) -ℚ kept y (value s entered (over_name m r)))) blocks_none soft
          ∙ by_ring ring_ℚ (value s entered (under_name m r) ∷ value s entered (over_name m r) ∷ []) (pnil ⊕ (at 0 ⊕ pneg (at 1))) (at 0 ⊕ pneg (at 1)) refl

-- ---- the two sides of a soft row
module _ (m : Parts) (t : Taken) (ordered : AreInOrder m t) (r : Row) (c : Contains t.limits r) (soft : is_soft m r ≡ true) where
  abbrev sys : System
  sys = system_over m t

  abbrev row : ℕ
  row = row_name m r

  abbrev over : ℕ
  over = over_name m r

  abbrev under : ℕ
  under = under_name m r

  columns_in : Contains sys.columns over × Contains sys.columns under
  columns_in = let k = law.excess_listed m t r c soft in (law.column_listed m t (Over r) k.0, law.column_listed m t (Under r) k.1)

  apart : (w : ℕ) → Contains sys.columns w → row ≢ w
  apart w k e = (law.is_system_over m t ordered).apart w k (subst (Contains sys.rows) e (law.row_listed m t (Limit r) (law.limit_in m t r c)))

  under_counts : sys.coefficient row under ≡ whole (pos 1)
  under_counts = law.coefficient-at m t ordered (Limit r) (Under r) c (c, soft) ∙ ap (λ (b : Bool). if b then whole (pos 1) else zero) (same_row-itself r)

  over_counts : sys.coefficient row over ≡ neg_ℚ (whole (pos 1))
  over_counts = law.coefficient-at m t ordered (Limit r) (Over r) c (c, soft) ∙ ap (λ (b : Bool). if b then neg_ℚ (whole (pos 1)) else zero) (same_row-itself r)

  -- the upper side: the row stands at its limit, and the column above it at its most
  abbrev upper_high : ℕ → Bool
  upper_high w = (w == row) || (w == over)

  abbrev pub upper_choice : Choice
  upper_choice = entered m t ordered r c under upper_high

  upper_pivot : sys.coefficient row under ≢ whole (pos 0)
  upper_pivot e = one_not_nil (sym under_counts ∙ e)

  pub upper_is_choice : IsChoice sys upper_choice
  upper_is_choice = entered_choice m t ordered r c under upper_high columns_in.1 upper_pivot

  pub upper_number : SystemNumber sys upper_choice Quantity (most_flow m r -ℚ flow m (empty m) r)
  upper_number = subst (SystemNumber sys upper_choice Quantity) is (entered_number m t ordered r c under upper_high columns_in.1 upper_pivot)
    where
      v : ℕ → Fraction
      v = value sys upper_choice

      blocks_low : (j : ℕ) → j < length m.blocks → upper_high j ≡ false
      blocks_low j lt =
          let not_row_ : j ≢ row = Prim.omega (arith, lt) in
          let not_over : j ≢ over = Prim.omega (arith, lt) in
          ap₂ (λ (x y : Bool). x || y) (ne_eqb j row not_row_) (ne_eqb j over not_over)

      row_is : value sys upper_choice row ≡ most_added m r
      row_is = row_high m t ordered r c under upper_high columns_in.1 upper_pivot (ap (λ (x : Bool). x || (row == over)) (eq-eqb row row refl))

      over_is : value sys upper_choice over ≡ most_excess m r
      over_is =
          let other : over ≢ under = Prim.omega arith in
          column_high m t ordered r c under upper_high columns_in.1 upper_pivot over columns_in.0 other
          (ap₂ (λ (x y : Bool). x || y) (ne_eqb over row (λ e. apart over columns_in.0 (sym e))) (eq-eqb over over refl))
          ∙ law.high-at m t ordered (Over r) (c, soft)

      behind : length m.blocks ≤ under
      behind = Prim.omega arith

      sides : most_added m r ≡ value sys upper_choice under -ℚ most_excess m r
      sides = sym row_is ∙ row_value m t ordered r c under upper_high columns_in.1 upper_pivot behind blocks_low soft ∙ ap (λ x. value sys upper_choice under -ℚ x) over_is

      is : value sys upper_choice under ≡ most_flow m r -ℚ flow m (empty m) r
      is =
          by_ring ring_ℚ (value sys upper_choice under ∷ most_excess m r ∷ []) (at 0) ((at 0 ⊕ pneg (at 1)) ⊕ at 1) refl
          ∙ ap (λ x. x +ℚ most_excess m r) (sym sides)
          ∙ by_ring ring_ℚ (limit m r ∷ flow m (empty m) r ∷ most_excess m r ∷ []) ((at 0 ⊕ pneg (at 1)) ⊕ at 2) ((at 0 ⊕ at 2) ⊕ pneg (at 1)) refl

  -- the lower side: the row stands at the opposite of its limit, and the column below it at its most
  abbrev lower_high : ℕ → Bool
  lower_high w = w == under

  abbrev pub lower_choice : Choice
  lower_choice = entered m t ordered r c over lower_high

  lower_pivot : sys.coefficient row over ≢ whole (pos 0)
  lower_pivot e =
      one_not_nil
      (by_ring ring_ℚ (whole (pos 1) ∷ []) (at 0) (pneg (pneg (at 0))) refl ∙ ap neg_ℚ (sym over_counts ∙ e) ∙ by_ring ring_ℚ [] (pneg pnil) pnil refl)

  pub lower_is_choice : IsChoice sys lower_choice
  lower_is_choice = entered_choice m t ordered r c over lower_high columns_in.0 lower_pivot

  pub lower_number : SystemNumber sys lower_choice Quantity (most_flow m r -ℚ neg_ℚ (flow m (empty m) r))
  lower_number = subst (SystemNumber sys lower_choice Quantity) is (entered_number m t ordered r c over lower_high columns_in.0 lower_pivot)
    where
      blocks_low : (j : ℕ) → j < length m.blocks → lower_high j ≡ false
      blocks_low j lt = let not_under : j ≢ under = Prim.omega (arith, lt) in ne_eqb j under not_under

      row_is : value sys lower_choice row ≡ least_added m r
      row_is = row_low m t ordered r c over lower_high columns_in.0 lower_pivot (ne_eqb row under (apart under columns_in.1))

      under_is : value sys lower_choice under ≡ most_excess m r
      under_is =
          let other : under ≢ over = Prim.omega arith in
          column_high m t ordered r c over lower_high columns_in.0 lower_pivot under columns_in.1 other (eq-eqb under under refl) ∙ law.high-at m t ordered (Under r) (c, soft)

      behind : length m.blocks ≤ over
      behind = Prim.omega arith

      sides : least_added m r ≡ most_excess m r -ℚ value sys lower_choice over
      sides = sym row_is ∙ row_value m t ordered r c over lower_high columns_in.0 lower_pivot behind blocks_low soft ∙ ap (λ x. x -ℚ value sys lower_choice over) under_is

      is : value sys lower_choice over ≡ most_flow m r -ℚ neg_ℚ (flow m (empty m) r)
      is =
          by_ring ring_ℚ (value sys lower_choice over ∷ most_excess m r ∷ []) (at 0) (at 1 ⊕ pneg (at 1 ⊕ pneg (at 0))) refl
          ∙ ap (λ x. most_excess m r -ℚ x) (sym sides)
          ∙ by_ring ring_ℚ (limit m r ∷ flow m (empty m) r ∷ most_excess m r ∷ []) (at 2 ⊕ pneg (pneg (at 0) ⊕ pneg (at 1))) ((at 0 ⊕ at 2) ⊕ pneg (pneg (at 1))) refl
