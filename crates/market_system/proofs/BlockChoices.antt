-- A dispatch in balance of which all blocks but one stand at a bound is that of a choice, with that block's price as the
-- price of energy.
use Rattle.std.specs.Prelude.{◌≡◌, ◌≢◌, ℕ, ◌<◌, pos, Bool, true, false, not, List, [], ◌∷◌, length, map, if◌then◌else◌, refl}
use Rattle.std.specs.List.{Contains}
use Rattle.std.proofs.Common.{arith, ap, sym, subst, ◌∙◌, inl, inr}
use mathlib.Core.Path.{ap₂}
use Rattle.std.proofs.lemmas.List.{ext_get_or}
use Rattle.std.proofs.lemmas.List.FromFn.{length-map-range_with_len, get_or-map-range_with_len}
use Rattle.fraction_theory.specs.Fraction.{Fraction, whole, neg_ℚ, ◌+ℚ◌, ◌-ℚ◌, ◌*ℚ◌}
use Rattle.fraction_theory.specs.Sums.{sum_by, total}
use Rattle.fraction_theory.proofs.Ring.{by_ring, by_ring1, at, pnil, pone, pneg, ◌⊕◌, ◌⊗◌}
use Rattle.fraction_theory.proofs.FieldLaws.{ring_ℚ}
use Rattle.fraction_theory.proofs.SumLaws.{sum_by-append, sum_by-plus, sum_by-same, sum_by-times}
use Rattle.fraction_theory.proofs.ListSums.{kept, sum_by-filter, sum_by-members}
use Rattle.linear_system.specs.Systems.{MeetsRows, objective}
use Rattle.linear_system.specs.Choices.{Choice, others, basics, IsChoice, at_bound, value, value_terms, reduced, reduced_terms}
use Rattle.linear_system.proofs.ChoiceLaws.{others_are, is_other, is_basic, others_fix_all, value_meets, reduced_is_one}
use Rattle.market_model.specs.declared.participants.Side.{Side}
use Rattle.market_model.specs.declared.participants.Parts.{Parts}
use Rattle.market_model.specs.Market.{IsMarket}
use Rattle.market_model.specs.Dispatch.{Dispatch, zero, places, block_at, signed_by_side, accepted, quantity, raised_by, balance, empty, dispatch_with}
use Rattle.market_model.specs.Optimality.{price, block_value}
use Rattle.market_model.specs.Reserves.{no_reserve}
use Rattle.market_model.proofs.EnergyAlone.{no_places}
use Rattle.market_system.specs.MarketSystem.{name, offer_name, variable_of, balance_name, block_sign, residual_demand, system_of, choice_dispatch, IsVariableOf}
use Rattle.market_model.proofs.MarketSums.{balance-by_empty}
use Rattle.market_model.proofs.RowMembers.{Contains-from_places}
use Rattle.market_system.proofs.SystemLaws.{nothing, none_ordered, balance_row, activity_is, signed-times, variable_in, variable_below, block_or_balance, is_system, raised, from_rows, objective_is, alone, balance_is, balance_choice, balance_others, balance_choice_is, block_choice, block_choice_is, block_choice_high, block_is_basic, the_block_is_basic, balance_not_basic}
use Rattle.market_system.proofs.VariableLaws.{column_in, variable_at, low-at, high-at}
use Rattle.market_system.specs.declared.variables.Variable.{Variable}
use Rattle.market_system.specs.declared.variables.Variable.TheVariants.{Block, Balance, Limit, Over, Under, Offer, Need, Room}
use Rattle.linear_system.proofs.Multipliers.{by_columns, by_columns-column, by_columns-row, by_columns-meets}
use Rattle.fraction_theory.proofs.ListSums.{Distinct-increasing}

module _ (m : Parts) (energy : m.reserve ≡ no_reserve) (market : IsMarket m) (x : Dispatch) (count : length x.blocks ≡ length m.blocks) (bare : x.reserve ≡ []) (balanced : balance m x ≡ zero) where
  -- what the blocks raise is the residual demand
  raises : raised m (accepted x) ≡ residual_demand m
  raises =
      sum_by-same (λ j. block_sign m j *ℚ accepted x j) (raised_by m x) (places (length m.blocks)) (λ j. signed-times (block_at m j).side (accepted x j))
      ∙ by_ring1 ring_ℚ (balance m (empty m) ∷ sum_by (raised_by m x) (places (length m.blocks)) ∷ []) (at 1) (pneg (at 0)) pone (at 0 ⊕ at 1) pnil
      (sym (balance-by_empty m x market) ∙ balanced) refl

  -- the dispatch as a point
  pub point : ℕ → Fraction
  point = by_columns (system_of m nothing) (is_system m) (accepted x)

  point_meets : MeetsRows (system_of m nothing) point
  unfolding point
  point_meets = by_columns-meets (system_of m nothing) (is_system m) (accepted x)

  point-block : (j : ℕ) → j < length m.blocks → point j ≡ accepted x j
  unfolding point
  point-block j lt = by_columns-column (system_of m nothing) (is_system m) (accepted x) j (column_in m nothing j lt)

  point-balance : point (balance_name m) ≡ residual_demand m
  unfolding point
  point-balance = by_columns-row (system_of m nothing) (is_system m) (accepted x) (balance_name m) (balance_row m) ∙ activity_is m (accepted x) ∙ raises

  module _ (h : Choice) (is : IsChoice (system_of m nothing) h) (same : (w : ℕ) → Contains (others (system_of m nothing) h) w → at_bound (system_of m nothing) h w ≡ point w) where
    value_is : (w : ℕ) → Contains (system_of m nothing).variables w → value (system_of m nothing) h w ≡ point w
    unfolding value
    value_is w c =
        others_fix_all (system_of m nothing) (Distinct-increasing (system_of m nothing).variables (is_system m).ascending) h is (value (system_of m nothing) h) point
        (value_meets (system_of m nothing) (Distinct-increasing (system_of m nothing).variables (is_system m).ascending) h is) point_meets
        (λ o k. ap (λ (b : Bool). if b then total (value_terms (system_of m nothing) h o) else at_bound (system_of m nothing) h o) (others_are (system_of m nothing) h o k).1 ∙ same o k) w c

    -- a choice whose others stand where the dispatch is has that dispatch
    pub dispatch_is : choice_dispatch m nothing h ≡ x
    dispatch_is =
        let long : length (map (value (system_of m nothing) h) (places (length m.blocks))) ≡ length m.blocks = length-map-range_with_len (value (system_of m nothing) h) 0 (length m.blocks) in
        ap₂ dispatch_with
        (ext_get_or zero (map (value (system_of m nothing) h) (places (length m.blocks))) x.blocks (long ∙ sym count)
        (λ j lt. let below : j < length m.blocks = Prim.omega (arith, lt, long) in
        get_or-map-range_with_len (value (system_of m nothing) h) 0 (length m.blocks) j j zero below (Prim.omega arith)
        ∙ value_is j (variable_in m energy j (Prim.omega (arith, below)))
        ∙ point-block j below))
        (ap (λ (ns : List ℕ). map (λ n. value (system_of m nothing) h (offer_name m n)) ns) (no_places m energy) ∙ sym bare)

-- the value of a block by its sign and its price
block_value-by_sign : (side : Side) (p : Fraction) → neg_ℚ (signed_by_side side p) ≡ neg_ℚ (signed_by_side side (whole (pos 1)) *ℚ p)
block_value-by_sign side p = ap neg_ℚ (sym (signed-times side p))

module _ (m : Parts) (energy : m.reserve ≡ no_reserve) (p : ℕ) (inside : p < length m.blocks) (h : Choice) (is : IsChoice (system_of m nothing) h)
    (only : (b : ℕ) → Contains (basics (system_of m nothing) h) b → b ≡ p) (other : h.basic (balance_name m) ≡ false) where
  -- the objective by the balance and the blocks, at that price of energy: nothing is left at the block itself
  left_of : Variable → Fraction
  left_of (Block j) = block_sign m j *ℚ (price m p -ℚ price m j)
  left_of Balance = neg_ℚ (price m p)
  left_of (Limit r) = zero
  left_of (Over r) = zero
  left_of (Under r) = zero
  left_of (Offer n) = zero
  left_of Need = zero
  left_of (Room u) = zero

  left_over : ℕ → Fraction
  left_over w = left_of (variable_of m nothing w)

  left-at : (v : Variable) → IsVariableOf m nothing v → left_over (name m v) ≡ left_of v
  unfolding left_over
  left-at v is = ap left_of (variable_at m nothing (none_ordered m) v is)

  by_left_over : (v : ℕ → Fraction) → MeetsRows (system_of m nothing) v → objective (system_of m nothing) v ≡ sum_by (λ w. left_over w *ℚ v w) (others (system_of m nothing) h)
  unfolding objective left_of others
  by_left_over v meets =
      let e : Fraction = price m p in
      let blocks : List ℕ = places (length m.blocks) in
      let f : ℕ → Fraction = λ w. left_over w *ℚ v w in
      objective_is m energy v
      ∙ sum_by-same (λ j. block_value m j *ℚ v j) (λ j. block_sign m j *ℚ (e -ℚ price m j) *ℚ v j +ℚ neg_ℚ e *ℚ (block_sign m j *ℚ v j)) blocks
      (λ j. ap (λ t. t *ℚ v j) (block_value-by_sign (block_at m j).side (price m j))
      ∙ by_ring ring_ℚ (block_sign m j ∷ price m j ∷ v j ∷ e ∷ []) (pneg (at 0 ⊗ at 1) ⊗ at 2) (((at 0 ⊗ (at 3 ⊕ pneg (at 1))) ⊗ at 2) ⊕ (pneg (at 3) ⊗ (at 0 ⊗ at 2))) refl)
      ∙ sum_by-plus (λ j. block_sign m j *ℚ (e -ℚ price m j) *ℚ v j) (λ j. neg_ℚ e *ℚ (block_sign m j *ℚ v j)) blocks
      ∙ ap₂ ◌+ℚ◌
      (sum_by-members (λ j. block_sign m j *ℚ (e -ℚ price m j) *ℚ v j) f blocks
      (λ j c. ap (λ t. t *ℚ v j) (sym (left-at (Block j) (Contains-from_places (length m.blocks) j c)))))
      (sum_by-times (neg_ℚ e) (λ j. block_sign m j *ℚ v j) blocks
      ∙ ap (λ t. neg_ℚ e *ℚ t) (sym (from_rows m v meets))
      ∙ ap (λ t. t *ℚ v (balance_name m)) (sym (left-at Balance tt))
      ∙ sym (ring_ℚ.plus_nil (f (balance_name m))))
      ∙ sym (sum_by-append f blocks (balance_name m ∷ []))
      ∙ sym
      (sum_by-filter f (λ w. not (h.basic w)) (system_of m nothing).variables
      ∙ sum_by-members (λ w. kept (not (h.basic w)) (f w)) f (system_of m nothing).variables nothing_lost
      ∙ ap (sum_by f) (alone m energy))
    where
      nothing_lost : (w : ℕ) → Contains (system_of m nothing).variables w → kept (not (h.basic w)) (left_over w *ℚ v w) ≡ left_over w *ℚ v w
      nothing_lost w c = by_test (h.basic w) refl
        where
          by_test : (b : Bool) → h.basic w ≡ b → kept (not b) (left_over w *ℚ v w) ≡ left_over w *ℚ v w
          by_test false k = refl
          by_test true k =
              let at_p : w ≡ p = only w (is_basic (system_of m nothing) h w c k) in
              let nil : left_over p ≡ whole (pos 0) =
              left-at (Block p) inside
              ∙ by_ring ring_ℚ (block_sign m p ∷ price m p ∷ []) (at 0 ⊗ (at 1 ⊕ pneg (at 1))) pnil refl in
              sym (ap (λ t. t *ℚ v w) (ap left_over at_p ∙ nil) ∙ by_ring ring_ℚ (v w ∷ []) (pnil ⊗ at 0) pnil refl)

  -- the price of energy of a choice in which the block is basic
  pub energy_is : neg_ℚ (reduced (system_of m nothing) h (balance_name m)) ≡ price m p
  unfolding left_of
  energy_is =
      ap neg_ℚ
      (sym (reduced_is_one (system_of m nothing) (is_system m) h is left_over by_left_over (balance_name m)
      (is_other (system_of m nothing) h (balance_name m) (variable_in m energy (balance_name m) (Prim.omega arith)) other))
      ∙ left-at Balance tt)
      ∙ by_ring ring_ℚ (price m p ∷ []) (pneg (pneg (at 0))) (at 0) refl

-- what stands at a bound: the block's quantity or 0, and the balance at the residual demand
module _ (m : Parts) (energy : m.reserve ≡ no_reserve) (market : IsMarket m) (x : Dispatch) (count : length x.blocks ≡ length m.blocks) (bare : x.reserve ≡ []) (balanced : balance m x ≡ zero) (high : ℕ → Bool) where
  at_place : (h : Choice) → ((w : ℕ) → h.high w ≡ high w) → (w : ℕ) → w < length m.blocks → accepted x w ≡ (if high w then quantity m w else zero)
      → at_bound (system_of m nothing) h w ≡ point m energy market x count bare balanced w
  unfolding at_bound
  at_place h flags w lt e =
      ap (λ (b : Bool). if b then (system_of m nothing).high w else (system_of m nothing).low w) (flags w)
      ∙ ap₂ (λ (a b : Fraction). if high w then a else b) (high-at m nothing (none_ordered m) (Block w) lt) (low-at m nothing (none_ordered m) (Block w) lt)
      ∙ sym e
      ∙ sym (point-block m energy market x count bare balanced w lt)

  at_balance : (h : Choice) → at_bound (system_of m nothing) h (balance_name m) ≡ point m energy market x count bare balanced (balance_name m)
  unfolding at_bound
  at_balance h =
      ap₂ (λ (a b : Fraction). if h.high (balance_name m) then a else b) (high-at m nothing (none_ordered m) Balance tt) (low-at m nothing (none_ordered m) Balance tt)
      ∙ either (h.high (balance_name m)) (residual_demand m)
      ∙ sym (point-balance m energy market x count bare balanced)
    where
      either : (b : Bool) (y : Fraction) → (if b then y else y) ≡ y
      either true y = refl
      either false y = refl

  -- all blocks but p at a bound
  pub block_choice_dispatch : (p : ℕ) (inside : p < length m.blocks) → ((j : ℕ) → j < length m.blocks → j ≢ p → accepted x j ≡ (if high j then quantity m j else zero))
      → choice_dispatch m nothing (block_choice m energy high p inside) ≡ x
  block_choice_dispatch p inside each =
      dispatch_is m energy market x count bare balanced (block_choice m energy high p inside) (block_choice_is m energy high p inside)
      (λ w c. let r = others_are (system_of m nothing) (block_choice m energy high p inside) w c in
      elim (block_or_balance m w (variable_below m energy w r.0)) [
        | inl h ↦ at_place (block_choice m energy high p inside) (block_choice_high m energy high p inside) w h
            (each w h (λ e. let wrong : true ≡ false = sym (block_is_basic m energy high p inside) ∙ ap (block_choice m energy high p inside).basic (sym e) ∙ r.1 in absurd cc))
        | inr e ↦ Prim.rw e (at_balance (block_choice m energy high p inside))
      ])

  pub block_choice_energy : (p : ℕ) (inside : p < length m.blocks) → neg_ℚ (reduced (system_of m nothing) (block_choice m energy high p inside) (balance_name m)) ≡ price m p
  block_choice_energy p inside =
      energy_is m energy p inside (block_choice m energy high p inside) (block_choice_is m energy high p inside) (the_block_is_basic m energy high p inside) (balance_not_basic m energy high p inside)

  -- all blocks at a bound, and the balance basic
  pub balance_choice_dispatch : ((j : ℕ) → j < length m.blocks → accepted x j ≡ (if high j then quantity m j else zero)) → choice_dispatch m nothing (balance_choice m high) ≡ x
  balance_choice_dispatch each =
      dispatch_is m energy market x count bare balanced (balance_choice m high) (balance_choice_is m energy high)
      (λ w c. let lt = Contains-from_places (length m.blocks) w (subst (λ (ws : List ℕ). Contains ws w) (balance_others m energy high) c) in at_place (balance_choice m high) (λ v. refl) w lt (each w lt))

  pub balance_choice_energy : neg_ℚ (reduced (system_of m nothing) (balance_choice m high) (balance_name m)) ≡ zero
  unfolding reduced
  balance_choice_energy =
      ap (λ (b : Bool). neg_ℚ (if b then whole (pos 0) else total (reduced_terms (system_of m nothing) (balance_choice m high) (balance_name m)))) (balance_is m (balance_name m) refl)
      ∙ by_ring ring_ℚ [] (pneg pnil) pnil refl
