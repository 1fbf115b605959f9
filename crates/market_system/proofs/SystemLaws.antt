-- A market of energy alone is a system, over no limit rows and rooms with the balance as its one row.
use Rattle.std.specs.Prelude.{◌≡◌, ◌≢◌, ℕ, ◌+◌, ◌<◌, ◌==◌, pos, Bool, true, false, not, List, [], ◌∷◌, ◌++◌, ◌⊎◌, length, map, filter, cond, if◌then◌else◌, refl}
use Rattle.std.specs.List.{Contains}
use mathlib.Core.Path.{ap₂}
use Rattle.std.proofs.lemmas.List.{append-nil}
use Rattle.std.proofs.Common.{arith, ap, sym, ◌∙◌, subst, inl, inr}
use Rattle.std.proofs.lemmas.Bool.Decides.{eqb_tells}
use Rattle.std.proofs.lemmas.Int.{ints}
use Rattle.std.proofs.lemmas.List.Elements.{filter-append}
use Rattle.fraction_theory.specs.Fraction.{Fraction, whole, neg_ℚ, ◌+ℚ◌, ◌*ℚ◌}
use Rattle.fraction_theory.specs.Sums.{sum_by}
use Rattle.fraction_theory.proofs.Ring.{by_ring, by_ring1, at, pnil, pone, pneg, ◌⊕◌, ◌⊗◌}
use Rattle.fraction_theory.proofs.FieldLaws.{ring_ℚ}
use Rattle.fraction_theory.proofs.ListSums.{Contains-cases, same_or_not, filter-members}
use Rattle.linear_system.specs.Systems.{IsSystem, MeetsRows, activity, objective}
use Rattle.linear_system.specs.Choices.{Choice, others, basics, IsChoice, OneExchange}
use Rattle.linear_system.specs.Exchanges.{exchanged}
use Rattle.linear_system.proofs.ChoiceLaws.{basics_are, is_basic}
use Rattle.linear_system.proofs.ExchangeLaws.{exchanged_is, exchanged_once}
use Rattle.market_model.specs.declared.participants.Side.{Side}
use Rattle.market_model.specs.declared.participants.Side.TheVariants.{Sell, Buy}
use Rattle.market_model.specs.declared.participants.Parts.{Parts}
use Rattle.market_model.specs.Dispatch.{places, block_at, signed_by_side}
use Rattle.market_model.specs.Optimality.{Taken, block_value, rows_alone}
use Rattle.market_model.specs.Reserves.{no_reserve, offer_price}
use Rattle.market_system.specs.declared.variables.Variable.TheVariants.{Balance}
use Rattle.market_system.specs.MarketSystem.{balance_name, need_name, offer_name, block_sign, system_of}
use Rattle.market_model.proofs.EnergyAlone.{no_places, not_listed}
use Rattle.market_model.proofs.MorePlaces.{places_more}
use Rattle.market_model.proofs.RowMembers.{Contains-places, Contains-from_places}
use Rattle.market_system.proofs.VariableLaws.{row_listed, balance_in, reserve_names, variables_are as listed, columns_are as columns_listed, rows_are as rows_listed, is_system_over, activity-balance, objective-at}
use Rattle.market_system.proofs.RowOrder.{AreInOrder}

all_kept : {T : Type 0} (xs : List T) → filter (λ x. true) xs ≡ xs
all_kept [] = refl
all_kept (x ∷ xs) = ap (λ ys. x ∷ ys) (all_kept xs)

-- a side's sign times a number
pub signed-times : (side : Side) (x : Fraction) → signed_by_side side (whole (pos 1)) *ℚ x ≡ signed_by_side side x
signed-times Sell x = by_ring ring_ℚ (x ∷ []) (pone ⊗ at 0) (at 0) refl
signed-times Buy x = by_ring ring_ℚ (x ∷ []) (pneg pone ⊗ at 0) (pneg (at 0)) refl

one_not_nil : whole (pos 1) ≢ whole (pos 0)
unfolding whole
one_not_nil e = let wrong : pos 1 ≡ pos 0 = ap (λ (f : Fraction). f.num) e in Prim.omega (arith, ints, wrong)

-- no limit rows and no rooms
abbrev pub nothing : Taken
nothing = rows_alone []

module _ (m : Parts) where
  -- they are in order
  pub none_ordered : AreInOrder m nothing
  none_ordered = record {
    limits = record { rows = λ r c. absurd (Prim.omega (arith, c.1)); ascend = λ i j d lt h. absurd (Prim.omega (arith, h)) };
    units = λ u c. absurd (Prim.omega (arith, c.1));
    rooms = λ i j d lt h. absurd (Prim.omega (arith, h));
  }

  pub block_or_balance : (w : ℕ) → w < length m.blocks + 1 → (w < length m.blocks) ⊎ (w ≡ length m.blocks)
  block_or_balance w h = elim (same_or_not w (length m.blocks)) [ inl e ↦ inr e | inr n ↦ inl (Prim.omega (arith, h, n)) ]

  pub is_system : IsSystem (system_of m nothing)
  is_system = is_system_over m nothing none_ordered

  -- what a point raises the balance by
  abbrev pub raised : (ℕ → Fraction) → Fraction
  raised v = sum_by (λ j. block_sign m j *ℚ v j) (places (length m.blocks))

  pub balance_row : Contains (system_of m nothing).rows (balance_name m)
  balance_row = row_listed m nothing Balance (balance_in m nothing)

  pub activity_is : (v : ℕ → Fraction) → activity (system_of m nothing) v (balance_name m) ≡ raised v
  activity_is v = activity-balance m nothing none_ordered v

  pub from_rows : (v : ℕ → Fraction) → MeetsRows (system_of m nothing) v → v (balance_name m) ≡ raised v
  from_rows v h = h.row (balance_name m) balance_row ∙ activity_is v

  pub balance_is : (w : ℕ) → w ≡ balance_name m → (w == balance_name m) ≡ true
  balance_is w e = elim (eqb_tells w (balance_name m)) [ inl t ↦ t.0 | inr t ↦ absurd (t.1 e) ]

  pub not_balance : (w : ℕ) → w < length m.blocks → (w == balance_name m) ≡ false
  not_balance w h = elim (eqb_tells w (balance_name m)) [ inl t ↦ absurd (Prim.omega (arith, h, t.1)) | inr t ↦ t.0 ]

  -- The choice in which the balance is basic, and each block stands at the bound that a flag says. Its table is the row.
  abbrev pub balance_choice : (ℕ → Bool) → Choice
  balance_choice high = record { basic = λ w. w == balance_name m; high = high; entry = λ b w. block_sign m w }

-- where no reserve is cleared
module _ (m : Parts) (energy : m.reserve ≡ no_reserve) where
  no_reserve_names : reserve_names m nothing ≡ []
  no_reserve_names = ap (λ (b : Bool). (if b then need_name m ∷ [] else []) ++ []) (not_listed m energy)

  -- the blocks alone are columns
  pub alone : (system_of m nothing).variables ≡ places (length m.blocks) ++ balance_name m ∷ []
  alone =
      listed m nothing
      ∙ ap₂ (λ (ns ws : List ℕ). places (length m.blocks) ++ (balance_name m ∷ []) ++ [] ++ map (offer_name m) ns ++ ws) (no_places m energy) no_reserve_names
      ∙ append-nil (places (length m.blocks) ++ (balance_name m ∷ []) ++ [] ++ [])
      ∙ append-nil (places (length m.blocks) ++ (balance_name m ∷ []) ++ [])
      ∙ append-nil (places (length m.blocks) ++ balance_name m ∷ [])

  pub columns_are : (system_of m nothing).columns ≡ places (length m.blocks)
  columns_are =
      columns_listed m nothing
      ∙ ap (λ (ns : List ℕ). places (length m.blocks) ++ [] ++ map (offer_name m) ns) (no_places m energy)
      ∙ append-nil (places (length m.blocks) ++ [])
      ∙ append-nil (places (length m.blocks))

  pub column_below : (j : ℕ) → Contains (system_of m nothing).columns j → j < length m.blocks
  column_below j c = Contains-from_places (length m.blocks) j (subst (λ (ws : List ℕ). Contains ws j) columns_are c)

  pub variables_are : (system_of m nothing).variables ≡ places (length m.blocks + 1)
  variables_are = alone ∙ sym (places_more (length m.blocks))

  pub variable_in : (w : ℕ) → w < length m.blocks + 1 → Contains (system_of m nothing).variables w
  variable_in w h = subst (λ (ws : List ℕ). Contains ws w) (sym variables_are) (Contains-places (length m.blocks + 1) w h)

  pub variable_below : (w : ℕ) → Contains (system_of m nothing).variables w → w < length m.blocks + 1
  variable_below w c = Contains-from_places (length m.blocks + 1) w (subst (λ (ws : List ℕ). Contains ws w) variables_are c)

  pub rows_are : (system_of m nothing).rows ≡ balance_name m ∷ []
  rows_are = rows_listed m nothing ∙ ap (λ (ws : List ℕ). (balance_name m ∷ []) ++ ws) no_reserve_names

  pub the_row : (r : ℕ) → Contains (system_of m nothing).rows r → r ≡ balance_name m
  the_row r c = elim (Contains-cases (balance_name m) [] r (subst (λ (ws : List ℕ). Contains ws r) rows_are c)) [ inl e ↦ sym e | inr k ↦ absurd (Prim.omega (arith, k.1)) ]

  -- what a point is worth
  pub objective_is : (v : ℕ → Fraction) → objective (system_of m nothing) v ≡ sum_by (λ j. block_value m j *ℚ v j) (places (length m.blocks))
  objective_is v =
      let worth : Fraction = sum_by (λ j. block_value m j *ℚ v j) (places (length m.blocks)) in
      objective-at m nothing (none_ordered m) v
      ∙ ap (λ (ns : List ℕ). (worth +ℚ whole (pos 0)) +ℚ sum_by (λ n. neg_ℚ (offer_price m n) *ℚ v (offer_name m n)) ns) (no_places m energy)
      ∙ by_ring ring_ℚ (worth ∷ []) ((at 0 ⊕ pnil) ⊕ pnil) (at 0) refl

  pub meets_rows : (v : ℕ → Fraction) → v (balance_name m) ≡ raised m v → MeetsRows (system_of m nothing) v
  meets_rows v e = record { row = λ r c. ap v (the_row r c) ∙ e ∙ sym (activity_is m v) ∙ ap (activity (system_of m nothing) v) (sym (the_row r c)) }

  module _ (high : ℕ → Bool) where
    pub balance_others : others (system_of m nothing) (balance_choice m high) ≡ places (length m.blocks)
    unfolding others
    balance_others =
        ap (filter (λ w. not (w == balance_name m))) alone
        ∙ filter-append (λ w. not (w == balance_name m)) (places (length m.blocks)) (balance_name m ∷ [])
        ∙ ap₂ ◌++◌
        (filter-members (λ w. not (w == balance_name m)) (λ w. true) (places (length m.blocks)) (λ w c. ap not (not_balance m w (Contains-from_places (length m.blocks) w c)))
        ∙ all_kept (places (length m.blocks)))
        (ap (λ (b : Bool). cond (not b) (balance_name m ∷ []) []) (balance_is m (balance_name m) refl))
        ∙ append-nil (places (length m.blocks))

    pub balance_is_basic : Contains (basics (system_of m nothing) (balance_choice m high)) (balance_name m)
    balance_is_basic = is_basic (system_of m nothing) (balance_choice m high) (balance_name m) (variable_in (balance_name m) (Prim.omega arith)) (balance_is m (balance_name m) refl)

    pub block_is_other : (j : ℕ) → j < length m.blocks → Contains (others (system_of m nothing) (balance_choice m high)) j
    block_is_other j h = subst (λ (ws : List ℕ). Contains ws j) (sym balance_others) (Contains-places (length m.blocks) j h)

    the_basic : (b : ℕ) → Contains (basics (system_of m nothing) (balance_choice m high)) b → b ≡ balance_name m
    the_basic b c =
        let r = basics_are (system_of m nothing) (balance_choice m high) b c in
        elim (block_or_balance m b (variable_below b r.0)) [
          | inl h ↦ let wrong : false ≡ true = sym (not_balance m b h) ∙ r.1 in absurd cc
          | inr e ↦ e
        ]

    pub balance_choice_is : IsChoice (system_of m nothing) (balance_choice m high)
    balance_choice_is = record {
      to_table = λ v h. record {
        basic = λ b c. ap v (the_basic b c) ∙ from_rows m v h ∙ ap (sum_by (λ w. block_sign m w *ℚ v w)) (sym balance_others);
      };
      to_rows = λ v h. meets_rows v (h.basic (balance_name m) balance_is_basic ∙ ap (sum_by (λ w. block_sign m w *ℚ v w)) balance_others);
    }

    -- the choice with the block p basic in place of the balance
    module _ (p : ℕ) (inside : p < length m.blocks) where
      abbrev pub block_choice : Choice
      block_choice = exchanged (balance_choice m high) (balance_name m) p

      sign_not_nil : block_sign m p ≢ whole (pos 0)
      sign_not_nil e = of_side (block_at m p).side e
        where
          of_side : (side : Side) → signed_by_side side (whole (pos 1)) ≢ whole (pos 0)
          of_side Sell h = one_not_nil h
          of_side Buy h = one_not_nil (by_ring1 ring_ℚ [] pone pnil (pneg pone) (pneg pone) pnil h refl)

      pub block_choice_is : IsChoice (system_of m nothing) block_choice
      block_choice_is = exchanged_is (system_of m nothing) (is_system m) (balance_choice m high) (balance_name m) p balance_choice_is balance_is_basic (block_is_other p inside) sign_not_nil

      pub block_choice_near : OneExchange (system_of m nothing) (balance_choice m high) block_choice (balance_name m) p
      block_choice_near = exchanged_once (system_of m nothing) (is_system m) (balance_choice m high) (balance_name m) p balance_is_basic (block_is_other p inside)

      block_choice_basic : (w : ℕ) → block_choice.basic w ≡ (if w == balance_name m then false else if w == p then true else w == balance_name m)
      unfolding exchanged
      block_choice_basic w = refl

      pub block_choice_high : (w : ℕ) → block_choice.high w ≡ high w
      unfolding exchanged
      block_choice_high w = refl

      pub balance_not_basic : block_choice.basic (balance_name m) ≡ false
      balance_not_basic =
          block_choice_basic (balance_name m)
          ∙ ap (λ (b : Bool). if b then false else if balance_name m == p then true else balance_name m == balance_name m) (balance_is m (balance_name m) refl)

      pub block_is_basic : block_choice.basic p ≡ true
      block_is_basic =
          block_choice_basic p ∙ ap (λ (b : Bool). if b then false else if p == p then true else p == balance_name m) (not_balance m p inside)
          ∙ elim (eqb_tells p p) [ inl t ↦ ap (λ (b : Bool). if b then true else p == balance_name m) t.0 | inr t ↦ absurd (t.1 refl) ]

      pub the_block_is_basic : (b : ℕ) → Contains (basics (system_of m nothing) block_choice) b → b ≡ p
      the_block_is_basic b c =
          let r = basics_are (system_of m nothing) block_choice b c in
          elim (block_or_balance m b (variable_below b r.0)) [
            | inr e ↦ let wrong : true ≡ false = sym r.1 ∙ ap block_choice.basic e ∙ balance_not_basic in absurd cc
            | inl h ↦ elim (eqb_tells b p) [
              | inl t ↦ t.1
              | inr t ↦
                  let wrong : true ≡ false =
                  sym r.1 ∙ block_choice_basic b ∙ ap (λ (x : Bool). if x then false else if b == p then true else b == balance_name m) (not_balance m b h)
                  ∙ ap (λ (x : Bool). if x then true else b == balance_name m) t.0 ∙ not_balance m b h in absurd cc
            ]
          ]
