-- What a dictionary that holds a market has at its ranks, and what is read there.
use Rattle.std.specs.Prelude.{AllPairs, Result, Ok, Err, IfOk, IfErr, ◌≡◌, ◌≢◌, ℕ, ◌+◌, ◌<◌, ◌≤◌, ◌==◌, pos, Bool, true, false, if◌then◌else◌, List, [], ◌∷◌, ◌++◌, length, map, take, Contains, slice_index, refl}
use Rattle.std.specs.List.{flat_map}
use Rattle.std.proofs.Common.{arith, ap, ap₂, sym, ◌∙◌, subst, inl, inr, get_or}
use Rattle.std.proofs.lemmas.Bool.{eq-eqb}
use Rattle.std.proofs.lemmas.Bool.Decides.{eqb_tells}
use Rattle.std.proofs.lemmas.Grind.{flat_map-append}
use Rattle.std.proofs.lemmas.List.Concat.{flat_map-cons}
use Rattle.std.proofs.lemmas.List.Folds.{flat_map-map}
use Rattle.std.proofs.lemmas.List.Elements.{Contains-append_cases}
use Rattle.std.proofs.lemmas.List.{append-nil, length-map, take_more, take_all, get_or-map}
use Rattle.fraction_theory.specs.Fraction.{Fraction, whole, neg_ℚ, ◌-ℚ◌}
use Rattle.fraction_theory.specs.Signs.{sign_of}
use Rattle.fraction_theory.specs.Sums.{prefix, total}
use Rattle.fraction_theory.proofs.ListSums.{Contains-filter, Contains-cases, Contains-cons, Contains-head}
use Rattle.fraction_theory.proofs.SumLaws.{prefix-all}
use Rattle.exact_fraction.specs.declared.Op.{Op}
use Rattle.exact_fraction.specs.declared.Op.TheVariants.{Minus}
use Rattle.exact_fraction.specs.declared.Passed.{Passed}
use Rattle.exact_fraction.specs.Passes.{IsExactValue, IsTooLargeAt, outcome}
use Rattle.linear_dict.proofs.NameLemmas.{lt_or_le}
use Rattle.linear_system.specs.Choices.{Choice, at_bound, basics, value, value_terms}
use Rattle.linear_system.specs.Numbers.{Quantity, SolvingNumber, SystemNumber, is_fall, is_low, is_high, is_rise, is_value}
use Rattle.linear_system.specs.Pairs.{IsPairCase, subtracted, IsSummand, plain, alone, AtEither, OfEither, IsSystemPair}
use Rattle.linear_system.proofs.PairLaws.{less_large}
use Rattle.linear_system.specs.Systems.{System}
use Rattle.linear_dict.specs.Dictionaries.{Dictionary, IsDictionary, system_in, choice_of, note_of}
use Rattle.linear_dict.proofs.SplitLemmas.{Contains-at}
use Rattle.simplex_core.specs.Outcomes.{IsEmptyAt, ShowsChoice}
use Rattle.simplex_core.specs.States.{state_of}
use Rattle.simplex_core.proofs.StandLemmas.{choice_basic}
use Rattle.simplex_theory.specs.Stuck.{multiplier, margin}
use Rattle.market_model.specs.declared.answered.Dual.{Dual}
use Rattle.market_model.specs.declared.answered.RoomDual.{RoomDual}
use Rattle.market_model.specs.declared.participants.Parts.{Parts}
use Rattle.market_model.specs.Dispatch.{unit_at}
use Rattle.market_model.specs.declared.limits.Row.{Row}
use Rattle.market_model.specs.LimitRows.{row_id}
use Rattle.market_model.specs.Market.{IsMarket}
use Rattle.market_model.specs.NamedSums.{IsRefusal}
use Rattle.market_model.specs.Optimality.{Taken, all_of}
use Rattle.market_system.specs.MarketSystem.{name, block_columns, excess_columns, offer_columns, energy_rows, reserve_rows, system_over, row_name, room_name, taken_in_order, dual_by, room_dual_by, variables, IsVariableOf}
use Rattle.market_system.specs.declared.variables.Variable.{Variable}
use Rattle.market_system.specs.declared.variables.Variable.TheVariants as variable
use Rattle.market_system.proofs.VariableLaws as law
use Rattle.market_dict.specs.Holding.{HoldsMarket}
use Rattle.market_dict.specs.Takings.{taken_of}
use Rattle.market_dict.specs.declared.taking.Taking.{Taking}
use Rattle.market_dict.proofs.HoldingLaws.{at_place}
use Rattle.market_dict.proofs.TakingLists.{order_all}

-- a number that was read, by rank
pub cost_at : {N : Type 0} (value : N → Fraction) (cost : ℕ → Fraction) (xs : List N) (names : List ℕ) (k : ℕ) (x : N) → map value xs ≡ map cost names → k < length xs → x ≡ get_or xs k x → value x ≡ cost (slice_index names k)
cost_at value cost xs names k x same lt is =
    let long : length xs ≡ length names = sym (length-map xs value) ∙ ap length same ∙ length-map names cost in
    ap value is ∙ sym (get_or-map value xs k x (whole (pos 0)) lt)
    ∙ ap (λ (ys : List Fraction). get_or ys k (whole (pos 0))) same
    ∙ get_or-map cost names k 0 (whole (pos 0)) (Prim.omega (arith, lt, long))

-- ---- the variables by rank
module _ (m : Parts) (ts : List Taking) (d : Dictionary) (market : IsMarket m) (holds : HoldsMarket m ts d) where
  abbrev pub listed : List Variable
  listed = variables m (taken_in_order m (taken_of ts))

  names_are : d.names ≡ map (name m) listed
  unfolding system_in system_over
  names_are = holds.same.variables

  pub name_count : length d.names ≡ length listed
  name_count = ap length names_are ∙ length-map listed (name m)

  abbrev pub at_rank : ℕ → Variable
  at_rank k = get_or listed k variable.Balance

  pub name_at_rank : (k : ℕ) → k < length d.names → slice_index d.names k ≡ name m (at_rank k)
  name_at_rank k lt = ap (λ (ws : List ℕ). slice_index ws k) names_are ∙ get_or-map (name m) listed k variable.Balance 0 (Prim.omega (arith, lt, name_count))

  -- it is one over all rows and rooms of the market
  pub rank_is : (k : ℕ) → k < length d.names → IsVariableOf m (all_of m) (at_rank k)
  rank_is k lt =
      order_all m ts (at_rank k) (law.variable_is m (taken_in_order m (taken_of ts)) (at_rank k) (at_place listed k variable.Balance (Prim.omega (arith, lt, name_count))))

  -- so it is what holds of every variable of its name
  pub at_name : (P : Variable → Type 0) (k w : ℕ) → k < length d.names → w ≡ slice_index d.names k → ((v : Variable) → IsVariableOf m (all_of m) v → w ≡ name m v → P v) → P (at_rank k)
  at_name P k w lt at holds_of = holds_of (at_rank k) (rank_is k lt) (at ∙ name_at_rank k lt)

  pub rank_inside : (k : ℕ) → k < length d.names → k < length listed
  rank_inside k lt = Prim.omega (arith, lt, name_count)

  -- what it costs
  pub rank_cost : {N : Type 0} (value : N → Fraction) (cost : ℕ → Fraction) (xs : List N) (k : ℕ) (x : N) (v : Variable) → map value xs ≡ map cost d.names → k < length xs → k < length d.names → x ≡ get_or xs k x → at_rank k ≡ v → value x ≡ cost (name m v)
  rank_cost value cost xs k x v same h lt at is = cost_at value cost xs d.names k x same h at ∙ ap cost (name_at_rank k lt ∙ ap (name m) is)

-- ---- what is listed of variables in turn
module _ {E : Type 0} (of : Variable → List E) where
  abbrev pub listed_to : List Variable → ℕ → List E
  listed_to vs k = flat_map of (take k vs)

  listed_more : (vs : List Variable) (k : ℕ) → k < length vs → listed_to vs (k + 1) ≡ listed_to vs k ++ of (get_or vs k variable.Balance)
  listed_more vs k lt =
      let v : Variable = get_or vs k variable.Balance in
      ap (flat_map of) (take_more vs k variable.Balance lt)
      ∙ flat_map-append of (take k vs) (v ∷ [])
      ∙ ap (λ (ds : List E). listed_to vs k ++ ds) (append-nil (of v))

  -- with one rank more
  pub listed_step : (vs : List Variable) (k : ℕ) (v : Variable) (old new es : List E) → k < length vs → get_or vs k variable.Balance ≡ v → old ≡ listed_to vs k → new ≡ old ++ es → es ≡ of v → new ≡ listed_to vs (k + 1)
  listed_step vs k v old new es lt at before more is = more ∙ ap₂ (λ (ds fs : List E). ds ++ fs) before (is ∙ ap of (sym at)) ∙ sym (listed_more vs k lt)

  none_listed : (vs : List Variable) → ((v : Variable) → Contains vs v → of v ≡ []) → flat_map of vs ≡ []
  none_listed [] none = refl
  none_listed (v ∷ vs) none =
      flat_map-cons of v vs ∙ ap₂ (λ (ds es : List E). ds ++ es) (none v (Contains-head v vs)) (none_listed vs (λ u c. none u (Contains-cons v vs u c)))

  -- of all variables: of limits where nothing else has any, or of rooms
  module _ (m : Parts) (t : Taken) where
    parts_listed : flat_map of (variables m t) ≡ flat_map of (block_columns m) ++ flat_map of (energy_rows t) ++ flat_map of (excess_columns m t.limits) ++ flat_map of (offer_columns m) ++ flat_map of (reserve_rows m t)
    parts_listed =
        flat_map-append of (block_columns m ++ energy_rows t ++ excess_columns m t.limits ++ offer_columns m) (reserve_rows m t)
        ∙ ap (λ (ds : List E). ds ++ flat_map of (reserve_rows m t))
        (flat_map-append of (block_columns m ++ energy_rows t ++ excess_columns m t.limits) (offer_columns m)
        ∙ ap (λ (ds : List E). ds ++ flat_map of (offer_columns m))
        (flat_map-append of (block_columns m ++ energy_rows t) (excess_columns m t.limits) ∙ ap (λ (ds : List E). ds ++ flat_map of (excess_columns m t.limits)) (flat_map-append of (block_columns m) (energy_rows t))))

    module _ (block : (j : ℕ) → of (variable.Block j) ≡ []) (over : (r : Row) → of (variable.Over r) ≡ []) (under : (r : Row) → of (variable.Under r) ≡ []) (offer : (n : ℕ) → of (variable.Offer n) ≡ []) (balance : of variable.Balance ≡ [])
        (need : of variable.Need ≡ []) where
      no_blocks : flat_map of (block_columns m) ≡ []
      no_blocks = none_listed (block_columns m) (law.by_block m t (λ (v : Variable). of v ≡ []) (λ j lt. block j))

      no_excess : flat_map of (excess_columns m t.limits) ≡ []
      no_excess = none_listed (excess_columns m t.limits) (law.by_excess m t (λ (v : Variable). of v ≡ []) (λ r c e. (over r, under r)))

      no_offers : flat_map of (offer_columns m) ≡ []
      no_offers = none_listed (offer_columns m) (law.by_offer m t (λ (v : Variable). of v ≡ []) (λ n lt. offer n))

      pub limits_listed : (k : ℕ) → length (variables m t) ≤ k → ((u : ℕ) → of (variable.Room u) ≡ []) → listed_to (variables m t) k ≡ flat_map (λ r. of (variable.Limit r)) t.limits
      limits_listed k h room =
          let no_reserve : flat_map of (reserve_rows m t) ≡ [] = none_listed (reserve_rows m t) (law.by_reserve_row m t (λ (v : Variable). of v ≡ []) (λ e. need) (λ u c. room u)) in
          let energy : flat_map of (energy_rows t) ≡ flat_map (λ r. of (variable.Limit r)) t.limits =
          flat_map-cons of variable.Balance (map variable.Limit t.limits) ∙ ap₂ (λ (ds es : List E). ds ++ es) balance (flat_map-map of variable.Limit t.limits) in
          ap (flat_map of) (take_all k (variables m t) h) ∙ parts_listed
          ∙ ap₂ (λ (ds es : List E). ds ++ es)
          (ap₂ (λ (ds es : List E). ds ++ es) (ap₂ (λ (ds es : List E). ds ++ es) (ap₂ (λ (ds es : List E). ds ++ es) no_blocks energy) no_excess ∙ append-nil _) no_offers ∙ append-nil _)
          no_reserve
          ∙ append-nil (flat_map (λ r. of (variable.Limit r)) t.limits)

      pub rooms_listed : (k : ℕ) → length (variables m t) ≤ k → ((r : Row) → of (variable.Limit r) ≡ []) → listed_to (variables m t) k ≡ flat_map (λ u. of (variable.Room u)) t.rooms
      rooms_listed k h limit =
          let no_energy : flat_map of (energy_rows t) ≡ [] = none_listed (energy_rows t) (law.by_energy_row m t (λ (v : Variable). of v ≡ []) balance (λ r c. limit r)) in
          let needs : List Variable = law.needs m.reserve.listed in
          let reserve : flat_map of (reserve_rows m t) ≡ flat_map (λ u. of (variable.Room u)) t.rooms =
          flat_map-append of needs (map variable.Room t.rooms)
          ∙ ap₂ (λ (ds es : List E). ds ++ es) (none_listed needs (no_need m.reserve.listed)) (flat_map-map of variable.Room t.rooms) in
          ap (flat_map of) (take_all k (variables m t) h) ∙ parts_listed
          ∙ ap₂ (λ (ds es : List E). ds ++ es)
          (ap₂ (λ (ds es : List E). ds ++ es) (ap₂ (λ (ds es : List E). ds ++ es) (ap₂ (λ (ds es : List E). ds ++ es) no_blocks no_energy) no_excess) no_offers)
          reserve
        where
          no_need : (b : Bool) (v : Variable) → Contains (law.needs b) v → of v ≡ []
          no_need true v c = elim (Contains-cases variable.Need [] v c) [ inl e ↦ subst (λ (u : Variable). of u ≡ []) e need | inr n ↦ absurd (Prim.omega (arith, n.1)) ]
          no_need false v c = absurd (Prim.omega (arith, c.1))

-- ---- the duals of variables by what a MW costs on each
module _ (m : Parts) (cost : ℕ → Fraction) where
  abbrev pub dual_of : Variable → List (Dual Fraction)
  dual_of (variable.Block j) = []
  dual_of variable.Balance = []
  dual_of (variable.Limit r) = dual_by (row_id m r) (cost (row_name m r)) (sign_of (cost (row_name m r)))
  dual_of (variable.Over r) = []
  dual_of (variable.Under r) = []
  dual_of (variable.Offer n) = []
  dual_of variable.Need = []
  dual_of (variable.Room u) = []

  pub duals_all : (t : Taken) (k : ℕ) → length (variables m t) ≤ k → listed_to dual_of (variables m t) k ≡ flat_map (λ r. dual_of (variable.Limit r)) t.limits
  duals_all t k h = limits_listed dual_of m t (λ j. refl) (λ r. refl) (λ r. refl) (λ n. refl) refl refl k h (λ u. refl)

  -- the prices of rooms
  abbrev pub room_dual_of : Variable → List (RoomDual Fraction)
  room_dual_of (variable.Block j) = []
  room_dual_of variable.Balance = []
  room_dual_of (variable.Limit r) = []
  room_dual_of (variable.Over r) = []
  room_dual_of (variable.Under r) = []
  room_dual_of (variable.Offer n) = []
  room_dual_of variable.Need = []
  room_dual_of (variable.Room u) = room_dual_by (unit_at m u).row (cost (room_name m u)) (sign_of (cost (room_name m u)))

  pub room_duals_all : (t : Taken) (k : ℕ) → length (variables m t) ≤ k → listed_to room_dual_of (variables m t) k ≡ flat_map (λ u. room_dual_of (variable.Room u)) t.rooms
  room_duals_all t k h = rooms_listed room_dual_of m t (λ j. refl) (λ r. refl) (λ r. refl) (λ n. refl) refl refl k h (λ r. refl)

  -- where the balance is among the first
  pub energy_step : {E : Type 0} (vs : List Variable) (k : ℕ) (v : Variable) → k < length vs → get_or vs k variable.Balance ≡ v → v ≢ variable.Balance → (Contains (take k vs) variable.Balance → E) → Contains (take (k + 1) vs) variable.Balance → E
  energy_step vs k v lt at other before c =
      elim (Contains-append_cases (take k vs) (get_or vs k variable.Balance ∷ []) variable.Balance (subst (λ (us : List Variable). Contains us variable.Balance) (take_more vs k variable.Balance lt) c)) [
        | inl h ↦ before h
        | inr h ↦ elim (Contains-cases (get_or vs k variable.Balance) [] variable.Balance h) [ inl e ↦ absurd (other (sym at ∙ e)) | inr n ↦ absurd (Prim.omega (arith, n.1)) ]
      ]

  pub balance_all : (t : Taken) (k : ℕ) → length (variables m t) ≤ k → Contains (take k (variables m t)) variable.Balance
  balance_all t k h = subst (λ (us : List Variable). Contains us variable.Balance) (sym (take_all k (variables m t) h)) (law.is_variable m t variable.Balance tt)

-- ---- the multipliers of a stuck variable
not_eqb : (a b : ℕ) → a ≢ b → a == b ≡ false
not_eqb a b n = elim (eqb_tells a b) [ inl t ↦ absurd (n t.1) | inr t ↦ t.0 ]

module _ (h : Choice) (b w : ℕ) where
  chosen : Bool → Bool → Fraction
  chosen same basic = if same then whole (pos 1) else if basic then whole (pos 0) else neg_ℚ (h.entry b w)

  pub multiplier_self : w ≡ b → multiplier h b w ≡ whole (pos 1)
  unfolding multiplier chosen
  multiplier_self e = ap (λ (t : Bool). chosen t (h.basic w)) (eq-eqb w b e)

  pub multiplier_basic : w ≢ b → h.basic w ≡ true → multiplier h b w ≡ whole (pos 0)
  unfolding multiplier chosen
  multiplier_basic n e = ap₂ chosen (not_eqb w b n) e

  pub multiplier_other : w ≢ b → h.basic w ≡ false → multiplier h b w ≡ neg_ℚ (h.entry b w)
  unfolding multiplier chosen
  multiplier_other n e = ap₂ chosen (not_eqb w b n) e

-- ---- what a variable leaves of its bound
value_basic : (s : System) (h : Choice) (b : ℕ) → h.basic b ≡ true → value s h b ≡ total (value_terms s h b)
unfolding value
value_basic s h b e = ap (λ (t : Bool). if t then total (value_terms s h b) else at_bound s h b) e

in_basics : (d : Dictionary) (b : ℕ) → Contains d.names b → (choice_of d).basic b ≡ true → Contains (basics (system_in d) (choice_of d)) b
unfolding basics system_in
in_basics d b named basic = Contains-filter (choice_of d).basic d.names b named basic

module _ (d : Dictionary) (sound : IsDictionary d) (row : ℕ) (within : row < length d.basics) (shows : ShowsChoice d) where
  named : Contains d.names (slice_index d.basics row)
  named = sound.split.first_named (slice_index d.basics row) (Contains-at d.basics row within)

  value_is : (note_of d (slice_index d.basics row)).value ≡ value (system_in d) (choice_of d) (slice_index d.basics row)
  unfolding state_of
  value_is = shows.values (slice_index d.basics row) named

  pub margin_above : (note_of d (slice_index d.basics row)).high -ℚ (note_of d (slice_index d.basics row)).value ≡ margin (system_in d) (choice_of d) (slice_index d.basics row) true
  unfolding margin system_in
  margin_above = ap (λ v. (note_of d (slice_index d.basics row)).high -ℚ v) value_is

  pub margin_below : (note_of d (slice_index d.basics row)).value -ℚ (note_of d (slice_index d.basics row)).low ≡ margin (system_in d) (choice_of d) (slice_index d.basics row) false
  unfolding margin system_in
  margin_below = ap (λ v. v -ℚ (note_of d (slice_index d.basics row)).low) value_is

  value_number : SystemNumber (system_in d) (choice_of d) Quantity (note_of d (slice_index d.basics row)).value
  value_number =
      let basic : (choice_of d).basic (slice_index d.basics row) ≡ true = choice_basic d sound (slice_index d.basics row) (Contains-at d.basics row within) in
      let terms = value_terms (system_in d) (choice_of d) (slice_index d.basics row) in
      let is : prefix (length terms) terms ≡ (note_of d (slice_index d.basics row)).value = prefix-all terms ∙ sym (value_is ∙ value_basic (system_in d) (choice_of d) (slice_index d.basics row) basic) in
      subst (SystemNumber (system_in d) (choice_of d) Quantity) is
      (is_value (slice_index d.basics row) (length terms) (in_basics d (slice_index d.basics row) named basic))

  high_number : SystemNumber (system_in d) (choice_of d) Quantity (note_of d (slice_index d.basics row)).high
  unfolding system_in
  high_number = is_high (slice_index d.basics row) named

  low_number : SystemNumber (system_in d) (choice_of d) Quantity (note_of d (slice_index d.basics row)).low
  unfolding system_in
  low_number = is_low (slice_index d.basics row) named

  refused_pair : (x y : Fraction) (bound : ℕ) (p : Passed Fraction) → SystemNumber (system_in d) (choice_of d) Quantity x → SystemNumber (system_in d) (choice_of d) Quantity y
      → SolvingNumber (system_in d) (choice_of d) (x -ℚ y) → IsRefusal Minus x y bound p → IsSystemPair (system_in d) bound p.op p.left p.right
  refused_pair x y bound p n k left r = record {
    passes = r.passes;
    one = choice_of d;
    near = choice_of d;
    is_choice = shows.choice;
    near_is_choice = shows.choice;
    are_near = inl refl;
    sides =
        subst (λ (o : Op). IsPairCase (OfEither (SystemNumber (system_in d)) (choice_of d) (choice_of d)) o p.left p.right) (sym r.same_op)
        (subtracted Quantity p.left p.right
        (subst (IsSummand (OfEither (SystemNumber (system_in d)) (choice_of d) (choice_of d)) Quantity) (sym r.same_left) (plain x (alone x (inl n))))
        (subst (IsSummand (OfEither (SystemNumber (system_in d)) (choice_of d) (choice_of d)) Quantity) (sym r.same_right) (plain y (alone y (inl k)))));
    large = less_large (AtEither (SolvingNumber (system_in d)) (choice_of d) (choice_of d)) bound x y p.op p.left p.right r.same_op r.same_left r.same_right (inl left) r.too_large;
  }

  module _ (bound : ℕ) (p : Passed Fraction) where
    pub above_refused : IsEmptyAt d row true → IsRefusal Minus (note_of d (slice_index d.basics row)).high (note_of d (slice_index d.basics row)).value bound p → IsSystemPair (system_in d) bound p.op p.left p.right
    unfolding system_in
    above_refused empty = refused_pair (note_of d (slice_index d.basics row)).high (note_of d (slice_index d.basics row)).value bound p high_number value_number
        (subst (λ v. SolvingNumber (system_in d) (choice_of d) ((note_of d (slice_index d.basics row)).high -ℚ v)) (sym value_is) (is_fall (slice_index d.basics row) empty.stuck.basic empty.stuck.violates empty.first))

    pub below_refused : IsEmptyAt d row false → IsRefusal Minus (note_of d (slice_index d.basics row)).value (note_of d (slice_index d.basics row)).low bound p → IsSystemPair (system_in d) bound p.op p.left p.right
    unfolding system_in
    below_refused empty = refused_pair (note_of d (slice_index d.basics row)).value (note_of d (slice_index d.basics row)).low bound p value_number low_number
        (subst (λ v. SolvingNumber (system_in d) (choice_of d) (v -ℚ (note_of d (slice_index d.basics row)).low)) (sym value_is) (is_rise (slice_index d.basics row) empty.stuck.basic empty.stuck.violates empty.first))

-- ---- an exact number, or two that passed
pub exact_ok : {N : Type 0} (value : N → Fraction) (bound : ℕ) (op : Op) (l r : N) (result : Result N (Passed N)) (z : Fraction) → IsExactValue value bound op l r result → outcome op (value l) (value r) ≡ z → IfOk result (λ x. value x ≡ z)
exact_ok value bound op l r (Ok x) z h e = h.exact ∙ e
exact_ok value bound op l r (Err p) z h e = tt

pub exact_err : {N : Type 0} (value : N → Fraction) (bound : ℕ) (op : Op) (l r : N) (result : Result N (Passed N)) (P : Passed N → Type 0) → IsExactValue value bound op l r result → ((p : Passed N) → IsTooLargeAt value bound op l r p → P p) → IfErr result P
exact_err value bound op l r (Ok x) P h f = tt
exact_err value bound op l r (Err p) P h f = f p h

-- two places of a list of distinct names
pub names_differ : (xs : List ℕ) → AllPairs (λ x y. ¬ (x ≡ y)) xs → (i j : ℕ) → i < length xs → j < length xs → i ≢ j → slice_index xs i ≢ slice_index xs j
names_differ xs distinct i j li lj n e = elim (lt_or_le i j) [
  | inl lt ↦ distinct i j 0 lt lj e
  | inr ge ↦ let other : j < i = Prim.omega (arith, ge, n) in distinct j i 0 other li (sym e)
]

pub known_names : (d : Dictionary) (w : ℕ) → Contains d.names w → Contains (system_in d).variables w
unfolding system_in
known_names d w c = c
