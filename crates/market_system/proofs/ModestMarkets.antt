-- The numbers of a modest market of energy alone without lines, at a choice of its system, are whole and small.
use Rattle.std.specs.Prelude.{◌≡◌, ℕ, ◌+◌, ◌*◌, ◌≤◌, ◌<◌, ◌==◌, pos, ◌≤ℤ◌, Bool, true, false, not, List, [], ◌∷◌, ◌++◌, length, map, filter, if◌then◌else◌, unsigned_abs, refl}
use Rattle.std.specs.List.{Contains}
use Rattle.std.proofs.Common.{arith, ap, sym, ◌∙◌, subst}
use Rattle.std.proofs.lemmas.Bool.{true≢false}
use Rattle.std.proofs.lemmas.Int.{ints}
use Rattle.std.proofs.lemmas.List.{length-append, length-map, get_or-replicate}
use Rattle.std.proofs.lemmas.List.FromFn.{length-range_with_len, get_or-map-range_with_len}
use Rattle.fraction_theory.specs.Fraction.{Fraction, whole, neg_ℚ}
use Rattle.fraction_theory.specs.Order.{◌≤ℚ◌}
use Rattle.fraction_theory.specs.Sums.{Term, Plain, Product, total, prefix}
use Rattle.fraction_theory.proofs.SumLaws.{prefix-all}
use Rattle.fraction_theory.proofs.ListSums.{Contains-from_filter}
use Rattle.linear_system.specs.Systems.{System}
use Rattle.linear_system.specs.Choices.{Choice, IsChoice, basics, others, at_bound, value, value_terms, column_entry, row_entry_terms, reduced_terms}
use Rattle.linear_system.specs.Numbers.{Kind, Factor, Quantity, Price, SystemNumber, is_zero, is_one, is_coefficient, is_entry, is_row_entry, is_low, is_high, is_value, is_price, is_reduced, is_opposite}
use Rattle.linear_system.proofs.ChoiceLaws.{others_are, is_basic}
use Rattle.market_model.specs.declared.participants.Side.{Side}
use Rattle.market_model.specs.declared.participants.Side.TheVariants.{Sell, Buy}
use Rattle.market_model.specs.declared.participants.Parts.{Parts}
use Rattle.market_model.specs.Market.{IsMarket}
use Rattle.market_model.specs.Dispatch.{Dispatch, IsDispatch, zero, places, bus_at, unit_at, block_at, signed_by_side, accepted, quantity, units_at, blocks_at, fixed_term, block_term, injection_terms, injection, balance_terms, balance, output_terms, output, demand_terms, demand, empty}
use Rattle.market_model.specs.Optimality.{price, block_value}
use Rattle.market_model.specs.Reserves.{no_reserve}
use Rattle.market_model.proofs.EnergyAlone.{no_offers, not_listed}
use Rattle.market_model.proofs.WholeDispatch.{from_whole-≤ℚ}
use Rattle.market_model.proofs.RowMembers.{Contains-from_places}
use Rattle.market_system.specs.MarketSystem.{residual_demand, low, high, system_of, choice_dispatch, IsVariableOf}
use Rattle.market_system.specs.declared.variables.Variable.{Variable}
use Rattle.market_system.specs.declared.variables.Variable.TheVariants.{Block, Balance, Limit, Over, Under, Offer, Need, Room}
use Rattle.market_system.specs.ModestMarkets.{IsModest, IsModestBus, IsModestUnit, IsModestBlock, modest_mw, modest_price}
use Rattle.market_system.proofs.SystemLaws.{nothing, none_ordered, columns_are, column_below, variables_are, variable_in, the_row, is_system}
use Rattle.market_system.proofs.VariableLaws.{by_variable, coefficient-at, price-at, low-at, high-at}
use Rattle.market_system.proofs.ModestNumbers.{IsWholeWithin, whole_within, nil_within, wider, neg_within, times_within, TermsWithin, append_within, map_within, prefix_within, length-filter_le}
use Rattle.market_system.proofs.ModestChoices.{block_sign_within, entry_within, column_within}

-- the most of an injection, of a balance and of the value of a variable
abbrev pub most_injection : ℕ
most_injection = 5002 * modest_mw

abbrev pub most_balance : ℕ
most_balance = 1000 * most_injection

abbrev pub most_value : ℕ
most_value = 4001 * most_balance

-- the most of an output
abbrev pub most_output : ℕ
most_output = 4001 * modest_mw

-- the most of a number of a kind
abbrev pub most_of : Kind → ℕ
most_of Factor = 4000
most_of Quantity = most_value
most_of Price = 4000 * modest_price

pub signed_within : (b : ℕ) (side : Side) (x : Fraction) → IsWholeWithin b x → IsWholeWithin b (signed_by_side side x)
signed_within b Sell x h = h
signed_within b Buy x h = neg_within b x h

-- one of two
either_within : (b : ℕ) (c : Bool) (x y : Fraction) → IsWholeWithin b x → IsWholeWithin b y → IsWholeWithin b (if c then x else y)
either_within b true x y h k = h
either_within b false x y h k = k

-- the whole of a sum, by its first terms
pub total_within : (n b : ℕ) (ts : List Term) → length ts ≤ n → TermsWithin b ts → IsWholeWithin (n * b) (total ts)
total_within n b ts le h = subst (IsWholeWithin (n * b)) (prefix-all ts) (prefix_within n b (length ts) ts le h)

-- how many terms there are
terms_of_places : (f : ℕ → Term) (n : ℕ) → length (map f (places n)) ≡ n
terms_of_places f n = length-map (places n) f ∙ length-range_with_len 0 n

terms_of_some : (f : ℕ → Term) (p : ℕ → Bool) (n : ℕ) → length (map f (filter p (places n))) ≤ n
terms_of_some f p n = Prim.omega (arith, length-map (filter p (places n)) f, length-filter_le p (places n), length-range_with_len 0 n)

some_below : (p : ℕ → Bool) (n j : ℕ) → Contains (filter p (places n)) j → j < n
some_below p n j c = let r = Contains-from_filter p (places n) j c in Contains-from_places n j r.0

module _ (m : Parts) (market : IsMarket m) (modest : IsModest m) where
  pub load_within : (i : ℕ) → i < length m.buses → IsWholeWithin modest_mw (whole (bus_at m i).pd)
  load_within i lt = let r : IsModestBus (bus_at m i) = modest.buses i _ lt in whole_within modest_mw (bus_at m i).pd r.load

  pub shunt_within : (i : ℕ) → i < length m.buses → IsWholeWithin modest_mw (whole (bus_at m i).gs)
  shunt_within i lt = let r : IsModestBus (bus_at m i) = modest.buses i _ lt in whole_within modest_mw (bus_at m i).gs r.shunt

  pub fixed_within : (u : ℕ) → u < length m.units → IsWholeWithin modest_mw (whole (unit_at m u).fixed)
  fixed_within u lt = let r : IsModestUnit (unit_at m u) = modest.units u _ lt in whole_within modest_mw (unit_at m u).fixed r.fixed

  pub up_within : (u : ℕ) → u < length m.units → IsWholeWithin modest_mw (whole (unit_at m u).up)
  up_within u lt = let r : IsModestUnit (unit_at m u) = modest.units u _ lt in whole_within modest_mw (unit_at m u).up r.up

  pub down_within : (u : ℕ) → u < length m.units → IsWholeWithin modest_mw (whole (unit_at m u).down)
  down_within u lt = let r : IsModestUnit (unit_at m u) = modest.units u _ lt in whole_within modest_mw (unit_at m u).down r.down

  quantity_size : (j : ℕ) → j < length m.blocks → unsigned_abs (block_at m j).quantity ≤ modest_mw
  quantity_size j lt = let r : IsModestBlock (block_at m j) = modest.blocks j _ lt in r.quantity

  pub quantity_within : (j : ℕ) → j < length m.blocks → IsWholeWithin modest_mw (quantity m j)
  quantity_within j lt = whole_within modest_mw (block_at m j).quantity (quantity_size j lt)

  pub price_within : (j : ℕ) → j < length m.blocks → IsWholeWithin modest_price (price m j)
  price_within j lt = let r : IsModestBlock (block_at m j) = modest.blocks j _ lt in whole_within modest_price (block_at m j).price r.price

  pub block_value_within : (j : ℕ) → j < length m.blocks → IsWholeWithin modest_price (block_value m j)
  block_value_within j lt = neg_within modest_price (signed_by_side (block_at m j).side (price m j)) (signed_within modest_price (block_at m j).side (price m j) (price_within j lt))

  -- what each block has accepted is whole, and at most what it may be
  module _ (x : Dispatch) (small : (j : ℕ) → j < length m.blocks → IsWholeWithin modest_mw (accepted x j)) where
    blocks_within : (p : ℕ → Bool) → TermsWithin modest_mw (map (block_term m x) (filter p (places (length m.blocks))))
    blocks_within p = map_within modest_mw (block_term m x) (filter p (places (length m.blocks)))
        (λ j c. signed_within modest_mw (block_at m j).side (accepted x j) (small j (some_below p (length m.blocks) j c)))

    injection_each : (i : ℕ) → i < length m.buses → TermsWithin modest_mw (injection_terms m x i)
    injection_each i lt =
        append_within modest_mw (map (fixed_term m) (units_at m i) ++ map (block_term m x) (blocks_at m i)) (Plain (neg_ℚ (whole (bus_at m i).pd)) ∷ Plain (neg_ℚ (whole (bus_at m i).gs)) ∷ [])
        (append_within modest_mw (map (fixed_term m) (units_at m i)) (map (block_term m x) (blocks_at m i))
        (map_within modest_mw (fixed_term m) (units_at m i) (λ u c. fixed_within u (some_below (λ u. (unit_at m u).bus == i) (length m.units) u c)))
        (blocks_within (λ j. (unit_at m (block_at m j).unit).bus == i)))
        (neg_within modest_mw (whole (bus_at m i).pd) (load_within i lt), (neg_within modest_mw (whole (bus_at m i).gs) (shunt_within i lt), tt))

    injection_count : (i : ℕ) → length (injection_terms m x i) ≤ 5002
    injection_count i = Prim.omega (
      arith,
      length-append (map (fixed_term m) (units_at m i) ++ map (block_term m x) (blocks_at m i)) (Plain (neg_ℚ (whole (bus_at m i).pd)) ∷ Plain (neg_ℚ (whole (bus_at m i).gs)) ∷ []),
      length-append (map (fixed_term m) (units_at m i)) (map (block_term m x) (blocks_at m i)),
      terms_of_some (fixed_term m) (λ u. (unit_at m u).bus == i) (length m.units),
      terms_of_some (block_term m x) (λ j. (unit_at m (block_at m j).unit).bus == i) (length m.blocks),
      market.unit_count,
      market.block_count,
    )

    pub injection_within : (i k : ℕ) → i < length m.buses → IsWholeWithin most_injection (prefix k (injection_terms m x i))
    injection_within i k lt = prefix_within 5002 modest_mw k (injection_terms m x i) (injection_count i) (injection_each i lt)

    balance_each : TermsWithin most_injection (balance_terms m x)
    unfolding injection
    balance_each = map_within most_injection (λ i. Plain (injection m x i)) (places (length m.buses))
        (λ i c. let lt = Contains-from_places (length m.buses) i c in total_within 5002 modest_mw (injection_terms m x i) (injection_count i) (injection_each i lt))

    pub balance_within : (k : ℕ) → IsWholeWithin most_balance (prefix k (balance_terms m x))
    balance_within k = prefix_within 1000 most_injection k (balance_terms m x) (Prim.omega (arith, terms_of_places (λ i. Plain (injection m x i)) (length m.buses), market.bus_count)) balance_each

    pub output_each : (u : ℕ) → u < length m.units → TermsWithin modest_mw (output_terms m x u)
    output_each u lt = (fixed_within u lt, blocks_within (λ j. (block_at m j).unit == u))

    pub output_count : (u : ℕ) → length (output_terms m x u) ≤ 4001
    output_count u = Prim.omega (arith, terms_of_some (block_term m x) (λ j. (block_at m j).unit == u) (length m.blocks), market.block_count)

    pub output_terms_within : (u k : ℕ) → u < length m.units → IsWholeWithin most_output (prefix k (output_terms m x u))
    output_terms_within u k lt = prefix_within 4001 modest_mw k (output_terms m x u) (output_count u) (output_each u lt)

    pub output_within : (u : ℕ) → u < length m.units → IsWholeWithin most_output (output m x u)
    unfolding output
    output_within u lt = total_within 4001 modest_mw (output_terms m x u) (output_count u) (output_each u lt)

  pub demand_within : (i : ℕ) → i < length m.buses → IsWholeWithin most_output (demand m i)
  unfolding demand
  demand_within i lt = wider (2 * modest_mw) most_output (demand m i) (Prim.omega arith) (total_within 2 modest_mw (demand_terms m i) (Prim.omega arith) (load_within i lt, (shunt_within i lt, tt)))

  -- nothing accepted, and what the blocks have to raise
  pub empty_small : (j : ℕ) → j < length m.blocks → IsWholeWithin modest_mw (accepted (empty m) j)
  empty_small j lt = subst (IsWholeWithin modest_mw) (sym (get_or-replicate (length m.blocks) j zero zero lt)) (nil_within modest_mw)

  pub empty_balance_within : IsWholeWithin most_balance (balance m (empty m))
  unfolding balance
  empty_balance_within = subst (IsWholeWithin most_balance) (prefix-all (balance_terms m (empty m))) (balance_within (empty m) empty_small (length (balance_terms m (empty m))))

  needed_within : IsWholeWithin most_balance (residual_demand m)
  needed_within = neg_within most_balance (balance m (empty m)) empty_balance_within

  module _ (energy : m.reserve ≡ no_reserve) where
    variable_within : (v : Variable) → IsVariableOf m nothing v → IsWholeWithin most_balance (low m v) × IsWholeWithin most_balance (high m v)
    variable_within (Block j) lt = (wider modest_mw most_balance zero (Prim.omega arith) (nil_within modest_mw), wider modest_mw most_balance (quantity m j) (Prim.omega arith) (quantity_within j lt))
    variable_within Balance is = (needed_within, needed_within)
    variable_within (Limit r) c = absurd (Prim.omega (arith, c.1))
    variable_within (Over r) c = absurd (Prim.omega (arith, c.0.1))
    variable_within (Under r) c = absurd (Prim.omega (arith, c.0.1))
    variable_within (Offer n) lt = let few = ap length (no_offers m energy) in absurd (Prim.omega (arith, lt, few))
    variable_within Need listed = absurd (true≢false (sym listed ∙ not_listed m energy))
    variable_within (Room u) c = absurd (Prim.omega (arith, c.1))

    pub low_within : (w : ℕ) → Contains (system_of m nothing).variables w → IsWholeWithin most_balance ((system_of m nothing).low w)
    low_within = by_variable m nothing (λ w. IsWholeWithin most_balance ((system_of m nothing).low w)) (λ v is. subst (IsWholeWithin most_balance) (sym (low-at m nothing (none_ordered m) v is)) (variable_within v is).0)

    pub high_within : (w : ℕ) → Contains (system_of m nothing).variables w → IsWholeWithin most_balance ((system_of m nothing).high w)
    high_within = by_variable m nothing (λ w. IsWholeWithin most_balance ((system_of m nothing).high w)) (λ v is. subst (IsWholeWithin most_balance) (sym (high-at m nothing (none_ordered m) v is)) (variable_within v is).1)

    -- at a choice of the system
    module _ (h : Choice) (is : IsChoice (system_of m nothing) h) where
      abbrev s : System
      s = system_of m nothing

      bound_within : (w : ℕ) → Contains s.variables w → IsWholeWithin most_balance (at_bound s h w)
      unfolding at_bound
      bound_within w c = either_within most_balance (h.high w) (s.high w) (s.low w) (high_within w c) (low_within w c)

      value_each : (b : ℕ) → Contains (basics s h) b → TermsWithin most_balance (value_terms s h b)
      unfolding value_terms
      value_each b c = map_within most_balance (λ w. Product (h.entry b w) (at_bound s h w)) (others s h)
          (λ w k. times_within 1 most_balance (h.entry b w) (at_bound s h w) (entry_within m energy h is b w c k) (bound_within w (others_are s h w k).0))

      value_count : (b : ℕ) → length (value_terms s h b) ≤ 4001
      unfolding value_terms others
      value_count b = Prim.omega (
        arith,
        length-map (others s h) (λ w. Product (h.entry b w) (at_bound s h w)),
        length-filter_le (λ w. not (h.basic w)) s.variables,
        ap length (variables_are m energy),
        length-range_with_len 0 (length m.blocks + 1),
        market.block_count,
      )

      pub value_terms_within : (b k : ℕ) → Contains (basics s h) b → IsWholeWithin most_value (prefix k (value_terms s h b))
      value_terms_within b k c = prefix_within 4001 most_balance k (value_terms s h b) (value_count b) (value_each b c)

      value_within : (w : ℕ) → Contains s.variables w → IsWholeWithin most_value (value s h w)
      unfolding value
      value_within w c = at_test (h.basic w) refl
        where
          at_test : (b : Bool) → h.basic w ≡ b → IsWholeWithin most_value (if b then total (value_terms s h w) else at_bound s h w)
          at_test true e = total_within 4001 most_balance (value_terms s h w) (value_count w) (value_each w (is_basic s h w c e))
          at_test false e = wider most_balance most_value (at_bound s h w) (Prim.omega arith) (bound_within w c)

      -- the dispatch of a choice is whole, so within the blocks' bounds it is small
      pub dispatch_small : IsDispatch m (choice_dispatch m nothing h) → (j : ℕ) → j < length m.blocks → IsWholeWithin modest_mw (accepted (choice_dispatch m nothing h) j)
      dispatch_small d j lt =
          let e : accepted (choice_dispatch m nothing h) j ≡ value s h j = get_or-map-range_with_len (value s h) 0 (length m.blocks) j j zero lt (Prim.omega arith) in
          let v : IsWholeWithin most_value (value s h j) = value_within j (variable_in m energy j (Prim.omega (arith, lt))) in
          let above : pos 0 ≤ℤ v.number = from_whole-≤ℚ (pos 0) v.number (subst (λ t. zero ≤ℚ t) (e ∙ v.is) (d.above j lt)) in
          let below : v.number ≤ℤ (block_at m j).quantity = from_whole-≤ℚ v.number (block_at m j).quantity (subst (λ t. t ≤ℚ quantity m j) (e ∙ v.is) (d.within j lt)) in
          record { number = v.number; is = e ∙ v.is; within = Prim.omega (arith, ints, above, below, quantity_size j lt) }

      coefficient_within : (r j : ℕ) → Contains s.rows r → Contains s.columns j → IsWholeWithin 1 (s.coefficient r j)
      coefficient_within r j c k =
          subst (λ (u : ℕ). IsWholeWithin 1 (s.coefficient u j)) (sym (the_row m energy r c))
          (subst (IsWholeWithin 1) (sym (coefficient-at m nothing (none_ordered m) Balance (Block j) tt (column_below m energy j k))) (block_sign_within m j))

      price_of_within : (j : ℕ) → Contains s.columns j → IsWholeWithin modest_price (s.price j)
      price_of_within j k = let lt = column_below m energy j k in subst (IsWholeWithin modest_price) (sym (price-at m nothing (none_ordered m) (Block j) lt)) (block_value_within j lt)

      column_listed : (j : ℕ) → Contains s.columns j → Contains s.variables j
      column_listed = (is_system m).column

      row_each : (r w : ℕ) → Contains s.rows r → Contains (others s h) w → TermsWithin 1 (row_entry_terms s h r w)
      unfolding row_entry_terms
      row_each r w d c = map_within 1 (λ j. Product (s.coefficient r j) (column_entry h j w)) s.columns
          (λ j k. times_within 1 1 (s.coefficient r j) (column_entry h j w) (coefficient_within r j d k) (column_within m energy h is j w (column_listed j k) c))

      reduced_each : (w : ℕ) → Contains (others s h) w → TermsWithin modest_price (reduced_terms s h w)
      unfolding reduced_terms
      reduced_each w c = map_within modest_price (λ j. Product (s.price j) (column_entry h j w)) s.columns
          (λ j k. times_within modest_price 1 (s.price j) (column_entry h j w) (price_of_within j k) (column_within m energy h is j w (column_listed j k) c))

      columns_count : (f : ℕ → Term) → length (map f s.columns) ≤ 4000
      columns_count f = Prim.omega (arith, ap (λ (ws : List ℕ). length (map f ws)) (columns_are m energy), terms_of_places f (length m.blocks), market.block_count)

      -- the numbers of the system
      pub system_within : (kind : Kind) (x : Fraction) → SystemNumber s h kind x → IsWholeWithin (most_of kind) x
      unfolding row_entry_terms reduced_terms
      system_within Factor x is_zero = nil_within 4000
      system_within Factor x is_one = whole_within 4000 (pos 1) (Prim.omega arith)
      system_within Factor x (is_coefficient r j c k) = wider 1 4000 (s.coefficient r j) (Prim.omega arith) (coefficient_within r j c k)
      system_within Factor x (is_entry b w c k) = wider 1 4000 (h.entry b w) (Prim.omega arith) (entry_within m energy h is b w c k)
      system_within Factor x (is_row_entry r w k c d) = prefix_within 4000 1 k (row_entry_terms s h r w) (columns_count (λ j. Product (s.coefficient r j) (column_entry h j w))) (row_each r w c d)
      system_within Quantity x (is_low w c) = wider most_balance most_value (s.low w) (Prim.omega arith) (low_within w c)
      system_within Quantity x (is_high w c) = wider most_balance most_value (s.high w) (Prim.omega arith) (high_within w c)
      system_within Quantity x (is_value b k c) = value_terms_within b k c
      system_within Price x (is_price j c) = wider modest_price (4000 * modest_price) (s.price j) (Prim.omega arith) (price_of_within j c)
      system_within Price x (is_reduced w k c) = prefix_within 4000 modest_price k (reduced_terms s h w) (columns_count (λ j. Product (s.price j) (column_entry h j w))) (reduced_each w c)
      system_within kind x (is_opposite same y n) = neg_within (most_of same) y (system_within same y n)
