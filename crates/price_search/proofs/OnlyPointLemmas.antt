-- Where the system of prices has one point alone, the duals of that are the first.
use Rattle.std.specs.Prelude.{◌≡◌, ◌≢◌, ◌⊎◌, ℕ, ◌+◌, ◌<◌, ◌≤◌, Bool, true, false, List, [], ◌∷◌, ◌++◌, length, map, Contains, slice_index, slice_index_or, refl}
use Rattle.std.proofs.Common.{arith, zero as none, suc, ap, sym, ◌∙◌, subst, inl, inr, get_or}
use Rattle.std.proofs.lemmas.Bool.{cases_lt}
use Rattle.std.proofs.lemmas.List.{get_or_append_left, get_or-append-add, get_or-map, length-append, length-map}
use Rattle.std.proofs.lemmas.List.Elements.{Contains-append_left}
use Rattle.fraction_theory.specs.Fraction.{Fraction, ◌+ℚ◌, ◌-ℚ◌, ◌*ℚ◌}
use Rattle.fraction_theory.specs.Order.{◌<ℚ◌, ◌≤ℚ◌}
use Rattle.fraction_theory.proofs.FieldLaws.{ring_ℚ}
use Rattle.fraction_theory.proofs.ListSums.{Contains-filter, sum_by-members}
use Rattle.fraction_theory.proofs.OrderLaws.{<ℚ_irrefl, three_ways, ≤ℚ_antisym, ≤ℚ_of_same}
use Rattle.fraction_theory.proofs.Ring.{at, by_ring, pneg, ◌⊕◌}
use Rattle.linear_system.specs.Systems.{IsSystem, MeetsRows, System, activity, objective}
use Rattle.linear_dict.specs.Dictionaries.{Dictionary, system_in}
use Rattle.linear_dict.proofs.SplitLemmas.{Contains-at}
use Rattle.simplex_theory.specs.States.{IsBest}
use Rattle.optimal_face.specs.FirstPoints.{GoesBefore, IsFirstBest}
use Rattle.fewer_columns.specs.Fewer.{MayLeave, fewer}
use Rattle.fewer_columns.specs.Laws.{IsPoint, LawOfFewerPoints}
use Rattle.fewer_columns.proofs.OrderLemmas.{from_reverse}
use Rattle.market_model.specs.declared.answered.Duals.{Duals}
use Rattle.market_model.specs.declared.participants.Parts.{Parts}
use Rattle.market_model.specs.declared.participants.Side.{Side}
use Rattle.market_model.specs.declared.participants.Side.TheVariants.{Sell, Buy}
use Rattle.market_model.specs.Dispatch.{Dispatch, accepted, block_at, quantity, zero}
use Rattle.market_model.specs.Market.{IsMarket}
use Rattle.market_model.specs.Optimality.{Gains, Loses, ProperDuals, Supports, energy_worth, price}
use Rattle.market_model.proofs.RowMembers.{Contains-from_map}
use Rattle.limit_screen.specs.Reaching.{are_same}
use Rattle.limit_screen.proofs.ReachLemmas.{are_one, same_tells}
use Rattle.one_price.specs.FirstPrices.{AreFirstDuals, EnergyMayCost, least, with_energy}
use Rattle.one_price.proofs.EnergyLemmas.{worth_beyond}
use Rattle.first_prices.specs.FirstCaps.{AreCapsBy, HasFirstPrices}
use Rattle.first_prices.proofs.CapLemmas.{law_of_caps}
use Rattle.first_prices.proofs.PointLemmas.{law_of_first_points}
use Rattle.simplex_core.specs.declared.bounds.Bounds.{Bounds}
use Rattle.price_system.specs.declared.variables.Variable.{Variable}
use Rattle.price_system.specs.declared.variables.Variable.TheVariants.{Block, Energy}
use Rattle.price_system.specs.PriceSystem.{Caps, KeepsCaps, duals_of, high, low, name, point_of, price_order, price_system, prices, worths}
use Rattle.price_system.proofs.BackLemmas.{law_of_duals}
use Rattle.price_system.proofs.DualLemmas.{agrees-made}
use Rattle.price_system.proofs.PointLaws.{block_worth, greatest, least as at_least, point_bounds, point_meets, supported, variable_in}
use Rattle.price_system.proofs.NameLemmas.{variable_is}
use Rattle.price_system.proofs.SystemLemmas.{law_of_the_system}
use Rattle.one_point.specs.Known.{AgreeBehind, AgreeWhere, LeavesOnePoint}
use Rattle.price_dict.specs.Marked.{HoldsMarkedRows}
use Rattle.price_dict.specs.Reached.{columns_put, is_kept, reached_system}
use Rattle.price_search.specs.OnlyPoint.{AreFixed, AreMarginal, HasMarked, IsMarginal, IsOnlyPoint}
use Rattle.price_search.specs.PriceBounds.{AreBounds}
use Rattle.price_search.proofs.KeptLemmas.{columns_are, may_leave, put_is}
use Rattle.price_search.proofs.SettlingLemmas.{by_keep}

-- ---- a block of which a part is accepted
unlike : (a b : Fraction) → are_same a b ≡ false → a ≢ b
unlike a b e same = let wrong : true ≡ false = sym (are_one a b same) ∙ e in absurd Prim.cc

module _ (c w a all : Fraction) (some : a ≢ zero) (not_all : a ≢ all) where
  held : (s : Side) → (Gains s c w → a ≡ all) → (Loses s c w → a ≡ zero) → w ≡ c
  held Sell full empty = elim (three_ways w c) [ inl l ↦ absurd (some (empty l)) | inr r ↦ elim r [ inl e ↦ e | inr l ↦ absurd (not_all (full l)) ] ]
  held Buy full empty = elim (three_ways w c) [ inl l ↦ absurd (not_all (full l)) | inr r ↦ elim r [ inl e ↦ e | inr l ↦ absurd (some (empty l)) ] ]

-- a MW of its unit is worth its price
marginal_worth : (m : Parts) (x : Dispatch) (d : Duals Fraction) (j : ℕ) → Supports m x d → IsMarginal m x j → energy_worth m d (block_at m j).unit ≡ price m j
marginal_worth m x d j holds is =
    let block = holds.blocks j is.within in
    held (price m j) (energy_worth m d (block_at m j).unit) (accepted x j) (quantity m j) (unlike (accepted x j) zero is.some) (unlike (accepted x j) (quantity m j) is.not_all) (block_at m j).side block.full block.empty

same_energy : (w p e : Fraction) → w +ℚ (p -ℚ e) ≡ w → p ≡ e
same_energy w p e h =
    by_ring ring_ℚ (w ∷ p ∷ e ∷ []) (at 1) ((at 0 ⊕ (at 1 ⊕ pneg (at 2))) ⊕ (at 2 ⊕ pneg (at 0))) refl
    ∙ ap (λ (t : Fraction). t +ℚ (e -ℚ w)) h
    ∙ by_ring ring_ℚ (w ∷ p ∷ e ∷ []) (at 0 ⊕ (at 2 ⊕ pneg (at 0))) (at 2) refl

-- so energy has one price alone beside the others
one_energy : (m : Parts) (x : Dispatch) (d : Duals Fraction) (q : Fraction) (j : ℕ) → Supports m x d → EnergyMayCost m x d q → IsMarginal m x j → q ≡ d.energy
one_energy m x d q j holds may is =
    let u : ℕ = (block_at m j).unit in
    same_energy (energy_worth m d u) q d.energy (sym (worth_beyond m d q u) ∙ marginal_worth m x (with_energy d q) j may is ∙ sym (marginal_worth m x d j holds is))

-- ---- marks, one after the other
module _ (marks : List Bool) (b : Bool) where
  -- what is marked with one mark more
  marked_more : (i : ℕ) → i < length marks + 1 → slice_index_or (marks ++ b ∷ []) i false ≡ true → ((i < length marks) × (slice_index_or marks i false ≡ true)) ⊎ ((i ≡ length marks) × (b ≡ true))
  marked_more i lt mark = elim (cases_lt i (length marks)) [
    | inl h ↦ inl (h, sym (get_or_append_left marks (b ∷ []) false i h) ∙ mark)
    | inr h ↦
        let last : i ≡ length marks = Prim.omega (arith, lt, h) in
        let here : i ≡ length marks + 0 = Prim.omega (arith, last) in
        inr (last, sym (get_or-append-add marks (b ∷ []) 0 false) ∙ ap (λ (k : ℕ). slice_index_or (marks ++ b ∷ []) k false) (sym here) ∙ mark)
  ]

  marks_long : length (marks ++ b ∷ []) ≡ length marks + 1
  marks_long = length-append marks (b ∷ [])

pub marginal_none : (m : Parts) (x : Dispatch) → AreMarginal m x 0 []
marginal_none m x = record { count_is = refl; marginal = λ j h mark. absurd (Prim.omega (arith, h)) }

pub marginal_more : (m : Parts) (x : Dispatch) (k : ℕ) (marks : List Bool) (b : Bool) → AreMarginal m x k marks → (b ≡ true → IsMarginal m x k) → AreMarginal m x (k + 1) (marks ++ b ∷ [])
marginal_more m x k marks b are new = record {
  count_is = marks_long marks b ∙ ap (λ (n : ℕ). n + 1) are.count_is;
  marginal = λ j h mark. elim (marked_more marks b j (Prim.omega (arith, h, are.count_is)) mark) [
    | inl old ↦ are.marginal j (Prim.omega (arith, old.0, are.count_is)) old.1
    | inr last ↦ subst (IsMarginal m x) (sym (last.0 ∙ are.count_is)) (new last.1)
  ];
}

module _ {N : Type 0} (value : N → Fraction) (bounds : List (Bounds N)) where
  pub fixed_none : AreFixed value bounds 0 []
  fixed_none = record { count_is = refl; fixed = λ i h mark. absurd (Prim.omega (arith, h)) }

  pub fixed_more : (k : ℕ) (marks : List Bool) (b : Bool) (bound : Bounds N) → k < length bounds → bound ≡ get_or bounds k bound → b ≡ are_same (value bound.low) (value bound.high) → AreFixed value bounds k marks
      → AreFixed value bounds (k + 1) (marks ++ b ∷ [])
  fixed_more k marks b bound lt here tells are = record {
    count_is = marks_long marks b ∙ ap (λ (n : ℕ). n + 1) are.count_is;
    fixed = λ i h mark. elim (marked_more marks b i (Prim.omega (arith, h, are.count_is)) mark) [
      | inl old ↦ are.fixed i (Prim.omega (arith, old.0, are.count_is)) old.1
      | inr last ↦
          let same : i ≡ k = last.0 ∙ are.count_is in
          part (λ (t : Bounds N). value t.low) i same ∙ alike (value bound.low) (value bound.high) (sym tells ∙ last.1) ∙ sym (part (λ (t : Bounds N). value t.high) i same)
    ];
  }
    where
      part : (f : Bounds N → Fraction) (i : ℕ) → i ≡ k → slice_index_or (map f bounds) i zero ≡ f bound
      part f i same = ap (λ (n : ℕ). slice_index_or (map f bounds) n zero) same ∙ get_or-map f bounds k bound zero lt ∙ ap f (sym here)

      alike : (a c : Fraction) → are_same a c ≡ true → a ≡ c
      alike a c e = elim (same_tells a c) [ inl h ↦ h.1 | inr h ↦ let wrong : true ≡ false = sym e ∙ h.0 in absurd Prim.cc ]

-- ---- one point alone
module _ (m : Parts) (x : Dispatch) (c : Caps) (market : IsMarket m) where
  abbrev s : System
  s = price_system m x c

  -- what a marginal block's row has
  block_is : (v : ℕ → Fraction) → IsPoint s v → (j : ℕ) → IsMarginal m x j → v (name m (Block j)) ≡ price m j
  block_is v is j marginal =
      let d = duals_of m v in
      let agrees = agrees-made m market v in
      block_worth m x c market v d agrees is.rows is.bounds j marginal.within ∙ marginal_worth m x d j (supported m x c market v d agrees is.rows is.bounds) marginal

  -- what a variable has whose bounds are the same
  fixed_is : (v : ℕ → Fraction) → IsPoint s v → (u : Variable) → Contains (columns_put m x ++ worths m) u → low m x c u ≡ high m x c u → v (name m u) ≡ low m x c u
  fixed_is v is u k same =
      let d = duals_of m v in
      let agrees = agrees-made m market v in
      let one = put_is m x market u k in
      ≤ℚ_antisym (v (name m u)) (low m x c u) (subst (λ t. v (name m u) ≤ℚ t) (sym same) (greatest m x c market v d agrees is.rows is.bounds u one))
      (at_least m x c market v d agrees is.rows is.bounds u one)

  -- the bounds of a column
  module _ {N : Type 0} (value : N → Fraction) (bounds : List (Bounds N)) (are : AreBounds value m x c (columns_put m x ++ worths m) bounds) where
    abbrev all : List Variable
    all = columns_put m x ++ worths m

    read : (f : Bounds N → Fraction) (g : Variable → Fraction) → map f bounds ≡ map g all → (i : ℕ) → i < length all → get_or (map f bounds) i zero ≡ g (get_or all i Energy)
    read f g same i lt = ap (λ (ys : List Fraction). get_or ys i zero) same ∙ get_or-map g all i Energy zero lt

    -- of which the two are the same
    module _ (marks : List Bool) (fixed : AreFixed value bounds (length (columns_put m x)) marks) (v w : ℕ → Fraction) (is : IsPoint s v) (also : IsPoint s w) where
      abbrev column : ℕ → Variable
      column i = get_or all i Energy

      column_same : (i : ℕ) → i < length (columns_put m x) → slice_index_or marks i false ≡ true → v (name m (column i)) ≡ w (name m (column i))
      column_same i lt mark =
          let few : i < length all = Prim.omega (arith, lt, length-append (columns_put m x) (worths m)) in
          let same : low m x c (column i) ≡ high m x c (column i) =
          sym (read (λ b. value b.low) (low m x c) are.lows i few) ∙ fixed.fixed i lt mark ∙ read (λ b. value b.high) (high m x c) are.highs i few in
          let there : Contains all (column i) = (i, few, at_itself all i few) in
          fixed_is v is (column i) there same ∙ sym (fixed_is w also (column i) there same)
        where
          at_itself : (vs : List Variable) (i : ℕ) → i < length vs → get_or vs i (get_or vs i Energy) ≡ get_or vs i Energy
          at_itself [] i h = absurd (Prim.omega (arith, h))
          at_itself (u ∷ vs) none h = refl
          at_itself (u ∷ vs) (suc i) h = at_itself vs i (Prim.omega (arith, h))

      known_where : (names : List ℕ) → names ≡ map (name m) (columns_put m x) → AgreeWhere marks names v w
      known_where names same i lt mark =
          let few : i < length (columns_put m x) = Prim.omega (arith, lt, ap length same ∙ length-map (columns_put m x) (name m)) in
          let here : slice_index names i ≡ name m (column i) =
          ap (λ (ns : List ℕ). slice_index ns i) same ∙ get_or-map (name m) (columns_put m x) i Energy 0 few ∙ ap (name m) (sym (get_or_append_left (columns_put m x) (worths m) Energy i few)) in
          subst (λ (n : ℕ). v n ≡ w n) (sym here) (column_same i few mark)

  -- ---- two points of the system
  module _ (law : LawOfFewerPoints) (marks : List Bool) (marginal : AreMarginal m x (length m.blocks) marks) (d : Dictionary) (holds : HoldsMarkedRows m x marks d) (known : List Bool) (alone : LeavesOnePoint d known)
      (v w : ℕ → Fraction) (is : IsPoint s v) (also : IsPoint s w) (where_known : AgreeWhere known d.others v w) where
    system : IsSystem s
    system = law_of_the_system m x c market

    may : MayLeave s (is_kept m x)
    may = may_leave m x market c

    meets : (u : ℕ → Fraction) → IsPoint s u → MeetsRows (system_in d) u
    meets u point = holds.points c u (law s (is_kept m x) u system may point).rows

    behind : AgreeBehind d.basics v w
    behind i above lt =
        let j = holds.blocks i above lt in
        let block : IsMarginal m x j.block = marginal.marginal j.block j.within j.marked in
        subst (λ (n : ℕ). v n ≡ w n) (sym j.named) (block_is v is j.block block ∙ sym (block_is w also j.block block))

    put_same : (n : ℕ) → Contains d.others n → v n ≡ w n
    put_same n k = alone v w (meets v is) (meets w also) where_known behind n (holds.sound.split.second_named n k)

    -- a column that is left out is 0 in both
    nil : (u : ℕ → Fraction) → IsPoint s u → (n : ℕ) → Contains s.columns n → is_kept m x n ≡ false → u n ≡ zero
    nil u point n k out =
        let there = system.column n k in
        ≤ℚ_antisym (u n) zero (subst (λ t. u n ≤ℚ t) (may.high n k out) (point.bounds.high n there)) (subst (λ t. t ≤ℚ u n) (may.low n k out) (point.bounds.low n there))

    fewer_column : (n : ℕ) → Contains s.columns n → is_kept m x n ≡ true → Contains (reached_system m x c).columns n
    unfolding fewer
    fewer_column n k e = Contains-filter (is_kept m x) s.columns n k e

    column_same_in : (n : ℕ) → Contains s.columns n → v n ≡ w n
    column_same_in n k = by (is_kept m x n) refl
      where
        by : (b : Bool) → is_kept m x n ≡ b → v n ≡ w n
        by false e = nil v is n k e ∙ sym (nil w also n k e)
        by true e = put_same n (subst (λ (ns : List ℕ). Contains ns n) (columns_are m x market c ∙ sym holds.others) (fewer_column n k e))

    pub all_same : (n : ℕ) → Contains s.variables n → v n ≡ w n
    unfolding activity
    all_same n k = elim (system.either n k) [
      | inl column ↦ column_same_in n column
      | inr row ↦
          is.rows.row n row
          ∙ sum_by-members (λ j. s.coefficient n j *ℚ v j) (λ j. s.coefficient n j *ℚ w j) s.columns (λ j l. ap (λ (t : Fraction). s.coefficient n j *ℚ t) (column_same_in j l))
          ∙ sym (also.rows.row n row)
    ]

  -- ---- what is known leaves one point
  module _ {N : Type 0} (value : N → Fraction) (bounds : List (Bounds N)) (are : AreBounds value m x c (columns_put m x ++ worths m) bounds) (marks : List Bool)
      (marginal : AreMarginal m x (length m.blocks) marks) (d : Dictionary) (holds : HoldsMarkedRows m x marks d) where
    others_long : length d.others ≡ length (columns_put m x)
    others_long = ap length holds.others ∙ length-map (columns_put m x) (name m)

    pub columns_within : length d.others ≤ length bounds
    columns_within =
        Prim.omega (arith, others_long, sym (length-map bounds (λ (b : Bounds N). value b.low)) ∙ ap length are.lows ∙ length-map (columns_put m x ++ worths m) (low m x c), length-append (columns_put m x) (worths m))

    pub one_alone : LawOfFewerPoints → HasMarked marks → (known : List Bool) → AreFixed value bounds (length d.others) known → LeavesOnePoint d known → IsOnlyPoint m x c
    one_alone law has known fixed alone = record {
      only = λ v w is also n k.
          all_same law marks marginal d holds known alone v w is also
          (known_where value bounds are known (subst (λ (k : ℕ). AreFixed value bounds k known) others_long fixed) v w is also d.others holds.others) n k;
      block = has.0;
      marginal = marginal.marginal has.0 (Prim.omega (arith, has.1, marginal.count_is)) has.2;
    }

  -- ---- duals whose point is the only one
  module _ (d : Duals Fraction) (proper : ProperDuals m d) (holds : Supports m x d) (caps : AreCapsBy m x d c) (only : IsOnlyPoint m x c) where
    keeps : KeepsCaps m x c d
    keeps = by_keep m x d c market holds caps

    abbrev own : ℕ → Fraction
    own = point_of m d

    is_point : IsPoint s own
    is_point = record { rows = point_meets m x c market d; bounds = point_bounds m x c market d proper holds keeps }

    same_as : (u : ℕ → Fraction) → IsPoint s u → (n : ℕ) → Contains s.variables n → u n ≡ own n
    same_as u point = only.only u own point is_point

    best : IsBest s own
    unfolding objective
    best = record {
      meets = is_point.rows;
      within = is_point.bounds;
      best = λ u meets within.
          ≤ℚ_of_same (objective s u) (objective s own)
          (sum_by-members (λ j. s.price j *ℚ u j) (λ j. s.price j *ℚ own j) s.columns
          (λ j k. ap (λ (t : Fraction). s.price j *ℚ t) (same_as u (record { rows = meets; bounds = within }) j ((law_of_the_system m x c market).column j k))));
    }

    ordered : (n : ℕ) → Contains (price_order m) n → Contains s.variables n
    ordered n k =
        let v = Contains-from_map (name m) (prices m) n (from_reverse (map (name m) (prices m)) n k) in
        subst (Contains s.variables) v.2 (variable_in m x c market v.0 (variable_is m v.0 (Contains-append_left (prices m) (worths m) v.0 v.1)))

    first_best : IsFirstBest s (price_order m) own
    first_best = record { best = best; first = first }
      where
        first : (u : ℕ → Fraction) → IsBest s u → ¬ (GoesBefore (price_order m) u own)
        first u is before =
            let n : ℕ = slice_index (price_order m) before.place in
            <ℚ_irrefl (own n) (subst (λ t. own n <ℚ t) (same_as u (record { rows = is.meets; bounds = is.within }) n (ordered n (Contains-at (price_order m) before.place before.within))) before.more)

    pub only_are_first : AreFirstDuals m x d
    only_are_first =
        let back : duals_of m own ≡ d = (law_of_duals m x c d market proper holds keeps).back in
        let has = law_of_first_points m x d c own market proper holds (law_of_caps m x d c market holds caps) first_best in
        let first_has : HasFirstPrices m x d = subst (HasFirstPrices m x) back has in
        record {
          supported = holds;
          proper = proper;
          first = first_has.first;
          energy = least (record { may = holds; least = λ q may. ≤ℚ_of_same d.energy q (sym (one_energy m x d q only.block holds may only.marginal)) });
        }
