-- What is added up of the offers of reserve is what the need's row would be with all of them accepted whole. So where that sum is refused, the
-- operation is a working pair of the market's system: at the choice whose rows are basic and whose columns stand at their high bounds.
use Rattle.std.specs.Prelude.{◌≡◌, ℕ, ◌+◌, ◌<◌, Bool, true, false, not, List, [], ◌∷◌, ◌++◌, length, map, Contains, refl, ◌⊎◌}
use Rattle.std.specs.List.Sorted.{IsStrictlyIncreasing}
use Rattle.std.proofs.Common.{zero as none, suc, arith, ap, ap₂, sym, ◌∙◌, subst, inl, inr}
use Rattle.std.proofs.lemmas.List.{map-append, length-map}
use Rattle.std.proofs.lemmas.List.Elements.{Contains-append_cases}
use Rattle.std.proofs.lemmas.List.FromFn.{length-range_with_len, get_or-map-range_with_len}
use Rattle.std.proofs.lemmas.List.Kept.{AllPairs-from_increasing, AllPairs-filter}
use Rattle.fraction_theory.specs.Fraction.{Fraction, neg_ℚ, unsigned_abs-neg, ◌+ℚ◌, ◌*ℚ◌}
use Rattle.fraction_theory.specs.Sums.{Term, Plain, Product, prefix, sum_by, term_value, total}
use Rattle.fraction_theory.proofs.FieldLaws.{ring_ℚ}
use Rattle.fraction_theory.proofs.ListSums.{Contains-head, Contains-cons}
use Rattle.fraction_theory.proofs.Ring.{by_ring, at, pnil, pone, ◌⊕◌, ◌⊗◌}
use Rattle.exact_fraction.specs.declared.Op.{Op}
use Rattle.exact_fraction.specs.declared.Op.TheVariants.{Plus, Minus, Times}
use Rattle.exact_fraction.specs.declared.Passed.{Passed}
use Rattle.exact_fraction.specs.Passes.{IsTooLarge, Passes, outcome}
use Rattle.linear_dict.specs.Places.{is_among}
use Rattle.linear_dict.proofs.NameLemmas.{among-tells, among-from}
use Rattle.linear_system.specs.Choices.{Choice, IsChoice, at_bound, basics, others, value_terms}
use Rattle.linear_system.specs.Numbers.{Quantity, SystemNumber, is_high, is_number, is_opposite, is_value}
use Rattle.linear_system.specs.Pairs.{IsPairCase, IsSummand, IsSystemPair, OfEither, added, alone, itself, plain, subtracted}
use Rattle.linear_system.specs.Systems.{IsSystem, System, activity}
use Rattle.linear_system.proofs.ChoiceLaws.{basics_are, is_basic, is_other, others_are}
use Rattle.market_model.specs.declared.participants.Parts.{Parts}
use Rattle.market_model.specs.Dispatch.{reserve_quantity, zero as nil}
use Rattle.market_model.specs.Market.{IsMarket}
use Rattle.market_model.specs.NamedSums.{IsNextTerm, IsRefusedIn, IsSumStep, SameSize, term_at}
use Rattle.market_model.specs.Optimality.{Taken}
use Rattle.market_model.specs.Reserves.{offer_places}
use Rattle.market_model.proofs.EnergyAlone.{no_offers}
use Rattle.market_model.proofs.ListSteps.{map-map}
use Rattle.market_model.proofs.RowMembers.{Contains-from_places}
use Rattle.market_system.specs.declared.variables.Variable.{Variable}
use Rattle.market_system.specs.declared.variables.Variable.TheVariants.{Block, Need, Offer, Over, Under}
use Rattle.market_system.specs.MarketSystem.{block_columns, columns, excess_columns, name, need_name, offer_columns, offer_name, system_over, offered_terms}
use Rattle.market_system.proofs.RowOrder.{AreInOrder, increasing-from_pairs}
use Rattle.market_system.proofs.VariableLaws as law
use Rattle.market_dict.proofs.NameLists.{ascending_same}

-- ---- first terms
-- of terms with others before them
prefix-behind : (xs ys : List Term) (j : ℕ) → prefix (length xs + j) (xs ++ ys) ≡ total xs +ℚ prefix j ys
prefix-behind [] ys j =
    let from_0 : 0 + j ≡ j = Prim.omega arith in
    ap (λ (n : ℕ). prefix n ys) from_0 ∙ by_ring ring_ℚ (prefix j ys ∷ []) (at 0) (pnil ⊕ at 0) refl
prefix-behind (x ∷ xs) ys j =
    let next : length (x ∷ xs) + j ≡ suc (length xs + j) = Prim.omega arith in
    ap (λ (n : ℕ). prefix n (x ∷ (xs ++ ys))) next ∙ ap (λ t. term_value x +ℚ t) (prefix-behind xs ys j)
    ∙ by_ring ring_ℚ (term_value x ∷ total xs ∷ prefix j ys ∷ []) (at 0 ⊕ (at 1 ⊕ at 2)) ((at 0 ⊕ at 1) ⊕ at 2) refl

-- of terms of the same values
prefix-same : (f g : ℕ → Term) (ns : List ℕ) (j : ℕ) → ((n : ℕ) → Contains ns n → term_value (f n) ≡ term_value (g n)) → prefix j (map f ns) ≡ prefix j (map g ns)
prefix-same f g ns none same = refl
prefix-same f g [] (suc j) same = refl
prefix-same f g (n ∷ ns) (suc j) same = ap₂ ◌+ℚ◌ (same n (Contains-head n ns)) (prefix-same f g ns j (λ k c. same k (Contains-cons n ns k c)))

total-nothing : {T : Type 0} (f : T → Term) (xs : List T) → ((x : T) → Contains xs x → term_value (f x) ≡ nil) → total (map f xs) ≡ nil
total-nothing f [] same = refl
total-nothing f (x ∷ xs) same = ap₂ ◌+ℚ◌ (same x (Contains-head x xs)) (total-nothing f xs (λ y c. same y (Contains-cons x xs y c))) ∙ by_ring ring_ℚ [] (pnil ⊕ pnil) pnil refl

-- ---- the terms of what is offered
offered_count : (m : Parts) → length (offered_terms m) ≡ length m.reserve.offers
offered_count m = length-map (offer_places m) (λ n. Plain (reserve_quantity m n)) ∙ length-range_with_len 0 (length m.reserve.offers)

offered_at : (m : Parts) (k : ℕ) → k < length m.reserve.offers → term_at (offered_terms m) k ≡ Plain (reserve_quantity m k)
offered_at m k lt = get_or-map-range_with_len (λ n. Plain (reserve_quantity m n)) 0 (length m.reserve.offers) k k (Plain nil) lt (Prim.omega arith)

-- a number is too large where its opposite is
large_same : (bound : ℕ) (x y : Fraction) → SameSize x y → IsTooLarge bound y → IsTooLarge bound x
unfolding neg_ℚ
large_same bound x y (inl e) h = subst (IsTooLarge bound) (sym e) h
large_same bound x y (inr e) h = subst (IsTooLarge bound) (sym e) (subst (λ (n : ℕ). (bound < n) ⊎ (bound < y.den)) (sym (unsigned_abs-neg y.num)) h)

-- ---- the choice whose rows are basic and whose columns stand at their high bounds
abbrev rows_basic : System → Choice
rows_basic s = record { basic = is_among s.rows; high = λ w. true; entry = s.coefficient }

not_true : (b : Bool) → ¬ (b ≡ true) → b ≡ false
not_true true n = absurd (n refl)
not_true false n = refl

module _ (s : System) (system : IsSystem s) where
  other_column : (w : ℕ) → Contains (others s (rows_basic s)) w → Contains s.columns w
  other_column w c =
      let k = others_are s (rows_basic s) w c in
      elim (system.either w k.0) [
        | inl l ↦ l
        | inr l ↦ let wrong : true ≡ false = sym (among-tells s.rows w l) ∙ k.1 in absurd Prim.cc
      ]

  column_other : (w : ℕ) → Contains s.columns w → Contains (others s (rows_basic s)) w
  column_other w c = is_other s (rows_basic s) w (system.column w c) (not_true (is_among s.rows w) (λ e. system.apart w c (among-from s.rows w e)))

  others_ascend : IsStrictlyIncreasing (others s (rows_basic s))
  unfolding others
  others_ascend =
      increasing-from_pairs (others s (rows_basic s)) (AllPairs-filter (λ (a b : ℕ). a < b) (λ w. not (is_among s.rows w)) s.variables (AllPairs-from_increasing s.variables system.ascending))

  others_columns : others s (rows_basic s) ≡ s.columns
  others_columns = ascending_same (others s (rows_basic s)) s.columns others_ascend system.columns_ascend other_column column_other

  row_basic : (r : ℕ) → Contains s.rows r → Contains (basics s (rows_basic s)) r
  row_basic r c = is_basic s (rows_basic s) r (system.row r c) (among-tells s.rows r c)

  is_choice : IsChoice s (rows_basic s)
  unfolding activity
  is_choice = record {
    to_table = λ v meets. record {
      basic = λ b c.
          meets.row b (among-from s.rows b (basics_are s (rows_basic s) b c).1) ∙ ap (λ (ws : List ℕ). sum_by (λ w. s.coefficient b w *ℚ v w) ws) (sym others_columns);
    };
    to_rows = λ v meets. record { row = λ r c. meets.basic r (row_basic r c) ∙ ap (λ (ws : List ℕ). sum_by (λ w. s.coefficient r w *ℚ v w) ws) others_columns };
  }

-- ---- the need's row at it
module _ (m : Parts) (t : Taken) (ordered : AreInOrder m t) (listed : m.reserve.listed ≡ true) where
  abbrev s : System
  s = system_over m t

  system : IsSystem s
  system = law.is_system_over m t ordered

  abbrev term_of : Variable → Term
  term_of v = Product (s.coefficient (need_name m) (name m v)) (s.high (name m v))

  abbrev before : List Variable
  before = block_columns m ++ excess_columns m t.limits

  terms_are : value_terms s (rows_basic s) (need_name m) ≡ map term_of before ++ map (λ n. term_of (Offer n)) (offer_places m)
  unfolding value_terms at_bound system_over
  terms_are =
      ap (map (λ w. Product (s.coefficient (need_name m) w) (s.high w))) (others_columns s system)
      ∙ map-map (name m) (λ w. Product (s.coefficient (need_name m) w) (s.high w)) (columns m t)
      ∙ map-append term_of before (offer_columns m) ∙ ap (λ (us : List Term). map term_of before ++ us) (map-map Offer term_of (offer_places m))

  -- blocks and columns of limits count nothing
  counts_nothing : (v : Variable) → Contains before v → s.coefficient (need_name m) (name m v) ≡ nil
  counts_nothing v c = elim (Contains-append_cases (block_columns m) (excess_columns m t.limits) v c) [
    | inl k ↦ law.by_block m t (λ (u : Variable). s.coefficient (need_name m) (name m u) ≡ nil) (λ j lt. law.coefficient-at m t ordered Need (Block j) listed lt) v k
    | inr k ↦ law.by_excess m t (λ (u : Variable). s.coefficient (need_name m) (name m u) ≡ nil)
        (λ r d e. (law.coefficient-at m t ordered Need (Over r) listed (d, e), law.coefficient-at m t ordered Need (Under r) listed (d, e))) v k
  ]

  nothing_before : total (map term_of before) ≡ nil
  nothing_before = total-nothing term_of before (λ v c. ap (λ x. x *ℚ s.high (name m v)) (counts_nothing v c) ∙ by_ring ring_ℚ (s.high (name m v) ∷ []) (pnil ⊗ at 0) pnil refl)

  -- an offer counts by as much as it has
  offer_counts : (n : ℕ) → Contains (offer_places m) n → term_value (term_of (Offer n)) ≡ reserve_quantity m n
  offer_counts n c =
      let lt = Contains-from_places (length m.reserve.offers) n c in
      ap₂ ◌*ℚ◌ (law.coefficient-at m t ordered Need (Offer n) listed lt) (law.high-at m t ordered (Offer n) lt) ∙ by_ring ring_ℚ (reserve_quantity m n ∷ []) (pone ⊗ at 0) (at 0) refl

  prefix_is : (j : ℕ) → prefix (length (map term_of before) + j) (value_terms s (rows_basic s) (need_name m)) ≡ prefix j (offered_terms m)
  prefix_is j =
      ap (prefix (length (map term_of before) + j)) terms_are
      ∙ prefix-behind (map term_of before) (map (λ n. term_of (Offer n)) (offer_places m)) j
      ∙ ap₂ ◌+ℚ◌ nothing_before (prefix-same (λ n. term_of (Offer n)) (λ n. Plain (reserve_quantity m n)) (offer_places m) j offer_counts)
      ∙ by_ring ring_ℚ (prefix j (offered_terms m) ∷ []) (pnil ⊕ at 0) (at 0) refl

  -- so the first of what is offered is a number of the system
  prefix_number : (j : ℕ) → SystemNumber s (rows_basic s) Quantity (prefix j (offered_terms m))
  prefix_number j =
      subst (SystemNumber s (rows_basic s) Quantity) (prefix_is j)
      (is_value (need_name m) (length (map term_of before) + j) (row_basic s system (need_name m) (law.row_listed m t Need (law.need_in m t listed))))

  quantity_number : (n : ℕ) → n < length m.reserve.offers → SystemNumber s (rows_basic s) Quantity (reserve_quantity m n)
  quantity_number n lt = subst (SystemNumber s (rows_basic s) Quantity) (law.high-at m t ordered (Offer n) lt) (is_high (offer_name m n) (law.variable_in m t (Offer n) lt))

  same_number : (x y : Fraction) → SameSize x y → SystemNumber s (rows_basic s) Quantity y → SystemNumber s (rows_basic s) Quantity x
  same_number x y (inl e) n = subst (SystemNumber s (rows_basic s) Quantity) (sym e) n
  same_number x y (inr e) n = subst (SystemNumber s (rows_basic s) Quantity) (sym e) (is_opposite Quantity y n)

  module _ (bound : ℕ) (p : Passed Fraction) (a : IsRefusedIn (offered_terms m) bound p) where
    abbrev Sides : Op → Type 0
    Sides o = IsPairCase (OfEither (SystemNumber s) (rows_basic s) (rows_basic s)) o p.left p.right

    abbrev Summand : Fraction → Type 0
    Summand x = IsSummand (OfEither (SystemNumber s) (rows_basic s) (rows_basic s)) Quantity x

    -- where the next offer is added, or its opposite subtracted
    next_pair : (o : Op) → p.op ≡ o → IsNextTerm (offered_terms m) o p.left p.right a.place → (Summand p.left → Summand p.right → Sides o) → IsSystemPair s bound p.op p.left p.right
    next_pair o e next sides =
        let lt : a.place < length m.reserve.offers = Prim.omega (arith, next.inside, offered_count m) in
        let term = ap term_value (offered_at m a.place lt) in
        let left = same_number p.left (prefix a.place (offered_terms m)) next.before (prefix_number a.place) in
        let right = same_number p.right (reserve_quantity m a.place) (subst (SameSize p.right) term next.next) (quantity_number a.place lt) in
        let whole_number = same_number (outcome o p.left p.right) (prefix (a.place + 1) (offered_terms m)) next.after (prefix_number (a.place + 1)) in
        subst (λ (q : Op). IsSystemPair s bound q p.left p.right) (sym e)
        (record {
          passes = subst (λ (q : Op). Passes bound q p.left p.right) e a.passes;
          one = rows_basic s;
          near = rows_basic s;
          is_choice = is_choice s system;
          near_is_choice = is_choice s system;
          are_near = inl refl;
          sides = sides (plain p.left (alone p.left (inl left))) (plain p.right (alone p.right (inl right)));
          large = record {
            number = outcome o p.left p.right;
            is_number = inl (is_number Quantity (outcome o p.left p.right) whole_number);
            too_large = large_same bound (outcome o p.left p.right) (prefix (a.place + 1) (offered_terms m)) next.after a.too_large;
            made = itself o p.left p.right;
          };
        })

    by_op : (o : Op) → p.op ≡ o → IsSumStep (offered_terms m) o p.left p.right a.place → IsSystemPair s bound p.op p.left p.right
    by_op Plus e next = next_pair Plus e next (λ l r. added Quantity p.left p.right l r)
    by_op Minus e next = next_pair Minus e next (λ l r. subtracted Quantity p.left p.right l r)
    by_op Times e (x, y, sides) =
        let lt : a.place < length m.reserve.offers = Prim.omega (arith, sides.inside, offered_count m) in
        let wrong : Plain (reserve_quantity m a.place) ≡ Product x y = sym (offered_at m a.place lt) ∙ sides.product in
        absurd Prim.cc

    pub offered_pair : IsSystemPair s bound p.op p.left p.right
    offered_pair = by_op p.op refl a.step

-- nothing is refused where no reserve is cleared
pub none_refused : (m : Parts) (bound : ℕ) (p : Passed Fraction) → IsMarket m → m.reserve.listed ≡ false → ¬ (IsRefusedIn (offered_terms m) bound p)
none_refused m bound p market unlisted a =
    let few : length m.reserve.offers ≡ 0 = ap length (no_offers m (market.reserve.unlisted unlisted)) in
    absurd (Prim.omega (arith, few, offered_count m, inside p.op a.step))
  where
    inside : (o : Op) → IsSumStep (offered_terms m) o p.left p.right a.place → a.place < length (offered_terms m)
    inside Plus next = next.inside
    inside Minus next = next.inside
    inside Times (x, y, sides) = sides.inside
