-- A choice of the system of a market of energy alone, without limit rows, has one basic variable, and its entries are 1 or -1.
use Rattle.std.specs.Prelude.{◌≡◌, ◌≢◌, ℕ, ◌<◌, ◌==◌, pos, neg_ℤ, Bool, true, false, [], ◌∷◌, ◌⊎◌, length, if◌then◌else◌, refl}
use Rattle.std.specs.List.{Contains}
use Rattle.std.proofs.Common.{zero, suc, arith, ap, sym, ◌∙◌, subst, inl, inr}
use Rattle.std.proofs.lemmas.Bool.Decides.{eqb_tells}
use Rattle.std.proofs.lemmas.Int.{ints}
use Rattle.fraction_theory.specs.Fraction.{Fraction, whole, neg_ℚ, recip_ℚ, ◌+ℚ◌, ◌*ℚ◌}
use Rattle.fraction_theory.specs.Sums.{total}
use Rattle.fraction_theory.proofs.Ring.{by_ring, at, pnil, ◌⊗◌}
use Rattle.fraction_theory.proofs.FieldLaws.{ring_ℚ, recip_unique}
use Rattle.fraction_theory.proofs.SumLaws.{sum_by-nil}
use Rattle.fraction_theory.proofs.ListSums.{Distinct, Distinct-increasing, same_or_not, sum_by-members}
use Rattle.linear_system.specs.Systems.{System}
use Rattle.linear_system.specs.Choices.{Choice, basics, others, IsChoice, column_entry, reduced, reduced_terms}
use Rattle.linear_system.specs.Exchanges.{exchanged, entering_entry}
use Rattle.linear_system.proofs.ChoiceLaws.{others_are, is_other, basics_are, is_basic, column_entry-basic, column_entry-itself, column_entry-other, unit_point, unit_meets, entries_are_one}
use Rattle.market_model.specs.declared.participants.Side.{Side}
use Rattle.market_model.specs.declared.participants.Side.TheVariants.{Sell, Buy}
use Rattle.market_model.specs.declared.participants.Parts.{Parts}
use Rattle.market_model.specs.Dispatch.{block_at, signed_by_side}
use Rattle.market_model.specs.Optimality.{price}
use Rattle.market_model.specs.Reserves.{no_reserve}
use Rattle.market_system.specs.MarketSystem.{balance_name, block_sign, system_of}
use Rattle.market_system.proofs.SystemLaws.{nothing, variable_in, variable_below, block_or_balance, is_system, balance_is, not_balance, balance_choice, balance_choice_is, block_is_other, block_choice, block_choice_is, block_is_basic, the_block_is_basic}
use Rattle.market_system.proofs.BlockChoices.{energy_is}
use Rattle.market_system.proofs.ModestNumbers.{IsWholeWithin, whole_within, nil_within, neg_within, times_within}

by_bool : {P : Type 0} (b : Bool) → (b ≡ true → P) → (b ≡ false → P) → P
by_bool true p q = p refl
by_bool false p q = q refl

not_both : (b : Bool) → b ≡ true → b ≡ false → ⊥
not_both b p q = let wrong : true ≡ false = sym p ∙ q in absurd cc

-- the first place that passes a test, or none does
find : (f : ℕ → Bool) (n : ℕ) → ((p : ℕ) × (p < n) × (f p ≡ true)) ⊎ ((j : ℕ) → j < n → f j ≡ false)
find f zero = inr (λ j h. absurd (Prim.omega (arith, h)))
find f (suc n) = by_bool (f n) (λ e. inl (n, Prim.omega arith, e)) (λ e. more (find f n) e)
  where
    more : ((p : ℕ) × (p < n) × (f p ≡ true)) ⊎ ((j : ℕ) → j < n → f j ≡ false) → f n ≡ false → ((p : ℕ) × (p < suc n) × (f p ≡ true)) ⊎ ((j : ℕ) → j < suc n → f j ≡ false)
    more (inl (p, lt, e)) last = inl (p, Prim.omega (arith, lt), e)
    more (inr none) last = inr (λ j h. elim (same_or_not j n) [ inl e ↦ ap f e ∙ last | inr d ↦ none j (Prim.omega (arith, h, d)) ])

one_not_nil : whole (pos 1) ≢ whole (pos 0)
unfolding whole
one_not_nil e = let wrong : pos 1 ≡ pos 0 = ap (λ (f : Fraction). f.num) e in Prim.omega (arith, ints, wrong)

-- The basic variables of a choice are not all among those of another one that has more.
no_smaller : (s : System) → Distinct s.variables → (h k : Choice) → IsChoice s h → IsChoice s k → (o : ℕ) → Contains (others s k) o → h.basic o ≡ true
    → ((b : ℕ) → Contains (basics s k) b → h.basic b ≡ true) → ⊥
unfolding unit_point
no_smaller s distinct h k hh kk o c e more =
    one_not_nil
    (sym (column_entry-itself k o (others_are s k o c).1)
    ∙ (hh.to_table (unit_point k o) (kk.to_rows (unit_point k o) (unit_meets s distinct k o c))).basic o (is_basic s h o (others_are s k o c).0 e)
    ∙ sum_by-members (λ w. h.entry o w *ℚ column_entry k w o) (λ w. whole (pos 0)) (others s h) vanishes
    ∙ sum_by-nil (others s h))
  where
    vanishes : (w : ℕ) → Contains (others s h) w → h.entry o w *ℚ column_entry k w o ≡ whole (pos 0)
    vanishes w d =
        let r = others_are s h w d in
        let other : k.basic w ≡ false = by_bool (k.basic w) (λ b. absurd (not_both (h.basic w) (more w (is_basic s k w r.0 b)) r.1)) (λ b. b) in
        let apart : w ≢ o = λ same. not_both (h.basic o) e (ap h.basic (sym same) ∙ r.1) in
        ap (λ t. h.entry o w *ℚ t) (column_entry-other k w o other apart) ∙ by_ring ring_ℚ (h.entry o w ∷ []) (at 0 ⊗ pnil) pnil refl

-- the sign of a side, and 1 over it
sign_within : (side : Side) → IsWholeWithin 1 (signed_by_side side (whole (pos 1)))
sign_within Sell = whole_within 1 (pos 1) (Prim.omega arith)
sign_within Buy = neg_within 1 (whole (pos 1)) (whole_within 1 (pos 1) (Prim.omega arith))

recip_one : (side : Side) → signed_by_side side (whole (pos 1)) ≡ recip_ℚ (signed_by_side side (whole (pos 1)))
unfolding whole neg_ℚ
recip_one Sell = recip_unique (whole (pos 1)) (whole (pos 1)) one_not_nil refl
recip_one Buy = recip_unique (neg_ℚ (whole (pos 1))) (neg_ℚ (whole (pos 1))) (λ e. let wrong : neg_ℤ (pos 1) ≡ pos 0 = ap (λ (f : Fraction). f.num) e in Prim.omega (arith, ints, wrong)) refl

pub block_sign_within : (m : Parts) (j : ℕ) → IsWholeWithin 1 (block_sign m j)
block_sign_within m j = sign_within (block_at m j).side

recip_sign_within : (m : Parts) (j : ℕ) → IsWholeWithin 1 (recip_ℚ (block_sign m j))
recip_sign_within m j = subst (IsWholeWithin 1) (recip_one (block_at m j).side) (block_sign_within m j)

-- the entries of the block that is basic in place of the balance
block_entry_within : (m : Parts) (energy : m.reserve ≡ no_reserve) (high : ℕ → Bool) (p : ℕ) (inside : p < length m.blocks) (w : ℕ) → IsWholeWithin 1 ((block_choice m energy high p inside).entry p w)
unfolding exchanged entering_entry
block_entry_within m energy high p inside w = at_test (p == p) (elim (eqb_tells p p) [ inl t ↦ t.0 | inr t ↦ absurd (t.1 refl) ]) (w == balance_name m)
  where
    at_test : (b : Bool) → b ≡ true → (c : Bool)
        → IsWholeWithin 1 (if b then (if c then recip_ℚ (block_sign m p) else neg_ℚ (block_sign m w) *ℚ recip_ℚ (block_sign m p))
        else (if c then whole (pos 0) else block_sign m w) +ℚ block_sign m p *ℚ (if c then recip_ℚ (block_sign m p) else neg_ℚ (block_sign m w) *ℚ recip_ℚ (block_sign m p)))
    at_test true e true = recip_sign_within m p
    at_test true e false = times_within 1 1 (neg_ℚ (block_sign m w)) (recip_ℚ (block_sign m p)) (neg_within 1 (block_sign m w) (block_sign_within m w)) (recip_sign_within m p)
    at_test false e c = let wrong : false ≡ true = e in absurd cc

module _ (m : Parts) (energy : m.reserve ≡ no_reserve) (h : Choice) (is : IsChoice (system_of m nothing) h) where
  abbrev s : System
  s = system_of m nothing

  distinct : Distinct s.variables
  distinct = Distinct-increasing s.variables (is_system m).ascending

  -- the balance alone is basic, or one block
  data IsSplit : Type 0 where
    by_balance : ((w : ℕ) → Contains s.variables w → h.basic w ≡ (balance_choice m h.high).basic w) → h.basic (balance_name m) ≡ true → IsSplit
    by_block : (p : ℕ) (inside : p < length m.blocks) → ((w : ℕ) → Contains s.variables w → h.basic w ≡ (block_choice m energy h.high p inside).basic w) → h.basic (balance_name m) ≡ false → IsSplit

  balance_alone : h.basic (balance_name m) ≡ true → IsSplit
  balance_alone e = by_balance same e
    where
      same : (w : ℕ) → Contains s.variables w → h.basic w ≡ (w == balance_name m)
      same w c = elim (block_or_balance m w (variable_below m energy w c)) [
        | inr at_balance ↦ ap h.basic at_balance ∙ e ∙ sym (balance_is m w at_balance)
        | inl lt ↦ by_bool (h.basic w)
            (λ b. absurd (no_smaller s distinct h (balance_choice m h.high) is (balance_choice_is m energy h.high) w (block_is_other m energy h.high w lt) b (λ x k. ap h.basic (only_balance x k) ∙ e)))
            (λ b. b ∙ sym (not_balance m w lt))
      ]
        where
          only_balance : (x : ℕ) → Contains (basics s (balance_choice m h.high)) x → x ≡ balance_name m
          only_balance x k = let r = basics_are s (balance_choice m h.high) x k in
              elim (block_or_balance m x (variable_below m energy x r.0)) [ inr q ↦ q | inl lt ↦ absurd (not_both (x == balance_name m) r.1 (not_balance m x lt)) ]

  block_alone : (p : ℕ) (inside : p < length m.blocks) → h.basic p ≡ true → h.basic (balance_name m) ≡ false → IsSplit
  block_alone p inside e rest = by_block p inside same rest
    where
      same : (w : ℕ) → Contains s.variables w → h.basic w ≡ (block_choice m energy h.high p inside).basic w
      same w c = elim (same_or_not w p) [
        | inl at_p ↦ ap h.basic at_p ∙ e ∙ sym (ap (block_choice m energy h.high p inside).basic at_p ∙ block_is_basic m energy h.high p inside)
        | inr apart ↦
            let other : (block_choice m energy h.high p inside).basic w ≡ false = by_bool ((block_choice m energy h.high p inside).basic w) (λ b. absurd (apart (the_block_is_basic m energy h.high p inside w (is_basic s (block_choice m energy h.high p inside) w c b)))) (λ b. b) in
            by_bool (h.basic w)
            (λ b. absurd (no_smaller s distinct h (block_choice m energy h.high p inside) is (block_choice_is m energy h.high p inside) w (is_other s (block_choice m energy h.high p inside) w c other) b (λ x d. ap h.basic (the_block_is_basic m energy h.high p inside x d) ∙ e)))
            (λ b. b ∙ sym other)
      ]

  split : IsSplit
  split = by_bool (h.basic (balance_name m)) balance_alone (λ rest. elim (find h.basic (length m.blocks)) [
    | inl found ↦ block_alone found.0 found.1 found.2 rest
    | inr none ↦ absurd
        (no_smaller s distinct (balance_choice m h.high) h (balance_choice_is m energy h.high) is (balance_name m) (is_other s h (balance_name m) (variable_in m energy (balance_name m) (Prim.omega arith)) rest) (balance_is m (balance_name m) refl)
        (λ b c. let r = basics_are s h b c in elim (block_or_balance m b (variable_below m energy b r.0)) [
          | inl lt ↦ absurd (not_both (h.basic b) r.1 (none b lt))
          | inr q ↦ absurd (not_both (h.basic b) r.1 (ap h.basic q ∙ rest))
        ]))
  ])

  pub entry_within : (b w : ℕ) → Contains (basics s h) b → Contains (others s h) w → IsWholeWithin 1 (h.entry b w)
  entry_within b w cb cw = at_split split
    where
      at_split : IsSplit → IsWholeWithin 1 (h.entry b w)
      at_split (by_balance same e) = subst (IsWholeWithin 1) (sym (entries_are_one s distinct h (balance_choice m h.high) is (balance_choice_is m energy h.high) same b w cb cw)) (block_sign_within m w)
      at_split (by_block p inside same e) =
          let r = basics_are s h b cb in
          let at_p : b ≡ p = the_block_is_basic m energy h.high p inside b (is_basic s (block_choice m energy h.high p inside) b r.0 (sym (same b r.0) ∙ r.1)) in
          subst (IsWholeWithin 1) (sym (entries_are_one s distinct h (block_choice m energy h.high p inside) is (block_choice_is m energy h.high p inside) same b w cb cw))
          (subst (λ (x : ℕ). IsWholeWithin 1 ((block_choice m energy h.high p inside).entry x w)) (sym at_p) (block_entry_within m energy h.high p inside w))

  pub column_within : (j w : ℕ) → Contains s.variables j → Contains (others s h) w → IsWholeWithin 1 (column_entry h j w)
  column_within j w c cw = by_bool (h.basic j)
      (λ b. subst (IsWholeWithin 1) (sym (column_entry-basic h j w b)) (entry_within j w (is_basic s h j c b) cw))
      (λ b. elim (same_or_not j w) [
        | inl e ↦ subst (λ (x : ℕ). IsWholeWithin 1 (column_entry h x w)) (sym e) (subst (IsWholeWithin 1) (sym (column_entry-itself h w (others_are s h w cw).1)) (whole_within 1 (pos 1) (Prim.omega arith)))
        | inr d ↦ subst (IsWholeWithin 1) (sym (column_entry-other h j w b d)) (nil_within 1)
      ])

  -- the price of energy is 0 or that of a block
  pub energy_within : (bound : ℕ) → ((j : ℕ) → j < length m.blocks → IsWholeWithin bound (price m j)) → IsWholeWithin bound (neg_ℚ (reduced s h (balance_name m)))
  unfolding reduced
  energy_within bound prices = at_split split
    where
      at_split : IsSplit → IsWholeWithin bound (neg_ℚ (reduced s h (balance_name m)))
      at_split (by_balance same e) = subst (IsWholeWithin bound)
          (sym (ap (λ (b : Bool). neg_ℚ (if b then whole (pos 0) else total (reduced_terms s h (balance_name m)))) e))
          (neg_within bound (whole (pos 0)) (nil_within bound))
      at_split (by_block p inside same e) = subst (IsWholeWithin bound)
          (sym (energy_is m energy p inside h is (λ b c. let r = basics_are s h b c in the_block_is_basic m energy h.high p inside b (is_basic s (block_choice m energy h.high p inside) b r.0 (sym (same b r.0) ∙ r.1))) e)) (prices p inside)
