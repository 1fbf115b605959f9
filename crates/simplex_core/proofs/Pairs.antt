-- Refused operations as working pairs of a dictionary's own system.
use Rattle.std.specs.Prelude.{◌≡◌, ◌≢◌, ℕ, ◌<◌, pos, Bool, true, false, List, [], ◌∷◌, ◌==◌, Result, Ok, Err, IfErr, IfOk, length, slice_index, if◌then◌else◌, refl}
use Rattle.std.specs.List.{Contains}
use Rattle.std.proofs.Common.{arith, ap, ap₂, sym, ◌∙◌, subst, subst₂, inl, inr}
use Rattle.std.proofs.lemmas.List.{take_all}
use Rattle.exact_fraction.specs.declared.Op.{Op}
use Rattle.exact_fraction.specs.declared.Op.TheVariants.{Minus}
use Rattle.exact_fraction.specs.declared.Passed.{Passed}
use Rattle.exact_fraction.specs.Passes.{IsShareRefused, IsTooLarge, IsTooLargeAt, Passes, outcome}
use Rattle.fraction_theory.specs.Fraction.{Fraction, whole, ◌+ℚ◌, ◌-ℚ◌, ◌*ℚ◌, neg_ℚ, recip_ℚ}
use Rattle.fraction_theory.specs.Order.{◌<ℚ◌, ◌≤ℚ◌}
use Rattle.fraction_theory.specs.Signs.{sign_of, abs_by, abs_ℚ}
use Rattle.fraction_theory.specs.declared.Sign.{Sign}
use Rattle.fraction_theory.specs.declared.Sign.TheVariants.{Below, Zero, Above}
use Rattle.fraction_theory.specs.Sums.{prefix, total, Term}
use Rattle.fraction_theory.proofs.FieldLaws.{ring_ℚ, *ℚ-recip}
use Rattle.fraction_theory.proofs.OrderLaws.{<ℚ_irrefl}
use Rattle.fraction_theory.proofs.Ring.{at, by_ring, by_ring2, pmul, pneg, pnil, pone, ◌⊕◌}
use Rattle.fraction_theory.proofs.ListSums.{Contains-filter, Distinct, Distinct-increasing, put_at-here, sum_by-one}
use Rattle.linear_system.specs.Systems.{System, IsSystem, MeetsRows}
use Rattle.linear_system.specs.Choices.{Choice, IsChoice, OneExchange, at_bound, basics, column_entry, others, reduced, reduced_terms, value, value_terms}
use Rattle.linear_system.specs.Exchanges.{entering_entry, exchanged}
use Rattle.linear_system.specs.Numbers.{Kind, Factor, Quantity, Price, SystemNumber, is_zero, is_entry, is_low, is_high, is_value, is_price, is_reduced, is_opposite, IsFirst, SolvingNumber, is_number, is_fall, is_rise, is_turned}
use Rattle.linear_system.specs.Pairs.{IsCombined, OfEither, alone, difference, plain, subtracted, itself}
use Rattle.linear_system.proofs.ChoiceLaws.{at_unit, basics_are, column_entry-basic, column_entry-other, is_basic, is_other, objective_by_others, others_are, others_distinct, unit_meets, unit_point}
use Rattle.linear_system.proofs.ExchangeLaws.{exchanged_is, exchanged_once}
use Rattle.linear_system.proofs.PairLaws.{IsScaling}
use Rattle.linear_dict.specs.Causes.{PivotShare, solving, scaling, adding}
use Rattle.linear_dict.specs.Dictionaries.{Dictionary, IsDictionary, system_in, choice_of, entry_of, note_of, pivoted}
use Rattle.linear_dict.specs.Notes.{Noted}
use Rattle.linear_dict.specs.Places.{is_among, place_in}
use Rattle.linear_dict.specs.Tables.{cell, pivoted_cell, pivoted_row}
use Rattle.linear_dict.proofs.CauseLemmas.{written}
use Rattle.linear_dict.proofs.NameLemmas.{among-tells, entry_at, place_in-within}
use Rattle.linear_dict.proofs.PivotLemmas.{pivoted-solved, pivoted-column, pivoted-other, row-itself, row-other}
use Rattle.linear_dict.proofs.SplitLemmas.{Contains-at, basic_in, in_basics, in_others, other_in, system_is}
use Rattle.linear_dict.proofs.TableLemmas.{shows_table}
use Rattle.simplex_theory.specs.Steps.{Enters, IsStep, Leaves, violated_bound, displacement}
use Rattle.simplex_theory.proofs.Exchanges.{entering_basic, entering_other, leaving_other, other_after, other_not_leaving}
use Rattle.simplex_theory.proofs.PosedNumbers.{posed_reduced, posed_value, value_other}
use Rattle.simplex_core.specs.Fixed.{IsFixedPair, IsFixedSystemPair}
use Rattle.simplex_core.specs.States.{IsReady, state_of}
use Rattle.simplex_core.specs.Operations.{MoveShare, MovesShare, of_note, adding_rise, adding_price}
use Rattle.simplex_core.specs.Turns.{noted_anew, turned}
use Rattle.simplex_core.proofs.FixedLemmas.{fixed_after, fixed_own, fixed_share}
use Rattle.simplex_core.proofs.StepLemmas.{pivoted_columns, pivoted_rows}
use Rattle.simplex_core.proofs.TurnLaws.{turned_names, turned_ready, turned_step, turned_system}

-- a refused operation by the values of its sides
pub pair_by : {N : Type 0} (value : N → Fraction) (bound : ℕ) (d : Dictionary) (op : Op) (left right : N) (e : Passed N) (x y : Fraction)
    → IsTooLargeAt value bound op left right e → value left ≡ x → value right ≡ y → (IsTooLarge bound (outcome op x y) → Passes bound op x y → IsFixedSystemPair d bound op x y) → IsFixedPair value bound d e
pair_by value bound d op left right e x y h ex ey f =
    let p = h.passed in
    subst (λ (o : Op). IsFixedSystemPair d bound o (value e.left) (value e.right)) (sym p.same_op)
    (subst₂ (IsFixedSystemPair d bound op) (sym (ap value p.same_left ∙ ex)) (sym (ap value p.same_right ∙ ey))
    (f (subst (IsTooLarge bound) (ap₂ (outcome op) ex ey) h.too_large) (subst₂ (Passes bound op) ex ey p.passes)))

module _ (d : Dictionary) (h : IsDictionary d) (live : d.spent ≡ false) where
  s : System
  s = system_in d

  c : Choice
  c = choice_of d

  -- a refused sum of numbers of the choice in hand, which is one of its numbers itself
  lone_share : (kind : Kind) (x p q y : Fraction) → SystemNumber (system_in d) (choice_of d) kind x → IsScaling (OfEither (SystemNumber (system_in d)) (choice_of d) (choice_of d)) kind p q
      → SystemNumber (system_in d) (choice_of d) kind y → y ≡ x +ℚ p *ℚ q → (bound : ℕ) (op : Op) (left right : Fraction) → IsShareRefused bound x p q op left right
      → IsFixedSystemPair d bound op left right
  lone_share kind x p q y number product whole_sum is bound op left right refused =
      fixed_share d (choice_of d) (choice_of d) (fixed_own d h) (fixed_own d h) (h.solutions live) (h.solutions live) (inl refl) kind x p q (inl number) product
      (inl (is_number kind (x +ℚ p *ℚ q) (subst (SystemNumber (system_in d) (choice_of d) kind) is whole_sum))) bound op left right refused

  pub entry_number : (b w : ℕ) → Contains d.basics b → Contains d.others w → SystemNumber (system_in d) (choice_of d) Factor ((choice_of d).entry b w)
  entry_number b w m o = is_entry b w (basic_in d h b m) (other_in d h w o)

  named : (w : ℕ) → Contains d.names w → Contains s.variables w
  unfolding s system_in
  named w m = m

  column : (j : ℕ) → Contains d.columns j → Contains s.columns j
  unfolding s system_in
  column j m = Contains-filter (is_among d.columns) d.names j (h.put_in.second_named j m) (among-tells d.columns j m)

  pub bound_number : (w : ℕ) → Contains d.names w → SystemNumber (system_in d) (choice_of d) Quantity (at_bound (system_in d) (choice_of d) w)
  unfolding at_bound s
  bound_number w m = by ((choice_of d).high w)
    where
      by : (b : Bool) → SystemNumber (system_in d) (choice_of d) Quantity (if b then (system_in d).high w else (system_in d).low w)
      by true = is_high w (named w m)
      by false = is_low w (named w m)

  -- the price of a variable, 0 where it is a row
  price_number : ((w : ℕ) → Contains d.rows w → (system_in d).price w ≡ whole (pos 0)) → (j w : ℕ) → Contains d.names j → Contains d.others w → SystemNumber (system_in d) (choice_of d) Price ((system_in d).price j)
  unfolding s system_in
  price_number unpriced j w m o = elim (h.put_in.either j m) [
    | inl row ↦ subst (SystemNumber (system_in d) (choice_of d) Price) (sym (unpriced j row)) (is_reduced w 0 (other_in d h w o))
    | inr k ↦ is_price j (column j k)
  ]

  -- the first k terms of a reduced price with the next share, which are its first n terms
  pub price_share : ((w : ℕ) → Contains d.rows w → (system_in d).price w ≡ whole (pos 0)) → (k n j w : ℕ) (q : Fraction) → Contains d.names j → Contains d.others w → SystemNumber (system_in d) (choice_of d) Factor q
      → prefix n (reduced_terms (system_in d) (choice_of d) w) ≡ prefix k (reduced_terms (system_in d) (choice_of d) w) +ℚ (system_in d).price j *ℚ q
      → (bound : ℕ) (op : Op) (left right : Fraction) → IsShareRefused bound (prefix k (reduced_terms (system_in d) (choice_of d) w)) ((system_in d).price j) q op left right
      → IsFixedSystemPair d bound op left right
  price_share unpriced k n j w q m o factor is bound op left right refused =
      let other : Contains (others (system_in d) (choice_of d)) w = other_in d h w o in
      lone_share Price _ _ _ _ (is_reduced w k other) (inr (alone _ (inl (price_number unpriced j w m o)), inl factor)) (is_reduced w n other) is bound op left right refused

  -- the same of a value
  pub value_share : (k n b w : ℕ) → Contains d.basics b → Contains d.others w
      → prefix n (value_terms (system_in d) (choice_of d) b) ≡ prefix k (value_terms (system_in d) (choice_of d) b) +ℚ (choice_of d).entry b w *ℚ at_bound (system_in d) (choice_of d) w
      → (bound : ℕ) (op : Op) (left right : Fraction) → IsShareRefused bound (prefix k (value_terms (system_in d) (choice_of d) b)) ((choice_of d).entry b w) (at_bound (system_in d) (choice_of d) w) op left right
      → IsFixedSystemPair d bound op left right
  value_share k n b w m o is bound op left right refused =
      let basic : Contains (basics (system_in d) (choice_of d)) b = basic_in d h b m in
      lone_share Quantity _ _ _ _ (is_value b k basic) (inl (inl (entry_number b w m o), alone _ (inl (bound_number w (h.split.second_named w o))))) (is_value b n basic) is bound op left right refused

-- what holds of a refusal
pub if_err_as : {A E : Type 0} (P Q : E → Type 0) (r : Result A E) → ((e : E) → P e → Q e) → IfErr r P → IfErr r Q
if_err_as P Q (Ok a) f h = tt
if_err_as P Q (Err e) f h = f e h

pub if_ok_as : {A E : Type 0} (P Q : A → Type 0) (r : Result A E) → ((a : A) → P a → Q a) → IfOk r P → IfOk r Q
if_ok_as P Q (Ok a) f h = f a h
if_ok_as P Q (Err e) f h = tt

-- a moved note asks nothing of other notes
pub move_same : (e : Dictionary) (ns : List Noted) (v k : ℕ) (far price : Fraction) (w : ℕ) → note_of (record e { notes = ns }) w ≡ note_of e w
    → (x p q : Fraction) → MoveShare (record e { notes = ns }) v k far price w x p q → MoveShare e v k far price w x p q
unfolding entry_of
move_same e ns v k far price w same _ _ _ (adding_rise m) = subst (λ (n : Noted). MoveShare e v k far price w n.value (entry_of e w v) far) (sym same) (adding_rise m)
move_same e ns v k far price w same _ _ _ (adding_price m) = subst (λ (n : Noted). MoveShare e v k far price w n.reduced price (entry_of e k w)) (sym same) (adding_price m)

whole_prefix : (ts : List Term) → prefix (length ts) ts ≡ total ts
whole_prefix ts = ap total (take_all (length ts) ts (Prim.omega arith))

-- the size of a number is one
abs_number : (s : System) (c : Choice) (kind : Kind) (x : Fraction) → SystemNumber s c kind x → SystemNumber s c kind (abs_ℚ x)
unfolding abs_ℚ
abs_number s c kind x n = by (sign_of x)
  where
    by : (z : Sign) → SystemNumber s c kind (abs_by z x)
    by Below = is_opposite kind x n
    by Zero = n
    by Above = n

-- the inverse of the opposite of a number
recip_opposite : (x : Fraction) → x ≢ whole (pos 0) → recip_ℚ (neg_ℚ x) ≡ neg_ℚ (recip_ℚ x)
recip_opposite x n =
    let y : Fraction = neg_ℚ x in
    let ny : ¬ (y ≡ whole (pos 0)) = λ e. n (by_ring ring_ℚ (x ∷ []) (at 0) (pneg (pneg (at 0))) refl ∙ ap neg_ℚ e ∙ by_ring ring_ℚ [] (pneg pnil) pnil refl) in
    by_ring2 ring_ℚ (x ∷ recip_ℚ x ∷ recip_ℚ y ∷ []) (at 2) (pneg (at 1)) (at 2) pone (pmul (at 0) (at 1)) (pneg (at 1)) (pmul (pneg (at 0)) (at 2)) pone (sym (*ℚ-recip x n)) (*ℚ-recip y ny) refl

abs_nil : abs_ℚ (whole (pos 0)) ≡ whole (pos 0)
unfolding abs_ℚ whole sign_of
abs_nil = refl

-- the reduced price of an other variable is the sum of its terms
reduced_other : (s : System) (h : Choice) (w : ℕ) → Contains (others s h) w → reduced s h w ≡ total (reduced_terms s h w)
unfolding reduced
reduced_other s h w o = ap (λ (x : Bool). if x then whole (pos 0) else total (reduced_terms s h w)) (others_are s h w o).1

-- That of a variable that leaves is the one of the variable that enters, times that one's new entry.
leaving_price : (s : System) → IsSystem s → (h g : Choice) (v k : ℕ) → OneExchange s h g v k → IsChoice s h → IsChoice s g → reduced s g v ≡ reduced s h k *ℚ g.entry k v
unfolding unit_point
leaving_price s system h g v k once hh hg =
    let distinct : Distinct s.variables = Distinct-increasing s.variables system.ascending in
    let other : Contains (others s g) v = leaving_other s h g v k once in
    let meets : MeetsRows s (unit_point g v) = hg.to_rows (unit_point g v) (unit_meets s distinct g v other) in
    sym (at_unit s distinct g (reduced s g) v other)
    ∙ sym (objective_by_others s system g hg (unit_point g v) meets) ∙ objective_by_others s system h hh (unit_point g v) meets
    ∙ sum_by-one (λ o. reduced s h o *ℚ column_entry g o v) k (others s h) (others_distinct s h distinct) (entering_other s h g v k once)
    (λ o m n. ap (λ x. reduced s h o *ℚ x) (column_entry-other g o v (others_are s g o (other_after s h g v k once o m n)).1 (other_not_leaving s h g v k once o m))
    ∙ by_ring ring_ℚ (reduced s h o ∷ []) (pmul (at 0) pnil) pnil refl)
    ∙ ap (λ x. reduced s h k *ℚ x) (column_entry-basic g k v once.enters.1)

-- Numbers of a ready dictionary: its notes are those of its choice.
module _ (d : Dictionary) (ready : IsReady d) where
  value_number : (w : ℕ) → Contains d.names w → SystemNumber (system_in d) (choice_of d) Quantity (note_of d w).value
  unfolding state_of system_in value
  value_number w m =
      let s : System = system_in d in
      let h : Choice = choice_of d in
      let is : (note_of d w).value ≡ value s h w = posed_value s (state_of d) ready.posed w m in
      elim (ready.sound.split.either w m) [
        | inl b ↦ subst (SystemNumber s h Quantity)
            (whole_prefix (value_terms s h w) ∙ sym (ap (λ (x : Bool). if x then total (value_terms s h w) else at_bound s h w) (basics_are s h w (basic_in d ready.sound w b)).1) ∙ sym is)
            (is_value w (length (value_terms s h w)) (basic_in d ready.sound w b))
        | inr o ↦ subst (SystemNumber s h Quantity) (sym (is ∙ value_other s h w (other_in d ready.sound w o))) (bound_number d ready.sound ready.live w m)
      ]

  price_is : (w : ℕ) → Contains d.others w → (note_of d w).reduced ≡ reduced (system_in d) (choice_of d) w
  unfolding state_of system_in
  price_is w o = posed_reduced (system_in d) (state_of d) ready.posed w (ready.sound.split.second_named w o)

  pub reduced_number : (w : ℕ) → Contains d.others w → SystemNumber (system_in d) (choice_of d) Price (note_of d w).reduced
  reduced_number w o =
      let s : System = system_in d in
      let h : Choice = choice_of d in
      let other : Contains (others s h) w = other_in d ready.sound w o in
      subst (SystemNumber s h Price) (whole_prefix (reduced_terms s h w) ∙ sym (reduced_other s h w other) ∙ sym (price_is w o)) (is_reduced w (length (reduced_terms s h w)) other)

  nil_price : (b w : ℕ) → Contains d.basics b → Contains d.others w → SystemNumber (system_in d) (choice_of d) Price (note_of d b).reduced
  unfolding state_of
  nil_price b w m o = subst (SystemNumber (system_in d) (choice_of d) Price) (sym (ready.posed.unpriced b (basic_in d ready.sound b m))) (is_reduced w 0 (other_in d ready.sound w o))

  violated_number : (w : ℕ) (above : Bool) → Contains d.names w → SystemNumber (system_in d) (choice_of d) Quantity (violated_bound (system_in d) w above)
  unfolding violated_bound system_in
  violated_number w true m = is_high w m
  violated_number w false m = is_low w m

  -- the basic variables of lesser names than the leaving one keep their bounds
  pub first_leaving : (v : ℕ) (above : Bool) → Leaves (system_in d) (state_of d) v above → IsFirst (system_in d) (choice_of d) v
  unfolding state_of
  first_leaving v above leaves b basic below =
      let s : System = system_in d in
      let is : (note_of d b).value ≡ value s (choice_of d) b = posed_value s (state_of d) ready.posed b (basics_are s (choice_of d) b basic).0 in
      let inside = leaves.least b basic below in
      (subst (λ x. s.low b ≤ℚ x) is inside.low, subst (λ x. x ≤ℚ s.high b) is inside.high)

  -- how far the leaving variable goes
  displaced : (v : ℕ) (above : Bool) → Leaves (system_in d) (state_of d) v above → SolvingNumber (system_in d) (choice_of d) (violated_bound (system_in d) v above -ℚ (note_of d v).value)
  unfolding state_of violated_bound
  displaced v true leaves =
      let s : System = system_in d in
      let is : (note_of d v).value ≡ value s (choice_of d) v = posed_value s (state_of d) ready.posed v (basics_are s (choice_of d) v leaves.basic).0 in
      subst (λ x. SolvingNumber s (choice_of d) (s.high v -ℚ x)) (sym is) (is_fall v leaves.basic (subst (λ x. s.high v <ℚ x) is leaves.violates) (first_leaving v true leaves))
  displaced v false leaves =
      let s : System = system_in d in
      let is : (note_of d v).value ≡ value s (choice_of d) v = posed_value s (state_of d) ready.posed v (basics_are s (choice_of d) v leaves.basic).0 in
      let rise : neg_ℚ (value s (choice_of d) v -ℚ s.low v) ≡ s.low v -ℚ (note_of d v).value =
      by_ring ring_ℚ (value s (choice_of d) v ∷ s.low v ∷ []) (pneg (at 0 ⊕ pneg (at 1))) (at 1 ⊕ pneg (at 0)) refl ∙ ap (λ x. s.low v -ℚ x) (sym is) in
      subst (SolvingNumber s (choice_of d)) rise (is_turned _ (is_rise v leaves.basic (subst (λ x. x <ℚ s.low v) is leaves.violates) (first_leaving v false leaves)))

  -- its bound and its value
  pub displace_pair : (bound v : ℕ) (above : Bool) → Leaves (system_in d) (state_of d) v above → IsTooLarge bound (violated_bound (system_in d) v above -ℚ (note_of d v).value)
      → Passes bound Minus (violated_bound (system_in d) v above) (note_of d v).value → IsFixedSystemPair d bound Minus (violated_bound (system_in d) v above) (note_of d v).value
  unfolding state_of
  displace_pair bound v above leaves large passes =
      let named : Contains d.names v = ready.sound.split.first_named v (in_basics d ready.sound v leaves.basic) in record {
        pair = record {
          passes = passes;
          one = choice_of d;
          near = choice_of d;
          is_choice = ready.sound.solutions ready.live;
          near_is_choice = ready.sound.solutions ready.live;
          are_near = inl refl;
          sides = subtracted Quantity _ _ (plain _ (alone _ (inl (violated_number v above named)))) (plain _ (alone _ (inl (value_number v named))));
          large = record { number = violated_bound (system_in d) v above -ℚ (note_of d v).value; is_number = inl (displaced v above leaves); too_large = large; made = itself Minus _ _ };
        };
        one = fixed_own d ready.sound;
        near = fixed_own d ready.sound;
      }

  -- the ratio of a candidate: the inverse of its entry is that of the leaving variable once the two have changed places, and the ratio is,
  -- up to its sign, the reduced price of that one then
  pub ratio_pair : (bound v w : ℕ) (t : Fraction) → Contains d.basics v → Contains d.others w → (system_in d).low w <ℚ (system_in d).high w → whole (pos 0) <ℚ t → t ≡ abs_ℚ ((choice_of d).entry v w)
      → (op : Op) (left right : Fraction) → IsShareRefused bound (whole (pos 0)) (abs_ℚ (note_of d w).reduced) (recip_ℚ t) op left right → IsFixedSystemPair d bound op left right
  unfolding exchanged entering_entry abs_ℚ
  ratio_pair bound v w t basic other free above same op left right refused =
      let scaling : IsScaling (OfEither (SystemNumber s) h k) Price (abs_ℚ price) (recip_ℚ t) =
      inr (alone _ (inl (abs_number s h Price _ (reduced_number w other))), inr (subst (λ x. SystemNumber s k Factor (recip_ℚ x)) (sym same) (inverse_size (sign_of (h.entry v w))))) in
      let whole_sum : SystemNumber s k Price (whole (pos 0) +ℚ abs_ℚ price *ℚ recip_ℚ t) =
      subst (SystemNumber s k Price) (by_ring ring_ℚ (abs_ℚ price ∷ recip_ℚ t ∷ []) (pmul (at 0) (at 1)) (pnil ⊕ pmul (at 0) (at 1)) refl)
      (subst (λ x. SystemNumber s k Price (abs_ℚ price *ℚ recip_ℚ x)) (sym same) (ratio_size (sign_of price) _ (ratio (sign_of (h.entry v w))))) in
      fixed_share d h k (fixed_own d ready.sound) (fixed_after d ready.sound k v w once free) (ready.sound.solutions ready.live) near_choice (inr (v, w, once)) Price (whole (pos 0)) (abs_ℚ price) (recip_ℚ t)
      (inl (is_reduced w 0 entering)) scaling (written s h k Price _ (inr whole_sum)) bound op left right refused
    where
      s : System
      s = system_in d

      h : Choice
      h = choice_of d

      k : Choice
      k = exchanged h v w

      price : Fraction
      price = (note_of d w).reduced

      leaving : Contains (basics s h) v
      leaving = basic_in d ready.sound v basic

      entering : Contains (others s h) w
      entering = other_in d ready.sound w other

      once : OneExchange s h k v w
      once = exchanged_once s (system_is d ready.sound) h v w leaving entering

      entry_not_nil : h.entry v w ≢ whole (pos 0)
      entry_not_nil e = <ℚ_irrefl (whole (pos 0)) (subst (λ x. whole (pos 0) <ℚ x) (same ∙ ap abs_ℚ e ∙ abs_nil) above)

      near_choice : IsChoice s k
      near_choice = exchanged_is s (system_is d ready.sound) h v w (ready.sound.solutions ready.live) leaving entering entry_not_nil

      inverted : k.entry w v ≡ recip_ℚ (h.entry v w)
      inverted = put_at-here w (entering_entry h v w v) (λ x. (if v == v then whole (pos 0) else h.entry x v) +ℚ h.entry x w *ℚ entering_entry h v w v) w refl
          ∙ put_at-here v (recip_ℚ (h.entry v w)) (λ u. neg_ℚ (h.entry v u) *ℚ recip_ℚ (h.entry v w)) v refl

      left_other : Contains (others s k) v
      left_other = is_other s k v once.leaving once.leaves.1

      inverse : SystemNumber s k Factor (recip_ℚ (h.entry v w))
      inverse = subst (SystemNumber s k Factor) inverted (is_entry w v (is_basic s k w once.entering once.enters.1) left_other)

      inverse_size : (z : Sign) → SystemNumber s k Factor (recip_ℚ (abs_by z (h.entry v w)))
      inverse_size Below = subst (SystemNumber s k Factor) (sym (recip_opposite (h.entry v w) entry_not_nil)) (is_opposite Factor _ inverse)
      inverse_size Zero = inverse
      inverse_size Above = inverse

      moved : SystemNumber s k Price (price *ℚ recip_ℚ (h.entry v w))
      moved = subst (SystemNumber s k Price)
          (whole_prefix (reduced_terms s k v) ∙ sym (reduced_other s k v left_other)
          ∙ leaving_price s (system_is d ready.sound) h k v w once (ready.sound.solutions ready.live) near_choice
          ∙ ap₂ ◌*ℚ◌ (sym (price_is w other)) inverted)
          (is_reduced v (length (reduced_terms s k v)) left_other)

      ratio : (z : Sign) → SystemNumber s k Price (price *ℚ recip_ℚ (abs_by z (h.entry v w)))
      ratio Below = subst (SystemNumber s k Price)
          (by_ring ring_ℚ (price ∷ recip_ℚ (h.entry v w) ∷ []) (pneg (pmul (at 0) (at 1))) (pmul (at 0) (pneg (at 1))) refl ∙ ap (λ x. price *ℚ x) (sym (recip_opposite (h.entry v w) entry_not_nil)))
          (is_opposite Price _ moved)
      ratio Zero = moved
      ratio Above = moved

      ratio_size : (z : Sign) (y : Fraction) → SystemNumber s k Price (price *ℚ y) → SystemNumber s k Price (abs_by z price *ℚ y)
      ratio_size Below y n = subst (SystemNumber s k Price) (by_ring ring_ℚ (price ∷ y ∷ []) (pneg (pmul (at 0) (at 1))) (pmul (pneg (at 0)) (at 1)) refl) (is_opposite Price _ n)
      ratio_size Zero y n = n
      ratio_size Above y n = n

-- the notes that move, with the table after the exchange
module _ (d : Dictionary) (ready : IsReady d) (v k : ℕ) (above : Bool) (leaves : Leaves (system_in d) (state_of d) v above) (enters : Enters (system_in d) (state_of d) v above k) where
  e : Dictionary
  e = pivoted d (place_in d.basics v) (place_in d.others k)

  t : Dictionary
  t = turned d v k above

  t_ready : IsReady t
  unfolding t
  t_ready = turned_ready d ready v k above leaves enters

  step : IsStep (system_in d) (state_of d) (state_of t) v k above
  unfolding t
  step = turned_step d ready v k above leaves enters

  t_system : system_in t ≡ system_in d
  unfolding t
  t_system = turned_system d ready v k above leaves enters

  once : OneExchange (system_in d) (choice_of d) (choice_of t) v k
  unfolding state_of
  once = step.exchanged.exchange

  Number : Kind → Fraction → Type 0
  Number = OfEither (SystemNumber (system_in d)) (choice_of d) (choice_of t)

  near_number : (kind : Kind) (x : Fraction) → SystemNumber (system_in t) (choice_of t) kind x → Number kind x
  unfolding Number
  near_number kind x n = inr (subst (λ (s : System). SystemNumber s (choice_of t) kind x) t_system n)

  same_note : (w : ℕ) → note_of e w ≡ note_of d w
  unfolding e pivoted note_of
  same_note w = refl

  e_basic : (b : ℕ) → Contains e.basics b → Contains t.basics b
  unfolding e t turned noted_anew
  e_basic b m = m

  e_other : (w : ℕ) → Contains e.others w → Contains t.others w
  unfolding e t turned noted_anew
  e_other w m = m

  same_entry : (b w : ℕ) → (choice_of t).entry b w ≡ entry_of e b w
  unfolding e t turned noted_anew choice_of entry_of
  same_entry b w = refl

  t_named : (w : ℕ) → Contains t.names w → Contains d.names w
  unfolding t
  t_named w m = subst (λ (ns : List ℕ). Contains ns w) (turned_names d ready v k above leaves enters) m

  near_basic : (b : ℕ) → Contains t.basics b → Contains (basics (system_in d) (choice_of t)) b
  near_basic b m = subst (λ (s : System). Contains (basics s (choice_of t)) b) t_system (basic_in t t_ready.sound b m)

  near_other : (w : ℕ) → Contains t.others w → Contains (others (system_in d) (choice_of t)) w
  near_other w m = subst (λ (s : System). Contains (others s (choice_of t)) w) t_system (other_in t t_ready.sound w m)

  v_other : Contains t.others v
  v_other = in_others t t_ready.sound v (subst (λ (s : System). Contains (others s (choice_of t)) v) (sym t_system) (leaving_other (system_in d) (choice_of d) (choice_of t) v k once))

  k_basic : Contains t.basics k
  k_basic = in_basics t t_ready.sound k (subst (λ (s : System). Contains (basics s (choice_of t)) k) (sym t_system) (entering_basic (system_in d) (choice_of d) (choice_of t) v k once))

  near_entry : (b w : ℕ) → Contains t.basics b → Contains t.others w → Number Factor (entry_of e b w)
  near_entry b w m o = subst (Number Factor) (same_entry b w) (near_number Factor _ (entry_number t t_ready.sound t_ready.live b w m o))

  value_before : (w : ℕ) → Contains d.names w → Number Quantity (note_of e w).value
  unfolding Number
  value_before w m = inl (subst (λ (n : Noted). SystemNumber (system_in d) (choice_of d) Quantity n.value) (sym (same_note w)) (value_number d ready w m))

  k_in : Contains d.others k
  unfolding state_of
  k_in = in_others d ready.sound k enters.helps.other

  price_before : Number Price (note_of d k).reduced
  unfolding Number
  price_before = inl (reduced_number d ready k k_in)

  reduced_before : (w : ℕ) → Contains d.names w → Number Price (note_of e w).reduced
  unfolding Number
  reduced_before w m = inl (subst (λ (n : Noted). SystemNumber (system_in d) (choice_of d) Price n.reduced) (sym (same_note w)) (elim (ready.sound.split.either w m) [
    | inl b ↦ nil_price d ready w k b k_in
    | inr o ↦ reduced_number d ready w o
  ]))

  far : Fraction
  far = displacement (system_in d) (state_of d) v above

  far_number : IsCombined Number Quantity far
  unfolding far displacement Number state_of
  far_number =
      let named : Contains d.names v = ready.sound.split.first_named v (in_basics d ready.sound v leaves.basic) in
      difference _ _ (inl (violated_number d ready v above named)) (inl (value_number d ready v named))

  -- what a note becomes is the number of the choice after the exchange
  moved_value : (b : ℕ) → Contains t.basics b → (note_of t b).value ≡ (note_of e b).value +ℚ entry_of e b v *ℚ far
  unfolding state_of far
  moved_value b m = step.moved.basic b (near_basic b m)
      ∙ ap₂ (λ (n : Noted) (x : Fraction). n.value +ℚ x *ℚ displacement (system_in d) (state_of d) v above) (sym (same_note b)) (same_entry b v)

  moved_reduced : (w : ℕ) → Contains t.others w → (note_of t w).reduced ≡ (note_of e w).reduced +ℚ (note_of d k).reduced *ℚ entry_of e k w
  unfolding state_of
  moved_reduced w o = step.moved.priced w (near_other w o) ∙ ap₂ (λ (n : Noted) (x : Fraction). n.reduced +ℚ (note_of d k).reduced *ℚ x) (sym (same_note w)) (same_entry k w)

  note_numbers : (w : ℕ) (x p q : Fraction) → MoveShare e v k far (note_of d k).reduced w x p q → (kind : Kind) × Number kind x × IsScaling Number kind p q × Number kind (x +ℚ p *ℚ q)
  note_numbers b _ _ _ (adding_rise m) =
      let c : Contains t.basics b = e_basic b m in
      let n : Contains t.names b = t_ready.sound.split.first_named b c in
      (Quantity, value_before b (t_named b n), inl (near_entry b v c v_other, far_number), subst (Number Quantity) (moved_value b c) (near_number Quantity _ (value_number t t_ready b n)))
  note_numbers w _ _ _ (adding_price m) =
      let o : Contains t.others w = e_other w m in
      (Price, reduced_before w (t_named w (t_ready.sound.split.second_named w o)), inr (alone _ price_before, near_entry k w k_basic o), subst (Number Price) (moved_reduced w o) (near_number Price _ (reduced_number t t_ready w o)))

  move_numbers : (x p q : Fraction) → MovesShare e v k far (note_of d k).reduced x p q → (kind : Kind) × Number kind x × IsScaling Number kind p q × Number kind (x +ℚ p *ℚ q)
  move_numbers _ _ _ (of_note w x p q o) = note_numbers w x p q o

  pub move_pair : (bound : ℕ) (op : Op) (left right x p q : Fraction)
      → MovesShare (pivoted d (place_in d.basics v) (place_in d.others k)) v k (displacement (system_in d) (state_of d) v above) (note_of d k).reduced x p q
      → IsShareRefused bound x p q op left right → IsFixedSystemPair d bound op left right
  unfolding e t far Number state_of
  move_pair bound op left right x p q asked refused =
      let near : Choice = choice_of (turned d v k above) in
      let n = move_numbers x p q asked in
      fixed_share d (choice_of d) near (fixed_own d ready.sound) (fixed_after d ready.sound near v k once enters.helps.free)
      (ready.sound.solutions ready.live) step.exchanged.choice (inr (v, k, once)) n.0 x p q n.1 n.2
      (written (system_in d) (choice_of d) near n.0 _ n.3) bound op left right refused

  -- the same of the exchange itself: what it puts at two places of the table is an entry of the choice after it
  old_cell : ℕ → ℕ → Fraction
  old_cell = cell (length d.others) d.table

  leaving_row : ℕ
  leaving_row = place_in d.basics v

  entering_column : ℕ
  entering_column = place_in d.others k

  row_within : leaving_row < length d.basics
  unfolding leaving_row state_of
  row_within = (place_in-within d.basics v (in_basics d ready.sound v leaves.basic)).0

  column_within : entering_column < length d.others
  unfolding entering_column
  column_within = (place_in-within d.others k k_in).0

  t_rows : length t.basics ≡ length d.basics
  unfolding t turned noted_anew
  t_rows = pivoted_rows d (place_in d.basics v) (place_in d.others k)

  t_columns : length t.others ≡ length d.others
  unfolding t turned noted_anew
  t_columns = pivoted_columns d (place_in d.basics v) (place_in d.others k)

  t_cell : (i j : ℕ) → i < length d.basics → j < length d.others → cell (length d.others) t.table i j ≡ pivoted_cell old_cell leaving_row entering_column i j
  unfolding t turned noted_anew pivoted old_cell leaving_row entering_column
  t_cell i j hi hj = (shows_table (length d.basics) (length d.others) (pivoted_cell (cell (length d.others) d.table) (place_in d.basics v) (place_in d.others k))).at i j hi hj

  cell_before : (i j : ℕ) → i < length d.basics → j < length d.others → Number Factor (old_cell i j)
  unfolding old_cell Number choice_of
  cell_before i j hi hj = inl (subst (SystemNumber (system_in d) (choice_of d) Factor) (sym (entry_at d ready.sound i j hi hj))
      (entry_number d ready.sound ready.live (slice_index d.basics i) (slice_index d.others j) (Contains-at d.basics i hi) (Contains-at d.others j hj)))

  cell_after : (i j : ℕ) → i < length d.basics → j < length d.others → Number Factor (pivoted_cell old_cell leaving_row entering_column i j)
  unfolding choice_of
  cell_after i j hi hj =
      let ti : i < length t.basics = Prim.omega (arith, hi, t_rows) in
      let tj : j < length t.others = Prim.omega (arith, hj, t_columns) in
      subst (Number Factor) (sym (entry_at t t_ready.sound i j ti tj) ∙ ap (λ (n : ℕ). cell n t.table i j) t_columns ∙ t_cell i j hi hj)
      (near_number Factor _ (entry_number t t_ready.sound t_ready.live (slice_index t.basics i) (slice_index t.others j) (Contains-at t.basics i ti) (Contains-at t.others j tj)))

  row_after : (j : ℕ) → j < length d.others → Number Factor (pivoted_row old_cell leaving_row entering_column j)
  row_after j hj = subst (Number Factor) (pivoted-solved old_cell leaving_row entering_column leaving_row j refl) (cell_after leaving_row j row_within hj)

  zero_before : Number Factor (whole (pos 0))
  unfolding Number
  zero_before = inl is_zero

  opposite : (x : Fraction) → Number Factor x → Number Factor (neg_ℚ x)
  unfolding Number
  opposite x (inl n) = inl (is_opposite Factor x n)
  opposite x (inr n) = inr (is_opposite Factor x n)

  pivot_numbers : (x p q : Fraction) → PivotShare (length d.basics) (length d.others) old_cell leaving_row entering_column x p q
      → Number Factor x × IsScaling Number Factor p q × Number Factor (x +ℚ p *ℚ q)
  pivot_numbers _ _ _ (solving j hj n) = (
    zero_before,
    inl (opposite _ (cell_before leaving_row j row_within hj), alone _ (subst (Number Factor) (row-itself old_cell leaving_row entering_column entering_column refl) (row_after entering_column column_within))),
    subst (Number Factor)
        (row-other old_cell leaving_row entering_column j n
        ∙ by_ring ring_ℚ ((neg_ℚ (old_cell leaving_row j) *ℚ recip_ℚ (old_cell leaving_row entering_column)) ∷ []) (at 0) (pnil ⊕ at 0) refl) (row_after j hj),
  )
  pivot_numbers _ _ _ (scaling i hi n) = (
    zero_before,
    inl (cell_before i entering_column hi column_within, alone _ (row_after entering_column column_within)),
    subst (Number Factor)
        (pivoted-column old_cell leaving_row entering_column i entering_column n refl
        ∙ ap (λ x. old_cell i entering_column *ℚ x) (sym (row-itself old_cell leaving_row entering_column entering_column refl))
        ∙ by_ring ring_ℚ (old_cell i entering_column ∷ pivoted_row old_cell leaving_row entering_column entering_column ∷ []) (pmul (at 0) (at 1)) (pnil ⊕ pmul (at 0) (at 1)) refl)
        (cell_after i entering_column hi column_within),
  )
  pivot_numbers _ _ _ (adding i j hi n hj m) = (
    cell_before i j hi hj,
    inl (cell_before i entering_column hi column_within, alone _ (row_after j hj)),
    subst (Number Factor) (pivoted-other old_cell leaving_row entering_column i j n m) (cell_after i j hi hj),
  )

  pub turn_pair : (bound : ℕ) (op : Op) (left right x p q : Fraction)
      → PivotShare (length d.basics) (length d.others) (cell (length d.others) d.table) (place_in d.basics v) (place_in d.others k) x p q
      → IsShareRefused bound x p q op left right → IsFixedSystemPair d bound op left right
  unfolding old_cell leaving_row entering_column t Number state_of
  turn_pair bound op left right x p q asked refused =
      let near : Choice = choice_of (turned d v k above) in
      let n = pivot_numbers x p q asked in
      fixed_share d (choice_of d) near (fixed_own d ready.sound) (fixed_after d ready.sound near v k once enters.helps.free)
      (ready.sound.solutions ready.live) step.exchanged.choice (inr (v, k, once)) Factor x p q n.0 n.1
      (written (system_in d) (choice_of d) near Factor (x +ℚ p *ℚ q) n.2) bound op left right refused
