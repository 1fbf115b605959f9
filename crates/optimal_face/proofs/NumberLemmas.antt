-- The numbers of a face at a choice are numbers of the system, where each variable that is held is an other one at its bound.
use Rattle.std.specs.Prelude.{◌≡◌, ◌≢◌, ℕ, pos, Bool, true, false, if◌then◌else◌, List, [], ◌∷◌, ◌⊎◌, map, Option, Some, None, refl}
use Rattle.std.specs.List.{Contains}
use Rattle.std.specs.Option.{option_map_or}
use Rattle.std.proofs.Common.{zero, suc, ap, ap₂, sym, ◌∙◌, subst, subst₂, inl, inr}
use Rattle.exact_fraction.specs.declared.Op.{Op}
use Rattle.fraction_theory.specs.Fraction.{Fraction, whole, ◌+ℚ◌, ◌-ℚ◌, ◌*ℚ◌}
use Rattle.fraction_theory.specs.Order.{◌≤ℚ◌, ◌<ℚ◌}
use Rattle.fraction_theory.specs.Sums.{Term, Product, prefix, total}
use Rattle.fraction_theory.proofs.Ring.{nil_plus, nil_times, one_times}
use Rattle.fraction_theory.proofs.FieldLaws.{ring_ℚ}
use Rattle.fraction_theory.proofs.ListSums.{Contains-cons, Contains-head, Distinct, Distinct-head, Distinct-increasing, Distinct-tail, same_or_not}
use Rattle.linear_system.specs.Choices.{Choice, IsChoice, at_bound, basics, column_entry, others, reduced_terms, row_entry_terms, value, value_terms}
use Rattle.linear_system.specs.Numbers.{Kind, Factor, Quantity, Price, SystemNumber, is_zero, is_one, is_coefficient, is_entry, is_row_entry, is_low, is_high, is_value, is_price, is_reduced, is_opposite, IsFirst, SolvingNumber, is_number, is_fall, is_rise, is_turned}
use Rattle.linear_system.specs.Pairs.{AreNear, AtEither, IsCombined, alone, sum, difference, IsPairCase, added, subtracted, scaled_right, scaled_left, IsSummand, plain, scaled, OfEither}
use Rattle.linear_system.specs.Systems.{System, IsSystem}
use Rattle.linear_system.proofs.ChoiceLaws.{basics_are, column_entry-basic, column_entry-itself, column_entry-other, is_basic, others_are, same_choice}
use Rattle.linear_system.proofs.PairLaws.{IsForLarge-each}
use Rattle.linear_system.proofs.SameSystems.{same_rows_choice}
use Rattle.simplex_theory.proofs.Stretches.{by_answer, two_answers}
use Rattle.optimal_face.specs.Faces.{Held, bound_at, held_at, price_of_one}
use Rattle.optimal_face.specs.Laws.{KeepsHeld, LawOfThePairs}
use Rattle.optimal_face.proofs.HeldLemmas.{bounds_free, held_same_rows}
use Rattle.optimal_face.proofs.NextLemmas.{price_elsewhere, price_here}

-- the choice with each variable that is held at its bound
abbrev pub at_held : Held → Choice → Choice
at_held held h = record h { high = λ w. option_map_or (λ f. f) (held w) (h.high w) }

map_same : {X Y : Type 0} (f g : X → Y) (xs : List X) → ((x : X) → f x ≡ g x) → map f xs ≡ map g xs
map_same f g [] e = refl
map_same f g (x ∷ xs) e = ap₂ (λ y ys. y ∷ ys) (e x) (map_same f g xs e)

either_way : {X : Type 0} (b : Bool) (x : X) → (if b then x else x) ≡ x
either_way true x = refl
either_way false x = refl

-- the values of a choice, where variables are held
module _ (s : System) (held : Held) (price : ℕ → Fraction) (h : Choice) where
  pub bound_held : (w : ℕ) → at_bound (held_at s held price) h w ≡ at_bound s (at_held held h) w
  unfolding at_bound held_at bound_at
  bound_held w = by_hold (held w)
    where
      by_hold : (o : Option Bool) → (if h.high w then option_map_or (bound_at s w) o (s.high w) else option_map_or (bound_at s w) o (s.low w)) ≡ (if option_map_or (λ f. f) o (h.high w) then s.high w else s.low w)
      by_hold None = refl
      by_hold (Some f) = either_way (h.high w) (if f then s.high w else s.low w)

  value_terms_held : (b : ℕ) → value_terms (held_at s held price) h b ≡ value_terms s (at_held held h) b
  unfolding value_terms others held_at
  value_terms_held b =
      map_same (λ w. Product (h.entry b w) (at_bound (held_at s held price) h w)) (λ w. Product (h.entry b w) (at_bound s (at_held held h) w)) (others s h)
      (λ w. ap (Product (h.entry b w)) (bound_held w))

  pub value_held : (b : ℕ) → value (held_at s held price) h b ≡ value s (at_held held h) b
  unfolding value
  value_held b = ap₂ (λ x y. if h.basic b then x else y) (ap total (value_terms_held b)) (bound_held b)

  row_entry_terms_held : (r w : ℕ) → row_entry_terms (held_at s held price) h r w ≡ row_entry_terms s (at_held held h) r w
  unfolding row_entry_terms column_entry held_at
  row_entry_terms_held r w = refl

  pub choice_held : IsSystem s → IsChoice (held_at s held price) h → IsChoice s (at_held held h)
  choice_held system choice = same_choice s (Distinct-increasing s.variables system.ascending) h (at_held held h) (λ w c. refl) (λ b w c k. refl)
      (same_rows_choice (held_at s held price) s (held_same_rows s held price) h choice)

  -- a basic variable that is not held keeps its bounds
  basic_free : KeepsHeld s held h → (b : ℕ) → Contains (basics s h) b → ((held_at s held price).low b ≡ s.low b) × ((held_at s held price).high b ≡ s.high b)
  basic_free keeps b c = by_hold (held b) refl
    where
      by_hold : (o : Option Bool) → held b ≡ o → ((held_at s held price).low b ≡ s.low b) × ((held_at s held price).high b ≡ s.high b)
      by_hold None e = bounds_free s held price b e
      by_hold (Some high) e = let v = basics_are s h b c in two_answers (h.basic b) v.1 (keeps.others b high v.0 e)

  first_held : KeepsHeld s held h → (b : ℕ) → IsFirst (held_at s held price) h b → IsFirst s (at_held held h) b
  unfolding basics held_at
  first_held keeps b first c at below =
      let free = basic_free keeps c at in
      let is = first c at below in
      (subst₂ ◌≤ℚ◌ free.0 (value_held c) is.0, subst₂ ◌≤ℚ◌ (value_held c) free.1 is.1)

-- how much a column rises is a factor
column_factor : (s : System) (h : Choice) (j w : ℕ) → Contains s.variables j → Contains (others s h) w → SystemNumber s h Factor (column_entry h j w)
column_factor s h j w c o = by_answer (h.basic j)
    (λ b. subst (SystemNumber s h Factor) (sym (column_entry-basic h j w b)) (is_entry j w (is_basic s h j c b) o))
    (λ b. elim (same_or_not j w) [
      | inl e ↦ subst (SystemNumber s h Factor) (sym (ap (λ x. column_entry h x w) e ∙ column_entry-itself h w (others_are s h w o).1)) is_one
      | inr n ↦ subst (SystemNumber s h Factor) (sym (column_entry-other h j w b n)) is_zero
    ])

-- The first terms of a reduced price, where one column alone has a price of 1: they are 0, or what that column rises by.
module _ (j : ℕ) (f : ℕ → Fraction) where
  priced_terms : List ℕ → List Term
  priced_terms xs = map (λ i. Product (price_of_one j i) (f i)) xs

  other_term : (x : ℕ) → x ≢ j → price_of_one j x *ℚ f x ≡ whole (pos 0)
  other_term x n = ap (λ t. t *ℚ f x) (price_elsewhere j x n) ∙ nil_times ring_ℚ (f x)

  no_price : (xs : List ℕ) (k : ℕ) → ¬ (Contains xs j) → prefix k (priced_terms xs) ≡ whole (pos 0)
  unfolding priced_terms
  no_price [] zero n = refl
  no_price [] (suc k) n = refl
  no_price (x ∷ xs) zero n = refl
  no_price (x ∷ xs) (suc k) n =
      ap₂ ◌+ℚ◌ (other_term x (λ e. n (subst (λ (i : ℕ). Contains (x ∷ xs) i) e (Contains-head x xs)))) (no_price xs k (λ c. n (Contains-cons x xs j c)))
      ∙ ring_ℚ.plus_nil (whole (pos 0))

  one_price : (xs : List ℕ) (k : ℕ) → Distinct xs → (prefix k (priced_terms xs) ≡ whole (pos 0)) ⊎ (prefix k (priced_terms xs) ≡ f j)
  unfolding priced_terms
  one_price [] zero d = inl refl
  one_price [] (suc k) d = inl refl
  one_price (x ∷ xs) zero d = inl refl
  one_price (x ∷ xs) (suc k) d = elim (same_or_not x j) [
    | inl e ↦ inr
        (ap₂ ◌+ℚ◌ (ap (λ t. t *ℚ f x) (ap (price_of_one j) e ∙ price_here j) ∙ one_times ring_ℚ (f x) ∙ ap f e) (no_price xs k (λ c. Distinct-head x xs d (subst (λ (i : ℕ). Contains xs i) (sym e) c)))
        ∙ ring_ℚ.plus_nil (f j))
    | inr n ↦ elim (one_price xs k (Distinct-tail x xs d)) [
      | inl nil ↦ inl (ap₂ ◌+ℚ◌ (other_term x n) nil ∙ ring_ℚ.plus_nil (whole (pos 0)))
      | inr one ↦ inr (ap₂ ◌+ℚ◌ (other_term x n) one ∙ nil_plus ring_ℚ (f j))
    ]
  ]

-- the kind in the system of a number of the face: a reduced price there is an entry here
abbrev pub kind_in : Kind → Kind
kind_in Factor = Factor
kind_in Quantity = Quantity
kind_in Price = Factor

module _ (s : System) (held : Held) (j : ℕ) (system : IsSystem s) (column : Contains s.columns j) (h : Choice) where
  low_number : (w : ℕ) → Contains s.variables w → (o : Option Bool) → SystemNumber s (at_held held h) Quantity (option_map_or (bound_at s w) o (s.low w))
  unfolding bound_at
  low_number w c None = is_low w c
  low_number w c (Some true) = is_high w c
  low_number w c (Some false) = is_low w c

  high_number : (w : ℕ) → Contains s.variables w → (o : Option Bool) → SystemNumber s (at_held held h) Quantity (option_map_or (bound_at s w) o (s.high w))
  unfolding bound_at
  high_number w c None = is_high w c
  high_number w c (Some true) = is_high w c
  high_number w c (Some false) = is_low w c

  price_number : (i : ℕ) → SystemNumber s (at_held held h) Factor (price_of_one j i)
  price_number i = elim (same_or_not i j) [
    | inl e ↦ subst (SystemNumber s (at_held held h) Factor) (sym (ap (price_of_one j) e ∙ price_here j)) is_one
    | inr n ↦ subst (SystemNumber s (at_held held h) Factor) (sym (price_elsewhere j i n)) is_zero
  ]

  reduced_number : (w k : ℕ) → Contains (others s h) w → SystemNumber s (at_held held h) Factor (prefix k (reduced_terms (held_at s held (price_of_one j)) h w))
  unfolding reduced_terms held_at priced_terms others column_entry
  reduced_number w k o = elim (one_price j (λ i. column_entry h i w) s.columns k (Distinct-increasing s.columns system.columns_ascend)) [
    | inl nil ↦ subst (SystemNumber s (at_held held h) Factor) (sym nil) is_zero
    | inr one ↦ subst (SystemNumber s (at_held held h) Factor) (sym one) (column_factor s (at_held held h) j w (system.column j column) o)
  ]

  -- a number of the face is one of the system
  pub number_in : (kind : Kind) (x : Fraction) → SystemNumber (held_at s held (price_of_one j)) h kind x → SystemNumber s (at_held held h) (kind_in kind) x
  unfolding held_at basics others
  number_in _ _ is_zero = is_zero
  number_in _ _ is_one = is_one
  number_in _ _ (is_coefficient r i c k) = is_coefficient r i c k
  number_in _ _ (is_entry b w c k) = is_entry b w c k
  number_in _ _ (is_row_entry r w n c k) = subst (λ (ts : List Term). SystemNumber s (at_held held h) Factor (prefix n ts)) (sym (row_entry_terms_held s held (price_of_one j) h r w)) (is_row_entry r w n c k)
  number_in _ _ (is_low w c) = low_number w c (held w)
  number_in _ _ (is_high w c) = high_number w c (held w)
  number_in _ _ (is_value b n c) = subst (λ (ts : List Term). SystemNumber s (at_held held h) Quantity (prefix n ts)) (sym (value_terms_held s held (price_of_one j) h b)) (is_value b n c)
  number_in _ _ (is_price i c) = price_number i
  number_in _ _ (is_reduced w n c) = reduced_number w n c
  number_in _ _ (is_opposite kind x n) = is_opposite (kind_in kind) x (number_in kind x n)

  -- and so is one that solving writes down
  pub solving_in : KeepsHeld s held h → (x : Fraction) → SolvingNumber (held_at s held (price_of_one j)) h x → SolvingNumber s (at_held held h) x
  unfolding basics held_at
  solving_in keeps _ (is_number kind x n) = is_number (kind_in kind) x (number_in kind x n)
  solving_in keeps _ (is_fall b c beyond first) =
      let free = basic_free s held (price_of_one j) h keeps b c in
      let same = value_held s held (price_of_one j) h b in
      subst (SolvingNumber s (at_held held h)) (sym (ap₂ ◌-ℚ◌ free.1 same)) (is_fall b c (subst₂ ◌<ℚ◌ free.1 same beyond) (first_held s held (price_of_one j) h keeps b first))
  solving_in keeps _ (is_rise b c beyond first) =
      let free = basic_free s held (price_of_one j) h keeps b c in
      let same = value_held s held (price_of_one j) h b in
      subst (SolvingNumber s (at_held held h)) (sym (ap₂ ◌-ℚ◌ same free.0)) (is_rise b c (subst₂ ◌<ℚ◌ same free.0 beyond) (first_held s held (price_of_one j) h keeps b first))
  solving_in keeps _ (is_turned x n) = is_turned x (solving_in keeps x n)

-- cases of pairs, where each number of one sort is one of another, of the kind that is said
module _ {N O : Kind → Fraction → Type 0} (each : (kind : Kind) (x : Fraction) → N kind x → O (kind_in kind) x) where
  combined_in : (kind : Kind) (x : Fraction) → IsCombined N kind x → IsCombined O (kind_in kind) x
  combined_in kind _ (alone x h) = alone x (each kind x h)
  combined_in kind _ (sum x y h k) = sum x y (each kind x h) (each kind y k)
  combined_in kind _ (difference x y h k) = difference x y (each kind x h) (each kind y k)

  summand_in : (kind : Kind) (x : Fraction) → IsSummand N kind x → IsSummand O (kind_in kind) x
  summand_in kind _ (plain x h) = plain x (combined_in kind x h)
  summand_in kind _ (scaled f x h k) = scaled f x (each Factor f h) (combined_in kind x k)

  pair_case_in : (op : Op) (l r : Fraction) → IsPairCase N op l r → IsPairCase O op l r
  pair_case_in _ _ _ (added kind l r h k) = added (kind_in kind) l r (summand_in kind l h) (summand_in kind r k)
  pair_case_in _ _ _ (subtracted kind l r h k) = subtracted (kind_in kind) l r (summand_in kind l h) (summand_in kind r k)
  pair_case_in _ _ _ (scaled_right kind l r h k) = scaled_right (kind_in kind) l r (each Factor l h) (combined_in kind r k)
  pair_case_in _ _ _ (scaled_left kind l r h k) = scaled_left (kind_in kind) l r (combined_in kind l h) (each Factor r k)

near_in : (s : System) (held : Held) (price : ℕ → Fraction) (h k : Choice) → AreNear (held_at s held price) h k → AreNear s (at_held held h) (at_held held k)
unfolding held_at
near_in s held price h k (inl e) = inl (ap (at_held held) e)
near_in s held price h k (inr (a, b, x)) = inr (a, b, record { leaving = x.leaving; entering = x.entering; leaves = x.leaves; enters = x.enters; stays = λ w c. x.stays w c })

pub law_of_the_pairs : LawOfThePairs
law_of_the_pairs s held j bound op left right system column pair keeps_one keeps_near = record {
  passes = pair.passes;
  one = at_held held pair.one;
  near = at_held held pair.near;
  is_choice = choice_held s held (price_of_one j) pair.one system pair.is_choice;
  near_is_choice = choice_held s held (price_of_one j) pair.near system pair.near_is_choice;
  are_near = near_in s held (price_of_one j) pair.one pair.near pair.are_near;
  sides = pair_case_in either op left right pair.sides;
  large = IsForLarge-each written bound op left right pair.large;
}
  where
    either : (kind : Kind) (x : Fraction) → OfEither (SystemNumber (held_at s held (price_of_one j))) pair.one pair.near kind x
        → OfEither (SystemNumber s) (at_held held pair.one) (at_held held pair.near) (kind_in kind) x
    either kind x (inl n) = inl (number_in s held j system column pair.one kind x n)
    either kind x (inr n) = inr (number_in s held j system column pair.near kind x n)

    written : (x : Fraction) → AtEither (SolvingNumber (held_at s held (price_of_one j))) pair.one pair.near x → AtEither (SolvingNumber s) (at_held held pair.one) (at_held held pair.near) x
    written x (inl n) = inl (solving_in s held j system column pair.one keeps_one x n)
    written x (inr n) = inr (solving_in s held j system column pair.near keeps_near x n)
