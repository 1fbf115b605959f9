-- Reduced prices and values while terms are added to them: each is the sum of its first terms.
use Rattle.std.specs.Prelude.{◌≡◌, ℕ, ◌+◌, ◌<◌, ◌≤◌, pos, Bool, true, false, not, List, [], ◌∷◌, length, take, filter, slice_index, if◌then◌else◌, refl}
use Rattle.std.specs.List.{Contains}
use Rattle.std.proofs.Common.{ap, sym, ◌∙◌, subst, subst₂, inl, inr}
use Rattle.std.proofs.Math.Path.{subst₃}
use mathlib.Core.Path.{ap₂}
use Rattle.exact_fraction.specs.declared.Op.{Op}
use Rattle.exact_fraction.specs.Passes.{IsShareRefused}
use Rattle.fraction_theory.specs.Fraction.{Fraction, whole, ◌+ℚ◌, ◌*ℚ◌}
use Rattle.fraction_theory.specs.Signs.{sign_of}
use Rattle.fraction_theory.specs.Sums.{prefix, sum_by}
use Rattle.fraction_theory.proofs.FieldLaws.{ring_ℚ}
use Rattle.fraction_theory.proofs.Ring.{by_ring, at, pnil, pone, ◌⊕◌, ◌⊗◌}
use Rattle.linear_system.specs.Systems.{System}
use Rattle.linear_system.specs.Choices.{Choice, at_bound, column_entry, reduced, reduced_terms, value, value_terms}
use Rattle.linear_system.specs.Numbers.{is_one}
use Rattle.linear_system.proofs.ChoiceLaws.{column_entry-basic, column_entry-itself, column_entry-other}
use Rattle.linear_dict.specs.Dictionaries.{Dictionary, IsDictionary, system_in, choice_of, note_of, with_note}
use Rattle.linear_dict.specs.Notes.{Noted}
use Rattle.linear_dict.specs.Places.{is_among}
use Rattle.simplex_core.specs.Fixed.{IsFixedSystemPair}
use Rattle.simplex_core.specs.Operations.{PriceShare, adding_scaled, adding_own, BoundShare, adding_bound}
use Rattle.simplex_core.specs.Posings.{asks_high, at_asked, asked_note, bound_added, price_added, reduced_note, value_note}
use Rattle.simplex_core.specs.Turns.{noted_anew}
use Rattle.simplex_core.proofs.AnewLaws.{anew_sound, anew_system, anew_choice, anew_basics, anew_others, anew_entry, anew_column_entry, anew_same, anew_twice, same_anew, set_anew}
use Rattle.simplex_core.proofs.NoteLaws.{note_anew}
use Rattle.simplex_core.proofs.Pairs.{entry_number, price_share, value_share}
use Rattle.simplex_core.proofs.StandLemmas.{choice_basic, choice_other, stand_note, stand-basic, stand-other}
use Rattle.simplex_core.proofs.SumLemmas.{price_term, bound_term, bound_term-other, bound_term-basic, price_prefix, bound_prefix, reduced_by_names, value_by_names, sum_more, sum_skip, sum_all}

abbrev pub with_reduced : Noted → Fraction → Noted
with_reduced n x = record n { reduced = x }

abbrev pub with_value : Noted → Fraction → Noted
with_value n x = record n { value = x }

-- the notes with the sums of the first terms, of the names of the ranks below k
unfoldable pub reduced_so_far : Dictionary → ℕ → ℕ → Noted
reduced_so_far d k w = if (choice_of d).basic w then note_of d w else with_reduced (note_of d w) (sum_by (price_term d w) (take k d.names))

unfoldable pub value_so_far : Dictionary → ℕ → ℕ → Noted
value_so_far d k b = if (choice_of d).basic b then with_value (note_of d b) (sum_by (bound_term d b) (take k d.names)) else note_of d b

-- each note by what its variable is
module _ (d : Dictionary) (h : IsDictionary d) (w : ℕ) where
  pub price_added-basic : (j : ℕ) → Contains d.basics w → price_added d j w ≡ note_of d w
  unfolding price_added
  price_added-basic j c = ap (λ (b : Bool). if b then note_of d w else with_reduced (note_of d w) ((note_of d w).reduced +ℚ (system_in d).price j *ℚ column_entry (choice_of d) j w)) (choice_basic d h w c)

  pub price_added-other : (j : ℕ) → Contains d.others w → price_added d j w ≡ with_reduced (note_of d w) ((note_of d w).reduced +ℚ (system_in d).price j *ℚ column_entry (choice_of d) j w)
  unfolding price_added
  price_added-other j c = ap (λ (b : Bool). if b then note_of d w else with_reduced (note_of d w) ((note_of d w).reduced +ℚ (system_in d).price j *ℚ column_entry (choice_of d) j w)) (choice_other d h w c)

  pub bound_added-basic : (j : ℕ) → Contains d.basics w → bound_added d j w ≡ with_value (note_of d w) ((note_of d w).value +ℚ (choice_of d).entry w j *ℚ at_bound (system_in d) (choice_of d) j)
  unfolding bound_added
  bound_added-basic j c = ap (λ (b : Bool). if b then with_value (note_of d w) ((note_of d w).value +ℚ (choice_of d).entry w j *ℚ at_bound (system_in d) (choice_of d) j) else note_of d w) (choice_basic d h w c)

  pub bound_added-other : (j : ℕ) → Contains d.others w → bound_added d j w ≡ note_of d w
  unfolding bound_added
  bound_added-other j c = ap (λ (b : Bool). if b then with_value (note_of d w) ((note_of d w).value +ℚ (choice_of d).entry w j *ℚ at_bound (system_in d) (choice_of d) j) else note_of d w) (choice_other d h w c)

  pub reduced_so_far-basic : (k : ℕ) → Contains d.basics w → reduced_so_far d k w ≡ note_of d w
  unfolding reduced_so_far
  reduced_so_far-basic k c = ap (λ (b : Bool). if b then note_of d w else with_reduced (note_of d w) (sum_by (price_term d w) (take k d.names))) (choice_basic d h w c)

  pub reduced_so_far-other : (k : ℕ) → Contains d.others w → reduced_so_far d k w ≡ with_reduced (note_of d w) (sum_by (price_term d w) (take k d.names))
  unfolding reduced_so_far
  reduced_so_far-other k c = ap (λ (b : Bool). if b then note_of d w else with_reduced (note_of d w) (sum_by (price_term d w) (take k d.names))) (choice_other d h w c)

  pub value_so_far-basic : (k : ℕ) → Contains d.basics w → value_so_far d k w ≡ with_value (note_of d w) (sum_by (bound_term d w) (take k d.names))
  unfolding value_so_far
  value_so_far-basic k c = ap (λ (b : Bool). if b then with_value (note_of d w) (sum_by (bound_term d w) (take k d.names)) else note_of d w) (choice_basic d h w c)

  pub value_so_far-other : (k : ℕ) → Contains d.others w → value_so_far d k w ≡ note_of d w
  unfolding value_so_far
  value_so_far-other k c = ap (λ (b : Bool). if b then with_value (note_of d w) (sum_by (bound_term d w) (take k d.names)) else note_of d w) (choice_other d h w c)

  pub reduced_note-basic : Contains d.basics w → reduced_note d w ≡ note_of d w
  unfolding reduced_note
  reduced_note-basic c = ap (λ (b : Bool). if b then note_of d w else with_reduced (note_of d w) (reduced (system_in d) (choice_of d) w)) (choice_basic d h w c)

  pub reduced_note-other : Contains d.others w → reduced_note d w ≡ with_reduced (note_of d w) (reduced (system_in d) (choice_of d) w)
  unfolding reduced_note
  reduced_note-other c = ap (λ (b : Bool). if b then note_of d w else with_reduced (note_of d w) (reduced (system_in d) (choice_of d) w)) (choice_other d h w c)

  pub asked_note-basic : Contains d.basics w → asked_note d w ≡ note_of d w
  unfolding asked_note
  asked_note-basic c = ap (λ (b : Bool). if b then note_of d w else at_asked (note_of d w) (note_of d w).reduced (asks_high (sign_of (note_of d w).reduced))) (choice_basic d h w c)

  pub asked_note-other : Contains d.others w → asked_note d w ≡ at_asked (note_of d w) (note_of d w).reduced (asks_high (sign_of (note_of d w).reduced))
  unfolding asked_note
  asked_note-other c = ap (λ (b : Bool). if b then note_of d w else at_asked (note_of d w) (note_of d w).reduced (asks_high (sign_of (note_of d w).reduced))) (choice_other d h w c)

  value_note-basic : Contains d.basics w → value_note d w ≡ with_value (note_of d w) (value (system_in d) (choice_of d) w)
  unfolding value_note
  value_note-basic c = ap (λ (b : Bool). if b then with_value (note_of d w) (value (system_in d) (choice_of d) w) else note_of d w) (choice_basic d h w c)

  value_note-other : Contains d.others w → value_note d w ≡ note_of d w
  unfolding value_note
  value_note-other c = ap (λ (b : Bool). if b then with_value (note_of d w) (value (system_in d) (choice_of d) w) else note_of d w) (choice_other d h w c)

-- notes that differ in reduced prices alone, or in values of basic variables alone, keep the system
kept_by : {X : Type 0} (p : Noted → X) (b : Bool) (x y : Noted) (z : X) → p x ≡ z → p y ≡ z → p (if b then x else y) ≡ z
kept_by p true x y z e f = e
kept_by p false x y z e f = f

module _ (d : Dictionary) (h : IsDictionary d) (k : ℕ) where
  pub reduced_system : system_in (noted_anew d (reduced_so_far d k)) ≡ system_in d
  unfolding reduced_so_far
  reduced_system = anew_system d h (reduced_so_far d k)
      (λ w. kept_by Noted.price ((choice_of d).basic w) _ _ _ refl refl)
      (λ w. kept_by Noted.low ((choice_of d).basic w) _ _ _ refl refl)
      (λ w. kept_by Noted.high ((choice_of d).basic w) _ _ _ refl refl)

  pub value_system : system_in (noted_anew d (value_so_far d k)) ≡ system_in d
  unfolding value_so_far
  value_system = anew_system d h (value_so_far d k)
      (λ w. kept_by Noted.price ((choice_of d).basic w) _ _ _ refl refl)
      (λ w. kept_by Noted.low ((choice_of d).basic w) _ _ _ refl refl)
      (λ w. kept_by Noted.high ((choice_of d).basic w) _ _ _ refl refl)

  value_choice : choice_of (noted_anew d (value_so_far d k)) ≡ choice_of d
  unfolding value_so_far
  value_choice = anew_choice d h (value_so_far d k) (λ w. kept_by Noted.at_high ((choice_of d).basic w) _ _ _ refl refl)

  stands_still : (w : ℕ) → at_bound (system_in (noted_anew d (value_so_far d k))) (choice_of (noted_anew d (value_so_far d k))) w ≡ at_bound (system_in d) (choice_of d) w
  stands_still w = ap₂ (λ (s : System) (c : Choice). at_bound s c w) value_system value_choice

  -- the note of a name with its sum so far
  reduced_here : (w : ℕ) → Contains d.others w → note_of (noted_anew d (reduced_so_far d k)) w ≡ with_reduced (note_of d w) (sum_by (price_term d w) (take k d.names))
  reduced_here w o = note_anew d (reduced_so_far d k) w (h.split.second_named w o) ∙ reduced_so_far-other d h w k o

  value_here : (b : ℕ) → Contains d.basics b → note_of (noted_anew d (value_so_far d k)) b ≡ with_value (note_of d b) (sum_by (bound_term d b) (take k d.names))
  value_here b c = note_anew d (value_so_far d k) b (h.split.first_named b c) ∙ value_so_far-basic d h b k c

  to_others : (w : ℕ) → Contains (noted_anew d (reduced_so_far d k)).others w → Contains d.others w
  to_others w c = subst (λ (ws : List ℕ). Contains ws w) (anew_others d h (reduced_so_far d k)) c

  to_basics : (w : ℕ) → Contains (noted_anew d (reduced_so_far d k)).basics w → Contains d.basics w
  to_basics w c = subst (λ (ws : List ℕ). Contains ws w) (anew_basics d h (reduced_so_far d k)) c

  from_others : (f : ℕ → Noted) (w : ℕ) → Contains d.others w → Contains (noted_anew d f).others w
  from_others f w c = subst (λ (ws : List ℕ). Contains ws w) (sym (anew_others d h f)) c

  from_basics : (f : ℕ → Noted) (w : ℕ) → Contains d.basics w → Contains (noted_anew d f).basics w
  from_basics f w c = subst (λ (ws : List ℕ). Contains ws w) (sym (anew_basics d h f)) c

  -- one more price
  price_more : (j w : ℕ) → k < length d.names → slice_index d.names k ≡ j → Contains d.names w → price_added (noted_anew d (reduced_so_far d k)) j w ≡ reduced_so_far d (k + 1) w
  unfolding price_term
  price_more j w hk ej c =
      let f : ℕ → Noted = reduced_so_far d k in
      let e : Dictionary = noted_anew d f in
      elim (h.split.either w c) [
        | inl b ↦
            price_added-basic e (anew_sound d h f) w j (from_basics f w b)
            ∙ note_anew d f w c ∙ reduced_so_far-basic d h w k b ∙ sym (reduced_so_far-basic d h w (k + 1) b)
        | inr o ↦
            price_added-other e (anew_sound d h f) w j (from_others f w o)
            ∙ ap (λ (n : Noted). with_reduced n (n.reduced +ℚ (system_in e).price j *ℚ column_entry (choice_of e) j w)) (reduced_here w o)
            ∙ ap (λ (x : Fraction). with_reduced (note_of d w) (sum_by (price_term d w) (take k d.names) +ℚ x))
            (ap₂ ◌*ℚ◌ (ap (λ (s : System). s.price j) reduced_system) (anew_column_entry d h f j w))
            ∙ ap (with_reduced (note_of d w)) (sym (sum_more (price_term d w) d.names k j hk ej))
            ∙ sym (reduced_so_far-other d h w (k + 1) o)
      ]

  pub prices_more : (j : ℕ) → k < length d.names → slice_index d.names k ≡ j → (e e' : Dictionary) → e ≡ noted_anew d (reduced_so_far d k) → e' ≡ noted_anew e (price_added e j) → e' ≡ noted_anew d (reduced_so_far d (k + 1))
  prices_more j hk ej e e' is step =
      let f : ℕ → Noted = reduced_so_far d k in
      step ∙ ap (λ (x : Dictionary). noted_anew x (price_added x j)) is
      ∙ anew_twice d h f (price_added (noted_anew d f) j) (reduced_so_far d (k + 1)) (λ w c. price_more j w hk ej c)

  -- one more bound
  bound_more : (j b : ℕ) → k < length d.names → slice_index d.names k ≡ j → Contains d.others j → Contains d.names b → bound_added (noted_anew d (value_so_far d k)) j b ≡ value_so_far d (k + 1) b
  bound_more j b hk ej other c =
      let f : ℕ → Noted = value_so_far d k in
      let e : Dictionary = noted_anew d f in
      elim (h.split.either b c) [
        | inl m ↦
            bound_added-basic e (anew_sound d h f) b j (from_basics f b m)
            ∙ ap (λ (n : Noted). with_value n (n.value +ℚ (choice_of e).entry b j *ℚ at_bound (system_in e) (choice_of e) j)) (value_here b m)
            ∙ ap (λ (x : Fraction). with_value (note_of d b) (sum_by (bound_term d b) (take k d.names) +ℚ x))
            (ap₂ ◌*ℚ◌ (ap (λ (x : Choice). x.entry b j) value_choice) (stands_still j) ∙ sym (bound_term-other d h b j other))
            ∙ ap (with_value (note_of d b)) (sym (sum_more (bound_term d b) d.names k j hk ej))
            ∙ sym (value_so_far-basic d h b (k + 1) m)
        | inr o ↦
            bound_added-other e (anew_sound d h f) b j (from_others f b o)
            ∙ note_anew d f b c ∙ value_so_far-other d h b k o ∙ sym (value_so_far-other d h b (k + 1) o)
      ]

  pub bounds_more : (j : ℕ) → k < length d.names → slice_index d.names k ≡ j → Contains d.others j → (e e' : Dictionary) → e ≡ noted_anew d (value_so_far d k) → e' ≡ noted_anew e (bound_added e j) → e' ≡ noted_anew d (value_so_far d (k + 1))
  bounds_more j hk ej other e e' is step =
      let f : ℕ → Noted = value_so_far d k in
      step ∙ ap (λ (x : Dictionary). noted_anew x (bound_added x j)) is
      ∙ anew_twice d h f (bound_added (noted_anew d f) j) (value_so_far d (k + 1)) (λ b c. bound_more j b hk ej other c)

  -- a basic variable adds nothing to values
  pub bounds_skip : (j : ℕ) → k < length d.names → slice_index d.names k ≡ j → Contains d.basics j → (e : Dictionary) → e ≡ noted_anew d (value_so_far d k) → e ≡ noted_anew d (value_so_far d (k + 1))
  bounds_skip j hk ej basic e is = is ∙ anew_same d h (value_so_far d k) (value_so_far d (k + 1)) (λ b c. elim (h.split.either b c) [
    | inl m ↦
        value_so_far-basic d h b k m
        ∙ ap (with_value (note_of d b)) (sym (sum_skip (bound_term d b) d.names k j hk ej (bound_term-basic d h b j basic)))
        ∙ sym (value_so_far-basic d h b (k + 1) m)
    | inr o ↦ value_so_far-other d h b k o ∙ sym (value_so_far-other d h b (k + 1) o)
  ])

  -- What is refused on the way is a working pair of the system: with the next share the sum is that of more terms.
  module _ (live : d.spent ≡ false) (j : ℕ) (hk : k < length d.names) (ej : slice_index d.names k ≡ j) where
    count : ℕ → ℕ
    count i = length (filter (is_among d.columns) (take i d.names))

    next_price : ((w : ℕ) → Contains d.rows w → (system_in d).price w ≡ whole (pos 0)) → (w : ℕ) (q : Fraction) → column_entry (choice_of d) j w ≡ q
        → prefix (count (k + 1)) (reduced_terms (system_in d) (choice_of d) w) ≡ prefix (count k) (reduced_terms (system_in d) (choice_of d) w) +ℚ (system_in d).price j *ℚ q
    unfolding count price_term
    next_price unpriced w q is =
        sym (price_prefix d h unpriced w (k + 1)) ∙ sum_more (price_term d w) d.names k j hk ej
        ∙ ap₂ (λ x y. x +ℚ (system_in d).price j *ℚ y) (price_prefix d h unpriced w k) is

    -- its values, while the reduced prices are those so far
    price_read : ((w : ℕ) → Contains d.rows w → (system_in d).price w ≡ whole (pos 0)) → (w : ℕ) → Contains d.others w
        → (note_of (noted_anew d (reduced_so_far d k)) w).reduced ≡ prefix (count k) (reduced_terms (system_in d) (choice_of d) w)
    unfolding count
    price_read unpriced w o = ap Noted.reduced (reduced_here w o) ∙ price_prefix d h unpriced w k

    price_same : (system_in (noted_anew d (reduced_so_far d k))).price j ≡ (system_in d).price j
    price_same = ap (λ (s : System). s.price j) reduced_system

    pub price_pair : ((w : ℕ) → Contains d.rows w → (system_in d).price w ≡ whole (pos 0)) → (bound : ℕ) (op : Op) (left right x p q : Fraction)
        → PriceShare (noted_anew d (reduced_so_far d k)) j x p q → IsShareRefused bound x p q op left right → IsFixedSystemPair d bound op left right
    price_pair unpriced bound op left right _ _ _ (adding_scaled w b o) refused =
        let basic : Contains d.basics j = to_basics j b in
        let other : Contains d.others w = to_others w o in
        price_share d h live unpriced (count k) (count (k + 1)) j w ((choice_of d).entry j w) (h.split.first_named j basic) other (entry_number d h live j w basic other)
        (next_price unpriced w ((choice_of d).entry j w) (column_entry-basic (choice_of d) j w (choice_basic d h j basic))) bound op left right
        (subst₃ (λ x p q. IsShareRefused bound x p q op left right) (price_read unpriced w other) price_same (anew_entry d h (reduced_so_far d k) j w) refused)
    price_pair unpriced bound op left right _ _ _ (adding_own o) refused =
        let other : Contains d.others j = to_others j o in
        price_share d h live unpriced (count k) (count (k + 1)) j j (whole (pos 1)) (h.split.second_named j other) other is_one
        (next_price unpriced j (whole (pos 1)) (column_entry-itself (choice_of d) j (choice_other d h j other))) bound op left right
        (subst₂ (λ x p. IsShareRefused bound x p (whole (pos 1)) op left right) (price_read unpriced j other) price_same refused)

    others_before : ℕ → ℕ
    others_before i = length (filter (λ w. not ((choice_of d).basic w)) (take i d.names))

    next_bound : Contains d.others j → (b : ℕ) → prefix (others_before (k + 1)) (value_terms (system_in d) (choice_of d) b)
        ≡ prefix (others_before k) (value_terms (system_in d) (choice_of d) b) +ℚ (choice_of d).entry b j *ℚ at_bound (system_in d) (choice_of d) j
    unfolding others_before
    next_bound o b =
        sym (bound_prefix d h b (k + 1)) ∙ sum_more (bound_term d b) d.names k j hk ej
        ∙ ap₂ ◌+ℚ◌ (bound_prefix d h b k) (bound_term-other d h b j o)

    value_read : (b : ℕ) → Contains d.basics b → (note_of (noted_anew d (value_so_far d k)) b).value ≡ prefix (others_before k) (value_terms (system_in d) (choice_of d) b)
    unfolding others_before
    value_read b m = ap Noted.value (value_here b m) ∙ bound_prefix d h b k

    pub bound_pair : Contains d.others j → (bound : ℕ) (op : Op) (left right x p q : Fraction)
        → BoundShare (noted_anew d (value_so_far d k)) j x p q → IsShareRefused bound x p q op left right → IsFixedSystemPair d bound op left right
    bound_pair o bound op left right _ _ _ (adding_bound b c) refused =
        let m : Contains d.basics b = subst (λ (bs : List ℕ). Contains bs b) (anew_basics d h (value_so_far d k)) c in
        value_share d h live (others_before k) (others_before (k + 1)) b j m o (next_bound o b) bound op left right
        (subst₃ (λ x p q. IsShareRefused bound x p q op left right) (value_read b m) (anew_entry d h (value_so_far d k) b j) (stands_still j) refused)

-- the two ends of each loop
module _ (d : Dictionary) (h : IsDictionary d) where
  pub prices_start : ((w : ℕ) → Contains d.others w → (note_of d w).reduced ≡ whole (pos 0)) → d ≡ noted_anew d (reduced_so_far d 0)
  prices_start blank = same_anew d h (reduced_so_far d 0) (λ w c. elim (h.split.either w c) [
    | inl b ↦ sym (reduced_so_far-basic d h w 0 b)
    | inr o ↦ ap (with_reduced (note_of d w)) (blank w o) ∙ sym (reduced_so_far-other d h w 0 o)
  ])

  pub bounds_start : ((b : ℕ) → Contains d.basics b → (note_of d b).value ≡ whole (pos 0)) → d ≡ noted_anew d (value_so_far d 0)
  bounds_start blank = same_anew d h (value_so_far d 0) (λ w c. elim (h.split.either w c) [
    | inl b ↦ ap (with_value (note_of d w)) (blank w b) ∙ sym (value_so_far-basic d h w 0 b)
    | inr o ↦ sym (value_so_far-other d h w 0 o)
  ])

  pub prices_end : ((w : ℕ) → Contains d.rows w → (system_in d).price w ≡ whole (pos 0)) → (k : ℕ) → length d.names ≤ k → (e : Dictionary) → e ≡ noted_anew d (reduced_so_far d k) → e ≡ noted_anew d (reduced_note d)
  prices_end unpriced k past e is = is ∙ anew_same d h (reduced_so_far d k) (reduced_note d) (λ w c. elim (h.split.either w c) [
    | inl b ↦ reduced_so_far-basic d h w k b ∙ sym (reduced_note-basic d h w b)
    | inr o ↦
        reduced_so_far-other d h w k o
        ∙ ap (with_reduced (note_of d w)) (sum_all (price_term d w) d.names k past ∙ sym (reduced_by_names d h unpriced w o))
        ∙ sym (reduced_note-other d h w o)
  ])

  pub bounds_end : (k : ℕ) → length d.names ≤ k → (e : Dictionary) → e ≡ noted_anew d (value_so_far d k) → e ≡ noted_anew d (value_note d)
  bounds_end k past e is = is ∙ anew_same d h (value_so_far d k) (value_note d) (λ w c. elim (h.split.either w c) [
    | inl b ↦
        value_so_far-basic d h w k b
        ∙ ap (with_value (note_of d w)) (sum_all (bound_term d w) d.names k past ∙ sym (value_by_names d h w b))
        ∙ sym (value_note-basic d h w b)
    | inr o ↦ value_so_far-other d h w k o ∙ sym (value_note-other d h w o)
  ])

  -- reduced prices first, and then the bounds that they ask for
  pub stands_asked : (g k : Dictionary) → g ≡ noted_anew d (reduced_note d) → k ≡ noted_anew g (asked_note g) → k ≡ noted_anew d (stand_note d)
  stands_asked g k eg ek =
      let f : ℕ → Noted = reduced_note d in
      let e : Dictionary = noted_anew d f in
      ek ∙ ap (λ (x : Dictionary). noted_anew x (asked_note x)) eg
      ∙ anew_twice d h f (asked_note e) (stand_note d) (λ w c. elim (h.split.either w c) [
        | inl b ↦
            asked_note-basic e (anew_sound d h f) w (subst (λ (ws : List ℕ). Contains ws w) (sym (anew_basics d h f)) b)
            ∙ note_anew d f w c ∙ reduced_note-basic d h w b ∙ sym (stand-basic d h w b)
        | inr o ↦
            asked_note-other e (anew_sound d h f) w (subst (λ (ws : List ℕ). Contains ws w) (sym (anew_others d h f)) o)
            ∙ ap (λ (n : Noted). at_asked n n.reduced (asks_high (sign_of n.reduced))) (note_anew d f w c ∙ reduced_note-other d h w o)
            ∙ sym (stand-other d h w o)
      ])

-- one variable's price
module _ (d : Dictionary) (h : IsDictionary d) (j : ℕ) where
  -- a price of 0 adds nothing
  pub priced_by_nil : (system_in d).price j ≡ whole (pos 0) → d ≡ noted_anew d (price_added d j)
  priced_by_nil nil = same_anew d h (price_added d j) (λ w c. elim (h.split.either w c) [
    | inl b ↦ sym (price_added-basic d h w j b)
    | inr o ↦
        ap (with_reduced (note_of d w))
        (by_ring ring_ℚ ((note_of d w).reduced ∷ column_entry (choice_of d) j w ∷ []) (at 0) (at 0 ⊕ pnil ⊗ at 1) refl
        ∙ ap (λ x. (note_of d w).reduced +ℚ x *ℚ column_entry (choice_of d) j w) (sym nil))
        ∙ sym (price_added-other d h w j o)
  ])

  -- that of an other variable is added to its own reduced price alone
  pub priced_own : Contains d.others j → (n : Noted) (e : Dictionary) → e ≡ with_note d j n → n ≡ with_reduced (note_of d j) ((note_of d j).reduced +ℚ (system_in d).price j) → e ≡ noted_anew d (price_added d j)
  priced_own other n e set is = set_anew d h j n (price_added d j) e (h.split.second_named j other) set
      (is ∙ ap (λ x. with_reduced (note_of d j) ((note_of d j).reduced +ℚ x)) (by_ring ring_ℚ ((system_in d).price j ∷ []) (at 0) (at 0 ⊗ pone) refl ∙ ap (λ x. (system_in d).price j *ℚ x) (sym (column_entry-itself (choice_of d) j (choice_other d h j other))))
      ∙ sym (price_added-other d h j j other))
      (λ w c differ. elim (h.split.either w c) [
        | inl b ↦ sym (price_added-basic d h w j b)
        | inr o ↦
            ap (with_reduced (note_of d w))
            (by_ring ring_ℚ ((note_of d w).reduced ∷ (system_in d).price j ∷ []) (at 0) (at 0 ⊕ at 1 ⊗ pnil) refl
            ∙ ap (λ x. (note_of d w).reduced +ℚ (system_in d).price j *ℚ x) (sym (column_entry-other (choice_of d) j w (choice_other d h j other) (λ q. differ (sym q)))))
            ∙ sym (price_added-other d h w j o)
      ])

-- a bound of 0 adds nothing
pub bounded_by_nil : (d : Dictionary) → IsDictionary d → (w : ℕ) → at_bound (system_in d) (choice_of d) w ≡ whole (pos 0) → d ≡ noted_anew d (bound_added d w)
bounded_by_nil d h w nil = same_anew d h (bound_added d w) (λ b c. elim (h.split.either b c) [
  | inl m ↦
      ap (with_value (note_of d b))
      (by_ring ring_ℚ ((note_of d b).value ∷ (choice_of d).entry b w ∷ []) (at 0) (at 0 ⊕ at 1 ⊗ pnil) refl
      ∙ ap (λ x. (note_of d b).value +ℚ (choice_of d).entry b w *ℚ x) (sym nil))
      ∙ sym (bound_added-basic d h b w m)
  | inr o ↦ sym (bound_added-other d h b w o)
])

-- what a product by an entry of 0 adds is nothing
pub bounded_by_nothing : (d : Dictionary) → IsDictionary d → (w b : ℕ) → Contains d.basics b → (choice_of d).entry b w ≡ whole (pos 0) → note_of d b ≡ bound_added d w b
bounded_by_nothing d h w b m nil =
    ap (with_value (note_of d b))
    (by_ring ring_ℚ ((note_of d b).value ∷ at_bound (system_in d) (choice_of d) w ∷ []) (at 0) (at 0 ⊕ pnil ⊗ at 1) refl
    ∙ ap (λ x. (note_of d b).value +ℚ x *ℚ at_bound (system_in d) (choice_of d) w) (sym nil))
    ∙ sym (bound_added-basic d h b w m)

pub priced_by_nothing : (d : Dictionary) → IsDictionary d → (j w : ℕ) → Contains d.others w → column_entry (choice_of d) j w ≡ whole (pos 0) → note_of d w ≡ price_added d j w
priced_by_nothing d h j w o nil =
    ap (with_reduced (note_of d w))
    (by_ring ring_ℚ ((note_of d w).reduced ∷ (system_in d).price j ∷ []) (at 0) (at 0 ⊕ at 1 ⊗ pnil) refl
    ∙ ap (λ x. (note_of d w).reduced +ℚ (system_in d).price j *ℚ x) (sym nil))
    ∙ sym (price_added-other d h w j o)
