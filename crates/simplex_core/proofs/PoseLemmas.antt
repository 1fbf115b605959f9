-- A posed dictionary is ready, with the prices and bounds that were handed in.
use Rattle.std.specs.Prelude.{◌≡◌, ℕ, ◌+◌, ◌<◌, pos, true, false, List, [], ◌∷◌, length, slice_index, if◌then◌else◌, refl}
use Rattle.std.specs.List.{All, Contains}
use Rattle.std.proofs.Common.{zero, suc, arith, ap, sym, ◌∙◌, subst, subst₂, inl, inr}
use Rattle.fraction_theory.specs.Fraction.{Fraction, whole}
use Rattle.fraction_theory.specs.Order.{◌≤ℚ◌}
use Rattle.fraction_theory.specs.Signs.{sign_of}
use Rattle.linear_system.specs.Systems.{System}
use Rattle.linear_system.specs.Choices.{Choice, basics, others, at_bound, reduced, value}
use Rattle.exact_fraction.specs.declared.Passed.{Passed}
use Rattle.linear_dict.specs.Dictionaries.{Dictionary, IsDictionary, system_in, choice_of, note_of}
use Rattle.linear_dict.specs.Notes.{Noted}
use Rattle.linear_dict.specs.Places.{place_in}
use Rattle.linear_dict.proofs.NameLemmas.{place_in-within}
use Rattle.linear_dict.proofs.SplitLemmas.{Contains-at, system_is, basic_in, other_in, in_others}
use Rattle.simplex_theory.specs.States.{IsPosed}
use Rattle.simplex_theory.proofs.PosedNumbers.{value_other, reduced_basic, posed_by_choice}
use Rattle.simplex_core.specs.Fixed.{IsFixedPair, IsFixedPairPosed}
use Rattle.simplex_core.specs.States.{state_of, IsReady}
use Rattle.simplex_core.specs.Turns.{noted_anew}
use Rattle.simplex_core.specs.Posings.{HasNotes, IsPairPosed, IsPosing, IsPut, column_note, row_note, low_at, high_at, asks_high, at_asked, value_note}
use Rattle.simplex_core.specs.declared.bounds.Bounds.{Bounds}
use Rattle.simplex_core.proofs.AnewLaws.{anew_sound, anew_basics, anew_others, anew_keeps, anew_system, anew_choice, anew_reduced}
use Rattle.simplex_core.proofs.FixedLemmas.{fixed_of}
use Rattle.simplex_core.proofs.NoteLaws.{note_anew, renoted_dictionary}
use Rattle.simplex_core.proofs.StandLemmas.{stand_note, asked_low, asked_high, stand-basic, stand-other, value-basic, value-other, stand-price, stand-low, stand-high, value-price, value-low, value-high, value-flag}

-- from notes with prices and bounds alone
module _ (d : Dictionary) (h : IsDictionary d) (live : d.spent ≡ false)
    (ordered : (w : ℕ) → Contains d.names w → (note_of d w).low ≤ℚ (note_of d w).high) (unpriced : (w : ℕ) → Contains d.names w → (note_of d w).reduced ≡ whole (pos 0)) where
  stood : Dictionary
  stood = noted_anew d (stand_note d)

  pub stood_sound : IsDictionary (noted_anew d (stand_note d))
  stood_sound = anew_sound d h (stand_note d)

  done : Dictionary
  done = noted_anew (noted_anew d (stand_note d)) (value_note (noted_anew d (stand_note d)))

  done_sound : IsDictionary done
  unfolding done
  done_sound = anew_sound (noted_anew d (stand_note d)) stood_sound (value_note (noted_anew d (stand_note d)))

  done_live : done.spent ≡ false
  unfolding done noted_anew
  done_live = live

  done_system : system_in done ≡ system_in stood
  unfolding done stood
  done_system = let e : Dictionary = noted_anew d (stand_note d) in anew_system e stood_sound (value_note e) (value-price e) (value-low e) (value-high e)

  stood_system : system_in stood ≡ system_in d
  unfolding stood
  stood_system = anew_system d h (stand_note d) (stand-price d) (stand-low d) (stand-high d)

  done_choice : choice_of done ≡ choice_of stood
  unfolding done stood
  done_choice = let e : Dictionary = noted_anew d (stand_note d) in anew_choice e stood_sound (value_note e) (value-flag e)

  -- the reduced price that each other variable is noted with
  asked : ℕ → Fraction
  asked w = reduced (system_in d) (choice_of d) w

  asked_is : (w : ℕ) → reduced (system_in done) (choice_of done) w ≡ asked w
  unfolding asked stood
  asked_is w =
      ap (λ (c : Choice). reduced (system_in done) c w) done_choice
      ∙ ap (λ (s : System). reduced s (choice_of stood) w) (done_system ∙ stood_system)
      ∙ anew_reduced d h (stand_note d) (system_in d) w

  stood_note : (w : ℕ) → Contains d.names w → note_of stood w ≡ stand_note d w
  unfolding stood
  stood_note w c = note_anew d (stand_note d) w c

  done_note : (w : ℕ) → Contains d.names w → note_of done w ≡ value_note stood w
  unfolding done stood noted_anew
  done_note w c = note_anew (noted_anew d (stand_note d)) (value_note (noted_anew d (stand_note d))) w c

  other_note : (w : ℕ) → Contains d.others w → note_of done w ≡ at_asked (note_of d w) (asked w) (asks_high (sign_of (asked w)))
  unfolding asked stood noted_anew
  other_note w c =
      let n : Contains d.names w = h.split.second_named w c in
      done_note w n ∙ value-other (noted_anew d (stand_note d)) stood_sound w c ∙ stood_note w n ∙ stand-other d h w c

  basic_note : (b : ℕ) → Contains d.basics b → note_of done b ≡ record (note_of d b) { value = value (system_in stood) (choice_of stood) b }
  unfolding stood noted_anew
  basic_note b c =
      let n : Contains d.names b = h.split.first_named b c in
      done_note b n ∙ value-basic (noted_anew d (stand_note d)) stood_sound b c
      ∙ ap (λ (m : Noted). let y : Noted = record m { value = value (system_in stood) (choice_of stood) b } in y) (stood_note b n ∙ stand-basic d h b c)

  -- its others and basic variables
  other_of : (w : ℕ) → Contains (others (system_in done) (choice_of done)) w → Contains d.others w
  unfolding done noted_anew
  other_of w c = in_others done done_sound w c

  to_other : (w : ℕ) → Contains d.others w → Contains (others (system_in done) (choice_of done)) w
  unfolding done noted_anew
  to_other w c = other_in done done_sound w c

  to_basic : (w : ℕ) → Contains d.basics w → Contains (basics (system_in done) (choice_of done)) w
  unfolding done noted_anew
  to_basic w c = basic_in done done_sound w c

  at_bound_is : (w : ℕ) → at_bound (system_in done) (choice_of done) w ≡ (if (note_of done w).at_high then (note_of done w).high else (note_of done w).low)
  unfolding at_bound system_in choice_of
  at_bound_is w = refl

  done_values : (w : ℕ) → Contains d.names w → (note_of done w).value ≡ value (system_in done) (choice_of done) w
  done_values w c = elim (h.split.either w c) [
    | inl b ↦ ap Noted.value (basic_note w b) ∙ ap (λ (s : System). value s (choice_of stood) w) (sym done_system) ∙ ap (λ (x : Choice). value (system_in done) x w) (sym done_choice)
    | inr o ↦ ap Noted.value (other_note w o) ∙ sym (ap (λ (n : Noted). if n.at_high then n.high else n.low) (other_note w o)) ∙ sym (at_bound_is w) ∙ sym (value_other (system_in done) (choice_of done) w (to_other w o))
  ]

  done_reduced : (w : ℕ) → Contains d.names w → (note_of done w).reduced ≡ reduced (system_in done) (choice_of done) w
  done_reduced w c = elim (h.split.either w c) [
    | inl b ↦ ap Noted.reduced (basic_note w b) ∙ unpriced w c ∙ sym (reduced_basic (system_in done) (choice_of done) w (to_basic w b))
    | inr o ↦ ap Noted.reduced (other_note w o) ∙ sym (asked_is w)
  ]

  keeps : {X : Type 0} (p : Noted → X) → ((e : Dictionary) (w : ℕ) → p (value_note e w) ≡ p (note_of e w)) → ((e : Dictionary) (w : ℕ) → p (stand_note e w) ≡ p (note_of e w)) → (w : ℕ) → p (note_of done w) ≡ p (note_of d w)
  unfolding done
  keeps p v s w = let e : Dictionary = noted_anew d (stand_note d) in anew_keeps e stood_sound (value_note e) p (v e) w ∙ anew_keeps d h (stand_note d) p (s d) w

  named : (w : ℕ) → Contains (system_in done).variables w → Contains d.names w
  unfolding done noted_anew system_in
  named w c = c

  low_is : (w : ℕ) → (system_in done).low w ≡ (note_of d w).low
  unfolding system_in
  low_is w = keeps Noted.low value-low stand-low w

  high_is : (w : ℕ) → (system_in done).high w ≡ (note_of d w).high
  unfolding system_in
  high_is w = keeps Noted.high value-high stand-high w

  -- the sign of what is noted is as the flag says
  low_sign : (w : ℕ) → Contains d.others w → (note_of done w).at_high ≡ false → (note_of done w).reduced ≤ℚ whole (pos 0)
  low_sign w o e = subst (λ x. x ≤ℚ whole (pos 0)) (sym (ap Noted.reduced (other_note w o))) (asked_low (asked w) (sym (ap Noted.at_high (other_note w o)) ∙ e))

  high_sign : (w : ℕ) → Contains d.others w → (note_of done w).at_high ≡ true → whole (pos 0) ≤ℚ (note_of done w).reduced
  high_sign w o e = subst (λ x. whole (pos 0) ≤ℚ x) (sym (ap Noted.reduced (other_note w o))) (asked_high (asked w) (sym (ap Noted.at_high (other_note w o)) ∙ e))

  done_posed : IsPosed (system_in done) (state_of done)
  unfolding state_of choice_of
  done_posed = posed_by_choice (system_in done) (state_of done) (system_is done done_sound)
      (λ w c. subst₂ ◌≤ℚ◌ (sym (low_is w)) (sym (high_is w)) (ordered w (named w c)))
      (done_sound.solutions done_live)
      (λ w c. done_values w (named w c))
      (λ w c. done_reduced w (named w c))
      (λ w c free e. low_sign w (other_of w c) e)
      (λ w c free e. high_sign w (other_of w c) e)

  -- with bounds and reduced prices of 0 it becomes ready
  pub stands_ready : IsReady (noted_anew (noted_anew d (stand_note d)) (value_note (noted_anew d (stand_note d))))
  unfolding done
  stands_ready = record { sound = done_sound; live = done_live; posed = done_posed }

  pub stands_price : (w : ℕ) → (system_in (noted_anew (noted_anew d (stand_note d)) (value_note (noted_anew d (stand_note d))))).price w ≡ (note_of d w).price
  unfolding done system_in
  stands_price w = keeps Noted.price value-price stand-price w

  pub stands_low : (w : ℕ) → (system_in (noted_anew (noted_anew d (stand_note d)) (value_note (noted_anew d (stand_note d))))).low w ≡ (note_of d w).low
  unfolding done
  stands_low w = low_is w

  pub stands_high : (w : ℕ) → (system_in (noted_anew (noted_anew d (stand_note d)) (value_note (noted_anew d (stand_note d))))).high w ≡ (note_of d w).high
  unfolding done
  stands_high w = high_is w

  -- prices and bounds stay
  pub stands_system : system_in (noted_anew (noted_anew d (stand_note d)) (value_note (noted_anew d (stand_note d)))) ≡ system_in d
  unfolding done stood
  stands_system = done_system ∙ stood_system

  pub stands_first : system_in (noted_anew d (stand_note d)) ≡ system_in d
  unfolding stood
  stands_first = stood_system

-- bounds in order by their places
ordered_at : {N : Type 0} (value : N → Fraction) (xs : List (Bounds N)) → All (λ b. value b.low ≤ℚ value b.high) xs → (k : ℕ) → k < length xs → low_at value xs k ≤ℚ high_at value xs k
ordered_at value [] h k l = absurd (Prim.omega (arith, l))
ordered_at value (x ∷ xs) h zero l = h 0 x (Prim.omega arith)
ordered_at value (x ∷ xs) h (suc k) l = ordered_at value xs (λ i b m. h (suc i) b (Prim.omega (arith, m))) k (Prim.omega (arith, l))

pub put_sound : (d : Dictionary) (names : List ℕ) (f : ℕ → Noted) (e : Dictionary) → IsDictionary d → HasNotes d names f e → IsDictionary e
put_sound d names f e h p = subst IsDictionary (sym p.is) (renoted_dictionary d e.notes p.count h)

module _ {N : Type 0} (value : N → Fraction) (d : Dictionary) (h : IsDictionary d) (prices : List N) (bounds : List (Bounds N)) (count : length prices ≡ length d.columns) (e f : Dictionary)
    (columns : HasNotes d d.columns (column_note value prices bounds) e) (rows : HasNotes e e.rows (row_note value (length prices) bounds) f) where
  same_rows : e.rows ≡ d.rows
  same_rows = ap Dictionary.rows columns.is

  pub put_both : IsPut value d prices bounds f
  put_both = record {
    is = rows.is ∙ ap (λ (x : Dictionary). let y : Dictionary = record x { notes = f.notes } in y) columns.is;
    count = rows.count ∙ ap (λ (x : Dictionary). length x.names) columns.is;
    columns = λ k l.
        let w : ℕ = slice_index d.columns k in
        rows.rest w (λ m. h.put_in.apart w (subst (λ (rs : List ℕ). Contains rs w) same_rows m) (Contains-at d.columns k l)) ∙ columns.each k l;
    rows = λ k l.
        let m : k < length e.rows = Prim.omega (arith, l, ap length same_rows) in
        ap (λ (rs : List ℕ). note_of f (slice_index rs k)) (sym same_rows) ∙ rows.each k m ∙ ap (λ (n : ℕ). row_note value n bounds k) count;
  }

module _ {N : Type 0} (value : N → Fraction) (d : Dictionary) (h : IsDictionary d) (prices : List N) (bounds : List (Bounds N)) (f : Dictionary) (put : IsPut value d prices bounds f) where
  put_frame : f ≡ record d { notes = f.notes }
  put_frame = put.is

  pub put_is_sound : IsDictionary f
  put_is_sound = subst IsDictionary (sym put.is) (renoted_dictionary d f.notes put.count h)

  column_is : (k : ℕ) → k < length d.columns → note_of f (slice_index d.columns k) ≡ column_note value prices bounds k
  column_is = put.columns

  row_is : (k : ℕ) → k < length d.rows → note_of f (slice_index d.rows k) ≡ row_note value (length d.columns) bounds k
  row_is = put.rows

  put_named : (w : ℕ) → Contains f.names w → Contains d.names w
  put_named w c = subst (λ (x : Dictionary). Contains x.names w) put_frame c

  pub put_reduced : (w : ℕ) → Contains f.names w → (note_of f w).reduced ≡ whole (pos 0)
  put_reduced w c = elim (h.put_in.either w (put_named w c)) [
    | inl row ↦ let at = place_in-within d.rows w row in ap (λ (x : ℕ). (note_of f x).reduced) (sym at.1) ∙ ap Noted.reduced (row_is (place_in d.rows w) at.0)
    | inr column ↦ let at = place_in-within d.columns w column in ap (λ (x : ℕ). (note_of f x).reduced) (sym at.1) ∙ ap Noted.reduced (column_is (place_in d.columns w) at.0)
  ]

  pub put_value : (w : ℕ) → Contains f.names w → (note_of f w).value ≡ whole (pos 0)
  put_value w c = elim (h.put_in.either w (put_named w c)) [
    | inl row ↦ let at = place_in-within d.rows w row in ap (λ (x : ℕ). (note_of f x).value) (sym at.1) ∙ ap Noted.value (row_is (place_in d.rows w) at.0)
    | inr column ↦ let at = place_in-within d.columns w column in ap (λ (x : ℕ). (note_of f x).value) (sym at.1) ∙ ap Noted.value (column_is (place_in d.columns w) at.0)
  ]

  pub put_unpriced : (w : ℕ) → Contains f.rows w → (system_in f).price w ≡ whole (pos 0)
  unfolding system_in
  put_unpriced w c =
      let at = place_in-within d.rows w (subst (λ (x : Dictionary). Contains x.rows w) put_frame c) in
      ap (λ (x : ℕ). (note_of f x).price) (sym at.1) ∙ ap Noted.price (row_is (place_in d.rows w) at.0)

  -- values stay 0 while the others find their bounds
  pub stood_blank : (g : Dictionary) → g ≡ noted_anew f (stand_note f) → (b : ℕ) → Contains g.basics b → (note_of g b).value ≡ whole (pos 0)
  stood_blank g eg b c =
      let basic : Contains f.basics b = subst (λ (bs : List ℕ). Contains bs b) (ap Dictionary.basics eg ∙ anew_basics f put_is_sound (stand_note f)) c in
      let named : Contains f.names b = put_is_sound.split.first_named b basic in
      ap (λ (x : Dictionary). (note_of x b).value) eg ∙ ap Noted.value (note_anew f (stand_note f) b named ∙ stand-basic f put_is_sound b basic) ∙ put_value b named

  module _ (size : length bounds ≡ length d.columns + length d.rows) (ordered : All (λ b. value b.low ≤ℚ value b.high) bounds) where
    pub put_ordered : (w : ℕ) → Contains f.names w → (note_of f w).low ≤ℚ (note_of f w).high
    put_ordered w c = elim (h.put_in.either w (put_named w c)) [
      | inl row ↦
          let at = place_in-within d.rows w row in
          let n = ap (note_of f) (sym at.1) ∙ row_is (place_in d.rows w) at.0 in
          subst₂ ◌≤ℚ◌ (sym (ap Noted.low n)) (sym (ap Noted.high n)) (ordered_at value bounds ordered (length d.columns + place_in d.rows w) (Prim.omega (arith, at.0, size)))
      | inr column ↦
          let at = place_in-within d.columns w column in
          let n = ap (note_of f) (sym at.1) ∙ column_is (place_in d.columns w) at.0 in
          subst₂ ◌≤ℚ◌ (sym (ap Noted.low n)) (sym (ap Noted.high n)) (ordered_at value bounds ordered (place_in d.columns w) (Prim.omega (arith, at.0, size)))
    ]

    module _ (live : d.spent ≡ false) where
      put_live : f.spent ≡ false
      put_live = ap (λ (x : Dictionary). x.spent) put_frame ∙ live

      end : Dictionary
      end = noted_anew (noted_anew f (stand_note f)) (value_note (noted_anew f (stand_note f)))

      -- prices and bounds are those handed in, and the rest stays
      posed_so : IsPosing value d prices bounds end
      unfolding end noted_anew
      posed_so = record {
        columns = ap Dictionary.columns put_frame;
        rows = ap Dictionary.rows put_frame;
        coefficients = ap Dictionary.coefficients put_frame;
        names = ap Dictionary.names put_frame;
        others = ap Dictionary.others put_frame;
        basics = ap Dictionary.basics put_frame;
        table = ap Dictionary.table put_frame;
        price = λ k l. stands_price f put_is_sound put_live put_ordered put_reduced (slice_index d.columns k) ∙ ap Noted.price (column_is k l);
        column_low = λ k l. stands_low f put_is_sound put_live put_ordered put_reduced (slice_index d.columns k) ∙ ap Noted.low (column_is k l);
        column_high = λ k l. stands_high f put_is_sound put_live put_ordered put_reduced (slice_index d.columns k) ∙ ap Noted.high (column_is k l);
        row_low = λ k l. stands_low f put_is_sound put_live put_ordered put_reduced (slice_index d.rows k) ∙ ap Noted.low (row_is k l);
        row_high = λ k l. stands_high f put_is_sound put_live put_ordered put_reduced (slice_index d.rows k) ∙ ap Noted.high (row_is k l);
        ready = stands_ready f put_is_sound put_live put_ordered put_reduced;
      }

      pub posing : (g k : Dictionary) → g ≡ noted_anew f (stand_note f) → k ≡ noted_anew g (value_note g) → IsPosing value d prices bounds k
      unfolding end
      posing g k eg ek = subst (IsPosing value d prices bounds) (sym (ek ∙ ap (λ (x : Dictionary). noted_anew x (value_note x)) eg)) posed_so

      -- a working pair on the way is one of the system that would be posed
      pub posed_pair : (most : ℕ) (p : Passed N) → IsFixedPair value most f p → IsFixedPairPosed value most d prices bounds p
      unfolding end noted_anew
      posed_pair most p pair =
          (end, posed_so, fixed_of end f (sym (stands_system f put_is_sound put_live put_ordered put_reduced)) (λ w o equal. o) most p.op (value p.left) (value p.right) pair)

      pub posed_pair_later : (most : ℕ) (p : Passed N) (g : Dictionary) → g ≡ noted_anew f (stand_note f) → IsFixedPair value most g p → IsFixedPairPosed value most d prices bounds p
      posed_pair_later most p g eg pair =
          posed_pair most p (fixed_of f g (ap system_in eg ∙ stands_first f put_is_sound put_live put_ordered put_reduced)
          (λ w o equal. subst (λ (ws : List ℕ). Contains ws w) (sym (ap Dictionary.others eg ∙ anew_others f put_is_sound (stand_note f))) o) most p.op (value p.left) (value p.right) pair)

-- as a pair without what is said of its choices
pub posed_plain : {N : Type 0} (value : N → Fraction) (most : ℕ) (d : Dictionary) (prices : List N) (bounds : List (Bounds N)) (p : Passed N)
    → IsFixedPairPosed value most d prices bounds p → IsPairPosed value most d prices bounds p
posed_plain value most d prices bounds p h = (h.0, h.1, h.2.pair)
