-- From a solved dictionary with variables held to the next one: it is posed as they are held, at a price of 1 for one column, run, and brought
-- back to its own prices and bounds.
use Rattle.std.specs.Prelude.{◌≡◌, ◌≢◌, ℕ, ◌++◌, ◌∷◌, [], pos, Bool, true, false, if◌then◌else◌, is_some, List, slice_index_or, Option, Some, None, refl}
use Rattle.std.specs.List.{Contains}
use Rattle.std.specs.Option.{option_map_or}
use Rattle.std.proofs.Common.{ap, ap₂, sym, ◌∙◌, subst, inl, inr}
use Rattle.exact_fraction.specs.declared.Op.{Op}
use Rattle.fraction_theory.specs.Fraction.{Fraction, whole}
use Rattle.fraction_theory.specs.Order.{◌≤ℚ◌}
use Rattle.fraction_theory.specs.Signs.{sign_of}
use Rattle.fraction_theory.specs.Sums.{total}
use Rattle.fraction_theory.proofs.ListSums.{Contains-filter}
use Rattle.fraction_theory.proofs.OrderLaws.{≤ℚ_of_same, ≤ℚ_trans}
use Rattle.linear_dict.specs.Dictionaries.{Dictionary, IsDictionary, choice_of, entry_of, note_of, system_in}
use Rattle.linear_dict.specs.Notes.{Noted, blank}
use Rattle.linear_dict.specs.Places.{is_among, place_in}
use Rattle.linear_dict.proofs.NameLemmas.{among-tells}
use Rattle.linear_dict.proofs.SplitLemmas.{in_others, system_is}
use Rattle.linear_system.specs.Choices.{Choice, IsChoice, at_bound, reduced, value, value_terms}
use Rattle.linear_system.specs.Pairs.{IsSystemPair}
use Rattle.linear_system.specs.SameSystems.{SameSystem}
use Rattle.linear_system.specs.Systems.{System, InBounds, IsSystem, MeetsRows}
use Rattle.linear_system.proofs.ChoiceLaws.{is_basic, is_other}
use Rattle.linear_system.proofs.SameSystems.{same_rows_choice, same_rows_met, turned_round}
use Rattle.optimal_face.specs.Faces.{Held, Shows, bound_at, held_at, holds, more_held, price_of_one}
use Rattle.optimal_face.specs.FirstPoints.{HoldsFirst}
use Rattle.optimal_face.specs.Laws.{ComesFrom, KeepsHeld}
use Rattle.optimal_face.proofs.HeldLemmas.{bounds_free, bounds_held, meets_held, held_meets, more_held-held, more_held-priced, more_held-free, priced_or_not, within_by_price, held_is_system}
use Rattle.optimal_face.proofs.NextLemmas.{law_of_the_next}
use Rattle.optimal_face.proofs.NumberLemmas.{at_held, value_held}
use Rattle.optimal_face.proofs.ReturnLemmas.{law_of_the_return}
use Rattle.simplex_core.specs.Fixed.{IsFixedSystemPair, KeepsFixed}
use Rattle.simplex_core.specs.Outcomes.{Keeps, ShowsChoice}
use Rattle.simplex_core.specs.States.{state_of}
use Rattle.simplex_core.specs.Turns.{noted_anew}
use Rattle.simplex_core.proofs.AnewLaws.{anew_basic, anew_entry, anew_sound}
use Rattle.simplex_core.proofs.NoteLaws.{funext, note_anew, note_unnamed, system_stays}
use Rattle.simplex_theory.specs.States.{HasNoPoint, IsSolved, State}
use Rattle.simplex_theory.proofs.SameStates.{same_reduced, same_solved, same_value, same_within}
use Rattle.simplex_theory.proofs.Stretches.{by_answer}
use Rattle.first_best.specs.Holding.{back_note}
use Rattle.first_best.specs.Outcomes.{HasSystem, IsFace}
use Rattle.first_best.proofs.HoldLemmas.{named_or_absent, note_absent}
use Rattle.first_best.proofs.PairLemmas.{pair_of_face}

-- p has the names of d as they were put in, and its other variables
pub record IsPut (d p : Dictionary) : Type 0 where
  pub columns : p.columns ≡ d.columns
  pub rows : p.rows ≡ d.rows
  pub coefficients : p.coefficients ≡ d.coefficients
  pub names : p.names ≡ d.names
  pub others : p.others ≡ d.others

names_are : (d : Dictionary) → (system_in d).variables ≡ d.names
unfolding system_in
names_are d = refl

-- the value of an other variable
pub value_at : (s : System) (h : Choice) (w : ℕ) (high : Bool) → h.basic w ≡ false → h.high w ≡ high → value s h w ≡ bound_at s w high
unfolding value at_bound bound_at
value_at s h w high basic flag = ap₂ (λ (b f : Bool). if b then total (value_terms s h w) else if f then s.high w else s.low w) basic flag

some_same : {a b : Bool} → Some a ≡ Some b → a ≡ b
some_same e = Prim.cc

-- a flag is the same by what is held now as by what was held
flag_same : (o : Option Bool) (x : Bool) (priced : Bool) → option_map_or (λ (f : Bool). f) (if is_some o then o else if priced then Some x else None) x ≡ option_map_or (λ (f : Bool). f) o x
flag_same (Some f) x priced = refl
flag_same None x true = refl
flag_same None x false = refl

pub named_variable : (d : Dictionary) (w : ℕ) → Contains d.names w → Contains (system_in d).variables w
named_variable d w c = subst (λ (ws : List ℕ). Contains ws w) (sym (names_are d)) c

pub variable_named : (d : Dictionary) (w : ℕ) → Contains (system_in d).variables w → Contains d.names w
variable_named d w c = subst (λ (ws : List ℕ). Contains ws w) (names_are d) c

module _ (d : Dictionary) (names : List ℕ) (held : Held) (j : ℕ) (face : IsFace d names held) where
  -- the point in hand keeps the bounds at which variables are held
  pub stays_within : InBounds (held_at (system_in d) held (price_of_one j)) (state_of d).value
  unfolding held_at
  stays_within = record { low = λ w c. (both w (variable_named d w (of_face w c)) (held w) refl).0; high = λ w c. (both w (variable_named d w (of_face w c)) (held w) refl).1 }
    where
      of_face : (w : ℕ) → Contains (held_at (system_in d) held (price_of_one j)).variables w → Contains (system_in d).variables w
      of_face w c = c

      both : (w : ℕ) → Contains d.names w → (o : Option Bool) → held w ≡ o
          → ((held_at (system_in d) held (price_of_one j)).low w ≤ℚ (state_of d).value w) × ((state_of d).value w ≤ℚ (held_at (system_in d) held (price_of_one j)).high w)
      both w c None e =
          let free = bounds_free (system_in d) held (price_of_one j) w e in
          let at = face.solved.best.within in
          (subst (λ x. x ≤ℚ (state_of d).value w) (sym free.0) (at.low w (named_variable d w c)), subst (λ x. (state_of d).value w ≤ℚ x) (sym free.1) (at.high w (named_variable d w c)))
      both w c (Some high) e =
          let stands = face.stands w high c e in
          let at = bounds_held (system_in d) held (price_of_one j) w high e in
          let is : (state_of d).value w ≡ bound_at (system_in d) w high = face.shows.values w c ∙ value_at (system_in d) (choice_of d) w high stands.0 stands.1 in
          (≤ℚ_of_same _ _ (at.0 ∙ sym is), ≤ℚ_of_same _ _ (is ∙ sym at.1))

  -- so none of its low bounds is above the high one
  pub held_in_order : (w : ℕ) → Contains d.names w → (held_at (system_in d) held (price_of_one j)).low w ≤ℚ (held_at (system_in d) held (price_of_one j)).high w
  unfolding held_at
  held_in_order w c = ≤ℚ_trans _ ((state_of d).value w) _ (stays_within.low w (named_variable d w c)) (stays_within.high w (named_variable d w c))

module _ (d p : Dictionary) (names : List ℕ) (held : Held) (j : ℕ) (face : IsFace d names held) (absent : (w : ℕ) → ¬ (Contains d.names w) → held w ≡ None)
    (column : Contains d.columns j) (put : IsPut d p) (same : SameSystem (system_in p) (held_at (system_in d) held (price_of_one j))) where
  system : IsSystem (system_in d)
  system = system_is d face.sound

  known : (w : ℕ) → Contains d.names w → Contains (system_in d).variables w
  known w c = subst (λ (ws : List ℕ). Contains ws w) (sym (names_are d)) c

  known_back : (w : ℕ) → Contains (system_in d).variables w → Contains d.names w
  known_back w c = subst (λ (ws : List ℕ). Contains ws w) (names_are d) c

  known_there : (w : ℕ) → Contains d.names w → Contains (system_in p).variables w
  known_there w c = subst (λ (ws : List ℕ). Contains ws w) (sym (names_are p ∙ put.names)) c

  column_here : Contains (system_in d).columns j
  unfolding system_in
  column_here = Contains-filter (is_among d.columns) d.names j (face.sound.put_in.second_named j column) (among-tells d.columns j column)

  -- so the posed system has a point
  pub not_empty : ¬ (HasNoPoint (system_in p))
  not_empty none = none.none (state_of d).value
      (same_rows_met (held_at (system_in d) held (price_of_one j)) (system_in p) (turned_round (system_in p) (held_at (system_in d) held (price_of_one j)) same) (state_of d).value
      (meets_held (system_in d) held (price_of_one j) (state_of d).value face.solved.best.meets))
      (same_within (held_at (system_in d) held (price_of_one j)) (system_in p) (turned_round (system_in p) (held_at (system_in d) held (price_of_one j)) same) (state_of d).value (stays_within d names held j face))

  -- a choice that keeps what is fixed has what is held among its others
  pub fixed_held : (h : Choice) → KeepsFixed p h → (w : ℕ) (high : Bool) → Contains d.names w → held w ≡ Some high → h.basic w ≡ false
  fixed_held h kept w high c e =
      let stands = face.stands w high c e in
      let other : Contains d.others w = in_others d face.sound w (is_other (system_in d) (choice_of d) w (known w c) stands.0) in
      let at = bounds_held (system_in d) held (price_of_one j) w high e in
      kept.others w (subst (λ (ws : List ℕ). Contains ws w) (sym put.others) other)
      (same.low w (known_there w c) ∙ at.0 ∙ sym at.1 ∙ sym (same.high w (known_there w c)))

  fixed_keeps : (h : Choice) → KeepsFixed p h → KeepsHeld (system_in d) held h
  fixed_keeps h kept = record { others = λ w high c e. fixed_held h kept w high (known_back w c) e }

  pub pair_back : (bound : ℕ) (op : Op) (l r : Fraction) → IsFixedSystemPair p bound op l r → IsSystemPair (system_in d) bound op l r
  pair_back bound op l r fixed =
      pair_of_face (system_in p) (system_in d) held j system column_here same bound op l r fixed.pair (fixed_keeps fixed.pair.one fixed.one) (fixed_keeps fixed.pair.near fixed.near)

  -- ---- the run has ended
  module _ (e : Dictionary) (keeps : Keeps p e) (shows : ShowsChoice e) (solved : IsSolved (system_in e) (state_of e)) (kept : KeepsFixed p (choice_of e)) where
    same_end : SameSystem (system_in e) (held_at (system_in d) held (price_of_one j))
    same_end = subst (λ (s : System). SameSystem s (held_at (system_in d) held (price_of_one j))) (sym keeps.system) same

    names_end : e.names ≡ d.names
    names_end = keeps.names ∙ put.names

    named_end : (w : ℕ) → Contains d.names w → Contains e.names w
    named_end w c = subst (λ (ws : List ℕ). Contains ws w) (sym names_end) c

    known_end : (w : ℕ) → Contains d.names w → Contains (system_in e).variables w
    known_end w c = subst (λ (ws : List ℕ). Contains ws w) (sym (names_are e)) (named_end w c)

    of_face : (w : ℕ) → Contains (held_at (system_in d) held (price_of_one j)).variables w → Contains d.names w
    unfolding held_at
    of_face w c = known_back w c

    shows_face : Shows (held_at (system_in d) held (price_of_one j)) (state_of e)
    unfolding state_of
    shows_face = record {
      choice = same_rows_choice (system_in e) (held_at (system_in d) held (price_of_one j)) same_end.same_rows (choice_of e) shows.choice;
      values = λ w c. shows.values w (named_end w (of_face w c)) ∙ same_value (system_in e) (held_at (system_in d) held (price_of_one j)) same_end (choice_of e) w (known_end w (of_face w c));
      prices = λ w c. shows.prices w (named_end w (of_face w c)) ∙ same_reduced (system_in e) (held_at (system_in d) held (price_of_one j)) same_end (choice_of e) w;
    }

    solved_face : IsSolved (held_at (system_in d) held (price_of_one j)) (state_of e)
    solved_face = same_solved (system_in e) (held_at (system_in d) held (price_of_one j)) same_end (state_of e) solved

    next : HoldsFirst (system_in d) (names ++ j ∷ []) (more_held held (state_of e))
    next = law_of_the_next (system_in d) names held j (state_of e) system column_here face.first shows_face solved_face

    -- ---- the notes brought back
    abbrev more : Held
    more = more_held held (state_of e)

    abbrev before : Dictionary
    before = record e { notes = d.notes }

    abbrev pub after : Dictionary
    after = noted_anew e (back_note before more e)

    note_before : (w : ℕ) → note_of before w ≡ note_of d w
    unfolding note_of
    note_before w = ap (λ (ns : List ℕ). slice_index_or d.notes (place_in ns w) blank) names_end

    note_back : (w : ℕ) → Contains d.names w → note_of after w ≡ back_note before more e w
    note_back w c = note_anew e (back_note before more e) w (named_end w c)

    sound_end : IsDictionary e
    sound_end = keeps.ready.sound

    pub sound_after : IsDictionary after
    sound_after = anew_sound e sound_end (back_note before more e)

    names_after : after.names ≡ d.names
    unfolding noted_anew
    names_after = names_end

    -- what the notes that are brought back have from those of before
    as_before : {X : Type 0} (part : Noted → X) → ((w : ℕ) → part (back_note before more e w) ≡ part (note_of d w)) → (w : ℕ) → part (note_of after w) ≡ part (note_of d w)
    as_before part each w = elim (named_or_absent d.names w) [
      | inl c ↦ ap part (note_back w c) ∙ each w
      | inr n ↦ ap part (note_absent after sound_after w (λ c. n (subst (λ (ws : List ℕ). Contains ws w) names_after c)) ∙ sym (note_absent d face.sound w n))
    ]

    price_after : (w : ℕ) → (note_of after w).price ≡ (note_of d w).price
    unfolding back_note
    price_after = as_before Noted.price each
      where
        each : (w : ℕ) → (back_note before more e w).price ≡ (note_of d w).price
        each w = ap Noted.price (note_before w)

    low_after : (w : ℕ) → (note_of after w).low ≡ (note_of d w).low
    unfolding back_note
    low_after = as_before Noted.low each
      where
        each : (w : ℕ) → (back_note before more e w).low ≡ (note_of d w).low
        each w = ap Noted.low (note_before w)

    high_after : (w : ℕ) → (note_of after w).high ≡ (note_of d w).high
    unfolding back_note
    high_after = as_before Noted.high each
      where
        each : (w : ℕ) → (back_note before more e w).high ≡ (note_of d w).high
        each w = ap Noted.high (note_before w)

    reduced_after : (w : ℕ) → (note_of after w).reduced ≡ (note_of d w).reduced
    unfolding back_note
    reduced_after = as_before Noted.reduced each
      where
        each : (w : ℕ) → (back_note before more e w).reduced ≡ (note_of d w).reduced
        each w = ap Noted.reduced (note_before w)

    -- the value stays
    value_after : (w : ℕ) → Contains d.names w → (state_of after).value w ≡ (state_of e).value w
    unfolding state_of back_note
    value_after w c = ap Noted.value (note_back w c)

    pub same_after : HasSystem d after
    unfolding noted_anew state_of
    same_after = record {
      live = live;
      sound = sound_after;
      columns = columns;
      rows = rows;
      coefficients = coefficients;
      names = names_after;
      system = system_stays d after names_after columns rows coefficients price_after low_after high_after;
      reduced = reduced;
    }
      where
        live : after.spent ≡ false
        live = keeps.ready.live

        columns : after.columns ≡ d.columns
        columns = keeps.columns ∙ put.columns

        rows : after.rows ≡ d.rows
        rows = keeps.rows ∙ put.rows

        reduced : (w : ℕ) → (state_of after).reduced w ≡ (state_of d).reduced w
        reduced w = reduced_after w

        coefficients : after.coefficients ≡ d.coefficients
        coefficients = keeps.coefficients ∙ put.coefficients

    -- its choice is that of the run, each variable that is held at its bound
    flag_after : (w : ℕ) → (choice_of after).high w ≡ option_map_or (λ (f : Bool). f) (held w) ((choice_of e).high w)
    unfolding choice_of back_note more_held state_of
    flag_after w = elim (named_or_absent d.names w) [
      | inl c ↦ ap Noted.at_high (note_back w c) ∙ by
      | inr n ↦
          ap Noted.at_high (note_absent after sound_after w (λ c. n (subst (λ (ws : List ℕ). Contains ws w) names_after c)))
          ∙ sym (ap₂ (λ (o : Option Bool) (m : Noted). option_map_or (λ (f : Bool). f) o m.at_high) (absent w n) (note_absent e sound_end w (λ c. n (subst (λ (ws : List ℕ). Contains ws w) names_end c))))
    ]
      where
        by : (back_note before more e w).at_high ≡ option_map_or (λ (f : Bool). f) (held w) (note_of e w).at_high
        by = flag_same (held w) (note_of e w).at_high (holds (sign_of (note_of e w).reduced))

    choice_after : choice_of after ≡ at_held held (choice_of e)
    unfolding choice_of noted_anew entry_of
    choice_after = ap (λ (f : ℕ → Bool). let c : Choice = record (choice_of e) { high = f } in c) (funext (choice_of after).high (at_held held (choice_of e)).high flag_after)

    basic_after : (w : ℕ) → (choice_of after).basic w ≡ (choice_of e).basic w
    basic_after w = anew_basic e sound_end (back_note before more e) w

    -- a variable that is held by now, and where it stands
    stands_after : (w : ℕ) (high : Bool) → Contains d.names w → more w ≡ Some high → ((choice_of after).basic w ≡ false) × ((choice_of after).high w ≡ high)
    unfolding state_of
    stands_after w high c is = by (held w) refl
      where
        no_price : (w : ℕ) → Contains d.names w → (choice_of e).basic w ≡ true → (state_of e).reduced w ≡ whole (pos 0)
        no_price w c b = solved.basic w (is_basic (system_in e) (choice_of e) w (known_end w c) b)

        flag_end : (state_of e).choice.high w ≡ (choice_of e).high w
        flag_end = refl

        by : (o : Option Bool) → held w ≡ o → ((choice_of after).basic w ≡ false) × ((choice_of after).high w ≡ high)
        by (Some f) q =
            let same_flag : Some f ≡ Some high = sym (more_held-held held (state_of e) w f q) ∙ is in
            (basic_after w ∙ fixed_held (choice_of e) kept w f c q, flag_after w ∙ ap (λ (o : Option Bool). option_map_or (λ (x : Bool). x) o ((choice_of e).high w)) (q ∙ same_flag))
        by None q = elim (priced_or_not ((state_of e).reduced w)) [
          | inl nil ↦ let none : None ≡ Some high = sym (more_held-free held (state_of e) w q nil.1) ∙ is in absurd Prim.cc
          | inr priced ↦ (
            basic_after w ∙ by_answer ((choice_of e).basic w) (λ b. absurd (priced.0 (no_price w c b))) (λ b. b),
            flag_after w ∙ ap (λ (o : Option Bool). option_map_or (λ (x : Bool). x) o ((choice_of e).high w)) q ∙ sym flag_end ∙ some_same (sym (more_held-priced held (state_of e) w q priced.1) ∙ is),
          )
        ]

    -- ---- the state that is brought back
    value_is : (w : ℕ) → Contains d.names w → (state_of after).value w ≡ value (system_in d) (choice_of after) w
    unfolding state_of held_at
    value_is w c =
        value_after w c ∙ shows_face.values w (to_face w c)
        ∙ value_held (system_in d) held (price_of_one j) (state_of e).choice w
        ∙ ap (λ (h : Choice). value (system_in d) (at_held held h) w) choice_end
        ∙ ap (λ (h : Choice). value (system_in d) h w) (sym choice_after)
      where
        choice_end : (state_of e).choice ≡ choice_of e
        choice_end = refl

        to_face : (w : ℕ) → Contains d.names w → Contains (held_at (system_in d) held (price_of_one j)).variables w
        to_face w c = known w c

    meets_end : MeetsRows (system_in d) (state_of e).value
    meets_end = held_meets (system_in d) held (price_of_one j) (state_of e).value solved_face.best.meets

    within_end : InBounds (system_in d) (state_of e).value
    within_end = ((face.first (state_of e).value meets_end).0 (within_by_price (system_in d) held (price_of_one j) (system_in d).price (state_of e).value solved_face.best.within)).best.within

    choice_is : IsChoice (system_in d) (choice_of after)
    choice_is = subst (λ (s : System). IsChoice s (choice_of after)) same_after.system (sound_after.solutions same_after.live)

    comes : ComesFrom (system_in d) (state_of d) (state_of after)
    unfolding state_of
    comes = record {
      choice = choice_is;
      values = λ w c. value_is w (known_back w c);
      prices = λ w c. reduced_after w;
      within = record {
        low = λ w c. subst (λ x. (system_in d).low w ≤ℚ x) (sym (value_after w (known_back w c))) (within_end.low w c);
        high = λ w c. subst (λ x. x ≤ℚ (system_in d).high w) (sym (value_after w (known_back w c))) (within_end.high w c);
      };
      stays = λ w c n.
          let is = face.priced w (known_back w c) n in (
            basic_after w ∙ fixed_held (choice_of e) kept w ((choice_of d).high w) (known_back w c) is,
            flag_after w ∙ ap (λ (o : Option Bool). option_map_or (λ (x : Bool). x) o ((choice_of e).high w)) is,
          );
    }

    shown : Shows (system_in d) (state_of d)
    unfolding state_of
    shown = record {
      choice = face.shows.choice;
      values = λ w c. face.shows.values w (known_back w c);
      prices = λ w c. face.shows.prices w (known_back w c);
    }

    returned : Shows (system_in d) (state_of after) × IsSolved (system_in d) (state_of after)
    returned = law_of_the_return (system_in d) (state_of d) (state_of after) system shown face.solved comes

    shows_after : ShowsChoice after
    unfolding state_of
    shows_after = record {
      choice = sound_after.solutions same_after.live;
      values = λ w c. value_is w (back w c) ∙ ap (λ (s : System). value s (choice_of after) w) (sym same_after.system);
      prices = λ w c. returned.0.prices w (known w (back w c)) ∙ ap (λ (s : System). reduced s (choice_of after) w) (sym same_after.system);
    }
      where
        back : (w : ℕ) → Contains after.names w → Contains d.names w
        back w c = subst (λ (ws : List ℕ). Contains ws w) names_after c

    pub face_after : IsFace after (names ++ j ∷ []) (more_held held (state_of e))
    unfolding state_of
    face_after = record {
      live = same_after.live;
      sound = sound_after;
      shows = shows_after;
      solved = subst (λ (s : System). IsSolved s (state_of after)) (sym same_after.system) returned.1;
      priced = λ w c n. priced w (back w c) n;
      stands = λ w high c is. stands_after w high (back w c) is;
      first = subst (λ (s : System). HoldsFirst s (names ++ j ∷ []) (more_held held (state_of e))) (sym same_after.system) next;
    }
      where
        back : (w : ℕ) → Contains after.names w → Contains d.names w
        back w c = subst (λ (ws : List ℕ). Contains ws w) names_after c

        priced : (w : ℕ) → Contains d.names w → (state_of after).reduced w ≢ whole (pos 0) → more_held held (state_of e) w ≡ Some ((choice_of after).high w)
        priced w c n =
            let is = face.priced w c (λ z. n (reduced_after w ∙ z)) in
            more_held-held held (state_of e) w ((choice_of d).high w) is
            ∙ ap Some (sym (flag_after w ∙ ap (λ (o : Option Bool). option_map_or (λ (x : Bool). x) o ((choice_of e).high w)) is))
