-- An other variable of a face that is not held goes from its low bound to its high one, where the basic variables stay within their bounds by
-- that: the face is the same.
use Rattle.std.specs.Prelude.{◌≡◌, ◌≢◌, ℕ, ◌<◌, ◌==◌, ◌++◌, ◌∷◌, [], pos, Bool, true, false, if◌then◌else◌, List, Option, Some, None, length, slice_index, slice_index_or, slice_set, refl}
use Rattle.std.specs.List.{Contains}
use Rattle.std.proofs.Common.{arith, ap, ap₂, sym, ◌∙◌, subst, subst₂, inl, inr}
use Rattle.std.proofs.lemmas.List.{map-append}
use Rattle.std.proofs.lemmas.List.Elements.{Contains-append_cases}
use Rattle.fraction_theory.specs.Fraction.{Fraction, whole, ◌+ℚ◌, ◌-ℚ◌, ◌*ℚ◌, neg_ℚ}
use Rattle.fraction_theory.specs.Order.{◌≤ℚ◌}
use Rattle.fraction_theory.specs.Sums.{sum_by, total}
use Rattle.fraction_theory.proofs.FieldLaws.{ring_ℚ}
use Rattle.fraction_theory.proofs.ListSums.{Contains-cases, Distinct, Distinct-increasing, put_at-here, put_at-elsewhere, same_or_not}
use Rattle.fraction_theory.proofs.OrderLaws.{≤ℚ_of_same, ≤ℚ_trans}
use Rattle.fraction_theory.proofs.Ring.{by_ring, at, pneg, ◌⊕◌, ◌⊗◌}
use Rattle.fraction_theory.proofs.SumLaws.{total-Product}
use Rattle.linear_dict.specs.Dictionaries.{Dictionary, IsDictionary, choice_of, entry_of, note_of, system_in}
use Rattle.linear_dict.specs.Notes.{Noted}
use Rattle.linear_dict.specs.Places.{place_in, is_among}
use Rattle.linear_dict.proofs.NameLemmas.{among-tells, among-not}
use Rattle.linear_dict.proofs.SplitLemmas.{other_in, system_is}
use Rattle.linear_system.specs.Choices.{Choice, IsChoice, at_bound, others, reduced, value, value_terms}
use Rattle.linear_system.specs.Systems.{System}
use Rattle.linear_system.proofs.ChoiceLaws.{others_are, others_distinct}
use Rattle.optimal_face.specs.Faces.{Held, Shows, bound_at}
use Rattle.optimal_face.specs.FirstPoints.{HoldsFirst}
use Rattle.optimal_face.specs.Laws.{ComesFrom}
use Rattle.optimal_face.proofs.ReturnLemmas.{law_of_the_return}
use Rattle.simplex_core.specs.Outcomes.{ShowsChoice}
use Rattle.simplex_core.specs.States.{state_of}
use Rattle.simplex_core.specs.Turns.{noted_anew}
use Rattle.simplex_core.proofs.AnewLaws.{anew_keeps, anew_sound, anew_system}
use Rattle.simplex_core.proofs.NoteLaws.{note_anew}
use Rattle.simplex_theory.specs.States.{IsSolved, IsWithin}
use Rattle.simplex_theory.proofs.NameSums.{sum_by-change}
use Rattle.first_best.specs.Holding.{held_by}
use Rattle.first_best.specs.Outcomes.{HasSystem, IsFace}
use Rattle.first_best.specs.Raising.{AreRaised, StandsHigh, as_it_stood, as_raised, raised_note, raised_value}
use Rattle.first_best.proofs.BackLemmas.{named_variable, value_at, variable_named}
use Rattle.first_best.proofs.HighLemmas.{held-high, high_bound, high_face}
use Rattle.first_best.proofs.HoldLemmas.{held-at}
use Rattle.first_best.proofs.PosedLemmas.{at_name}
use Rattle.first_best.proofs.StartLemmas.{first_shows, same_itself}

-- ---- the notes of a raised variable
module _ (d : Dictionary) (h : IsDictionary d) (j : ℕ) (values : List Fraction) (w : ℕ) where
  abbrev as_basic : Noted
  as_basic = record (note_of d w) { value = slice_index_or values (place_in d.basics w) (whole (pos 0)) }

  abbrev as_high : Noted
  as_high = record (note_of d w) { value = (note_of d w).high; at_high = true }

  pub raised-basic : Contains d.basics w → raised_note d j values w ≡ record (note_of d w) { value = slice_index_or values (place_in d.basics w) (whole (pos 0)) }
  unfolding raised_note choice_of
  raised-basic c = ap (λ (b : Bool). if b then as_basic else if w == j then as_high else note_of d w) (among-tells d.basics w c)

  by_name : Contains d.others w → raised_note d j values w ≡ (if w == j then as_high else note_of d w)
  unfolding raised_note choice_of
  by_name c = ap (λ (b : Bool). if b then as_basic else if w == j then as_high else note_of d w) (among-not d.basics w (λ m. h.split.apart w m c))

  pub raised-here : Contains d.others w → w ≡ j → raised_note d j values w ≡ record (note_of d w) { value = (note_of d w).high; at_high = true }
  raised-here c e = by_name c ∙ put_at-here j as_high (λ x. note_of d w) w e

  pub raised-staying : Contains d.others w → w ≢ j → raised_note d j values w ≡ note_of d w
  raised-staying c n = by_name c ∙ put_at-elsewhere j as_high (λ x. note_of d w) w n

  kept_by : {X : Type 0} (b c : Bool) (x y z : Noted) (part : Noted → X) → part x ≡ part (note_of d w) → part y ≡ part (note_of d w) → part z ≡ part (note_of d w)
      → part (if b then x else if c then y else z) ≡ part (note_of d w)
  kept_by true c x y z part p q r = p
  kept_by false true x y z part p q r = q
  kept_by false false x y z part p q r = r

  raised-price : (raised_note d j values w).price ≡ (note_of d w).price
  unfolding raised_note
  raised-price = kept_by ((choice_of d).basic w) (w == j) _ _ _ Noted.price refl refl refl

  raised-low : (raised_note d j values w).low ≡ (note_of d w).low
  unfolding raised_note
  raised-low = kept_by ((choice_of d).basic w) (w == j) _ _ _ Noted.low refl refl refl

  raised-high : (raised_note d j values w).high ≡ (note_of d w).high
  unfolding raised_note
  raised-high = kept_by ((choice_of d).basic w) (w == j) _ _ _ Noted.high refl refl refl

  raised-reduced : (raised_note d j values w).reduced ≡ (note_of d w).reduced
  unfolding raised_note
  raised-reduced = kept_by ((choice_of d).basic w) (w == j) _ _ _ Noted.reduced refl refl refl

-- a raised note asks nothing of other notes
pub raised_by_note : (e : Dictionary) (ns : List Noted) (j : ℕ) (values : List Fraction) (w : ℕ) → note_of (record e { notes = ns }) w ≡ note_of e w
    → raised_note (record e { notes = ns }) j values w ≡ raised_note e j values w
unfolding raised_note choice_of
raised_by_note e ns j values w same = ap (λ (n : Noted).
    if is_among e.basics w then record n { value = slice_index_or values (place_in e.basics w) (whole (pos 0)) }
    else if w == j then record n { value = n.high; at_high = true }
    else n) same

-- ---- values that a loop makes
pub raised_start : (d : Dictionary) (j : ℕ) (by : Fraction) → AreRaised d j by [] []
raised_start d j by = record { are = refl; within = λ b c. absurd (Prim.omega (arith, c.1)) }

pub raised_more : (d : Dictionary) (j : ℕ) (by : Fraction) (names : List ℕ) (values : List Fraction) (b : ℕ) (x : Fraction) → AreRaised d j by names values
    → x ≡ raised_value d j by b → IsWithin (system_in d) (raised_value d j by) b → AreRaised d j by (names ++ b ∷ []) (values ++ x ∷ [])
raised_more d j by names values b x are is inside = record {
  are = ap₂ (λ (ys : List Fraction) (y : Fraction). ys ++ y ∷ []) are.are is ∙ sym (map-append (raised_value d j by) names (b ∷ []));
  within = λ w c. elim (Contains-append_cases names (b ∷ []) w c) [
    | inl k ↦ are.within w k
    | inr k ↦ elim (Contains-cases b [] w k) [
      | inl e ↦ subst (IsWithin (system_in d) (raised_value d j by)) e inside
      | inr none ↦ absurd (Prim.omega (arith, none.1))
    ]
  ];
}

-- a value that the code adds up, and the bounds that it looks at
module _ (d : Dictionary) (b j : ℕ) (by entry x : Fraction) (note : Noted) (is : note ≡ note_of d b) (entry_is : entry ≡ (choice_of d).entry b j) (sum : x ≡ note.value +ℚ entry *ℚ by) where
  pub raised_is : x ≡ raised_value d j by b
  unfolding raised_value choice_of
  raised_is = sum ∙ ap₂ (λ (y t : Fraction). y +ℚ t *ℚ by) (ap Noted.value is) entry_is

  pub raised_within : note.low ≤ℚ x → x ≤ℚ note.high → IsWithin (system_in d) (raised_value d j by) b
  unfolding system_in
  raised_within above below = record { low = subst₂ ◌≤ℚ◌ (ap Noted.low is) raised_is above; high = subst₂ ◌≤ℚ◌ raised_is (ap Noted.high is) below }

-- ---- values of a choice
-- the value of a basic variable is a sum over the others
basic_sum : (s : System) (h : Choice) (w : ℕ) → h.basic w ≡ true → value s h w ≡ sum_by (λ o. h.entry w o *ℚ at_bound s h o) (others s h)
unfolding value value_terms
basic_sum s h w e = ap (λ (b : Bool). if b then total (value_terms s h w) else at_bound s h w) e ∙ total-Product (λ o. h.entry w o) (λ o. at_bound s h o) (others s h)

bound_here : (s : System) (h : Choice) (w : ℕ) (high : Bool) → h.high w ≡ high → at_bound s h w ≡ bound_at s w high
unfolding at_bound bound_at
bound_here s h w high e = ap (λ (b : Bool). if b then s.high w else s.low w) e

low_bound : (s : System) (w : ℕ) → bound_at s w false ≡ s.low w
unfolding bound_at
low_bound s w = refl

-- where one of the others goes from its low bound to its high one, a basic variable moves by its entry times that
value_moves : (s : System) (h k : Choice) (j b : ℕ) → Distinct s.variables → Contains (others s h) j → others s k ≡ others s h → ((o : ℕ) → k.entry b o ≡ h.entry b o)
    → h.basic b ≡ true → k.basic b ≡ true → h.high j ≡ false → k.high j ≡ true → ((o : ℕ) → Contains (others s h) o → o ≢ j → k.high o ≡ h.high o)
    → value s h b +ℚ h.entry b j *ℚ (s.high j -ℚ s.low j) ≡ value s k b
value_moves s h k j b distinct other same entries basic_h basic_k low high stays =
    let t : Fraction = h.entry b j in
    let before : Fraction = sum_by (λ o. h.entry b o *ℚ at_bound s h o) (others s h) in
    let after : Fraction = sum_by (λ o. k.entry b o *ℚ at_bound s k o) (others s h) in
    let change : before +ℚ t *ℚ s.high j ≡ after +ℚ t *ℚ s.low j =
    ap (λ x. before +ℚ x) (sym (ap₂ ◌*ℚ◌ (entries j) (bound_here s k j true high ∙ high_bound s j)))
    ∙ sum_by-change (λ o. h.entry b o *ℚ at_bound s h o) (λ o. k.entry b o *ℚ at_bound s k o) j (others s h) (others_distinct s h distinct) other
    (λ o c n. ap₂ ◌*ℚ◌ (sym (entries o)) (bound_here s h o (h.high o) refl ∙ sym (bound_here s k o (h.high o) (stays o c n))))
    ∙ ap (λ x. after +ℚ x) (ap (λ x. t *ℚ x) (bound_here s h j false low ∙ low_bound s j)) in
    ap (λ x. x +ℚ t *ℚ (s.high j -ℚ s.low j)) (basic_sum s h b basic_h)
    ∙ by_ring ring_ℚ (before ∷ t ∷ s.high j ∷ s.low j ∷ []) (at 0 ⊕ at 1 ⊗ (at 2 ⊕ pneg (at 3))) ((at 0 ⊕ at 1 ⊗ at 2) ⊕ pneg (at 1 ⊗ at 3)) refl
    ∙ ap (λ x. x +ℚ neg_ℚ (t *ℚ s.low j)) change
    ∙ by_ring ring_ℚ (after ∷ t ∷ s.low j ∷ []) ((at 0 ⊕ at 1 ⊗ at 2) ⊕ pneg (at 1 ⊗ at 2)) (at 0) refl
    ∙ ap (sum_by (λ o. k.entry b o *ℚ at_bound s k o)) (sym same)
    ∙ sym (basic_sum s k b basic_k)

-- ---- the face of a raised variable
module _ (d : Dictionary) (names : List ℕ) (held : Held) (j : ℕ) (face : IsFace d names held) (other : Contains d.others j) (free : held j ≡ None) (flag : (note_of d j).at_high ≡ false)
    (values : List Fraction) (are : AreRaised d j ((note_of d j).high -ℚ (note_of d j).low) d.basics values) where
  s : System
  s = system_in d

  h : IsDictionary d
  h = face.sound

  abbrev f : ℕ → Noted
  f = raised_note d j values

  abbrev pub risen : Dictionary
  risen = noted_anew d f

  named : Contains d.names j
  named = h.split.second_named j other

  sound_risen : IsDictionary risen
  sound_risen = anew_sound d h f

  reduced_risen : (w : ℕ) → (note_of risen w).reduced ≡ (note_of d w).reduced
  reduced_risen = anew_keeps d h f Noted.reduced (raised-reduced d h j values)

  pub same_risen : HasSystem d risen
  unfolding noted_anew state_of
  same_risen = record {
    live = face.live;
    sound = sound_risen;
    columns = refl;
    rows = refl;
    coefficients = refl;
    names = refl;
    system = anew_system d h f (raised-price d h j values) (raised-low d h j values) (raised-high d h j values);
    reduced = reduced_risen;
  }

  -- its choice
  basic_risen : (w : ℕ) → (choice_of risen).basic w ≡ (choice_of d).basic w
  unfolding noted_anew choice_of
  basic_risen w = refl

  entry_risen : (b w : ℕ) → (choice_of risen).entry b w ≡ (choice_of d).entry b w
  unfolding noted_anew choice_of entry_of
  entry_risen b w = refl

  others_risen : (t : System) → others t (choice_of risen) ≡ others t (choice_of d)
  unfolding noted_anew choice_of others
  others_risen t = refl

  pub high_here : (choice_of risen).high j ≡ true
  unfolding choice_of
  high_here = ap Noted.at_high (note_anew d f j named ∙ raised-here d h j values j other refl)

  high_elsewhere : (w : ℕ) → Contains d.names w → w ≢ j → (choice_of risen).high w ≡ (choice_of d).high w
  unfolding choice_of
  high_elsewhere w c n = ap Noted.at_high (note_anew d f w c) ∙ elim (h.split.either w c) [
    | inl b ↦ ap Noted.at_high (raised-basic d h j values w b)
    | inr o ↦ ap Noted.at_high (raised-staying d h j values w o n)
  ]

  basic_is : (w : ℕ) → Contains d.basics w → (choice_of d).basic w ≡ true
  unfolding choice_of
  basic_is w b = among-tells d.basics w b

  other_is : (w : ℕ) → Contains d.others w → (choice_of d).basic w ≡ false
  unfolding choice_of
  other_is w o = among-not d.basics w (λ b. h.split.apart w b o)

  pub other_risen : (choice_of risen).basic j ≡ false
  other_risen = basic_risen j ∙ other_is j other

  low_flag : (choice_of d).high j ≡ false
  unfolding choice_of
  low_flag = flag

  -- its values
  abbrev by : Fraction
  by = (note_of d j).high -ℚ (note_of d j).low

  value_basic : (w : ℕ) → Contains d.basics w → (state_of risen).value w ≡ raised_value d j by w
  unfolding state_of
  value_basic w b =
      ap Noted.value (note_anew d f w (h.split.first_named w b) ∙ raised-basic d h j values w b)
      ∙ ap (λ (xs : List Fraction). slice_index_or xs (place_in d.basics w) (whole (pos 0))) are.are
      ∙ at_name (raised_value d j by) (whole (pos 0)) d.basics w b

  value_here : (state_of risen).value j ≡ s.high j
  unfolding state_of system_in s
  value_here = ap Noted.value (note_anew d f j named ∙ raised-here d h j values j other refl)

  value_elsewhere : (w : ℕ) → Contains d.others w → w ≢ j → (state_of risen).value w ≡ (state_of d).value w
  unfolding state_of
  value_elsewhere w o n = ap Noted.value (note_anew d f w (h.split.second_named w o) ∙ raised-staying d h j values w o n)

  variable : (w : ℕ) → Contains d.names w → Contains s.variables w
  unfolding s
  variable w c = named_variable d w c

  variable_back : (w : ℕ) → Contains s.variables w → Contains d.names w
  unfolding s
  variable_back w c = variable_named d w c

  distinct : Distinct s.variables
  unfolding s
  distinct = Distinct-increasing (system_in d).variables (system_is d h).ascending

  moved : (w : ℕ) → Contains d.basics w → raised_value d j by w ≡ value s (choice_of risen) w
  unfolding raised_value state_of system_in choice_of s
  moved w b =
      ap (λ x. x +ℚ (choice_of d).entry w j *ℚ (s.high j -ℚ s.low j)) (face.shows.values w (h.split.first_named w b))
      ∙ value_moves s (choice_of d) (choice_of risen) j w distinct (other_in d h j other) (others_risen s) (entry_risen w) (basic_is w b) (basic_risen w ∙ basic_is w b) low_flag high_here
      (λ o c n. high_elsewhere o (variable_back o (others_are s (choice_of d) o c).0) n)

  value_is : (w : ℕ) → Contains d.names w → (state_of risen).value w ≡ value s (choice_of risen) w
  unfolding s
  value_is w c = elim (h.split.either w c) [
    | inl b ↦ value_basic w b ∙ moved w b
    | inr o ↦ elim (same_or_not w j) [
      | inl e ↦ ap (state_of risen).value e ∙ value_here ∙ sym (high_bound s j) ∙ sym (value_at s (choice_of risen) j true other_risen high_here) ∙ ap (value s (choice_of risen)) (sym e)
      | inr n ↦
          value_elsewhere w o n ∙ face.shows.values w c ∙ value_at s (choice_of d) w ((choice_of d).high w) (other_is w o) refl
          ∙ sym (value_at s (choice_of risen) w ((choice_of d).high w) (basic_risen w ∙ other_is w o) (high_elsewhere w c n))
    ]
  ]

  bounds : (w : ℕ) → Contains d.names w → (s.low w ≤ℚ (state_of risen).value w) × ((state_of risen).value w ≤ℚ s.high w)
  unfolding s
  bounds w c = elim (h.split.either w c) [
    | inl b ↦
        let inside = are.within w b in
        (subst (λ x. s.low w ≤ℚ x) (sym (value_basic w b)) inside.low, subst (λ x. x ≤ℚ s.high w) (sym (value_basic w b)) inside.high)
    | inr o ↦
        let at_d = face.solved.best.within in
        elim (same_or_not w j) [
          | inl e ↦
              let is : (state_of risen).value w ≡ s.high w = ap (state_of risen).value e ∙ value_here ∙ ap s.high (sym e) in (
                subst (λ x. s.low w ≤ℚ x) (sym is) (≤ℚ_trans _ ((state_of d).value w) _ (at_d.low w (variable w c)) (at_d.high w (variable w c))),
                ≤ℚ_of_same _ _ is,
              )
          | inr n ↦ (
            subst (λ x. s.low w ≤ℚ x) (sym (value_elsewhere w o n)) (at_d.low w (variable w c)),
            subst (λ x. x ≤ℚ s.high w) (sym (value_elsewhere w o n)) (at_d.high w (variable w c)),
          )
        ]
  ]

  -- what is held has not moved
  not_held : (w : ℕ) (high : Bool) → held w ≡ Some high → w ≢ j
  not_held w high is e = let none : None ≡ Some high = sym free ∙ ap held (sym e) ∙ is in absurd Prim.cc

  stays : (w : ℕ) (high : Bool) → Contains d.names w → held w ≡ Some high → ((choice_of risen).basic w ≡ false) × ((choice_of risen).high w ≡ high)
  stays w high c is = let at_d = face.stands w high c is in (basic_risen w ∙ at_d.0, high_elsewhere w c (not_held w high is) ∙ at_d.1)

  comes : ComesFrom (system_in d) (state_of d) (state_of risen)
  unfolding state_of s
  comes = record {
    choice = subst (λ (t : System). IsChoice t (choice_of risen)) same_risen.system (sound_risen.solutions same_risen.live);
    values = λ w c. value_is w (variable_back w c);
    prices = λ w c. reduced_risen w;
    within = record { low = λ w c. (bounds w (variable_back w c)).0; high = λ w c. (bounds w (variable_back w c)).1 };
    stays = λ w c n. stays w ((choice_of d).high w) (variable_back w c) (face.priced w (variable_back w c) n);
  }

  returned : Shows (system_in d) (state_of risen) × IsSolved (system_in d) (state_of risen)
  returned = law_of_the_return (system_in d) (state_of d) (state_of risen) (system_is d h) (first_shows d h face.live face.shows face.solved) face.solved comes

  back : (w : ℕ) → Contains risen.names w → Contains d.names w
  unfolding noted_anew
  back w c = c

  shows_risen : ShowsChoice risen
  unfolding state_of s
  shows_risen = record {
    choice = sound_risen.solutions same_risen.live;
    values = λ w c. value_is w (back w c) ∙ ap (λ (t : System). value t (choice_of risen) w) (sym same_risen.system);
    prices = λ w c. returned.0.prices w (variable w (back w c)) ∙ ap (λ (t : System). reduced t (choice_of risen) w) (sym same_risen.system);
  }

  pub face_risen : IsFace risen names held
  face_risen = record {
    live = same_risen.live;
    sound = sound_risen;
    shows = shows_risen;
    solved = subst (λ (t : System). IsSolved t (state_of risen)) (sym same_risen.system) returned.1;
    priced = λ w c n.
        let is = face.priced w (back w c) (λ z. n (same_risen.reduced w ∙ z)) in
        is ∙ ap Some (sym (stays w ((choice_of d).high w) (back w c) is).1);
    stands = λ w high c is. stays w high (back w c) is;
    first = subst (λ (t : System). HoldsFirst t names held) (sym same_risen.system) face.first;
  }

-- ---- a variable that stands at its high bound now
pub record IsHighFace (d e : Dictionary) (names : List ℕ) (held : Held) (j : ℕ) : Type 0 where
  pub same : HasSystem d e
  pub face : IsFace e names held
  pub other : (choice_of e).basic j ≡ false
  pub high : (choice_of e).high j ≡ true

pub high_after : (d e : Dictionary) (names : List ℕ) (held : Held) (j : ℕ) → IsFace d names held → Contains d.others j → held j ≡ None → StandsHigh d j e → IsHighFace d e names held j
unfolding choice_of
high_after d e names held j face other free (as_it_stood flag is) = subst (λ (x : Dictionary). IsHighFace d x names held j) (sym is) (record {
  same = same_itself d face.sound face.live;
  face = face;
  other = among-not d.basics j (λ b. face.sound.split.apart j b other);
  high = flag;
})
high_after d e names held j face other free (as_raised values flag are is) = subst (λ (x : Dictionary). IsHighFace d x names held j) (sym is) (record {
  same = same_risen d names held j face other free flag values are;
  face = face_risen d names held j face other free flag values are;
  other = other_risen d names held j face other free flag values are;
  high = high_here d names held j face other free flag values are;
})

-- what is held by rank
module _ (d e : Dictionary) (names : List ℕ) (held : List (Option Bool)) (k j : ℕ) (face : IsFace d names (held_by d.names held)) (within : k < length d.names) (name : slice_index d.names k ≡ j)
    (other : Contains d.others j) (inside : k < length held) (free : slice_index_or held k None ≡ None) (high : StandsHigh d j e) where
  after : IsHighFace d e names (held_by d.names held) j
  after = high_after d e names (held_by d.names held) j face other (held-at d face.sound held k j within name ∙ free) high

  pub same_high : HasSystem d e
  same_high = after.same

  pub held_high : IsFace e (names ++ j ∷ []) (held_by e.names (slice_set held k (Some true)))
  held_high =
      subst (IsFace e (names ++ j ∷ [])) (sym (ap (λ (ns : List ℕ). held_by ns (slice_set held k (Some true))) after.same.names ∙ held-high d face.sound held k j within inside name))
      (high_face e names (held_by d.names held) j after.face (subst (λ (ns : List ℕ). Contains ns j) (sym after.same.names) (face.sound.split.second_named j other)) after.other after.high)
