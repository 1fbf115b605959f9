-- The notes after a move, one by one.
use Rattle.std.specs.Prelude.{◌≡◌, ◌≢◌, ℕ, ◌+◌, ◌<◌, ◌≤◌, ◌==◌, if◌then◌else◌, pos, Bool, List, [], ◌∷◌, length, slice_index, refl}
use Rattle.std.specs.List.{Contains}
use Rattle.std.proofs.Common.{arith, ap, sym, ◌∙◌, subst, inl, inr}
use Rattle.std.proofs.lemmas.Bool.{cases_lt}
use Rattle.std.proofs.lemmas.List.{length-set}
use mathlib.Core.Path.{ap₂}
use Rattle.fraction_theory.specs.Fraction.{Fraction, whole, ◌+ℚ◌, ◌*ℚ◌}
use Rattle.fraction_theory.proofs.FieldLaws.{ring_ℚ}
use Rattle.fraction_theory.proofs.ListSums.{put_at-here, put_at-elsewhere}
use Rattle.fraction_theory.proofs.Ring.{by_ring, at as term_at, pnil, ◌⊕◌, ◌⊗◌}
use Rattle.linear_dict.specs.Dictionaries.{Dictionary, IsDictionary, choice_of, entry_of, note_of, with_note}
use Rattle.linear_dict.specs.Notes.{Noted}
use Rattle.linear_dict.specs.Places.{place_in, is_among}
use Rattle.linear_dict.proofs.NameLemmas.{among-tells, among-not}
use Rattle.simplex_core.specs.Turns.{moved_note, noted_anew}
use Rattle.simplex_core.proofs.NoteLaws.{note_here, note_elsewhere, anew_is, renoted_dictionary}
use Rattle.simplex_core.proofs.Ranks.{ranked_named, rank_of, name_below, at_rank}

-- a note of these numbers
abbrev pub note_with : Noted → Fraction → Fraction → Bool → Noted
note_with n value reduced at_high = record { price = n.price; low = n.low; high = n.high; value = value; reduced = reduced; at_high = at_high }

module _ (d : Dictionary) (h : IsDictionary d) (v k : ℕ) (above : Bool) (bound far price : Fraction) (w : ℕ) where
  -- both cases of a moved note
  abbrev as_basic : Noted
  as_basic = record (note_of d w) { value = (note_of d w).value +ℚ entry_of d w v *ℚ far; reduced = whole (pos 0) }

  abbrev as_other : Noted
  as_other = record (note_of d w) {
    value = if w == v then bound else (note_of d w).value;
    reduced = (note_of d w).reduced +ℚ price *ℚ entry_of d k w;
    at_high = if w == v then above else (note_of d w).at_high;
  }

  pub moved-basic : Contains d.basics w → moved_note d v k above bound far price w ≡ note_with (note_of d w) ((note_of d w).value +ℚ entry_of d w v *ℚ far) (whole (pos 0)) (note_of d w).at_high
  unfolding moved_note choice_of
  moved-basic c = ap (λ (b : Bool). if b then as_basic else as_other) (among-tells d.basics w c)

  moved-other : Contains d.others w → moved_note d v k above bound far price w ≡ as_other
  unfolding moved_note choice_of
  moved-other c = ap (λ (b : Bool). if b then as_basic else as_other) (among-not d.basics w (λ m. h.split.apart w m c))

  pub moved-leaving : Contains d.others w → w ≡ v → moved_note d v k above bound far price w ≡ note_with (note_of d w) bound ((note_of d w).reduced +ℚ price *ℚ entry_of d k w) above
  moved-leaving c e = moved-other c ∙ ap₂ (λ x b. note_with (note_of d w) x ((note_of d w).reduced +ℚ price *ℚ entry_of d k w) b)
      (put_at-here v bound (λ x. (note_of d w).value) w e) (put_at-here v above (λ x. (note_of d w).at_high) w e)

  pub moved-staying : Contains d.others w → w ≢ v → moved_note d v k above bound far price w ≡ note_with (note_of d w) (note_of d w).value ((note_of d w).reduced +ℚ price *ℚ entry_of d k w) (note_of d w).at_high
  moved-staying c n = moved-other c ∙ ap₂ (λ x b. note_with (note_of d w) x ((note_of d w).reduced +ℚ price *ℚ entry_of d k w) b)
      (put_at-elsewhere v bound (λ x. (note_of d w).value) w n) (put_at-elsewhere v above (λ x. (note_of d w).at_high) w n)

-- a moved note asks nothing of other notes
moved_by_note : (e : Dictionary) (ns : List Noted) (v k : ℕ) (above : Bool) (bound far price : Fraction) (w : ℕ) → note_of (record e { notes = ns }) w ≡ note_of e w
    → moved_note (record e { notes = ns }) v k above bound far price w ≡ moved_note e v k above bound far price w
unfolding moved_note choice_of entry_of
moved_by_note e ns v k above bound far price w same = ap (λ (n : Noted).
    if is_among e.basics w then record n { value = n.value +ℚ entry_of e w v *ℚ far; reduced = whole (pos 0) }
    else record n {
      value = if w == v then bound else n.value;
      reduced = n.reduced +ℚ price *ℚ entry_of e k w;
      at_high = if w == v then above else n.at_high;
    }) same

-- what a note that is set leaves as it is
pub set_is : (y : Dictionary) (x : ℕ) (n : Noted) → with_note y x n ≡ record y { notes = (with_note y x n).notes }
unfolding with_note
set_is y x n = refl

pub set_count : (y : Dictionary) (x : ℕ) (n : Noted) → length (with_note y x n).notes ≡ length y.notes
unfolding with_note
set_count y x n = length-set y.notes (place_in y.names x) n

pub set_note_of : (y : Dictionary) (x : ℕ) (n : Noted) (w : ℕ) → note_of (record y { notes = (with_note y x n).notes }) w ≡ note_of (with_note y x n) w
unfolding with_note
set_note_of y x n w = refl

-- the dictionary e with the notes of the ranks below k by f, and the rest as they were
pub record IsMoving (e : Dictionary) (f : ℕ → Noted) (k : ℕ) (d : Dictionary) : Type 0 where
  pub notes : List Noted
  pub is : d ≡ record e { notes = notes }
  pub count : length notes ≡ length e.names
  pub done : (j : ℕ) → j < k → j < length e.names → note_of (record e { notes = notes }) (slice_index e.names j) ≡ f (slice_index e.names j)
  pub rest : (w : ℕ) → Contains e.names w → k ≤ place_in e.names w → note_of (record e { notes = notes }) w ≡ note_of e w

module _ (e : Dictionary) (h : IsDictionary e) (f : ℕ → Noted) where
  pub moving_start : IsMoving e f 0 e
  moving_start = record { notes = e.notes; is = refl; count = h.note_count; done = λ j l m. absurd (Prim.omega arith); rest = λ w c l. refl }

  module _ (k : ℕ) (d : Dictionary) (m : IsMoving e f k d) where
    pub moving_sound : IsDictionary d
    moving_sound = subst IsDictionary (sym m.is) (renoted_dictionary e m.notes m.count h)

    pub moving_end : length e.names ≤ k → d ≡ noted_anew e f
    moving_end past = m.is ∙ anew_is e h m.notes f m.count (λ w c.
        let at = at_rank e h w c in
        ap (note_of (record e { notes = m.notes })) (sym at.1) ∙ m.done (place_in e.names w) (Prim.omega (arith, at.0, past)) at.0 ∙ ap f at.1)

    module _ (hk : k < length e.names) where
      pub moving_note : note_of (record e { notes = m.notes }) (slice_index e.names k) ≡ note_of e (slice_index e.names k)
      moving_note = m.rest (slice_index e.names k) (ranked_named e h k hk) (Prim.omega (arith, rank_of e h k hk))

      pub moving_same : (v j : ℕ) (above : Bool) (bound far price : Fraction) → moved_note d v j above bound far price (slice_index e.names k) ≡ moved_note e v j above bound far price (slice_index e.names k)
      moving_same v j above bound far price =
          ap (λ (x : Dictionary). moved_note x v j above bound far price (slice_index e.names k)) m.is
          ∙ moved_by_note e m.notes v j above bound far price (slice_index e.names k) moving_note

      -- a note that is to stay as it is
      pub moving_stays : f (slice_index e.names k) ≡ note_of e (slice_index e.names k) → IsMoving e f (k + 1) d
      moving_stays stays = record {
        notes = m.notes;
        is = m.is;
        count = m.count;
        done = λ j l hj. elim (cases_lt j k) [
          | inl less ↦ m.done j less hj
          | inr more ↦
              let q : j ≡ k = Prim.omega (arith, l, more) in
              ap (λ (i : ℕ). note_of (record e { notes = m.notes }) (slice_index e.names i)) q ∙ moving_note ∙ sym stays ∙ ap (λ (i : ℕ). f (slice_index e.names i)) (sym q)
        ];
        rest = λ w c l. m.rest w c (Prim.omega (arith, l));
      }

      pub moving_step : (n : Noted) (d' : Dictionary) → d' ≡ with_note d (slice_index e.names k) n → n ≡ f (slice_index e.names k) → IsMoving e f (k + 1) d'
      moving_step n d' set is_n =
          let x : ℕ = slice_index e.names k in
          let named : Contains e.names x = ranked_named e h k hk in
          let now : Dictionary = record e { notes = m.notes } in
          let after : Dictionary = with_note now x n in
          record {
            notes = after.notes;
            is = set ∙ ap (λ (y : Dictionary). with_note y x n) m.is ∙ set_is now x n;
            count = set_count now x n ∙ m.count;
            done = λ j l hj. elim (cases_lt j k) [
              | inl less ↦
                  let differ : slice_index e.names j ≢ x = λ q. Prim.omega (arith, q, name_below e h j k less hk) in
                  set_note_of now x n (slice_index e.names j) ∙ note_elsewhere now m.count (slice_index e.names j) x n named differ ∙ m.done j less hj
              | inr more ↦
                  let q : j ≡ k = Prim.omega (arith, l, more) in
                  let s : slice_index e.names j ≡ x = ap (slice_index e.names) q in
                  set_note_of now x n (slice_index e.names j) ∙ ap (note_of after) s ∙ note_here now m.count x n named ∙ is_n ∙ ap f (sym s)
            ];
            rest = λ w c l.
                let differ : w ≢ x = λ q. Prim.omega (arith, l, ap (place_in e.names) q, rank_of e h k hk) in
                set_note_of now x n w ∙ note_elsewhere now m.count w x n named differ ∙ m.rest w c (Prim.omega (arith, l));
          }

-- by an entry of 0 nothing moves
pub unmoved : (d : Dictionary) → IsDictionary d → (v k : ℕ) (above : Bool) (bound far price : Fraction) (w : ℕ) → Contains d.others w → w ≢ v → entry_of d k w ≡ whole (pos 0)
    → moved_note d v k above bound far price w ≡ note_of d w
unmoved d h v k above bound far price w other apart nil =
    moved-staying d h v k above bound far price w other apart
    ∙ ap (λ (x : Fraction). note_with (note_of d w) (note_of d w).value x (note_of d w).at_high)
    (ap (λ (x : Fraction). (note_of d w).reduced +ℚ price *ℚ x) nil
    ∙ sym (by_ring ring_ℚ ((note_of d w).reduced ∷ price ∷ []) (term_at 0) (term_at 0 ⊕ term_at 1 ⊗ pnil) refl))
