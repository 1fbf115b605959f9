-- Dictionaries whose notes are all known by name.
use Rattle.std.specs.Prelude.{◌≡◌, ◌≢◌, ℕ, List, map, slice_index, refl}
use Rattle.std.specs.List.{Contains}
use Rattle.std.proofs.Common.{arith, ap, sym, ◌∙◌, inl, inr}
use Rattle.std.proofs.lemmas.List.{length-map}
use mathlib.Core.Path.{ap₂}
use Rattle.fraction_theory.proofs.ListSums.{same_or_not}
use Rattle.linear_system.specs.Systems.{System}
use Rattle.linear_system.specs.Choices.{column_entry, reduced}
use Rattle.linear_dict.specs.Dictionaries.{Dictionary, IsDictionary, system_in, choice_of, entry_of, note_of, with_note}
use Rattle.linear_dict.specs.Notes.{Noted}
use Rattle.linear_dict.specs.Places.{place_in}
use Rattle.linear_dict.proofs.NameLemmas.{place_in-within}
use Rattle.simplex_core.specs.Posings.{HasNotes}
use Rattle.simplex_core.specs.Turns.{noted_anew}
use Rattle.simplex_core.proofs.MoveLemmas.{set_is, set_count, set_note_of}
use Rattle.simplex_core.proofs.NoteLaws.{named_or_not, note_anew, note_here, note_elsewhere, note_unnamed, anew_is, system_stays, renoted_dictionary}
use Rattle.simplex_core.proofs.StandLemmas.{choice_stays, reduced_frame}

-- a dictionary with new notes
module _ (d : Dictionary) (h : IsDictionary d) (f : ℕ → Noted) where
  pub anew_sound : IsDictionary (noted_anew d f)
  unfolding noted_anew
  anew_sound = renoted_dictionary d (map f d.names) (length-map d.names f) h

  pub anew_keeps : {X : Type 0} (p : Noted → X) → ((w : ℕ) → p (f w) ≡ p (note_of d w)) → (w : ℕ) → p (note_of (noted_anew d f) w) ≡ p (note_of d w)
  unfolding noted_anew
  anew_keeps p each w = elim (named_or_not d.names w) [
    | inl c ↦ ap p (note_anew d f w c) ∙ each w
    | inr past ↦ ap p (note_unnamed (noted_anew d f) w (length-map d.names f) past ∙ sym (note_unnamed d w h.note_count past))
  ]

  pub anew_system : ((w : ℕ) → (f w).price ≡ (note_of d w).price) → ((w : ℕ) → (f w).low ≡ (note_of d w).low) → ((w : ℕ) → (f w).high ≡ (note_of d w).high) → system_in (noted_anew d f) ≡ system_in d
  unfolding noted_anew
  anew_system price low high = system_stays d (noted_anew d f) refl refl refl refl (anew_keeps Noted.price price) (anew_keeps Noted.low low) (anew_keeps Noted.high high)

  pub anew_choice : ((w : ℕ) → (f w).at_high ≡ (note_of d w).at_high) → choice_of (noted_anew d f) ≡ choice_of d
  unfolding noted_anew
  anew_choice flag = choice_stays d (map f d.names) (anew_keeps Noted.at_high flag)

  pub anew_reduced : (s : System) (w : ℕ) → reduced s (choice_of (noted_anew d f)) w ≡ reduced s (choice_of d) w
  unfolding noted_anew
  anew_reduced s w = reduced_frame s d (map f d.names) w

  pub anew_frame : noted_anew d f ≡ record d { notes = map f d.names }
  unfolding noted_anew
  anew_frame = refl

  -- the table stays
  pub anew_basic : (w : ℕ) → (choice_of (noted_anew d f)).basic w ≡ (choice_of d).basic w
  unfolding noted_anew choice_of
  anew_basic w = refl

  pub anew_entry : (b w : ℕ) → (choice_of (noted_anew d f)).entry b w ≡ (choice_of d).entry b w
  unfolding noted_anew choice_of entry_of
  anew_entry b w = refl

  pub anew_column_entry : (j w : ℕ) → column_entry (choice_of (noted_anew d f)) j w ≡ column_entry (choice_of d) j w
  unfolding noted_anew choice_of entry_of column_entry
  anew_column_entry j w = refl

  pub anew_basics : (noted_anew d f).basics ≡ d.basics
  unfolding noted_anew
  anew_basics = refl

  pub anew_others : (noted_anew d f).others ≡ d.others
  unfolding noted_anew
  anew_others = refl

  pub anew_names : (noted_anew d f).names ≡ d.names
  unfolding noted_anew
  anew_names = refl

  pub anew_live : (noted_anew d f).spent ≡ d.spent
  unfolding noted_anew
  anew_live = refl

-- an entry that the code reads by its places while notes change
pub entry_read : (d e : Dictionary) (ns : List Noted) → e ≡ record d { notes = ns } → (r c b w : ℕ) → slice_index d.basics r ≡ b → slice_index d.others c ≡ w
    → (choice_of e).entry (slice_index e.basics r) (slice_index e.others c) ≡ (choice_of d).entry b w
unfolding choice_of entry_of
entry_read d e ns is r c b w eb ew = ap (λ (x : Dictionary). (choice_of x).entry (slice_index x.basics r) (slice_index x.others c)) is ∙ ap₂ (λ (x y : ℕ). (choice_of d).entry x y) eb ew

module _ (d : Dictionary) (h : IsDictionary d) where
  -- where all names of a list were given notes, by their places
  pub put_anew : (names : List ℕ) (g : ℕ → Noted) (e : Dictionary) → HasNotes d names (λ k. g (slice_index names k)) e
      → ((w : ℕ) → Contains d.names w → ¬ (Contains names w) → note_of d w ≡ g w) → e ≡ noted_anew d g
  put_anew names g e p other = p.is ∙ anew_is d h e.notes g p.count (λ w c.
      ap (λ (x : Dictionary). note_of x w) (sym p.is) ∙ elim (named_or_not names w) [
        | inl m ↦
            let at = place_in-within names w m in
            ap (note_of e) (sym at.1) ∙ p.each (place_in names w) at.0 ∙ ap g at.1
        | inr past ↦
            let n : ¬ (Contains names w) = λ m. Prim.omega (arith, past, (place_in-within names w m).0) in
            p.rest w n ∙ other w c n
      ])

  -- where one name was given a note
  pub set_anew : (j : ℕ) (n : Noted) (g : ℕ → Noted) (e : Dictionary) → Contains d.names j → e ≡ with_note d j n → n ≡ g j
      → ((w : ℕ) → Contains d.names w → w ≢ j → note_of d w ≡ g w) → e ≡ noted_anew d g
  set_anew j n g e c set is other = set ∙ set_is d j n ∙ anew_is d h (with_note d j n).notes g (set_count d j n ∙ h.note_count) (λ w m.
      set_note_of d j n w ∙ elim (same_or_not w j) [
        | inl q ↦ ap (note_of (with_note d j n)) q ∙ note_here d h.note_count j n c ∙ is ∙ ap g (sym q)
        | inr q ↦ note_elsewhere d h.note_count w j n c q ∙ other w m q
      ])

  -- where none was
  pub same_anew : (g : ℕ → Noted) → ((w : ℕ) → Contains d.names w → note_of d w ≡ g w) → d ≡ noted_anew d g
  same_anew g each = anew_is d h d.notes g h.note_count each

  pub anew_same : (f g : ℕ → Noted) → ((w : ℕ) → Contains d.names w → f w ≡ g w) → noted_anew d f ≡ noted_anew d g
  unfolding noted_anew
  anew_same f g same = anew_is d h (map f d.names) g (length-map d.names f) (λ w c. note_anew d f w c ∙ same w c)

  -- notes given twice
  pub anew_twice : (f g k : ℕ → Noted) → ((w : ℕ) → Contains d.names w → g w ≡ k w) → noted_anew (noted_anew d f) g ≡ noted_anew d k
  unfolding noted_anew
  anew_twice f g k same = anew_same g k same
