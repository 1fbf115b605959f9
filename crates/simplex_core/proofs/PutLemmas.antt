-- Notes put by the places of names.
use Rattle.std.specs.Prelude.{◌≡◌, ◌≢◌, ℕ, ◌+◌, ◌<◌, ◌≤◌, List, length, map, slice_index, refl}
use Rattle.std.specs.List.{Contains}
use Rattle.std.proofs.Common.{arith, ap, sym, ◌∙◌, subst, get_or, inl, inr}
use Rattle.std.proofs.lemmas.Bool.{cases_lt}
use Rattle.std.proofs.lemmas.List.{get_or-map}
use Rattle.fraction_theory.specs.Fraction.{Fraction}
use Rattle.fraction_theory.proofs.ListSums.{Distinct}
use Rattle.linear_dict.specs.Dictionaries.{Dictionary, IsDictionary, note_of, with_note}
use Rattle.linear_dict.specs.Notes.{Noted}
use Rattle.linear_dict.specs.Places.{place_in}
use Rattle.linear_dict.proofs.NameLemmas.{place_in-at}
use Rattle.linear_dict.proofs.SplitLemmas.{Contains-at}
use Rattle.simplex_core.specs.Posings.{HasNotes, term_note}
use Rattle.simplex_core.proofs.MoveLemmas.{set_is, set_count, set_note_of}
use Rattle.simplex_core.proofs.NoteLaws.{note_here, note_elsewhere, renoted_dictionary}

-- a read of a number of a place
pub read_at : {N : Type 0} (f : N → Fraction) (xs : List N) (k : ℕ) (x : N) (z : Fraction) → k < length xs → x ≡ get_or xs k x → f x ≡ get_or (map f xs) k z
read_at f xs k x z h e = ap f e ∙ sym (get_or-map f xs k x z h)

-- the dictionary d with the notes of the first k of the names
pub record IsPutting (d : Dictionary) (names : List ℕ) (f : ℕ → Noted) (k : ℕ) (e : Dictionary) : Type 0 where
  pub notes : List Noted
  pub is : e ≡ record d { notes = notes }
  pub count : length notes ≡ length d.names
  pub each : (j : ℕ) → j < k → j < length names → note_of (record d { notes = notes }) (slice_index names j) ≡ f j
  pub later : (j : ℕ) → k ≤ j → j < length names → note_of (record d { notes = notes }) (slice_index names j) ≡ note_of d (slice_index names j)
  pub rest : (w : ℕ) → ¬ (Contains names w) → note_of (record d { notes = notes }) w ≡ note_of d w

module _ (d : Dictionary) (h : IsDictionary d) (names : List ℕ) (f : ℕ → Noted) (distinct : Distinct names) (named : (w : ℕ) → Contains names w → Contains d.names w) where
  pub putting_start : IsPutting d names f 0 d
  putting_start = record { notes = d.notes; is = refl; count = h.note_count; each = λ j l m. absurd (Prim.omega arith); later = λ j l m. refl; rest = λ w n. refl }

  module _ (k : ℕ) (e : Dictionary) (p : IsPutting d names f k e) where
    pub putting_sound : IsDictionary e
    putting_sound = subst IsDictionary (sym p.is) (renoted_dictionary d p.notes p.count h)

    -- the notes of the names to come stay
    pub putting_note : k < length names → note_of e (slice_index names k) ≡ note_of d (slice_index names k)
    putting_note hk = ap (λ (x : Dictionary). note_of x (slice_index names k)) p.is ∙ p.later k (Prim.omega arith) hk

    pub putting_named : k < length names → Contains e.names (slice_index names k)
    putting_named hk = subst (λ (x : Dictionary). Contains x.names (slice_index names k)) (sym p.is) (named (slice_index names k) (Contains-at names k hk))

    pub putting_end : length names ≤ k → HasNotes d names f e
    putting_end past = subst (λ (x : Dictionary). HasNotes d names f x) (sym p.is) (record {
      is = refl;
      count = p.count;
      each = λ j l. p.each j (Prim.omega (arith, past, l)) l;
      rest = p.rest;
    })

    -- a note that is to stay as it is
    pub putting_same : note_of d (slice_index names k) ≡ f k → IsPutting d names f (k + 1) e
    putting_same stays = record {
      notes = p.notes;
      is = p.is;
      count = p.count;
      each = λ j l hj. elim (cases_lt j k) [
        | inl less ↦ p.each j less hj
        | inr more ↦
            let q : j ≡ k = Prim.omega (arith, l, more) in
            p.later j more hj ∙ ap (λ (i : ℕ). note_of d (slice_index names i)) q ∙ stays ∙ ap f (sym q)
      ];
      later = λ j l hj. p.later j (Prim.omega (arith, l)) hj;
      rest = p.rest;
    }

    pub putting_step : (n : Noted) (e' : Dictionary) → k < length names → e' ≡ with_note e (slice_index names k) n → n ≡ f k → IsPutting d names f (k + 1) e'
    putting_step n e' hk set is_n =
        let x : ℕ = slice_index names k in
        let x_named : Contains d.names x = named x (Contains-at names k hk) in
        let now : Dictionary = record d { notes = p.notes } in
        record {
          notes = (with_note now x n).notes;
          is = set ∙ ap (λ (y : Dictionary). with_note y x n) p.is ∙ set_is now x n;
          count = set_count now x n ∙ p.count;
          each = λ j l hj. elim (cases_lt j k) [
            | inl less ↦
                let differ : slice_index names j ≢ x = λ q. Prim.omega (arith, less, sym (place_in-at names j (slice_index names j) distinct hj refl) ∙ ap (place_in names) q ∙ place_in-at names k x distinct hk refl) in
                set_note_of now x n (slice_index names j) ∙ note_elsewhere now p.count (slice_index names j) x n x_named differ ∙ p.each j less hj
            | inr more ↦
                let q : j ≡ k = Prim.omega (arith, l, more) in
                set_note_of now x n (slice_index names j) ∙ ap (λ (i : ℕ). note_of (with_note now x n) (slice_index names i)) q ∙ note_here now p.count x n x_named ∙ is_n ∙ ap f (sym q)
          ];
          later = λ j l hj.
              let differ : slice_index names j ≢ x = λ q. Prim.omega (arith, l, sym (place_in-at names j (slice_index names j) distinct hj refl) ∙ ap (place_in names) q ∙ place_in-at names k x distinct hk refl) in
              set_note_of now x n (slice_index names j) ∙ note_elsewhere now p.count (slice_index names j) x n x_named differ ∙ p.later j (Prim.omega (arith, l)) hj;
          rest = λ w m.
              let differ : w ≢ x = λ q. m (subst (Contains names) (sym q) (Contains-at names k hk)) in
              set_note_of now x n w ∙ note_elsewhere now p.count w x n x_named differ ∙ p.rest w m;
        }

-- the note of these numbers
pub term_is : (p q l m u v : Fraction) → p ≡ q → l ≡ m → u ≡ v → term_note p l u ≡ term_note q m v
term_is p q l m u v ep el eu = ap (λ x. term_note x l u) ep ∙ ap (λ x. term_note q x u) el ∙ ap (λ x. term_note q m x) eu
