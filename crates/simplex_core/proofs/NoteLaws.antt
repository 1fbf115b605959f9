-- Notes by name, and what they leave as it is.
use Rattle.std.specs.Prelude.{◌≡◌, ◌≢◌, ◌⊎◌, ℕ, ◌<◌, ◌≤◌, List, length, map, filter, slice_index, refl}
use Rattle.std.specs.List.{Contains}
use Rattle.std.proofs.Common.{arith, ap, sym, ◌∙◌, get_or, inl, inr}
use Rattle.std.proofs.lemmas.Bool.{lt-ltb}
use Rattle.std.proofs.lemmas.Grind.{get_or_default_zero}
use Rattle.std.proofs.lemmas.List.{length-map, get_or-map, get_or_past, get_or_default, get_or-set_same, get_or-set_other, same_lists}
use Rattle.fraction_theory.specs.Fraction.{Fraction}
use Rattle.fraction_theory.proofs.ListSums.{Distinct-increasing}
use Rattle.linear_system.specs.Systems.{System}
use Rattle.linear_dict.specs.Dictionaries.{Dictionary, IsDictionary, system_in, note_of, with_note}
use Rattle.linear_dict.specs.Notes.{Noted, blank}
use Rattle.linear_dict.specs.Places.{place_in, is_among}
use Rattle.linear_dict.specs.Tables.{cell}
use Rattle.linear_dict.proofs.NameLemmas.{lt_or_le, place_in-at, place_in-within, among-from}
use Rattle.linear_dict.proofs.NoteLemmas.{choice_frame}
use Rattle.simplex_core.specs.Turns.{noted_anew}

pub funext : {A B : Type 0} (f g : A → B) → ((x : A) → f x ≡ g x) → f ≡ g
funext f g p = λ i. λ x. p x i

-- a name has a place, or its place is past the end
pub named_or_not : (xs : List ℕ) (w : ℕ) → Contains xs w ⊎ (length xs ≤ place_in xs w)
unfolding is_among
named_or_not xs w = elim (lt_or_le (place_in xs w) (length xs)) [
  | inl l ↦ inl (among-from xs w (lt-ltb (place_in xs w) (length xs) l))
  | inr l ↦ inr l
]

-- two names have two places, if one of them is there
pub places_differ : (xs : List ℕ) (x w : ℕ) → Contains xs w → x ≢ w → place_in xs x ≢ place_in xs w
places_differ xs x w c n e =
    let at = place_in-within xs w c in
    elim (named_or_not xs x) [
      | inl k ↦ n (sym (place_in-within xs x k).1 ∙ ap (slice_index xs) e ∙ at.1)
      | inr l ↦ Prim.omega (arith, e, at.0, l)
    ]

module _ (d : Dictionary) (count : length d.notes ≡ length d.names) where
  pub note_here : (w : ℕ) (n : Noted) → Contains d.names w → note_of (with_note d w n) w ≡ n
  unfolding note_of with_note
  note_here w n c = get_or-set_same d.notes (place_in d.names w) n blank (Prim.omega (arith, count, (place_in-within d.names w c).0))

  pub note_elsewhere : (x w : ℕ) (n : Noted) → Contains d.names w → x ≢ w → note_of (with_note d w n) x ≡ note_of d x
  unfolding note_of with_note
  note_elsewhere x w n c differ = get_or-set_other d.notes (place_in d.names w) (place_in d.names x) n blank (places_differ d.names x w c differ)

-- the note of a name in a list of notes that a function gives
pub note_anew : (d : Dictionary) (f : ℕ → Noted) (w : ℕ) → Contains d.names w → note_of (noted_anew d f) w ≡ f w
unfolding note_of noted_anew
note_anew d f w c =
    let at = place_in-within d.names w c in
    get_or-map f d.names (place_in d.names w) 0 blank at.0 ∙ ap f at.1

pub note_unnamed : (d : Dictionary) (w : ℕ) → length d.notes ≡ length d.names → length d.names ≤ place_in d.names w → note_of d w ≡ blank
unfolding note_of
note_unnamed d w count l = get_or_past d.notes (place_in d.names w) blank (Prim.omega (arith, count, l))

-- a dictionary whose notes are known by name
pub anew_is : (d : Dictionary) → IsDictionary d → (ns : List Noted) (f : ℕ → Noted) → length ns ≡ length d.names → ((w : ℕ) → Contains d.names w → note_of (record d { notes = ns }) w ≡ f w) → record d { notes = ns } ≡ noted_anew d f
unfolding note_of noted_anew
anew_is d h ns f count each = ap (λ (ms : List Noted). record d { notes = ms })
    (same_lists ns (map f d.names) (count ∙ sym (length-map d.names f))
    (λ k e l.
    let hk : k < length d.names = Prim.omega (arith, count, l) in
    let w : ℕ = slice_index d.names k in
    let at : place_in d.names w ≡ k = place_in-at d.names k (slice_index d.names k) (Distinct-increasing d.names h.ascending) hk refl in
    let named : Contains d.names w = (k, hk, get_or_default_zero d.names k w hk) in
    get_or_default ns k e blank l ∙ ap (λ (i : ℕ). get_or ns i blank) (sym at) ∙ each w named ∙ sym (get_or-map f d.names k 0 e hk)))

-- Where prices and bounds stay, the system does.
pub system_stays : (d e : Dictionary) → e.names ≡ d.names → e.columns ≡ d.columns → e.rows ≡ d.rows → e.coefficients ≡ d.coefficients
    → ((w : ℕ) → (note_of e w).price ≡ (note_of d w).price) → ((w : ℕ) → (note_of e w).low ≡ (note_of d w).low) → ((w : ℕ) → (note_of e w).high ≡ (note_of d w).high)
    → system_in e ≡ system_in d
unfolding system_in
system_stays d e names columns rows coefficients price low high =
    let make : List ℕ → List ℕ → List ℕ → List Fraction → (ℕ → Fraction) → (ℕ → Fraction) → (ℕ → Fraction) → System = λ ns cs rs ks p l h. record {
      variables = ns;
      columns = filter (is_among cs) ns;
      rows = filter (is_among rs) ns;
      coefficient = λ r j. cell (length cs) ks (place_in rs r) (place_in cs j);
      price = p;
      low = l;
      high = h;
    } in
    ap (λ (ns : List ℕ). make ns e.columns e.rows e.coefficients (λ w. (note_of e w).price) (λ w. (note_of e w).low) (λ w. (note_of e w).high)) names
    ∙ ap (λ (cs : List ℕ). make d.names cs e.rows e.coefficients (λ w. (note_of e w).price) (λ w. (note_of e w).low) (λ w. (note_of e w).high)) columns
    ∙ ap (λ (rs : List ℕ). make d.names d.columns rs e.coefficients (λ w. (note_of e w).price) (λ w. (note_of e w).low) (λ w. (note_of e w).high)) rows
    ∙ ap (λ (ks : List Fraction). make d.names d.columns d.rows ks (λ w. (note_of e w).price) (λ w. (note_of e w).low) (λ w. (note_of e w).high)) coefficients
    ∙ ap (λ (p : ℕ → Fraction). make d.names d.columns d.rows d.coefficients p (λ w. (note_of e w).low) (λ w. (note_of e w).high)) (funext (λ w. (note_of e w).price) (λ w. (note_of d w).price) price)
    ∙ ap (λ (l : ℕ → Fraction). make d.names d.columns d.rows d.coefficients (λ w. (note_of d w).price) l (λ w. (note_of e w).high)) (funext (λ w. (note_of e w).low) (λ w. (note_of d w).low) low)
    ∙ ap (λ (h : ℕ → Fraction). make d.names d.columns d.rows d.coefficients (λ w. (note_of d w).price) (λ w. (note_of d w).low) h) (funext (λ w. (note_of e w).high) (λ w. (note_of d w).high) high)

-- notes change nothing else of a dictionary
pub renoted_dictionary : (d : Dictionary) (ns : List Noted) → length ns ≡ length d.names → IsDictionary d → IsDictionary (record d { notes = ns })
renoted_dictionary d ns count h = record {
  row_count = h.row_count;
  column_count = h.column_count;
  coefficient_count = h.coefficient_count;
  table_count = h.table_count;
  note_count = count;
  ascending = h.ascending;
  put_in = h.put_in;
  split = h.split;
  solutions = λ live. choice_frame d ns (h.solutions live);
}
