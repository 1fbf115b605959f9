-- Variables held by rank.
use Rattle.std.specs.Prelude.{◌≡◌, ◌≢◌, ◌⊎◌, ℕ, ◌<◌, ◌+◌, ◌++◌, ◌∷◌, pos, Bool, true, false, if◌then◌else◌, is_some, List, [], Option, Some, None, length, map, take, slice_index, slice_index_or, refl}
use Rattle.std.specs.List.{Contains}
use Rattle.std.specs.Option.{option_map_or}
use Rattle.std.proofs.Common.{arith, ap, ap₂, sym, ◌∙◌, inl, inr}
use Rattle.std.proofs.lemmas.Bool.{cases_lt}
use Rattle.std.proofs.lemmas.List.{get_or-append-add, get_or-map, get_or_append_left, get_or_past, length-append, map-append, take_more}
use Rattle.fraction_theory.specs.Fraction.{Fraction, whole}
use Rattle.fraction_theory.specs.Signs.{sign_of}
use Rattle.linear_dict.specs.Dictionaries.{Dictionary, IsDictionary, choice_of, note_of, system_in}
use Rattle.linear_dict.specs.Notes.{Noted, blank}
use Rattle.linear_dict.specs.Places.{place_in, is_among}
use Rattle.linear_dict.proofs.NameLemmas.{among-tells, among-not, place_in-within}
use Rattle.linear_dict.proofs.SplitLemmas.{in_basics, in_others}
use Rattle.optimal_face.specs.Faces.{Held, IsStill, by_hold, by_bounds, bound_at, held_at, holds, more_held, nothing_held}
use Rattle.optimal_face.specs.Laws.{CanNotMove}
use Rattle.optimal_face.proofs.HeldLemmas.{priced_or_not}
use Rattle.simplex_core.specs.States.{state_of}
use Rattle.simplex_core.specs.declared.bounds.Bounds.{Bounds}
use Rattle.simplex_core.proofs.NoteLaws.{funext, named_or_not, note_unnamed}
use Rattle.simplex_core.proofs.Ranks.{at_rank, rank_of, ranked_named}
use Rattle.first_best.specs.Holding.{back_note, held_by}

module _ (names : List ℕ) (held : List (Option Bool)) (w : ℕ) where
  pub held-named : Contains names w → held_by names held w ≡ slice_index_or held (place_in names w) None
  unfolding held_by
  held-named c = ap (λ (b : Bool). if b then slice_index_or held (place_in names w) None else None) (among-tells names w c)

  pub held-unnamed : ¬ (Contains names w) → held_by names held w ≡ None
  unfolding held_by
  held-unnamed n = ap (λ (b : Bool). if b then slice_index_or held (place_in names w) None else None) (among-not names w n)

-- how the variable of a rank is held
pub held-ranked : (d : Dictionary) → IsDictionary d → (held : List (Option Bool)) (k : ℕ) → k < length d.names → held_by d.names held (slice_index d.names k) ≡ slice_index_or held k None
held-ranked d h held k l =
    held-named d.names held (slice_index d.names k) (ranked_named d h k l) ∙ ap (λ (i : ℕ). slice_index_or held i None) (rank_of d h k l)

-- a name is there or not
pub named_or_absent : (names : List ℕ) (w : ℕ) → Contains names w ⊎ ¬ (Contains names w)
named_or_absent names w = elim (named_or_not names w) [
  | inl c ↦ inl c
  | inr past ↦ inr (λ c. Prim.omega (arith, past, (place_in-within names w c).0))
]

-- a list of nothing holds nothing
pub held-nothing : (names : List ℕ) → held_by names [] ≡ nothing_held
held-nothing names = funext (held_by names []) nothing_held (λ w. elim (named_or_absent names w) [
  | inl c ↦ held-named names [] w c ∙ get_or_past [] (place_in names w) None (Prim.omega (arith))
  | inr n ↦ held-unnamed names [] w n
])

-- a name that is not there has no note
pub note_absent : (d : Dictionary) → IsDictionary d → (w : ℕ) → ¬ (Contains d.names w) → note_of d w ≡ blank
note_absent d h w n = note_unnamed d w h.note_count (elim (named_or_not d.names w) [ inl c ↦ absurd (n c) | inr past ↦ past ])

-- how a variable is held besides
abbrev pub besides : Option Bool → Noted → Option Bool
besides hold n = if is_some hold then hold else if holds (sign_of n.reduced) then Some n.at_high else None

besides-nothing : besides None blank ≡ None
besides-nothing = elim (priced_or_not (whole (pos 0))) [
  | inl nil ↦ ap (λ (b : Bool). if b then Some false else None) nil.1
  | inr priced ↦ absurd (priced.0 refl)
]

module _ (d : Dictionary) (h : IsDictionary d) (held : List (Option Bool)) where
  more_is : (w : ℕ) → more_held (held_by d.names held) (state_of d) w ≡ besides (held_by d.names held w) (note_of d w)
  unfolding more_held state_of choice_of
  more_is w = refl

  -- a list that says so by rank
  pub besides-all : (more : List (Option Bool)) → ((k : ℕ) → k < length d.names → slice_index_or more k None ≡ besides (slice_index_or held k None) (note_of d (slice_index d.names k)))
      → held_by d.names more ≡ more_held (held_by d.names held) (state_of d)
  besides-all more each = funext (held_by d.names more) (more_held (held_by d.names held) (state_of d)) (λ w. elim (named_or_absent d.names w) [
    | inl c ↦
        let at = at_rank d h w c in
        held-named d.names more w c ∙ each (place_in d.names w) at.0 ∙ ap₂ besides (sym (held-named d.names held w c)) (ap (note_of d) at.1) ∙ sym (more_is w)
    | inr n ↦
        held-unnamed d.names more w n
        ∙ sym (more_is w ∙ ap₂ besides (held-unnamed d.names held w n) (note_absent d h w n) ∙ besides-nothing)
  ])

  -- the rank of a name that stands at a rank
  pub held-at : (k w : ℕ) → k < length d.names → slice_index d.names k ≡ w → held_by d.names held w ≡ slice_index_or held k None
  held-at k w l e = ap (held_by d.names held) (sym e) ∙ held-ranked d h held k l

-- ---- the bounds of a variable that is held
-- what a number of a note is, by how its variable is held
value_of_hold : {N : Type 0} (value : N → Fraction) (low high other : N) (hold : Option Bool)
    → value (option_map_or (λ (up : Bool). if up then high else low) hold other) ≡ option_map_or (λ (up : Bool). if up then value high else value low) hold (value other)
value_of_hold value low high other None = refl
value_of_hold value low high other (Some true) = refl
value_of_hold value low high other (Some false) = refl

module _ {N : Type 0} (value : N → Fraction) (d : Dictionary) (held : Held) (price : ℕ → Fraction) (w : ℕ) (low high : N) (low_is : value low ≡ (note_of d w).low) (high_is : value high ≡ (note_of d w).high) where
  pub low-held : (x : N) (hold : Option Bool) → hold ≡ held w → x ≡ option_map_or (λ (up : Bool). if up then high else low) hold low → value x ≡ (held_at (system_in d) held price).low w
  unfolding held_at system_in bound_at
  low-held x hold e is =
      ap value is ∙ value_of_hold value low high low hold
      ∙ ap₂ (λ (a b : Fraction). option_map_or (λ (up : Bool). if up then b else a) hold a) low_is high_is
      ∙ ap (λ (o : Option Bool). option_map_or (λ (up : Bool). if up then (note_of d w).high else (note_of d w).low) o (note_of d w).low) e

  pub high-held : (x : N) (hold : Option Bool) → hold ≡ held w → x ≡ option_map_or (λ (up : Bool). if up then high else low) hold high → value x ≡ (held_at (system_in d) held price).high w
  unfolding held_at system_in bound_at
  high-held x hold e is =
      ap value is ∙ value_of_hold value low high high hold
      ∙ ap₂ (λ (a b : Fraction). option_map_or (λ (up : Bool). if up then b else a) hold b) low_is high_is
      ∙ ap (λ (o : Option Bool). option_map_or (λ (up : Bool). if up then (note_of d w).high else (note_of d w).low) o (note_of d w).high) e

-- ---- what can't move
module _ (d : Dictionary) (held : Held) (w : ℕ) where
  pub still_held : (o : Option Bool) → o ≡ held w → is_some o ≡ true → IsStill (system_in d) held w
  still_held None e k = absurd Prim.cc
  still_held (Some high) e k = by_hold high (sym e)

  pub still_equal : (note_of d w).low ≡ (note_of d w).high → IsStill (system_in d) held w
  unfolding system_in
  still_equal e = by_bounds e

module _ (d : Dictionary) (h : IsDictionary d) (held : Held) (w : ℕ) where
  pub other_can_not : Contains d.others w → IsStill (system_in d) held w → CanNotMove (system_in d) held (choice_of d) w
  other_can_not o still = record {
    other = λ c. still;
    basic = λ b v c n. absurd (h.split.apart w (in_basics d h w b) o);
  }

  pub basic_can_not : Contains d.basics w → ((v : ℕ) → Contains d.others v → (choice_of d).entry w v ≢ whole (pos 0) → IsStill (system_in d) held v) → CanNotMove (system_in d) held (choice_of d) w
  basic_can_not b still = record {
    other = λ c. absurd (h.split.apart w b (in_others d h w c));
    basic = λ c v k n. still v (in_others d h v k) n;
  }

-- ---- lists that loops make
-- how the variables of the ranks below k are held besides
pub record AreBesides (d : Dictionary) (held : List (Option Bool)) (k : ℕ) (more : List (Option Bool)) : Type 0 where
  pub count : length more ≡ k
  pub each : (i : ℕ) → i < k → slice_index_or more i None ≡ besides (slice_index_or held i None) (note_of d (slice_index d.names i))

pub besides_start : (d : Dictionary) (held : List (Option Bool)) → AreBesides d held 0 []
besides_start d held = record { count = refl; each = λ i l. absurd (Prim.omega (arith, l)) }

pub besides_more : (d : Dictionary) (held : List (Option Bool)) (k : ℕ) (more : List (Option Bool)) (hold : Option Bool) → AreBesides d held k more
    → hold ≡ besides (slice_index_or held k None) (note_of d (slice_index d.names k)) → AreBesides d held (k + 1) (more ++ hold ∷ [])
besides_more d held k more hold are is = record {
  count = length-append more (hold ∷ []) ∙ ap (λ (n : ℕ). n + 1) are.count;
  each = λ i l. elim (cases_lt i k) [
    | inl less ↦ get_or_append_left more (hold ∷ []) None i (Prim.omega (arith, less, are.count)) ∙ are.each i less
    | inr past ↦
        let e : i ≡ k = Prim.omega (arith, l, past) in
        ap (λ (n : ℕ). slice_index_or (more ++ hold ∷ []) n None) (behind i e) ∙ get_or-append-add more (hold ∷ []) 0 None ∙ is
        ∙ ap (λ (n : ℕ). besides (slice_index_or held n None) (note_of d (slice_index d.names n))) (sym e)
  ];
}
  where
    behind : (i : ℕ) → i ≡ k → i ≡ length more + 0
    behind i e = Prim.omega (arith, e, are.count)

-- the bounds of these names, as they are held
pub record AreBoundsOf {N : Type 0} (value : N → Fraction) (d : Dictionary) (held : List (Option Bool)) (names : List ℕ) (bounds : List (Bounds N)) : Type 0 where
  pub lows : (price : ℕ → Fraction) → map (λ (b : Bounds N). value b.low) bounds ≡ map (held_at (system_in d) (held_by d.names held) price).low names
  pub highs : (price : ℕ → Fraction) → map (λ (b : Bounds N). value b.high) bounds ≡ map (held_at (system_in d) (held_by d.names held) price).high names

pub bounds_start : {N : Type 0} (value : N → Fraction) (d : Dictionary) (held : List (Option Bool)) → AreBoundsOf value d held [] []
bounds_start value d held = record { lows = λ price. refl; highs = λ price. refl }

pub bounds_more : {N : Type 0} (value : N → Fraction) (d : Dictionary) (held : List (Option Bool)) (names : List ℕ) (bounds : List (Bounds N)) (w : ℕ) (b : Bounds N) → AreBoundsOf value d held names bounds
    → ((price : ℕ → Fraction) → value b.low ≡ (held_at (system_in d) (held_by d.names held) price).low w) → ((price : ℕ → Fraction) → value b.high ≡ (held_at (system_in d) (held_by d.names held) price).high w)
    → AreBoundsOf value d held (names ++ w ∷ []) (bounds ++ b ∷ [])
bounds_more {N} value d held names bounds w b are low high = record {
  lows = λ price. map-append (λ (x : Bounds N). value x.low) bounds (b ∷ []) ∙ ap₂ (λ xs x. xs ++ x ∷ []) (are.lows price) (low price) ∙ sym (map-append (held_at (system_in d) (held_by d.names held) price).low names (w ∷ []));
  highs = λ price. map-append (λ (x : Bounds N). value x.high) bounds (b ∷ []) ∙ ap₂ (λ xs x. xs ++ x ∷ []) (are.highs price) (high price) ∙ sym (map-append (held_at (system_in d) (held_by d.names held) price).high names (w ∷ []));
}

-- a mapped list grows with it
pub grown : {X Y : Type 0} (f : X → Y) (xs : List X) (x : X) (ys : List Y) (k : ℕ) (y : Y) → k < length ys → map f xs ≡ take k ys → f x ≡ slice_index_or ys k y → map f (xs ++ x ∷ []) ≡ take (k + 1) ys
grown f xs x ys k y l so is = map-append f xs (x ∷ []) ∙ ap₂ (λ zs z. zs ++ z ∷ []) so is ∙ sym (take_more ys k y l)

pub grown_by : {X Y Z : Type 0} (f : X → Y) (h : Z → Y) (xs : List X) (x : X) (ys : List Z) (k : ℕ) (z : Z) → k < length ys → map f xs ≡ map h (take k ys) → f x ≡ h (slice_index_or ys k z)
    → map f (xs ++ x ∷ []) ≡ map h (take (k + 1) ys)
grown_by f h xs x ys k z l so is = map-append f xs (x ∷ []) ∙ ap₂ (λ us u. us ++ u ∷ []) so is ∙ sym (ap (map h) (take_more ys k z l) ∙ map-append h (take k ys) (slice_index_or ys k z ∷ []))

-- the note of a rank in a list of notes
pub note_at : (d : Dictionary) (h : IsDictionary d) (notes : List Noted) (k : ℕ) → k < length d.names → note_of (record d { notes = notes }) (slice_index d.names k) ≡ slice_index_or notes k blank
unfolding note_of
note_at d h notes k l = ap (λ (i : ℕ). slice_index_or notes i blank) (rank_of d h k l)

-- what is read at a place
pub read_of : {X Y : Type 0} (f : X → Y) (xs : List X) (k : ℕ) (x : X) (z : Y) → k < length xs → x ≡ slice_index_or xs k x → f x ≡ slice_index_or (map f xs) k z
read_of f xs k x z l is = ap f is ∙ sym (get_or-map f xs k x z l)

-- a note that is brought back
pub back_is : (b e : Dictionary) (held : Held) (w : ℕ) (kept note : Noted) (hold : Option Bool) → kept ≡ note_of b w → note ≡ note_of e w → hold ≡ held w
    → ◌≡◌ {A = Noted} (record kept { value = note.value; at_high = option_map_or (λ high. high) hold note.at_high }) (back_note b held e w)
unfolding back_note
back_is b e held w kept note hold is_kept is_note is_hold =
    ap (λ (n : Noted). back n note hold) is_kept ∙ ap₂ (back (note_of b w)) is_note is_hold
  where
    back : Noted → Noted → Option Bool → Noted
    back n x o = record n { value = x.value; at_high = option_map_or (λ high. high) o x.at_high }
