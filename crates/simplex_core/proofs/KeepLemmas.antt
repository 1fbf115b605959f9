-- Reduced prices that are known stay where prices stay, and where a variable that is not basic gets its first price.
use Rattle.std.specs.Prelude.{◌≡◌, ◌≢◌, ◌⊎◌, ℕ, ◌<◌, pos, List, length, map, slice_index, refl}
use Rattle.std.specs.List.{Contains}
use Rattle.std.proofs.Common.{arith, ap, sym, ◌∙◌, subst, inl, inr}
use Rattle.std.proofs.lemmas.List.{length-map}
use mathlib.Core.Path.{ap₂}
use Rattle.fraction_theory.specs.Fraction.{Fraction, whole, ◌+ℚ◌, ◌*ℚ◌}
use Rattle.fraction_theory.specs.Sums.{sum_by}
use Rattle.fraction_theory.proofs.FieldLaws.{ring_ℚ}
use Rattle.fraction_theory.proofs.ListSums.{Contains-filter, Contains-from_filter, Distinct, Distinct-increasing, except, put_at-elsewhere, put_at-here, same_or_not, sum_by-members, sum_by-split}
use Rattle.fraction_theory.proofs.Ring.{nil_plus}
use Rattle.linear_system.specs.Choices.{basics, column_entry, others, reduced}
use Rattle.linear_system.specs.Systems.{System}
use Rattle.linear_system.proofs.ChoiceLaws.{column_entry-itself, column_entry-other}
use Rattle.linear_dict.specs.Dictionaries.{Dictionary, IsDictionary, choice_of, note_of, system_in}
use Rattle.linear_dict.specs.Notes.{Noted}
use Rattle.linear_dict.specs.Places.{is_among, place_in}
use Rattle.linear_dict.specs.ReducedPrices.{HasReducedPrices}
use Rattle.linear_dict.proofs.NameLemmas.{among-from, among-tells, place_in-at, place_in-within}
use Rattle.linear_dict.proofs.ProductLemmas.{times_zero, zero_times}
use Rattle.linear_dict.proofs.ReducedPriceLemmas.{reduced_basic, reduced_other}
use Rattle.linear_dict.proofs.SplitLemmas.{Contains-at, basic_in, other_in, system_is}
use Rattle.simplex_core.specs.Posings.{HasNotes, IsPriced, IsPut, KeepsPrice, KeepsPrices, column_note, column_price, kept_column, kept_row, price_put, reduced_note, reduced_put, row_note}
use Rattle.simplex_core.specs.Turns.{noted_anew}
use Rattle.simplex_core.specs.declared.bounds.Bounds.{Bounds}
use Rattle.simplex_core.proofs.Adding.{reduced_note-basic, reduced_note-other}
use Rattle.simplex_core.proofs.AnewLaws.{anew_sound, anew_twice, same_anew}
use Rattle.simplex_core.proofs.NoteLaws.{note_anew, renoted_dictionary}
use Rattle.simplex_core.proofs.StandLemmas.{choice_other, reduced_frame}

column_in : (d : Dictionary) (j : ℕ) → IsDictionary d → Contains d.columns j → Contains (system_in d).columns j
unfolding system_in
column_in d j h m = Contains-filter (is_among d.columns) d.names j (h.put_in.second_named j m) (among-tells d.columns j m)

in_columns : (d : Dictionary) (j : ℕ) → Contains (system_in d).columns j → Contains d.columns j
unfolding system_in
in_columns d j c = among-from d.columns j (Contains-from_filter (is_among d.columns) d.names j c).1

price-of : (d : Dictionary) (j : ℕ) → (system_in d).price j ≡ (note_of d j).price
unfolding system_in
price-of d j = refl

module _ {N : Type 0} (value : N → Fraction) (d : Dictionary) (h : IsDictionary d) (known : HasReducedPrices d) (prices : List N) (kept : KeepsPrices value d prices) where
  keeps : (j : ℕ) → Contains d.columns j → KeepsPrice d j (price_put value d prices j)
  unfolding price_put
  keeps j m = let p = place_in-within d.columns j m in subst (λ (x : ℕ). KeepsPrice d x (column_price value prices (place_in d.columns j))) p.1 (kept (place_in d.columns j) p.0)

  -- what the price of a column makes in a reduced price, before and after
  was : ℕ → ℕ → Fraction
  was w j = (system_in d).price j *ℚ column_entry (choice_of d) j w

  now : ℕ → ℕ → Fraction
  now w j = price_put value d prices j *ℚ column_entry (choice_of d) j w

  same_term : (j w : ℕ) → Contains d.columns j → j ≢ w → now w j ≡ was w j
  unfolding was now
  same_term j w m n = elim (keeps j m) [
    | inl e ↦ ap (λ x. x *ℚ column_entry (choice_of d) j w) (sym e ∙ sym (price-of d j))
    | inr o ↦
        let none : column_entry (choice_of d) j w ≡ whole (pos 0) = column_entry-other (choice_of d) j w (choice_other d h j o.0) n in
        times_zero (price_put value d prices j) (column_entry (choice_of d) j w) none ∙ sym (times_zero ((system_in d).price j) (column_entry (choice_of d) j w) none)
  ]

  priced : System
  priced = record (system_in d) { price = price_put value d prices }

  as_sum : (w : ℕ) → Contains d.others w → reduced_put value d prices w ≡ sum_by (now w) (system_in d).columns
  unfolding reduced_put now priced others
  as_sum w o = reduced_other (record (system_in d) { price = price_put value d prices }) (choice_of d) w (other_in d h w o)

  was_sum : (w : ℕ) → Contains d.others w → (note_of d w).reduced ≡ sum_by (was w) (system_in d).columns
  unfolding was
  was_sum w o = known.of w (h.split.second_named w o) ∙ reduced_other (system_in d) (choice_of d) w (other_in d h w o)

  put_basic : (w : ℕ) → Contains d.basics w → reduced_put value d prices w ≡ whole (pos 0)
  unfolding reduced_put basics
  put_basic w b = reduced_basic (record (system_in d) { price = price_put value d prices }) (choice_of d) w (basic_in d h w b)

  -- where the price of a variable is the same, or it is no column, so is its reduced price
  pub put_same : (w : ℕ) → Contains d.names w → (Contains d.columns w → (note_of d w).price ≡ price_put value d prices w) → (note_of d w).reduced ≡ reduced_put value d prices w
  unfolding was now
  put_same w named same = elim (h.split.either w named) [
    | inl b ↦ known.of w named ∙ reduced_basic (system_in d) (choice_of d) w (basic_in d h w b) ∙ sym (put_basic w b)
    | inr o ↦ was_sum w o ∙ sum_by-members (was w) (now w) (system_in d).columns (λ j c. elim (same_or_not j w) [
      | inl e ↦
          let m : Contains d.columns j = in_columns d j c in
          ap (λ x. x *ℚ column_entry (choice_of d) j w) (price-of d j ∙ subst (λ (x : ℕ). (note_of d x).price ≡ price_put value d prices x) (sym e) (same (subst (Contains d.columns) e m)))
      | inr n ↦ sym (same_term j w (in_columns d j c) n)
    ]) ∙ sym (as_sum w o)
  ]

  -- A first price is the reduced price of its variable.
  pub put_new : (w : ℕ) → Contains d.columns w → Contains d.others w → (note_of d w).price ≡ whole (pos 0) → (note_of d w).reduced ≡ whole (pos 0) → price_put value d prices w ≡ reduced_put value d prices w
  unfolding was now
  put_new w m o no_price none =
      let xs : List ℕ = (system_in d).columns in
      let distinct : Distinct xs = Distinct-increasing xs (system_is d h).columns_ascend in
      let inside : Contains xs w = column_in d w h m in
      let own : now w w ≡ price_put value d prices w =
      ap (λ x. price_put value d prices w *ℚ x) (column_entry-itself (choice_of d) w (choice_other d h w o)) ∙ ring_ℚ.times_one (price_put value d prices w) in
      let first : was w w ≡ whole (pos 0) =
      let e : (system_in d).price w ≡ whole (pos 0) = price-of d w ∙ no_price in zero_times ((system_in d).price w) (column_entry (choice_of d) w w) e ∙ e in
      let rest : sum_by (except w (now w)) xs ≡ sum_by (except w (was w)) xs =
      sum_by-members (except w (now w)) (except w (was w)) xs (λ j c. elim (same_or_not j w) [
        | inl e ↦ put_at-here w (whole (pos 0)) (now w) j e ∙ sym (put_at-here w (whole (pos 0)) (was w) j e)
        | inr n ↦ put_at-elsewhere w (whole (pos 0)) (now w) j n ∙ same_term j w (in_columns d j c) n ∙ sym (put_at-elsewhere w (whole (pos 0)) (was w) j n)
      ]) in
      let others_none : sum_by (except w (was w)) xs ≡ whole (pos 0) =
      sym (nil_plus ring_ℚ (sum_by (except w (was w)) xs)) ∙ ap (λ x. x +ℚ sum_by (except w (was w)) xs) (sym first) ∙ sym (sum_by-split (was w) w xs distinct inside) ∙ sym (was_sum w o) ∙ none in
      sym (as_sum w o ∙ sum_by-split (now w) w xs distinct inside ∙ ap₂ ◌+ℚ◌ own (rest ∙ others_none) ∙ ring_ℚ.plus_nil (price_put value d prices w))

  -- the reduced price that is noted: the old one where the price is the same, and else the price
  pub taken_up : (w : ℕ) → Contains d.columns w → (x : Fraction) → (((note_of d w).price ≡ price_put value d prices w) × (x ≡ (note_of d w).reduced)) ⊎ ((note_of d w).price ≢ price_put value d prices w) × (x ≡ price_put value d prices w)
      → x ≡ reduced_put value d prices w
  taken_up w m x told = elim told [
    | inl same ↦ same.1 ∙ put_same w (h.put_in.second_named w m) (λ _. same.0)
    | inr other ↦ elim (keeps w m) [ inl e ↦ absurd (other.0 e) | inr o ↦ other.1 ∙ put_new w m o.0 o.1 o.2 ]
  ]

  -- the note that the code makes of a column
  pub column_kept : (bounds : List (Bounds N)) (k : ℕ) → k < length d.columns → (blank : Noted) (x old new : Fraction) → blank ≡ column_note value prices bounds k
      → old ≡ (note_of d (slice_index d.columns k)).price → new ≡ column_price value prices k
      → ((old ≡ new) × (x ≡ (note_of d (slice_index d.columns k)).reduced)) ⊎ ((old ≢ new) × (x ≡ new))
      → ◌≡◌ {A = Noted} (record blank { reduced = x }) (kept_column value d prices bounds k)
  unfolding price_put
  column_kept bounds k hk blank x old new is_blank is_old is_new told =
      let w : ℕ = slice_index d.columns k in
      let put : new ≡ price_put value d prices w = is_new ∙ ap (column_price value prices) (sym (place_in-at d.columns k w h.put_in.second_distinct hk refl)) in
      ap₂ (λ (m : Noted) (y : Fraction). let z : Noted = record m { reduced = y } in z) is_blank
      (taken_up w (Contains-at d.columns k hk) x (elim told [
        | inl same ↦ inl (sym is_old ∙ same.0 ∙ put, same.1)
        | inr other ↦ inr (λ e. other.0 (is_old ∙ e ∙ sym put), other.1 ∙ put)
      ]))

  -- with notes of rows too
  module _ (bounds : List (Bounds N)) (count : length prices ≡ length d.columns) (e g : Dictionary)
      (columns : HasNotes d d.columns (kept_column value d prices bounds) e) (rows : HasNotes e e.rows (kept_row value e bounds (length prices)) g) where
    same_rows : e.rows ≡ d.rows
    same_rows = ap Dictionary.rows columns.is

    frame : g ≡ record d { notes = g.notes }
    frame = rows.is ∙ ap (λ (x : Dictionary). let y : Dictionary = record x { notes = g.notes } in y) columns.is

    size : length g.notes ≡ length d.names
    size = rows.count ∙ ap (λ (x : Dictionary). length x.names) columns.is

    sound : IsDictionary g
    sound = subst IsDictionary (sym frame) (renoted_dictionary d g.notes size h)

    named : (w : ℕ) → Contains d.names w → Contains g.names w
    named w c = subst (λ (x : Dictionary). Contains x.names w) (sym frame) c

    of_column : (k : ℕ) → k < length d.columns → note_of g (slice_index d.columns k) ≡ kept_column value d prices bounds k
    of_column k l =
        let w : ℕ = slice_index d.columns k in
        rows.rest w (λ m. h.put_in.apart w (subst (λ (rs : List ℕ). Contains rs w) same_rows m) (Contains-at d.columns k l)) ∙ columns.each k l

    of_row : (k : ℕ) → k < length d.rows → note_of g (slice_index d.rows k) ≡ kept_row value e bounds (length prices) k
    of_row k l =
        let m : k < length e.rows = Prim.omega (arith, l, ap length same_rows) in
        ap (λ (rs : List ℕ). note_of g (slice_index rs k)) (sym same_rows) ∙ rows.each k m

    -- each variable has its reduced price
    has_reduced : (w : ℕ) → Contains d.names w → (note_of g w).reduced ≡ reduced_put value d prices w
    has_reduced w c = elim (h.put_in.either w c) [
      | inl row ↦
          let at = place_in-within d.rows w row in
          let apart : ¬ (Contains d.columns w) = h.put_in.apart w row in
          ap (λ (x : ℕ). (note_of g x).reduced) (sym at.1) ∙ ap Noted.reduced (of_row (place_in d.rows w) at.0)
          ∙ ap (λ (rs : List ℕ). (note_of e (slice_index rs (place_in d.rows w))).reduced) same_rows ∙ ap (λ (x : ℕ). (note_of e x).reduced) at.1
          ∙ ap Noted.reduced (columns.rest w apart) ∙ put_same w c (λ m. absurd (apart m))
      | inr column ↦
          let at = place_in-within d.columns w column in
          ap (λ (x : ℕ). (note_of g x).reduced) (sym at.1) ∙ ap Noted.reduced (of_column (place_in d.columns w) at.0) ∙ ap (reduced_put value d prices) at.1
    ]

    bare_note : ℕ → Noted
    bare_note w = record (note_of g w) { reduced = whole (pos 0) }

    bare : Dictionary
    bare = noted_anew g bare_note

    bare_sound : IsDictionary bare
    unfolding bare
    bare_sound = anew_sound g sound bare_note

    of_bare : (w : ℕ) → Contains d.names w → note_of bare w ≡ record (note_of g w) { reduced = whole (pos 0) }
    unfolding bare bare_note
    of_bare w c = note_anew g bare_note w (named w c)

    put : IsPut value d prices bounds bare
    unfolding bare noted_anew
    put = record {
      is = ap (λ (x : Dictionary). let y : Dictionary = record x { notes = map bare_note g.names } in y) frame;
      count = length-map g.names bare_note ∙ ap (λ (x : Dictionary). length x.names) frame;
      columns = λ k l.
          of_bare (slice_index d.columns k) (h.put_in.second_named (slice_index d.columns k) (Contains-at d.columns k l))
          ∙ ap (λ (m : Noted). let y : Noted = record m { reduced = whole (pos 0) } in y) (of_column k l);
      rows = λ k l.
          of_bare (slice_index d.rows k) (h.put_in.first_named (slice_index d.rows k) (Contains-at d.rows k l))
          ∙ ap (λ (m : Noted). let y : Noted = record m { reduced = whole (pos 0) } in y) (of_row k l)
          ∙ ap (λ (n : ℕ). row_note value n bounds k) count;
    }

    -- and these are those of the prices that are noted
    same_sum : (ns : List Noted) → ((j : ℕ) → Contains d.columns j → (note_of (record d { notes = ns }) j).price ≡ price_put value d prices j) → (w : ℕ) → Contains d.others w
        → reduced (system_in (record d { notes = ns })) (choice_of d) w ≡ reduced_put value d prices w
    unfolding system_in others now
    same_sum ns price w o =
        reduced_other (system_in (record d { notes = ns })) (choice_of d) w (other_in d h w o)
        ∙ sum_by-members (λ j. (note_of (record d { notes = ns }) j).price *ℚ column_entry (choice_of d) j w) (λ j. price_put value d prices j *ℚ column_entry (choice_of d) j w) (system_in d).columns
        (λ j c. ap (λ x. x *ℚ column_entry (choice_of d) j w) (price j (in_columns d j c)))
        ∙ sym (as_sum w o)

    bare_price : (j : ℕ) → Contains d.columns j → (note_of bare j).price ≡ price_put value d prices j
    unfolding price_put
    bare_price j m = let at = place_in-within d.columns j m in ap (λ (x : ℕ). (note_of bare x).price) (sym at.1) ∙ ap Noted.price (put.columns (place_in d.columns j) at.0)

    bare_reduced : (w : ℕ) → Contains d.others w → reduced (system_in bare) (choice_of bare) w ≡ reduced_put value d prices w
    bare_reduced w o =
        ap (λ (x : Dictionary). reduced (system_in x) (choice_of x) w) put.is
        ∙ reduced_frame (system_in (record d { notes = bare.notes })) d bare.notes w
        ∙ same_sum bare.notes (λ j m. ap (λ (x : Dictionary). (note_of x j).price) (sym put.is) ∙ bare_price j m) w o

    same_note : (w : ℕ) → Contains g.names w → reduced_note bare w ≡ note_of g w
    same_note w c =
        let c' : Contains d.names w = subst (λ (x : Dictionary). Contains x.names w) frame c in
        elim (h.split.either w c') [
          | inl b ↦
              reduced_note-basic bare bare_sound w (subst (λ (x : Dictionary). Contains x.basics w) (sym put.is) b) ∙ of_bare w c'
              ∙ ap (λ (x : Fraction). let y : Noted = record (note_of g w) { reduced = x } in y) (sym (has_reduced w c' ∙ put_basic w b))
          | inr o ↦
              reduced_note-other bare bare_sound w (subst (λ (x : Dictionary). Contains x.others w) (sym put.is) o)
              ∙ ap (λ (m : Noted). let y : Noted = record m { reduced = reduced (system_in bare) (choice_of bare) w } in y) (of_bare w c')
              ∙ ap (λ (x : Fraction). let y : Noted = record (note_of g w) { reduced = x } in y) (bare_reduced w o ∙ sym (has_reduced w c'))
        ]

    pub kept_priced : IsPriced value d prices bounds g
    unfolding bare
    kept_priced = (bare, put, same_anew g sound (note_of g) (λ w _. refl) ∙ sym (anew_twice g sound bare_note (reduced_note bare) (note_of g) same_note))
