-- A pivot of a dictionary is an exchange of its choice.
use Rattle.std.specs.Prelude.{◌≡◌, ◌≢◌, ℕ, ◌*◌, ◌<◌, ◌==◌, pos, true, false, if◌then◌else◌, List, [], ◌∷◌, length, slice_index, slice_set, ◌⊎◌, refl}
use Rattle.std.specs.List.{Contains}
use Rattle.std.proofs.Common.{ap, sym, ◌∙◌, subst, inl, inr}
use Rattle.std.proofs.lemmas.List.{length-set}
use mathlib.Core.Path.{ap₂}
use Rattle.fraction_theory.specs.Fraction.{Fraction, whole, ◌+ℚ◌, ◌*ℚ◌, neg_ℚ, recip_ℚ}
use Rattle.fraction_theory.proofs.Ring.{by_ring, at, pnil, padd}
use Rattle.fraction_theory.proofs.FieldLaws.{ring_ℚ}
use Rattle.fraction_theory.proofs.ListSums.{same_or_not, put_at-here, put_at-elsewhere}
use Rattle.exact_fraction.specs.declared.Op.{Op}
use Rattle.exact_fraction.specs.Passes.{IsShareRefused}
use Rattle.linear_system.specs.Choices.{Choice, IsChoice, OneExchange, basics, others}
use Rattle.linear_system.specs.Numbers.{Kind, Factor, SystemNumber, is_zero, is_entry, is_opposite}
use Rattle.linear_system.specs.Pairs.{IsSystemPair, OfEither, alone}
use Rattle.linear_system.specs.Exchanges.{exchanged, entering_entry}
use Rattle.linear_system.specs.Systems.{System}
use Rattle.linear_system.proofs.ChoiceLaws.{same_choice, others_are, basics_are, is_basic, is_other}
use Rattle.linear_system.proofs.PairLaws.{IsScaling}
use Rattle.linear_system.proofs.ExchangeLaws.{exchanged_is, exchanged_once}
use Rattle.fraction_theory.proofs.ListSums.{Distinct-increasing}
use Rattle.linear_dict.specs.Causes.{PivotShare, solving, scaling, adding}
use Rattle.linear_dict.specs.Dictionaries.{Dictionary, IsDictionary, system_in, choice_of, entry_of, note_of, pivoted}
use Rattle.linear_dict.specs.Places.{IsSplit}
use Rattle.linear_dict.specs.Places.{place_in, is_among}
use Rattle.linear_dict.specs.Tables.{cell, table_of, pivoted_cell, pivoted_row}
use Rattle.linear_dict.proofs.CauseLemmas.{share_pair, written}
use Rattle.linear_dict.proofs.NameLemmas.{place_in-at, among-tells, among-from, among-not}
use Rattle.linear_dict.proofs.PivotLemmas.{pivoted-solved, pivoted-column, pivoted-other, row-itself, row-other}
use Rattle.linear_dict.proofs.SplitLemmas.{Contains-at, set-has, set-keeps, set-cases, set-place_new, set-place_old, split_exchanged, system_is, basic_in, other_in}
use Rattle.linear_dict.proofs.TableLemmas.{shows_table}

module _ (d : Dictionary) (h : IsDictionary d) (r c : ℕ) (hr : r < length d.basics) (hc : c < length d.others) where
  a : ℕ
  a = slice_index d.basics r

  b : ℕ
  b = slice_index d.others c

  a_in : Contains d.basics a
  unfolding a
  a_in = Contains-at d.basics r hr

  b_in : Contains d.others b
  unfolding b
  b_in = Contains-at d.others c hc

  no_b : ¬ (Contains d.basics b)
  no_b k = h.split.apart b k b_in

  no_a : ¬ (Contains d.others a)
  no_a k = h.split.apart a a_in k

  f : ℕ → ℕ → Fraction
  f = cell (length d.others) d.table

  old : Choice
  old = choice_of d

  new : Choice
  new = choice_of (pivoted d r c)

  new_basics : List ℕ
  new_basics = slice_set d.basics r b

  new_others : List ℕ
  new_others = slice_set d.others c a

  new_split : IsSplit d.names new_basics new_others
  unfolding a b new_basics new_others
  new_split = split_exchanged d.names d.basics d.others r c h.split hr hc

  -- the entries of the old choice by places
  old_entry : (x w i j : ℕ) → place_in d.basics x ≡ i → place_in d.others w ≡ j → old.entry x w ≡ f i j
  unfolding old choice_of entry_of f
  old_entry x w i j ei ej = ap₂ (cell (length d.others) d.table) ei ej

  a_at : place_in d.basics a ≡ r
  unfolding a
  a_at = place_in-at d.basics r (slice_index d.basics r) h.split.first_distinct hr refl

  b_at : place_in d.others b ≡ c
  unfolding b
  b_at = place_in-at d.others c (slice_index d.others c) h.split.second_distinct hc refl

  -- those of the new one
  new_entry : (x w i j : ℕ) → place_in new_basics x ≡ i → place_in new_others w ≡ j → i < length d.basics → j < length d.others → new.entry x w ≡ pivoted_cell f r c i j
  unfolding new choice_of entry_of pivoted f new_basics new_others a b
  new_entry x w i j ei ej hi hj =
      let table : List Fraction = table_of (length d.basics) (length d.others) (pivoted_cell (cell (length d.others) d.table) r c) in
      ap (λ (n : ℕ). cell n table (place_in (slice_set d.basics r (slice_index d.others c)) x) (place_in (slice_set d.others c (slice_index d.basics r)) w)) (length-set d.others c (slice_index d.basics r))
      ∙ ap₂ (cell (length d.others) table) ei ej
      ∙ (shows_table (length d.basics) (length d.others) (pivoted_cell (cell (length d.others) d.table) r c)).at i j hi hj

  -- the basic variables of the exchange
  same_basic : (w : ℕ) → Contains d.names w → (exchanged old a b).basic w ≡ new.basic w
  unfolding exchanged old new choice_of pivoted new_basics a b
  same_basic w k = elim (same_or_not w a) [
    | inl e ↦ put_at-here a false (λ x. if x == b then true else is_among d.basics x) w e
        ∙ sym (among-not new_basics w (λ m. elim (set-cases d.basics r b w h.split.first_distinct hr m) [
          | inl q ↦ no_a (subst (Contains d.others) (sym q ∙ e) b_in)
          | inr q ↦ q.1 e
        ]))
    | inr na ↦ put_at-elsewhere a false (λ x. if x == b then true else is_among d.basics x) w na
        ∙ elim (same_or_not w b) [
          | inl e ↦ put_at-here b true (is_among d.basics) w e ∙ sym (among-tells new_basics w (subst (Contains new_basics) (sym e) (set-has d.basics r b hr)))
          | inr nb ↦ put_at-elsewhere b true (is_among d.basics) w nb
              ∙ elim (h.split.either w k) [
                | inl m ↦ among-tells d.basics w m ∙ sym (among-tells new_basics w (set-keeps d.basics r b w m na))
                | inr m ↦ among-not d.basics w (λ q. h.split.apart w q m)
                    ∙ sym (among-not new_basics w (λ q. elim (set-cases d.basics r b w h.split.first_distinct hr q) [ inl e ↦ nb e | inr s ↦ h.split.apart w s.0 m ]))
              ]
        ]
  ]

  -- the solved row: the entries of b
  solved_entry : (w j : ℕ) → (w ≡ a) × (j ≡ c) ⊎ ((w ≢ a) × (j ≢ c) × (place_in d.others w ≡ j)) → entering_entry old a b w ≡ pivoted_row f r c j
  unfolding entering_entry
  solved_entry w j (inl e) =
      put_at-here a (recip_ℚ (old.entry a b)) (λ x. neg_ℚ (old.entry a x) *ℚ recip_ℚ (old.entry a b)) w e.0
      ∙ ap recip_ℚ (old_entry a b r c a_at b_at) ∙ sym (row-itself f r c j e.1)
  solved_entry w j (inr n) =
      put_at-elsewhere a (recip_ℚ (old.entry a b)) (λ x. neg_ℚ (old.entry a x) *ℚ recip_ℚ (old.entry a b)) w n.0
      ∙ ap₂ (λ p q. neg_ℚ p *ℚ recip_ℚ q) (old_entry a w r j a_at n.2) (old_entry a b r c a_at b_at) ∙ sym (row-other f r c j n.1)

  same_entry : (x w : ℕ) → Contains new_basics x → Contains new_others w → (exchanged old a b).entry x w ≡ new.entry x w
  unfolding exchanged new_basics new_others
  same_entry x w cx cw = elim (column w cw) [
    | inl q ↦ by_row c q.1 hc (inl (q.0, refl)) (inl q.0)
    | inr q ↦ by_row (place_in d.others w) q.2.1 q.2.0 (inr (q.0, q.1, refl)) (inr (q.0, q.1, refl))
  ]
    where
      column : (w : ℕ) → Contains new_others w → ((w ≡ a) × (place_in new_others w ≡ c))
          ⊎ ((w ≢ a) × (place_in d.others w ≢ c) × ((place_in d.others w < length d.others) × (place_in new_others w ≡ place_in d.others w)))
      column w k = elim (set-cases d.others c a w h.split.second_distinct hc k) [
        | inl e ↦ inl (e, ap (place_in new_others) e ∙ set-place_new d.others c a h.split.second_distinct no_a hc)
        | inr q ↦ let p = set-place_old d.others c a w h.split.second_distinct no_a hc q.0 q.1 in
            inr (λ e. no_a (subst (Contains d.others) e q.0), p.1, (p.0, p.2))
      ]

      by_row : (j : ℕ) → place_in new_others w ≡ j → j < length d.others → ((w ≡ a) × (j ≡ c)) ⊎ ((w ≢ a) × (j ≢ c) × (place_in d.others w ≡ j))
          → (w ≡ a) ⊎ ((w ≢ a) × (j ≢ c) × (place_in d.others w ≡ j)) → (exchanged old a b).entry x w ≡ new.entry x w
      by_row j ej hj solved way = elim (set-cases d.basics r b x h.split.first_distinct hr cx) [
        | inl e ↦ put_at-here b (entering_entry old a b w) (λ y. (if w == a then whole (pos 0) else old.entry y w) +ℚ old.entry y b *ℚ entering_entry old a b w) x e
            ∙ solved_entry w j solved
            ∙ sym (new_entry x w r j (ap (place_in new_basics) e ∙ set-place_new d.basics r b h.split.first_distinct no_b hr) ej hr hj ∙ pivoted-solved f r c r j refl)
        | inr q ↦
            let p = set-place_old d.basics r b x h.split.first_distinct no_b hr q.0 q.1 in
            let i : ℕ = place_in d.basics x in
            let nb : x ≢ b = λ e. no_b (subst (Contains d.basics) e q.0) in
            put_at-elsewhere b (entering_entry old a b w) (λ y. (if w == a then whole (pos 0) else old.entry y w) +ℚ old.entry y b *ℚ entering_entry old a b w) x nb
            ∙ elim way [
              | inl e ↦ ap₂ (λ s t. s +ℚ old.entry x b *ℚ t) (put_at-here a (whole (pos 0)) (old.entry x) w e) (solved_entry w c (inl (e, refl)) ∙ row-itself f r c c refl)
                  ∙ ap (λ t. whole (pos 0) +ℚ t *ℚ recip_ℚ (f r c)) (old_entry x b i c refl b_at)
                  ∙ by_ring ring_ℚ ((f i c *ℚ recip_ℚ (f r c)) ∷ []) (padd pnil (at 0)) (at 0) refl
                  ∙ sym (pivoted-column f r c i c p.1 refl)
                  ∙ ap (pivoted_cell f r c i) (sym (ap (place_in new_others) e ∙ set-place_new d.others c a h.split.second_distinct no_a hc) ∙ ej)
              | inr n ↦ ap₂ (λ s t. s +ℚ old.entry x b *ℚ t) (put_at-elsewhere a (whole (pos 0)) (old.entry x) w n.0 ∙ old_entry x w i j refl n.2) (solved_entry w j (inr n))
                  ∙ ap (λ t. f i j +ℚ t *ℚ pivoted_row f r c j) (old_entry x b i c refl b_at)
                  ∙ sym (pivoted-other f r c i j p.1 n.1)
            ]
            ∙ sym (new_entry x w i j p.2 ej p.0 hj)
      ]

  same_system : system_in (pivoted d r c) ≡ system_in d
  unfolding system_in pivoted note_of
  same_system = refl

  entries : (x w : ℕ) → Contains (basics (system_in d) (exchanged old a b)) x → Contains (others (system_in d) (exchanged old a b)) w → (exchanged old a b).entry x w ≡ new.entry x w
  unfolding new choice_of pivoted new_basics new_others system_in a b
  entries x w cx cw =
      let px = basics_are (system_in d) (exchanged old a b) x cx in
      let pw = others_are (system_in d) (exchanged old a b) w cw in
      let bx : Contains new_basics x = among-from new_basics x (sym (same_basic x px.0) ∙ px.1) in
      let bw : Contains new_others w = elim (new_split.either w pw.0) [
        | inl k ↦ let wrong : true ≡ false = sym (among-tells new_basics w k) ∙ sym (same_basic w pw.0) ∙ pw.1 in absurd cc
        | inr k ↦ k
      ] in
      same_entry x w bx bw

  -- The pivoted dictionary's choice has the basic variables and the entries of the exchange.
  pub pivoted_basic : (w : ℕ) → Contains d.names w → (exchanged (choice_of d) (slice_index d.basics r) (slice_index d.others c)).basic w ≡ (choice_of (pivoted d r c)).basic w
  unfolding old new a b
  pivoted_basic w k = same_basic w k

  pub pivoted_entry : (x w : ℕ) → Contains (basics (system_in d) (exchanged (choice_of d) (slice_index d.basics r) (slice_index d.others c))) x
      → Contains (others (system_in d) (exchanged (choice_of d) (slice_index d.basics r) (slice_index d.others c))) w
      → (exchanged (choice_of d) (slice_index d.basics r) (slice_index d.others c)).entry x w ≡ (choice_of (pivoted d r c)).entry x w
  unfolding old new a b
  pivoted_entry x w cx cw = entries x w cx cw

  -- the pivoted dictionary is one
  pub pivoted_dictionary : d.spent ≡ false → cell (length d.others) d.table r c ≢ whole (pos 0) → IsDictionary (pivoted d r c)
  unfolding f a b old new pivoted new_basics new_others system_in
  pivoted_dictionary live not_nil =
      let s : System = system_in d in
      let choice : IsChoice s (choice_of d) = h.solutions live in
      let system = system_is d h in
      let ca : Contains (basics s (choice_of d)) (slice_index d.basics r) = basic_in d h (slice_index d.basics r) a_in in
      let cb : Contains (others s (choice_of d)) (slice_index d.others c) = other_in d h (slice_index d.others c) b_in in
      let pivot : (choice_of d).entry (slice_index d.basics r) (slice_index d.others c) ≢ whole (pos 0) = λ e. not_nil (sym (old_entry (slice_index d.basics r) (slice_index d.others c) r c a_at b_at) ∙ e) in
      let after : IsChoice s (exchanged (choice_of d) (slice_index d.basics r) (slice_index d.others c)) = exchanged_is s system (choice_of d) (slice_index d.basics r) (slice_index d.others c) choice ca cb pivot in record {
        row_count = h.row_count ∙ sym (length-set d.basics r (slice_index d.others c));
        column_count = h.column_count ∙ sym (length-set d.others c (slice_index d.basics r));
        coefficient_count = h.coefficient_count;
        table_count = (shows_table (length d.basics) (length d.others) (pivoted_cell (cell (length d.others) d.table) r c)).count
            ∙ ap₂ ◌*◌ (sym (length-set d.basics r (slice_index d.others c))) (sym (length-set d.others c (slice_index d.basics r)));
        note_count = h.note_count;
        ascending = h.ascending;
        put_in = h.put_in;
        split = new_split;
        solutions = λ _. subst (λ z. IsChoice z (choice_of (pivoted d r c))) (sym same_system) (same_choice s (Distinct-increasing d.names h.ascending) (exchanged (choice_of d) (slice_index d.basics r) (slice_index d.others c)) (choice_of (pivoted d r c)) same_basic entries after);
      }

  -- the choice after the exchange, and the numbers of the two
  near : Choice
  near = exchanged old a b

  Number : Kind → Fraction → Type 0
  Number = OfEither (SystemNumber (system_in d)) old near

  opposite : (x : Fraction) → Number Factor x → Number Factor (neg_ℚ x)
  unfolding Number
  opposite x (inl n) = inl (is_opposite Factor x n)
  opposite x (inr n) = inr (is_opposite Factor x n)

  zero_here : Number Factor (whole (pos 0))
  unfolding Number
  zero_here = inl is_zero

  -- an entry of the old table is one of the old choice
  entry_here : (i j : ℕ) → i < length d.basics → j < length d.others → Number Factor (f i j)
  unfolding Number old
  entry_here i j hi hj =
      let x : ℕ = slice_index d.basics i in
      let w : ℕ = slice_index d.others j in
      inl (subst (SystemNumber (system_in d) (choice_of d) Factor) (old_entry x w i j (place_in-at d.basics i x h.split.first_distinct hi refl) (place_in-at d.others j w h.split.second_distinct hj refl))
      (is_entry x w (basic_in d h x (Contains-at d.basics i hi)) (other_in d h w (Contains-at d.others j hj))))

  once : OneExchange (system_in d) (choice_of d) (exchanged (choice_of d) (slice_index d.basics r) (slice_index d.others c)) (slice_index d.basics r) (slice_index d.others c)
  unfolding a b
  once = exchanged_once (system_in d) (system_is d h) (choice_of d) (slice_index d.basics r) (slice_index d.others c)
      (basic_in d h (slice_index d.basics r) a_in) (other_in d h (slice_index d.others c) b_in)

  near_entry : (w : ℕ) → (exchanged old a b).entry b w ≡ entering_entry old a b w
  unfolding exchanged
  near_entry w = put_at-here b (entering_entry old a b w) (λ y. (if w == a then whole (pos 0) else old.entry y w) +ℚ old.entry y b *ℚ entering_entry old a b w) b refl

  -- an entry of b after the exchange
  entry_near : (w j : ℕ) → Contains (others (system_in d) (exchanged old a b)) w → (w ≡ a) × (j ≡ c) ⊎ ((w ≢ a) × (j ≢ c) × (place_in d.others w ≡ j)) → Number Factor (pivoted_row f r c j)
  unfolding Number near old a b
  entry_near w j cw way =
      let x : ℕ = slice_index d.basics r in
      let y : ℕ = slice_index d.others c in
      let k : Choice = exchanged (choice_of d) x y in
      let is : k.entry y w ≡ pivoted_row f r c j = near_entry w ∙ solved_entry w j way in
      inr (subst (SystemNumber (system_in d) k Factor) is (is_entry y w (is_basic (system_in d) k y once.entering once.enters.1) cw))

  -- a variable of another column stays an other one
  other_near : (j : ℕ) → j < length d.others → j ≢ c
      → Contains (others (system_in d) (exchanged old a b)) (slice_index d.others j) × (slice_index d.others j ≢ a) × (place_in d.others (slice_index d.others j) ≡ j)
  unfolding old a b system_in choice_of
  other_near j hj n =
      let x : ℕ = slice_index d.basics r in
      let y : ℕ = slice_index d.others c in
      let w : ℕ = slice_index d.others j in
      let k : Choice = exchanged (choice_of d) x y in
      let m : Contains d.others w = Contains-at d.others j hj in
      let at : place_in d.others w ≡ j = place_in-at d.others j w h.split.second_distinct hj refl in
      let not_x : w ≢ x = λ e. no_a (subst (Contains d.others) e m) in
      let not_y : w ≢ y = λ e. n (sym at ∙ ap (place_in d.others) e ∙ b_at) in
      let named : Contains d.names w = h.split.second_named w m in
      let stays : k.basic w ≡ false = sym (once.stays w named not_x not_y) ∙ among-not d.basics w (λ q. h.split.apart w q m) in
      (is_other (system_in d) k w named stays, not_x, at)

  -- a variable of another row stays basic
  basic_near : (i : ℕ) → i < length d.basics → i ≢ r
      → Contains (basics (system_in d) (exchanged old a b)) (slice_index d.basics i) × (slice_index d.basics i ≢ b) × (place_in d.basics (slice_index d.basics i) ≡ i)
  unfolding old a b system_in choice_of
  basic_near i hi n =
      let x : ℕ = slice_index d.basics r in
      let y : ℕ = slice_index d.others c in
      let w : ℕ = slice_index d.basics i in
      let k : Choice = exchanged (choice_of d) x y in
      let m : Contains d.basics w = Contains-at d.basics i hi in
      let at : place_in d.basics w ≡ i = place_in-at d.basics i w h.split.first_distinct hi refl in
      let not_x : w ≢ x = λ e. n (sym at ∙ ap (place_in d.basics) e ∙ a_at) in
      let not_y : w ≢ y = λ e. no_b (subst (Contains d.basics) e m) in
      let named : Contains d.names w = h.split.first_named w m in
      let stays : k.basic w ≡ true = sym (once.stays w named not_x not_y) ∙ among-tells d.basics w m in
      (is_basic (system_in d) k w named stays, not_y, at)

  a_near : Contains (others (system_in d) (exchanged old a b)) a
  unfolding old a b
  a_near = is_other (system_in d) (exchanged (choice_of d) (slice_index d.basics r) (slice_index d.others c)) (slice_index d.basics r) once.leaving once.leaves.1

  -- an entry of the solved row is one of the choice after the exchange
  entry_solved : (j : ℕ) → j < length d.others → Number Factor (pivoted_row f r c j)
  entry_solved j hj = elim (same_or_not j c) [
    | inl e ↦ entry_near a j a_near (inl (refl, e))
    | inr n ↦ let o = other_near j hj n in entry_near (slice_index d.others j) j o.0 (inr (o.1, n, o.2))
  ]

  other_entry : (v w : ℕ) → v ≢ b → (exchanged old a b).entry v w ≡ (if w == a then whole (pos 0) else old.entry v w) +ℚ old.entry v b *ℚ entering_entry old a b w
  unfolding exchanged
  other_entry v w m = put_at-elsewhere b (entering_entry old a b w) (λ y. (if w == a then whole (pos 0) else old.entry y w) +ℚ old.entry y b *ℚ entering_entry old a b w) v m

  -- and so is what another row gets
  cleared_number : (i w : ℕ) (x y : Fraction) → i < length d.basics → i ≢ r → Contains (others (system_in d) (exchanged old a b)) w
      → (if w == a then whole (pos 0) else old.entry (slice_index d.basics i) w) ≡ x → entering_entry old a b w ≡ y → Number Factor (x +ℚ f i c *ℚ y)
  unfolding Number near
  cleared_number i w x y hi n cw ex ey =
      let v : ℕ = slice_index d.basics i in
      let o = basic_near i hi n in
      let is : (exchanged old a b).entry v w ≡ x +ℚ f i c *ℚ y =
      other_entry v w o.1 ∙ ap₂ (λ s t. s +ℚ old.entry v b *ℚ t) ex ey ∙ ap (λ t. x +ℚ t *ℚ y) (old_entry v b i c o.2 b_at) in
      inr (subst (SystemNumber (system_in d) (exchanged old a b) Factor) is (is_entry v w o.0 cw))

  cleared_column : (i : ℕ) → i < length d.basics → i ≢ r → Number Factor (whole (pos 0) +ℚ f i c *ℚ pivoted_row f r c c)
  cleared_column i hi n = cleared_number i a (whole (pos 0)) (pivoted_row f r c c) hi n a_near (put_at-here a (whole (pos 0)) (old.entry (slice_index d.basics i)) a refl) (solved_entry a c (inl (refl, refl)))

  cleared_entry : (i j : ℕ) → i < length d.basics → i ≢ r → j < length d.others → j ≢ c → Number Factor (f i j +ℚ f i c *ℚ pivoted_row f r c j)
  cleared_entry i j hi n hj m =
      let w : ℕ = slice_index d.others j in
      let o = other_near j hj m in
      cleared_number i w (f i j) (pivoted_row f r c j) hi n o.0
      (put_at-elsewhere a (whole (pos 0)) (old.entry (slice_index d.basics i)) w o.1 ∙ old_entry (slice_index d.basics i) w i j (basic_near i hi n).2 o.2)
      (solved_entry w j (inr (o.1, m, o.2)))

  -- the numbers of what a pivot asks
  share_numbers : (x p q : Fraction) → PivotShare (length d.basics) (length d.others) f r c x p q → Number Factor x × IsScaling Number Factor p q × Number Factor (x +ℚ p *ℚ q)
  share_numbers _ _ _ (solving j hj n) = (
    zero_here,
    inl (opposite _ (entry_here r j hr hj), alone _ (subst (Number Factor) (row-itself f r c c refl) (entry_solved c hc))),
    subst (Number Factor) (row-other f r c j n ∙ by_ring ring_ℚ ((neg_ℚ (f r j) *ℚ recip_ℚ (f r c)) ∷ []) (at 0) (padd pnil (at 0)) refl) (entry_solved j hj),
  )
  share_numbers _ _ _ (scaling i hi n) = (zero_here, inl (entry_here i c hi hc, alone _ (entry_solved c hc)), cleared_column i hi n)
  share_numbers _ _ _ (adding i j hi n hj m) = (entry_here i j hi hj, inl (entry_here i c hi hc, alone _ (entry_solved j hj)), cleared_entry i j hi n hj m)

  -- A refused operation of a pivot is a working pair of the system: of the choice in hand and the one after the exchange.
  pub pivot_pair : (bound : ℕ) → d.spent ≡ false → cell (length d.others) d.table r c ≢ whole (pos 0) → (op : Op) (left right x p q : Fraction)
      → PivotShare (length d.basics) (length d.others) (cell (length d.others) d.table) r c x p q → IsShareRefused bound x p q op left right → IsSystemPair (system_in d) bound op left right
  unfolding f a b old near Number
  pivot_pair bound live not_nil op left right x p q asked refused =
      let s : System = system_in d in
      let v : ℕ = slice_index d.basics r in
      let k : ℕ = slice_index d.others c in
      let one : Choice = choice_of d in
      let after : Choice = exchanged one v k in
      let pivot : one.entry v k ≢ whole (pos 0) = λ e. not_nil (sym (old_entry v k r c a_at b_at) ∙ e) in
      let n = share_numbers x p q asked in
      share_pair s one after (h.solutions live)
      (exchanged_is s (system_is d h) one v k (h.solutions live) (basic_in d h v a_in) (other_in d h k b_in) pivot)
      (inr (v, k, once)) Factor x p q n.0 n.1 (written s one after Factor (x +ℚ p *ℚ q) n.2) bound op left right refused

-- after a refusal the dictionary is one, whatever its table is
pub spent_dictionary : (d : Dictionary) (table : List Fraction) → IsDictionary d → length table ≡ length d.table → IsDictionary (record d { table = table; spent = true })
spent_dictionary d table h e = record {
  row_count = h.row_count;
  column_count = h.column_count;
  coefficient_count = h.coefficient_count;
  table_count = e ∙ h.table_count;
  note_count = h.note_count;
  ascending = h.ascending;
  put_in = h.put_in;
  split = h.split;
  solutions = λ wrong. absurd cc;
}
