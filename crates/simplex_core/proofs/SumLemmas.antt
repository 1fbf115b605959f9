-- Reduced prices and values as sums over all names, as the code adds them up.
use Rattle.std.specs.Prelude.{◌≡◌, ◌≢◌, ℕ, ◌+◌, ◌<◌, ◌≤◌, pos, Bool, true, false, not, List, [], ◌∷◌, ◌++◌, length, map, take, drop, filter, slice_index, if◌then◌else◌, refl}
use Rattle.std.specs.List.{Contains}
use Rattle.std.proofs.Common.{arith, ap, sym, ◌∙◌, inl, inr}
use Rattle.std.proofs.lemmas.List.{take_more, take_all}
use Rattle.fraction_theory.specs.Fraction.{Fraction, whole, ◌+ℚ◌, ◌*ℚ◌}
use Rattle.fraction_theory.specs.Sums.{sum_by, total, prefix, Term, Product}
use Rattle.std.proofs.lemmas.List.{take-append-drop, take-map, get_or-take, length-take}
use Rattle.std.proofs.lemmas.List.Elements.{filter-append}
use Rattle.std.proofs.Math.Seq.{take-append_seam}
use Rattle.fraction_theory.proofs.FieldLaws.{ring_ℚ}
use Rattle.fraction_theory.proofs.Ring.{by_ring, at, pnil, pone, ◌⊕◌, ◌⊗◌}
use Rattle.fraction_theory.proofs.SumLaws.{sum_by-append, total-Product}
use Rattle.fraction_theory.proofs.ListSums.{kept, sum_by-filter, sum_by-members}
use Rattle.linear_system.specs.Choices.{others, at_bound, column_entry, reduced, reduced_terms, value, value_terms}
use Rattle.linear_system.proofs.ChoiceLaws.{column_entry-basic, column_entry-itself, column_entry-other}
use Rattle.linear_dict.specs.Dictionaries.{Dictionary, IsDictionary, system_in, choice_of}
use Rattle.linear_dict.specs.Places.{is_among}
use Rattle.linear_dict.proofs.NameLemmas.{among-tells, among-not}

-- one more term of a sum
pub sum_more : (f : ℕ → Fraction) (xs : List ℕ) (k w : ℕ) → k < length xs → slice_index xs k ≡ w → sum_by f (take (k + 1) xs) ≡ sum_by f (take k xs) +ℚ f w
sum_more f xs k w h e =
    ap (sum_by f) (take_more xs k 0 h) ∙ sum_by-append f (take k xs) (slice_index xs k ∷ [])
    ∙ ap (λ (x : ℕ). sum_by f (take k xs) +ℚ (f x +ℚ whole (pos 0))) e
    ∙ by_ring ring_ℚ (sum_by f (take k xs) ∷ f w ∷ []) (at 0 ⊕ (at 1 ⊕ pnil)) (at 0 ⊕ at 1) refl

pub sum_skip : (f : ℕ → Fraction) (xs : List ℕ) (k w : ℕ) → k < length xs → slice_index xs k ≡ w → f w ≡ whole (pos 0) → sum_by f (take (k + 1) xs) ≡ sum_by f (take k xs)
sum_skip f xs k w h e nil = sum_more f xs k w h e ∙ ap (λ x. sum_by f (take k xs) +ℚ x) nil ∙ by_ring ring_ℚ (sum_by f (take k xs) ∷ []) (at 0 ⊕ pnil) (at 0) refl

within_take : (k : ℕ) (xs : List ℕ) (x : ℕ) → Contains (take k xs) x → Contains xs x
within_take k xs x m =
    let l : m.0 < length xs = Prim.omega (arith, m.1, length-take k xs) in
    (m.0, l, sym (get_or-take k xs m.0 x (Prim.omega (arith, m.1, length-take k xs))) ∙ m.2)

-- The sum over the first names that a test keeps is the sum of first terms.
names_prefix : (test : ℕ → Bool) (a b : ℕ → Fraction) (xs : List ℕ) (k : ℕ)
    → sum_by (λ w. kept (test w) (a w *ℚ b w)) (take k xs) ≡ prefix (length (filter test (take k xs))) (map (λ w. Product (a w) (b w)) (filter test xs))
names_prefix test a b xs k =
    let first : List ℕ = filter test (take k xs) in
    let rest : List ℕ = filter test (drop k xs) in
    let term : ℕ → Term = λ w. Product (a w) (b w) in
    let split : filter test xs ≡ first ++ rest = ap (filter test) (sym (take-append-drop k xs)) ∙ filter-append test (take k xs) (drop k xs) in
    sym (sum_by-filter (λ w. a w *ℚ b w) test (take k xs))
    ∙ sym (total-Product a b first)
    ∙ sym (ap total (take-map term (length first) (first ++ rest) ∙ ap (map term) (take-append_seam first rest)))
    ∙ sym (ap (λ (ys : List ℕ). prefix (length first) (map term ys)) split)

-- what the variable j adds to the reduced price of w
unfoldable pub price_term : Dictionary → ℕ → ℕ → Fraction
price_term d w j = (system_in d).price j *ℚ column_entry (choice_of d) j w

-- what the variable w adds to the value of b
unfoldable pub bound_term : Dictionary → ℕ → ℕ → Fraction
bound_term d b w = kept (not ((choice_of d).basic w)) ((choice_of d).entry b w *ℚ at_bound (system_in d) (choice_of d) w)

module _ (d : Dictionary) (h : IsDictionary d) where
  choice_basic : (w : ℕ) → Contains d.basics w → (choice_of d).basic w ≡ true
  unfolding choice_of
  choice_basic w c = among-tells d.basics w c

  choice_other : (w : ℕ) → Contains d.others w → (choice_of d).basic w ≡ false
  unfolding choice_of
  choice_other w c = among-not d.basics w (λ m. h.split.apart w m c)

  pub price_term-basic : (w j : ℕ) → Contains d.basics j → price_term d w j ≡ (system_in d).price j *ℚ (choice_of d).entry j w
  unfolding price_term
  price_term-basic w j c = ap (λ x. (system_in d).price j *ℚ x) (column_entry-basic (choice_of d) j w (choice_basic j c))

  pub price_term-itself : (w : ℕ) → Contains d.others w → price_term d w w ≡ (system_in d).price w
  unfolding price_term
  price_term-itself w c = ap (λ x. (system_in d).price w *ℚ x) (column_entry-itself (choice_of d) w (choice_other w c)) ∙ by_ring ring_ℚ ((system_in d).price w ∷ []) (at 0 ⊗ pone) (at 0) refl

  pub price_term-other : (w j : ℕ) → Contains d.others j → j ≢ w → price_term d w j ≡ whole (pos 0)
  unfolding price_term
  price_term-other w j c n = ap (λ x. (system_in d).price j *ℚ x) (column_entry-other (choice_of d) j w (choice_other j c) n) ∙ by_ring ring_ℚ ((system_in d).price j ∷ []) (at 0 ⊗ pnil) pnil refl

  pub reduced_by_names : ((w : ℕ) → Contains d.rows w → (system_in d).price w ≡ whole (pos 0)) → (w : ℕ) → Contains d.others w → reduced (system_in d) (choice_of d) w ≡ sum_by (price_term d w) d.names
  unfolding reduced reduced_terms system_in price_term
  reduced_by_names unpriced w c =
      let term : ℕ → Fraction = λ j. (system_in d).price j *ℚ column_entry (choice_of d) j w in
      ap (λ (b : Bool). if b then whole (pos 0) else total (reduced_terms (system_in d) (choice_of d) w)) (choice_other w c)
      ∙ total-Product (system_in d).price (λ j. column_entry (choice_of d) j w) (filter (is_among d.columns) d.names)
      ∙ sum_by-filter term (is_among d.columns) d.names
      ∙ sum_by-members (λ j. kept (is_among d.columns j) (term j)) term d.names
      (λ j m. elim (h.put_in.either j m) [
        | inr column ↦ ap (λ (b : Bool). kept b (term j)) (among-tells d.columns j column)
        | inl row ↦ ap (λ (b : Bool). kept b (term j)) (among-not d.columns j (λ k. h.put_in.apart j row k))
            ∙ by_ring ring_ℚ (column_entry (choice_of d) j w ∷ []) pnil (pnil ⊗ at 0) refl ∙ ap (λ x. x *ℚ column_entry (choice_of d) j w) (sym (unpriced j row))
      ])

  pub bound_term-other : (b w : ℕ) → Contains d.others w → bound_term d b w ≡ (choice_of d).entry b w *ℚ at_bound (system_in d) (choice_of d) w
  unfolding bound_term
  bound_term-other b w c = ap (λ (x : Bool). kept (not x) ((choice_of d).entry b w *ℚ at_bound (system_in d) (choice_of d) w)) (choice_other w c)

  pub bound_term-basic : (b w : ℕ) → Contains d.basics w → bound_term d b w ≡ whole (pos 0)
  unfolding bound_term
  bound_term-basic b w c = ap (λ (x : Bool). kept (not x) ((choice_of d).entry b w *ℚ at_bound (system_in d) (choice_of d) w)) (choice_basic w c)

  pub value_by_names : (b : ℕ) → Contains d.basics b → value (system_in d) (choice_of d) b ≡ sum_by (bound_term d b) d.names
  unfolding value value_terms others system_in bound_term
  value_by_names b c =
      ap (λ (x : Bool). if x then total (value_terms (system_in d) (choice_of d) b) else at_bound (system_in d) (choice_of d) b) (choice_basic b c)
      ∙ total-Product ((choice_of d).entry b) (at_bound (system_in d) (choice_of d)) (others (system_in d) (choice_of d))
      ∙ sum_by-filter (λ w. (choice_of d).entry b w *ℚ at_bound (system_in d) (choice_of d) w) (λ w. not ((choice_of d).basic w)) d.names

  -- a sum so far is that of the first terms
  pub price_prefix : ((w : ℕ) → Contains d.rows w → (system_in d).price w ≡ whole (pos 0)) → (w : ℕ) → (k : ℕ)
      → sum_by (price_term d w) (take k d.names) ≡ prefix (length (filter (is_among d.columns) (take k d.names))) (reduced_terms (system_in d) (choice_of d) w)
  unfolding reduced_terms system_in price_term
  price_prefix unpriced w k =
      let term : ℕ → Fraction = λ j. (system_in d).price j *ℚ column_entry (choice_of d) j w in
      sum_by-members term (λ j. kept (is_among d.columns j) (term j)) (take k d.names)
      (λ j m. elim (h.put_in.either j (within_take k d.names j m)) [
        | inr column ↦ sym (ap (λ (b : Bool). kept b (term j)) (among-tells d.columns j column))
        | inl row ↦ sym (ap (λ (b : Bool). kept b (term j)) (among-not d.columns j (λ q. h.put_in.apart j row q))
            ∙ by_ring ring_ℚ (column_entry (choice_of d) j w ∷ []) pnil (pnil ⊗ at 0) refl ∙ ap (λ x. x *ℚ column_entry (choice_of d) j w) (sym (unpriced j row)))
      ])
      ∙ names_prefix (is_among d.columns) (system_in d).price (λ j. column_entry (choice_of d) j w) d.names k

  pub bound_prefix : (b : ℕ) → (k : ℕ)
      → sum_by (bound_term d b) (take k d.names) ≡ prefix (length (filter (λ w. not ((choice_of d).basic w)) (take k d.names))) (value_terms (system_in d) (choice_of d) b)
  unfolding value_terms others system_in bound_term
  bound_prefix b k = names_prefix (λ w. not ((choice_of d).basic w)) ((choice_of d).entry b) (at_bound (system_in d) (choice_of d)) d.names k

-- the sum over all names, at the end of a loop
pub sum_all : (f : ℕ → Fraction) (xs : List ℕ) (k : ℕ) → length xs ≤ k → sum_by f (take k xs) ≡ sum_by f xs
sum_all f xs k h = ap (sum_by f) (take_all k xs h)
