-- No row is refused where the columns are the other variables: each sum that it asks is 0 or an entry.
use Rattle.std.specs.Prelude.{◌≡◌, ◌≢◌, ◌⊎◌, ℕ, ◌+◌, ◌<◌, ◌≤◌, pos, false, List, [], ◌∷◌, length, map, AllPairs, Contains, Some, refl, unsigned_abs}
use Rattle.std.specs.List.{slice_get}
use Rattle.std.proofs.Common.{zero, suc, arith, ap, ap₂, sym, ◌∙◌, subst, inl, inr, get_or}
use Rattle.std.proofs.lemmas.List.{get_or-map, length-map}
use Rattle.std.proofs.lemmas.List.Kept.{AllPairs-from_increasing}
use Rattle.std.proofs.lemmas.Option.{get_or_from_slice_get, slice_get_within}
use Rattle.fraction_theory.specs.Fraction.{Fraction, whole, ◌+ℚ◌, ◌*ℚ◌}
use Rattle.fraction_theory.specs.Sums.{Term, Product, prefix, term_value}
use Rattle.fraction_theory.proofs.FieldLaws.{ring_ℚ}
use Rattle.fraction_theory.proofs.ListSums.{Contains-cons, Contains-head, Contains-from_filter, same_or_not}
use Rattle.fraction_theory.proofs.Ring.{nil_plus, times_nil}
use Rattle.fraction_theory.proofs.SumLaws.{prefix-more}
use Rattle.exact_fraction.specs.declared.Passed.{Passed}
use Rattle.exact_fraction.specs.Passes.{IsTooLarge}
use Rattle.linear_system.specs.Choices.{column_entry}
use Rattle.linear_system.proofs.ChoiceLaws.{column_entry-itself, column_entry-other}
use Rattle.linear_dict.specs.Causes.{AddShare, IsRefused, adding_term, put_number, put_terms}
use Rattle.linear_dict.specs.Dictionaries.{Dictionary, IsDictionary, choice_of, system_in}
use Rattle.linear_dict.specs.Places.{is_among, place_in}
use Rattle.linear_dict.proofs.NameLemmas.{among-from, among-not, place_in-within}
use Rattle.linear_dict.proofs.SplitLemmas.{in_others, system_is}

abbrev nil : Fraction
nil = whole (pos 0)

-- ---- the first terms of a list, all but one of which are 0
module _ (term : ℕ → Term) where
  none_count : (js : List ℕ) (k : ℕ) → ((j : ℕ) → Contains js j → term_value (term j) ≡ nil) → prefix k (map term js) ≡ nil
  none_count js zero none = refl
  none_count [] (suc k) none = refl
  none_count (j ∷ js) (suc k) none =
      ap₂ ◌+ℚ◌ (none j (Contains-head j js)) (none_count js k (λ i c. none i (Contains-cons j js i c))) ∙ ring_ℚ.plus_nil nil

  one_counts : (w : ℕ) (js : List ℕ) (k : ℕ) → AllPairs (λ (a b : ℕ). a < b) js → ((j : ℕ) → Contains js j → j ≢ w → term_value (term j) ≡ nil)
      → (prefix k (map term js) ≡ nil) ⊎ (prefix k (map term js) ≡ term_value (term w))
  one_counts w js zero rise none = inl refl
  one_counts w [] (suc k) rise none = inl refl
  one_counts w (j ∷ js) (suc k) rise none = elim (same_or_not j w) [
    | inl e ↦ inr (ap₂ ◌+ℚ◌ (ap (λ (i : ℕ). term_value (term i)) e)
        (none_count js k (λ i c. none i (Contains-cons j js i c) (λ s. let less = rise 0 (suc c.0) i (Prim.omega arith) (Prim.omega (arith, c.1)) in Prim.omega (arith, less, c.2, e, s))))
        ∙ ring_ℚ.plus_nil (term_value (term w)))
    | inr n ↦ elim (one_counts w js k (λ a b d lt h. rise (suc a) (suc b) d (Prim.omega (arith, lt)) (Prim.omega (arith, h))) (λ i c. none i (Contains-cons j js i c))) [
      | inl e ↦ inl (ap₂ ◌+ℚ◌ (none j (Contains-head j js) n) e ∙ ring_ℚ.plus_nil nil)
      | inr e ↦ inr (ap₂ ◌+ℚ◌ (none j (Contains-head j js) n) e ∙ nil_plus ring_ℚ (term_value (term w)))
    ]
  ]

-- ---- what a row asks
module _ (d : Dictionary) (sound : IsDictionary d) (free : d.others ≡ d.columns) (es : List Fraction) where
  column_there : (j : ℕ) → Contains (system_in d).columns j → Contains d.columns j
  unfolding system_in
  column_there j c = among-from d.columns j (Contains-from_filter (is_among d.columns) d.names j c).1

  not_basic : (j : ℕ) → Contains d.columns j → (choice_of d).basic j ≡ false
  unfolding choice_of
  not_basic j c = among-not d.basics j (λ q. sound.split.apart j q (subst (λ (ws : List ℕ). Contains ws j) (sym free) c))

  abbrev term : ℕ → ℕ → Term
  term w j = Product (put_number d es j) (column_entry (choice_of d) j w)

  term_none : (w j : ℕ) → Contains d.columns j → j ≢ w → term_value (term w j) ≡ nil
  term_none w j c n = ap (λ (x : Fraction). put_number d es j *ℚ x) (column_entry-other (choice_of d) j w (not_basic j c) n) ∙ times_nil ring_ℚ (put_number d es j)

  term_own : (w : ℕ) → Contains d.columns w → term_value (term w w) ≡ put_number d es w
  term_own w c = ap (λ (x : Fraction). put_number d es w *ℚ x) (column_entry-itself (choice_of d) w (not_basic w c)) ∙ ring_ℚ.times_one (put_number d es w)

  first_sum : (w k : ℕ) → Contains d.columns w → (prefix k (put_terms d es w) ≡ nil) ⊎ (prefix k (put_terms d es w) ≡ put_number d es w)
  unfolding put_terms
  first_sum w k c = elim (one_counts (term w) w (system_in d).columns k (AllPairs-from_increasing (system_in d).columns (system_is d sound).columns_ascend) (λ j m n. term_none w j (column_there j m) n)) [
    | inl e ↦ inl e
    | inr e ↦ inr (e ∙ term_own w c)
  ]

  with_next : (k j w : ℕ) → slice_get (system_in d).columns k ≡ Some j → prefix (k + 1) (put_terms d es w) ≡ prefix k (put_terms d es w) +ℚ put_number d es j *ℚ column_entry (choice_of d) j w
  unfolding put_terms
  with_next k j w got =
      let columns : List ℕ = (system_in d).columns in
      let below : k < length columns = slice_get_within columns k j got in
      let here : get_or (map (term w) columns) k (term w j) ≡ term w j = get_or-map (term w) columns k j (term w j) below ∙ ap (term w) (get_or_from_slice_get columns k j j got) in
      prefix-more k (map (term w) columns) (term w j) (Prim.omega (arith, below, length-map columns (term w))) ∙ ap (λ (t : Term). prefix k (map (term w) columns) +ℚ term_value t) here

  -- 0, or the number of some column
  pub asked_sum : (x a b : Fraction) → AddShare d es x a b → (w : ℕ) × Contains d.columns w × ((x +ℚ a *ℚ b ≡ nil) ⊎ (x +ℚ a *ℚ b ≡ put_number d es w))
  asked_sum _ _ _ (adding_term k j w got c) =
      let here : Contains d.columns w = subst (λ (ws : List ℕ). Contains ws w) free (in_others d sound w c) in (
        w,
        here,
        elim (first_sum w (k + 1) here) [ inl e ↦ inl (sym (with_next k j w got) ∙ e) | inr e ↦ inr (sym (with_next k j w got) ∙ e) ],
      )

-- ---- none of that is too large
module _ {N : Type 0} (value : N → Fraction) (bound : ℕ) (fits : (x : N) → (unsigned_abs (value x).num ≤ bound) × ((value x).den ≤ bound)) where
  number_fits : (x : N) → ¬ (IsTooLarge bound (value x))
  number_fits x (inl h) = Prim.omega (arith, h, (fits x).0)
  number_fits x (inr h) = Prim.omega (arith, h, (fits x).1)

  nil_fits : (x : N) → ¬ (IsTooLarge bound nil)
  unfolding whole
  nil_fits x (inl h) = let none : bound < 0 = h in Prim.omega (arith, none)
  nil_fits x (inr h) = let none : bound < 1 = h in Prim.omega (arith, none, (fits x).1, (value x).above)

  pub none_refused : (d : Dictionary) (entries : List N) (p : Passed N) → IsDictionary d → d.others ≡ d.columns → length entries ≡ length d.columns
      → ¬ (IsRefused value bound (AddShare d (map value entries)) p)
  unfolding put_number
  none_refused d entries p sound free long r =
      let s = asked_sum d sound free (map value entries) r.x r.a r.b r.asked in
      let place = place_in-within d.columns s.0 s.1 in
      let inside : place_in d.columns s.0 < length entries = Prim.omega (arith, place.0, long) in
      by entries (place_in d.columns s.0) inside s.2 r.refused.too_large
    where
      by : (es : List N) (i : ℕ) → i < length es → {z : Fraction} → (z ≡ nil) ⊎ (z ≡ get_or (map value es) i nil) → ¬ (IsTooLarge bound z)
      by [] i lt which large = absurd (Prim.omega (arith, lt))
      by (e ∷ es) i lt (inl is) large = nil_fits e (subst (IsTooLarge bound) is large)
      by (e ∷ es) i lt (inr is) large = number_fits (get_or (e ∷ es) i e) (subst (IsTooLarge bound) (is ∙ get_or-map value (e ∷ es) i e nil lt) large)
