-- What rights put in at a bus, one right more.
use Rattle.std.specs.Prelude.{◌≡◌, ◌==◌, ℕ, ◌+◌, ◌<◌, ◌≤◌, ◌≤ℤ◌, pos, Bool, true, false, cond, if◌then◌else◌, List, [], ◌∷◌, ◌++◌, All, map, filter, length, take, refl}
use Rattle.std.proofs.Common.{ap, sym, ◌∙◌, get_or, drop, append_assoc}
use Rattle.std.proofs.lemmas.List.{map-append, take-append-drop, take_all, take_more, drop_more}
use Rattle.std.proofs.lemmas.List.Elements.{filter-append}
use Rattle.fraction_theory.specs.Fraction.{Fraction, whole, neg_ℚ, ◌+ℚ◌, ◌-ℚ◌}
use Rattle.fraction_theory.specs.Sums.{Term, Plain, term_value, total}
use Rattle.fraction_theory.proofs.FieldLaws.{ring_ℚ, +ℚ_nil, +ℚ_assoc}
use Rattle.fraction_theory.proofs.Ring.{by_ring, at as place, pneg, pnil, neg_neg, ◌⊕◌}
use Rattle.fraction_theory.proofs.SumLaws.{total-append}
use Rattle.exact_fraction.specs.declared.Op.TheVariants.{Plus, Minus}
use Rattle.exact_fraction.specs.declared.Passed.{Passed}
use Rattle.market_model.specs.declared.participants.TransmissionRight.{TransmissionRight}
use Rattle.market_model.specs.NamedSums.{IsRefusal, IsRefusedIn}
use Rattle.market_model.specs.Rights.{IsTransmissionRight, rights_injection, rights_injection_terms, begin_terms}
use Rattle.market_model.proofs.SumSteps.{minus_at, plus_at}

-- what stands where there is no right
abbrev pub nothing : TransmissionRight
nothing = record { from = 0; to = 0; mw = pos 0 }

-- no MW of a right is below 0
pub no_negative : (n : ℕ) (rights : List TransmissionRight) → All (IsTransmissionRight n) rights → All (λ t. pos 0 ≤ℤ t.mw) rights
no_negative n rights h k d lt = (h k d lt).mw

-- ---- the terms of what passes a test, with its own at its place
module _ (test : TransmissionRight → Bool) (term : TransmissionRight → Term) (xs : List TransmissionRight) (i : ℕ) (x : TransmissionRight) (inside : i < length xs) (at : x ≡ get_or xs i x) where
  abbrev before : List Term
  before = map term (filter test (take i xs))

  abbrev behind : List Term
  behind = map term (filter test (drop (i + 1) xs))

  one_more : take (i + 1) xs ≡ take i xs ++ x ∷ []
  one_more = take_more xs i x inside ∙ ap (λ (y : TransmissionRight). take i xs ++ y ∷ []) (sym at)

  -- the terms so far, with one of a right that passes the test or not
  terms_more : (b : Bool) → test x ≡ b → map term (filter test (take (i + 1) xs)) ≡ before ++ (if b then term x ∷ [] else [])
  terms_more b is =
      ap (λ (ys : List TransmissionRight). map term (filter test ys)) one_more
      ∙ ap (map term) (filter-append test (take i xs) (x ∷ []) ∙ ap (λ (c : Bool). filter test (take i xs) ++ cond c (x ∷ []) []) is)
      ∙ map-append term (filter test (take i xs)) (cond b (x ∷ []) []) ∙ ap (λ (ts : List Term). before ++ ts) (by b)
    where
      by : (c : Bool) → map term (cond c (x ∷ []) []) ≡ (if c then term x ∷ [] else [])
      by true = refl
      by false = refl

  tested_more : total (map term (filter test (take (i + 1) xs))) ≡ total before +ℚ (if test x then term_value (term x) else whole (pos 0))
  tested_more = ap total (terms_more (test x) refl) ∙ total-append before (if test x then term x ∷ [] else []) ∙ ap (λ s. total before +ℚ s) (by (test x))
    where
      by : (c : Bool) → total (if c then term x ∷ [] else []) ≡ (if c then term_value (term x) else whole (pos 0))
      by true = +ℚ_nil (term_value (term x))
      by false = refl

  term_here : test x ≡ true → map term (filter test xs) ≡ before ++ term x ∷ behind
  term_here passes =
      ap (λ (ys : List TransmissionRight). map term (filter test ys)) (split ∙ ap (λ (y : TransmissionRight). take i xs ++ y ∷ drop (i + 1) xs) (sym at))
      ∙ ap (map term) (filter-append test (take i xs) (x ∷ drop (i + 1) xs) ∙ ap (λ (b : Bool). filter test (take i xs) ++ cond b (x ∷ filter test (drop (i + 1) xs)) (filter test (drop (i + 1) xs))) passes)
      ∙ map-append term (filter test (take i xs)) (x ∷ filter test (drop (i + 1) xs))
    where
      split : xs ≡ take i xs ++ get_or xs i x ∷ drop (i + 1) xs
      split = sym (take-append-drop i xs) ∙ ap (λ (ys : List TransmissionRight). take i xs ++ ys) (drop_more xs i x inside)

-- ---- at a bus
module _ (rights : List TransmissionRight) (bus : ℕ) where
  abbrev pub begins : TransmissionRight → Bool
  begins t = t.from == bus

  abbrev pub ends : TransmissionRight → Bool
  ends t = t.to == bus

  abbrev pub begin_term : TransmissionRight → Term
  begin_term t = Plain (whole t.mw)

  abbrev pub end_term : TransmissionRight → Term
  end_term t = Plain (neg_ℚ (whole t.mw))

  abbrev pub begun_to : ℕ → Fraction
  begun_to k = total (map begin_term (filter begins (take k rights)))

  abbrev pub ended_to : ℕ → Fraction
  ended_to k = total (begin_terms rights bus ++ map end_term (filter ends (take k rights)))

  pub all_begun : (k : ℕ) → length rights ≤ k → begun_to k ≡ total (begin_terms rights bus)
  all_begun k h = ap (λ (ts : List TransmissionRight). total (map begin_term (filter begins ts))) (take_all k rights h)

  pub all_ended : (k : ℕ) → length rights ≤ k → ended_to k ≡ rights_injection rights bus
  unfolding rights_injection
  all_ended k h = ap (λ (ts : List TransmissionRight). total (begin_terms rights bus ++ map end_term (filter ends ts))) (take_all k rights h)

  pub none_ended : (sum : Fraction) → sum ≡ total (begin_terms rights bus) → sum ≡ ended_to 0
  none_ended sum e = e ∙ sym (+ℚ_nil (total (begin_terms rights bus))) ∙ sym (total-append (begin_terms rights bus) [])

  module _ (k : ℕ) (t : TransmissionRight) (inside : k < length rights) (at : t ≡ get_or rights k t) where
    pub begun_step : (old new : Fraction) → old ≡ begun_to k → new ≡ old +ℚ (if begins t then whole t.mw else whole (pos 0)) → new ≡ begun_to (k + 1)
    begun_step old new before e = e ∙ ap (λ s. s +ℚ (if begins t then whole t.mw else whole (pos 0))) before ∙ sym (tested_more begins begin_term rights k t inside at)

    pub ended_step : (old new : Fraction) → old ≡ ended_to k → new ≡ old -ℚ (if ends t then whole t.mw else whole (pos 0)) → new ≡ ended_to (k + 1)
    ended_step old new before e =
        let front : List Term = begin_terms rights bus in
        let sum : Fraction = total (map end_term (filter ends (take k rights))) in
        e ∙ less (ends t) ∙ ap (λ s. s +ℚ added (ends t)) (before ∙ total-append front (map end_term (filter ends (take k rights)))) ∙ +ℚ_assoc (total front) sum (added (ends t))
        ∙ ap (λ s. total front +ℚ s) (sym (tested_more ends end_term rights k t inside at))
        ∙ sym (total-append front (map end_term (filter ends (take (k + 1) rights))))
      where
        added : Bool → Fraction
        added b = if b then neg_ℚ (whole t.mw) else whole (pos 0)

        less : (b : Bool) → old -ℚ (if b then whole t.mw else whole (pos 0)) ≡ old +ℚ added b
        less true = refl
        less false = by_ring ring_ℚ (old ∷ []) (place 0 ⊕ pneg pnil) (place 0 ⊕ pnil) refl

    module _ (sum : Fraction) (bound : ℕ) (p : Passed Fraction) where
      pub begun_refused : begins t ≡ true → sum ≡ begun_to k → IsRefusal Plus sum (whole t.mw) bound p → IsRefusedIn (rights_injection_terms rights bus) bound p
      begun_refused belongs is h =
          let rest : List Term = map end_term (filter ends rights) in
          let front : List Term = map begin_term (filter begins (take k rights)) in
          let behind : List Term = map begin_term (filter begins (drop (k + 1) rights)) in
          plus_at (rights_injection_terms rights bus) front (behind ++ rest) (begin_term t)
          (ap (λ (ts : List Term). ts ++ rest) (term_here begins begin_term rights k t inside at belongs) ∙ append_assoc front (begin_term t ∷ behind) rest)
          bound p sum (whole t.mw) is refl h

      pub ended_refused : ends t ≡ true → sum ≡ ended_to k → IsRefusal Minus sum (whole t.mw) bound p → IsRefusedIn (rights_injection_terms rights bus) bound p
      ended_refused belongs is h =
          let begun : List Term = begin_terms rights bus in
          let front : List Term = map end_term (filter ends (take k rights)) in
          let behind : List Term = map end_term (filter ends (drop (k + 1) rights)) in
          minus_at (rights_injection_terms rights bus) (begun ++ front) behind (end_term t)
          (ap (λ (ts : List Term). begun ++ ts) (term_here ends end_term rights k t inside at belongs) ∙ sym (append_assoc begun front (end_term t ∷ behind)))
          bound p sum (whole t.mw) is (sym (neg_neg ring_ℚ (whole t.mw))) h
