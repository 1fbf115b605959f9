-- What rights are paid, one right more.
use Rattle.std.specs.Prelude.{◌≡◌, ◌⊎◌, ℕ, ◌+◌, ◌<◌, ◌≤◌, pos, List, [], ◌∷◌, ◌++◌, length, map, take, Contains, refl}
use Rattle.std.proofs.Common.{inl, inr, ap, ap₂, sym, ◌∙◌, get_or, drop}
use Rattle.std.proofs.lemmas.List.{get_or-map, map-append, take_all, take_more}
use Rattle.fraction_theory.specs.Fraction.{Fraction, whole, ◌+ℚ◌, ◌-ℚ◌}
use Rattle.fraction_theory.specs.Sums.{term_value, total}
use Rattle.fraction_theory.proofs.FieldLaws.{+ℚ_nil}
use Rattle.fraction_theory.proofs.SumLaws.{total-append}
use Rattle.exact_fraction.specs.declared.Op.TheVariants.{Minus, Plus, Times}
use Rattle.exact_fraction.specs.declared.Passed.{Passed}
use Rattle.market_model.specs.declared.participants.TransmissionRight.{TransmissionRight}
use Rattle.market_model.specs.declared.answered.Price.{Price}
use Rattle.market_model.specs.NamedSums.{IsRefusal}
use Rattle.market_model.specs.Valued.{total_at}
use Rattle.market_model.specs.Rights.{right_term, right_terms}
use Rattle.market_model.proofs.ListSteps.{mapped_at}
use Rattle.market_model.proofs.SumSteps.{plus_at, product_at}
use Rattle.rights_test.specs.Paid.{payments_of, paid_to_all, paid_to_right, IsPayRefusal}

-- a whole price that was read by its bus
pub price_read : {N : Type 0} (value : N → Fraction) (prices : List (Price N)) (i : ℕ) (p : Price N) → i < length prices → value (get_or prices i p).total ≡ total_at value prices i
price_read value prices i p h = sym (get_or-map (λ (q : Price _). value q.total) prices i p (whole (pos 0)) h)

module _ (price : ℕ → Fraction) (rights : List TransmissionRight) where
  abbrev pub paid_for : TransmissionRight → Fraction
  paid_for t = term_value (right_term price t)

  -- the payments of the first of them
  pub record ArePaid (k : ℕ) (each : List Fraction) (all : Fraction) : Type 0 where
    pub payments : each ≡ map paid_for (take k rights)
    pub sum : all ≡ total (right_terms price (take k rights))

  module _ (k : ℕ) (t : TransmissionRight) (inside : k < length rights) (here : t ≡ get_or rights k t) where
    one_more : take (k + 1) rights ≡ take k rights ++ t ∷ []
    one_more = take_more rights k t inside ∙ ap (λ (s : TransmissionRight). take k rights ++ s ∷ []) (sym here)

    pub paid_more : (each : List Fraction) (sum paid new : Fraction) → paid ≡ paid_for t → new ≡ sum +ℚ paid → ArePaid k each sum → ArePaid (k + 1) (each ++ paid ∷ []) new
    paid_more each sum paid new is e so = record {
      payments = ap₂ (λ (xs : List Fraction) (x : Fraction). xs ++ x ∷ []) so.payments is ∙ sym (ap (map paid_for) one_more ∙ map-append paid_for (take k rights) (t ∷ []));
      sum = e ∙ ap₂ ◌+ℚ◌ so.sum (is ∙ sym (+ℚ_nil (paid_for t)))
          ∙ sym (ap (λ (ts : List TransmissionRight). total (right_terms price ts)) one_more ∙ ap total (map-append (right_term price) (take k rights) (t ∷ [])) ∙ total-append (right_terms price (take k rights)) (right_term price t ∷ []));
    }

    module _ (bound : ℕ) (p : Passed Fraction) where
      stands : Contains rights t
      stands = (k, inside, sym here)

      -- the sum with its payment is refused
      pub sum_refused : (sum paid : Fraction) → paid ≡ paid_for t → sum ≡ total (right_terms price (take k rights)) → IsRefusal Plus sum paid bound p → IsPayRefusal price rights bound p
      sum_refused sum paid is before h = inl (
        _,
        paid_to_all,
        plus_at (right_terms price rights) (right_terms price (take k rights)) (right_terms price (drop (k + 1) rights)) (right_term price t) (mapped_at (right_term price) rights k t inside here) bound p sum paid before is h,
      )

      -- its payment is
      pub payment_refused : IsRefusal Minus (price t.to) (price t.from) bound p ⊎ IsRefusal Times (whole t.mw) (price t.to -ℚ price t.from) bound p → IsPayRefusal price rights bound p
      payment_refused (inl h) = inr (t, stands, h)
      payment_refused (inr h) = inl (_, paid_to_right t stands, product_at (right_term price t ∷ []) [] [] (right_term price t) refl bound p (whole t.mw) (price t.to -ℚ price t.from) refl refl h)

  pub all_paid : (k : ℕ) (each : List Fraction) (sum : Fraction) → length rights ≤ k → ArePaid k each sum → record { each = each; total = sum } ≡ payments_of price rights
  all_paid k each sum h so =
      ap₂ (λ (xs : List Fraction) (x : Fraction). record { each = xs; total = x })
      (so.payments ∙ ap (map paid_for) (take_all k rights h)) (so.sum ∙ ap (λ (ts : List TransmissionRight). total (right_terms price ts)) (take_all k rights h))
