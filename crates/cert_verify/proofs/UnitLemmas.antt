-- Units that offer reserve, one after another.
use Rattle.std.specs.Prelude.{◌≡◌, ℕ, ◌+◌, ◌<◌, ◌&&◌, ◌||◌, Bool, true, false, cond, List, [], ◌∷◌, ◌++◌, filter, Option, Some, None, refl}
use Rattle.std.specs.List.{find, list_any}
use Rattle.std.proofs.Common.{ap, append-nil, subst, sym, ◌∙◌}
use Rattle.std.proofs.lemmas.Bool.{true≢false}
use Rattle.std.proofs.lemmas.List.Elements.{filter-append}
use Rattle.std.proofs.lemmas.List.Folds.{list_any-append}
use Rattle.fraction_theory.specs.Fraction.{Fraction}
use Rattle.fraction_theory.proofs.ListSums.{Contains-filter}
use Rattle.market_model.specs.declared.answered.RoomDual.{RoomDual}
use Rattle.market_model.specs.Dispatch.{places}
use Rattle.market_model.specs.Optimality.{names_room, room_price_in}
use Rattle.market_model.proofs.MorePlaces.{places_more}
use Rattle.market_model.proofs.SumSteps.{places_at}
use Rattle.market_model.proofs.RowMembers.{Contains-places}
use Rattle.cert_verify.specs.declared.verdicts.Reason.{Reason}
use Rattle.cert_verify.specs.declared.verdicts.Reason.TheVariants as reason
use Rattle.cert_verify.specs.Naming.{IsPriceOf}
use Rattle.cert_verify.specs.Reasons.{of_first}
use Rattle.cert_verify.proofs.FindLemmas.{found_behind, none_more}
use Rattle.cert_verify.proofs.TestLemmas.{any_of, neither}

pub left_false : (a b : Bool) → a ≡ false → (a && b) ≡ false
left_false true b e = absurd (true≢false e)
left_false false b e = refl

module _ (p q : ℕ → Bool) where
  kept_more : (k : ℕ) → filter q (places (k + 1)) ≡ filter q (places k) ++ cond (q k) (k ∷ []) []
  kept_more k = ap (filter q) (places_more k) ∙ filter-append q (places k) (k ∷ [])

  -- none so far, nor the next
  pub any_more : (k : ℕ) → list_any p (filter q (places k)) ≡ false → (p k && q k) ≡ false → list_any p (filter q (places (k + 1))) ≡ false
  any_more k before here = ap (list_any p) (kept_more k) ∙ list_any-append p (filter q (places k)) (cond (q k) (k ∷ []) []) ∙ neither _ _ before (by (q k) (p k) refl here)
    where
      by : (b t : Bool) → p k ≡ t → (t && b) ≡ false → list_any p (cond b (k ∷ []) []) ≡ false
      by true true is e = absurd (true≢false e)
      by true false is e = ap (λ (t : Bool). t || false) is
      by false t is e = refl

  -- this one is
  pub any_here : (n k : ℕ) → k < n → p k ≡ true → q k ≡ true → list_any p (filter q (places n)) ≡ true
  any_here n k lt t kept = any_of p (filter q (places n)) k (Contains-filter q (places n) k (Contains-places n k lt) kept) t

  -- the first
  pub first_here : (because : ℕ → Reason) (n k : ℕ) → find p (filter q (places k)) ≡ None → k < n → q k ≡ true → p k ≡ true → Some (because k) ≡ of_first because p (filter q (places n))
  first_here because n k none lt kept t =
      let r = places_at n k lt in
      found_behind because p (filter q (places k)) k none (filter q (places n)) (filter q r.0)
      (ap (filter q) r.1 ∙ filter-append q (places k) (k ∷ r.0) ∙ ap (λ (b : Bool). filter q (places k) ++ cond b (k ∷ filter q r.0) (filter q r.0)) kept) t

  -- still none, whether the next is kept or not
  pub none_kept : (k : ℕ) → find p (filter q (places k)) ≡ None → p k ≡ false → find p (filter q (places (k + 1))) ≡ None
  none_kept k none t = ap (find p) (kept_more k) ∙ by (q k)
    where
      by : (b : Bool) → find p (filter q (places k) ++ cond b (k ∷ []) []) ≡ None
      by true = none_more (λ _. reason.Need) p (filter q (places k)) k none t
      by false = ap (find p) (append-nil (filter q (places k))) ∙ none

  pub none_passed : (k : ℕ) → find p (filter q (places k)) ≡ None → q k ≡ false → find p (filter q (places (k + 1))) ≡ None
  none_passed k none t =
      ap (find p) (kept_more k) ∙ ap (λ (b : Bool). find p (filter q (places k) ++ cond b (k ∷ []) [])) t ∙ ap (find p) (append-nil (filter q (places k))) ∙ none

  -- those of both tests, with one place more
  both_more : (k : ℕ) → filter p (filter q (places (k + 1))) ≡ filter p (filter q (places k)) ++ filter p (cond (q k) (k ∷ []) [])
  both_more k = ap (filter p) (kept_more k) ∙ filter-append p (filter q (places k)) (cond (q k) (k ∷ []) [])

  pub both_kept : (k : ℕ) → q k ≡ true → p k ≡ true → filter p (filter q (places (k + 1))) ≡ filter p (filter q (places k)) ++ k ∷ []
  both_kept k kept t =
      both_more k ∙ ap (λ (b : Bool). filter p (filter q (places k)) ++ filter p (cond b (k ∷ []) [])) kept ∙ ap (λ (b : Bool). filter p (filter q (places k)) ++ cond b (k ∷ []) []) t

  pub one_not : (k : ℕ) → q k ≡ true → p k ≡ false → filter p (filter q (places (k + 1))) ≡ filter p (filter q (places k))
  one_not k kept t =
      both_more k ∙ ap (λ (b : Bool). filter p (filter q (places k)) ++ filter p (cond b (k ∷ []) [])) kept ∙ ap (λ (b : Bool). filter p (filter q (places k)) ++ cond b (k ∷ []) []) t
      ∙ append-nil (filter p (filter q (places k)))

  pub not_kept : (k : ℕ) → q k ≡ false → filter p (filter q (places (k + 1))) ≡ filter p (filter q (places k))
  not_kept k t = both_more k ∙ ap (λ (b : Bool). filter p (filter q (places k)) ++ filter p (cond b (k ∷ []) [])) t ∙ append-nil (filter p (filter q (places k)))

-- the price that was looked for
module _ {N : Type 0} (value : N → Fraction) (ds : List (RoomDual Fraction)) (row : ℕ) where
  pub price_there : (o : Option N) (price : N) → IsPriceOf value ds row o → o ≡ Some price → (names_room ds row ≡ true) × (value price ≡ room_price_in ds row)
  price_there None price h e = cc
  price_there (Some p) price h e = let same : p ≡ price = cc in subst (λ (z : N). (names_room ds row ≡ true) × (value z ≡ room_price_in ds row)) same h

  pub price_absent : (o : Option N) → IsPriceOf value ds row o → o ≡ None → names_room ds row ≡ false
  price_absent None h e = h
  price_absent (Some p) h e = cc

pub price_read : {N : Type 0} (value : N → Fraction) (ds es : List (RoomDual Fraction)) (row other : ℕ) (o : Option N) → ds ≡ es → other ≡ row → IsPriceOf value es other o → IsPriceOf value ds row o
price_read value ds es row other o is same h = subst (λ (xs : List (RoomDual Fraction)). IsPriceOf value xs row o) (sym is) (subst (λ (n : ℕ). IsPriceOf value es n o) same h)
