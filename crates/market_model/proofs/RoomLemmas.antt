-- Units that offer reserve, and numbers that are added up where a test holds.
use Rattle.std.specs.Prelude.{◌≡◌, ℕ, ◌+◌, ◌<◌, Bool, true, List, ◌++◌, map, filter, length, Contains, if◌then◌else◌}
use Rattle.std.proofs.Common.{ap, ap₂, sym, ◌∙◌}
use Rattle.fraction_theory.specs.Fraction.{Fraction, ◌+ℚ◌}
use Rattle.fraction_theory.specs.Sums.{Term, Plain, total}
use Rattle.fraction_theory.proofs.FieldLaws.{+ℚ_assoc}
use Rattle.fraction_theory.proofs.ListSums.{Contains-filter, Contains-from_filter}
use Rattle.fraction_theory.proofs.SumLaws.{total-append}
use Rattle.exact_fraction.specs.declared.Op.TheVariants.{Plus}
use Rattle.exact_fraction.specs.declared.Passed.{Passed}
use Rattle.market_model.specs.declared.participants.Parts.{Parts}
use Rattle.market_model.specs.Dispatch.{zero, places}
use Rattle.market_model.specs.NamedSums.{IsRefusal, IsRefusedIn}
use Rattle.market_model.specs.Reserves.{offers_reserve, reserve_units}
use Rattle.market_model.proofs.MorePlaces.{total-filter_more}
use Rattle.market_model.proofs.RowMembers.{Contains-places, Contains-from_places}
use Rattle.market_model.proofs.SumSteps.{behind, in_front, plus_at, tested_at}

-- ---- units that offer reserve
module _ (m : Parts) (u : ℕ) where
  pub offers-listed : u < length m.units → offers_reserve m u ≡ true → Contains (reserve_units m) u
  offers-listed lt offers = Contains-filter (offers_reserve m) (places (length m.units)) u (Contains-places (length m.units) u lt) offers

  pub listed-offers : Contains (reserve_units m) u → offers_reserve m u ≡ true
  listed-offers c = (Contains-from_filter (offers_reserve m) (places (length m.units)) u c).1

  pub listed-inside : Contains (reserve_units m) u → u < length m.units
  listed-inside c = Contains-from_places (length m.units) u (Contains-from_filter (offers_reserve m) (places (length m.units)) u c).0

-- ---- numbers that count where a test holds, behind other terms
module _ (front : List Term) (test : ℕ → Bool) (f : ℕ → Fraction) where
  abbrev pub counted_to : ℕ → List Term
  counted_to k = front ++ map (λ i. Plain (f i)) (filter test (places k))

  -- one more
  pub counted_step : (k : ℕ) (counts : Bool) (part old new : Fraction) → counts ≡ test k → part ≡ f k → old ≡ total (counted_to k) → new ≡ old +ℚ (if counts then part else zero)
      → new ≡ total (counted_to (k + 1))
  counted_step k counts part old new is here before e =
      let so_far : List Term = map (λ i. Plain (f i)) (filter test (places k)) in
      let more : Fraction = if test k then f k else zero in
      e ∙ ap₂ (λ (b : Bool) t. old +ℚ (if b then t else zero)) is here
      ∙ ap (λ t. t +ℚ more) (before ∙ total-append front so_far)
      ∙ +ℚ_assoc (total front) (total so_far) more
      ∙ ap (λ t. total front +ℚ t) (sym (total-filter_more test (λ i. Plain (f i)) k))
      ∙ sym (total-append front (map (λ i. Plain (f i)) (filter test (places (k + 1)))))

  -- it is added, in front of the rest
  pub counted_refused : (rest terms : List Term) (n k : ℕ) (counts : Bool) (part sum : Fraction) (bound : ℕ) (p : Passed Fraction) → terms ≡ counted_to n ++ rest → k < n → counts ≡ test k → counts ≡ true
      → part ≡ f k → sum ≡ total (counted_to k) → IsRefusal Plus sum part bound p → IsRefusedIn terms bound p
  counted_refused rest terms n k counts part sum bound p all below is true_ here before h =
      let t = tested_at test (λ i. Plain (f i)) n k below (sym is ∙ true_) in
      plus_at terms (counted_to k) (t.0 ++ rest) (Plain (f k))
      (all ∙ in_front (counted_to n) (counted_to k) t.0 rest (Plain (f k))
      (behind front (map (λ i. Plain (f i)) (filter test (places n))) (map (λ i. Plain (f i)) (filter test (places k))) t.0 (Plain (f k)) t.1))
      bound p sum part before here h
