-- A start that fits the frame of a market, and what a clear makes of it.
use Rattle.std.specs.Prelude.{◌≡◌, ℕ, List, [], All, Option, Some, None, IsSome, Contains}
use Rattle.std.proofs.Common.{ap, sym, subst, refl, ◌∙◌}
use Rattle.fraction_theory.specs.Fraction.{Fraction}
use Rattle.linear_dict.specs.Dictionaries.{Dictionary, choice_of}
use Rattle.market_model.specs.declared.participants.Parts.{Parts}
use Rattle.market_model.specs.Market.{IsMarket}
use Rattle.market_system.specs.SolvedLaws.{AreRows}
use Rattle.market_system.proofs.GrowthLaws.{growth_none}
use Rattle.market_model.specs.Stops.{StopsBy}
use Rattle.market_dict.specs.Findings.{IsPairOver}
use Rattle.market_dict.specs.Holding.{HoldsMarket}
use Rattle.market_dict.specs.Refusals.{IsBoundsRefusal}
use Rattle.market_dict.specs.PricesAndBounds.{ArePricesAndBounds}
use Rattle.market_model.specs.declared.stops.Stop.{Stop}
use Rattle.market_dict.specs.declared.posing.PricesAndBounds.{PricesAndBounds}
use Rattle.market_dict.specs.Takings.{AreTakings, IsTaking, limits_of}
use Rattle.market_dict.specs.declared.taking.Taking.{Taking}
use Rattle.market_dict.proofs.HoldingLaws.{holds_choice}
use Rattle.market_dict.proofs.TakingLists.{no_takings}
use Rattle.clear_loop.specs.Keeping.{AreListed, Kept, FitsFrame, IsStartOf, untaken}
use Rattle.clear_loop.specs.Rounds.{HoldsStart, IsInHand, StopsInRange}
use Rattle.clear_loop.specs.Starts.{kept_as, taken_in}
use Rattle.clear_loop.specs.declared.hand.TakenInOrder.{TakenInOrder}
use Rattle.clear_loop.proofs.HandLemmas.{all_takings}
use Rattle.clear_loop.proofs.StopLemmas.{pair_stop, terms_stop}

-- ---- where nothing is kept
module _ (m : Parts) (k : Kept) (warm : Option Dictionary) (same : k.dict ≡ warm) (fits : FitsFrame m k) (none : ¬ (IsSome warm)) where
  kept_nothing : k.taken ≡ untaken
  kept_nothing = by k.dict same fits
    where
      by : (o : Option Dictionary) → o ≡ warm → IsStartOf m k.taken o → k.taken ≡ untaken
      by None e f = f
      by (Some x) e f = absurd (none (subst IsSome e refl))

  -- a start at the margin
  pub started_cold : (started : Option Dictionary) (d : Dictionary) → started ≡ Some d → HoldsMarket m [] d → HoldsStart m k.taken.takings started
  started_cold started d is holds = (d, is, subst (λ (t : TakenInOrder). HoldsMarket m t.takings d) (sym kept_nothing) holds)

  pub cold_stop : {N : Type 0} (worth : N → Fraction) (bound : ℕ) (s : Stop N) → IsPairOver worth bound m [] s → StopsInRange worth bound m (limits_of k.taken.takings) s
  cold_stop worth bound s pair =
      subst (λ (t : TakenInOrder). StopsInRange worth bound m (limits_of t.takings) s) (sym kept_nothing) (pair_stop worth bound m [] [] s (growth_none m []) pair)

-- ---- a start
pub start_listed : (m : Parts) (t : TakenInOrder) (start : Option Dictionary) → IsStartOf m t start → AreListed m t
start_listed m t None is = subst (AreListed m) (sym is) (record { rows = refl; names = refl })
start_listed m t (Some d) is = is.1

start_takings : (m : Parts) (t : TakenInOrder) (start : Option Dictionary) → IsStartOf m t start → AreTakings m t.takings
start_takings m t None is = subst (λ (u : TakenInOrder). AreTakings m u.takings) (sym is) (no_takings m)
start_takings m t (Some d) is = is.0.takings

pub start_rows : (m : Parts) (t : TakenInOrder) (start : Option Dictionary) → IsStartOf m t start → AreRows m t.rows
start_rows m t start is = subst (AreRows m) (sym (start_listed m t start is).rows) (start_takings m t start is).taken.limits

-- ---- what the first round begins with
module _ (m : Parts) (k : Kept) (w : Option Dictionary) (t : Option TakenInOrder) (view : kept_as w t ≡ k) (fits : FitsFrame m k) (taken : TakenInOrder) (same : taken ≡ taken_in t) where
  first_taken : taken ≡ k.taken
  first_taken = same ∙ ap (λ (j : Kept). j.taken) view

  first_fits : IsStartOf m taken k.dict
  first_fits = subst (λ (u : TakenInOrder). IsStartOf m u k.dict) (sym first_taken) fits

  pub first_inside : (ts : List Taking) → ts ≡ taken.takings → All (IsTaking m) ts
  first_inside ts listed = subst (All (IsTaking m)) (sym listed) (all_takings m taken.takings (start_takings m taken k.dict first_fits))

  module _ {N : Type 0} (worth : N → Fraction) (warm : Option Dictionary) (start : HoldsStart m k.taken.takings warm) where
    pub first_stop : (bound : ℕ) (ts : List Taking) (s : Stop N) → IsMarket m → ts ≡ taken.takings → StopsBy worth (IsBoundsRefusal m (limits_of ts) bound) s → StopsInRange worth bound m (limits_of k.taken.takings) s
    first_stop bound ts s market listed refused =
        terms_stop worth bound m (limits_of k.taken.takings) k.taken.takings (limits_of ts) (choice_of start.0) s market (growth_none m (limits_of k.taken.takings)) (holds_choice m k.taken.takings start.0 start.2)
        (λ r c. subst (λ (us : List Taking). Contains (limits_of us) r) (listed ∙ ap (λ (u : TakenInOrder). u.takings) first_taken) c) refused

    pub first_in_hand : (posing : PricesAndBounds N) (ts : List Taking) → ts ≡ taken.takings → ArePricesAndBounds worth m ts posing → IsInHand worth m (record { warm = warm; posing = posing; taken = taken })
    first_in_hand posing ts listed are = record {
      start = subst (λ (u : TakenInOrder). HoldsStart m u.takings warm) (sym first_taken) start;
      posing = subst (λ (us : List Taking). ArePricesAndBounds worth m us posing) listed are;
      listed = start_listed m taken k.dict first_fits;
    }
