-- Steps of the balance, by what each bus puts in.
use Rattle.std.specs.Prelude.{◌≡◌, ℕ, ◌+◌, ◌<◌, List, map, length, take, refl}
use Rattle.std.proofs.Common.{ap, sym, subst, ◌∙◌, get_or, drop}
use Rattle.fraction_theory.specs.Fraction.{Fraction}
use Rattle.fraction_theory.specs.Sums.{sum_by, Plain, total}
use Rattle.fraction_theory.proofs.SumLaws.{total-map}
use Rattle.exact_fraction.specs.declared.Op.TheVariants.{Plus}
use Rattle.exact_fraction.specs.declared.Passed.{Passed}
use Rattle.market_model.specs.declared.participants.Parts.{Parts}
use Rattle.market_model.specs.Dispatch.{Dispatch, places, injection, balance, balance_terms}
use Rattle.market_model.specs.NamedSums.{IsRefusal, IsRefusedIn}
use Rattle.market_model.specs.PutIn.{AreInjections}
use Rattle.market_model.proofs.SumSteps.{plus_at}
use Rattle.market_model.proofs.ListSteps.{map-map, mapped_at}

module _ {N : Type 0} (value : N → Fraction) (m : Parts) (x : Dispatch) (mws : List N) (puts : AreInjections m x (map value mws)) where
  balance-terms : balance_terms m x ≡ map (λ mw. Plain (value mw)) mws
  balance-terms = sym (map-map (injection m x) Plain (places (length m.buses))) ∙ ap (map Plain) (sym puts) ∙ map-map value Plain mws

  pub balance_is : sum_by value mws ≡ balance m x
  unfolding balance
  balance_is = sym (total-map (λ mw. Plain (value mw)) mws) ∙ ap total (sym balance-terms)

  pub balance_refused : (k : ℕ) (mw : N) (sum : Fraction) (bound : ℕ) (p : Passed Fraction) → k < length mws → mw ≡ get_or mws k mw → sum ≡ sum_by value (take k mws) → IsRefusal Plus sum (value mw) bound p
      → IsRefusedIn (balance_terms m x) bound p
  balance_refused k mw sum bound p below at before h =
      subst (λ ts. IsRefusedIn ts bound p) (sym balance-terms)
      (plus_at (map (λ y. Plain (value y)) mws) (map (λ y. Plain (value y)) (take k mws)) (map (λ y. Plain (value y)) (drop (k + 1) mws)) (Plain (value mw)) (mapped_at (λ y. Plain (value y)) mws k mw below at)
      bound p sum (value mw) (before ∙ sym (total-map (λ y. Plain (value y)) (take k mws))) refl h)
