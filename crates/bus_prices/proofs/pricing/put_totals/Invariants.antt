use Rattle.std.specs.Prelude.{◌≡◌, ◌<◌, ℕ}
use Rattle.std.proofs.Common.{get_or}
use Rattle.fraction_theory.specs.Fraction.{Fraction}
use Rattle.market_model.specs.declared.answered.Price.{Price}
use Rattle.market_model.specs.RightAnswers.{price_of_parts}
use Rattle.market_model.specs.Valued.{price_at}
use Rattle.bus_prices.specs.PriceParts.{HaveParts}
use Rattle.bus_prices.proofs.PriceLemmas.{AreLeft}
use Rattle.bus_prices.proofs.pricing.put_totals.Given as goal

abbrev pub invariant-loop-place : goal.invariant-loop-place
invariant-loop-place g l = record {
  done : (energy : Fraction) (congestion : ℕ → Fraction) → HaveParts g.N.Exact.value energy congestion l.initial.out
      → (bus : ℕ) (p : Price g.row.N.Denot) → bus < l.place-index → price_at g.N.Exact.value (get_or l.out bus p) ≡ price_of_parts energy (congestion bus);
  left : AreLeft l.initial.out l.place-index l.out;
}
