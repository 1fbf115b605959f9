use Rattle.std.specs.Prelude.{ℕ}
use Rattle.fraction_theory.specs.Fraction.{Fraction, ◌+ℚ◌, ◌*ℚ◌}
use Rattle.market_model.specs.LimitRows.{row_factor}
use Rattle.bus_prices.specs.PriceParts.{HaveParts}
use Rattle.bus_prices.proofs.PriceLemmas.{AreLeft, HaveFirstParts}
use Rattle.bus_prices.proofs.pricing.add_row.Given as goal

abbrev pub invariant-loop-bus : goal.invariant-loop-bus
invariant-loop-bus g l = record {
  done : (energy : Fraction) (before : ℕ → Fraction) → HaveParts g.N.Exact.value energy before l.initial.out
      → HaveFirstParts g.N.Exact.value energy (λ bus. before bus +ℚ g.N.Exact.value l.price *ℚ row_factor l.market l.row bus) l.bus l.out;
  left : AreLeft l.initial.out l.bus l.out;
}
