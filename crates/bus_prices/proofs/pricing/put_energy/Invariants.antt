use Rattle.std.specs.Prelude.{pos}
use Rattle.fraction_theory.specs.Fraction.{whole}
use Rattle.bus_prices.proofs.PriceLemmas.{HaveFirstParts}
use Rattle.bus_prices.proofs.pricing.put_energy.Given as goal

abbrev pub invariant-loop-place : goal.invariant-loop-place
invariant-loop-place g l = HaveFirstParts g.N.Exact.value (g.N.Exact.value l.energy) (λ bus. whole (pos 0)) l.place-index l.out
