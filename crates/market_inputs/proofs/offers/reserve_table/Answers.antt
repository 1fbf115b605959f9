use Rattle.std.proofs.Common.{sym}
use Rattle.market_inputs.proofs.ReserveLemmas.{none-listed}
use Rattle.market_inputs.proofs.offers.reserve_table.Goals as goal

pub returns-clause-energy_alone : goal.returns-clause-energy_alone
returns-clause-energy_alone c = none-listed c.in_ok-units.units c.args.bytes.now c.in_ok-reserves.field-0 (sym (c.in_ok-reserves.ensures.is (λ bad. absurd (cc bad))))
