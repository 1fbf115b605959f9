-- An answer at other prices.
-- Source: own.
use Rattle.std.specs.Prelude.{Option, None, Some}
use Rattle.market_model.specs.declared.answered.Answer.{Answer}
use Rattle.settled_answer.specs.declared.repricing.Repricing.{Repricing}

-- its dispatch and welfare, with these duals, bus prices and settlement
abbrev pub with_prices : {N : Type 0} → Answer N → Repricing N → Answer N
with_prices a r = record { dispatch = a.dispatch; reserve = a.reserve; duals = r.duals; prices = r.prices; welfare = a.welfare; money = r.money }

-- the answer with what was made anew of it, or as it is where nothing was
abbrev pub as_repriced : {N : Type 0} → Answer N → Option (Repricing N) → Answer N
as_repriced a None = a
as_repriced a (Some r) = with_prices a r
