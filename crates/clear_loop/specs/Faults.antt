-- Why a clear ends without an answer, and what that is as an outcome.
use Rattle.std.specs.Prelude.{Result, Ok, Err}
use Rattle.plain_list.specs.declared.Memory.{Memory}
use Rattle.market_model.specs.declared.answered.Answer.{Answer}
use Rattle.market_model.specs.declared.answered.Outcome.{Outcome}
use Rattle.market_model.specs.declared.answered.Outcome.TheVariants as outcome
use Rattle.clear_loop.specs.declared.fault.ClearFault.{ClearFault}
use Rattle.clear_loop.specs.declared.fault.ClearFault.TheVariants as why

-- the outcome of a clear, where there was memory
abbrev pub outcome_of : {N : Type 0} → Result (Answer N) (ClearFault N) → Result (Outcome N) Memory
outcome_of (Ok a) = Ok (outcome.Cleared a)
outcome_of (Err (why.Infeasible f)) = Ok (outcome.Infeasible f)
outcome_of (Err (why.Range p)) = Ok (outcome.Range p)
outcome_of (Err why.Memory) = Err (record {})
