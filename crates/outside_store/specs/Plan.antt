-- Which calls are to fail.
use Rattle.std.specs.Prelude.{ℕ, List, Contains}
use Rattle.outside_store.specs.Causes.{raised}

-- the numbers of the calls that are to fail, where the first call has number 0, and how many calls there were
pub record Plan : Type 0 where
  pub failing : List ℕ
  pub calls : ℕ

-- the call that comes next is to fail
abbrev pub IsNextListed : Plan → Type 0
IsNextListed plan = Contains plan.failing plan.calls

-- the plan after one more call
abbrev pub advanced : Plan → Plan
advanced plan = record plan { calls = raised plan.calls }
