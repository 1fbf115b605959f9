-- The operations that may be refused where a dispatch is settled.
use Rattle.std.specs.Prelude.{◌≡◌, ◌⊎◌, ℕ, true, Contains}
use Rattle.fraction_theory.specs.Fraction.{Fraction}
use Rattle.exact_fraction.specs.declared.Passed.{Passed}
use Rattle.market_model.specs.declared.answered.Duals.{Duals}
use Rattle.market_model.specs.declared.participants.Parts.{Parts}
use Rattle.market_model.specs.declared.stops.Stop.{Stop}
use Rattle.market_model.specs.Dispatch.{Dispatch}
use Rattle.market_model.specs.declared.limits.Row.{Row}
use Rattle.market_model.specs.LimitRows.{carried, is_soft, rows}
use Rattle.market_model.specs.Optimality.{named_rows}
use Rattle.market_model.specs.Stops.{StopsBy}
use Rattle.market_model.specs.SumTables.{IsFactorRefusal, IsFlowRefusal, IsRefusedAmong, SettledSum, WelfareSum}
use Rattle.limit_screen.specs.Flows.{IsFlowsRefusal}

-- an operation refused where a dispatch whose flows are known is settled at prices of the buses: in one of the sums of that, or in a factor of
-- a row that the duals name
abbrev pub IsMoneyRefusal : Parts → Dispatch → (ℕ → Fraction) → Duals Fraction → ℕ → Passed Fraction → Type 0
IsMoneyRefusal m x price d bound p = IsRefusedAmong (SettledSum m x price d) bound p ⊎ IsFactorRefusal m (named_rows m d) bound p

-- why it was not settled: an operation was refused, or memory was
abbrev pub IsMoneyStop : {N : Type 0} → (N → Fraction) → ℕ → Parts → Dispatch → (ℕ → Fraction) → Duals Fraction → Stop N → Type 0
IsMoneyStop value bound m x price d stop = StopsBy value (IsMoneyRefusal m x price d bound) stop

-- the same where its flows are made too
abbrev pub IsSettlementStop : {N : Type 0} → (N → Fraction) → ℕ → Parts → Dispatch → (ℕ → Fraction) → Duals Fraction → Stop N → Type 0
IsSettlementStop value bound m x price d stop = StopsBy value (λ p. IsFlowsRefusal m x bound p ⊎ IsMoneyRefusal m x price d bound p) stop

-- an operation refused where its welfare is added up: at one of the terms, or for the flow of a row whose limit gives way
abbrev pub IsWelfareRefusal : Parts → Dispatch → ℕ → Passed Fraction → Type 0
IsWelfareRefusal m x bound p =
    IsRefusedAmong (WelfareSum m x) bound p
    ⊎ ((r : Row) × Contains (rows m) r × (is_soft m r ≡ true) × IsFlowRefusal m (carried m x) r bound p)
