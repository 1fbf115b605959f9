-- Why there may be no verdict, and which reasons were looked at by then.
-- Source: own; reasons are looked at in the order in which they are told.
use Rattle.std.specs.Prelude.{◌≡◌, ℕ, [], ◌∷◌, ◌++◌, Contains}
use Rattle.fraction_theory.specs.Fraction.{Fraction}
use Rattle.exact_fraction.specs.declared.Passed.{Passed}
use Rattle.market_model.specs.declared.answered.Duals.{Duals}
use Rattle.market_model.specs.declared.limits.Row.{Row}
use Rattle.market_model.specs.declared.participants.Parts.{Parts}
use Rattle.market_model.specs.declared.stops.Stop.{Stop}
use Rattle.market_model.specs.declared.stops.Stop.TheVariants as stop
use Rattle.market_model.specs.Dispatch.{Dispatch}
use Rattle.market_model.specs.LimitRows.{rows, limit, carried}
use Rattle.market_model.specs.SumTables.{IsRefusedAmong, BalanceSum, RoomSum, AcceptedSum}
use Rattle.market_model.specs.Valued.{passed_at}
use Rattle.limit_rows.specs.Refusals.{IsMostFlowRefusal, IsAnyFlowRefusal}
use Rattle.cert_format.specs.declared.certificate.Cert.{Cert}
use Rattle.cert_format.specs.declared.certificate.Cert.TheVariants.{Optimal, Farkas}
use Rattle.cert_format.specs.Certificates.{places_of}
use Rattle.cert_sums.specs.Pairs.{IsFarkasPair}
use Rattle.cert_sums.specs.Refusals.{IsWorthRefusal, IsCarriedRefusal}
use Rattle.cert_verify.specs.declared.verdicts.VerifyStop.{VerifyStop}
use Rattle.cert_verify.specs.declared.verdicts.VerifyStop.TheVariants as why
use Rattle.cert_verify.specs.Certificates.{dispatched, duals_of}
use Rattle.cert_verify.specs.Reasons.{NoneOf, balance_reason, dual_reasons, flow_reasons, limit_reason, part_reasons, sum_reasons}

-- in what the network carries, in the flow of a row of the market or in its pickup factor, or of its limit and its most excess
pub data IsLimitPair (m : Parts) (x : Dispatch) (bound : ℕ) (p : Passed Fraction) : Type 0 where
  of_carried : IsCarriedRefusal m x bound p → IsLimitPair m x bound p
  of_row : IsAnyFlowRefusal m (carried m x) bound p → IsLimitPair m x bound p
  of_most : (r : Row) → Contains (rows m) r → IsMostFlowRefusal m r bound p → IsLimitPair m x bound p

-- An operation is refused that a reason asks for, and none of the reasons before that one holds: the balance is added up where nothing is
-- wrong with the parts, reserve where the dispatch balances, flows where the need is met too, what is used of rooms where no limit is broken
-- either, and what a MW is worth where nothing is wrong with all of these.
pub data IsOptimalStop (m : Parts) (x : Dispatch) (d : Duals Fraction) (bound : ℕ) (p : Passed Fraction) : Type 0 where
  at_balance : IsRefusedAmong (BalanceSum m x) bound p → NoneOf (part_reasons m x d) → IsOptimalStop m x d bound p
  at_need : IsRefusedAmong (AcceptedSum m x) bound p → NoneOf (part_reasons m x d ++ balance_reason m x ∷ []) → IsOptimalStop m x d bound p
  at_limits : IsLimitPair m x bound p → NoneOf (part_reasons m x d ++ sum_reasons m x) → IsOptimalStop m x d bound p
  at_rooms : IsRefusedAmong (RoomSum m x) bound p → NoneOf (part_reasons m x d ++ sum_reasons m x ++ limit_reason m x ∷ []) → IsOptimalStop m x d bound p
  at_support : IsWorthRefusal m d bound p → NoneOf (part_reasons m x d ++ flow_reasons m x d) → IsOptimalStop m x d bound p

-- the same of duals alone: the bound is added up where nothing is wrong with what they name
pub record IsFarkasStop (m : Parts) (d : Duals Fraction) (bound : ℕ) (p : Passed Fraction) : Type 0 where
  pub refused : IsFarkasPair m d bound p
  pub before : NoneOf (dual_reasons m d)

-- of the dispatch and the duals of a certificate
abbrev pub IsKindStop : Parts → ℕ → Cert Fraction → Passed Fraction → Type 0
IsKindStop m bound (Optimal blocks energy limits places reserve) = IsOptimalStop m (dispatched blocks reserve) (duals_of (Optimal blocks energy limits places reserve)) bound
IsKindStop m bound (Farkas energy limits places reserve) = IsFarkasStop m (duals_of (Farkas energy limits places reserve)) bound

-- and its factors had the market's places, which is looked at before
pub record IsCertificateStop (m : Parts) (bound : ℕ) (c : Cert Fraction) (p : Passed Fraction) : Type 0 where
  pub places : places_of c ≡ m.factor_places
  pub refused : IsKindStop m bound c p

-- what a stop of the work on a market is told as
abbrev pub told_stop : {N : Type 0} → Stop N → VerifyStop N
told_stop (stop.Passed p) = why.Range p
told_stop stop.Memory = why.Memory

-- such two numbers, or memory was refused
abbrev pub IsVerifyStop : {N : Type 0} → (N → Fraction) → Parts → ℕ → Cert Fraction → VerifyStop N → Type 0
IsVerifyStop value m bound c (why.Range p) = IsCertificateStop m bound c (passed_at value p)
IsVerifyStop value m bound c why.Memory = Unit {0}
