-- The laws of printed replays.
use Rattle.std.specs.Prelude.{◌≡◌, ℕ, List, [], ◌∷◌, ◌++◌, length, refl}
use Rattle.std.proofs.Common.{arith, ap, subst, sym, suc}
use Rattle.fraction_theory.specs.Fraction.{Fraction}
use Rattle.market_model.specs.declared.answered.Outcome.{Outcome}
use Rattle.market_model.specs.declared.answered.Outcome.TheVariants as outcome
use Rattle.market_model.specs.declared.participants.Parts.{Parts}
use Rattle.market_model.specs.Optimality.{all_of}
use Rattle.market_model.specs.RightAnswers.{dispatch_in}
use Rattle.market_system.specs.Outcomes.{IsCleared, IsDecided, IsInfeasible}
use Rattle.market_dict.specs.Takings.{limits_of}
use Rattle.one_dispatch.specs.Laws.{LawOfOneDispatch}
use Rattle.edit_table.specs.declared.Step.{Step}
use Rattle.edit_table.specs.declared.Step.TheVariants as step
use Rattle.edit_replay.specs.declared.step_outcome.StepOutcome.{StepOutcome}
use Rattle.edit_replay.specs.declared.step_outcome.StepOutcome.TheVariants as reply
use Rattle.edit_replay.specs.ReplayLaws.{LawOfClearsInReplays}
use Rattle.edit_replay.specs.Replays.{IsReplay, edited_by, stepped}
use Rattle.settled_answer.specs.Laws.{LawOfOneSet}
use Rattle.settled_answer.specs.Settled.{KeepsOutcome}
use Rattle.settled_replay.specs.Laws.{LawOfOneReport, LawOfPrintedClears}
use Rattle.settled_replay.specs.PrintedReplays.{ArePrinted, PrintsClear}

-- ---- clears
-- what some steps and a clear behind them, and more, come to, where this was printed of them
record SplitPrinted (bound : ℕ) (m : Parts) (done : List Step) (inner told : List (StepOutcome Fraction)) (p : Outcome Fraction) : Type 0 where
  first : List (StepOutcome Fraction)
  cleared : Outcome Fraction
  rest : List (StepOutcome Fraction)
  parts : inner ≡ first ++ reply.Clear cleared ∷ rest
  count : length first ≡ length done
  printed : ArePrinted bound m done first told
  prints : PrintsClear bound (edited_by m done) cleared p

split : (bound : ℕ) (m : Parts) (done left : List Step) (inner told later : List (StepOutcome Fraction)) (p : Outcome Fraction) → length told ≡ length done
    → ArePrinted bound m (done ++ step.Clear ∷ left) inner (told ++ reply.Clear p ∷ later) → SplitPrinted bound m done inner told p
split bound m [] left [] [] later p count none = absurd none
split bound m [] left (reply.Accepted ∷ inner) [] later p count are = absurd are.0
split bound m [] left (reply.Refused f ∷ inner) [] later p count are = absurd are.0
split bound m [] left (reply.Clear o ∷ inner) [] later p count are = record { first = []; cleared = o; rest = inner; parts = refl; count = refl; printed = tt; prints = are.0 }
split bound m [] left inner (q ∷ told) later p count are = absurd (Prim.omega (arith, count))
split bound m (s ∷ done) left inner [] later p count are = absurd (Prim.omega (arith, count))
split bound m (s ∷ done) left [] (q ∷ told) later p count none = absurd none
split bound m (s ∷ done) left (o ∷ inner) (q ∷ told) later p count are =
    let more = split bound (stepped m s) done left inner told later p (Prim.omega (arith, count)) are.1 in
    record { first = o ∷ more.first; cleared = more.cleared; rest = more.rest; parts = ap (λ (os : List (StepOutcome Fraction)). o ∷ os) more.parts; count = ap suc more.count; printed = (are.0, more.printed); prints = more.prints }

-- an outcome of the same kind decides as much
cleared_too : (o p : Outcome Fraction) → KeepsOutcome o p → IsCleared o → IsCleared p
cleared_too (outcome.Cleared a) p keeps is = subst IsCleared (sym keeps.1) tt
cleared_too (outcome.Infeasible f) p keeps none = absurd none
cleared_too (outcome.Range q) p keeps none = absurd none

infeasible_too : (o p : Outcome Fraction) → KeepsOutcome o p → IsInfeasible o → IsInfeasible p
infeasible_too (outcome.Cleared a) p keeps none = absurd none
infeasible_too (outcome.Infeasible f) p keeps is = subst IsInfeasible (sym keeps) tt
infeasible_too (outcome.Range q) p keeps none = absurd none

pub decided_too : (m : Parts) (o p : Outcome Fraction) → KeepsOutcome o p → IsDecided m o → IsDecided m p
decided_too m o p keeps is = record {
  cleared = λ x feasible. cleared_too o p keeps (is.cleared x feasible);
  infeasible = λ none. infeasible_too o p keeps (is.infeasible none);
}

pub law_of_printed_clears : LawOfClearsInReplays → LawOfPrintedClears
law_of_printed_clears law bound m before after done left told later p market data_ok count replay =
    let parts = split bound m done left replay.0 told later p count replay.2 in
    let behind = law bound m before after done left parts.first parts.rest parts.cleared market data_ok parts.count
    (subst (λ (os : List (StepOutcome Fraction)). IsReplay bound m before (done ++ step.Clear ∷ left) os after) parts.parts replay.1) in
    record {
      inner = parts.first;
      printed = parts.printed;
      cleared = parts.cleared;
      behind = behind;
      prints = parts.prints;
      right = parts.prints.right bound (limits_of behind.reached) behind.clear.right;
      decided = λ none. decided_too (edited_by m done) parts.cleared p parts.prints.dispatch (behind.decided none);
    }

-- ---- one report
pub law_of_one_report : LawOfOneDispatch → LawOfOneSet → LawOfOneReport
law_of_one_report one_dispatch one_set m bound other taken too a b market right_a right_b first_a first_b =
    one_set m a b market right_a.0 right_b.0 (one_dispatch m (all_of m) (dispatch_in a) (dispatch_in b) right_a.1 right_b.1) first_a first_b
