-- Whether settling was refused at a step, and at steps with one more behind them.
use Rattle.std.specs.Prelude.{◌≡◌, ◌||◌, ℕ, ◌+◌, ◌<◌, ◌≤◌, Bool, true, false, List, [], ◌∷◌, ◌++◌, Option, None, Some, is_some, length, map, take}
use Rattle.std.proofs.Common.{arith, ap, inl, inr, subst, sym, ◌∙◌, get_or}
use Rattle.std.proofs.lemmas.List.{map-append, take_all, take_more}
use Rattle.fraction_theory.specs.Fraction.{Fraction}
use Rattle.exact_fraction.specs.declared.Passed.{Passed}
use Rattle.market_model.specs.declared.answered.Outcome.{Outcome}
use Rattle.market_model.specs.declared.participants.Parts.{Parts}
use Rattle.market_model.specs.Valued.{outcome_at, passed_at}
use Rattle.edit_table.specs.declared.Step.{Step}
use Rattle.edit_table.specs.declared.Step.TheVariants as step
use Rattle.edit_replay.specs.declared.step_outcome.StepOutcome.{StepOutcome}
use Rattle.edit_replay.specs.declared.step_outcome.StepOutcome.TheVariants as reply
use Rattle.edit_replay.specs.Replays.{edited_by, stepped}
use Rattle.settled_answer.specs.Settled.{IsOutcomeRefusal, SettlesTo}
use Rattle.settled_replay.specs.Refusals.{AllFirst, IsFirst, IsRefused, SomeRefused, TellsRefusal, TellsRefusals}

-- ---- one step
-- what an outcome is settled to tells it
pub tells_at : {N : Type 0} (value : N → Fraction) (bound : ℕ) (m : Parts) (o p : Outcome N) (passed : Option (Passed N)) → SettlesTo value bound m o p passed
    → TellsRefusal bound m (reply.Clear (outcome_at value p)) (is_some passed)
tells_at value bound m o p None is = is
tells_at value bound m o p (Some q) is = (passed_at value q, subst (λ x. IsOutcomeRefusal bound m (outcome_at value x) (passed_at value q)) (sym is.0) is.1)

-- ---- one step more
first_last : (m : Parts) (steps : List Step) (s : Step) (printed : List (StepOutcome Fraction)) (p : StepOutcome Fraction) → AllFirst m steps printed → IsFirst (edited_by m steps) p
    → AllFirst m (steps ++ s ∷ []) (printed ++ p ∷ [])
first_last m [] s [] p all is = (is, tt)
first_last m [] s (q ∷ printed) p none is = absurd none
first_last m (y ∷ steps) s [] p none is = absurd none
first_last m (y ∷ steps) s (q ∷ printed) p all is = (all.0, first_last (stepped m y) steps s printed p all.1 is)

refused_before : (bound : ℕ) (m : Parts) (steps more : List Step) (printed later : List (StepOutcome Fraction)) → SomeRefused bound m steps printed
    → SomeRefused bound m (steps ++ more) (printed ++ later)
refused_before bound m [] more printed later none = absurd none
refused_before bound m (y ∷ steps) more [] later none = absurd none
refused_before bound m (y ∷ steps) more (q ∷ printed) later (inl is) = inl is
refused_before bound m (y ∷ steps) more (q ∷ printed) later (inr some) = inr (refused_before bound (stepped m y) steps more printed later some)

refused_last : (bound : ℕ) (m : Parts) (steps : List Step) (s : Step) (printed : List (StepOutcome Fraction)) (p : StepOutcome Fraction) → length printed ≡ length steps → IsRefused bound (edited_by m steps) p
    → SomeRefused bound m (steps ++ s ∷ []) (printed ++ p ∷ [])
refused_last bound m [] s [] p count is = inl is
refused_last bound m [] s (q ∷ printed) p count is = absurd (Prim.omega (arith, count))
refused_last bound m (y ∷ steps) s [] p count is = absurd (Prim.omega (arith, count))
refused_last bound m (y ∷ steps) s (q ∷ printed) p count is = inr (refused_last bound (stepped m y) steps s printed p (Prim.omega (arith, count)) is)

tells_last : (bound : ℕ) (m : Parts) (steps : List Step) (s : Step) (printed : List (StepOutcome Fraction)) (p : StepOutcome Fraction) (before now : Bool) → length printed ≡ length steps
    → TellsRefusals bound m steps printed before → TellsRefusal bound (edited_by m steps) p now → TellsRefusals bound m (steps ++ s ∷ []) (printed ++ p ∷ []) (before || now)
tells_last bound m steps s printed p false false count told is = first_last m steps s printed p told is
tells_last bound m steps s printed p false true count told is = refused_last bound m steps s printed p count is
tells_last bound m steps s printed p true now count told is = refused_before bound m steps (s ∷ []) printed (p ∷ []) told

pub tells_more : {N : Type 0} (bound : ℕ) (m : Parts) (steps : List Step) (k : ℕ) → k < length steps → (n : Parts) → n ≡ edited_by m (take k steps)
    → (told : StepOutcome N → StepOutcome Fraction) (outcomes new : List (StepOutcome N)) (p : StepOutcome N) (before now : Bool) → length (map told outcomes) ≡ length (take k steps)
    → TellsRefusals bound m (take k steps) (map told outcomes) before → TellsRefusal bound n (told p) now → new ≡ outcomes ++ p ∷ []
    → TellsRefusals bound m (take (k + 1) steps) (map told new) (before || now)
tells_more bound m steps k within n e told outcomes new p before now count tells is pushed =
    let next = get_or steps k step.Clear in
    let all : map told new ≡ map told outcomes ++ told p ∷ [] = ap (map told) pushed ∙ map-append told outcomes (p ∷ []) in
    let last = tells_last bound m (take k steps) next (map told outcomes) (told p) before now count tells (subst (λ (q : Parts). TellsRefusal bound q (told p) now) e is) in
    subst (λ (ps : List (StepOutcome Fraction)). TellsRefusals bound m (take (k + 1) steps) ps (before || now)) (sym all)
    (subst (λ (ss : List Step). TellsRefusals bound m ss (map told outcomes ++ told p ∷ []) (before || now)) (sym (take_more steps k step.Clear within)) last)

-- all of them
pub tells_all : (bound : ℕ) (m : Parts) (steps : List Step) (printed : List (StepOutcome Fraction)) (is_passed : Bool) (k : ℕ) → length steps ≤ k
    → TellsRefusals bound m (take k steps) printed is_passed → TellsRefusals bound m steps printed is_passed
tells_all bound m steps printed is_passed k h tells = subst (λ (ss : List Step). TellsRefusals bound m ss printed is_passed) (take_all k steps h) tells
