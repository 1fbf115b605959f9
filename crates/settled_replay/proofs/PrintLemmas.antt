-- What is printed of a step, and of steps with one more behind them.
use Rattle.std.specs.Prelude.{◌≡◌, ◌⊎◌, ℕ, ◌+◌, ◌<◌, ◌≤◌, List, [], ◌∷◌, ◌++◌, Option, None, Some, length, map, take, refl}
use Rattle.std.proofs.Common.{inl, inr, suc, arith, ap, subst, sym, ◌∙◌, get_or}
use Rattle.std.proofs.lemmas.List.{map-append, map-id, take_all, take_more}
use Rattle.fraction_theory.specs.Fraction.{Fraction}
use Rattle.exact_fraction.specs.declared.Passed.{Passed}
use Rattle.market_model.specs.declared.answered.Outcome.{Outcome}
use Rattle.market_model.specs.declared.answered.Outcome.TheVariants as outcome
use Rattle.market_model.specs.declared.limits.Row.{Row}
use Rattle.market_model.specs.declared.participants.Parts.{Parts}
use Rattle.market_model.specs.Frame.{SameFrame, frame}
use Rattle.market_model.specs.Valued.{answer_at, outcome_at}
use Rattle.market_system.specs.Outcomes.{IsRightOutcome}
use Rattle.market_dict.specs.Chosen.{IsChosenOutcome}
use Rattle.market_dict.specs.declared.taking.Taking.{Taking}
use Rattle.clear_loop.specs.Clearing.{KeepsAfter}
use Rattle.clear_loop.specs.Keeping.{Kept}
use Rattle.offer_book.specs.declared.edit_parts.Edit.{Edit}
use Rattle.edit_table.specs.declared.Step.{Step}
use Rattle.edit_table.specs.declared.Step.TheVariants as step
use Rattle.edit_replay.specs.declared.step_outcome.StepOutcome.{StepOutcome}
use Rattle.edit_replay.specs.declared.step_outcome.StepOutcome.TheVariants as reply
use Rattle.edit_replay.specs.Replays.{IsEditedPart, IsReplay, IsReply, edited_by, stepped}
use Rattle.edit_replay.proofs.FrameLemmas.{steps_frame}
use Rattle.edit_replay.proofs.ReplayLemmas.{replay_more}
use Rattle.settled_answer.specs.Settled.{HasFirstPrices, KeepsOutcome, SettlesTo}
use Rattle.settled_answer.proofs.SettledOutcomes.{settled_at}
use Rattle.settled_replay.specs.PrintedReplays.{ArePrinted, IsPrinted, IsPrintedReplay, IsPrintedReply, PrintsClear}

-- ---- one step
-- what is kept of an outcome is kept of its fractions
keeps_at : {N : Type 0} (value : N → Fraction) (o p : Outcome N) → KeepsOutcome o p → KeepsOutcome (outcome_at value o) (outcome_at value p)
keeps_at value (outcome.Cleared a) p keeps = (
  answer_at value keeps.0,
  ap (outcome_at value) keeps.1,
  record {
    dispatch = ap (map value) keeps.2.dispatch;
    reserve = ap (map value) keeps.2.reserve;
    welfare = ap value keeps.2.welfare;
  },
)
keeps_at value (outcome.Infeasible f) p keeps = ap (outcome_at value) keeps
keeps_at value (outcome.Range q) p keeps = ap (outcome_at value) keeps

-- an answer without first prices is the one that was handed in
own_at : {N : Type 0} (value : N → Fraction) (bound : ℕ) (m : Parts) (o p : Outcome N) (passed : Option (Passed N)) → SettlesTo value bound m o p passed
    → HasFirstPrices m (outcome_at value p) ⊎ (outcome_at value p ≡ outcome_at value o)
own_at value bound m o p None is = inl is
own_at value bound m o p (Some x) is = inr (ap (outcome_at value) is.0)

-- so an outcome that is settled by what its numbers are is printed of that by its fractions
pub prints_at : {N : Type 0} (value : N → Fraction) (bound : ℕ) (m : Parts) (o p : Outcome N)
    → ((b : ℕ) (taken : List Row) → IsRightOutcome b m taken (outcome_at value o) → IsRightOutcome b m taken (outcome_at value p)) → KeepsOutcome o p
    → IsChosenOutcome m (outcome_at value o) → (passed : Option (Passed N)) → SettlesTo value bound m o p passed → PrintsClear bound m (outcome_at value o) (outcome_at value p)
prints_at value bound m o p right keeps chosen passed is = record {
  right = right;
  dispatch = keeps_at value o p keeps;
  settled = settled_at value bound m o p passed chosen is;
  own = own_at value bound m o p passed is;
}

-- and what a clear keeps goes by the kind of its outcome
pub kept_too : {N : Type 0} (o p : Outcome N) (after : Kept) → KeepsOutcome o p → KeepsAfter o after → KeepsAfter p after
kept_too (outcome.Cleared a) p after keeps kept = subst (λ q. KeepsAfter q after) (sym keeps.1) kept
kept_too (outcome.Infeasible f) p after keeps kept = subst (λ q. KeepsAfter q after) (sym keeps) kept
kept_too (outcome.Range r) p after keeps kept = subst (λ q. KeepsAfter q after) (sym keeps) kept

-- what an edit comes to is printed as it is
pub prints_edit : (bound : ℕ) (m : Parts) (before after : List Taking) (e : Edit) (o : StepOutcome Fraction) → IsReply bound m before (step.Edit e) o after
    → IsPrintedReply bound m before (step.Edit e) o after
prints_edit bound m before after e reply.Accepted is = (reply.Accepted, is, tt)
prints_edit bound m before after e (reply.Refused f) is = (reply.Refused f, is, refl)
prints_edit bound m before after e (reply.Clear o) none = absurd none

-- ---- steps
printed_last : (bound : ℕ) (m : Parts) (steps : List Step) (s : Step) (inner printed : List (StepOutcome Fraction)) (o p : StepOutcome Fraction)
    → ArePrinted bound m steps inner printed → IsPrinted bound (edited_by m steps) o p → ArePrinted bound m (steps ++ s ∷ []) (inner ++ o ∷ []) (printed ++ p ∷ [])
printed_last bound m [] s [] [] o p are is = (is, tt)
printed_last bound m [] s [] (q ∷ printed) o p none is = absurd none
printed_last bound m [] s (x ∷ inner) printed o p none is = absurd none
printed_last bound m (y ∷ steps) s [] printed o p none is = absurd none
printed_last bound m (y ∷ steps) s (x ∷ inner) [] o p none is = absurd none
printed_last bound m (y ∷ steps) s (x ∷ inner) (q ∷ printed) o p are is = (are.0, printed_last bound (stepped m y) steps s inner printed o p are.1 is)

pub printed_count : (bound : ℕ) (m : Parts) (steps : List Step) (inner printed : List (StepOutcome Fraction)) → ArePrinted bound m steps inner printed → length printed ≡ length steps
printed_count bound m [] [] [] are = refl
printed_count bound m [] [] (p ∷ printed) none = absurd none
printed_count bound m [] (o ∷ inner) printed none = absurd none
printed_count bound m (s ∷ steps) [] printed none = absurd none
printed_count bound m (s ∷ steps) (o ∷ inner) [] none = absurd none
printed_count bound m (s ∷ steps) (o ∷ inner) (p ∷ printed) are = ap suc (printed_count bound (stepped m s) steps inner printed are.1)

-- with one step more
module _ (m : Parts) (steps items : List Step) (k : ℕ) (d : Step) (same : items ≡ steps) (within : k < length steps) where
  one_more : take (k + 1) steps ≡ take k steps ++ get_or items k d ∷ []
  one_more = take_more steps k d within ∙ ap (λ (xs : List Step). take k steps ++ get_or xs k d ∷ []) (sym same)

  module _ (bound : ℕ) (before between after : List Taking) (n : Parts) (e : n ≡ edited_by m (take k steps)) where
    -- what the steps come to
    inner_more : (inner : List (StepOutcome Fraction)) (o : StepOutcome Fraction) → IsReplay bound m before (take k steps) inner between → IsReply bound n between (get_or items k d) o after
        → IsReplay bound m before (take (k + 1) steps) (inner ++ o ∷ []) after
    inner_more inner o replay is =
        subst (λ (os : List (StepOutcome Fraction)). IsReplay bound m before (take (k + 1) steps) os after) (map-id (inner ++ o ∷ []))
        (replay_more m steps items k d same within (λ (x : StepOutcome Fraction). x) bound before between after inner (inner ++ o ∷ []) o n e
        (subst (λ (os : List (StepOutcome Fraction)). IsReplay bound m before (take k steps) os between) (sym (map-id inner)) replay) is refl)

    -- and what is printed of it
    pub printed_more : {N : Type 0} (told : StepOutcome N → StepOutcome Fraction) (outcomes new : List (StepOutcome N)) (p : StepOutcome N)
        → IsPrintedReplay bound m before (take k steps) (map told outcomes) between → IsPrintedReply bound n between (get_or items k d) (told p) after → new ≡ outcomes ++ p ∷ []
        → IsPrintedReplay bound m before (take (k + 1) steps) (map told new) after
    printed_more told outcomes new p replay is pushed =
        let inner : List (StepOutcome Fraction) = replay.0 ++ is.0 ∷ [] in
        let last = printed_last bound m (take k steps) (get_or items k d) replay.0 (map told outcomes) is.0 (told p) replay.2
        (subst (λ (q : Parts). IsPrinted bound q is.0 (told p)) e is.2) in
        let all : map told new ≡ map told outcomes ++ told p ∷ [] = ap (map told) pushed ∙ map-append told outcomes (p ∷ []) in (
          inner,
          inner_more replay.0 is.0 replay.1 is.1,
          subst (λ (ps : List (StepOutcome Fraction)). ArePrinted bound m (take (k + 1) steps) inner ps) (sym all)
              (subst (λ (ss : List Step). ArePrinted bound m ss inner (map told outcomes ++ told p ∷ [])) (sym one_more) last),
        )

-- all of them, one for each
pub count_of_all : (bound : ℕ) (m : Parts) (before after : List Taking) (steps : List Step) (printed : List (StepOutcome Fraction)) (k : ℕ) → length steps ≤ k
    → IsPrintedReplay bound m before (take k steps) printed after → length printed ≡ length steps
count_of_all bound m before after steps printed k h replay = printed_count bound m (take k steps) replay.0 printed replay.2 ∙ ap length (take_all k steps h)

-- ---- the market after some of the steps
module _ (m : Parts) (steps : List Step) (k : ℕ) (n : Parts) where
  pub frame_so_far : n ≡ edited_by m (take k steps) → SameFrame m n
  frame_so_far e = steps_frame m (take k steps) ∙ sym (ap frame e)

  pub part_so_far : (new : Parts) → k < length steps → n ≡ edited_by m (take k steps) → new ≡ n → IsEditedPart m steps new
  part_so_far new within e same = record { count = k; few = Prim.omega (arith, within); market = same ∙ e }
