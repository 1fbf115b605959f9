-- What is printed of replays, step by step.
use Rattle.std.specs.Prelude.{◌≡◌, ℕ, List, [], ◌∷◌, Some, slice_get, take, refl}
use Rattle.std.proofs.Common.{suc, zero, ap, subst, ◌∙◌}
use Rattle.fraction_theory.specs.Fraction.{Fraction}
use Rattle.market_model.specs.declared.answered.Outcome.{Outcome}
use Rattle.market_model.specs.declared.participants.Parts.{Parts}
use Rattle.market_dict.specs.Takings.{limits_of}
use Rattle.market_dict.specs.declared.taking.Taking.{Taking}
use Rattle.edit_table.specs.declared.Step.{Step}
use Rattle.edit_table.specs.declared.Step.TheVariants as step
use Rattle.edit_replay.specs.declared.step_outcome.StepOutcome.{StepOutcome}
use Rattle.edit_replay.specs.declared.step_outcome.StepOutcome.TheVariants as reply
use Rattle.edit_replay.specs.Replays.{IsReplay, IsReply, edited_by, stepped}
use Rattle.settled_replay.specs.Laws.{LawOfRightReplies}
use Rattle.settled_replay.specs.PrintedReplays.{AreRightReplies, ArePrinted, IsPrinted, IsRightReply, PrintsClear}

-- ---- one step
right_reply : (bound : ℕ) (m : Parts) (before after : List Taking) (s : Step) (o p : StepOutcome Fraction) → IsReply bound m before s o after → IsPrinted bound m o p → IsRightReply bound m s p
right_reply bound m before after (step.Edit e) reply.Accepted reply.Accepted is printed = is.0
right_reply bound m before after (step.Edit e) reply.Accepted (reply.Refused g) is none = absurd none
right_reply bound m before after (step.Edit e) reply.Accepted (reply.Clear p) is none = absurd none
right_reply bound m before after (step.Edit e) (reply.Refused f) reply.Accepted is none = absurd none
right_reply bound m before after (step.Edit e) (reply.Refused f) (reply.Refused g) is same = is.0 ∙ ap Some same
right_reply bound m before after (step.Edit e) (reply.Refused f) (reply.Clear p) is none = absurd none
right_reply bound m before after (step.Edit e) (reply.Clear o) p none printed = absurd none
right_reply bound m before after step.Clear reply.Accepted p none printed = absurd none
right_reply bound m before after step.Clear (reply.Refused f) p none printed = absurd none
right_reply bound m before after step.Clear (reply.Clear o) reply.Accepted is none = absurd none
right_reply bound m before after step.Clear (reply.Clear o) (reply.Refused g) is none = absurd none
right_reply bound m before after step.Clear (reply.Clear o) (reply.Clear p) is prints = ((limits_of before, prints.right bound (limits_of before) is.0.right), prints.settled)

-- ---- steps
replies_right : (bound : ℕ) (m : Parts) (before after : List Taking) (steps : List Step) (inner printed : List (StepOutcome Fraction)) → IsReplay bound m before steps inner after
    → ArePrinted bound m steps inner printed → AreRightReplies bound m steps printed
replies_right bound m before after [] [] [] replay are = tt
replies_right bound m before after [] [] (p ∷ printed) replay none = absurd none
replies_right bound m before after [] (o ∷ inner) printed none are = absurd none
replies_right bound m before after (s ∷ steps) [] printed none are = absurd none
replies_right bound m before after (s ∷ steps) (o ∷ inner) [] replay none = absurd none
replies_right bound m before after (s ∷ steps) (o ∷ inner) (p ∷ printed) replay are =
    (right_reply bound m before replay.0 s o p replay.1 are.0, replies_right bound (stepped m s) replay.0 after steps inner printed replay.2 are.1)

pub right_replies : LawOfRightReplies
right_replies bound m before after steps printed replay = replies_right bound m before after steps replay.0 printed replay.1 replay.2

-- ---- a clear at a place
-- the outcome of which it is printed
inner_here : (bound : ℕ) (m : Parts) (x q : StepOutcome Fraction) (p : Outcome Fraction) → IsPrinted bound m x q → Some q ≡ Some (reply.Clear p)
    → (o : Outcome Fraction) × (Some x ≡ Some (reply.Clear o)) × PrintsClear bound m o p
inner_here bound m x reply.Accepted p is same = cc same
inner_here bound m x (reply.Refused g) p is same = cc same
inner_here bound m reply.Accepted (reply.Clear q) p none same = absurd none
inner_here bound m (reply.Refused f) (reply.Clear q) p none same = absurd none
inner_here bound m (reply.Clear o) (reply.Clear q) p is same = let here : q ≡ p = cc same in (o, refl, subst (PrintsClear bound m o) here is)

pub inner_at : (bound : ℕ) (m : Parts) (steps : List Step) (inner printed : List (StepOutcome Fraction)) (k : ℕ) (p : Outcome Fraction) → ArePrinted bound m steps inner printed
    → slice_get printed k ≡ Some (reply.Clear p) → (o : Outcome Fraction) × (slice_get inner k ≡ Some (reply.Clear o)) × PrintsClear bound (edited_by m (take k steps)) o p
inner_at bound m [] [] [] k p are is = cc is
inner_at bound m [] [] (q ∷ printed) k p none is = absurd none
inner_at bound m [] (x ∷ inner) printed k p none is = absurd none
inner_at bound m (s ∷ steps) [] printed k p none is = absurd none
inner_at bound m (s ∷ steps) (x ∷ inner) [] k p none is = absurd none
inner_at bound m (s ∷ steps) (x ∷ inner) (q ∷ printed) zero p are is = inner_here bound m x q p are.0 is
inner_at bound m (s ∷ steps) (x ∷ inner) (q ∷ printed) (suc k) p are is = inner_at bound (stepped m s) steps inner printed k p are.1 is

-- and what is printed of the steps before it
pub printed_before : (bound : ℕ) (m : Parts) (steps : List Step) (inner printed : List (StepOutcome Fraction)) (k : ℕ) → ArePrinted bound m steps inner printed
    → ArePrinted bound m (take k steps) (take k inner) (take k printed)
printed_before bound m [] [] [] zero are = tt
printed_before bound m [] [] [] (suc k) are = tt
printed_before bound m [] [] (q ∷ printed) k none = absurd none
printed_before bound m [] (x ∷ inner) printed k none = absurd none
printed_before bound m (s ∷ steps) [] printed k none = absurd none
printed_before bound m (s ∷ steps) (x ∷ inner) [] k none = absurd none
printed_before bound m (s ∷ steps) (x ∷ inner) (q ∷ printed) zero are = tt
printed_before bound m (s ∷ steps) (x ∷ inner) (q ∷ printed) (suc k) are = (are.0, printed_before bound (stepped m s) steps inner printed k are.1)
