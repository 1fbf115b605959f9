-- The laws of replays.
use Rattle.std.specs.Prelude.{◌≡◌, ℕ, List, [], ◌∷◌, ◌++◌, length, map, Some, None, refl}
use Rattle.std.proofs.Common.{arith, ap, sym, ◌∙◌}
use Rattle.fraction_theory.specs.Fraction.{Fraction}
use Rattle.market_model.specs.declared.participants.Parts.{Parts}
use Rattle.market_system.proofs.Completeness.{law_of_completeness}
use Rattle.market_dict.specs.Takings.{limits_of}
use Rattle.market_dict.specs.declared.taking.Taking.{Taking}
use Rattle.offer_book.specs.Edits.{judge}
use Rattle.offer_book.specs.declared.edit_parts.Edit.{Edit}
use Rattle.edit_table.specs.declared.Step.{Step}
use Rattle.edit_table.specs.declared.Step.TheVariants as step
use Rattle.edit_replay.specs.declared.step_outcome.StepOutcome.{StepOutcome}
use Rattle.edit_replay.specs.declared.step_outcome.StepOutcome.TheVariants as reply
use Rattle.edit_replay.specs.ReplayLaws.{LawOfClearsInReplays, LawOfEditsInReplays, told_of_edit}
use Rattle.edit_replay.specs.Replays.{IsReplay, IsReply, edited_by, stepped}
use Rattle.edit_replay.proofs.FrameLemmas.{steps_market}

-- ---- clears
-- a replay of some steps and more behind them
record SplitReplay (bound : ℕ) (m : Parts) (before : List Taking) (done left : List Step) (told later : List (StepOutcome Fraction)) (after : List Taking) : Type 0 where
  reached : List Taking
  first : IsReplay bound m before done told reached
  rest : IsReplay bound (edited_by m done) reached left later after

split : (bound : ℕ) (m : Parts) (before after : List Taking) (done left : List Step) (told later : List (StepOutcome Fraction)) → length told ≡ length done
    → IsReplay bound m before (done ++ left) (told ++ later) after → SplitReplay bound m before done left told later after
split bound m before after [] left [] later count replay = record { reached = before; first = refl; rest = replay }
split bound m before after [] left (o ∷ told) later count replay = absurd (Prim.omega (arith, count))
split bound m before after (s ∷ done) left [] later count replay = absurd (Prim.omega (arith, count))
split bound m before after (s ∷ done) left (o ∷ told) later count replay =
    let more = split bound (stepped m s) replay.0 after done left told later (Prim.omega (arith, count)) replay.2 in
    record { reached = more.reached; first = (replay.0, replay.1, more.first); rest = more.rest }

pub law_of_clears : LawOfClearsInReplays
law_of_clears bound m before after done left told later o market data_ok count replay =
    let parts = split bound m before after done (step.Clear ∷ left) told (reply.Clear o ∷ later) count replay in
    record {
      reached = parts.reached;
      replay = parts.first;
      taken = parts.rest.0;
      clear = parts.rest.1.0;
      takes = parts.rest.1.1;
      decided = λ none. law_of_completeness (edited_by m done) (limits_of parts.reached) bound o (steps_market m done market data_ok) none parts.rest.1.0.right;
    }

-- ---- edits
-- what is told of an edit is how it is judged
told_by_judge : (bound : ℕ) (m : Parts) (before after : List Taking) (e : Edit) (o : StepOutcome Fraction) → IsReply bound m before (step.Edit e) o after → told_of_edit o ≡ Some (judge m e)
told_by_judge bound m before after e reply.Accepted is = ap Some (sym is.0)
told_by_judge bound m before after e (reply.Refused f) is = ap Some (sym is.0)
told_by_judge bound m before after e (reply.Clear o) none = absurd none

-- and nothing is told of one by a clear
told_by_clear : (bound : ℕ) (m : Parts) (before after : List Taking) (o : StepOutcome Fraction) → IsReply bound m before step.Clear o after → told_of_edit o ≡ None
told_by_clear bound m before after reply.Accepted none = absurd none
told_by_clear bound m before after (reply.Refused f) none = absurd none
told_by_clear bound m before after (reply.Clear o) is = refl

same_told : (bound : ℕ) (m : Parts) (before after former latter : List Taking) (s : Step) (o p : StepOutcome Fraction)
    → IsReply bound m before s o after → IsReply bound m former s p latter → told_of_edit o ≡ told_of_edit p
same_told bound m before after former latter (step.Edit e) o p is too = told_by_judge bound m before after e o is ∙ sym (told_by_judge bound m former latter e p too)
same_told bound m before after former latter step.Clear o p is too = told_by_clear bound m before after o is ∙ sym (told_by_clear bound m former latter p too)

pub law_of_edits : LawOfEditsInReplays
law_of_edits bound m before after former latter [] [] [] replay other = refl
law_of_edits bound m before after former latter [] [] (p ∷ others) replay none = absurd none
law_of_edits bound m before after former latter [] (o ∷ outcomes) others none other = absurd none
law_of_edits bound m before after former latter (s ∷ steps) [] others none other = absurd none
law_of_edits bound m before after former latter (s ∷ steps) (o ∷ outcomes) [] replay none = absurd none
law_of_edits bound m before after former latter (s ∷ steps) (o ∷ outcomes) (p ∷ others) replay other =
    let first : told_of_edit o ≡ told_of_edit p = same_told bound m before replay.0 former other.0 s o p replay.1 other.1 in
    let rest : map told_of_edit outcomes ≡ map told_of_edit others = law_of_edits bound (stepped m s) replay.0 after other.0 latter steps outcomes others replay.2 other.2 in
    Prim.cc (first, rest)
