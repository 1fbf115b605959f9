-- Statuses, and what the last clear came to, one outcome after another.
use Rattle.std.proofs.Common.{◌≡◌, ◌<◌, ◌≤◌, ◌∙◌, ℕ, ◌+◌, true, false, if◌then◌else◌, List, [], ◌∷◌, All, drop, take, get_or, map, length, Option, Some, zero, suc, refl, sym, ap, arith, subst}
use Rattle.std.specs.Prelude.{unsigned_abs}
use Rattle.std.proofs.lemmas.List.Elements.{All-cons, All-get_or, All-nil, All-tail, All-take}
use Rattle.std.proofs.lemmas.List.{at_drop_all, at_drop_more, get_or-map, length-map}
use Rattle.fraction_theory.specs.Fraction.{Fraction}
use Rattle.market_model.specs.declared.answered.Outcome.{Outcome}
use Rattle.edit_replay.specs.Replays.{step_outcome_at}
use Rattle.edit_replay.specs.declared.step_outcome.StepOutcome.{StepOutcome}
use Rattle.command_answers.specs.declared.status.Status.{Status}
use Rattle.command_answers.specs.declared.status.Status.TheVariants as status
use Rattle.market_model.specs.declared.answered.Outcome.TheVariants as outcome
use Rattle.market_model.specs.declared.participants.Parts.{Parts}
use Rattle.market_model.specs.declared.limits.Row.{Row}
use Rattle.market_model.specs.Market.{IsMarket}
use Rattle.market_model.specs.Valued.{outcome_at}
use Rattle.market_system.specs.Growth.{Growth}
use Rattle.market_system.specs.Outcomes.{IsClear, IsDecided}
use Rattle.market_system.specs.WorkingPairs.{NoPairPasses}
use Rattle.market_system.proofs.Completeness.{law_of_completeness, right_by}
use Rattle.market_dict.specs.Takings.{limits_of}
use Rattle.market_dict.specs.declared.taking.Taking.{Taking}
use Rattle.clear_loop.specs.Keeping.{cold}
use Rattle.offer_book.specs.Edits.{step_of}
use Rattle.edit_table.specs.EditTable.{IsStep}
use Rattle.edit_table.specs.declared.Step.{Step}
use Rattle.edit_table.specs.declared.Step.TheVariants as edit
use Rattle.edit_replay.specs.SessionStates.{SessionState}
use Rattle.edit_replay.specs.Replays.{IsReplay, edited_by, stepped}
use Rattle.edit_replay.proofs.FrameLemmas.{steps_market}
use Rattle.edit_replay.specs.declared.step_outcome.StepOutcome.TheVariants as step
use Rattle.report_text.proofs.OutcomeReading.{outcome_fits}
use Rattle.replay_text.specs.ReplayTextLaws.{OutcomesFit, StepOutcomeFits}
use Rattle.settled_replay.specs.PrintedReplays.{AreRightReplies, IsPrintedReplay, IsRightReply}
use Rattle.settled_replay.proofs.PrintLawProofs.{decided_too}
use Rattle.settled_replay.proofs.StepLemmas.{inner_at}
use Rattle.command_answers.proofs.BoundLemmas.{outcome_within}
use Rattle.command_answers.specs.Tellings.{Telling}
use Rattle.command_answers.specs.Replaying.{AreDecided, IsStepWithin, IsNoRange, NoPairPassesIn, ReplaysTo, clear_or, is_done, last_clear, replay_status, step_status, TellsSteps}

-- the first outcome and those behind it
status_first : (o : StepOutcome Fraction) (os : List (StepOutcome Fraction)) → replay_status (o ∷ os) ≡ (if is_done (step_status o) then replay_status os else step_status o)
unfolding replay_status
status_first o os = refl

pub last_first : (before : Option (Outcome Fraction)) (o : StepOutcome Fraction) (os : List (StepOutcome Fraction)) → last_clear before (o ∷ os) ≡ last_clear (clear_or before o) os
unfolding last_clear
last_first before o os = refl

status_none : replay_status [] ≡ status.Done
unfolding replay_status
status_none = refl

pub last_none : (before : Option (Outcome Fraction)) → last_clear before [] ≡ before
unfolding last_clear
last_none before = refl

-- where none is left
module _ {N : Type 0} (value : N → Fraction) (outcomes : List (StepOutcome N)) (k : ℕ) (over : length outcomes ≤ k) where
  pub status_over : replay_status (map (step_outcome_at value) (drop k outcomes)) ≡ replay_status (map (step_outcome_at value) outcomes) → status.Done ≡ replay_status (map (step_outcome_at value) outcomes)
  status_over before = sym (at_drop_all (λ os. replay_status (map (step_outcome_at value) os)) outcomes k over ∙ status_none) ∙ before

  pub last_over : (before all : Option (Outcome Fraction)) → last_clear before (map (step_outcome_at value) (drop k outcomes)) ≡ all → before ≡ all
  last_over before all told = sym (at_drop_all (λ os. last_clear before (map (step_outcome_at value) os)) outcomes k over ∙ last_none before) ∙ told

-- where one is left
module _ {N : Type 0} (value : N → Fraction) (outcomes : List (StepOutcome N)) (k : ℕ) (x : StepOutcome N) (within : k < length outcomes) (item : x ≡ get_or outcomes k x) where
  abbrev status_from : List (StepOutcome N) → Status
  status_from os = replay_status (map (step_outcome_at value) os)

  abbrev last_from : Option (Outcome Fraction) → List (StepOutcome N) → Option (Outcome Fraction)
  last_from before os = last_clear before (map (step_outcome_at value) os)

  status_at : status_from (drop k outcomes) ≡ (if is_done (step_status (step_outcome_at value x)) then status_from (drop (k + 1) outcomes) else step_status (step_outcome_at value x))
  status_at =
      at_drop_more status_from outcomes k x within
      ∙ ap (λ y. status_from (y ∷ drop (k + 1) outcomes)) (sym item)
      ∙ status_first (step_outcome_at value x) (map (step_outcome_at value) (drop (k + 1) outcomes))

  pub status_goes_on : (s : Status) → s ≡ step_status (step_outcome_at value x) → is_done s ≡ true → status_from (drop k outcomes) ≡ status_from outcomes → status_from (drop (k + 1) outcomes) ≡ status_from outcomes
  status_goes_on s is done before =
      sym (ap (λ b. if b then status_from (drop (k + 1) outcomes) else step_status (step_outcome_at value x)) (ap is_done (sym is) ∙ done)) ∙ sym status_at ∙ before

  pub status_ends : (s : Status) → s ≡ step_status (step_outcome_at value x) → is_done s ≡ false → status_from (drop k outcomes) ≡ status_from outcomes → s ≡ status_from outcomes
  status_ends s is undone before =
      is ∙ sym (ap (λ b. if b then status_from (drop (k + 1) outcomes) else step_status (step_outcome_at value x)) (ap is_done (sym is) ∙ undone)) ∙ sym status_at ∙ before

  pub last_goes_on : (before after all : Option (Outcome Fraction)) → after ≡ clear_or before (step_outcome_at value x) → last_from before (drop k outcomes) ≡ all → last_from after (drop (k + 1) outcomes) ≡ all
  last_goes_on before after all is told =
      ap (λ b. last_from b (drop (k + 1) outcomes)) is
      ∙ sym (at_drop_more (last_from before) outcomes k x within ∙ ap (λ y. last_from before (y ∷ drop (k + 1) outcomes)) (sym item) ∙ last_first before (step_outcome_at value x) (map (step_outcome_at value) (drop (k + 1) outcomes)))
      ∙ told

-- ---- whether one of the clears ended with numbers that became too large
pub none_at : {N : Type 0} (value : N → Fraction) (outcomes : List (StepOutcome N)) (k : ℕ) (x : StepOutcome N) → k < length outcomes → x ≡ get_or outcomes k x
    → All IsNoRange (map (step_outcome_at value) outcomes) → IsNoRange (step_outcome_at value x)
none_at value outcomes k x within item none =
    let inside : k < length (map (step_outcome_at value) outcomes) = omega (arith, length-map outcomes (step_outcome_at value), within) in
    subst IsNoRange (get_or-map (step_outcome_at value) outcomes k x (step_outcome_at value x) within ∙ ap (step_outcome_at value) (sym item))
    (All-get_or IsNoRange (map (step_outcome_at value) outcomes) k (step_outcome_at value x) inside none)

-- ---- each clear is decided
-- a clear in which no pair passes leaves the limits that it begins with, grown
left_grown : (bound : ℕ) (m : Parts) (before after : List Row) (o : Outcome Fraction) → NoPairPasses m before bound → IsClear bound m before o after → Growth m before after
left_grown bound m before after (outcome.Cleared a) none is = is.taken
left_grown bound m before after (outcome.Infeasible f) none is = is.taken
left_grown bound m before after (outcome.Range p) none is = absurd (none p is.right)

-- the outcome of a clear is decided
module _ (m : Parts) (o q : Outcome Fraction) where
  decided_first : (bound : ℕ) (before after : List Row) → IsMarket m → NoPairPasses m before bound → IsClear bound m before q after → Some (step.Clear q) ≡ Some (step.Clear o) → IsDecided m o
  decided_first bound before after market none is same =
      let here : q ≡ o = cc same in
      subst (IsDecided m) here (law_of_completeness m before bound q market none is.right)

are_decided : (bound : ℕ) (m : Parts) (before after : List Taking) (steps : List Step) (outcomes : List (StepOutcome Fraction)) → IsMarket m → All IsStep steps
    → NoPairPassesIn m (limits_of before) steps bound → IsReplay bound m before steps outcomes after → AreDecided m steps outcomes
are_decided bound m before after [] [] market data_ok none replay k o is = cc is
are_decided bound m before after [] (p ∷ outcomes) market data_ok none replay k o is = absurd replay
are_decided bound m before after (s ∷ steps) [] market data_ok none replay k o is = absurd replay
are_decided bound m before after (edit.Edit e ∷ steps) (step.Clear q ∷ outcomes) market data_ok none replay k o is = absurd replay.1
are_decided bound m before after (edit.Edit e ∷ steps) (step.Accepted ∷ outcomes) market data_ok none replay zero o is = cc is
are_decided bound m before after (edit.Edit e ∷ steps) (step.Refused f ∷ outcomes) market data_ok none replay zero o is = cc is
are_decided bound m before after (edit.Edit e ∷ steps) (step.Accepted ∷ outcomes) market data_ok none replay (suc k) o is =
    are_decided bound (step_of m e) replay.0 after steps outcomes (steps_market m (edit.Edit e ∷ []) market (All-take IsStep 1 (edit.Edit e ∷ steps) data_ok)) (All-tail IsStep (edit.Edit e) steps data_ok)
    (subst (λ (g : List Taking). NoPairPassesIn (step_of m e) (limits_of g) steps bound) (sym replay.1.1) none) replay.2 k o is
are_decided bound m before after (edit.Edit e ∷ steps) (step.Refused f ∷ outcomes) market data_ok none replay (suc k) o is =
    are_decided bound (step_of m e) replay.0 after steps outcomes (steps_market m (edit.Edit e ∷ []) market (All-take IsStep 1 (edit.Edit e ∷ steps) data_ok)) (All-tail IsStep (edit.Edit e) steps data_ok)
    (subst (λ (g : List Taking). NoPairPassesIn (step_of m e) (limits_of g) steps bound) (sym replay.1.1) none) replay.2 k o is
are_decided bound m before after (edit.Clear ∷ steps) (step.Accepted ∷ outcomes) market data_ok none replay k o is = absurd replay.1
are_decided bound m before after (edit.Clear ∷ steps) (step.Refused f ∷ outcomes) market data_ok none replay k o is = absurd replay.1
are_decided bound m before after (edit.Clear ∷ steps) (step.Clear q ∷ outcomes) market data_ok none replay zero o is = decided_first m o q bound (limits_of before) (limits_of replay.0) market none.0 replay.1.0 is
are_decided bound m before after (edit.Clear ∷ steps) (step.Clear q ∷ outcomes) market data_ok none replay (suc k) o is =
    are_decided bound m replay.0 after steps outcomes market (All-tail IsStep edit.Clear steps data_ok) (none.1 (limits_of replay.0) (left_grown bound m (limits_of before) (limits_of replay.0) q none.0 replay.1.0)) replay.2 k o is

-- and so is what is printed of it
pub printed_decided : (bound : ℕ) (m : Parts) (before after : List Taking) (steps : List Step) (outcomes : List (StepOutcome Fraction)) → IsMarket m → All IsStep steps
    → NoPairPassesIn m (limits_of before) steps bound → IsPrintedReplay bound m before steps outcomes after → AreDecided m steps outcomes
printed_decided bound m before after steps outcomes market data_ok none replay k p at =
    let here = inner_at bound m steps replay.0 outcomes k p replay.2 at in
    decided_too (edited_by m (take k steps)) here.0 p here.2.dispatch (are_decided bound m before after steps replay.0 market data_ok none replay.1 k here.0 here.1)

-- ---- right replies fit the reports
reply_fits : (bound : ℕ) (m : Parts) (s : Step) (o : StepOutcome Fraction) → IsRightReply bound m s o → StepOutcomeFits m o
reply_fits bound m (edit.Edit e) step.Accepted is = tt
reply_fits bound m (edit.Edit e) (step.Refused f) is = tt
reply_fits bound m (edit.Edit e) (step.Clear o) none = absurd none
reply_fits bound m edit.Clear step.Accepted none = absurd none
reply_fits bound m edit.Clear (step.Refused f) none = absurd none
reply_fits bound m edit.Clear (step.Clear o) is = outcome_fits _ m o (right_by bound m is.0.0 o is.0.1)

pub replies_fit : (bound : ℕ) (m : Parts) (steps : List Step) (outcomes : List (StepOutcome Fraction)) → AreRightReplies bound m steps outcomes → OutcomesFit m steps outcomes
replies_fit bound m [] [] right = tt
replies_fit bound m [] (o ∷ outcomes) none = absurd none
replies_fit bound m (s ∷ steps) [] none = absurd none
replies_fit bound m (s ∷ steps) (o ∷ outcomes) right = (reply_fits bound m s o right.0, replies_fit bound (stepped m s) steps outcomes right.1)

-- ---- a replay as it is told
module _ {N : Type 0} (value : N → Fraction) (bound : ℕ) (fits : (x : N) → (unsigned_abs (value x).num ≤ bound) × ((value x).den ≤ bound)) where
  -- each number of an outcome is within the bound, as all numbers of its type
  step_within : (o : StepOutcome N) → IsStepWithin bound (step_outcome_at value o)
  step_within step.Accepted = tt
  step_within (step.Refused f) = tt
  step_within (step.Clear o) = outcome_within value bound fits o

  pub all_within : (os : List (StepOutcome N)) → All (IsStepWithin bound) (map (step_outcome_at value) os)
  all_within [] = All-nil (IsStepWithin bound)
  all_within (o ∷ os) = All-cons (IsStepWithin bound) (step_outcome_at value o) (map (step_outcome_at value) os) (step_within o) (all_within os)

  unfoldable pub replays_to : (m : Parts) (steps : List Step) (start now : SessionState) (outcomes : List (StepOutcome N)) (t : Telling) → start ≡ record { market = m; kept = cold }
      → IsMarket m → All IsStep steps
      → IsPrintedReplay bound start.market start.kept.taken.takings steps (map (step_outcome_at value) outcomes) now.kept.taken.takings
      → TellsSteps bound m steps (map (step_outcome_at value) outcomes) t → ReplaysTo bound m steps t
  replays_to m steps start now outcomes t is market data_ok replay told =
      let right : IsPrintedReplay bound m [] steps (map (step_outcome_at value) outcomes) now.kept.taken.takings =
      subst (λ (s : SessionState). IsPrintedReplay bound s.market s.kept.taken.takings steps (map (step_outcome_at value) outcomes) now.kept.taken.takings) is replay in
      record {
        outcomes = map (step_outcome_at value) outcomes;
        taken = now.kept.taken.takings;
        right = right;
        within = all_within outcomes;
        markets = λ k. steps_market m (take k steps) market (All-take IsStep k steps data_ok);
        decided = λ none. printed_decided bound m [] now.kept.taken.takings steps (map (step_outcome_at value) outcomes) market data_ok none right;
        told = told;
      }
