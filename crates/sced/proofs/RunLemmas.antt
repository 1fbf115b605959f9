-- What the text of a run and its status tell: the telling that was put, and what its clears came to.
use Rattle.std.specs.Prelude.{◌≡◌, ◌⊎◌, ℕ, if◌then◌else◌, List, [], ◌∷◌, ◌++◌, Option, Some, Ok, slice_get, take, All}
use Rattle.std.proofs.Common.{inl, inr, refl, sym, subst, ap, ◌∙◌, suc, zero}
use Rattle.std.proofs.lemmas.List.{append_cancel_left}
use Rattle.std.proofs.lemmas.List.Elements.{All-head, All-tail}
use Rattle.fraction_theory.specs.Fraction.{Fraction}
use Rattle.outside_store.specs.Files.{Files}
use Rattle.outside_store.specs.Sinks.{Took}
use Rattle.market_model.specs.declared.answered.Outcome.{Outcome}
use Rattle.market_model.specs.declared.answered.Outcome.TheVariants as outcome
use Rattle.market_model.specs.declared.limits.Row.{Row}
use Rattle.market_model.specs.declared.participants.Parts.{Parts}
use Rattle.market_model.specs.Market.{IsMarket}
use Rattle.market_system.specs.Outcomes.{IsRightOutcome}
use Rattle.market_system.proofs.Completeness.{right_by}
use Rattle.market_dict.specs.Takings.{limits_of}
use Rattle.market_dict.specs.declared.taking.Taking.{Taking}
use Rattle.offer_book.specs.Edits.{judge, answer}
use Rattle.offer_book.specs.declared.edit_parts.Edit.{Edit}
use Rattle.offer_book.specs.declared.edit_parts.EditFault.{EditFault}
use Rattle.edit_table.specs.declared.Step.{Step}
use Rattle.edit_table.specs.declared.Step.TheVariants as step
use Rattle.edit_replay.specs.Replays.{IsReplay, IsReply, edited_by, stepped, reply_of}
use Rattle.edit_replay.specs.declared.step_outcome.StepOutcome.{StepOutcome}
use Rattle.edit_replay.specs.declared.step_outcome.StepOutcome.TheVariants as reply
use Rattle.report_text.specs.ReportLaws.{OutcomeFitsReport}
use Rattle.report_text.specs.Reports.{report_text}
use Rattle.report_text.proofs.OutcomeReading.{outcome_fits, reports_apart}
use Rattle.replay_text.specs.ReplayTextLaws.{OutcomesFit}
use Rattle.replay_text.specs.ReplayTexts.{replayed}
use Rattle.replay_text.proofs.ReplayReading.{replays_read_apart}
use Rattle.settled_answer.specs.Settled.{IsSettledOutcome}
use Rattle.settled_replay.specs.PrintedReplays.{AreRightReplies, IsPrintedReplay, IsRightReply}
use Rattle.settled_replay.proofs.StepLemmas.{inner_at, printed_before, right_replies}
use Rattle.command_answers.specs.Bounds.{IsOutcomeWithin}
use Rattle.command_answers.specs.Clearing.{TellsClear, status_of}
use Rattle.command_answers.specs.Laws.{FitsRightsReport, RightsReport, outcome_in, rights_report_text}
use Rattle.command_answers.specs.Rights.{TellsRights}
use Rattle.command_answers.proofs.RightsReading.{law_of_the_rights_text, outcome_told}
use Rattle.market_model.specs.declared.participants.TransmissionRight.{TransmissionRight}
use Rattle.command_answers.specs.Replaying.{IsStepWithin, TellsReplay, is_done, replay_status, step_status}
use Rattle.command_answers.specs.Tellings.{Telling}
use Rattle.command_answers.proofs.ReplayLemmas.{replies_fit}
use Rattle.command_answers.specs.declared.status.Status.{Status}
use Rattle.command_answers.specs.declared.status.Status.TheVariants as status
use Rattle.sced.specs.Asked.{AsksHeld, AsksMarket, AsksSteps, clear_bound}
use Rattle.sced.specs.Headline.{BeginsWith, Prints, Reports, in_clear, in_replay, in_rights, of_clear, of_rights, of_step, outcome_of_edit}
use Rattle.sced.specs.Runs.{Ends, HasText, KeepsWrites, told, unwritten}
use Rattle.command_files.specs.OnlyReads.{IsSilent}
use Rattle.sced.specs.Told.{Answers, AnswersTo}
use Rattle.sced.proofs.AskedLemmas.{clear-told, replay-told, rights-told}
use Rattle.number_bits.specs.Bits.{most_of}

-- ---- the telling that was put
pub not-silent : (s : Status) → HasText s → ¬ (IsSilent s)
not-silent s ended (inl e) = subst HasText e ended
not-silent s ended (inr e) = subst HasText e ended

taken-text : (failed : Type 0) (t earlier text : List ℕ) (a b : Option (List ℕ)) → a ≡ Some earlier → b ≡ Some (earlier ++ text) → ¬ failed → Took failed t a b → t ≡ text
taken-text failed t earlier text a b before after whole took =
    let here : Took failed t (Some earlier) (Some (earlier ++ text)) = subst (λ x. Took failed t (Some earlier) x) after (subst (λ x. Took failed t x b) before took) in
    append_cancel_left earlier t text (sym (here.whole whole))

-- what was right to tell was put
pub record IsPrinted (words : List (List ℕ)) (files : Files) (after : Option Files) (text : List ℕ) (s : Status) : Type 0 where
  pub telling : Telling
  pub written : List (List ℕ × List ℕ)
  pub answers : AnswersTo (Some files) words telling written
  pub text_is : telling.text ≡ text
  pub status_is : telling.status ≡ s
  pub kept : KeepsWrites ⊥ written (Some files) after

pub printed : (words : List (List ℕ)) (files : Files) (text : List ℕ) (s : Status) → (p : Prints words files text s) → IsPrinted words files p.after.files text s
printed words files text s p = by (p.runs.told (not-silent s p.ended))
  where
    status-is : (t : Telling) → (s ≡ t.status) ⊎ (s ≡ status.WriteFailed) → t.status ≡ s
    status-is t (inl same) = sym same
    status-is t (inr failed) = absurd (subst HasText failed p.ended)

    ended : (t : Telling) (w : List (List ℕ × List ℕ)) → AnswersTo (Some files) words t w → Ends t w p.before.files p.after.files p.before.taken p.after.taken s → IsPrinted words files p.after.files text s
    ended t w answers (told kept took right) = record {
      telling = t;
      written = w;
      answers = answers;
      text_is = taken-text (s ≡ status.WriteFailed) t.text p.earlier text p.before.taken p.after.taken p.put_before p.put_after (λ failed. subst HasText failed p.ended) took;
      status_is = status-is t right;
      kept = subst (λ f. KeepsWrites ⊥ w f p.after.files) p.files_are kept;
    }
    ended t w answers (unwritten kept none failed) = absurd (subst HasText failed p.ended)

    by : Answers words p.before p.after s → IsPrinted words files p.after.files text s
    by a = ended a.telling a.written (subst (λ f. AnswersTo f words a.telling a.written) p.files_are a.right) a.ends

-- ---- one step of a replay
-- a clear among the steps, with the limits and rooms that it begins with
pub record IsClearAt (bound : ℕ) (m : Parts) (before : List Taking) (steps : List Step) (outcomes : List (StepOutcome Fraction)) (k : ℕ) (o : Outcome Fraction) : Type 0 where
  pub taken : List Taking
  pub replay : IsPrintedReplay bound m before (take k steps) (take k outcomes) taken
  pub right : IsRightOutcome bound (edited_by m (take k steps)) (limits_of taken) o
  pub settled : IsSettledOutcome bound (edited_by m (take k steps)) o

-- what the steps before it came to, and the outcome of which it is printed
record IsInnerAt (bound : ℕ) (m : Parts) (before : List Taking) (steps : List Step) (inner : List (StepOutcome Fraction)) (k : ℕ) (o : Outcome Fraction) : Type 0 where
  taken : List Taking
  replay : IsReplay bound m before (take k steps) (take k inner) taken
  right : IsRightOutcome bound (edited_by m (take k steps)) (limits_of taken) o

module _ (bound : ℕ) where
  right-here : (m : Parts) (before between : List Taking) (s : Step) (x : StepOutcome Fraction) (o : Outcome Fraction) → IsReply bound m before s x between → Some x ≡ Some (reply.Clear o) → IsRightOutcome bound m (limits_of before) o
  right-here m before between (step.Edit e) reply.Accepted o is same = cc same
  right-here m before between (step.Edit e) (reply.Refused f) o is same = cc same
  right-here m before between (step.Edit e) (reply.Clear q) o none same = absurd none
  right-here m before between step.Clear reply.Accepted o none same = absurd none
  right-here m before between step.Clear (reply.Refused f) o none same = absurd none
  right-here m before between step.Clear (reply.Clear q) o is same = let here : q ≡ o = cc same in subst (IsRightOutcome bound m (limits_of before)) here is.0.right

  inner-clear-at : (m : Parts) (before after : List Taking) (steps : List Step) (inner : List (StepOutcome Fraction)) (k : ℕ) (o : Outcome Fraction)
      → IsReplay bound m before steps inner after → slice_get inner k ≡ Some (reply.Clear o) → IsInnerAt bound m before steps inner k o
  inner-clear-at m before after [] [] k o replay is = cc is
  inner-clear-at m before after [] (x ∷ inner) k o none is = absurd none
  inner-clear-at m before after (s ∷ steps) [] k o none is = absurd none
  inner-clear-at m before after (s ∷ steps) (x ∷ inner) zero o replay is = record { taken = before; replay = refl; right = right-here m before replay.0 s x o replay.1 is }
  inner-clear-at m before after (s ∷ steps) (x ∷ inner) (suc k) o replay is =
      let rest = inner-clear-at (stepped m s) replay.0 after steps inner k o replay.2 is in
      record { taken = rest.taken; replay = (replay.0, replay.1, rest.replay); right = rest.right }

  pub clear-at : (m : Parts) (before after : List Taking) (steps : List Step) (outcomes : List (StepOutcome Fraction)) (k : ℕ) (p : Outcome Fraction)
      → IsPrintedReplay bound m before steps outcomes after → slice_get outcomes k ≡ Some (reply.Clear p) → IsClearAt bound m before steps outcomes k p
  clear-at m before after steps outcomes k p replay at =
      let source = inner_at bound m steps replay.0 outcomes k p replay.2 at in
      let inner = inner-clear-at m before after steps replay.0 k source.0 replay.1 source.1 in
      record {
        taken = inner.taken;
        replay = (take k replay.0, inner.replay, printed_before bound m steps replay.0 outcomes k replay.2);
        right = source.2.right bound (limits_of inner.taken) inner.right;
        settled = source.2.settled;
      }

  -- each edit among the steps comes to what it is judged to
  edit-here : (m : Parts) (s : Step) (e : Edit) (x : StepOutcome Fraction) → IsRightReply bound m s x → Some s ≡ Some (step.Edit e) → x ≡ outcome_of_edit m e
  edit-here m (step.Edit d) e reply.Accepted is same =
      let here : d ≡ e = cc same in ap (λ (j : Option EditFault). reply_of {N = Fraction} (answer j)) (sym is) ∙ ap (outcome_of_edit m) here
  edit-here m (step.Edit d) e (reply.Refused f) is same =
      let here : d ≡ e = cc same in ap (λ (j : Option EditFault). reply_of {N = Fraction} (answer j)) (sym is) ∙ ap (outcome_of_edit m) here
  edit-here m (step.Edit d) e (reply.Clear o) none same = absurd none
  edit-here m step.Clear e x is same = cc same

  pub edit-at : (m : Parts) (steps : List Step) (outcomes : List (StepOutcome Fraction)) (k : ℕ) (e : Edit)
      → AreRightReplies bound m steps outcomes → slice_get steps k ≡ Some (step.Edit e) → slice_get outcomes k ≡ Some (outcome_of_edit (edited_by m (take k steps)) e)
  edit-at m [] outcomes k e right is = cc is
  edit-at m (s ∷ steps) [] k e none is = absurd none
  edit-at m (s ∷ steps) (x ∷ outcomes) zero e right is = ap Some (edit-here m s e x right.0 is)
  edit-at m (s ∷ steps) (x ∷ outcomes) (suc k) e right is = edit-at (stepped m s) steps outcomes k e right.1 is

  -- each clear among the steps has an outcome
  cleared-here : (m : Parts) (s : Step) (x : StepOutcome Fraction) → IsRightReply bound m s x → Some s ≡ Some step.Clear → (o : Outcome Fraction) × (Some x ≡ Some (reply.Clear o))
  cleared-here m (step.Edit e) x is same = cc same
  cleared-here m step.Clear reply.Accepted none same = absurd none
  cleared-here m step.Clear (reply.Refused f) none same = absurd none
  cleared-here m step.Clear (reply.Clear o) is same = (o, refl)

  pub cleared-at : (m : Parts) (steps : List Step) (outcomes : List (StepOutcome Fraction)) (k : ℕ)
      → AreRightReplies bound m steps outcomes → slice_get steps k ≡ Some step.Clear → (o : Outcome Fraction) × (slice_get outcomes k ≡ Some (reply.Clear o))
  cleared-at m [] outcomes k right is = cc is
  cleared-at m (s ∷ steps) [] k none is = absurd none
  cleared-at m (s ∷ steps) (x ∷ outcomes) zero right is = cleared-here m s x right.0 is
  cleared-at m (s ∷ steps) (x ∷ outcomes) (suc k) right is = cleared-at (stepped m s) steps outcomes k right.1 is

  -- a refused outcome is that of an edit which is judged so
  refused-here : (m : Parts) (s : Step) (x : StepOutcome Fraction) (f : EditFault) → IsRightReply bound m s x → Some x ≡ Some (reply.Refused f) → (e : Edit) × (Some s ≡ Some (step.Edit e)) × (judge m e ≡ Some f)
  refused-here m (step.Edit e) reply.Accepted f is same = cc same
  refused-here m (step.Edit e) (reply.Refused g) f is same = let here : g ≡ f = cc same in (e, refl, is ∙ ap Some here)
  refused-here m (step.Edit e) (reply.Clear o) f none same = absurd none
  refused-here m step.Clear reply.Accepted f none same = absurd none
  refused-here m step.Clear (reply.Refused g) f none same = absurd none
  refused-here m step.Clear (reply.Clear o) f is same = cc same

  pub refused-at : (m : Parts) (steps : List Step) (outcomes : List (StepOutcome Fraction)) (k : ℕ) (f : EditFault)
      → AreRightReplies bound m steps outcomes → slice_get outcomes k ≡ Some (reply.Refused f) → (e : Edit) × (slice_get steps k ≡ Some (step.Edit e)) × (judge (edited_by m (take k steps)) e ≡ Some f)
  refused-at m [] [] k f right is = cc is
  refused-at m [] (x ∷ outcomes) k f none is = absurd none
  refused-at m (s ∷ steps) [] k f none is = absurd none
  refused-at m (s ∷ steps) (x ∷ outcomes) zero f right is = refused-here m s x f right.0 is
  refused-at m (s ∷ steps) (x ∷ outcomes) (suc k) f right is = refused-at (stepped m s) steps outcomes k f right.1 is

-- the status of a refused edit is that of one of the outcomes
refused-first : (x : StepOutcome Fraction) (rest : Status) → (if is_done (step_status x) then rest else step_status x) ≡ status.Refused → ((f : EditFault) × (x ≡ reply.Refused f)) ⊎ (rest ≡ status.Refused)
refused-first reply.Accepted rest is = inr is
refused-first (reply.Refused f) rest is = inl (f, refl)
refused-first (reply.Clear o) rest is = by o is
  where
    by : (o : Outcome Fraction) → (if is_done (status_of o) then rest else status_of o) ≡ status.Refused → ((f : EditFault) × (reply.Clear o ≡ reply.Refused f)) ⊎ (rest ≡ status.Refused)
    by (outcome.Cleared a) is = inr is
    by (outcome.Infeasible f) is = cc is
    by (outcome.Range p) is = cc is

pub refused-status : (outcomes : List (StepOutcome Fraction)) → replay_status outcomes ≡ status.Refused → (k : ℕ) × (f : EditFault) × (slice_get outcomes k ≡ Some (reply.Refused f))
unfolding replay_status
refused-status [] is = cc is
refused-status (x ∷ outcomes) is = elim (refused-first x (replay_status outcomes) is) [
  | inl (f, same) ↦ (0, f, ap Some same)
  | inr rest ↦ (let later = refused-status outcomes rest in (suc later.0, later.1, later.2))
]

-- ---- what is reported
-- each number of an outcome that is a clear's is within the bound
within-here : (bound : ℕ) (x : StepOutcome Fraction) (o : Outcome Fraction) → IsStepWithin bound x → Some x ≡ Some (reply.Clear o) → IsOutcomeWithin bound o
within-here bound reply.Accepted o h same = cc same
within-here bound (reply.Refused f) o h same = cc same
within-here bound (reply.Clear q) o h same = let here : q ≡ o = cc same in subst (IsOutcomeWithin bound) here h

within-at : (bound : ℕ) (outcomes : List (StepOutcome Fraction)) (k : ℕ) (o : Outcome Fraction) → All (IsStepWithin bound) outcomes → slice_get outcomes k ≡ Some (reply.Clear o) → IsOutcomeWithin bound o
within-at bound [] k o all is = cc is
within-at bound (x ∷ outcomes) zero o all is = within-here bound x o (All-head (IsStepWithin bound) x outcomes all) is
within-at bound (x ∷ outcomes) (suc k) o all is = within-at bound outcomes k o (All-tail (IsStepWithin bound) x outcomes all) is

-- what a clear that the words ask for came to, and with which rows it began
pub record IsOutcomeOf (words : List (List ℕ)) (files : Files) (text : List ℕ) (m : Parts) (o : Outcome Fraction) (place : ℕ) : Type 0 where
  pub market : IsMarket m
  pub taken : List Row
  pub bound : ℕ
  pub begins : BeginsWith words files text m place taken bound
  pub right : IsRightOutcome bound m taken o
  pub settled : IsSettledOutcome bound m o
  pub within : IsOutcomeWithin bound o

module _ (words : List (List ℕ)) (files : Files) (text : List ℕ) (m : Parts) (o : Outcome Fraction) (t : Telling) where
  clear-outcome : (asks : AsksMarket files words m) → OutcomeFitsReport m o → t.text ≡ report_text m o → TellsClear (clear_bound asks) m t → IsOutcomeOf words files text m o 0
  clear-outcome asks fits is (market, clears) =
      let same : clears.outcome ≡ o = reports_apart m clears.outcome o (outcome_fits _ m clears.outcome (right_by (clear_bound asks) m [] clears.outcome clears.right)) fits (sym clears.told.text_is ∙ is) in
      record {
        market = market;
        taken = [];
        bound = clear_bound asks;
        begins = in_clear asks;
        right = subst (IsRightOutcome (clear_bound asks) m []) same clears.right;
        settled = subst (IsSettledOutcome (clear_bound asks) m) same clears.priced;
        within = subst (IsOutcomeWithin (clear_bound asks)) same clears.within;
      }

  step-outcome : (start : Parts) (steps : List Step) (outcomes : List (StepOutcome Fraction)) (k : ℕ) (asks : AsksSteps files words start steps) → OutcomesFit start steps outcomes
      → t.text ≡ replayed start steps outcomes → text ≡ replayed start steps outcomes → slice_get outcomes k ≡ Some (reply.Clear o) → m ≡ edited_by start (take k steps)
      → TellsReplay (most_of asks.names.bits) (record { market = start; steps = steps }) t → IsOutcomeOf words files text m o k
  step-outcome start steps outcomes k asks fits is text_is at edited (market, replays) =
      let bound = most_of asks.names.bits in
      let same : replays.outcomes ≡ outcomes = replays_read_apart start steps replays.outcomes outcomes (replies_fit bound start steps replays.outcomes (right_replies bound start [] replays.taken steps replays.outcomes replays.right)) fits (sym replays.told.text_is ∙ is) in
      let right = subst (λ (os : List (StepOutcome Fraction)). IsPrintedReplay bound start [] steps os replays.taken) same replays.right in
      let here = clear-at bound start [] replays.taken steps outcomes k o right at in
      record {
        market = subst IsMarket (sym edited) (replays.markets k);
        taken = limits_of here.taken;
        bound = bound;
        begins = in_replay start steps outcomes k here.taken asks fits text_is edited here.replay;
        right = subst (λ (n : Parts). IsRightOutcome bound n (limits_of here.taken) o) (sym edited) here.right;
        settled = subst (λ (n : Parts). IsSettledOutcome bound n o) (sym edited) here.settled;
        within = within-at bound outcomes k o (subst (All (IsStepWithin bound)) same replays.within) at;
      }

  rights-outcome : (rights : List TransmissionRight) (report : RightsReport) (asks : AsksHeld files words m rights) → FitsRightsReport m report → outcome_in report ≡ o → t.text ≡ rights_report_text m report
      → TellsRights (most_of asks.names.bits) (record { market = m; rights = rights }) t → IsOutcomeOf words files text m o 0
  rights-outcome rights report asks fits is text_is tells =
      let bound = most_of asks.names.bits in
      let entitles = tells.entitles in
      let here = outcome_told bound m rights entitles.outcome t (outcome_fits _ m entitles.outcome (right_by bound m [] entitles.outcome entitles.right)) entitles.told in
      let one : here.report ≡ report = law_of_the_rights_text m here.report report here.fits fits (sym (ap (λ (x : Telling). x.text) here.told) ∙ text_is) in
      let same : entitles.outcome ≡ o = sym here.outcome ∙ ap outcome_in one ∙ is in
      record {
        market = tells.market;
        taken = [];
        bound = bound;
        begins = in_rights rights asks;
        right = subst (IsRightOutcome bound m []) same entitles.right;
        settled = subst (IsSettledOutcome bound m) same entitles.priced;
        within = subst (IsOutcomeWithin bound) same entitles.within;
      }

pub reported : (words : List (List ℕ)) (files : Files) (text : List ℕ) (s : Status) (m : Parts) (o : Outcome Fraction) (place : ℕ) (after : Option Files) → IsPrinted words files after text s → Reports words files text m o place
    → IsOutcomeOf words files text m o place
reported words files text s m o _ after p (of_clear asks fits is) = clear-outcome words files text m o p.telling asks fits (p.text_is ∙ is) (clear-told files words p.telling p.written (Ok m) p.answers asks)
reported words files text s m o _ after p (of_step start steps outcomes k asks fits is at edited) =
    step-outcome words files text m o p.telling start steps outcomes k asks fits (p.text_is ∙ is) is at edited
    (replay-told files words p.telling p.written (Ok (record { market = start; steps = steps })) p.answers asks)
reported words files text s m o _ after p (of_rights rights report asks fits is same) =
    rights-outcome words files text m o p.telling rights report asks fits is (p.text_is ∙ same) (rights-told files words p.telling p.written (Ok (record { market = m; rights = rights })) p.answers asks)
