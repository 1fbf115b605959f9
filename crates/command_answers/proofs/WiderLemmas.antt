-- What is told by numbers within a bound is told by those within a greater one, where no two became too large.
use Rattle.std.proofs.Common.{◌≡◌, ◌≢◌, ◌≤◌, ◌⊎◌, ◌∙◌, inl, inr, lit≤, ℕ, List, [], ◌∷◌, All, Option, Some, None, IfSome, arith, refl, sym, ap, subst, zero, suc}
use Rattle.std.proofs.Common.{map}
use Rattle.std.specs.Prelude.{unsigned_abs}
use Rattle.std.proofs.lemmas.List.Elements.{All-cons, All-head, All-tail, All-weaker}
use Rattle.fraction_theory.specs.Fraction.{Fraction}
use Rattle.market_model.specs.declared.answered.Outcome.{Outcome}
use Rattle.market_model.specs.declared.answered.Outcome.TheVariants as outcome
use Rattle.market_model.specs.declared.limits.Row.{Row}
use Rattle.market_model.specs.declared.participants.Parts.{Parts}
use Rattle.market_model.specs.declared.participants.TransmissionRight.{TransmissionRight}
use Rattle.market_model.specs.Market.{IsMarket}
use Rattle.market_model.specs.Valued.{total_at}
use Rattle.market_system.specs.Outcomes.{IsClear, IsRightOutcome}
use Rattle.market_dict.specs.Takings.{limits_of}
use Rattle.market_dict.specs.declared.taking.Taking.{Taking}
use Rattle.cert_format.specs.declared.certificate.Cert.{Cert}
use Rattle.cert_format.specs.Certificates.{NumbersFit}
use Rattle.cert_format.proofs.CertLemmas.{numbers-more}
use Rattle.edit_table.specs.EditTable.{IsStep}
use Rattle.edit_table.specs.declared.Step.{Step}
use Rattle.edit_table.specs.declared.Step.TheVariants as edit
use Rattle.clear_loop.specs.Keeping.{cold}
use Rattle.edit_replay.specs.Replays.{IsReplay, IsReply, step_outcome_at, stepped}
use Rattle.edit_replay.specs.SessionStates.{SessionState}
use Rattle.edit_replay.specs.declared.step_outcome.StepOutcome.{StepOutcome}
use Rattle.edit_replay.specs.declared.step_outcome.StepOutcome.TheVariants as step
use Rattle.command_answers.specs.Clearing.{ClearsTo, TellsCertified}
use Rattle.command_answers.specs.Replaying.{IsNoRange, IsStepWithin, ReplaysTo, TellsSteps}
use Rattle.command_answers.specs.Rights.{EntitlesTo, TellsFit, TellsOutcome, fitted, passed}
use Rattle.command_answers.specs.Tellings.{Telling}
use Rattle.command_answers.specs.declared.status.Status.TheVariants as status
use Rattle.rights_test.specs.Paid.{payments_of}
use Rattle.command_answers.proofs.BoundLemmas.{fit-within-wider, outcome-wider, payments-wider}
use Rattle.command_answers.proofs.ReplayLemmas.{printed_decided, replays_to}
use Rattle.settled_answer.specs.Settled.{HasFirstPrices, IsSettledOutcome, first}
use Rattle.settled_replay.specs.PrintedReplays.{ArePrinted, IsPrinted, IsPrintedReplay}
use Rattle.settled_replay.specs.Refusals.{AllFirst, IsFirst}
use Rattle.report_text.specs.Reports.{report_text}
use Rattle.number_bits.specs.Bits.{most_of}
use Rattle.number_bits.specs.declared.NumberBits.{NumberBits}
use Rattle.number_bits.specs.declared.NumberBits.TheVariants.{Bits127, Bits1023}

-- ---- the two widths
pub narrow-wide : most_of Bits127 ≤ most_of Bits1023
narrow-wide = lit≤ tt

-- what holds by 127 bits, and by 1,023 where something more is so, holds by those that were asked for, where it is by 127 or that is so
pub by-bits : (bits : NumberBits) (P : ℕ → Type 0) (A : Type 0) → P (most_of Bits127) → (A → P (most_of Bits1023)) → (bits ≡ Bits127) ⊎ A → P (most_of bits)
by-bits Bits127 P A narrow wide h = narrow
by-bits Bits1023 P A narrow wide (inl is) = cc is
by-bits Bits1023 P A narrow wide (inr a) = wide a

module _ (less bound : ℕ) (wide : less ≤ bound) where
  some-wider : (c : Option (Cert Fraction)) → IfSome c (NumbersFit less) → IfSome c (NumbersFit bound)
  some-wider None h = tt
  some-wider (Some c) h = numbers-more less bound wide c h

  -- ---- one clear
  right-wider : (m : Parts) (taken : List Row) (o : Outcome Fraction) → IsNoRange (step.Clear o) → IsRightOutcome less m taken o → IsRightOutcome bound m taken o
  right-wider m taken (outcome.Cleared a) within right = right
  right-wider m taken (outcome.Infeasible f) within right = right
  right-wider m taken (outcome.Range p) within right = absurd within

  certified-wider : (m : Parts) (o : Outcome Fraction) (t : Telling) → TellsCertified less m o t → TellsCertified bound m o t
  certified-wider m o t h = record { status_is = h.status_is; text_is = h.text_is; certificate_is = h.certificate_is; certificate_fits = some-wider _ h.certificate_fits }

  -- a clear whose status is another has no two numbers that became too large
  clear-within : (m : Parts) (o : Outcome Fraction) (t : Telling) → TellsCertified less m o t → t.status ≢ status.Range → IsNoRange (step.Clear o)
  clear-within m (outcome.Cleared a) t h other = tt
  clear-within m (outcome.Infeasible f) t h other = tt
  clear-within m (outcome.Range p) t h other = absurd (other h.status_is)

  -- an outcome whose answer has first prices is settled
  first-settled : (m : Parts) (o : Outcome Fraction) → HasFirstPrices m o → IsSettledOutcome bound m o
  first-settled m (outcome.Cleared a) is = first is
  first-settled m (outcome.Infeasible f) is = tt
  first-settled m (outcome.Range p) is = tt

  pub clears-wider : (m : Parts) (t : Telling) (h : ClearsTo less m t) → t.status ≢ status.Range → HasFirstPrices m h.outcome → ClearsTo bound m t
  clears-wider m t h other priced =
      let within = clear-within m h.outcome t h.told other in
      record {
        outcome = h.outcome;
        right = right-wider m [] h.outcome within h.right;
        priced = first-settled m h.outcome priced;
        within = outcome-wider less bound wide h.outcome h.within;
        told = certified-wider m h.outcome t h.told;
      }

  -- ---- rights
  fit-wider : (m : Parts) (rights : List TransmissionRight) (price : ℕ → Fraction) (report : List ℕ) (t : Telling) → TellsFit less m rights price report t → t.status ≢ status.Range → TellsFit bound m rights price report t
  fit-wider m rights price report t (fitted f is flow pays told) other = fitted f is (fit-within-wider less bound wide f flow) (payments-wider less bound wide (payments_of price rights) pays) told
  fit-wider m rights price report t (passed p stop within told) other = absurd (other (ap (λ (s : Telling). s.status) told))

  outcome-within : (m : Parts) (rights : List TransmissionRight) (o : Outcome Fraction) (t : Telling) → TellsOutcome less m rights o t → t.status ≢ status.Range → IsNoRange (step.Clear o) × TellsOutcome bound m rights o t
  outcome-within m rights (outcome.Cleared a) t h other = (tt, fit-wider m rights (total_at (λ x. x) a.prices) (report_text m (outcome.Cleared a)) t h other)
  outcome-within m rights (outcome.Infeasible f) t h other = (tt, h)
  outcome-within m rights (outcome.Range p) t h other = absurd (other (ap (λ (s : Telling). s.status) h))

  pub entitles-wider : (m : Parts) (rights : List TransmissionRight) (t : Telling) (h : EntitlesTo less m rights t) → t.status ≢ status.Range → HasFirstPrices m h.outcome → EntitlesTo bound m rights t
  entitles-wider m rights t h other priced =
      let told = outcome-within m rights h.outcome t h.told other in
      record {
        outcome = h.outcome;
        right = right-wider m [] h.outcome told.0 h.right;
        priced = first-settled m h.outcome priced;
        within = outcome-wider less bound wide h.outcome h.within;
        told = told.1;
      }

  -- ---- replays
  clear-wider : (m : Parts) (before after : List Row) (o : Outcome Fraction) → IsNoRange (step.Clear o) → IsClear less m before o after → IsClear bound m before o after
  clear-wider m before after o within h = record { rows = h.rows; right = right-wider m before o within h.right; taken = h.taken; priced = h.priced }

  reply-wider : (m : Parts) (before after : List Taking) (s : Step) (o : StepOutcome Fraction) → IsNoRange o → IsReply less m before s o after → IsReply bound m before s o after
  reply-wider m before after (edit.Edit e) step.Accepted within h = h
  reply-wider m before after (edit.Edit e) (step.Refused f) within h = h
  reply-wider m before after (edit.Edit e) (step.Clear o) within h = absurd h
  reply-wider m before after edit.Clear step.Accepted within h = absurd h
  reply-wider m before after edit.Clear (step.Refused f) within h = absurd h
  reply-wider m before after edit.Clear (step.Clear o) within h = (clear-wider m (limits_of before) (limits_of after) o within h.0, h.1)

  replay-wider : (m : Parts) (before after : List Taking) (steps : List Step) (outcomes : List (StepOutcome Fraction)) → All IsNoRange outcomes → IsReplay less m before steps outcomes after → IsReplay bound m before steps outcomes after
  replay-wider m before after [] [] within h = h
  replay-wider m before after [] (o ∷ outcomes) within h = absurd h
  replay-wider m before after (s ∷ steps) [] within h = absurd h
  replay-wider m before after (s ∷ steps) (o ∷ outcomes) within h =
      (h.0, reply-wider m before h.0 s o (within 0 o (omega arith)) h.1, replay-wider (stepped m s) h.0 after steps outcomes (All-tail IsNoRange o outcomes within) h.2)

  -- what is printed of steps without such numbers is of outcomes without them
  inner-none : (m : Parts) (o p : StepOutcome Fraction) → IsPrinted less m o p → IsNoRange p → IsNoRange o
  inner-none m step.Accepted p printed none = tt
  inner-none m (step.Refused f) p printed none = tt
  inner-none m (step.Clear (outcome.Cleared a)) p printed none = tt
  inner-none m (step.Clear (outcome.Infeasible f)) p printed none = tt
  inner-none m (step.Clear (outcome.Range q)) step.Accepted printed none = absurd printed
  inner-none m (step.Clear (outcome.Range q)) (step.Refused f) printed none = absurd printed
  inner-none m (step.Clear (outcome.Range q)) (step.Clear p) printed none = subst (λ x. IsNoRange (step.Clear x)) printed.dispatch none

  none-inner : (m : Parts) (steps : List Step) (inner outcomes : List (StepOutcome Fraction)) → ArePrinted less m steps inner outcomes → All IsNoRange outcomes → All IsNoRange inner
  none-inner m [] [] [] are within = within
  none-inner m [] [] (p ∷ outcomes) are within = absurd are
  none-inner m [] (o ∷ inner) outcomes are within = absurd are
  none-inner m (s ∷ steps) [] outcomes are within = absurd are
  none-inner m (s ∷ steps) (o ∷ inner) [] are within = absurd are
  none-inner m (s ∷ steps) (o ∷ inner) (p ∷ outcomes) are within =
      All-cons IsNoRange o inner (inner-none m o p are.0 (All-head IsNoRange p outcomes within)) (none-inner (stepped m s) steps inner outcomes are.1 (All-tail IsNoRange p outcomes within))

  -- what is printed with first prices
  prints-wider : (m : Parts) (o p : StepOutcome Fraction) → IsPrinted less m o p → IsFirst m p → IsPrinted bound m o p
  prints-wider m step.Accepted step.Accepted is priced = tt
  prints-wider m step.Accepted (step.Refused g) is priced = absurd is
  prints-wider m step.Accepted (step.Clear p) is priced = absurd is
  prints-wider m (step.Refused f) step.Accepted is priced = absurd is
  prints-wider m (step.Refused f) (step.Refused g) is priced = is
  prints-wider m (step.Refused f) (step.Clear p) is priced = absurd is
  prints-wider m (step.Clear o) step.Accepted is priced = absurd is
  prints-wider m (step.Clear o) (step.Refused g) is priced = absurd is
  prints-wider m (step.Clear o) (step.Clear p) is priced = record { right = is.right; dispatch = is.dispatch; settled = first-settled m p priced; own = is.own }

  printed-wider : (m : Parts) (steps : List Step) (inner outcomes : List (StepOutcome Fraction)) → ArePrinted less m steps inner outcomes → AllFirst m steps outcomes → ArePrinted bound m steps inner outcomes
  printed-wider m [] [] [] are priced = tt
  printed-wider m [] [] (p ∷ outcomes) are priced = absurd are
  printed-wider m [] (o ∷ inner) outcomes are priced = absurd are
  printed-wider m (s ∷ steps) [] outcomes are priced = absurd are
  printed-wider m (s ∷ steps) (o ∷ inner) [] are priced = absurd are
  printed-wider m (s ∷ steps) (o ∷ inner) (p ∷ outcomes) are priced = (prints-wider m o p are.0 priced.0, printed-wider (stepped m s) steps inner outcomes are.1 priced.1)

  step-within-wider : (o : StepOutcome Fraction) → IsStepWithin less o → IsStepWithin bound o
  step-within-wider step.Accepted within = tt
  step-within-wider (step.Refused f) within = tt
  step-within-wider (step.Clear o) within = outcome-wider less bound wide o within

  steps-wider : (m : Parts) (steps : List Step) (outcomes : List (StepOutcome Fraction)) (t : Telling) → TellsSteps less m steps outcomes t → TellsSteps bound m steps outcomes t
  steps-wider m steps outcomes t h = record { status_is = h.status_is; text_is = h.text_is; certificate_is = h.certificate_is; certificate_fits = some-wider _ h.certificate_fits }

  pub replays-wider : (m : Parts) (steps : List Step) (t : Telling) → IsMarket m → All IsStep steps → (h : ReplaysTo less m steps t) → All IsNoRange h.outcomes → AllFirst m steps h.outcomes → ReplaysTo bound m steps t
  replays-wider m steps t market data_ok h within priced =
      let inner = h.right.0 in
      let right : IsPrintedReplay bound m [] steps h.outcomes h.taken = (
        inner,
        replay-wider m [] h.taken steps inner (none-inner m steps inner h.outcomes h.right.2 within) h.right.1,
        printed-wider m steps inner h.outcomes h.right.2 priced,
      ) in
      record {
        outcomes = h.outcomes;
        taken = h.taken;
        right = right;
        within = All-weaker (IsStepWithin less) (IsStepWithin bound) step-within-wider h.outcomes h.within;
        markets = h.markets;
        decided = λ none. printed_decided bound m [] h.taken steps h.outcomes market data_ok none right;
        told = steps-wider m steps h.outcomes t h.told;
      }

  -- a replay by numbers of a type, as it is told
  pub replays_to-wider : {N : Type 0} (value : N → Fraction) (fits : (x : N) → (unsigned_abs (value x).num ≤ less) × ((value x).den ≤ less)) (m : Parts) (steps : List Step) (start now : SessionState) (outcomes : List (StepOutcome N)) (t : Telling)
      → start ≡ record { market = m; kept = cold } → IsMarket m → All IsStep steps
      → IsPrintedReplay less start.market start.kept.taken.takings steps (map (step_outcome_at value) outcomes) now.kept.taken.takings
      → TellsSteps less m steps (map (step_outcome_at value) outcomes) t → All IsNoRange (map (step_outcome_at value) outcomes) → AllFirst m steps (map (step_outcome_at value) outcomes) → ReplaysTo bound m steps t
  unfolding replays_to
  replays_to-wider value fits m steps start now outcomes t is market data_ok replay told within priced =
      replays-wider m steps t market data_ok (replays_to value less fits m steps start now outcomes t is market data_ok replay told) within priced
