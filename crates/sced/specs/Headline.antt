-- The promise of a run in the words of its users: laws of every run of the program, each from what `run` promises alone.
-- Wood and Wollenberg, Power Generation, Operation and Control: dispatch within limits of the base and after outages. Schweppe and others, Spot
-- Pricing of Electricity: prices and the surplus. Farkas: why no dispatch qualifies.
use Rattle.std.specs.Prelude.{◌≡◌, ◌≢◌, ◌⊎◌, ℕ, List, [], ◌∷◌, ◌++◌, take, codes, is_some, slice_get, Option, Some, None, option_and_then, Ok, Err, if◌then◌else◌}
use Rattle.std.specs.Option.{option_map_or}
use Rattle.std.specs.Str.{bytes_eq}
use Rattle.fraction_theory.specs.Fraction.{Fraction, ◌*ℚ◌}
use Rattle.fraction_theory.specs.Order.{◌≤ℚ◌}
use Rattle.fraction_theory.specs.Sums.{sum_by}
use Rattle.exact_fraction.specs.declared.Passed.{Passed}
use Rattle.number_bits.specs.Bits.{most_of}
use Rattle.number_bits.specs.declared.NumberBits.TheVariants.{Bits127}
use Rattle.outside_store.specs.Causes.{Rose, Still}
use Rattle.outside_store.specs.Files.{Files, SameFiles}
use Rattle.market_model.specs.declared.answered.Answer.{Answer}
use Rattle.market_model.specs.declared.answered.Farkas.{Farkas}
use Rattle.market_model.specs.declared.answered.Outcome.{Outcome}
use Rattle.market_model.specs.declared.answered.Outcome.TheVariants.{Cleared, Infeasible, Range}
use Rattle.market_model.specs.declared.limits.Row.{Row}
use Rattle.market_model.specs.declared.answered.RowId.{RowId}
use Rattle.market_model.specs.declared.participants.Parts.{Parts}
use Rattle.market_model.specs.declared.participants.TransmissionRight.{TransmissionRight}
use Rattle.market_model.specs.Dispatch.{Dispatch, IsDispatch, balance, zero}
use Rattle.market_model.specs.Infeasibility.{IsFarkas}
use Rattle.market_model.specs.Laws.{HasOffsetsWithin}
use Rattle.market_model.specs.LimitRows.{flow, most_flow, rows}
use Rattle.market_model.specs.Optimality.{AreWithin, Feasible, ProperDuals, Supports, all_of, bus_price, welfare}
use Rattle.market_model.specs.Reserves.{reserve, reserve_need, reserve_units, KeepRooms}
use Rattle.market_model.specs.RightAnswers.{dispatch_in, settlement_at, prices_made}
use Rattle.market_model.specs.Rights.{AreFeasibleTogether}
use Rattle.market_model.specs.Settlement.{rent}
use Rattle.market_model.specs.Valued.{total_at}
use Rattle.market_system.specs.Outcomes.{IsDecided}
use Rattle.market_system.specs.Ties.{IsFirstFor}
use Rattle.market_system.specs.WorkingPairs.{AllNumbersFit, IsRangeOf, NoPairPasses}
use Rattle.market_dict.specs.Takings.{limits_of}
use Rattle.market_dict.specs.declared.taking.Taking.{Taking}
use Rattle.net_case.specs.Networks.{LiveNetwork}
use Rattle.factor_tables.specs.declared.by_pair.Column.TheVariants as column
use Rattle.factor_tables.specs.Factors.{FactorRecords}
use Rattle.factor_tables.specs.Tables.{loss_of, shift_of}
use Rattle.factor_text.specs.Texts.{factor_table_text}
use Rattle.factor_maker.specs.declared.stops.MakeStop.{MakeStop}
use Rattle.factor_maker.specs.declared.stops.MakeStop.TheVariants as make_stop
use Rattle.case_maker.specs.Rings.{ring_of}
use Rattle.cert_format.specs.Certificates.{cert_of_outcome}
use Rattle.cert_format.specs.Grammar.{cert_read}
use Rattle.cert_format.specs.Written.{cert_text}
use Rattle.cert_format.specs.declared.certificate.Cert.{Cert}
use Rattle.cert_verify.specs.Certificates.{IsTrueOf, first_reason}
use Rattle.offer_book.specs.Edits.{judge, answer}
use Rattle.offer_book.specs.declared.edit_parts.Edit.{Edit}
use Rattle.offer_book.specs.declared.edit_parts.EditFault.{EditFault}
use Rattle.edit_table.specs.declared.Step.{Step}
use Rattle.edit_table.specs.declared.Step.TheVariants as step
use Rattle.edit_replay.specs.Replays.{edited_by, reply_of}
use Rattle.edit_replay.specs.declared.step_outcome.StepOutcome.{StepOutcome}
use Rattle.edit_replay.specs.declared.step_outcome.StepOutcome.TheVariants as reply
use Rattle.one_price.specs.FirstPrices.{AreFirstDuals}
use Rattle.settled_answer.specs.PriceNumbers.{AllPriceNumbersFit}
use Rattle.settled_answer.specs.Settled.{IsSettledAnswer, NoPricePasses}
use Rattle.settled_replay.specs.PrintedReplays.{IsPrintedReplay}
use Rattle.report_text.specs.ReportLaws.{OutcomeFitsReport}
use Rattle.report_text.specs.Reports.{range_text, report_text}
use Rattle.replay_text.specs.ReplayTextLaws.{OutcomesFit}
use Rattle.replay_text.specs.ReplayTexts.{replayed}
use Rattle.rights_test.specs.Fits.{IsFit}
use Rattle.rights_test.specs.Paid.{payments_of}
use Rattle.rights_test.specs.declared.right_parts.Fit.TheVariants.{Fits, Breaks}
use Rattle.refusal_text.specs.Refusals.{refusal_line}
use Rattle.refusal_text.specs.declared.refusals.FactorFault.{FactorFault}
use Rattle.refusal_text.specs.declared.refusals.FactorFault.TheVariants as factor_fault
use Rattle.refusal_text.specs.declared.refusals.Refusal.{Refusal}
use Rattle.refusal_text.specs.declared.refusals.Refusal.TheVariants as refusal
use Rattle.command_words.specs.Words.{AsksCheck, AsksClear, AsksMake, AsksNothing, AsksReplay, CheckNames, FactorNames, IsFactorFile, IsFactorTable, MarketNames, NamesFile, NamesToWrite}
use Rattle.residual_text.specs.ResidualLines.{residuals_text}
use Rattle.market_inputs.specs.declared.checking.Inputs.{Inputs}
use Rattle.market_inputs.specs.declared.making.FactorInputs.{FactorInputs}
use Rattle.command_answers.specs.Checking.{AreResiduals, check_status_of}
use Rattle.command_answers.specs.declared.checking.Residuals.{Residuals}
use Rattle.command_answers.specs.Bounds.{ArePassedWithin, ArePaymentsWithin, IsAnswerWithin, IsFarkasWithin, IsFitWithin, IsOutcomeWithin}
use Rattle.command_answers.specs.Clearing.{status_of}
use Rattle.command_answers.specs.Factors.{AreMadeTables, IsFactorsStop, tables_text}
use Rattle.command_answers.specs.declared.factors.MadeTables.{MadeTables}
use Rattle.command_answers.specs.Inputs.{MarketSteps}
use Rattle.command_answers.specs.Laws.{Certifies, CertifiesLast, FitsRightsReport, RightsReport, outcome_in, rights_report_text}
use Rattle.command_answers.specs.Making.{ring_line, summary}
use Rattle.command_answers.specs.Replaying.{last_clear, replay_status}
use Rattle.command_answers.specs.Rights.{IsRightsRefusal}
use Rattle.command_answers.specs.RightsLines.{rights_lines}
use Rattle.cert_verify.specs.Stops.{IsCertificateStop}
use Rattle.command_answers.specs.Verdicts.{verdict_line}
use Rattle.command_answers.specs.declared.status.Status.{Status}
use Rattle.command_answers.specs.declared.status.Status.TheVariants as status
use Rattle.sced.specs.Asked.{AsksForFactors, AsksForRights, AsksHeld, AsksMarket, AsksSteps, AsksVerdict, AsksToCheck, AsksToClear, AsksToMigrate, AsksToReplay, AsksToVerify, clear_bound}
use Rattle.sced.specs.Promise.{Runs}
use Rattle.command_files.specs.OnlyReads.{IsSilent}
use Rattle.sced.specs.Runs.{CountsReads, CountsWrites, HasText, LeavesAll, Outside}
use Rattle.sced.specs.Told.{Answers}

-- ---- what a run prints
-- A run of these words over these files put this text behind what was put before, and ended with this status: no call failed, and memory was
-- not refused.
pub record Prints (words : List (List ℕ)) (files : Files) (text : List ℕ) (s : Status) : Type 0 where
  pub before : Outside
  pub after : Outside
  pub runs : Runs words before after s
  pub ended : HasText s
  pub files_are : before.files ≡ Some files
  pub earlier : List ℕ
  pub put_before : before.taken ≡ Some earlier
  pub put_after : after.taken ≡ Some (earlier ++ text)

-- the first fault of the files that the words name, in the one order of work
pub data IsFirstRefusal (words : List (List ℕ)) (files : Files) (r : Refusal) : Type 0 where
  to_clear : AsksToClear files words (Err r) → IsFirstRefusal words files r
  to_replay : AsksToReplay files words (Err r) → IsFirstRefusal words files r
  to_verify : AsksToVerify files words (Err r) → IsFirstRefusal words files r
  for_rights : AsksForRights files words (Err r) → IsFirstRefusal words files r
  to_check : AsksToCheck files words (Err r) → IsFirstRefusal words files r
  to_migrate : AsksToMigrate files words (Err r) → IsFirstRefusal words files r
  for_factors : AsksForFactors files words (Err r) → IsFirstRefusal words files r

-- a run that puts a text was asked for one of these: for nothing that the program does, for work on what the files stand for, for a ring, or on
-- files with a first fault
pub data IsAsked (words : List (List ℕ)) (files : Files) : Status → Type 0 where
  for_nothing : AsksNothing words → IsAsked words files status.Usage
  for_clear : (s : Status) (m : Parts) → AsksMarket files words m → IsAsked words files s
  for_steps : (s : Status) (m : Parts) (steps : List Step) → AsksSteps files words m steps → IsAsked words files s
  for_verdict : (s : Status) (m : Parts) (c : Cert Fraction) → AsksVerdict files words m c → IsAsked words files s
  for_holders : (s : Status) (m : Parts) (rights : List TransmissionRight) → AsksHeld files words m rights → IsAsked words files s
  for_migration : (s : Status) (c : Cert Fraction) → AsksToMigrate files words (Ok c) → IsAsked words files s
  for_check : (s : Status) (inputs : Inputs) → AsksToCheck files words (Ok inputs) → IsAsked words files s
  for_tables : (s : Status) (inputs : FactorInputs) → AsksForFactors files words (Ok inputs) → IsAsked words files s
  for_ring : (s : Status) (buses seed : ℕ) → AsksMake words buses seed → IsAsked words files s
  with_fault : (s : Status) (r : Refusal) → IsFirstRefusal words files r → IsAsked words files s

abbrev pub LawOfAsked : Type 0
LawOfAsked = (words : List (List ℕ)) (files : Files) (text : List ℕ) (s : Status) → Prints words files text s → IsAsked words files s

-- ---- what is reported
-- The words ask to clear this market, and the text is the report of this outcome, at place 0; or they ask for steps, the text is that of
-- outcomes of these, and at this place is this one of a clear, of the market as the steps before it edit it; or they ask for rights in this market,
-- and the text tells this outcome, at place 0, with what is told of rights behind it.
pub data Reports (words : List (List ℕ)) (files : Files) (text : List ℕ) (m : Parts) (o : Outcome Fraction) : ℕ → Type 0 where
  of_clear : AsksMarket files words m → OutcomeFitsReport m o → text ≡ report_text m o → Reports words files text m o 0
  of_step : (start : Parts) (steps : List Step) (outcomes : List (StepOutcome Fraction)) (k : ℕ) → AsksSteps files words start steps
      → OutcomesFit start steps outcomes → text ≡ replayed start steps outcomes → slice_get outcomes k ≡ Some (reply.Clear o)
      → m ≡ edited_by start (take k steps) → Reports words files text m o k
  of_rights : (rights : List TransmissionRight) (report : RightsReport) → AsksHeld files words m rights → FitsRightsReport m report
      → outcome_in report ≡ o → text ≡ rights_report_text m report → Reports words files text m o 0

-- the rows with which the clear at that place begins: none, or in a replay the limits among what the clears before it ended with; and the
-- bound that the words ask for
pub data BeginsWith (words : List (List ℕ)) (files : Files) (text : List ℕ) (m : Parts) : ℕ → List Row → ℕ → Type 0 where
  in_clear : (asks : AsksMarket files words m) → BeginsWith words files text m 0 [] (clear_bound asks)
  in_rights : (rights : List TransmissionRight) (asks : AsksHeld files words m rights) → BeginsWith words files text m 0 [] (most_of asks.names.bits)
  in_replay : (start : Parts) (steps : List Step) (outcomes : List (StepOutcome Fraction)) (k : ℕ) (taken : List Taking) (asks : AsksSteps files words start steps)
      → OutcomesFit start steps outcomes → text ≡ replayed start steps outcomes → m ≡ edited_by start (take k steps)
      → IsPrintedReplay (most_of asks.names.bits) start [] (take k steps) (take k outcomes) taken → BeginsWith words files text m k (limits_of taken) (most_of asks.names.bits)

-- ---- cleared
-- within the offers of energy and of reserve, in balance, within every limit of the base and after every listed outage, up to its excess, whose
-- penalty the welfare bears, with the reserve that is needed, and with no unit's room passed by its energy and its reserve together; and no
-- dispatch that is so is worth more
pub record HasGreatestWelfare (m : Parts) (x : Dispatch) : Type 0 where
  pub offered : IsDispatch m x
  pub balances : balance m x ≡ zero
  pub within : AreWithin (rows m) (most_flow m) (flow m x)
  pub need : reserve_need m ≤ℚ reserve m x
  pub rooms : KeepRooms m (reserve_units m) x
  pub greatest : (y : Dispatch) → Feasible m y → welfare m y ≤ℚ welfare m x

-- The prices are those of the duals, which support the dispatch and name rows and rooms of the market in its order, each with one price. The
-- settlement is at these prices: its surplus is the sum of the rents, and offers of reserve are paid the price of reserve for the need.
pub record IsPriced (m : Parts) (a : Answer Fraction) : Type 0 where
  pub prices : a.prices ≡ prices_made m a.duals
  pub supported : Supports m (dispatch_in a) a.duals
  pub proper : ProperDuals m a.duals
  pub worth : a.welfare ≡ welfare m (dispatch_in a)
  pub money : a.money ≡ settlement_at m (dispatch_in a) (bus_price m a.duals) a.duals
  pub surplus : a.money.surplus ≡ sum_by (rent m (dispatch_in a) a.duals) (rows m)
  pub reserve_paid : sum_by (λ p. p.paid) a.money.reserve ≡ a.duals.reserve *ℚ reserve_need m

-- what is printed as cleared is best, and priced by duals that support it
abbrev pub LawOfCleared : Type 0
LawOfCleared = (words : List (List ℕ)) (files : Files) (text : List ℕ) (s : Status) (m : Parts) (a : Answer Fraction) (place : ℕ)
    → Prints words files text s → Reports words files text m (Cleared a) place → HasGreatestWelfare m (dispatch_in a) × IsPriced m a

-- ---- which dispatch
-- What is printed as cleared is of the market's best dispatches the one that goes first: none that is worth as much accepts more of the first
-- block at which the two differ, or, where they accept the same of each block, of the first offer of reserve.
abbrev pub LawOfFirstDispatch : Type 0
LawOfFirstDispatch = (words : List (List ℕ)) (files : Files) (text : List ℕ) (s : Status) (m : Parts) (a : Answer Fraction) (place : ℕ)
    → Prints words files text s → Reports words files text m (Cleared a) place → IsFirstFor m (all_of m) (dispatch_in a)

-- two answers tell one dispatch of energy and of reserve, with one flow in each row, and one welfare; of duals and prices see below
pub record TellSame (m : Parts) (a b : Answer Fraction) : Type 0 where
  pub dispatch : a.dispatch ≡ b.dispatch
  pub reserve : a.reserve ≡ b.reserve
  pub flows : (r : Row) → flow m (dispatch_in a) r ≡ flow m (dispatch_in b) r
  pub welfare : a.welfare ≡ b.welfare

-- what two runs print of one market as cleared tells the same, whatever else the words ask for and the files hold: whether it is one clear or one
-- of a replay, what was cleared before, and by how many bits
abbrev pub LawOfOneDispatch : Type 0
LawOfOneDispatch = (words others : List (List ℕ)) (files beside : Files) (text told : List ℕ) (s t : Status) (m : Parts) (a b : Answer Fraction)
    (place at : ℕ) → Prints words files text s → Reports words files text m (Cleared a) place
    → Prints others beside told t → Reports others beside told m (Cleared b) at → TellSame m a b

-- ---- which prices
-- Of the duals that support the dispatch those that go first: limits, rooms and reserve have the least sum of prices, and then each is as low as can
-- be, rooms before limits, from the last to the first, then reserve; and energy has the least price that it may have beside them. Or a number
-- passed the bound that the words ask for, on the way to these, and they are the duals of a choice of basic variables. Where no pair passes it,
-- whichever choice a clear ends with, as where all numbers that may have to be written down on the way are within it, they are first.
pub record HasSettledPrices (words : List (List ℕ)) (files : Files) (text : List ℕ) (m : Parts) (a : Answer Fraction) (place : ℕ) : Type 0 where
  pub taken : List Row
  pub bound : ℕ
  pub begins : BeginsWith words files text m place taken bound
  pub settled : IsSettledAnswer bound m a
  pub fits : AllPriceNumbersFit m bound → AreFirstDuals m (dispatch_in a) a.duals
  pub first : NoPricePasses m bound → AreFirstDuals m (dispatch_in a) a.duals

-- what is printed as cleared has such prices
abbrev pub LawOfFirstPrices : Type 0
LawOfFirstPrices = (words : List (List ℕ)) (files : Files) (text : List ℕ) (s : Status) (m : Parts) (a : Answer Fraction) (place : ℕ)
    → Prints words files text s → Reports words files text m (Cleared a) place → HasSettledPrices words files text m a place

-- what two runs print of one market as cleared is the same in all that it tells, where both have first prices: dispatch, duals, bus prices, welfare
-- and settlement, whatever else the words ask for and the files hold, what was cleared before, and by how many bits
abbrev pub LawOfOneSetOfPrices : Type 0
LawOfOneSetOfPrices = (words others : List (List ℕ)) (files beside : Files) (text told : List ℕ) (s t : Status) (m : Parts) (a b : Answer Fraction)
    (place at : ℕ) → Prints words files text s → Reports words files text m (Cleared a) place
    → Prints others beside told t → Reports others beside told m (Cleared b) at
    → AreFirstDuals m (dispatch_in a) a.duals → AreFirstDuals m (dispatch_in b) b.duals → a ≡ b

-- ---- surplus
-- Where the fixed offset of each row that has a printed price above 0, of its upper or its lower limit, is within these limits, loads pay no less than
-- units are paid for energy: the surplus that a pool, a clear or a replay prints is not negative.
abbrev pub LawOfSurplus : Type 0
LawOfSurplus = (words : List (List ℕ)) (files : Files) (text : List ℕ) (s : Status) (m : Parts) (a : Answer Fraction) (place : ℕ)
    → Prints words files text s → Reports words files text m (Cleared a) place → HasOffsetsWithin m a.duals → zero ≤ℚ a.money.surplus

-- ---- infeasible
-- where infeasible is printed no dispatch qualifies, and the printed duals, which name rows of the market, show it with the printed bound
abbrev pub LawOfInfeasible : Type 0
LawOfInfeasible = (words : List (List ℕ)) (files : Files) (text : List ℕ) (s : Status) (m : Parts) (f : Farkas Fraction) (place : ℕ)
    → Prints words files text s → Reports words files text m (Infeasible f) place
    → ((x : Dispatch) → ¬ (Feasible m x)) × IsFarkas m f

-- ---- replay
-- what an edit of the market as it is then comes to: it is accepted, or refused for this fault
abbrev pub outcome_of_edit : Parts → Edit → StepOutcome Fraction
outcome_of_edit m e = reply_of (answer (judge m e))

-- The text is that of outcomes of the steps, of these alone, and the status goes with them: each edit comes to what it is judged to, of the
-- market as the steps before it edit it, and each clear has an outcome.
pub record IsReplayText (m : Parts) (steps : List Step) (text : List ℕ) (s : Status) : Type 0 where
  pub outcomes : List (StepOutcome Fraction)
  pub fit : OutcomesFit m steps outcomes
  pub text_is : text ≡ replayed m steps outcomes
  pub only : (others : List (StepOutcome Fraction)) → OutcomesFit m steps others → text ≡ replayed m steps others → others ≡ outcomes
  pub status_is : s ≡ replay_status outcomes
  pub edits : (k : ℕ) (e : Edit) → slice_get steps k ≡ Some (step.Edit e) → slice_get outcomes k ≡ Some (outcome_of_edit (edited_by m (take k steps)) e)
  pub clears : (k : ℕ) → slice_get steps k ≡ Some step.Clear → (o : Outcome Fraction) × (slice_get outcomes k ≡ Some (reply.Clear o))

abbrev pub LawOfReplay : Type 0
LawOfReplay = (words : List (List ℕ)) (files : Files) (text : List ℕ) (s : Status) (m : Parts) (steps : List Step)
    → Prints words files text s → AsksSteps files words m steps → IsReplayText m steps text s

-- ---- complete
-- a market that is to be cleared is reported, with the status of its outcome
pub record IsReported (m : Parts) (text : List ℕ) (s : Status) : Type 0 where
  pub outcome : Outcome Fraction
  pub fits : OutcomeFitsReport m outcome
  pub text_is : text ≡ report_text m outcome
  pub status_is : s ≡ status_of outcome

-- and over rows that are reached from those with which a clear begins, where no working pair passes the bound of its numbers, as where all numbers that it
-- may have to write down are within it, what is reported of it is cleared where some dispatch qualifies, and infeasible where none does
pub record IsDecidedFrom (words : List (List ℕ)) (files : Files) (text : List ℕ) (m : Parts) (o : Outcome Fraction) (place : ℕ) : Type 0 where
  pub taken : List Row
  pub bound : ℕ
  pub begins : BeginsWith words files text m place taken bound
  pub fits : AllNumbersFit m taken bound → IsDecided m o
  pub decided : NoPairPasses m taken bound → IsDecided m o

abbrev pub LawOfComplete : Type 0
LawOfComplete = (words : List (List ℕ)) (files : Files) (text : List ℕ) (s : Status) → Prints words files text s
    → ((m : Parts) → AsksMarket files words m → IsReported m text s)
    × ((m : Parts) (o : Outcome Fraction) (place : ℕ) → Reports words files text m o place → IsDecidedFrom words files text m o place)

-- ---- bounds
-- Each number of what is reported, a dispatch, a dual, a price, an amount of money or one of two that became too large together, is within the
-- bound that the words ask for.
pub record IsWithinBound (words : List (List ℕ)) (files : Files) (text : List ℕ) (m : Parts) (o : Outcome Fraction) (place : ℕ) : Type 0 where
  pub taken : List Row
  pub bound : ℕ
  pub begins : BeginsWith words files text m place taken bound
  pub within : IsOutcomeWithin bound o

abbrev pub LawOfBounds : Type 0
LawOfBounds = (words : List (List ℕ)) (files : Files) (text : List ℕ) (s : Status) (m : Parts) (o : Outcome Fraction) (place : ℕ)
    → Prints words files text s → Reports words files text m o place → IsWithinBound words files text m o place

-- ---- range
-- Two numbers, each within the bound of the clear's numbers, that are a working pair of the market, over rows that are reached from those with which it
-- begins: the pair passes the bound, on the way to a number that the clear may have to write down and that is above it itself.
pub record IsRangeFrom (words : List (List ℕ)) (files : Files) (text : List ℕ) (m : Parts) (p : Passed Fraction) (place : ℕ) : Type 0 where
  pub taken : List Row
  pub bound : ℕ
  pub begins : BeginsWith words files text m place taken bound
  pub pair : IsRangeOf m taken bound p
  pub sides : ArePassedWithin bound p

-- where range is printed the two printed numbers are so
abbrev pub LawOfRange : Type 0
LawOfRange = (words : List (List ℕ)) (files : Files) (text : List ℕ) (s : Status) (m : Parts) (p : Passed Fraction) (place : ℕ)
    → Prints words files text s → Reports words files text m (Range p) place → IsRangeFrom words files text m p place

-- ---- verify
-- yes where the certificate is true of the market, no with the first reason where it is not, or two numbers of its sums, each within the bound,
-- that pass it together, where no reason of a kind that is looked at before that of their sum holds
pub data IsVerdict (bound : ℕ) (m : Parts) (c : Cert Fraction) (text : List ℕ) : Status → Type 0 where
  yes : IsTrueOf m c → text ≡ codes "yes\n" → IsVerdict bound m c text status.Done
  no : ¬ (IsTrueOf m c) → text ≡ verdict_line (first_reason m c) → IsVerdict bound m c text status.Refuted
  passes : (p : Passed Fraction) → IsCertificateStop m bound c p → ArePassedWithin bound p → text ≡ range_text p → IsVerdict bound m c text status.Range

abbrev pub LawOfVerify : Type 0
LawOfVerify = (words : List (List ℕ)) (files : Files) (text : List ℕ) (s : Status) (m : Parts) (c : Cert Fraction)
    → Prints words files text s → (asks : AsksVerdict files words m c) → IsVerdict (most_of asks.names.bits) m c text s

-- ---- certificate
-- a file has the text of this certificate and nothing more, of which that holds; or it has what it had, where there is no certificate
pub record HasCertificate (holds : List ℕ → Cert Fraction → Type 0) (certificate : Option (Cert Fraction)) (had has : Option (List ℕ)) : Type 0 where
  pub some : (c : Cert Fraction) → certificate ≡ Some c → (has ≡ Some (cert_text c)) × holds (cert_text c) c
  pub none : certificate ≡ None → has ≡ had

-- the file that the words name for it has the certificate of the outcome that is reported, which is read as it is and is true of the market
abbrev pub LawOfCertificate : Type 0
LawOfCertificate = (words : List (List ℕ)) (files later : Files) (text : List ℕ) (s : Status) (names : MarketNames) (file : List ℕ) (m : Parts)
    (o : Outcome Fraction) → (clear : Prints words files text s) → clear.after.files ≡ Some later → AsksClear words names (Some file) → AsksMarket files words m
    → OutcomeFitsReport m o → text ≡ report_text m o → HasCertificate (Certifies (most_of names.bits) m) (cert_of_outcome m.factor_places m.reserve.listed o) (files file) (later file)

-- in a replay, that of the last clear and of the market as the steps before it edit it
abbrev pub LawOfLastCertificate : Type 0
LawOfLastCertificate = (words : List (List ℕ)) (files later : Files) (text : List ℕ) (s : Status) (names : MarketNames) (edits file : List ℕ)
    (r : MarketSteps) (outcomes : List (StepOutcome Fraction)) → (replay : Prints words files text s) → replay.after.files ≡ Some later
    → AsksReplay words names edits (Some file) → AsksToReplay files words (Ok r)
    → OutcomesFit r.market r.steps outcomes → text ≡ replayed r.market r.steps outcomes
    → HasCertificate (CertifiesLast (most_of names.bits) r) (option_and_then (cert_of_outcome r.market.factor_places r.market.reserve.listed) (last_clear None outcomes)) (files file) (later file)

-- ---- round trip
-- of what a clear of a market wrote `verify` says yes against that market, or that numbers are too large
abbrev pub LawOfRoundTrip : Type 0
LawOfRoundTrip = (words again : List (List ℕ)) (files later : Files) (text answer : List ℕ) (s t : Status) (names : MarketNames) (file : List ℕ)
    (m : Parts) (c : Cert Fraction) → (clear : Prints words files text s) → clear.after.files ≡ Some later
    → AsksClear words names (Some file) → AsksMarket files words m
    → (s ≡ status.Done) ⊎ (s ≡ status.Infeasible) → Prints again later answer t → (asks : AsksVerdict later again m c) → asks.certificate ≡ file
    → ((t ≡ status.Done) × (answer ≡ codes "yes\n")) ⊎ (t ≡ status.Range)

-- ---- rights
-- a cleared market is told with an answer that is best, first and priced as above, with prices that are settled, and with numbers within the bound
pub record IsToldAnswer (bound : ℕ) (m : Parts) (a : Answer Fraction) : Type 0 where
  pub greatest : HasGreatestWelfare m (dispatch_in a)
  pub first : IsFirstFor m (all_of m) (dispatch_in a)
  pub priced : IsPriced m a
  pub settled : IsSettledAnswer bound m a
  pub within : IsAnswerWithin bound a

-- Each number that is told is within the bound. The market is cleared as above, and behind the report stand whether limits could carry the rights
-- together and what each is paid by the bus prices that are printed. Where they could, the rights are paid no more than the surplus; where not, the
-- first limit that is broken is told.
-- Or the report stands alone: that nothing qualifies, or two numbers that are a working pair of the market and pass the bound; where no
-- working pair passes, this never comes. Or in place of the lines on rights stand two numbers of a sum of these.
pub data IsEntitled (bound : ℕ) (m : Parts) (rights : List TransmissionRight) (text : List ℕ) : Status → Type 0 where
  rights_fit : (a : Answer Fraction) → IsToldAnswer bound m a
      → ArePaymentsWithin bound (payments_of (total_at (λ x. x) a.prices) rights) → AreFeasibleTogether m rights
      → text ≡ report_text m (Cleared a) ++ rights_lines Fits (payments_of (total_at (λ x. x) a.prices) rights)
      → (payments_of (total_at (λ x. x) a.prices) rights).total ≤ℚ a.money.surplus → IsEntitled bound m rights text status.Done
  rights_break : (a : Answer Fraction) (r : RowId) (flow : Fraction) → IsToldAnswer bound m a → IsFitWithin bound (Breaks r flow)
      → ArePaymentsWithin bound (payments_of (total_at (λ x. x) a.prices) rights) → ¬ (AreFeasibleTogether m rights)
      → IsFit m rights (Breaks r flow) → text ≡ report_text m (Cleared a) ++ rights_lines (Breaks r flow) (payments_of (total_at (λ x. x) a.prices) rights)
      → IsEntitled bound m rights text status.Refuted
  nothing_qualifies : (f : Farkas Fraction) → ((x : Dispatch) → ¬ (Feasible m x)) → IsFarkas m f → IsFarkasWithin bound f → text ≡ report_text m (Infeasible f)
      → IsEntitled bound m rights text status.Infeasible
  clear_passes : (p : Passed Fraction) → IsRangeOf m [] bound p → ArePassedWithin bound p → text ≡ report_text m (Range p)
      → IsEntitled bound m rights text status.Range
  rights_pass : (a : Answer Fraction) (p : Passed Fraction) → IsToldAnswer bound m a
      → IsRightsRefusal m rights (total_at (λ x. x) a.prices) bound p → ArePassedWithin bound p → text ≡ report_text m (Cleared a) ++ range_text p
      → IsEntitled bound m rights text status.Range

abbrev pub LawOfRights : Type 0
LawOfRights = (words : List (List ℕ)) (files : Files) (text : List ℕ) (s : Status) (m : Parts) (rights : List TransmissionRight)
    → Prints words files text s → (asks : AsksHeld files words m rights) → IsEntitled (most_of asks.names.bits) m rights text s

-- ---- migrate
-- what was read of the certificate is written in the version of today, and it is read back as the same
pub record IsWrittenAnew (bound : ℕ) (c : Cert Fraction) (text : List ℕ) (s : Status) (has : Option (List ℕ)) : Type 0 where
  pub done : s ≡ status.Done
  pub said : text ≡ codes "migrated\n"
  pub written : has ≡ Some (cert_text c)
  pub read : cert_read bound (cert_text c) ≡ Ok c

abbrev pub LawOfMigrate : Type 0
LawOfMigrate = (words : List (List ℕ)) (files later : Files) (text : List ℕ) (s : Status) (c : Cert Fraction)
    → (run : Prints words files text s) → run.after.files ≡ Some later → (asks : AsksToMigrate files words (Ok c)) → IsWrittenAnew (most_of asks.bits) c text s (later asks.out)

-- ---- check
-- the residuals of the tables are told, and whether they are within what rounding explains
abbrev pub LawOfCheck : Type 0
LawOfCheck = (words : List (List ℕ)) (files : Files) (text : List ℕ) (s : Status) (inputs : Inputs)
    → Prints words files text s → AsksToCheck files words (Ok inputs)
    → (r : Residuals) × AreResiduals inputs r × (s ≡ check_status_of r) × (text ≡ residuals_text r.bus r.round r.outage_bus r.outage_round)

-- ---- factors
-- The file that is named for the outage factors has the text of their table, and so has that for the shift factors, where it is another one: of
-- one name, the outage factors stand there at the end. Each text is read, over the network, as the table.
pub record HaveTables (names : FactorNames) (network : LiveNetwork) (tables : MadeTables) (files : Files) : Type 0 where
  pub shift : names.lodf_out ≢ Some names.ptdf_out → files names.ptdf_out ≡ Some (factor_table_text column.Bus tables.shift.entries)
  pub loss : (file : List ℕ) (loss : FactorRecords) → names.lodf_out ≡ Some file → tables.loss ≡ Some loss → files file ≡ Some (factor_table_text column.Outage loss.entries)
  pub shift_read : shift_of network (factor_table_text column.Bus tables.shift.entries) names.places ≡ Ok tables.shift
  pub loss_read : (loss : FactorRecords) → tables.loss ≡ Some loss → loss_of network (factor_table_text column.Outage loss.entries) names.places ≡ Ok loss

-- why no tables are made where that is refused
abbrev pub stop_refused : FactorFault → MakeStop Fraction
stop_refused (factor_fault.TooMany count) = make_stop.TooMany count
stop_refused (factor_fault.NotPositive branch) = make_stop.NotPositive branch

-- Each factor of the tables is the nearest to the exact one at the places that were asked for, and it is told how many there are; outage factors
-- are there where a file is named for them. Or no file is touched: there are too many factors or a reactance is not above 0, or two numbers of
-- the exact factors, each within 127 bits, pass these together.
pub data IsFactored (names : FactorNames) (inputs : FactorInputs) (files later : Files) (text : List ℕ) : Status → Type 0 where
  made_tables : (tables : MadeTables) → AreMadeTables inputs (is_some names.lodf_out) names.places tables → text ≡ tables_text tables
      → HaveTables names inputs.network tables later → IsFactored names inputs files later text status.Done
  refused_tables : (fault : FactorFault) → IsFactorsStop (most_of Bits127) inputs (is_some names.lodf_out) names.places (stop_refused fault)
      → text ≡ refusal_line (refusal.Factors fault) → SameFiles (Some files) (Some later) → IsFactored names inputs files later text status.Refused
  passed_tables : (p : Passed Fraction) → IsFactorsStop (most_of Bits127) inputs (is_some names.lodf_out) names.places (make_stop.Passed p) → ArePassedWithin (most_of Bits127) p
      → text ≡ range_text p → SameFiles (Some files) (Some later) → IsFactored names inputs files later text status.Range

abbrev pub LawOfFactors : Type 0
LawOfFactors = (words : List (List ℕ)) (files later : Files) (text : List ℕ) (s : Status) (inputs : FactorInputs)
    → (run : Prints words files text s) → run.after.files ≡ Some later → (asks : AsksForFactors files words (Ok inputs))
    → IsFactored asks.names inputs files later text s

-- ---- check of factors
-- each table has a file of its own, which is none that was read
pub record AreFilesApart (names : FactorNames) : Type 0 where
  pub outputs : names.lodf_out ≢ Some names.ptdf_out
  pub inputs : (file : List ℕ) → IsFactorFile names file → ¬ (IsFactorTable names file)

-- the files of a check of the tables, whose factors have the places that were asked for; shift factors alone are checked without outages
abbrev pub check_of : FactorNames → CheckNames
check_of names = record {
  tables = record { case = names.case; ptdf = names.ptdf_out; lodf = names.lodf_out; contingencies = option_map_or (λ _. names.contingencies) names.lodf_out None };
  places = names.places;
}

-- Words that ask `check` for the tables that were made, with the case and the outages of which they were, find no fault in these files, and are told
-- that all is within what rounding explains.
abbrev pub LawOfFactorCheck : Type 0
LawOfFactorCheck = (words again : List (List ℕ)) (files later : Files) (text answer : List ℕ) (s t : Status) (inputs : FactorInputs)
    → (run : Prints words files text s) → run.after.files ≡ Some later → (asks : AsksForFactors files words (Ok inputs)) → s ≡ status.Done → AreFilesApart asks.names
    → Prints again later answer t → AsksCheck again (check_of asks.names)
    → ((checked : Inputs) × AsksToCheck later again (Ok checked)) × (t ≡ status.Done)

-- ---- faults
-- an edit among the steps that the words ask for is refused
pub record RefusesEdit (words : List (List ℕ)) (files : Files) : Type 0 where
  pub market : Parts
  pub steps : List Step
  pub asks : AsksSteps files words market steps
  pub place : ℕ
  pub edit : Edit
  pub stands : slice_get steps place ≡ Some (step.Edit edit)
  pub fault : EditFault
  pub refused : judge (edited_by market (take place steps)) edit ≡ Some fault

-- tables of factors are asked for, and none are made for this reason, which is told
pub record RefusesFactors (words : List (List ℕ)) (files : Files) (text : List ℕ) : Type 0 where
  pub inputs : FactorInputs
  pub asks : AsksForFactors files words (Ok inputs)
  pub fault : FactorFault
  pub why : IsFactorsStop (most_of Bits127) inputs (is_some asks.names.lodf_out) asks.names.places (stop_refused fault)
  pub told : text ≡ refusal_line (refusal.Factors fault)

-- a fault of the files is told wherever there is one, and no file is touched then; and its status comes only there, for an edit that is refused,
-- or where tables of factors are asked for that are too large or have a reactance not above 0
abbrev pub LawOfFaults : Type 0
LawOfFaults = (words : List (List ℕ)) (files : Files) (text : List ℕ) (s : Status) → (run : Prints words files text s)
    → ((r : Refusal) → IsFirstRefusal words files r → (s ≡ status.Refused) × (text ≡ refusal_line r) × SameFiles (Some files) run.after.files)
    × (s ≡ status.Refused → ((r : Refusal) × IsFirstRefusal words files r × (text ≡ refusal_line r)) ⊎ RefusesEdit words files ⊎ RefusesFactors words files text)

-- ---- make
-- the worth and the surplus of an answer that is told as above, by 127 bits, or two numbers of the ring as above; where no pair passes it is cleared
pub data IsRingText (buses seed : ℕ) (text : List ℕ) : Status → Type 0 where
  cleared_ring : (a : Answer Fraction) → IsToldAnswer (most_of Bits127) (ring_of buses seed) a → text ≡ ring_line buses seed ++ summary a → IsRingText buses seed text status.Done
  range_ring : (p : Passed Fraction) → IsRangeOf (ring_of buses seed) [] (most_of Bits127) p → ArePassedWithin (most_of Bits127) p → text ≡ ring_line buses seed ++ range_text p
      → IsRingText buses seed text status.Range

abbrev pub LawOfMake : Type 0
LawOfMake = (words : List (List ℕ)) (files : Files) (text : List ℕ) (s : Status) (buses seed : ℕ)
    → Prints words files text s → AsksMake words buses seed → IsRingText buses seed text s

-- ---- outside
-- no file is touched but those that the words name for writing
pub record TouchesOnly (words : List (List ℕ)) (before after : Outside) : Type 0 where
  pub others : (f h : Files) → before.files ≡ Some f → after.files ≡ Some h → (n : List ℕ) → ¬ (NamesToWrite words n) → h n ≡ f n

abbrev pub LawOfOutside : Type 0
LawOfOutside = (words : List (List ℕ)) (before after : Outside) (s : Status) → Runs words before after s → TouchesOnly words before after

-- ---- answered
-- a run puts a text behind what was put before, and its status is one that comes with a text; or it is that of a failed read, of a failed
-- write or put, or of memory that was refused
abbrev pub LawOfAnswered : Type 0
LawOfAnswered = (words : List (List ℕ)) (before after : Outside) (s : Status) (earlier : List ℕ) → Runs words before after s
    → before.taken ≡ Some earlier → IsSilent s ⊎ (s ≡ status.WriteFailed) ⊎ (HasText s × ((text : List ℕ) × (after.taken ≡ Some (earlier ++ text))))

-- ---- causes
-- a run ends for a failed read only where one of a file that the words name for reading is counted, and for a failed write or put only where one
-- is, of a file that they name for writing or of the text; with every other status no such count moves
abbrev pub LawOfCauses : Type 0
LawOfCauses = (words : List (List ℕ)) (before after : Outside) (s : Status) → Runs words before after s
    → CountsReads words before after s × CountsWrites words before after s

-- ---- cut short
-- the files once one of these bytes is written, and once each of these is, one after another
abbrev pub file_with : Files → List ℕ × List ℕ → Files
file_with files file = λ name. if bytes_eq name file.0 then Some file.1 else files name

abbrev pub files_with : Files → List (List ℕ × List ℕ) → Files
files_with files [] = files
files_with files (file ∷ rest) = files_with (file_with files file) rest

-- The write of one of these files failed: it has what it had, or a beginning of its bytes. Those before it are whole, and every other is as it was.
pub record IsCutAt (written : List (List ℕ × List ℕ)) (files later : Files) : Type 0 where
  pub whole : List (List ℕ × List ℕ)
  pub name : List ℕ
  pub bytes : List ℕ
  pub untouched : List (List ℕ × List ℕ)
  pub stands : written ≡ whole ++ (name, bytes) ∷ untouched
  pub cut : (later name ≡ files_with files whole name) ⊎ ((k : ℕ) × (later name ≡ Some (take k bytes)))
  pub others : (n : List ℕ) → n ≢ name → later n ≡ files_with files whole n

-- What is left where a write or a put failed. A failed write is counted of a file that the words name for writing, nothing is put and no put failed, and
-- the files are written up to one. Or only a failed put is counted: all files are whole, and every other is as it was.
pub data IsLeft (words : List (List ℕ)) (written : List (List ℕ × List ℕ)) (before after : Outside) (files later : Files) : Type 0 where
  left_by_write : (file : List ℕ) → NamesToWrite words file → Rose (before.failed_writes file) (after.failed_writes file) → after.taken ≡ before.taken
      → after.failed_puts ≡ before.failed_puts → IsCutAt written files later → IsLeft words written before after files later
  left_by_put : Still before.failed_writes after.failed_writes → Rose before.failed_puts after.failed_puts → ((n : List ℕ) → later n ≡ files_with files written n)
      → IsLeft words written before after files later

-- Of one answer that was right: a beginning of its text is put, or nothing, and its files are written as far as the run came.
pub record LeavesBeginning (words : List (List ℕ)) (before after : Outside) (s : Status) : Type 0 where
  pub right : Answers words before after s
  pub begun : (earlier now : List ℕ) → before.taken ≡ Some earlier → after.taken ≡ Some now → (k : ℕ) × (now ≡ earlier ++ take k right.telling.text)
  pub written : (files later : Files) → before.files ≡ Some files → after.files ≡ Some later → IsLeft words right.written before after files later

-- Where a read failed or memory was refused, nothing is put and every file is as it was. Where a failed write is counted, nothing is put. Where
-- a write or a put failed, there is a beginning of what is right to tell and to write.
pub record IsCutShort (words : List (List ℕ)) (before after : Outside) (s : Status) : Type 0 where
  pub silent : IsSilent s → LeavesAll before after
  pub unwritten : ¬ (Still before.failed_writes after.failed_writes) → after.taken ≡ before.taken
  pub left : s ≡ status.WriteFailed → LeavesBeginning words before after s

abbrev pub LawOfCutShort : Type 0
LawOfCutShort = (words : List (List ℕ)) (before after : Outside) (s : Status) → Runs words before after s → IsCutShort words before after s

-- ---- missing
-- where a file that the words name for reading is not there, nothing is told
abbrev pub LawOfMissing : Type 0
LawOfMissing = (words : List (List ℕ)) (before after : Outside) (s : Status) (files : Files) (file : List ℕ) → Runs words before after s
    → before.files ≡ Some files → NamesFile words file → files file ≡ None → IsSilent s
