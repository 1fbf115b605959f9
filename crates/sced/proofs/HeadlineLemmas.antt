-- The laws of every run.
use Rattle.std.specs.Prelude.{◌≡◌, ◌≢◌, ◌⊎◌, ℕ, Bool, true, false, if◌then◌else◌, List, [], ◌∷◌, ◌++◌, Option, Some, None, Ok, Err, Result, codes, is_some, length, map, nat_lt, option_and_then, option_map, unwrap_or}
use Rattle.std.proofs.Common.{arith, inl, inr, refl, sym, subst, ap, ◌∙◌, ◌+◌, ◌^◌, ◌<◌}
use Rattle.std.proofs.lemmas.List.Elements.{All-nil}
use Rattle.fraction_theory.specs.Fraction.{Fraction, ◌+ℚ◌}
use Rattle.fraction_theory.specs.Order.{◌≤ℚ◌}
use Rattle.fraction_theory.specs.Sums.{sum_by}
use Rattle.exact_fraction.specs.declared.Passed.{Passed}
use Rattle.number_bits.specs.Bits.{most_of}
use Rattle.number_bits.specs.declared.NumberBits.TheVariants.{Bits127}
use Rattle.outside_store.specs.Files.{Files, SameFiles}
use Rattle.market_model.specs.declared.answered.Answer.{Answer}
use Rattle.market_model.specs.declared.answered.Outcome.{Outcome}
use Rattle.market_model.specs.declared.answered.Outcome.TheVariants as outcome
use Rattle.market_model.specs.declared.answered.ReservePay.{ReservePay}
use Rattle.market_model.specs.declared.participants.Parts.{Parts}
use Rattle.market_model.specs.declared.participants.TransmissionRight.{TransmissionRight}
use Rattle.rights_test.specs.declared.right_parts.Fit.TheVariants as fit
use Rattle.market_model.specs.Dispatch.{Dispatch, zero}
use Rattle.market_model.specs.LimitRows.{flow}
use Rattle.market_model.specs.Laws.{LawOfItsSign, LawOfTheReserve}
use Rattle.market_model.specs.Market.{IsMarket}
use Rattle.market_model.specs.Optimality.{all_of, welfare}
use Rattle.market_model.specs.Reserves.{offer_places}
use Rattle.market_model.specs.RightAnswers.{IsRight, dispatch_in}
use Rattle.market_model.specs.Settlement.{pay_of_reserve, surplus}
use Rattle.market_model.proofs.FarkasLaw.{law_of_infeasibility}
use Rattle.market_model.proofs.Optimum.{law_of_the_optimum, law_of_the_surplus}
use Rattle.market_system.specs.Ties.{IsFirstFor}
use Rattle.market_system.specs.WorkingPairs.{IsRangeOf}
use Rattle.market_system.proofs.Completeness.{law_of_completeness, law_of_the_numbers, right_by}
use Rattle.one_dispatch.specs.Laws as dispatches
use Rattle.market_data.specs.declared.scales.FactorPlaces.{FactorPlaces}
use Rattle.net_case.specs.declared.live_parts.PostRating.{PostRating}
use Rattle.case_maker.specs.Rings.{ring_of}
use Rattle.factor_maker.specs.declared.stops.MakeStop.{MakeStop}
use Rattle.factor_maker.specs.declared.stops.MakeStop.TheVariants as make_stop
use Rattle.record_reading.specs.Steps.{or_as}
use Rattle.cert_format.specs.Certificates.{CertFits, NamesFit, RowsAreDistinct, cert_of_outcome}
use Rattle.cert_format.specs.Grammar.{cert_read}
use Rattle.cert_format.specs.Written.{cert_text, certificate_of}
use Rattle.cert_format.specs.declared.certificate.Cert.{Cert}
use Rattle.cert_format.specs.declared.certificate.Cert.TheVariants as cert
use Rattle.cert_format.specs.declared.certificate.Key.{Key}
use Rattle.cert_format.proofs.CertLemmas.{numbers-more, reads-back}
use Rattle.cert_format.proofs.InverseLemmas.{cert_read-distinct, cert_read-fits}
use Rattle.cert_format.proofs.SameLemmas.{law_of_migrated_texts}
use Rattle.cert_verify.specs.Certificates.{IsTrueOf, first_reason}
use Rattle.cert_verify.specs.Reasons.{verdict_of}
use Rattle.cert_verify.specs.declared.verdicts.Reason.{Reason}
use Rattle.cert_verify.proofs.LawLemmas.{law_of_the_verdict}
use Rattle.edit_table.specs.declared.Step.{Step}
use Rattle.edit_replay.specs.Replays.{edited_by}
use Rattle.report_text.specs.Reports.{range_text}
use Rattle.report_text.proofs.OutcomeReading.{outcome_fits, reports_apart}
use Rattle.replay_text.proofs.ReplayReading.{replays_read_apart}
use Rattle.settled_answer.specs.Laws as prices
use Rattle.settled_answer.specs.Settled.{IsSettledAnswer}
use Rattle.settled_replay.specs.Laws.{LawOfOneReport}
use Rattle.settled_replay.proofs.StepLemmas.{right_replies}
use Rattle.command_answers.proofs.ReplayLemmas.{replies_fit}
use Rattle.refusal_text.specs.Refusals.{refusal_line}
use Rattle.refusal_text.specs.declared.refusals.FactorFault.{FactorFault}
use Rattle.refusal_text.specs.declared.refusals.FactorFault.TheVariants as factor_fault
use Rattle.refusal_text.specs.declared.refusals.Input.TheVariants as input
use Rattle.refusal_text.specs.declared.refusals.Refusal.{Refusal}
use Rattle.refusal_text.specs.declared.refusals.Refusal.TheVariants as refusal
use Rattle.market_inputs.specs.Files.{most_file, sized}
use Rattle.market_inputs.specs.Replaying.{certificate_in}
use Rattle.market_inputs.specs.Steps.{Is, Onward, Then}
use Rattle.market_inputs.specs.declared.checking.Inputs.{Inputs}
use Rattle.market_inputs.specs.declared.making.FactorInputs.{FactorInputs}
use Rattle.command_words.specs.Words.{AsksClear, AsksMigrate, AsksReplay, MarketNames, NamesToWrite}
use Rattle.command_words.proofs.WordsLemmas.{clears-once, replays-once}
use Rattle.command_answers.specs.Bounds.{ArePassedWithin, IsAnswerWithin}
use Rattle.command_answers.specs.Clearing.{TellsClear, status_of}
use Rattle.residual_text.specs.ResidualLines.{residuals_text}
use Rattle.command_answers.specs.Checking.{AreResiduals, TellsCheck, are_within, check_status_of}
use Rattle.command_answers.specs.declared.checking.Residuals.{Residuals}
use Rattle.market_tables.specs.Tables.{MarketTexts}
use Rattle.command_answers.specs.Inputs.{IsCertified, MarketCertificate, MarketRights, MarketSteps}
use Rattle.command_answers.specs.Making.{MakesTo}
use Rattle.command_answers.specs.Making as making
use Rattle.command_answers.specs.Migrating.{TellsMigration}
use Rattle.command_answers.specs.Replaying.{TellsReplay, last_clear}
use Rattle.command_answers.specs.Rights.{TellsFit, TellsOutcome, TellsRights, fitted}
use Rattle.command_answers.specs.Rights as answers
use Rattle.command_answers.specs.Tellings.{ComesTo, Telling, Tells, certified, refusal_of, tabled, uncertified}
use Rattle.command_answers.specs.declared.told.Outputs.{Outputs}
use Rattle.command_answers.specs.Factors.{MakesFactors}
use Rattle.command_answers.specs.Factors as making_factors
use Rattle.command_answers.specs.Verdicts.{verdict_line}
use Rattle.command_answers.specs.Verifying.{TellsVerdict, VerifiesTo, judged, passed, verdict_status}
use Rattle.command_answers.specs.declared.status.Status.{Status}
use Rattle.command_answers.specs.declared.status.Status.TheVariants as status
use Rattle.sced.specs.Asked.{AsksForFactors, AsksMarket, AsksSteps, AsksVerdict, as_clear, as_pool, clear_bound}
use Rattle.sced.specs.Headline.{HasCertificate, IsAsked, HasGreatestWelfare, IsFirstRefusal, IsRingText, IsPriced, IsToldAnswer, IsReplayText, IsReported, IsVerdict, IsWithinBound, LawOfAsked, LawOfBounds, LawOfCertificate, LawOfCheck, LawOfCleared, LawOfComplete, LawOfFaults, LawOfFirstDispatch, LawOfFirstPrices, LawOfInfeasible, LawOfLastCertificate, LawOfMake, LawOfOneDispatch, LawOfOneSetOfPrices, LawOfOutside, LawOfRange, LawOfReplay, LawOfRoundTrip, LawOfSurplus, LawOfVerify, RefusesEdit, RefusesFactors, TellSame, cleared_ring, for_check, for_clear, for_factors, for_holders, for_migration, for_nothing, for_rights, for_ring, for_steps, for_tables, for_verdict, no, passes, range_ring, to_check, to_clear, to_migrate, to_replay, to_verify, with_fault, yes}
use Rattle.sced.specs.Runs.{KeepsWrites, Outside}
use Rattle.sced.specs.Runs as ending
use Rattle.sced.specs.Told.{Answers, AnswersTo, checked, cleared, entitled, factored, made, migrated, named_bytes, named_outputs, pooled, refused, replayed, verified}
use Rattle.command_files.specs.Standing.{AreCheckFiles, AreClearFiles, AreFactorFiles, ArePoolFiles, AreReplayFiles, AreRightsFiles, AreVerifyFiles, IsMigratedFile, TellsFactorsOf}
use Rattle.command_answers.specs.Laws.{Certifies, CertifiesLast, IsYesOrRange}
use Rattle.command_answers.proofs.RoundTripLemmas.{law_of_the_replay, law_of_the_round_trip, law_of_yes}
use Rattle.sced.proofs.AskedLemmas.{check-told, clear-told, factors-told, make-told, migrate-told, no-other, not-refused, replay-told, rights-told, verify-told}
use Rattle.sced.proofs.FailureLemmas.{silent-or}
use Rattle.sced.proofs.RunLemmas.{IsPrinted, cleared-at, edit-at, printed, refused-at, refused-status, reported}

-- ---- cleared and infeasible
-- a sum over what is made of each
sum_by-map : {S T : Type 0} (f : T → Fraction) (g : S → T) (xs : List S) → sum_by f (map g xs) ≡ sum_by (λ x. f (g x)) xs
sum_by-map f g [] = refl
sum_by-map f g (x ∷ xs) = ap (λ t. f (g x) +ℚ t) (sum_by-map f g xs)

pub right-best : LawOfTheReserve → (m : Parts) (a : Answer Fraction) → IsMarket m → IsRight m a → HasGreatestWelfare m (dispatch_in a) × IsPriced m a
unfolding surplus
right-best law_of_reserve m a market right = (
  record {
    offered = right.feasible.blocks;
    balances = right.feasible.balanced;
    within = right.feasible.limits;
    need = right.feasible.need;
    rooms = right.feasible.rooms;
    greatest = λ y feasible. law_of_the_optimum m a.duals (dispatch_in a) y market right.feasible right.supported feasible;
  },
  record {
    prices = ap (λ (b : Answer Fraction). b.prices) right.made;
    supported = right.supported;
    proper = right.proper;
    worth = ap (λ (b : Answer Fraction). b.welfare) right.made;
    money = ap (λ (b : Answer Fraction). b.money) right.made;
    surplus = ap (λ (b : Answer Fraction). b.money.surplus) right.made ∙ law_of_the_surplus m a.duals (dispatch_in a) market right.feasible right.supported;
    reserve_paid = ap (λ (b : Answer Fraction). sum_by (λ (p : ReservePay Fraction). p.paid) b.money.reserve) right.made
        ∙ sum_by-map (λ (p : ReservePay Fraction). p.paid) (pay_of_reserve (dispatch_in a) a.duals) (offer_places m)
        ∙ law_of_reserve m a.duals (dispatch_in a) market right.feasible right.supported;
  },
)

pub law_of_cleared : LawOfTheReserve → LawOfCleared
law_of_cleared law_of_reserve words files text s m a place prints reports =
    let is = reported words files text s m (outcome.Cleared a) place _ (printed words files text s prints) reports in
    right-best law_of_reserve m a is.market is.right.0

-- ---- which dispatch
pub law_of_first_dispatch : LawOfFirstDispatch
law_of_first_dispatch words files text s m a place prints reports =
    let is = reported words files text s m (outcome.Cleared a) place _ (printed words files text s prints) reports in
    is.right.1

-- right answers of one dispatch
tell-same : (m : Parts) (a b : Answer Fraction) → IsRight m a → IsRight m b → dispatch_in a ≡ dispatch_in b → TellSame m a b
tell-same m a b right other same = record {
  dispatch = ap (λ (x : Dispatch). x.blocks) same;
  reserve = ap (λ (x : Dispatch). x.reserve) same;
  flows = λ r. ap (λ (x : Dispatch). flow m x r) same;
  welfare = ap (λ (c : Answer Fraction). c.welfare) right.made ∙ ap (welfare m) same ∙ sym (ap (λ (c : Answer Fraction). c.welfare) other.made);
}

pub law_of_one_dispatch : dispatches.LawOfOneDispatch → LawOfOneDispatch
law_of_one_dispatch law words others files beside text told s t m a b place at prints reports prints_too reports_too =
    let is = reported words files text s m (outcome.Cleared a) place _ (printed words files text s prints) reports in
    let too = reported others beside told t m (outcome.Cleared b) at _ (printed others beside told t prints_too) reports_too in
    tell-same m a b is.right.0 too.right.0 (law m (all_of m) (dispatch_in a) (dispatch_in b) is.right.1 too.right.1)

-- ---- which prices
pub law_of_first_prices : prices.LawOfFirstPrices → prices.LawOfAllPriceNumbers → LawOfFirstPrices
law_of_first_prices law numbers words files text s m a place prints reports =
    let is = reported words files text s m (outcome.Cleared a) place _ (printed words files text s prints) reports in
    let told = law is.bound m (outcome.Cleared a) is.taken is.bound is.right is.settled in
    record {
      taken = is.taken;
      bound = is.bound;
      begins = is.begins;
      settled = is.settled;
      fits = λ fit. told (numbers m is.bound fit);
      first = told;
    }

pub law_of_one_set_of_prices : LawOfOneReport → LawOfOneSetOfPrices
law_of_one_set_of_prices law words others files beside text told s t m a b place at prints reports prints_too reports_too first first_too =
    let is = reported words files text s m (outcome.Cleared a) place _ (printed words files text s prints) reports in
    let too = reported others beside told t m (outcome.Cleared b) at _ (printed others beside told t prints_too) reports_too in
    law m is.bound too.bound is.taken too.taken a b is.market is.right too.right first first_too

-- ---- surplus
pub law_of_surplus : LawOfItsSign → LawOfSurplus
unfolding surplus
law_of_surplus law_of_its_sign words files text s m a place prints reports within =
    let is = reported words files text s m (outcome.Cleared a) place _ (printed words files text s prints) reports in
    let right : IsRight m a = is.right.0 in
    subst (λ (x : Fraction). zero ≤ℚ x) (sym (ap (λ (b : Answer Fraction). b.money.surplus) right.made))
    (law_of_its_sign m a.duals (dispatch_in a) is.market right.feasible right.supported within)

pub law_of_infeasible : LawOfInfeasible
law_of_infeasible words files text s m f place prints reports =
    let is = reported words files text s m (outcome.Infeasible f) place _ (printed words files text s prints) reports in
    ((λ x. law_of_infeasibility m f.duals x is.market is.right.shows), is.right)

-- ---- bounds
pub law_of_bounds : LawOfBounds
law_of_bounds words files text s m o place prints reports =
    let is = reported words files text s m o place _ (printed words files text s prints) reports in
    record { taken = is.taken; bound = is.bound; begins = is.begins; within = is.within }

-- ---- range
pub law_of_range : LawOfRange
law_of_range words files text s m p place prints reports =
    let is = reported words files text s m (outcome.Range p) place _ (printed words files text s prints) reports in
    record { taken = is.taken; bound = is.bound; begins = is.begins; pair = is.right; sides = is.within }

-- ---- complete
market-reported : (bound : ℕ) (m : Parts) (t : Telling) (text : List ℕ) (s : Status) → t.text ≡ text → t.status ≡ s → TellsClear bound m t → IsReported m text s
market-reported bound m t text s words ends (market, clears) = record {
  outcome = clears.outcome;
  fits = outcome_fits _ m clears.outcome (right_by bound m [] clears.outcome clears.right);
  text_is = sym words ∙ clears.told.text_is;
  status_is = sym ends ∙ clears.told.status_is;
}

pub law_of_complete : LawOfComplete
law_of_complete words files text s prints =
    let p = printed words files text s prints in (
      λ m asks. market-reported (clear_bound asks) m p.telling text s p.text_is p.status_is (clear-told files words p.telling p.written (Ok m) p.answers asks),
      λ m o place reports. (let is = reported words files text s m o place _ p reports in
          record {
            taken = is.taken;
            bound = is.bound;
            begins = is.begins;
            fits = λ fit. law_of_completeness m is.taken is.bound o is.market (law_of_the_numbers m is.taken is.bound fit) is.right;
            decided = λ none. law_of_completeness m is.taken is.bound o is.market none is.right;
          }),
    )

-- ---- replay
steps-replayed : (bound : ℕ) (m : Parts) (steps : List Step) (t : Telling) (text : List ℕ) (s : Status) → t.text ≡ text → t.status ≡ s → TellsReplay bound (record { market = m; steps = steps }) t → IsReplayText m steps text s
steps-replayed bound m steps t text s words ends (market, replays) =
    let right = right_replies bound m [] replays.taken steps replays.outcomes replays.right in
    let fit = replies_fit bound m steps replays.outcomes right in
    let is = sym words ∙ replays.told.text_is in
    record {
      outcomes = replays.outcomes;
      fit = fit;
      text_is = is;
      only = λ others fits same. replays_read_apart m steps others replays.outcomes fits fit (sym same ∙ is);
      status_is = sym ends ∙ replays.told.status_is;
      edits = λ k e at. edit-at bound m steps replays.outcomes k e right at;
      clears = λ k at. cleared-at bound m steps replays.outcomes k right at;
    }

pub law_of_replay : LawOfReplay
law_of_replay words files text s m steps prints asks =
    let p = printed words files text s prints in
    steps-replayed (most_of asks.names.bits) m steps p.telling text s p.text_is p.status_is (replay-told files words p.telling p.written (Ok (record { market = m; steps = steps })) p.answers asks)

-- ---- asked
-- what is told of files is told of what they stand for, or of their first fault
asked-of : {A : Type 0} (words : List (List ℕ)) (files : Files) (s : Status) (t : Telling) (stand : Result A Refusal → Type 0) (right : A → Telling → Type 0) → ((x : A) → stand (Ok x) → IsAsked words files s)
    → ((r : Refusal) → stand (Err r) → IsFirstRefusal words files r) → Tells stand right t → IsAsked words files s
asked-of {A} words files s t stand right asks fault tells = by tells.told tells.stands
  where
    by : (r : Result A Refusal) → stand r → IsAsked words files s
    by (Ok x) stands = asks x stands
    by (Err r) stands = with_fault s r (fault r stands)

asked-told : (words : List (List ℕ)) (files : Files) (s : Status) (t : Telling) (w : List (List ℕ × List ℕ)) → t.status ≡ s → AnswersTo (Some files) words t w → IsAsked words files s
asked-told words files s t _ ends (refused nothing usage) = subst (IsAsked words files) (sym usage ∙ ends) (for_nothing nothing)
asked-told words files s t _ ends (pooled case offers asked tells) =
    asked-of words files s t (ArePoolFiles files case offers) (TellsClear (most_of Bits127)) (λ m stands. for_clear s m (as_pool case offers asked stands)) (λ r stands. to_clear (as_pool case offers asked stands)) tells
asked-told words files s t _ ends (cleared names file asked tells) =
    asked-of words files s t (AreClearFiles files names) (TellsClear (most_of names.bits)) (λ m stands. for_clear s m (as_clear names file asked stands)) (λ r stands. to_clear (as_clear names file asked stands)) tells
asked-told words files s t _ ends (replayed names edits file asked tells) =
    asked-of words files s t (AreReplayFiles files names edits) (TellsReplay (most_of names.bits))
    (λ r stands. for_steps s r.market r.steps (record { names = names; edits = edits; certificate = file; asks = asked; stand = stands }))
    (λ r stands. to_replay (record { names = names; edits = edits; certificate = file; asks = asked; stand = stands })) tells
asked-told words files s t _ ends (verified names edits certificate asked tells) =
    asked-of words files s t (AreVerifyFiles files names edits certificate) (TellsVerdict (most_of names.bits))
    (λ v stands. for_verdict s v.market v.certificate (record { names = names; edits = edits; certificate = certificate; asks = asked; stand = stands }))
    (λ r stands. to_verify (record { names = names; edits = edits; certificate = certificate; asks = asked; stand = stands })) tells
asked-told words files s t _ ends (entitled names held asked tells) =
    asked-of words files s t (AreRightsFiles files names held) (TellsRights (most_of names.bits)) (λ r stands. for_holders s r.market r.rights (record { names = names; rights = held; asks = asked; stand = stands }))
    (λ r stands. for_rights (record { names = names; rights = held; asks = asked; stand = stands })) tells
asked-told words files s t _ ends (migrated old out bits asked tells) =
    asked-of words files s t (IsMigratedFile files old bits) TellsMigration (λ c stands. for_migration s c (record { certificate = old; out = out; bits = bits; asks = asked; stand = stands }))
    (λ r stands. to_migrate (record { certificate = old; out = out; bits = bits; asks = asked; stand = stands })) tells
asked-told words files s t _ ends (checked names asked tells) =
    asked-of words files s t (AreCheckFiles files names) TellsCheck (λ inputs stands. for_check s inputs (record { names = names; asks = asked; stand = stands }))
    (λ r stands. to_check (record { names = names; asks = asked; stand = stands })) tells
asked-told words files s t _ ends (factored names asked tells) =
    asked-of words files s t (AreFactorFiles files names) (TellsFactorsOf names) (λ inputs stands. for_tables s inputs (record { names = names; asks = asked; stand = stands }))
    (λ r stands. for_factors (record { names = names; asks = asked; stand = stands })) tells
asked-told words files s t _ ends (made buses seed asked makes) = for_ring s buses seed asked

pub law_of_asked : LawOfAsked
law_of_asked words files text s prints =
    let p = printed words files text s prints in
    asked-told words files s p.telling p.written p.status_is p.answers

-- ---- verify
-- a certificate that stands with a market is read of its text
seen-certificate : (r : Result (Cert Fraction) Key) (c : Cert Fraction) → or_as refusal.Certificate r ≡ Ok c → r ≡ Ok c
seen-certificate (Ok x) c is = cc is
seen-certificate (Err e) c is = cc is

sized-read : (bound : ℕ) (long : Bool) (too_long : Refusal) (bytes : List ℕ) (c : Cert Fraction) → certificate_in bound (if long then Err too_long else Ok bytes) ≡ Ok c → cert_read bound bytes ≡ Ok c
sized-read bound true too_long bytes c is = cc is
sized-read bound false too_long bytes c is = seen-certificate (cert_read bound bytes) c is

pub read-in : (bound : ℕ) (too_long : Refusal) (bytes : List ℕ) (c : Cert Fraction) → certificate_in bound (sized too_long bytes) ≡ Ok c → cert_read bound bytes ≡ Ok c
unfolding sized
read-in bound too_long bytes c is = sized-read bound (nat_lt most_file (length bytes)) too_long bytes c is

abbrev certificate_or : Cert Fraction → Result MarketCertificate Refusal → Cert Fraction
certificate_or c (Ok stood) = stood.certificate
certificate_or c (Err r) = c

certified-read : (bound : ℕ) (rating : PostRating) (places : FactorPlaces) (t : MarketTexts) (edits certificate : List ℕ) (m : Parts) (c : Cert Fraction) → IsCertified bound rating places t edits certificate (Ok (record { market = m; certificate = c })) → cert_read bound certificate ≡ Ok c
certified-read bound rating places t edits certificate m c h = first h.made h.rest
  where
    second : (stepped : MarketSteps) (made : Result (Cert Fraction) Refusal) → certificate_in bound (sized (refusal.TooLong input.Certificate) certificate) ≡ made
        → Onward {B = MarketCertificate} made (λ read. Is (Ok (record { market = edited_by stepped.market stepped.steps; certificate = read }))) (Ok (record { market = m; certificate = c })) → cert_read bound certificate ≡ Ok c
    second stepped (Ok read) is rest = let same : read ≡ c = ap (certificate_or c) rest in read-in bound (refusal.TooLong input.Certificate) certificate c (is ∙ ap Ok same)
    second stepped (Err r) is rest = cc rest

    first : (made : Result MarketSteps Refusal) → Onward {B = MarketCertificate} made (λ stepped. Then (Is (certificate_in bound (sized (refusal.TooLong input.Certificate) certificate))) (λ read. Is (Ok (record { market = edited_by stepped.market stepped.steps; certificate = read }))))
        (Ok (record { market = m; certificate = c })) → cert_read bound certificate ≡ Ok c
    first (Ok stepped) rest = second stepped rest.made rest.is rest.rest
    first (Err r) rest = cc rest

asked-read : (files : Files) (words : List (List ℕ)) (m : Parts) (c : Cert Fraction) (asks : AsksVerdict files words m c) → cert_read (most_of asks.names.bits) asks.stand.certificate ≡ Ok c
asked-read files words m c asks = certified-read (most_of asks.names.bits) asks.names.rating asks.names.places asks.stand.texts asks.stand.edits asks.stand.certificate m c asks.stand.certified

verdict-line-yes : verdict_line None ≡ codes "yes\n"
unfolding verdict_line
verdict-line-yes = refl

module _ (bound : ℕ) (m : Parts) (c : Cert Fraction) (apart : RowsAreDistinct c) (text : List ℕ) where
  no-yes : (why : Reason) → verdict_of (Some why) ≡ verdict_of None → ⊥
  no-yes why bad = cc bad

  verdict-by : (r : Option Reason) → first_reason m c ≡ r → text ≡ verdict_line r → IsVerdict bound m c text (verdict_status r)
  verdict-by None is line = yes ((law_of_the_verdict m c apart).0 (ap verdict_of is)) (line ∙ verdict-line-yes)
  verdict-by (Some why) is line = no (λ holds. no-yes why (sym (ap verdict_of is) ∙ (law_of_the_verdict m c apart).1 holds)) (line ∙ ap verdict_line (sym is))

  verdict-of : (t : Telling) (s : Status) → t.text ≡ text → t.status ≡ s → VerifiesTo bound m c t → IsVerdict bound m c text s
  verdict-of t s words ends (judged is) =
      let line = sym words ∙ ap (λ (x : Telling). x.text) is in
      subst (IsVerdict bound m c text) (sym (ap (λ (x : Telling). x.status) is) ∙ ends) (verdict-by (first_reason m c) refl line)
  verdict-of t s words ends (passed p pair within is) =
      let line = sym words ∙ ap (λ (x : Telling). x.text) is in
      subst (IsVerdict bound m c text) (sym (ap (λ (x : Telling). x.status) is) ∙ ends) (passes p pair within line)

pub law_of_verify : LawOfVerify
law_of_verify words files text s m c prints asks =
    let p = printed words files text s prints in
    let told = verify-told files words p.telling p.written (Ok (record { market = m; certificate = c })) p.answers asks in
    verdict-of (most_of asks.names.bits) m c (cert_read-distinct (most_of asks.names.bits) asks.stand.certificate c (asked-read files words m c asks)) text p.telling s p.text_is p.status_is told.1

-- ---- round trip
-- what is written of a clear is its certificate, where a file is named for it
clear-written : (files : Files) (words : List (List ℕ)) (t : Telling) (w : List (List ℕ × List ℕ)) (names : MarketNames) (file : Option (List ℕ)) → AsksClear words names file → AnswersTo (Some files) words t w → w ≡ named_outputs (certified file) t.outputs
clear-written files words t _ names file asks (cleared names' file' asked told) = ap (λ f. named_outputs (certified f) t.outputs) (clears-once words names' names file' file asked asks).1
clear-written files words t _ names file asks (refused nothing usage) = absurd (not-refused words _ asks.rows nothing asks.enters)
clear-written files words t _ names file asks (pooled case offers asked told) = absurd (no-other words (codes "pool") (codes "clear") asked.rows asks.rows refl asked.enters asks.enters)
clear-written files words t _ names file asks (replayed names' edits file' asked told) = absurd (no-other words (codes "replay") (codes "clear") asked.rows asks.rows refl asked.enters asks.enters)
clear-written files words t _ names file asks (verified names' edits certificate asked told) = absurd (no-other words (codes "verify") (codes "clear") asked.rows asks.rows refl asked.enters asks.enters)
clear-written files words t _ names file asks (entitled names' held asked told) = absurd (no-other words (codes "rights") (codes "clear") asked.rows asks.rows refl asked.enters asks.enters)
clear-written files words t _ names file asks (migrated old out bits asked told) = absurd (no-other words (codes "migrate") (codes "clear") asked.rows asks.rows refl asked.enters asks.enters)
clear-written files words t _ names file asks (checked names' asked told) = absurd (no-other words (codes "check") (codes "clear") asked.rows asks.rows refl asked.enters asks.enters)
clear-written files words t _ names file asks (factored names' asked told) = absurd (no-other words (codes "factors") (codes "clear") asked.rows asks.rows refl asked.enters asks.enters)
clear-written files words t _ names file asks (made buses seed asked told) = absurd (no-other words (codes "make") (codes "clear") asked.rows asks.rows refl asked.enters asks.enters)

has-certificate : (places : FactorPlaces) (listed : Bool) (o : Outcome Fraction) → (status_of o ≡ status.Done) ⊎ (status_of o ≡ status.Infeasible) → (bytes : List ℕ) × (certificate_of places listed o ≡ Some bytes)
has-certificate places listed (outcome.Cleared a) is = (_, refl)
has-certificate places listed (outcome.Infeasible f) is = (_, refl)
has-certificate places listed (outcome.Range p) (inl is) = cc is
has-certificate places listed (outcome.Range p) (inr is) = cc is

told-certificate : (bound : ℕ) (m : Parts) (t : Telling) (s : Status) → t.status ≡ s → (s ≡ status.Done) ⊎ (s ≡ status.Infeasible) → TellsClear bound m t → (bytes : List ℕ) × (t.outputs.certificate ≡ Some bytes)
told-certificate bound m t s ends which (market, clears) =
    let is = sym clears.told.status_is ∙ ends in
    let some = has-certificate m.factor_places m.reserve.listed clears.outcome (subst (λ (x : Status). (x ≡ status.Done) ⊎ (x ≡ status.Infeasible)) (sym is) which) in
    (some.0, ap (λ (o : Outputs (List ℕ)). o.certificate) clears.told.certificate_is ∙ some.1)

-- a file has this text, or what it had where there is none
abbrev HasFileText : Option (List ℕ) → Option (List ℕ) → Option (List ℕ) → Type 0
HasFileText (Some text) had has = has ≡ Some text
HasFileText None had has = has ≡ had

pub kept-one : (files later : Files) (file bytes : List ℕ) → KeepsWrites ⊥ ((file, bytes) ∷ []) (Some files) (Some later) → later file ≡ Some bytes
kept-one files later file bytes (inl (never, wrote)) = absurd never
kept-one files later file bytes (inr (Some between, wrote, (fine, same))) = same file ∙ wrote.done (λ never. never)
kept-one files later file bytes (inr (None, wrote, (fine, same))) = elim wrote [ ]

kept-certificate : (w : List (List ℕ × List ℕ)) (files later : Files) (file bytes : List ℕ) (after : Option Files) → w ≡ (file, bytes) ∷ [] → after ≡ Some later → KeepsWrites ⊥ w (Some files) after → later file ≡ Some bytes
kept-certificate w files later file bytes after is now kept =
    kept-one files later file bytes (subst (λ a. KeepsWrites ⊥ ((file, bytes) ∷ []) (Some files) a) now (subst (λ x. KeepsWrites ⊥ x (Some files) after) is kept))

yes-or-range : (t : Telling) (answer : List ℕ) (s : Status) → t.text ≡ answer → t.status ≡ s → IsYesOrRange t → ((s ≡ status.Done) × (answer ≡ codes "yes\n")) ⊎ (s ≡ status.Range)
yes-or-range t answer s words ends (inl is) = inl (sym ends ∙ ap (λ (x : Telling). x.status) is, sym words ∙ ap (λ (x : Telling). x.text) is)
yes-or-range t answer s words ends (inr is) = inr (sym ends ∙ is)

-- ---- certificate
-- where a file is named for the certificate, it has the one that there is, or what it had
pub kept-as : (files later : Files) (file : List ℕ) (certificate : Option (List ℕ)) (w : List (List ℕ × List ℕ)) (after : Option Files) → w ≡ named_bytes (Some file) certificate [] → after ≡ Some later
    → KeepsWrites ⊥ w (Some files) after → HasFileText certificate (files file) (later file)
kept-as files later file certificate w after is now kept = by certificate (subst (λ a. KeepsWrites ⊥ (named_bytes (Some file) certificate []) (Some files) a) now (subst (λ x. KeepsWrites ⊥ x (Some files) after) is kept))
  where
    by : (c : Option (List ℕ)) → KeepsWrites ⊥ (named_bytes (Some file) c []) (Some files) (Some later) → HasFileText c (files file) (later file)
    by (Some bytes) kept = kept-one files later file bytes kept
    by None (fine, same) = same file

text-of : (certificate : Option (Cert Fraction)) (had has : Option (List ℕ)) (c : Cert Fraction) → certificate ≡ Some c → HasFileText (option_map cert_text certificate) had has → has ≡ Some (cert_text c)
text-of certificate had has c is h = subst (λ x. HasFileText (option_map cert_text x) had has) is h

had-of : (certificate : Option (Cert Fraction)) (had has : Option (List ℕ)) → certificate ≡ None → HasFileText (option_map cert_text certificate) had has → has ≡ had
had-of certificate had has is h = subst (λ x. HasFileText (option_map cert_text x) had has) is h

certificate-kept : (holds : List ℕ → Cert Fraction → Type 0) (certificate : Option (Cert Fraction)) (had has : Option (List ℕ)) → HasFileText (option_map cert_text certificate) had has
    → ((c : Cert Fraction) → certificate ≡ Some c → holds (cert_text c) c) → HasCertificate holds certificate had has
certificate-kept holds certificate had has h each = record {
  some = λ c is. (text-of certificate had has c is h, each c is);
  none = λ is. had-of certificate had has is h;
}

one-certificate : (o : Option (Cert Fraction)) (a b : Cert Fraction) → o ≡ Some a → o ≡ Some b → a ≡ b
one-certificate o a b first second = cc (first, second)

-- a market that the words ask to clear, with these names, is cleared by their bits
clear-bits : (files : Files) (words : List (List ℕ)) (names : MarketNames) (file : Option (List ℕ)) (m : Parts) → AsksClear words names file → (asks : AsksMarket files words m) → clear_bound asks ≡ most_of names.bits
clear-bits files words names file m asked (as_pool case offers asks stands) = absurd (no-other words (codes "pool") (codes "clear") asks.rows asked.rows refl asks.enters asked.enters)
clear-bits files words names file m asked (as_clear names' file' asks stands) = ap (λ (n : MarketNames). most_of n.bits) (clears-once words names' names file' file asks asked).0

pub law_of_certificate : LawOfCertificate
law_of_certificate words files later text s names file m o clear now asked market fits is =
    let p = printed words files text s clear in
    let bound = most_of names.bits in
    let tells = subst (λ b. TellsClear b m p.telling) (clear-bits files words names (Some file) m asked market) (clear-told files words p.telling p.written (Ok m) p.answers market) in
    let fit = outcome_fits _ m tells.1.outcome (right_by bound m [] tells.1.outcome tells.1.right) in
    let same : tells.1.outcome ≡ o = reports_apart m tells.1.outcome o fit fits (sym tells.1.told.text_is ∙ p.text_is ∙ is) in
    let put : p.telling.outputs.certificate ≡ certificate_of m.factor_places m.reserve.listed o = ap (λ (x : Outputs (List ℕ)). x.certificate) tells.1.told.certificate_is ∙ ap (certificate_of m.factor_places m.reserve.listed) same in
    let written = clear-written files words p.telling p.written names (Some file) asked p.answers ∙ ap (λ c. named_bytes (Some file) c []) put in
    certificate-kept (Certifies bound m) (cert_of_outcome m.factor_places m.reserve.listed o) (files file) (later file) (kept-as files later file (certificate_of m.factor_places m.reserve.listed o) p.written clear.after.files written now p.kept)
    (λ c some. (let trip = law_of_the_round_trip bound m p.telling (cert_text c) tells (put ∙ ap (option_map cert_text) some) in
    let one : trip.0 ≡ c = one-certificate (cert_of_outcome m.factor_places m.reserve.listed o) trip.0 c (ap (cert_of_outcome m.factor_places m.reserve.listed) (sym same) ∙ trip.1) some in
    subst (Certifies bound m (cert_text c)) one trip.2))

-- what is written of a replay is its certificate, where a file is named for it
replay-written : (files : Files) (words : List (List ℕ)) (t : Telling) (w : List (List ℕ × List ℕ)) (names : MarketNames) (edits : List ℕ) (file : Option (List ℕ)) → AsksReplay words names edits file → AnswersTo (Some files) words t w
    → w ≡ named_outputs (certified file) t.outputs
replay-written files words t _ names edits file asks (replayed names' edits' file' asked told) = ap (λ f. named_outputs (certified f) t.outputs) (replays-once words names' names edits' edits file' file asked asks).2
replay-written files words t _ names edits file asks (refused nothing usage) = absurd (not-refused words _ asks.rows nothing asks.enters)
replay-written files words t _ names edits file asks (pooled case offers asked told) = absurd (no-other words (codes "pool") (codes "replay") asked.rows asks.rows refl asked.enters asks.enters)
replay-written files words t _ names edits file asks (cleared names' file' asked told) = absurd (no-other words (codes "clear") (codes "replay") asked.rows asks.rows refl asked.enters asks.enters)
replay-written files words t _ names edits file asks (verified names' edits' certificate asked told) = absurd (no-other words (codes "verify") (codes "replay") asked.rows asks.rows refl asked.enters asks.enters)
replay-written files words t _ names edits file asks (entitled names' held asked told) = absurd (no-other words (codes "rights") (codes "replay") asked.rows asks.rows refl asked.enters asks.enters)
replay-written files words t _ names edits file asks (migrated old out bits asked told) = absurd (no-other words (codes "migrate") (codes "replay") asked.rows asks.rows refl asked.enters asks.enters)
replay-written files words t _ names edits file asks (checked names' asked told) = absurd (no-other words (codes "check") (codes "replay") asked.rows asks.rows refl asked.enters asks.enters)
replay-written files words t _ names edits file asks (factored names' asked told) = absurd (no-other words (codes "factors") (codes "replay") asked.rows asks.rows refl asked.enters asks.enters)
replay-written files words t _ names edits file asks (made buses seed asked told) = absurd (no-other words (codes "make") (codes "replay") asked.rows asks.rows refl asked.enters asks.enters)

-- the text of the certificate of an outcome that there may be
text-of-last : (places : FactorPlaces) (listed : Bool) (o : Option (Outcome Fraction)) → option_and_then (certificate_of places listed) o ≡ option_map cert_text (option_and_then (cert_of_outcome places listed) o)
text-of-last places listed None = refl
text-of-last places listed (Some o) = refl

pub law_of_last_certificate : LawOfLastCertificate
law_of_last_certificate words files later text s names edits file r outcomes replay now asked steps fits is =
    let p = printed words files text s replay in
    let bound = most_of names.bits in
    let one_names = (replays-once words steps.names names steps.edits edits steps.certificate (Some file) steps.asks asked).0 in
    let tells = subst (λ (n : MarketNames). TellsReplay (most_of n.bits) r p.telling) one_names (replay-told files words p.telling p.written (Ok r) p.answers steps) in
    let same : tells.1.outcomes ≡ outcomes =
    replays_read_apart r.market r.steps tells.1.outcomes outcomes (replies_fit bound r.market r.steps tells.1.outcomes (right_replies bound r.market [] tells.1.taken r.steps tells.1.outcomes tells.1.right)) fits (sym tells.1.told.text_is ∙ p.text_is ∙ is) in
    let last = last_clear None outcomes in
    let put : p.telling.outputs.certificate ≡ option_map cert_text (option_and_then (cert_of_outcome r.market.factor_places r.market.reserve.listed) last) =
    ap (λ (x : Outputs (List ℕ)). x.certificate) tells.1.told.certificate_is ∙ ap (λ os. option_and_then (certificate_of r.market.factor_places r.market.reserve.listed) (last_clear None os)) same ∙ text-of-last r.market.factor_places r.market.reserve.listed last in
    let written = replay-written files words p.telling p.written names edits (Some file) asked p.answers ∙ ap (λ c. named_bytes (Some file) c []) put in
    certificate-kept (CertifiesLast bound r) (option_and_then (cert_of_outcome r.market.factor_places r.market.reserve.listed) last) (files file) (later file)
    (kept-as files later file (option_map cert_text (option_and_then (cert_of_outcome r.market.factor_places r.market.reserve.listed) last)) p.written replay.after.files written now p.kept)
    (λ c some. (let trip = law_of_the_replay bound r p.telling (cert_text c) tells (put ∙ ap (option_map cert_text) some) in
    let one : trip.0 ≡ c = one-certificate (option_and_then (cert_of_outcome r.market.factor_places r.market.reserve.listed) last) trip.0 c (ap (λ os. option_and_then (cert_of_outcome r.market.factor_places r.market.reserve.listed) (last_clear None os)) (sym same) ∙ trip.1) some in
    subst (CertifiesLast bound r (cert_text c)) one trip.2))

-- the text of a certificate is read as it by whatever bounds
names-in : (most : ℕ) (c : Cert Fraction) → CertFits most c → NamesFit c
names-in most (cert.Optimal blocks energy limits places None) h = record { limits = λ k d lt. (h.numbers.2 k d lt).row; rooms = All-nil (λ d. d.unit < 2 ^ 32) }
names-in most (cert.Optimal blocks energy limits places (Some r)) h = record { limits = λ k d lt. (h.numbers.2 k d lt).row; rooms = λ k d lt. (h.numbers.3.duals.rooms k d lt).unit }
names-in most (cert.Farkas energy limits places None) h = record { limits = λ k d lt. (h.numbers.1 k d lt).row; rooms = All-nil (λ d. d.unit < 2 ^ 32) }
names-in most (cert.Farkas energy limits places (Some d)) h = record { limits = λ k d lt. (h.numbers.1 k d lt).row; rooms = λ k d lt. (h.numbers.2.rooms k d lt).unit }

read-alike : (less more : ℕ) (c d : Cert Fraction) → cert_read less (cert_text c) ≡ Ok c → cert_read more (cert_text c) ≡ Ok d → c ≡ d
read-alike less more c d one other =
    let first = cert_read-fits less (cert_text c) c one in
    let second = cert_read-fits more (cert_text c) d other in
    let text : cert_text d ≡ cert_text c = law_of_migrated_texts more c d (names-in less c first) other in
    let both = less + more in
    let here : cert_read both (cert_text c) ≡ Ok c = reads-back both c (record { numbers = numbers-more less both (omega arith) c first.numbers; distinct = first.distinct }) in
    let there : cert_read both (cert_text d) ≡ Ok d = reads-back both d (record { numbers = numbers-more more both (omega arith) d second.numbers; distinct = second.distinct }) in
    let again : cert_read both (cert_text c) ≡ Ok d = sym (ap (cert_read both) text) ∙ there in
    cc (here, again)

some-text : (a b : List ℕ) → Some a ≡ Some b → a ≡ b
some-text a b is = cc is

pub law_of_round_trip : LawOfRoundTrip
law_of_round_trip words again files later text answer s t names file m c clear now asked market which verify asks same =
    let p = printed words files text s clear in
    let q = printed again later answer t verify in
    let tells = clear-told files words p.telling p.written (Ok m) p.answers market in
    let some = told-certificate (clear_bound market) m p.telling s p.status_is which tells in
    let written = clear-written files words p.telling p.written names (Some file) asked p.answers ∙ ap (λ c. named_bytes (Some file) c []) some.1 in
    let here : later file ≡ Some some.0 = kept-certificate p.written files later file some.0 clear.after.files written now p.kept in
    let there : later file ≡ Some asks.stand.certificate = sym (ap later same) ∙ asks.stand.certificate_is in
    let bytes : asks.stand.certificate ≡ some.0 = cc (here, there) in
    let trip = law_of_the_round_trip (clear_bound market) m p.telling some.0 tells some.1 in
    let bound = most_of asks.names.bits in
    let read : cert_read bound some.0 ≡ Ok c = ap (cert_read bound) (sym bytes) ∙ asked-read later again m c asks in
    let text_is : some.0 ≡ cert_text trip.0 = some-text some.0 (cert_text trip.0) (sym some.1 ∙ ap (λ (x : Outputs (List ℕ)). x.certificate) tells.1.told.certificate_is ∙ ap (option_map cert_text) trip.1) in
    let certificate : trip.0 ≡ c = read-alike (clear_bound market) bound trip.0 c (sym (ap (cert_read (clear_bound market)) text_is) ∙ trip.2.read) (sym (ap (cert_read bound) text_is) ∙ read) in
    yes-or-range q.telling answer t q.text_is q.status_is
    (law_of_yes bound m some.0 c q.telling (record { read = read; holds = subst (IsTrueOf m) certificate trip.2.holds; yes = ap (λ (d : Cert Fraction). verdict_of (first_reason m d)) (sym certificate) ∙ trip.2.yes })
    (verify-told later again q.telling q.written (Ok (record { market = m; certificate = c })) q.answers asks))

-- ---- check
check-of : (inputs : Inputs) (t : Telling) (text : List ℕ) (s : Status) → t.text ≡ text → t.status ≡ s → TellsCheck inputs t
    → (r : Residuals) × AreResiduals inputs r × (s ≡ check_status_of r) × (text ≡ residuals_text r.bus r.round r.outage_bus r.outage_round)
check-of inputs t text s words ends (r, are, is) = (r, are, sym ends ∙ ap (λ (x : Telling). x.status) is, sym words ∙ ap (λ (x : Telling). x.text) is)

pub law_of_check : LawOfCheck
law_of_check words files text s inputs prints asks =
    let p = printed words files text s prints in
    check-of inputs p.telling text s p.text_is p.status_is (check-told files words p.telling p.written (Ok inputs) p.answers asks)

-- ---- faults
-- nothing is written where there are no outputs
no-bytes : (file : Option (List ℕ)) (others : List (List ℕ × List ℕ)) → named_bytes file None others ≡ others
no-bytes (Some name) others = refl
no-bytes None others = refl

pub no-outputs : (names o : Outputs (List ℕ)) → o ≡ certified None → named_outputs names o ≡ []
no-outputs names o none = ap (named_outputs names) none ∙ no-bytes names.ptdf _ ∙ no-bytes names.lodf _ ∙ no-bytes names.certificate []

none-written : (files : Files) (words : List (List ℕ)) (t : Telling) (w : List (List ℕ × List ℕ)) → t.outputs ≡ certified None → AnswersTo (Some files) words t w → w ≡ []
none-written files words t _ none (refused nothing usage) = refl
none-written files words t _ none (pooled case offers asked tells) = refl
none-written files words t _ none (cleared names file asked tells) = no-outputs (certified file) t.outputs none
none-written files words t _ none (replayed names edits file asked tells) = no-outputs (certified file) t.outputs none
none-written files words t _ none (verified names edits certificate asked tells) = refl
none-written files words t _ none (entitled names held asked tells) = refl
none-written files words t _ none (migrated old out bits asked tells) = no-outputs (certified (Some out)) t.outputs none
none-written files words t _ none (checked names asked tells) = refl
none-written files words t _ none (factored names asked tells) = no-outputs (tabled names.ptdf_out names.lodf_out) t.outputs none
none-written files words t _ none (made buses seed asked makes) = refl

module _ (words : List (List ℕ)) (files : Files) (text : List ℕ) (s : Status) (after : Option Files) (p : IsPrinted words files after text s) where
  refusal-put : (r : Refusal) → p.telling ≡ refusal_of r → (s ≡ status.Refused) × (text ≡ refusal_line r)
  refusal-put r is = (sym p.status_is ∙ ap (λ (t : Telling). t.status) is, sym p.text_is ∙ ap (λ (t : Telling). t.text) is)

  -- and no file is touched
  refusal-alone : (r : Refusal) → p.telling ≡ refusal_of r → (s ≡ status.Refused) × (text ≡ refusal_line r) × SameFiles (Some files) after
  refusal-alone r is =
      let here = refusal-put r is in
      (here.0, here.1, kept-none p.written after (none-written files words p.telling p.written (ap (λ (t : Telling). t.outputs) is) p.answers) p.kept)
    where
      kept-none : (w : List (List ℕ × List ℕ)) (now : Option Files) → w ≡ [] → KeepsWrites ⊥ w (Some files) now → SameFiles (Some files) now
      kept-none w now is kept = (subst (λ x. KeepsWrites ⊥ x (Some files) now) is kept).1

  fault-told : (r : Refusal) → IsFirstRefusal words files r → (s ≡ status.Refused) × (text ≡ refusal_line r) × SameFiles (Some files) after
  fault-told r (to_clear asks) = refusal-alone r (clear-told files words p.telling p.written (Err r) p.answers asks)
  fault-told r (to_replay asks) = refusal-alone r (replay-told files words p.telling p.written (Err r) p.answers asks)
  fault-told r (to_verify asks) = refusal-alone r (verify-told files words p.telling p.written (Err r) p.answers asks)
  fault-told r (for_rights asks) = refusal-alone r (rights-told files words p.telling p.written (Err r) p.answers asks)
  fault-told r (to_migrate asks) = refusal-alone r (migrate-told files words p.telling p.written (Err r) p.answers asks)
  fault-told r (for_factors asks) = refusal-alone r (factors-told files words p.telling p.written (Err r) p.answers asks)
  fault-told r (to_check asks) = refusal-alone r (check-told files words p.telling p.written (Err r) p.answers asks)

  abbrev Why : Type 0
  Why = ((r : Refusal) × IsFirstRefusal words files r × (text ≡ refusal_line r)) ⊎ RefusesEdit words files ⊎ RefusesFactors words files text

  -- what is told of files with a fault is told of one
  by-fault : {A : Type 0} (stand : Result A Refusal → Type 0) (right : A → Telling → Type 0) → ((r : Refusal) → stand (Err r) → IsFirstRefusal words files r) → ((x : A) → stand (Ok x) → right x p.telling → Why)
      → Tells stand right p.telling → Why
  by-fault {A} stand right fault other tells = by tells.told tells.stands tells.comes
    where
      by : (r : Result A Refusal) → stand r → ComesTo right r p.telling → Why
      by (Ok x) stands comes = other x stands comes
      by (Err r) stands comes = inl (r, fault r stands, (refusal-put r comes).1)

  module _ (bad : p.telling.status ≡ status.Refused) where
    no-clear : (o : Outcome Fraction) → status_of o ≡ status.Refused → Why
    no-clear (outcome.Cleared a) is = cc is
    no-clear (outcome.Infeasible f) is = cc is
    no-clear (outcome.Range q) is = cc is

    of-clear : (bound : ℕ) (m : Parts) → TellsClear bound m p.telling → Why
    of-clear bound m (market, clears) = no-clear clears.outcome (sym clears.told.status_is ∙ bad)

    of-steps : (bound : ℕ) (r : MarketSteps) → AsksSteps files words r.market r.steps → TellsReplay bound r p.telling → Why
    of-steps bound r asks (market, replays) =
        let here = refused-status replays.outcomes (sym replays.told.status_is ∙ bad) in
        let edit = refused-at bound r.market r.steps replays.outcomes here.0 here.1 (right_replies bound r.market [] replays.taken r.steps replays.outcomes replays.right) here.2 in
        inr (inl (record { market = r.market; steps = r.steps; asks = asks; place = here.0; edit = edit.0; stands = edit.1; fault = here.1; refused = edit.2 }))

    of-verdict : (bound : ℕ) (v : MarketCertificate) → TellsVerdict bound v p.telling → Why
    of-verdict bound v (market, judged is) = verdict-status (first_reason v.market v.certificate) (sym (ap (λ (t : Telling). t.status) is) ∙ bad)
      where
        verdict-status : (r : Option Reason) → verdict_status r ≡ status.Refused → Why
        verdict-status None wrong = cc wrong
        verdict-status (Some why) wrong = cc wrong
    of-verdict bound v (market, passed q pair within is) = absurd (range-refused (sym (ap (λ (t : Telling). t.status) is) ∙ bad))
      where
        range-refused : status.Range ≡ status.Refused → ⊥
        range-refused wrong = cc wrong

    of-fit : (bound : ℕ) (m : Parts) (rights : List TransmissionRight) (price : ℕ → Fraction) (report : List ℕ) → TellsFit bound m rights price report p.telling → Why
    of-fit bound m rights price report (fitted fit.Fits is-fit flow pays is) = let wrong : status.Done ≡ status.Refused = sym (ap (λ (t : Telling). t.status) is) ∙ bad in cc wrong
    of-fit bound m rights price report (fitted (fit.Breaks row flow) is-fit within pays is) = let wrong : status.Refuted ≡ status.Refused = sym (ap (λ (t : Telling). t.status) is) ∙ bad in cc wrong
    of-fit bound m rights price report (answers.passed q pair within is) = let wrong : status.Range ≡ status.Refused = sym (ap (λ (t : Telling). t.status) is) ∙ bad in cc wrong

    of-rights : (bound : ℕ) (r : MarketRights) → TellsRights bound r p.telling → Why
    of-rights bound r tells = by tells.entitles.outcome tells.entitles.told
      where
        by : (o : Outcome Fraction) → TellsOutcome bound r.market r.rights o p.telling → Why
        by (outcome.Cleared a) told = of-fit bound r.market r.rights _ _ told
        by (outcome.Infeasible f) is = let wrong : status.Infeasible ≡ status.Refused = sym (ap (λ (t : Telling). t.status) is) ∙ bad in cc wrong
        by (outcome.Range q) is = let wrong : status.Range ≡ status.Refused = sym (ap (λ (t : Telling). t.status) is) ∙ bad in cc wrong

    of-migration : (c : Cert Fraction) → TellsMigration c p.telling → Why
    of-migration c is = let wrong : status.Done ≡ status.Refused = sym (ap (λ (t : Telling). t.status) is) ∙ bad in cc wrong

    of-check : (inputs : Inputs) → TellsCheck inputs p.telling → Why
    of-check inputs (r, are, is) = check-status (are_within r) (sym (ap (λ (t : Telling). t.status) is) ∙ bad)
      where
        check-status : (b : Bool) → (if b then status.Done else status.Refuted) ≡ status.Refused → Why
        check-status true wrong = cc wrong
        check-status false wrong = cc wrong

    of-factors : (inputs : FactorInputs) (asks : AsksForFactors files words (Ok inputs)) → TellsFactorsOf asks.names inputs p.telling → Why
    of-factors inputs asks (fit, makes) = by makes
      where
        line : (fault : FactorFault) → p.telling ≡ refusal_of (refusal.Factors fault) → text ≡ refusal_line (refusal.Factors fault)
        line fault is = (refusal-put (refusal.Factors fault) is).1

        none : (why : MakeStop Fraction) → making_factors.IsFactorsStop (most_of Bits127) inputs (is_some asks.names.lodf_out) asks.names.places why → making_factors.TellsStop (most_of Bits127) why p.telling → Why
        none (make_stop.TooMany count) stops is = inr (inr (record { inputs = inputs; asks = asks; fault = factor_fault.TooMany count; why = stops; told = line (factor_fault.TooMany count) is }))
        none (make_stop.NotPositive branch) stops is = inr (inr (record { inputs = inputs; asks = asks; fault = factor_fault.NotPositive branch; why = stops; told = line (factor_fault.NotPositive branch) is }))
        none (make_stop.Passed q) stops (within, is) = let wrong : status.Range ≡ status.Refused = sym (ap (λ (t : Telling). t.status) is) ∙ bad in cc wrong
        none make_stop.Memory stops never = absurd never

        by : MakesFactors (most_of Bits127) inputs (is_some asks.names.lodf_out) asks.names.places p.telling → Why
        by (making_factors.made tables are is) = let wrong : status.Done ≡ status.Refused = sym (ap (λ (t : Telling). t.status) is) ∙ bad in cc wrong
        by (making_factors.stopped why stops tells) = none why stops tells

    of-ring : (buses seed : ℕ) → MakesTo (most_of Bits127) buses seed p.telling → Why
    of-ring buses seed (making.cleared a market right first settled within is) = let wrong : status.Done ≡ status.Refused = sym (ap (λ (t : Telling). t.status) is) ∙ bad in cc wrong
    of-ring buses seed (making.passed q pair within is) = let wrong : status.Range ≡ status.Refused = sym (ap (λ (t : Telling). t.status) is) ∙ bad in cc wrong

    why-refused : (w : List (List ℕ × List ℕ)) → AnswersTo (Some files) words p.telling w → Why
    why-refused _ (refused nothing usage) = let wrong : status.Usage ≡ status.Refused = sym usage ∙ bad in cc wrong
    why-refused _ (pooled case offers asked tells) = by-fault (ArePoolFiles files case offers) (TellsClear (most_of Bits127)) (λ r stands. to_clear (as_pool case offers asked stands)) (λ m stands right. of-clear _ m right) tells
    why-refused _ (cleared names file asked tells) = by-fault (AreClearFiles files names) (TellsClear (most_of names.bits)) (λ r stands. to_clear (as_clear names file asked stands)) (λ m stands right. of-clear _ m right) tells
    why-refused _ (replayed names edits file asked tells) =
        by-fault (AreReplayFiles files names edits) (TellsReplay (most_of names.bits)) (λ r stands. to_replay (record { names = names; edits = edits; certificate = file; asks = asked; stand = stands }))
        (λ r stands right. of-steps _ r (record { names = names; edits = edits; certificate = file; asks = asked; stand = stands }) right) tells
    why-refused _ (verified names edits certificate asked tells) =
        by-fault (AreVerifyFiles files names edits certificate) (TellsVerdict (most_of names.bits)) (λ r stands. to_verify (record { names = names; edits = edits; certificate = certificate; asks = asked; stand = stands }))
        (λ v stands right. of-verdict _ v right) tells
    why-refused _ (entitled names held asked tells) =
        by-fault (AreRightsFiles files names held) (TellsRights (most_of names.bits)) (λ r stands. for_rights (record { names = names; rights = held; asks = asked; stand = stands })) (λ r stands right. of-rights _ r right) tells
    why-refused _ (migrated old out bits asked tells) =
        by-fault (IsMigratedFile files old bits) TellsMigration (λ r stands. to_migrate (record { certificate = old; out = out; bits = bits; asks = asked; stand = stands })) (λ c stands right. of-migration c right) tells
    why-refused _ (checked names asked tells) = by-fault (AreCheckFiles files names) TellsCheck (λ r stands. to_check (record { names = names; asks = asked; stand = stands })) (λ inputs stands right. of-check inputs right) tells
    why-refused _ (factored names asked tells) =
        by-fault (AreFactorFiles files names) (TellsFactorsOf names) (λ r stands. for_factors (record { names = names; asks = asked; stand = stands })) (λ inputs stands right. of-factors inputs (record { names = names; asks = asked; stand = stands }) right) tells
    why-refused _ (made buses seed asked makes) = of-ring buses seed makes

pub law_of_faults : LawOfFaults
law_of_faults words files text s prints =
    let p = printed words files text s prints in
    (fault-told words files text s _ p, λ is. why-refused words files text s _ p (p.status_is ∙ is) p.written p.answers)

-- ---- make
-- a right answer whose dispatch goes first is told, with prices that are settled and numbers within the bound
pub told-answer : LawOfTheReserve → (bound : ℕ) (m : Parts) (a : Answer Fraction) → IsMarket m → IsRight m a → IsFirstFor m (all_of m) (dispatch_in a) → IsSettledAnswer bound m a → IsAnswerWithin bound a → IsToldAnswer bound m a
told-answer law_of_reserve bound m a market right first settled within =
    let best = right-best law_of_reserve m a market right in
    record { greatest = best.0; first = first; priced = best.1; settled = settled; within = within }

ring-made : LawOfTheReserve → (buses seed : ℕ) (t : Telling) (text : List ℕ) (s : Status) → t.text ≡ text → t.status ≡ s → MakesTo (most_of Bits127) buses seed t → IsRingText buses seed text s
ring-made law_of_reserve buses seed t text s words ends (making.cleared a market right first settled within is) =
    subst (IsRingText buses seed text) (sym (ap (λ (x : Telling). x.status) is) ∙ ends)
    (cleared_ring a (told-answer law_of_reserve (most_of Bits127) (ring_of buses seed) a market right first settled within) (sym words ∙ ap (λ (x : Telling). x.text) is))
ring-made law_of_reserve buses seed t text s words ends (making.passed p pair within is) =
    subst (IsRingText buses seed text) (sym (ap (λ (x : Telling). x.status) is) ∙ ends) (range_ring p pair within (sym words ∙ ap (λ (x : Telling). x.text) is))

pub law_of_make : LawOfTheReserve → LawOfMake
law_of_make law_of_reserve words files text s buses seed prints asks =
    let p = printed words files text s prints in
    ring-made law_of_reserve buses seed p.telling text s p.text_is p.status_is (make-told (Some files) words p.telling buses seed asks p.written p.answers)

-- ---- outside
-- each file that is written is one of these
abbrev pub AllNamed : (List ℕ → Type 0) → List (List ℕ × List ℕ) → Type 0
AllNamed P [] = Unit {0}
AllNamed P ((name, bytes) ∷ rest) = P name × AllNamed P rest

pub bytes-named : (P : List ℕ → Type 0) (file bytes : Option (List ℕ)) (others : List (List ℕ × List ℕ)) → ((name : List ℕ) → file ≡ Some name → P name) → AllNamed P others → AllNamed P (named_bytes file bytes others)
bytes-named P (Some name) (Some bytes) others named rest = (named name refl, rest)
bytes-named P (Some name) None others named rest = rest
bytes-named P None bytes others named rest = rest

-- what is written is named for it
written-named : (files : Option Files) (words : List (List ℕ)) (t : Telling) (w : List (List ℕ × List ℕ)) → AnswersTo files words t w → AllNamed (NamesToWrite words) w
written-named files words t _ (refused nothing usage) = tt
written-named files words t _ (pooled case offers asked told) = tt
written-named files words t _ (cleared names file asked told) = bytes-named (NamesToWrite words) file t.outputs.certificate [] (λ name is. inl (names, subst (AsksClear words names) is asked)) tt
written-named files words t _ (replayed names edits file asked told) = bytes-named (NamesToWrite words) file t.outputs.certificate [] (λ name is. inr (inl (names, edits, subst (AsksReplay words names edits) is asked))) tt
written-named files words t _ (verified names edits certificate asked told) = tt
written-named files words t _ (entitled names held asked told) = tt
written-named files words t _ (migrated old out bits asked told) = bytes-named (NamesToWrite words) (Some out) t.outputs.certificate [] (λ name is. inr (inr (inl (old, bits, subst (λ o. AsksMigrate words old (unwrap_or o out) bits) is asked)))) tt
written-named files words t _ (checked names asked told) = tt
written-named files words t _ (factored names asked told) =
    bytes-named (NamesToWrite words) (Some names.ptdf_out) t.outputs.ptdf _ (λ name is. inr (inr (inr (names, asked, inl (sym (ap (λ o. unwrap_or o names.ptdf_out) is))))))
    (bytes-named (NamesToWrite words) names.lodf_out t.outputs.lodf [] (λ name is. inr (inr (inr (names, asked, inr is)))) tt)
written-named files words t _ (made buses seed asked told) = tt

-- a file that is none of those that are written has what it had
module _ (P : List ℕ → Type 0) (n : List ℕ) (free : ¬ (P n)) (failed : Type 0) where
  apart : (name : List ℕ) → P name → n ≢ name
  apart name is same = free (subst P (sym same) is)

  pub kept-at : (w : List (List ℕ × List ℕ)) (f h : Files) → AllNamed P w → KeepsWrites failed w (Some f) (Some h) → h n ≡ f n
  kept-at [] f h named (fine, same) = same n
  kept-at ((name, bytes) ∷ rest) f h named (inl (bad, wrote)) = wrote.others n (apart name named.0)
  kept-at ((name, bytes) ∷ rest) f h named (inr (Some g, wrote, kept)) = kept-at rest g h named.1 kept ∙ wrote.others n (apart name named.0)
  kept-at ((name, bytes) ∷ rest) f h named (inr (None, wrote, kept)) = elim wrote [ ]

same-at : (a b : Option Files) (f h : Files) (n : List ℕ) → a ≡ Some f → b ≡ Some h → SameFiles a b → h n ≡ f n
same-at a b f h n before after same = (subst (SameFiles (Some f)) after (subst (λ x. SameFiles x b) before same)) n

module _ (words : List (List ℕ)) (before after : Outside) (s : Status) (f h : Files) (was : before.files ≡ Some f) (is_now : after.files ≡ Some h) (n : List ℕ) (free : ¬ (NamesToWrite words n)) where
  told-files : (failed : Type 0) (w : List (List ℕ × List ℕ)) → KeepsWrites failed w before.files after.files → KeepsWrites failed w (Some f) (Some h)
  told-files failed w kept = subst (λ y. KeepsWrites failed w (Some f) y) is_now (subst (λ x. KeepsWrites failed w x after.files) was kept)

  answers-at : Answers words before after s → h n ≡ f n
  answers-at a = by a.ends
    where
      named : AllNamed (NamesToWrite words) a.written
      named = written-named before.files words a.telling a.written a.right

      by : ending.Ends a.telling a.written before.files after.files before.taken after.taken s → h n ≡ f n
      by (ending.told kept took right) = kept-at (NamesToWrite words) n free ⊥ a.written f h named (told-files ⊥ a.written kept)
      by (ending.unwritten kept none failed) = kept-at (NamesToWrite words) n free (Unit {0}) a.written f h named (told-files (Unit {0}) a.written kept)

pub law_of_outside : LawOfOutside
law_of_outside words before after s runs = record {
  others = λ f h was is_now n free. elim (silent-or s) [
    | inl silent ↦ same-at before.files after.files f h n was is_now (runs.silent silent).files
    | inr loud ↦ answers-at words before after s f h was is_now n free (runs.told loud)
  ];
}
