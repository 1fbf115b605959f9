-- The certificates that are written come back, and hold of their markets.
use Rattle.std.proofs.Common.{◌≡◌, ◌≤◌, ◌⊎◌, ◌∙◌, inl, inr, ℕ, List, [], ◌∷◌, ◌++◌, All, take, length, Option, Some, None, IfSome, Result, Ok, Err, refl, sym, ap, subst}
use Rattle.std.specs.Prelude.{option_and_then}
use Rattle.std.proofs.lemmas.Bool.{le-ltb}
use Rattle.std.proofs.lemmas.List.Elements.{All-cons, All-nil}
use Rattle.std.proofs.Math.Seq.{take-append_seam}
use Rattle.fraction_theory.specs.Fraction.{Fraction}
use Rattle.market_model.specs.declared.answered.Outcome.{Outcome}
use Rattle.market_model.specs.declared.answered.Outcome.TheVariants as outcome
use Rattle.market_model.specs.declared.limits.Row.{Row}
use Rattle.market_model.specs.declared.participants.Parts.{Parts}
use Rattle.market_model.specs.Frame.{SameFrame}
use Rattle.market_model.specs.Market.{IsMarket}
use Rattle.market_system.specs.Outcomes.{IsRightOutcome}
use Rattle.cert_format.specs.declared.certificate.Cert.{Cert}
use Rattle.cert_format.specs.Certificates.{NumbersFit, RowsAreDistinct, cert_against, cert_of, cert_of_outcome}
use Rattle.cert_format.specs.Grammar.{cert_read}
use Rattle.cert_format.specs.Written.{cert_text, certificate_of}
use Rattle.cert_format.proofs.CertLemmas.{reads-back}
use Rattle.cert_verify.specs.Certificates.{first_reason}
use Rattle.cert_verify.specs.Reasons.{verdict_of}
use Rattle.cert_verify.specs.declared.verdicts.Verdict.TheVariants.{Yes}
use Rattle.cert_verify.proofs.LawLemmas.{law_of_farkas_duals, law_of_right_answers, law_of_the_verdict}
use Rattle.cert_verify.proofs.TestLemmas.{yes_none}
use Rattle.edit_table.specs.declared.Step.{Step}
use Rattle.edit_table.specs.declared.Step.TheVariants as edit
use Rattle.edit_replay.specs.Replays.{edited_by, stepped}
use Rattle.edit_replay.specs.declared.step_outcome.StepOutcome.{StepOutcome}
use Rattle.edit_replay.proofs.FrameLemmas.{steps_frame}
use Rattle.edit_replay.specs.declared.step_outcome.StepOutcome.TheVariants as step
use Rattle.offer_book.specs.Edits.{step_of}
use Rattle.market_data.specs.declared.scales.FactorPlaces.{FactorPlaces}
use Rattle.net_case.specs.declared.live_parts.PostRating.{PostRating}
use Rattle.refusal_text.specs.declared.refusals.Input.TheVariants as input
use Rattle.refusal_text.specs.declared.refusals.Refusal.{Refusal}
use Rattle.refusal_text.specs.declared.refusals.Refusal.TheVariants as refusal
use Rattle.market_tables.specs.Tables.{MarketTexts}
use Rattle.market_inputs.specs.Files.{most_file, sized, sized_tables}
use Rattle.market_inputs.specs.Replaying.{certificate_in, steps_in}
use Rattle.market_inputs.specs.RightsInputs.{rights_in}
use Rattle.market_inputs.proofs.OnceLemmas.{OfOne, clear-once, is-once, then-once}
use Rattle.market_inputs.specs.Texts.{IsLimited}
use Rattle.settled_replay.specs.PrintedReplays.{AreRightReplies}
use Rattle.settled_replay.proofs.StepLemmas.{right_replies}
use Rattle.command_answers.specs.Clearing.{TellsClear}
use Rattle.command_answers.specs.Laws.{Certifies, CertifiesLast, IsEdit, IsYesOrRange, LawOfTheReplay, LawOfTheRoundTrip, LawOfTheSameFiles, LawOfYes}
use Rattle.command_answers.specs.Inputs.{AreEntitled, IsCertified, IsReplayed, MarketCertificate, MarketSteps}
use Rattle.command_answers.specs.Replaying.{ReplaysTo, last_clear}
use Rattle.command_answers.specs.Tellings.{ComesTo, Telling, Tells, uncertified}
use Rattle.command_answers.specs.Verdicts.{verdict_line}
use Rattle.command_answers.specs.Verifying.{TellsVerdict, judged, passed, verdict_status}
use Rattle.command_answers.specs.declared.told.Outputs.{Outputs}
use Rattle.command_answers.proofs.ReplayLemmas.{last_first, last_none}

module _ (bound : ℕ) where
  -- ---- of one clear
  -- the text of a certificate that fits and holds
  certified : (m : Parts) (c : Cert Fraction) (text : List ℕ) → RowsAreDistinct c × (verdict_of (first_reason m c) ≡ Yes) → NumbersFit bound c → Some (cert_text c) ≡ Some text → Certifies bound m text c
  certified m c text right fits is =
      let text_is : cert_text c ≡ text = cc is in record {
        read = sym (ap (cert_read bound) text_is) ∙ reads-back bound c (record { numbers = fits; distinct = right.0 });
        holds = (law_of_the_verdict m c right.0).0 right.1;
        yes = right.1;
      }

  -- that of a right outcome
  of_outcome : (m : Parts) (taken : List Row) (o : Outcome Fraction) (text : List ℕ) → IsMarket m → IsRightOutcome bound m taken o
      → IfSome (cert_of_outcome m.factor_places m.reserve.listed o) (NumbersFit bound) → certificate_of m.factor_places m.reserve.listed o ≡ Some text
      → (c : Cert Fraction) × (cert_of_outcome m.factor_places m.reserve.listed o ≡ Some c) × Certifies bound m text c
  of_outcome m taken (outcome.Cleared a) text market right fits is =
      let c = cert_of m.factor_places m.reserve.listed a in (c, refl, certified m c text (law_of_right_answers m a market right.0) fits is)
  of_outcome m taken (outcome.Infeasible f) text market right fits is =
      let c = cert_against m.factor_places m.reserve.listed f in (c, refl, certified m c text (law_of_farkas_duals m f market right) fits is)
  of_outcome m taken (outcome.Range p) text market right fits is = cc is

pub law_of_the_round_trip : LawOfTheRoundTrip
law_of_the_round_trip bound m t text (market, clears) is = of_outcome bound m [] clears.outcome text market clears.right clears.told.certificate_fits (sym (ap (λ (o : Outputs (List ℕ)). o.certificate) clears.told.certificate_is) ∙ is)

-- ---- of the last clear of a replay
-- an outcome is that of the last clear of steps
record IsOfLast (bound : ℕ) (m : Parts) (steps : List Step) (o : Outcome Fraction) : Type 0 where
  front : List Step
  rest : List Step
  steps_are : steps ≡ front ++ edit.Clear ∷ rest
  last : All IsEdit rest
  taken : List Row
  right : IsRightOutcome bound (edited_by m front) taken o

-- or there is no clear, and it is what there was before
abbrev LastOr : ℕ → Parts → List Step → Option (Outcome Fraction) → Outcome Fraction → Type 0
LastOr bound m steps prior o = ((prior ≡ Some o) × All IsEdit steps) ⊎ IsOfLast bound m steps o

module _ (bound : ℕ) (m : Parts) (s : Step) (steps : List Step) (o : Outcome Fraction) where
  behind : IsOfLast bound (stepped m s) steps o → IsOfLast bound m (s ∷ steps) o
  behind h = record { front = s ∷ h.front; rest = h.rest; steps_are = ap (λ (ss : List Step). s ∷ ss) h.steps_are; last = h.last; taken = h.taken; right = h.right }

edit_first : (bound : ℕ) (m : Parts) (e : _) (steps : List Step) (prior : Option (Outcome Fraction)) (o : Outcome Fraction) → LastOr bound (step_of m e) steps prior o → LastOr bound m (edit.Edit e ∷ steps) prior o
edit_first bound m e steps prior o (inl (is, all)) = inl (is, All-cons IsEdit (edit.Edit e) steps tt all)
edit_first bound m e steps prior o (inr h) = inr (behind bound m (edit.Edit e) steps o h)

clear_first : (bound : ℕ) (m : Parts) (taken : List Row) (steps : List Step) (prior : Option (Outcome Fraction)) (q o : Outcome Fraction) → IsRightOutcome bound m taken q → LastOr bound m steps (Some q) o
    → LastOr bound m (edit.Clear ∷ steps) prior o
clear_first bound m taken steps prior q o right (inl (is, all)) =
    let same : q ≡ o = cc is in
    inr (record { front = []; rest = steps; steps_are = refl; last = all; taken = taken; right = subst (IsRightOutcome bound m taken) same right })
clear_first bound m taken steps prior q o right (inr h) = inr (behind bound m edit.Clear steps o h)

last_of : (bound : ℕ) (m : Parts) (steps : List Step) (outcomes : List (StepOutcome Fraction)) (prior : Option (Outcome Fraction)) (o : Outcome Fraction)
    → AreRightReplies bound m steps outcomes → last_clear prior outcomes ≡ Some o → LastOr bound m steps prior o
last_of bound m [] [] prior o right is = inl (sym (last_none prior) ∙ is, All-nil IsEdit)
last_of bound m [] (p ∷ outcomes) prior o right is = absurd right
last_of bound m (s ∷ steps) [] prior o right is = absurd right
last_of bound m (edit.Edit e ∷ steps) (step.Clear q ∷ outcomes) prior o right is = absurd right.0
last_of bound m (edit.Edit e ∷ steps) (step.Accepted ∷ outcomes) prior o right is =
    edit_first bound m e steps prior o (last_of bound (step_of m e) steps outcomes prior o right.1 (sym (last_first prior step.Accepted outcomes) ∙ is))
last_of bound m (edit.Edit e ∷ steps) (step.Refused f ∷ outcomes) prior o right is =
    edit_first bound m e steps prior o (last_of bound (step_of m e) steps outcomes prior o right.1 (sym (last_first prior (step.Refused f) outcomes) ∙ is))
last_of bound m (edit.Clear ∷ steps) (step.Accepted ∷ outcomes) prior o right is = absurd right.0
last_of bound m (edit.Clear ∷ steps) (step.Refused f ∷ outcomes) prior o right is = absurd right.0
last_of bound m (edit.Clear ∷ steps) (step.Clear q ∷ outcomes) prior o right is =
    clear_first bound m right.0.0.0 steps prior q o right.0.0.1 (last_of bound m steps outcomes (Some q) o right.1 (sym (last_first prior (step.Clear q) outcomes) ∙ is))

module _ (bound : ℕ) (r : MarketSteps) (t : Telling) (text : List ℕ) (replays : ReplaysTo bound r.market r.steps t) where
  -- the certificate of an outcome of a market, and its text: edits change neither how many places factors have nor whether reserve is listed
  abbrev cert_in : Parts → Outcome Fraction → Option (Cert Fraction)
  cert_in m = cert_of_outcome m.factor_places m.reserve.listed

  abbrev text_in : Parts → Outcome Fraction → Option (List ℕ)
  text_in m = certificate_of m.factor_places m.reserve.listed

  last_certifies : (o : Outcome Fraction) → IsOfLast bound r.market r.steps o → IfSome (cert_in r.market o) (NumbersFit bound) → text_in r.market o ≡ Some text
      → (c : Cert Fraction) × (cert_in r.market o ≡ Some c) × CertifiesLast bound r text c
  last_certifies o h fits is =
      let front_is : take (length h.front) r.steps ≡ h.front = ap (take (length h.front)) h.steps_are ∙ take-append_seam h.front (edit.Clear ∷ h.rest) in
      let market = subst (λ (ss : List Step). IsMarket (edited_by r.market ss)) front_is (replays.markets (length h.front)) in
      let last : Parts = edited_by r.market h.front in
      let same : SameFrame r.market last = steps_frame r.market h.front in
      let cert = ap (λ (p : Parts). cert_in p o) same in
      let k = of_outcome bound last h.taken o text market h.right (subst (λ (c : Option (Cert Fraction)). IfSome c (NumbersFit bound)) cert fits) (sym (ap (λ (p : Parts). text_in p o) same) ∙ is) in
      (k.0, cert ∙ k.1, record { front = h.front; rest = h.rest; steps_are = h.steps_are; last = h.last; certifies = k.2 })

  by_last : (last : Option (Outcome Fraction)) → last_clear None replays.outcomes ≡ last → IfSome (option_and_then (cert_in r.market) last) (NumbersFit bound) → option_and_then (text_in r.market) last ≡ Some text
      → (c : Cert Fraction) × (option_and_then (cert_in r.market) last ≡ Some c) × CertifiesLast bound r text c
  by_last None e fits is = cc is
  by_last (Some o) e fits is = from (last_of bound r.market r.steps replays.outcomes None o (right_replies bound r.market [] replays.taken r.steps replays.outcomes replays.right) e)
    where
      from : LastOr bound r.market r.steps None o → (c : Cert Fraction) × (cert_in r.market o ≡ Some c) × CertifiesLast bound r text c
      from (inl (none, all)) = cc none
      from (inr h) = last_certifies o h fits is

pub law_of_the_replay : LawOfTheReplay
law_of_the_replay bound r t text (market, replays) is = by_last bound r t text replays (last_clear None replays.outcomes) refl replays.told.certificate_fits (sym (ap (λ (o : Outputs (List ℕ)). o.certificate) replays.told.certificate_is) ∙ is)

-- ---- of verifying
pub law_of_yes : LawOfYes
unfolding verdict_line
law_of_yes bound m text c t certifies (market, judged is) = inl (is ∙ ap (λ why. uncertified (verdict_status why) (verdict_line why)) (yes_none (first_reason m c) certifies.yes))
law_of_yes bound m text c t certifies (market, passed p stop within is) = inr (ap (λ (s : Telling). s.status) is)

-- ---- with the same files
-- a text that is no longer than a file may be is read as its certificate
read_whole : (bound : ℕ) (text : List ℕ) (c : Cert Fraction) → length text ≤ most_file → cert_read bound text ≡ Ok c → certificate_in bound (sized (refusal.TooLong input.Certificate) text) ≡ Ok c
unfolding sized
read_whole bound text c short read = rw (le-ltb most_file (length text) short, read) refl

-- files stand for one market, with steps or with a certificate
pub limited-once : (rating : PostRating) (places : FactorPlaces) (files : MarketTexts) → OfOne (IsLimited rating places files)
limited-once rating places files = clear-once rating places (sized_tables files)

pub replayed-once : (rating : PostRating) (places : FactorPlaces) (files : MarketTexts) (edits : List ℕ) → OfOne (IsReplayed rating places files edits)
replayed-once rating places files edits =
    then-once _ _ (limited-once rating places files) (λ market _. then-once _ _ (is-once (steps_in (sized (refusal.TooLong input.Edits) edits))) (λ steps _. is-once (Ok (record { market = market; steps = steps }))))

pub certified-once : (most : ℕ) (rating : PostRating) (places : FactorPlaces) (files : MarketTexts) (edits certificate : List ℕ) → OfOne (IsCertified most rating places files edits certificate)
certified-once most rating places files edits certificate =
    then-once _ _ (replayed-once rating places files edits)
    (λ r _. then-once _ _ (is-once (certificate_in most (sized (refusal.TooLong input.Certificate) certificate))) (λ c _. is-once _))

pub entitled-once : (rating : PostRating) (places : FactorPlaces) (files : MarketTexts) (rights : List ℕ) → OfOne (AreEntitled rating places files rights)
entitled-once rating places files rights =
    then-once _ _ (limited-once rating places files) (λ market _. then-once _ _ (is-once (rights_in market (sized (refusal.TooLong input.Rights) rights))) (λ held _. is-once _))

module _ (bound : ℕ) (rating : PostRating) (places : FactorPlaces) (files : MarketTexts) (edits text : List ℕ) (none : steps_in (sized (refusal.TooLong input.Edits) edits) ≡ Ok []) where
  -- what they stand for with a certificate
  stands_with : (m : Parts) (c : Cert Fraction) → IsLimited rating places files (Ok m) → certificate_in bound (sized (refusal.TooLong input.Certificate) text) ≡ Ok c
      → IsCertified bound rating places files edits text (Ok (record { market = m; certificate = c }))
  stands_with m c limited read = record {
    made = Ok (record { market = m; steps = [] });
    is = record { made = Ok m; is = limited; rest = record { made = Ok []; is = none; rest = refl } };
    rest = record { made = Ok c; is = read; rest = refl };
  }

  told_yes : (clear verify : Telling) → length text ≤ most_file → clear.outputs.certificate ≡ Some text → (told : Result Parts Refusal) → IsLimited rating places files told → ComesTo (TellsClear bound) told clear
      → Tells (IsCertified bound rating places files edits text) (TellsVerdict bound) verify → IsYesOrRange verify
  told_yes clear verify short is (Err r) limited comes verified = let no = ap (λ (t : Telling). t.outputs.certificate) comes in cc (is, no)
  told_yes clear verify short is (Ok m) limited comes verified =
      let trip = law_of_the_round_trip bound m clear text comes is in
      let c = trip.0 in
      let here : IsCertified bound rating places files edits text (Ok (record { market = m; certificate = c })) = stands_with m c limited (read_whole bound text c short trip.2.read) in
      let same = certified-once bound rating places files edits text verified.told (Ok (record { market = m; certificate = c })) verified.stands here in
      law_of_yes bound m text c verify trip.2 (subst (λ (r : Result MarketCertificate Refusal). ComesTo (TellsVerdict bound) r verify) same verified.comes)

pub law_of_the_same_files : LawOfTheSameFiles
law_of_the_same_files bound rating places files edits text clear verify cleared is short none verified = told_yes bound rating places files edits text none clear verify short is cleared.told cleared.stands cleared.comes verified
