-- The laws of runs on transmission rights, and of certificates that are written anew.
use Rattle.std.specs.Prelude.{◌≡◌, ℕ, List, [], All, Some, Ok, codes, length, map}
use Rattle.std.proofs.Common.{refl, sym, subst, ap, ◌∙◌}
use Rattle.fraction_theory.specs.Fraction.{Fraction}
use Rattle.fraction_theory.specs.Order.{◌≤ℚ◌}
use Rattle.outside_store.specs.Files.{Files}
use Rattle.market_model.specs.declared.answered.Answer.{Answer}
use Rattle.market_model.specs.declared.answered.Outcome.{Outcome}
use Rattle.market_model.specs.declared.answered.Outcome.TheVariants as outcome
use Rattle.market_model.specs.declared.answered.Price.{Price}
use Rattle.market_model.specs.declared.participants.Parts.{Parts}
use Rattle.market_model.specs.declared.participants.TransmissionRight.{TransmissionRight}
use Rattle.market_model.specs.Dispatch.{places, zero}
use Rattle.market_model.specs.Laws.{LawOfTheReserve}
use Rattle.market_model.specs.Market.{IsMarket}
use Rattle.market_model.specs.Optimality.{bus_price, price_by, ArePricesOf}
use Rattle.market_model.specs.RightAnswers.{IsRight, dispatch_in, price_made}
use Rattle.market_model.specs.Rights.{IsTransmissionRight}
use Rattle.market_model.specs.Settlement.{surplus}
use Rattle.market_model.specs.Valued.{total_at}
use Rattle.market_model.proofs.FarkasLaw.{law_of_infeasibility}
use Rattle.market_model.proofs.ListSteps.{map-map}
use Rattle.market_model.proofs.PlaceLists.{filled_at}
use Rattle.market_system.specs.Outcomes.{IsRightOutcome}
use Rattle.rights_test.specs.declared.right_parts.Fit.TheVariants as fit
use Rattle.rights_test.specs.Fits.{IsFit}
use Rattle.rights_test.specs.Paid.{payments_of}
use Rattle.rights_test.specs.RightsLaws.{LawOfCoveredPayments}
use Rattle.rights_test.proofs.FitLemmas.{law_of_the_fit}
use Rattle.report_text.specs.Reports.{report_text}
use Rattle.cert_format.specs.Written.{cert_text}
use Rattle.cert_format.proofs.InverseLemmas.{law_of_migration}
use Rattle.number_bits.specs.Bits.{most_of}
use Rattle.number_bits.specs.declared.NumberBits.{NumberBits}
use Rattle.refusal_text.specs.declared.refusals.Input.TheVariants as input
use Rattle.refusal_text.specs.declared.refusals.Refusal.TheVariants as refusal
use Rattle.command_words.specs.Words.{AsksMigrate}
use Rattle.command_words.proofs.WordsLemmas.{migrates-once}
use Rattle.settled_answer.specs.Settled.{IsSettledOutcome}
use Rattle.command_answers.specs.Bounds.{IsOutcomeWithin}
use Rattle.command_answers.specs.Rights.{TellsFit, TellsOutcome, fitted, passed}
use Rattle.command_answers.specs.Tellings.{Telling, certified}
use Rattle.command_answers.specs.declared.status.Status.{Status}
use Rattle.sced.specs.Headline.{IsEntitled, IsToldAnswer, LawOfMigrate, LawOfRights, clear_passes, nothing_qualifies, rights_break, rights_fit, rights_pass}
use Rattle.sced.specs.Told.{AnswersTo, checked, cleared, entitled, factored, made, migrated, named_bytes, named_outputs, pooled, refused, replayed, verified}
use Rattle.sced.proofs.AskedLemmas.{migrate-told, no-other, not-refused, rights-told}
use Rattle.sced.proofs.HeadlineLemmas.{kept-as, read-in, told-answer}
use Rattle.sced.proofs.RunLemmas.{printed}

-- ---- rights
-- the bus prices of a right answer are those of its duals
prices-of : (m : Parts) (a : Answer Fraction) → IsRight m a → ArePricesOf m a.duals (total_at (λ x. x) a.prices)
unfolding price_by
prices-of m a right =
    filled_at (bus_price m a.duals) (map (λ (p : Price Fraction). p.total) a.prices) (length m.buses) zero
    (ap (λ (b : Answer Fraction). map (λ (p : Price Fraction). p.total) b.prices) right.made ∙ map-map (price_made m a.duals) (λ (p : Price Fraction). p.total) (places (length m.buses)))

module _ (bound : ℕ) (m : Parts) (rights : List TransmissionRight) (t : Telling) (text : List ℕ) (s : Status) (words : t.text ≡ text) (ends : t.status ≡ s) where
  -- what is told, as the text and the status that were put
  as-told : (e : Telling) → t ≡ e → IsEntitled bound m rights e.text e.status → IsEntitled bound m rights text s
  as-told e is here =
      subst (λ x. IsEntitled bound m rights x s) (sym (ap (λ (x : Telling). x.text) is) ∙ words) (subst (IsEntitled bound m rights e.text) (sym (ap (λ (x : Telling). x.status) is) ∙ ends) here)

  module _ (law_of_reserve : LawOfTheReserve) (law_of_payments : LawOfCoveredPayments) (market : IsMarket m) (held : All (IsTransmissionRight (length m.buses)) rights) where
    -- rights that fit are paid no more than the surplus of the answer
    covered : (a : Answer Fraction) → IsRight m a → IsFit m rights fit.Fits → (payments_of (total_at (λ x. x) a.prices) rights).total ≤ℚ a.money.surplus
    unfolding surplus
    covered a right is-fit =
        let price = total_at (λ x. x) a.prices in
        subst (λ z. (payments_of price rights).total ≤ℚ z) (sym (ap (λ (b : Answer Fraction). b.money.surplus) right.made))
        (law_of_payments m a.duals (dispatch_in a) price rights market (record { prices = prices-of m a right; feasible = right.feasible; supported = right.supported }) held is-fit)

    of-answer : (a : Answer Fraction) → IsRight m a → IsToldAnswer bound m a → TellsFit bound m rights (total_at (λ x. x) a.prices) (report_text m (outcome.Cleared a)) t → IsEntitled bound m rights text s
    of-answer a right told (fitted fit.Fits is-fit flow pays is) = as-told _ is (rights_fit a told pays ((law_of_the_fit m rights fit.Fits is-fit).0 refl) refl (covered a right is-fit))
    of-answer a right told (fitted (fit.Breaks row flow) is-fit within pays is) =
        let law = law_of_the_fit m rights (fit.Breaks row flow) is-fit in
        as-told _ is (rights_break a row flow told within pays (λ feasible. other (law.1 feasible)) is-fit refl)
      where
        other : fit.Breaks row flow ≡ fit.Fits → ⊥
        other bad = cc bad
    of-answer a right told (passed p pair within is) = as-told _ is (rights_pass a p told pair within refl)

    of-outcome : (o : Outcome Fraction) → IsRightOutcome bound m [] o → IsSettledOutcome bound m o → IsOutcomeWithin bound o → TellsOutcome bound m rights o t → IsEntitled bound m rights text s
    of-outcome (outcome.Cleared a) right settled within told = of-answer a right.0 (told-answer law_of_reserve bound m a market right.0 right.1 settled within) told
    of-outcome (outcome.Infeasible f) right settled within is = as-told _ is (nothing_qualifies f (λ x. law_of_infeasibility m f.duals x market right.shows) right within refl)
    of-outcome (outcome.Range p) right settled within is = as-told _ is (clear_passes p right within refl)

pub law_of_rights : LawOfTheReserve → LawOfCoveredPayments → LawOfRights
law_of_rights law_of_reserve law_of_payments words files text s m rights prints asks =
    let p = printed words files text s prints in
    let tells = rights-told files words p.telling p.written (Ok (record { market = m; rights = rights })) p.answers asks in
    of-outcome (most_of asks.names.bits) m rights p.telling text s p.text_is p.status_is law_of_reserve law_of_payments tells.market tells.rights tells.entitles.outcome tells.entitles.right tells.entitles.priced tells.entitles.within tells.entitles.told

-- ---- migrate
-- what is written is the certificate, to the file that is named for it
migrate-written : (files : Files) (words : List (List ℕ)) (t : Telling) (w : List (List ℕ × List ℕ)) (old out : List ℕ) (bits : NumberBits) → AsksMigrate words old out bits → AnswersTo (Some files) words t w
    → w ≡ named_outputs (certified (Some out)) t.outputs
migrate-written files words t _ old out bits asks (migrated old' out' bits' asked told) = ap (λ f. named_outputs (certified (Some f)) t.outputs) (migrates-once words old' old out' out bits' bits asked asks).1
migrate-written files words t _ old out bits asks (refused nothing usage) = absurd (not-refused words _ asks.rows nothing asks.enters)
migrate-written files words t _ old out bits asks (pooled case offers asked told) = absurd (no-other words (codes "pool") (codes "migrate") asked.rows asks.rows refl asked.enters asks.enters)
migrate-written files words t _ old out bits asks (cleared names file asked told) = absurd (no-other words (codes "clear") (codes "migrate") asked.rows asks.rows refl asked.enters asks.enters)
migrate-written files words t _ old out bits asks (replayed names edits file asked told) = absurd (no-other words (codes "replay") (codes "migrate") asked.rows asks.rows refl asked.enters asks.enters)
migrate-written files words t _ old out bits asks (verified names edits certificate asked told) = absurd (no-other words (codes "verify") (codes "migrate") asked.rows asks.rows refl asked.enters asks.enters)
migrate-written files words t _ old out bits asks (entitled names held asked told) = absurd (no-other words (codes "rights") (codes "migrate") asked.rows asks.rows refl asked.enters asks.enters)
migrate-written files words t _ old out bits asks (checked names asked told) = absurd (no-other words (codes "check") (codes "migrate") asked.rows asks.rows refl asked.enters asks.enters)
migrate-written files words t _ old out bits asks (factored names asked told) = absurd (no-other words (codes "factors") (codes "migrate") asked.rows asks.rows refl asked.enters asks.enters)
migrate-written files words t _ old out bits asks (made buses seed asked told) = absurd (no-other words (codes "make") (codes "migrate") asked.rows asks.rows refl asked.enters asks.enters)

pub law_of_migrate : LawOfMigrate
law_of_migrate words files later text s c run now asks =
    let p = printed words files text s run in
    let tells = migrate-told files words p.telling p.written (Ok c) p.answers asks in
    let put : p.telling.outputs.certificate ≡ Some (cert_text c) = ap (λ (x : Telling). x.outputs.certificate) tells in
    let written = migrate-written files words p.telling p.written asks.certificate asks.out asks.bits asks.asks p.answers ∙ ap (λ b. named_bytes (Some asks.out) b []) put in
    record {
      done = sym p.status_is ∙ ap (λ (x : Telling). x.status) tells;
      said = sym p.text_is ∙ ap (λ (x : Telling). x.text) tells;
      written = kept-as files later asks.out (Some (cert_text c)) p.written run.after.files written now p.kept;
      read = law_of_migration (most_of asks.bits) asks.stand.certificate c (read-in (most_of asks.bits) (refusal.TooLong input.Certificate) asks.stand.certificate c asks.stand.read);
    }
