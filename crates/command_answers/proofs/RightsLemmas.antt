-- What is told of rights.
use Rattle.std.specs.Prelude.{◌≡◌, ℕ, List, [], ◌∷◌, ◌++◌, codes, map, refl, slice_index_or}
use Rattle.std.proofs.Common.{◌∙◌, ap, append_assoc, subst}
use Rattle.fraction_theory.specs.Fraction.{Fraction}
use Rattle.exact_fraction.specs.Written.{written}
use Rattle.market_data.specs.Scales.{mw_places}
use Rattle.market_model.specs.declared.answered.Answer.{Answer}
use Rattle.market_model.specs.declared.answered.Outcome.TheVariants as outcome
use Rattle.market_model.specs.declared.answered.Price.{Price}
use Rattle.market_model.specs.declared.answered.RowId.{RowId}
use Rattle.market_model.specs.declared.participants.Parts.{Parts}
use Rattle.market_model.specs.declared.participants.TransmissionRight.{TransmissionRight}
use Rattle.market_model.specs.Dispatch.{zero}
use Rattle.market_model.specs.Valued.{answer_at, price_at, total_at}
use Rattle.report_text.specs.Reports.{report_text, row_text}
use Rattle.rights_test.specs.declared.right_parts.Fit.TheVariants.{Breaks}
use Rattle.command_answers.specs.Rights.{TellsFit, TellsOutcome}
use Rattle.command_answers.specs.RightsLines.{fit_text}
use Rattle.command_answers.specs.Tellings.{Telling}

-- the line of the first limit that rights break, word by word
pub broken-line : (t0 t1 t2 t3 t4 : List ℕ) (row : RowId) (flow : Fraction) → t1 ≡ t0 ++ codes "rights break " → t2 ≡ t1 ++ row_text row → t3 ≡ t2 ++ codes " flow " ++ written mw_places flow → t4 ≡ t3 ++ codes "\n"
    → t4 ≡ t0 ++ fit_text (Breaks row flow)
unfolding fit_text
broken-line t0 t1 t2 t3 t4 row flow e1 e2 e3 e4 =
    let begins = codes "rights break " in
    let middle = codes " flow " in
    let number = written mw_places flow in
    let ends = codes "\n" in
    e4 ∙ ap (λ t. t ++ ends) (e3 ∙ ap (λ t. t ++ middle ++ number) (e2 ∙ ap (λ t. t ++ row_text row) e1))
    ∙ ap (λ t. t ++ middle ++ number ++ ends) (append_assoc t0 begins (row_text row))
    ∙ ap (λ t. t ++ number ++ ends) (append_assoc t0 (begins ++ row_text row) middle)
    ∙ ap (λ t. t ++ ends) (append_assoc t0 (begins ++ row_text row ++ middle) number)
    ∙ append_assoc t0 (begins ++ row_text row ++ middle ++ number) ends

-- the prices of an answer are those of its fractions
totals : {N : Type 0} (value : N → Fraction) (prices : List (Price N)) → map (λ p. value p.total) prices ≡ map (λ p. p.total) (map (price_at value) prices)
totals value [] = refl
totals value (p ∷ prices) = ap (λ xs. value p.total ∷ xs) (totals value prices)

-- what is told behind the report of an answer is told of it
pub of-cleared : {N : Type 0} (value : N → Fraction) (bound : ℕ) (m : Parts) (rights : List TransmissionRight) (a : Answer N) (prices : List (Price N)) (reported : List ℕ) (t : Telling)
    → prices ≡ a.prices → reported ≡ report_text m (outcome.Cleared (answer_at value a)) → TellsFit bound m rights (total_at value prices) reported t → TellsOutcome bound m rights (outcome.Cleared (answer_at value a)) t
of-cleared value bound m rights a prices reported t same text tells =
    let report = report_text m (outcome.Cleared (answer_at value a)) in
    subst (λ price. TellsFit bound m rights price report t)
    (ap (total_at value) same ∙ ap (λ xs bus. slice_index_or xs bus zero) (totals value a.prices))
    (subst (λ r. TellsFit bound m rights (total_at value prices) r t) text tells)
