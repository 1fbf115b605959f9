-- What is told of a ring that was cleared.
use Rattle.std.proofs.Common.{◌≡◌, sym, subst, ℕ, [], ◌++◌}
use Rattle.fraction_theory.specs.Fraction.{Fraction}
use Rattle.exact_fraction.specs.declared.Passed.{Passed}
use Rattle.market_model.specs.declared.participants.Parts.{Parts}
use Rattle.market_model.specs.declared.answered.Answer.{Answer}
use Rattle.market_model.specs.declared.answered.Farkas.{Farkas}
use Rattle.market_model.specs.declared.answered.Outcome.{Outcome}
use Rattle.market_model.specs.declared.answered.Outcome.TheVariants as outcome
use Rattle.market_model.specs.Market.{IsMarket}
use Rattle.market_model.specs.Optimality.{Feasible, all_of}
use Rattle.market_model.specs.RightAnswers.{dispatch_in}
use Rattle.market_model.specs.Valued.{answer_at, farkas_at, outcome_at, passed_at}
use Rattle.market_model.proofs.FarkasLaw.{law_of_infeasibility}
use Rattle.market_system.specs.Outcomes.{IsRightOutcome}
use Rattle.market_system.specs.Ties.{IsFirstFor}
use Rattle.report_text.specs.Reports.{report_text}
use Rattle.case_maker.specs.Rings.{ring_of}
use Rattle.case_maker.proofs.Serving.{is-feasible, serving}
use Rattle.settled_answer.specs.Settled.{IsSettledAnswer, IsSettledOutcome}
use Rattle.command_answers.specs.Bounds.{IsAnswerWithin, IsOutcomeWithin}
use Rattle.command_answers.specs.Making.{MakesTo, cleared, counts, passed, summary, title}
use Rattle.command_answers.specs.Tellings.{Telling, uncertified}
use Rattle.command_answers.specs.declared.status.Status.TheVariants as status

module _ {N : Type 0} (value : N → Fraction) (bound : ℕ) (buses seed : ℕ) (m : Parts) (ring : m ≡ ring_of buses seed) (o : Outcome N) (right : IsRightOutcome bound m [] (outcome_at value o)) where
  pub ring_cleared : (a : Answer N) (t : Telling) → IsMarket m → o ≡ outcome.Cleared a → IsSettledOutcome bound m (outcome_at value o) → IsOutcomeWithin bound (outcome_at value o)
      → t ≡ uncertified status.Done ((title buses seed ++ counts m) ++ summary (answer_at value a)) → MakesTo bound buses seed t
  ring_cleared a t market is priced within told =
      let here = subst (λ (x : Outcome N). IsRightOutcome bound m [] (outcome_at value x)) is right in
      let numbers : IsAnswerWithin bound (answer_at value a) = subst (λ (x : Outcome N). IsOutcomeWithin bound (outcome_at value x)) is within in
      let right_here = here.0 in
      let settled : IsSettledAnswer bound m (answer_at value a) = subst (λ (x : Outcome N). IsSettledOutcome bound m (outcome_at value x)) is priced in
      let first = subst (λ (x : Parts). IsFirstFor x (all_of x) (dispatch_in (answer_at value a))) ring here.1 in
      cleared (answer_at value a) (subst IsMarket ring market) (rw ring at right_here) first (subst (λ (x : Parts). IsSettledAnswer bound x (answer_at value a)) ring settled) numbers (rw ring at told)

  pub ring_passed : (p : Passed N) (t : Telling) → o ≡ outcome.Range p → IsOutcomeWithin bound (outcome_at value o)
      → t ≡ uncertified status.Range ((title buses seed ++ counts m) ++ report_text m (outcome_at value o)) → MakesTo bound buses seed t
  ring_passed p t is within told =
      let here = subst (λ (x : Outcome N). IsRightOutcome bound m [] (outcome_at value x)) is right in
      let sides = subst (λ (x : Outcome N). IsOutcomeWithin bound (outcome_at value x)) is within in
      let text = subst (λ (x : Outcome N). t ≡ uncertified status.Range ((title buses seed ++ counts m) ++ report_text m (outcome_at value x))) is told in
      passed (passed_at value p) (rw ring at here) sides (rw ring at text)

  pub ring_served : (f : Farkas N) → o ≡ outcome.Infeasible f → IsMarket m → ⊥
  ring_served f is market =
      let here = subst (λ (x : Outcome N). IsRightOutcome bound m [] (outcome_at value x)) is right in
      law_of_infeasibility m (farkas_at value f).duals (serving buses seed) market here.shows (subst (λ x. Feasible x (serving buses seed)) (sym ring) (is-feasible buses seed (subst IsMarket ring market)))
