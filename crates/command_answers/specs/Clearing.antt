-- What clearing a market comes to.
use Rattle.std.specs.Prelude.{◌≡◌, ℕ, [], IfSome}
use Rattle.fraction_theory.specs.Fraction.{Fraction}
use Rattle.market_model.specs.declared.participants.Parts.{Parts}
use Rattle.market_model.specs.declared.answered.Outcome.{Outcome}
use Rattle.market_model.specs.declared.answered.Outcome.TheVariants as outcome
use Rattle.market_model.specs.Market.{IsMarket}
use Rattle.market_system.specs.Outcomes.{IsRightOutcome}
use Rattle.report_text.specs.Reports.{report_text}
use Rattle.settled_answer.specs.Settled.{IsSettledOutcome}
use Rattle.cert_format.specs.Certificates.{NumbersFit, cert_of_outcome}
use Rattle.cert_format.specs.Written.{certificate_of}
use Rattle.command_answers.specs.Bounds.{IsOutcomeWithin}
use Rattle.command_answers.specs.declared.status.Status.{Status}
use Rattle.command_answers.specs.declared.status.Status.TheVariants as status
use Rattle.command_answers.specs.Tellings.{Telling, certified}

-- the status of what a clear came to
abbrev pub status_of : Outcome Fraction → Status
status_of (outcome.Cleared a) = status.Done
status_of (outcome.Infeasible f) = status.Infeasible
status_of (outcome.Range p) = status.Range

-- what is told is the report of an outcome of a market with its status, and its certificate, whose numbers are within their bounds
pub record TellsCertified (bound : ℕ) (m : Parts) (o : Outcome Fraction) (t : Telling) : Type 0 where
  pub status_is : t.status ≡ status_of o
  pub text_is : t.text ≡ report_text m o
  pub certificate_is : t.outputs ≡ certified (certificate_of m.factor_places m.reserve.listed o)
  pub certificate_fits : IfSome (cert_of_outcome m.factor_places m.reserve.listed o) (NumbersFit bound)

-- What is told is that of a right outcome of the market, with no limits taken before: the report of a right answer, of duals that show
-- that no dispatch is feasible, or of two numbers of the market whose outcome passes the bound; each number of it is within the bound. An answer
-- has the first prices of its dispatch, or a number passed the bound on the way to these. Its certificate is that of the answer, or of the duals,
-- with a part on reserve where the market lists it, and its numbers are within their bounds.
pub record ClearsTo (bound : ℕ) (m : Parts) (t : Telling) : Type 0 where
  pub outcome : Outcome Fraction
  pub right : IsRightOutcome bound m [] outcome
  pub priced : IsSettledOutcome bound m outcome
  pub within : IsOutcomeWithin bound outcome
  pub told : TellsCertified bound m outcome t

-- the same of a market, which keeps what every market keeps
abbrev pub TellsClear : ℕ → Parts → Telling → Type 0
TellsClear bound m t = IsMarket m × ClearsTo bound m t
