-- What verifying a certificate against a market comes to.
use Rattle.std.specs.Prelude.{◌≡◌, ℕ, Option, Some, None}
use Rattle.fraction_theory.specs.Fraction.{Fraction}
use Rattle.exact_fraction.specs.declared.Passed.{Passed}
use Rattle.market_model.specs.declared.participants.Parts.{Parts}
use Rattle.market_model.specs.Market.{IsMarket}
use Rattle.report_text.specs.Reports.{range_text}
use Rattle.cert_format.specs.declared.certificate.Cert.{Cert}
use Rattle.cert_verify.specs.Certificates.{first_reason}
use Rattle.cert_verify.specs.Stops.{IsCertificateStop}
use Rattle.cert_verify.specs.declared.verdicts.Reason.{Reason}
use Rattle.command_answers.specs.declared.status.Status.{Status}
use Rattle.command_answers.specs.declared.status.Status.TheVariants as status
use Rattle.command_answers.specs.Bounds.{ArePassedWithin}
use Rattle.command_answers.specs.Inputs.{MarketCertificate}
use Rattle.command_answers.specs.Tellings.{Telling, uncertified}
use Rattle.command_answers.specs.Verdicts.{verdict_line}

-- a certificate holds where there is no reason against it
abbrev pub verdict_status : Option Reason → Status
verdict_status None = status.Done
verdict_status (Some r) = status.Refuted

-- What is told is whether the certificate holds of the market, with the first reason where it does not; or two numbers of the
-- certificate's own sums, each within the bound, whose outcome passes it, where none of the reasons before such a sum holds.
pub data VerifiesTo (bound : ℕ) (m : Parts) (c : Cert Fraction) (t : Telling) : Type 0 where
  judged : t ≡ uncertified (verdict_status (first_reason m c)) (verdict_line (first_reason m c)) → VerifiesTo bound m c t
  passed : (p : Passed Fraction) → IsCertificateStop m bound c p → ArePassedWithin bound p → t ≡ uncertified status.Range (range_text p) → VerifiesTo bound m c t

-- the same of a market, which keeps what every market keeps
abbrev pub TellsVerdict : ℕ → MarketCertificate → Telling → Type 0
TellsVerdict bound v t = IsMarket v.market × VerifiesTo bound v.market v.certificate t
