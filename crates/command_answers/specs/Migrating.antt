-- What writing a certificate anew comes to.
use Rattle.std.specs.Prelude.{◌≡◌, Some, codes}
use Rattle.fraction_theory.specs.Fraction.{Fraction}
use Rattle.cert_format.specs.Written.{cert_text}
use Rattle.cert_format.specs.declared.certificate.Cert.{Cert}
use Rattle.command_answers.specs.declared.status.Status.TheVariants as status
use Rattle.command_answers.specs.Tellings.{Telling, certified}

-- what is told is that it is done, and what there is to write is the text of the certificate, in the version that is written today
abbrev pub TellsMigration : Cert Fraction → Telling → Type 0
TellsMigration c t = t ≡ record { status = status.Done; text = codes "migrated\n"; outputs = certified (Some (cert_text c)) }
