-- Laws of the texts of certificates.
use Rattle.std.specs.Prelude.{◌≡◌, ◌↔◌, ℕ, List, Some, Ok}
use Rattle.fraction_theory.specs.Fraction.{Fraction}
use Rattle.cert_format.specs.declared.certificate.Cert.{Cert}
use Rattle.cert_format.specs.Certificates.{CertFits, NamesFit}
use Rattle.cert_format.specs.FractionTexts.{Spells, fraction_of_text}
use Rattle.cert_format.specs.Grammar.{cert_read}
use Rattle.cert_format.specs.Written.{cert_text}

-- a text is read as the fraction that it spells, and as none where it spells none
abbrev pub ReadsSpelling : Type 0
ReadsSpelling = (most : ℕ) (text : List ℕ) (x : Fraction) → (fraction_of_text most text ≡ Some x) ↔ Spells most text x

-- what is written is read back
abbrev pub ReadsBack : Type 0
ReadsBack = (most : ℕ) (c : Cert Fraction) → CertFits most c → cert_read most (cert_text c) ≡ Ok c

-- what is read has its numbers within their bounds, and names no row twice
abbrev pub ReadsWhatFits : Type 0
ReadsWhatFits = (most : ℕ) (bytes : List ℕ) (c : Cert Fraction) → cert_read most bytes ≡ Ok c → CertFits most c

-- what is written of a certificate that was read is read as the same one: so a text of any version is brought to the one that is written
abbrev pub LawOfMigration : Type 0
LawOfMigration = (most : ℕ) (bytes : List ℕ) (c : Cert Fraction) → cert_read most bytes ≡ Ok c → cert_read most (cert_text c) ≡ Ok c

-- a text that was written is read as what it was written of, by whatever bound it is read: numbers of rows and units have 32 bits
abbrev pub LawOfOneReading : Type 0
LawOfOneReading = (most : ℕ) (c d : Cert Fraction) → NamesFit c → cert_read most (cert_text c) ≡ Ok d → d ≡ c

-- and a text that was written is left as it is by that, where it is read at all: numbers of rows and units have 32 bits, others may be too large
abbrev pub LawOfMigratedTexts : Type 0
LawOfMigratedTexts = (most : ℕ) (c d : Cert Fraction) → NamesFit c → cert_read most (cert_text c) ≡ Ok d → cert_text d ≡ cert_text c
