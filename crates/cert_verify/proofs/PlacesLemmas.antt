-- The places of factors that a certificate tells, and those of a market.
use Rattle.std.specs.Prelude.{◌≡◌, ◌==◌, true, None, Option, List, ◌∷◌, refl}
use Rattle.std.proofs.Common.{ap, sym}
use Rattle.std.proofs.lemmas.Bool.{eq-eqb, true≢false}
use Rattle.fraction_theory.specs.Fraction.{Fraction}
use Rattle.market_data.specs.Scales.{place_count}
use Rattle.market_data.specs.declared.scales.FactorPlaces.{FactorPlaces}
use Rattle.market_data.specs.declared.scales.FactorPlaces.TheVariants.{Six, Nine}
use Rattle.market_model.specs.declared.participants.Parts.{Parts}
use Rattle.cert_format.specs.Certificates.{cert_at, places_of}
use Rattle.cert_format.specs.declared.certificate.Cert.{Cert}
use Rattle.cert_format.specs.declared.certificate.Cert.TheVariants.{Optimal, Farkas}
use Rattle.cert_verify.specs.declared.verdicts.Reason.{Reason}
use Rattle.cert_verify.specs.declared.verdicts.Reason.TheVariants as reason
use Rattle.cert_verify.specs.Reasons.{first_of, places_reason}
use Rattle.cert_verify.proofs.TestLemmas.{not_false, not_so, not_true, so_none}

-- as many places are the same
same_places : (p q : FactorPlaces) → (place_count p == place_count q) ≡ true → p ≡ q
same_places Six Six e = refl
same_places Six Nine e = absurd (true≢false (sym e))
same_places Nine Six e = absurd (true≢false (sym e))
same_places Nine Nine e = refl

pub places_to : (m : Parts) (had : FactorPlaces) → places_reason m had ≡ None → had ≡ m.factor_places
places_to m had e = same_places had m.factor_places (not_false _ (not_so _ reason.Places e))

pub places_from : (m : Parts) (had : FactorPlaces) → had ≡ m.factor_places → places_reason m had ≡ None
places_from m had e = so_none _ reason.Places (not_true _ (eq-eqb _ _ (ap place_count e)))

-- they do not change with what numbers stand for
pub places_at : {N : Type 0} (value : N → Fraction) (c : Cert N) → places_of (cert_at value c) ≡ places_of c
places_at value (Optimal blocks energy limits places reserve) = refl
places_at value (Farkas energy limits places reserve) = refl

-- the first reason of a list, where its first has none
pub first_behind : (o : Option Reason) (os : List (Option Reason)) → o ≡ None → first_of (o ∷ os) ≡ first_of os
first_behind o os e = Prim.rw e refl
