-- What the verdict on a certificate means.
use Rattle.std.specs.Prelude.{◌≡◌, ◌↔◌, List, Option}
use Rattle.fraction_theory.specs.Fraction.{Fraction}
use Rattle.market_data.specs.declared.scales.FactorPlaces.{FactorPlaces}
use Rattle.market_model.specs.declared.answered.Answer.{Answer}
use Rattle.market_model.specs.declared.answered.Dual.{Dual}
use Rattle.market_model.specs.declared.answered.Farkas as infeasible
use Rattle.market_model.specs.declared.participants.Parts.{Parts}
use Rattle.market_model.specs.Dispatch.{Dispatch}
use Rattle.market_model.specs.Infeasibility.{IsFarkas}
use Rattle.market_model.specs.Market.{IsMarket}
use Rattle.market_model.specs.Optimality.{Feasible, BestFor, all_of}
use Rattle.market_model.specs.RightAnswers.{IsRight}
use Rattle.cert_format.specs.declared.certificate.Cert.{Cert}
use Rattle.cert_format.specs.declared.certificate.Cert.TheVariants.{Optimal, Farkas}
use Rattle.cert_format.specs.declared.certificate.ClearedReserve.{ClearedReserve}
use Rattle.cert_format.specs.declared.certificate.ReserveDuals.{ReserveDuals}
use Rattle.cert_format.specs.Certificates.{RowsAreDistinct, cert_against, cert_of}
use Rattle.cert_verify.specs.Certificates.{IsTrueOf, dispatched, first_reason}
use Rattle.cert_verify.specs.Reasons.{verdict_of}
use Rattle.cert_verify.specs.declared.verdicts.Verdict.TheVariants.{Yes}

-- a certificate that names no row twice is answered by yes exactly where it is true of the market
abbrev pub LawOfTheVerdict : Type 0
LawOfTheVerdict = (m : Parts) (c : Cert Fraction) → RowsAreDistinct c → (verdict_of (first_reason m c) ≡ Yes) ↔ IsTrueOf m c

-- its dispatch is then feasible, and no feasible one is worth more
abbrev pub LawOfTheBest : Type 0
LawOfTheBest =
    (m : Parts) (blocks : List Fraction) (energy : Fraction) (limits : List (Dual Fraction)) (places : FactorPlaces) (reserve : Option (ClearedReserve Fraction)) → IsMarket m → RowsAreDistinct (Optimal blocks energy limits places reserve)
    → verdict_of (first_reason m (Optimal blocks energy limits places reserve)) ≡ Yes → BestFor m (all_of m) (dispatched blocks reserve)

-- or, of the other kind, nothing is feasible
abbrev pub LawOfNothingFeasible : Type 0
LawOfNothingFeasible =
    (m : Parts) (energy : Fraction) (limits : List (Dual Fraction)) (places : FactorPlaces) (reserve : Option (ReserveDuals Fraction)) → IsMarket m → RowsAreDistinct (Farkas energy limits places reserve)
    → verdict_of (first_reason m (Farkas energy limits places reserve)) ≡ Yes
    → (y : Dispatch) → ¬ (Feasible m y)

-- the certificate of a right answer is answered by yes
abbrev pub LawOfRightAnswers : Type 0
LawOfRightAnswers = (m : Parts) (a : Answer Fraction) → IsMarket m → IsRight m a → RowsAreDistinct (cert_of m.factor_places m.reserve.listed a) × (verdict_of (first_reason m (cert_of m.factor_places m.reserve.listed a)) ≡ Yes)

-- and that of duals that show a market infeasible
abbrev pub LawOfFarkasDuals : Type 0
LawOfFarkasDuals =
    (m : Parts) (f : infeasible.Farkas Fraction) → IsMarket m → IsFarkas m f → RowsAreDistinct (cert_against m.factor_places m.reserve.listed f) × (verdict_of (first_reason m (cert_against m.factor_places m.reserve.listed f)) ≡ Yes)
