use Rattle.std.proofs.Common.{rules, ◌≡◌, ◌∙◌, None, ap, map, ℕ, sym, subst}
use Rattle.std.proofs.lemmas.Result.{err_from_is_err_and}
use Rattle.fraction_theory.specs.Fraction.{Fraction}
use Rattle.market_model.specs.declared.participants.Parts.{Parts}
use Rattle.market_model.specs.declared.stops.Stop.{Stop}
use Rattle.market_model.specs.declared.stops.Stop.TheVariants as stop
use Rattle.market_model.specs.Stops.{StopsBy}
use Rattle.market_model.specs.Valued.{dual_at}
use Rattle.cert_format.specs.Certificates.{NamesNoRowTwice, cert_at, limit_duals_of, places_of}
use Rattle.cert_format.specs.declared.certificate.Cert.{Cert}
use Rattle.cert_verify.specs.Stops.{IsKindStop, IsVerifyStop, told_stop}
use Rattle.cert_verify.specs.Reasons.{places_reason}
use Rattle.cert_verify.proofs.PlacesLemmas.{places_at, places_to}
use Rattle.cert_verify.proofs.verifying.verify.Goals as goal

-- what is known of a stop is known of what it is told as, where places were looked at before
stopped : {N : Type 0} (value : N → Fraction) (m : Parts) (k : ℕ) (c : Cert N) → places_reason m (places_of c) ≡ None → (s : Stop N) → StopsBy value (IsKindStop m k (cert_at value c)) s → IsVerifyStop value m k (cert_at value c) (told_stop s)
stopped value m k c seen (stop.Passed p) h = record { places = places_at value c ∙ places_to m (places_of c) seen; refused = h }
stopped value m k c seen stop.Memory h = tt

pub against_optimal-requires : goal.against_optimal-requires
against_optimal-requires g c =
    let value = g.N.Exact.value in
    let same : limit_duals_of (cert_at value c.args.cert.now) ≡ map (dual_at value) c.new-duals.result.limits.now = search rules in
    subst NamesNoRowTwice same c.requires

pub against_farkas-requires : goal.against_farkas-requires
against_farkas-requires g c =
    let value = g.N.Exact.value in
    let same : limit_duals_of (cert_at value c.args.cert.now) ≡ map (dual_at value) c.new-duals-in-Farkas.result.limits.now = search rules in
    subst NamesNoRowTwice same c.requires

pub returns-in_err-reason-in-Optimal-clause-stops : goal.returns-in_err-reason-in-Optimal-clause-stops
returns-in_err-reason-in-Optimal-clause-stops g c =
    let value = g.N.Exact.value in
    let p = err_from_is_err_and c.from_residual.result c.from_residual.ensures.1 in
    let seen : places_reason c.args.market.now (places_of c.args.cert.now) ≡ None = ap (places_reason c.args.market.now) (sym c.places.ensures) ∙ sym c.other_places.ensures ∙ c.in_default.is in
    let here : StopsBy value (IsKindStop c.args.market.now g.N.Exact.bound (cert_at value c.args.cert.now)) c.in_err-reason-in-Optimal.field-0.0 = search rules in
    rw (p.1, p.2) (stopped value c.args.market.now g.N.Exact.bound c.args.cert.now seen c.in_err-reason-in-Optimal.field-0.0 here)

pub returns-in_err-reason-in-Farkas-clause-stops : goal.returns-in_err-reason-in-Farkas-clause-stops
returns-in_err-reason-in-Farkas-clause-stops g c =
    let value = g.N.Exact.value in
    let p = err_from_is_err_and c.from_residual-in_err-reason-in-Farkas.result c.from_residual-in_err-reason-in-Farkas.ensures.1 in
    let seen : places_reason c.args.market.now (places_of c.args.cert.now) ≡ None = ap (places_reason c.args.market.now) (sym c.places.ensures) ∙ sym c.other_places.ensures ∙ c.in_default.is in
    let here : StopsBy value (IsKindStop c.args.market.now g.N.Exact.bound (cert_at value c.args.cert.now)) c.in_err-reason-in-Farkas.field-0.0 = search rules in
    rw (p.1, p.2) (stopped value c.args.market.now g.N.Exact.bound c.args.cert.now seen c.in_err-reason-in-Farkas.field-0.0 here)
