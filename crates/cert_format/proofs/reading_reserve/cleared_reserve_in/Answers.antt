use Rattle.std.proofs.Common.{rules, ◌≡◌, refl, codes, Some, Err, map}
use Rattle.std.specs.Prelude.{option_and_then}
use Rattle.serde_json.specs.View.{view}
use Rattle.cert_format.specs.declared.certificate.Key.TheVariants as key
use Rattle.cert_format.specs.Certificates.{cleared_reserve_at, reserve_duals_at}
use Rattle.cert_format.specs.Grammar.{cleared_reserve_in, fractions_at, reserve_duals_in}
use Rattle.cert_format.proofs.GivesLemmas.{fails-within, need-some}
use Rattle.cert_format.proofs.reading_reserve.cleared_reserve_in.Goals as goal

pub returns-in_err-quantities : goal.returns-in_err-quantities
unfolding cleared_reserve_in
returns-in_err-quantities g c =
    let d = view c.args.value.now in
    let given : c.from_residual.result ≡ Err c.in_err-quantities.field-0.0 = search rules in
    rw given (fails-within key.Reserve (fractions_at g.N.Exact.bound (codes "quantities") d) (λ quantities. option_and_then (λ duals. Some (record { quantities = quantities; duals = duals })) (reserve_duals_in 3 g.N.Exact.bound d))
    (map g.N.Exact.value) (cleared_reserve_at g.N.Exact.value) c.in_err-quantities.field-0.0 c.in_err-quantities.ensures)

pub returns-in_err-duals : goal.returns-in_err-duals
unfolding cleared_reserve_in
returns-in_err-duals g c =
    let d = view c.args.value.now in
    let quantities = need-some key.Reserve (fractions_at g.N.Exact.bound (codes "quantities") d) (map g.N.Exact.value c.in_ok-quantities.quantities) c.in_ok-quantities.ensures in
    let given : c.from_residual-in_err-duals.result ≡ Err c.in_err-duals.field-0.0 = search rules in
    rw (given, quantities) (fails-within key.Reserve (reserve_duals_in 3 g.N.Exact.bound d) (λ duals. Some (record { quantities = map g.N.Exact.value c.in_ok-quantities.quantities; duals = duals }))
    (reserve_duals_at g.N.Exact.value) (cleared_reserve_at g.N.Exact.value) c.in_err-duals.field-0.0 c.in_err-duals.ensures)

pub returns : goal.returns
unfolding cleared_reserve_in
returns g c =
    let d = view c.args.value.now in
    let quantities = need-some key.Reserve (fractions_at g.N.Exact.bound (codes "quantities") d) (map g.N.Exact.value c.in_ok-quantities.quantities) c.in_ok-quantities.ensures in
    let duals = need-some key.Reserve (reserve_duals_in 3 g.N.Exact.bound d) (reserve_duals_at g.N.Exact.value c.in_ok-duals.duals) c.in_ok-duals.ensures in
    rw (quantities, duals) refl
