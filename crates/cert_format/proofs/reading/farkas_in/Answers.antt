use Rattle.std.proofs.Common.{rules, ◌≡◌, ◌∙◌, sym, ap, refl, Ok, Err, map, true, false, codes}
use Rattle.std.specs.Prelude.{is_none, option_map}
use Rattle.serde_json.specs.Find.{get}
use Rattle.serde_json.specs.View.{view}
use Rattle.market_model.specs.Valued.{dual_at}
use Rattle.cert_format.specs.declared.certificate.Cert.TheVariants as cert
use Rattle.cert_format.specs.declared.certificate.Key.TheVariants as key
use Rattle.cert_format.specs.declared.forms.Kind.TheVariants as kind
use Rattle.cert_format.specs.Certificates.{cert_at, reserve_duals_at}
use Rattle.cert_format.specs.Grammar.{check, farkas_in, has_size, limits_in, member_count, need, places_in, reserve_duals_in, reserve_in}
use Rattle.cert_format.proofs.GivesLemmas.{fails-further, need-some, none-of}
use Rattle.cert_format.proofs.reading.farkas_in.Goals as goal

pub returns-then-is_some : goal.returns-then-is_some
unfolding farkas_in
returns-then-is_some g c =
    let d = view c.args.value.now in
    let there : is_none (get (codes "blocks") d) ≡ false = none-of c.get.result (λ v. view v.now) (get (codes "blocks") d) true c.get.ensures (sym c.is_some.ensures ∙ c.if-is_some.true) in
    rw there refl

pub returns-in_err-limits : goal.returns-in_err-limits
unfolding farkas_in
returns-in_err-limits g c =
    let most = g.N.Exact.bound in
    let d = view c.args.value.now in
    let lacking : is_none (get (codes "blocks") d) ≡ true = none-of c.get.result (λ v. view v.now) (get (codes "blocks") d) false c.get.ensures (sym c.is_some.ensures ∙ c.if-is_some.false) in
    let given : c.from_residual.result ≡ Err c.in_err-limits.field-0.0 = search rules in
    rw (given, lacking) (fails-further key.Limits (limits_in most c.args.version d) (λ limits. need key.Places (places_in c.args.version d) (λ places. need key.Reserve (reserve_in (reserve_duals_in 2 most) c.args.version d) (λ reserve. check key.Extra (has_size (member_count c.args.version kind.Farkas) d) (Ok (cert.Farkas (g.N.Exact.value c.args.energy) limits places reserve)))))
    (map (dual_at g.N.Exact.value)) (cert_at g.N.Exact.value) c.in_err-limits.field-0.0 c.in_err-limits.ensures)

pub returns-in_default : goal.returns-in_default
unfolding farkas_in
returns-in_default g c =
    let most = g.N.Exact.bound in
    let d = view c.args.value.now in
    let lacking : is_none (get (codes "blocks") d) ≡ true = none-of c.get.result (λ v. view v.now) (get (codes "blocks") d) false c.get.ensures (sym c.is_some.ensures ∙ c.if-is_some.false) in
    let limits = need-some key.Limits (limits_in most c.args.version d) (map (dual_at g.N.Exact.value) c.in_ok-limits.limits) c.in_ok-limits.ensures in
    let places = sym c.places_in.ensures ∙ c.in_default.is in
    rw (lacking, limits, places) refl

pub returns-in_err-reserve : goal.returns-in_err-reserve
unfolding farkas_in
returns-in_err-reserve g c =
    let most = g.N.Exact.bound in
    let d = view c.args.value.now in
    let lacking : is_none (get (codes "blocks") d) ≡ true = none-of c.get.result (λ v. view v.now) (get (codes "blocks") d) false c.get.ensures (sym c.is_some.ensures ∙ c.if-is_some.false) in
    let limits = need-some key.Limits (limits_in most c.args.version d) (map (dual_at g.N.Exact.value) c.in_ok-limits.limits) c.in_ok-limits.ensures in
    let places = sym c.places_in.ensures ∙ c.in-Some.is in
    let given : c.from_residual-in_err-reserve.result ≡ Err c.in_err-reserve.field-0.0 = search rules in
    rw (given, lacking, limits, places) (fails-further key.Reserve (reserve_in (reserve_duals_in 2 most) c.args.version d) (λ reserve. check key.Extra (has_size (member_count c.args.version kind.Farkas) d) (Ok (cert.Farkas (g.N.Exact.value c.args.energy) (map (dual_at g.N.Exact.value) c.in_ok-limits.limits) c.in-Some.places reserve)))
    (option_map (reserve_duals_at g.N.Exact.value)) (cert_at g.N.Exact.value) c.in_err-reserve.field-0.0 c.in_err-reserve.ensures)

pub returns-then-not-has_size : goal.returns-then-not-has_size
unfolding farkas_in
returns-then-not-has_size g c =
    let most = g.N.Exact.bound in
    let d = view c.args.value.now in
    let lacking : is_none (get (codes "blocks") d) ≡ true = none-of c.get.result (λ v. view v.now) (get (codes "blocks") d) false c.get.ensures (sym c.is_some.ensures ∙ c.if-is_some.false) in
    let limits = need-some key.Limits (limits_in most c.args.version d) (map (dual_at g.N.Exact.value) c.in_ok-limits.limits) c.in_ok-limits.ensures in
    let places = sym c.places_in.ensures ∙ c.in-Some.is in
    let reserve = need-some key.Reserve (reserve_in (reserve_duals_in 2 most) c.args.version d) (option_map (reserve_duals_at g.N.Exact.value) c.in_ok-reserve.reserve) c.in_ok-reserve.ensures in
    let size = ap (λ n. has_size n d) (sym c.member_count.ensures) ∙ sym c.has_size.ensures ∙ c.if-not-has_size.true in
    rw (lacking, limits, places, reserve, size) refl

pub returns : goal.returns
unfolding farkas_in
returns g c =
    let most = g.N.Exact.bound in
    let d = view c.args.value.now in
    let lacking : is_none (get (codes "blocks") d) ≡ true = none-of c.get.result (λ v. view v.now) (get (codes "blocks") d) false c.get.ensures (sym c.is_some.ensures ∙ c.if-is_some.false) in
    let limits = need-some key.Limits (limits_in most c.args.version d) (map (dual_at g.N.Exact.value) c.in_ok-limits.limits) c.in_ok-limits.ensures in
    let places = sym c.places_in.ensures ∙ c.in-Some.is in
    let reserve = need-some key.Reserve (reserve_in (reserve_duals_in 2 most) c.args.version d) (option_map (reserve_duals_at g.N.Exact.value) c.in_ok-reserve.reserve) c.in_ok-reserve.ensures in
    let size = ap (λ n. has_size n d) (sym c.member_count.ensures) ∙ sym c.has_size.ensures ∙ c.if-not-has_size.false in
    rw (lacking, limits, places, reserve, size) refl
