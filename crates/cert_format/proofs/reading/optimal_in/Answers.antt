use Rattle.std.proofs.Common.{rules, ◌≡◌, ◌∙◌, sym, ap, refl, Ok, Err, map, codes}
use Rattle.std.specs.Prelude.{option_map}
use Rattle.serde_json.specs.View.{view}
use Rattle.market_model.specs.Valued.{dual_at}
use Rattle.cert_format.specs.declared.certificate.Cert.TheVariants as cert
use Rattle.cert_format.specs.declared.certificate.Key.TheVariants as key
use Rattle.cert_format.specs.declared.forms.Kind.TheVariants as kind
use Rattle.cert_format.specs.Certificates.{cert_at, cleared_reserve_at}
use Rattle.cert_format.specs.Grammar.{check, cleared_reserve_in, fractions_at, has_size, limits_in, member_count, need, optimal_in, places_in, reserve_in}
use Rattle.cert_format.proofs.GivesLemmas.{fails-further, need-some}
use Rattle.cert_format.proofs.reading.optimal_in.Goals as goal

pub returns-in_err-blocks : goal.returns-in_err-blocks
unfolding optimal_in
returns-in_err-blocks g c =
    let most = g.N.Exact.bound in
    let d = view c.args.value.now in
    let given : c.from_residual.result ≡ Err c.in_err-blocks.field-0.0 = search rules in
    rw given (fails-further key.Blocks (fractions_at most (codes "blocks") d) (λ blocks. need key.Limits (limits_in most c.args.version d) (λ limits. need key.Places (places_in c.args.version d) (λ places. need key.Reserve (reserve_in (cleared_reserve_in most) c.args.version d) (λ reserve. check key.Extra (has_size (member_count c.args.version kind.Optimal) d) (Ok (cert.Optimal blocks (g.N.Exact.value c.args.energy) limits places reserve))))))
    (map g.N.Exact.value) (cert_at g.N.Exact.value) c.in_err-blocks.field-0.0 c.in_err-blocks.ensures)

pub returns-in_err-limits : goal.returns-in_err-limits
unfolding optimal_in
returns-in_err-limits g c =
    let most = g.N.Exact.bound in
    let d = view c.args.value.now in
    let blocks = need-some key.Blocks (fractions_at most (codes "blocks") d) (map g.N.Exact.value c.in_ok-blocks.blocks) c.in_ok-blocks.ensures in
    let given : c.from_residual-in_err-limits.result ≡ Err c.in_err-limits.field-0.0 = search rules in
    rw (given, blocks) (fails-further key.Limits (limits_in most c.args.version d) (λ limits. need key.Places (places_in c.args.version d) (λ places. need key.Reserve (reserve_in (cleared_reserve_in most) c.args.version d) (λ reserve. check key.Extra (has_size (member_count c.args.version kind.Optimal) d) (Ok (cert.Optimal (map g.N.Exact.value c.in_ok-blocks.blocks) (g.N.Exact.value c.args.energy) limits places reserve)))))
    (map (dual_at g.N.Exact.value)) (cert_at g.N.Exact.value) c.in_err-limits.field-0.0 c.in_err-limits.ensures)

pub returns-in_default : goal.returns-in_default
unfolding optimal_in
returns-in_default g c =
    let most = g.N.Exact.bound in
    let d = view c.args.value.now in
    let blocks = need-some key.Blocks (fractions_at most (codes "blocks") d) (map g.N.Exact.value c.in_ok-blocks.blocks) c.in_ok-blocks.ensures in
    let limits = need-some key.Limits (limits_in most c.args.version d) (map (dual_at g.N.Exact.value) c.in_ok-limits.limits) c.in_ok-limits.ensures in
    let places = sym c.places_in.ensures ∙ c.in_default.is in
    rw (blocks, limits, places) refl

pub returns-in_err-reserve : goal.returns-in_err-reserve
unfolding optimal_in
returns-in_err-reserve g c =
    let most = g.N.Exact.bound in
    let d = view c.args.value.now in
    let blocks = need-some key.Blocks (fractions_at most (codes "blocks") d) (map g.N.Exact.value c.in_ok-blocks.blocks) c.in_ok-blocks.ensures in
    let limits = need-some key.Limits (limits_in most c.args.version d) (map (dual_at g.N.Exact.value) c.in_ok-limits.limits) c.in_ok-limits.ensures in
    let places = sym c.places_in.ensures ∙ c.in-Some.is in
    let given : c.from_residual-in_err-reserve.result ≡ Err c.in_err-reserve.field-0.0 = search rules in
    rw (given, blocks, limits, places) (fails-further key.Reserve (reserve_in (cleared_reserve_in most) c.args.version d) (λ reserve. check key.Extra (has_size (member_count c.args.version kind.Optimal) d) (Ok (cert.Optimal (map g.N.Exact.value c.in_ok-blocks.blocks) (g.N.Exact.value c.args.energy) (map (dual_at g.N.Exact.value) c.in_ok-limits.limits) c.in-Some.places reserve)))
    (option_map (cleared_reserve_at g.N.Exact.value)) (cert_at g.N.Exact.value) c.in_err-reserve.field-0.0 c.in_err-reserve.ensures)

pub returns-then-not-has_size : goal.returns-then-not-has_size
unfolding optimal_in
returns-then-not-has_size g c =
    let most = g.N.Exact.bound in
    let d = view c.args.value.now in
    let blocks = need-some key.Blocks (fractions_at most (codes "blocks") d) (map g.N.Exact.value c.in_ok-blocks.blocks) c.in_ok-blocks.ensures in
    let limits = need-some key.Limits (limits_in most c.args.version d) (map (dual_at g.N.Exact.value) c.in_ok-limits.limits) c.in_ok-limits.ensures in
    let places = sym c.places_in.ensures ∙ c.in-Some.is in
    let reserve = need-some key.Reserve (reserve_in (cleared_reserve_in most) c.args.version d) (option_map (cleared_reserve_at g.N.Exact.value) c.in_ok-reserve.reserve) c.in_ok-reserve.ensures in
    let size = ap (λ n. has_size n d) (sym c.member_count.ensures) ∙ sym c.has_size.ensures ∙ c.if-not-has_size.true in
    rw (blocks, limits, places, reserve, size) refl

pub returns : goal.returns
unfolding optimal_in
returns g c =
    let most = g.N.Exact.bound in
    let d = view c.args.value.now in
    let blocks = need-some key.Blocks (fractions_at most (codes "blocks") d) (map g.N.Exact.value c.in_ok-blocks.blocks) c.in_ok-blocks.ensures in
    let limits = need-some key.Limits (limits_in most c.args.version d) (map (dual_at g.N.Exact.value) c.in_ok-limits.limits) c.in_ok-limits.ensures in
    let places = sym c.places_in.ensures ∙ c.in-Some.is in
    let reserve = need-some key.Reserve (reserve_in (cleared_reserve_in most) c.args.version d) (option_map (cleared_reserve_at g.N.Exact.value) c.in_ok-reserve.reserve) c.in_ok-reserve.ensures in
    let size = ap (λ n. has_size n d) (sym c.member_count.ensures) ∙ sym c.has_size.ensures ∙ c.if-not-has_size.false in
    rw (blocks, limits, places, reserve, size) refl
