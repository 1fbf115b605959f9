use Rattle.std.proofs.Common.{rules, ◌≡◌, Ok, Err, map}
use Rattle.std.specs.Prelude.{option_and_then}
use Rattle.serde_json.specs.View.{items_view}
use Rattle.market_model.specs.Valued.{dual_at}
use Rattle.cert_format.specs.declared.certificate.Key.TheVariants as key
use Rattle.cert_format.specs.Grammar.{each, if_distinct, limit_in}
use Rattle.cert_format.proofs.GivesLemmas.{fails-further}
use Rattle.cert_format.proofs.reading.limits_of.Goals as goal

pub returns-in_err-read_limits : goal.returns-in_err-read_limits
returns-in_err-read_limits g c =
    let seen = map (dual_at g.N.Exact.value) in
    let given : c.from_residual.result ≡ Err c.in_err-read_limits.field-0.0 = search rules in
    rw given (fails-further {X = Unit {0}} key.Limits (option_and_then if_distinct (each (limit_in g.N.Exact.bound c.args.version) (items_view c.args.values.now))) (λ xs. Ok xs)
    (λ _. seen c.read_limits.new.limits) seen c.in_err-read_limits.field-0.0 c.in_err-read_limits.ensures)
