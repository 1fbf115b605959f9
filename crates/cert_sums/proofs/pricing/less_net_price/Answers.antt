use Rattle.std.proofs.Common.{rules, ◌≡◌, ◌∙◌, sym}
use Rattle.fraction_theory.specs.declared.Sign.TheVariants.{Zero}
use Rattle.fraction_theory.proofs.SignLaws.{sign_of_is}
use Rattle.cert_sums.proofs.NamedLemmas.{no_net_price}
use Rattle.cert_sums.proofs.pricing.less_net_price.Goals as goal

pub returns-then-eq-clause-sum : goal.returns-then-eq-clause-sum
returns-then-eq-clause-sum g c =
    let zero : c.sign.result ≡ Zero = search rules in
    no_net_price (g.N.Exact.value c.args.sum) (g.N.Exact.value c.args.up) (g.N.Exact.value c.args.down) (g.N.Exact.value c.args.factor) (sign_of_is (g.N.Exact.value c.args.factor) Zero (sym zero ∙ c.sign.ensures))
