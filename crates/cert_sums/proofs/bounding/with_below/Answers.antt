use Rattle.std.proofs.Common.{rules, ◌≡◌, ◌∙◌, sym}
use Rattle.fraction_theory.specs.declared.Sign.TheVariants.{Zero}
use Rattle.fraction_theory.proofs.SignLaws.{sign_of_is}
use Rattle.limit_rows.proofs.DualLemmas.{nothing_made}
use Rattle.cert_sums.proofs.bounding.with_below.Goals as goal

pub returns-then-eq-clause-sum : goal.returns-then-eq-clause-sum
returns-then-eq-clause-sum g c =
    let zero : c.sign.result ≡ Zero = search rules in
    nothing_made (g.N.Exact.value c.args.sum) (g.N.Exact.value c.args.price) _ (sign_of_is (g.N.Exact.value c.args.price) Zero (sym zero ∙ c.sign.ensures))
