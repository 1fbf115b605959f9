use Rattle.std.proofs.Common.{◌∙◌, ap, Some}
use Rattle.fraction_theory.specs.Fraction.{◌*ℚ◌}
use Rattle.cert_format.proofs.QuotientLemmas.{not_nil_by_either, quotient_fits, quotient_is, sign_not_zero}
use Rattle.cert_format.proofs.fractions.ratio.Goals as goal

pub returns-in-Zero : goal.returns-in-Zero
returns-in-Zero g c = λ x fits num den. absurd (sign_not_zero x.den c.sign.result (g.N.Exact.value c.args.den) x.above den c.sign.ensures c.in-Zero.is)

pub recip-requires : goal.recip-requires
recip-requires g c = not_nil_by_either (g.N.Exact.value c.args.den) c.sign.result c.sign.ensures c.in-Below.is

pub returns-in-Ok : goal.returns-in-Ok
returns-in-Ok g c = λ x fits num den.
    ap Some (quotient_is x (g.N.Exact.value c.args.num) (g.N.Exact.value c.args.den) (g.N.Exact.value c.in-Ok.ratio) num den
    (c.in-Ok.ensures.exact ∙ ap (λ u. g.N.Exact.value c.args.num *ℚ u) c.recip.ensures))

pub returns-in-Err : goal.returns-in-Err
returns-in-Err g c = λ x fits num den.
    absurd (quotient_fits g.N.Exact.bound x (g.N.Exact.value c.args.num) (g.N.Exact.value c.args.den) fits num den
    (rw c.recip.ensures at c.in-Err.ensures.passes))
