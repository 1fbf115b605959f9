use Rattle.std.proofs.Common.{◌≡◌, ◌∙◌, pos, ap, sym, cond, Some, unsigned_abs}
use Rattle.std.specs.Prelude.{position}
use Rattle.std.proofs.lemmas.Option.{none-some}
use Rattle.fraction_theory.specs.Fraction.{neg_ℚ, whole}
use Rattle.cert_format.specs.FractionTexts.{is_slash}
use Rattle.cert_format.proofs.QuotientLemmas.{below_is, den_is, not_none, num_is, place_is, signed-without_sign, value_by}
use Rattle.cert_format.proofs.fractions.quotient.Goals as goal

pub returns-in_err-place : goal.returns-in_err-place
returns-in_err-place g c = λ x h. absurd (none-some _ (sym c.in_err-place.was ∙ c.slash.ensures ∙ place_is g.N.Exact.bound c.args.text.now x h))

pub returns-in_err-num : goal.returns-in_err-num
returns-in_err-num g c = λ x h.
    let at : position is_slash c.args.text.now ≡ Some c.in_ok-place.place = sym c.slash.ensures ∙ c.in_ok-place.was in
    let digits = c.behind_sign-below.ensures.rest ∙ num_is g.N.Exact.bound c.args.text.now x h c.in_ok-place.place at in
    not_none g.N.Exact.value c.number.result (whole (pos (unsigned_abs x.num))) (c.number.ensures (unsigned_abs x.num) h.fits.num digits) c.in_err-num.was

pub returns-in_err-den : goal.returns-in_err-den
returns-in_err-den g c = λ x h.
    let at : position is_slash c.args.text.now ≡ Some c.in_ok-place.place = sym c.slash.ensures ∙ c.in_ok-place.was in
    not_none g.N.Exact.value c.number-2.result (whole (pos x.den)) (c.number-2.ensures x.den h.fits.den (den_is g.N.Exact.bound c.args.text.now x h c.in_ok-place.place at)) c.in_err-den.was

pub returns-in_err-size : goal.returns-in_err-size
returns-in_err-size g c = λ x h.
    let at : position is_slash c.args.text.now ≡ Some c.in_ok-place.place = sym c.slash.ensures ∙ c.in_ok-place.was in
    let digits = c.behind_sign-below.ensures.rest ∙ num_is g.N.Exact.bound c.args.text.now x h c.in_ok-place.place at in
    let num = value_by g.N.Exact.value c.number.result c.in_ok-num.num (whole (pos (unsigned_abs x.num))) (c.number.ensures (unsigned_abs x.num) h.fits.num digits) c.in_ok-num.was in
    let den = value_by g.N.Exact.value c.number-2.result c.in_ok-den.den (whole (pos x.den)) (c.number-2.ensures x.den h.fits.den (den_is g.N.Exact.bound c.args.text.now x h c.in_ok-place.place at)) c.in_ok-den.was in
    not_none g.N.Exact.value c.ratio.result _ (c.ratio.ensures x h.fits num den) c.in_err-size.was

pub returns : goal.returns
returns g c = λ x h.
    let at : position is_slash c.args.text.now ≡ Some c.in_ok-place.place = sym c.slash.ensures ∙ c.in_ok-place.was in
    let digits = c.behind_sign-below.ensures.rest ∙ num_is g.N.Exact.bound c.args.text.now x h c.in_ok-place.place at in
    let num = value_by g.N.Exact.value c.number.result c.in_ok-num.num (whole (pos (unsigned_abs x.num))) (c.number.ensures (unsigned_abs x.num) h.fits.num digits) c.in_ok-num.was in
    let den = value_by g.N.Exact.value c.number-2.result c.in_ok-den.den (whole (pos x.den)) (c.number-2.ensures x.den h.fits.den (den_is g.N.Exact.bound c.args.text.now x h c.in_ok-place.place at)) c.in_ok-den.was in
    let size = value_by g.N.Exact.value c.ratio.result c.in_ok-size.size _ (c.ratio.ensures x h.fits num den) c.in_ok-size.was in
    let below = c.behind_sign-below.ensures.below ∙ below_is g.N.Exact.bound c.args.text.now x h c.in_ok-place.place at in
    ap Some (c.signed.ensures ∙ ap (λ b. cond b (neg_ℚ (g.N.Exact.value c.in_ok-size.size)) (g.N.Exact.value c.in_ok-size.size)) below
    ∙ signed-without_sign x (g.N.Exact.value c.in_ok-size.size) size)
