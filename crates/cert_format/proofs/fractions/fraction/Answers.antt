use Rattle.std.proofs.Common.{◌≡◌, ◌∙◌, ap, sym, None}
use Rattle.std.specs.Prelude.{option_map}
use Rattle.std.proofs.lemmas.Bool.{true≢false}
use Rattle.exact_fraction.specs.Written.{parts_text}
use Rattle.cert_format.specs.FractionTexts.{fraction_of_text}
use Rattle.cert_format.proofs.FractionLemmas.{fraction_of_text-none, fraction_of_text-read}
use Rattle.cert_format.proofs.QuotientLemmas.{not_none, value_by}
use Rattle.cert_format.proofs.fractions.fraction.Goals as goal

pub returns-in_err-number : goal.returns-in_err-number
returns-in_err-number g c =
    let none : fraction_of_text g.N.Exact.bound c.args.text.now ≡ None = fraction_of_text-none g.N.Exact.bound c.args.text.now (λ x h. not_none g.N.Exact.value c.quotient.result x (c.quotient.ensures x h) c.in_err-number.was) in
    ap (option_map g.N.Exact.value) c.from_residual.ensures ∙ sym none

pub returns-then-is_spelling : goal.returns-then-is_spelling
returns-then-is_spelling g c =
    let fits = g.met.N.Exact.value_fits c.in_ok-number.number in
    sym (fraction_of_text-read g.N.Exact.bound c.args.text.now (g.N.Exact.value c.in_ok-number.number) (record { spelling = c.is_spelling.ensures.0 c.if-is_spelling.true; fits = record { num = fits.0; den = fits.1 } }))

pub returns-else-is_spelling : goal.returns-else-is_spelling
returns-else-is_spelling g c =
    sym (fraction_of_text-none g.N.Exact.bound c.args.text.now (λ x h.
    let same = value_by g.N.Exact.value c.quotient.result c.in_ok-number.number x (c.quotient.ensures x h) c.in_ok-number.was in
    true≢false (sym (c.is_spelling.ensures.1 (h.spelling ∙ ap parts_text (sym same))) ∙ c.if-is_spelling.false)))
