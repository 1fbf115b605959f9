use Rattle.std.proofs.Common.{rules, ◌≡◌, ◌++◌, ◌∙◌, ap, sym}
use Rattle.rights_test.specs.Fits.{fit_at}
use Rattle.rights_test.specs.declared.right_parts.Fit.TheVariants.{Breaks}
use Rattle.command_answers.specs.RightsLines.{fit_text}
use Rattle.command_answers.proofs.IfOkLemmas.{if_ok-map}
use Rattle.command_answers.proofs.RightsLemmas.{broken-line}
use Rattle.command_answers.proofs.rights_lines.fit_line.Goals as goal

pub returns-in_ok-named-in-Breaks : goal.returns-in_ok-named-in-Breaks
returns-in_ok-named-in-Breaks g c =
    let value = g.N.Exact.value in
    let told : fit_at value c.args.fit.now ≡ Breaks c.in-Breaks.row (value c.in-Breaks.flow) = search rules in
    if_ok-map _ _ c.word-in-Breaks-2.result
    (λ x is.
    broken-line c.args.text.now c.word-in-Breaks.new.self c.row_words.new.text c.named.new.self c.word-in-Breaks-2.new.self c.in-Breaks.row (value c.in-Breaks.flow)
    c.in_ok-word-in-Breaks.ensures c.in_ok-row_words-in-Breaks.ensures c.in_ok-named-in-Breaks.ensures is
    ∙ sym (ap (λ f. c.args.text.now ++ fit_text f) told))
    c.word-in-Breaks-2.ensures
