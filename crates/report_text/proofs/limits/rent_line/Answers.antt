use Rattle.std.proofs.Common.{◌≡◌, List, ℕ, IfOk, subst}
use Rattle.std.specs.Prelude.{codes}
use Rattle.exact_fraction.specs.Written.{written}
use Rattle.market_data.specs.Scales.{money_places, mw_places, price_places}
use Rattle.report_text.specs.Reports.{over_text, row_text, rent_text}
use Rattle.report_text.proofs.ReportLemmas.{line_grown}
use Rattle.report_text.proofs.limits.rent_line.Goals as goal

pub returns : goal.returns
unfolding rent_text
returns g c =
    let value = g.N.Exact.value in
    let dual = c.args.dual.now in
    let rent = c.args.rent.now in
    subst (λ (text : List ℕ). IfOk c.word.result (λ x. c.word.new.self ≡ text))
    (line_grown c.args.text.now (row_text dual.row) (codes " flow ") (written mw_places (value rent.flow)) (over_text (value rent.over)) (codes " up ") (written price_places (value dual.up)) (codes " down ") (written price_places (value dual.down)) (codes " rent ") (written money_places (value rent.rent)) (codes "\n")
    c.row_words.new.text c.named.new.self c.over_words.new.text c.named-2.new.self c.named-3.new.self c.named-4.new.self
    c.in_ok-row_words.ensures c.in_ok-named.ensures c.in_ok-over_words.ensures c.in_ok-named-2.ensures c.in_ok-named-3.ensures c.in_ok-named-4.ensures)
    c.word.ensures
