use Rattle.std.proofs.Common.{◌≡◌, ◌++◌, ◌+◌, ◌∙◌, ap, arith, length, map}
use Rattle.std.proofs.lemmas.List.{length-map}
use Rattle.market_model.proofs.PlaceLists.{put_read}
use Rattle.report_text.proofs.ReportLemmas.{lines_more}
use Rattle.command_answers.specs.RightsLines.{payment_at, payment_text}
use Rattle.command_answers.proofs.rights_lines.payment_lines.Goals as goal

pub loop-place-preserved : goal.loop-place-preserved
loop-place-preserved g c =
    let value = g.N.Exact.value in
    let each = c.args.each.now in
    let i = c.loop-place.place in
    lines_more (payment_at (map value each)) c.args.text.now c.loop-place.text c.payment_line.new.text i c.loop-place.invariant
    (c.in_ok-payment_line.ensures ∙ ap (λ paid. c.loop-place.text ++ payment_text (i + 1) paid) (put_read value each i c.index-each-place.result c.loop-place-test.true c.index-each-place.is))

pub returns : goal.returns
returns g c =
    let value = g.N.Exact.value in
    let each = c.args.each.now in
    let all : c.loop-place.place ≡ length (map value each) = omega (arith, length-map each value) in
    rw all at c.loop-place.invariant
