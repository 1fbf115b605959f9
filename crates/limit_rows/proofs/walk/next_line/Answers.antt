use Rattle.std.proofs.Common.{◌<◌, ◌≤◌, ◌∙◌, ap, sym, length, arith}
use Rattle.limit_rows.proofs.WalkLemmas.{line_found, line_none, line_passed}
use Rattle.limit_rows.proofs.walk.next_line.Goals as goal

pub returns-then-has_row-clause-is : goal.returns-then-has_row-clause-is
returns-then-has_row-clause-is c =
    let m = c.args.market.now in
    let inside : c.loop-line.line < length m.lines = omega (arith, c.loop-line-test.true, c.len-line-end.ensures, ap length c.lines.ensures.list) in
    c.loop-line.invariant ∙ line_found m c.args.cause c.loop-line.line inside (sym c.has_row.ensures ∙ c.if-has_row.true)

pub loop-line-preserved : goal.loop-line-preserved
loop-line-preserved c =
    let m = c.args.market.now in
    let inside : c.loop-line.line < length m.lines = omega (arith, c.loop-line-test.true, c.len-line-end.ensures, ap length c.lines.ensures.list) in
    c.loop-line.invariant ∙ line_passed m c.args.cause c.loop-line.line inside (sym c.has_row.ensures ∙ c.if-has_row.false)

pub returns-clause-is : goal.returns-clause-is
returns-clause-is c =
    let m = c.args.market.now in
    let past : length m.lines ≤ c.loop-line.line = omega (arith, c.loop-line-test.false, c.len-line-end.ensures, ap length c.lines.ensures.list) in
    c.loop-line.invariant ∙ line_none m c.args.cause c.loop-line.line past
