use Rattle.std.proofs.Common.{◌≡◌, ◌<◌, true, length, ap, subst, arith}
use Rattle.std.specs.Prelude.{is_some}
use Rattle.market_model.specs.declared.limits.Cause.{Cause}
use Rattle.market_model.specs.declared.participants.Line.{Line}
use Rattle.market_model.specs.LimitRows.{rows_of, IsCauseOf, has_limit}
use Rattle.market_model.specs.Dispatch.{line_at}
use Rattle.limit_rows.proofs.CountLemmas.{under_branch}
use Rattle.limit_rows.proofs.LineLemmas.{line_here}
use Rattle.limit_rows.proofs.counting.count_under.Goals as goal

pub overflow_sub-result : goal.overflow_sub-result
overflow_sub-result c =
    let m = c.args.market.now in
    let lost = c.in-Branch.lost in
    let inside : lost < length m.lines = subst (IsCauseOf m) c.in-Branch.is c.requires.cause in
    let line = line_here m c.lines.result.now lost c.at.result.now c.lines.ensures.list c.at.ensures in
    let has : has_limit true (line_at m lost) ≡ (is_some c.at.result.now.post) = ap (λ (l : Line). is_some l.post) line in
    let all = under_branch m c.args.counts c.requires.counts lost (is_some c.at.result.now.post) inside has in
    let one = c.one_if.ensures in
    omega (arith, all, one)

pub returns-in-Branch : goal.returns-in-Branch
returns-in-Branch c =
    let m = c.args.market.now in
    let lost = c.in-Branch.lost in
    let inside : lost < length m.lines = subst (IsCauseOf m) c.in-Branch.is c.requires.cause in
    let line = line_here m c.lines.result.now lost c.at.result.now c.lines.ensures.list c.at.ensures in
    let has : has_limit true (line_at m lost) ≡ (is_some c.at.result.now.post) = ap (λ (l : Line). is_some l.post) line in
    let all = under_branch m c.args.counts c.requires.counts lost (is_some c.at.result.now.post) inside has in
    let one = c.one_if.ensures in
    let same = ap (λ (cause : Cause). length (rows_of m cause)) c.in-Branch.is in
    omega (arith, all, one, same)
