use Rattle.std.proofs.Common.{◌≡◌, ◌+◌, true, false, length, ap, arith}
use Rattle.std.specs.Prelude.{is_some}
use Rattle.market_model.specs.declared.participants.Line.{Line}
use Rattle.market_model.specs.LimitRows.{has_limit}
use Rattle.market_model.specs.Dispatch.{line_at}
use Rattle.limit_rows.proofs.CountLemmas.{limits_few, limits_more}
use Rattle.limit_rows.proofs.LineLemmas.{line_here}
use Rattle.limit_rows.proofs.counting.limit_counts.Goals as goal

pub overflow_add-base : goal.overflow_add-base
overflow_add-base c =
    let m = c.args.market.now in
    let k = c.loop-place.place in
    let line = line_here m c.lines-in-loop-place.result.now k c.at-line.result.now c.lines-in-loop-place.ensures.list c.at-line.ensures in
    let has : has_limit false (line_at m k) ≡ (is_some c.at-line.result.now.base) = ap (λ (l : Line). is_some l.base) line in
    let more = limits_more m false k (is_some c.at-line.result.now.base) has in
    let before = c.loop-place.invariant.0 in
    let one = c.one_if-base.ensures in
    omega (arith, more, before, one, limits_few m false (k + 1), c.loop-place-test.true, c.len-place-end.ensures, ap length c.lines.ensures.list, c.lines.ensures.market.line_count)

pub overflow_add-post : goal.overflow_add-post
overflow_add-post c =
    let m = c.args.market.now in
    let k = c.loop-place.place in
    let line = line_here m c.lines-in-loop-place.result.now k c.at-line.result.now c.lines-in-loop-place.ensures.list c.at-line.ensures in
    let has : has_limit true (line_at m k) ≡ (is_some c.at-line.result.now.post) = ap (λ (l : Line). is_some l.post) line in
    let more = limits_more m true k (is_some c.at-line.result.now.post) has in
    let before = c.loop-place.invariant.1 in
    let one = c.one_if-post.ensures in
    omega (arith, more, before, one, limits_few m true (k + 1), c.loop-place-test.true, c.len-place-end.ensures, ap length c.lines.ensures.list, c.lines.ensures.market.line_count)

pub loop-place-preserved : goal.loop-place-preserved
loop-place-preserved c =
    let m = c.args.market.now in
    let k = c.loop-place.place in
    let line = line_here m c.lines-in-loop-place.result.now k c.at-line.result.now c.lines-in-loop-place.ensures.list c.at-line.ensures in
    let base = limits_more m false k (is_some c.at-line.result.now.base) (ap (λ (l : Line). is_some l.base) line) in
    let post = limits_more m true k (is_some c.at-line.result.now.post) (ap (λ (l : Line). is_some l.post) line) in
    let before = c.loop-place.invariant in
    let base_before = before.0 in
    let post_before = before.1 in
    let base_one = c.one_if-base.ensures in
    let post_one = c.one_if-post.ensures in
    (omega (arith, base, base_before, base_one), omega (arith, post, post_before, post_one))
