use Rattle.std.proofs.Common.{rules, Err, Some, ◌≡◌, ◌∙◌, ap, map, sym}
use Rattle.market_model.specs.declared.answered.RowId.{RowId}
use Rattle.market_model.specs.declared.limits.Row.{Row}
use Rattle.market_model.specs.LimitRows.{row_id, rows}
use Rattle.market_model.specs.Valued.{dual_at, passed_at}
use Rattle.limit_rows.proofs.WalkLemmas.{taken_listed, taken_next}
use Rattle.cert_verify.specs.declared.verdicts.Reason.TheVariants as reason
use Rattle.cert_verify.specs.Reasons.{is_unpriced}
use Rattle.cert_verify.proofs.FindLemmas.{found_behind, none_more}
use Rattle.cert_verify.proofs.RowLemmas.{limit_pair}
use Rattle.cert_verify.proofs.unpriced.first_unpriced.Goals as goal

pub is_unpriced-requires-clause-line : goal.is_unpriced-requires-clause-line
is_unpriced-requires-clause-line g c =
    (c.rows-row-items.ensures.stand c.in-Some.row
    (taken_listed c.args.market.now _ _ _ c.loop-row.yielded (c.into_iter-row-iterator.ensures.into_iter_gives ∙ c.rows-row-items.ensures.rows) c.loop-row.yielded_by c.next.result c.in-Some.row c.in-Some.is c.next.ensures.steps)).0

pub is_unpriced-requires-clause-lost : goal.is_unpriced-requires-clause-lost
is_unpriced-requires-clause-lost g c =
    (c.rows-row-items.ensures.stand c.in-Some.row
    (taken_listed c.args.market.now _ _ _ c.loop-row.yielded (c.into_iter-row-iterator.ensures.into_iter_gives ∙ c.rows-row-items.ensures.rows) c.loop-row.yielded_by c.next.result c.in-Some.row c.in-Some.is c.next.ensures.steps)).1

pub name_at-requires-clause-line : goal.name_at-requires-clause-line
name_at-requires-clause-line g c =
    (c.rows-row-items.ensures.stand c.in-Some.row
    (taken_listed c.args.market.now _ _ _ c.loop-row.yielded (c.into_iter-row-iterator.ensures.into_iter_gives ∙ c.rows-row-items.ensures.rows) c.loop-row.yielded_by c.next.result c.in-Some.row c.in-Some.is c.next.ensures.steps)).0

pub name_at-requires-clause-lost : goal.name_at-requires-clause-lost
name_at-requires-clause-lost g c =
    (c.rows-row-items.ensures.stand c.in-Some.row
    (taken_listed c.args.market.now _ _ _ c.loop-row.yielded (c.into_iter-row-iterator.ensures.into_iter_gives ∙ c.rows-row-items.ensures.rows) c.loop-row.yielded_by c.next.result c.in-Some.row c.in-Some.is c.next.ensures.steps)).1

pub returns-in_err-is_unpriced-clause-stops : goal.returns-in_err-is_unpriced-clause-stops
returns-in_err-is_unpriced-clause-stops g c =
    let given : c.from_residual.result ≡ Err c.in_err-is_unpriced.field-0.0 = search rules in
    let listed = taken_listed c.args.market.now _ _ _ c.loop-row.yielded (c.into_iter-row-iterator.ensures.into_iter_gives ∙ c.rows-row-items.ensures.rows) c.loop-row.yielded_by c.next.result c.in-Some.row c.in-Some.is c.next.ensures.steps in
    λ x are. rw given (limit_pair c.args.market.now x c.in-Some.row g.N.Exact.bound (passed_at g.N.Exact.value c.in_err-is_unpriced.field-0.0) listed (c.in_err-is_unpriced.ensures.stops x are))

pub returns-then-branch-clause-first : goal.returns-then-branch-clause-first
returns-then-branch-clause-first g c =
    let m = c.args.market.now in
    let value = g.N.Exact.value in
    let next = taken_next m _ _ _ c.loop-row.yielded (c.into_iter-row-iterator.ensures.into_iter_gives ∙ c.rows-row-items.ensures.rows) c.loop-row.yielded_by c.next.result c.in-Some.row c.in-Some.is c.next.ensures.steps in
    λ x ds are is. ap (λ (n : RowId). Some (reason.Slack n)) c.name_at.ensures
    ∙ found_behind (λ (r : Row). reason.Slack (row_id m r)) (is_unpriced m x (map (dual_at value) ds)) c.loop-row.yielded c.in-Some.row (c.loop-row.invariant x ds are is) (rows m) c.next.new.self next
    (sym (c.in_ok-is_unpriced.ensures.unpriced x ds are is) ∙ c.if-branch.true)

pub loop-row-preserved : goal.loop-row-preserved
loop-row-preserved g c =
    let m = c.args.market.now in
    let value = g.N.Exact.value in
    λ x ds are is. none_more (λ (r : Row). reason.Slack (row_id m r)) (is_unpriced m x (map (dual_at value) ds)) c.loop-row.yielded c.in-Some.row (c.loop-row.invariant x ds are is)
    (sym (c.in_ok-is_unpriced.ensures.unpriced x ds are is) ∙ c.if-branch.false)
