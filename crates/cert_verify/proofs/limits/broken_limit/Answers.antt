use Rattle.std.proofs.Common.{rules, Err, Some, ◌≡◌, ◌∙◌, ap, sym}
use Rattle.market_model.specs.declared.answered.RowId.{RowId}
use Rattle.market_model.specs.declared.limits.Row.{Row}
use Rattle.market_model.specs.LimitRows.{row_id, rows}
use Rattle.limit_rows.proofs.WalkLemmas.{taken_listed, taken_next}
use Rattle.cert_verify.specs.declared.verdicts.Reason.TheVariants as reason
use Rattle.cert_verify.specs.Reasons.{is_overloaded}
use Rattle.cert_verify.proofs.FindLemmas.{found_behind, none_more}
use Rattle.cert_verify.proofs.limits.broken_limit.Goals as goal

pub is_overloaded-requires-clause-line : goal.is_overloaded-requires-clause-line
is_overloaded-requires-clause-line g c =
    (c.rows-row-items.ensures.stand c.in-Some.row
    (taken_listed c.args.market.now _ _ _ c.loop-row.yielded (c.into_iter-row-iterator.ensures.into_iter_gives ∙ c.rows-row-items.ensures.rows) c.loop-row.yielded_by c.next.result c.in-Some.row c.in-Some.is c.next.ensures.steps)).0

pub is_overloaded-requires-clause-lost : goal.is_overloaded-requires-clause-lost
is_overloaded-requires-clause-lost g c =
    (c.rows-row-items.ensures.stand c.in-Some.row
    (taken_listed c.args.market.now _ _ _ c.loop-row.yielded (c.into_iter-row-iterator.ensures.into_iter_gives ∙ c.rows-row-items.ensures.rows) c.loop-row.yielded_by c.next.result c.in-Some.row c.in-Some.is c.next.ensures.steps)).1

pub is_overloaded-requires-clause-listed : goal.is_overloaded-requires-clause-listed
is_overloaded-requires-clause-listed g c =
    taken_listed c.args.market.now _ _ _ c.loop-row.yielded (c.into_iter-row-iterator.ensures.into_iter_gives ∙ c.rows-row-items.ensures.rows) c.loop-row.yielded_by c.next.result c.in-Some.row c.in-Some.is c.next.ensures.steps

pub name_at-requires-clause-line : goal.name_at-requires-clause-line
name_at-requires-clause-line g c =
    (c.rows-row-items.ensures.stand c.in-Some.row
    (taken_listed c.args.market.now _ _ _ c.loop-row.yielded (c.into_iter-row-iterator.ensures.into_iter_gives ∙ c.rows-row-items.ensures.rows) c.loop-row.yielded_by c.next.result c.in-Some.row c.in-Some.is c.next.ensures.steps)).0

pub name_at-requires-clause-lost : goal.name_at-requires-clause-lost
name_at-requires-clause-lost g c =
    (c.rows-row-items.ensures.stand c.in-Some.row
    (taken_listed c.args.market.now _ _ _ c.loop-row.yielded (c.into_iter-row-iterator.ensures.into_iter_gives ∙ c.rows-row-items.ensures.rows) c.loop-row.yielded_by c.next.result c.in-Some.row c.in-Some.is c.next.ensures.steps)).1

pub returns-in_err-is_overloaded-clause-stops : goal.returns-in_err-is_overloaded-clause-stops
returns-in_err-is_overloaded-clause-stops g c =
    let given : c.from_residual.result ≡ Err c.in_err-is_overloaded.field-0.0 = search rules in
    λ x are. rw given (c.in_err-is_overloaded.ensures.stops x are)

pub returns-then-branch-clause-first : goal.returns-then-branch-clause-first
returns-then-branch-clause-first g c =
    let m = c.args.market.now in
    let next = taken_next m _ _ _ c.loop-row.yielded (c.into_iter-row-iterator.ensures.into_iter_gives ∙ c.rows-row-items.ensures.rows) c.loop-row.yielded_by c.next.result c.in-Some.row c.in-Some.is c.next.ensures.steps in
    λ x are. ap (λ (n : RowId). Some (reason.Limit n)) c.name_at.ensures
    ∙ found_behind (λ (r : Row). reason.Limit (row_id m r)) (is_overloaded m x) c.loop-row.yielded c.in-Some.row (c.loop-row.invariant x are) (rows m) c.next.new.self next (sym (c.in_ok-is_overloaded.ensures.broken x are) ∙ c.if-branch.true)

pub loop-row-preserved : goal.loop-row-preserved
loop-row-preserved g c =
    let m = c.args.market.now in
    λ x are. none_more (λ (r : Row). reason.Limit (row_id m r)) (is_overloaded m x) c.loop-row.yielded c.in-Some.row (c.loop-row.invariant x are) (sym (c.in_ok-is_overloaded.ensures.broken x are) ∙ c.if-branch.false)
