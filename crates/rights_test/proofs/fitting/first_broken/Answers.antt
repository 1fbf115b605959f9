use Rattle.std.proofs.Common.{rules, Err, ◌≡◌, ◌∙◌, map, sym, subst}
use Rattle.market_model.specs.LimitRows.{flow_by, limit}
use Rattle.market_model.specs.Overrun.{Within}
use Rattle.market_model.specs.PutIn.{carried_in}
use Rattle.market_model.proofs.RowMembers.{at_places}
use Rattle.limit_rows.proofs.WalkLemmas.{all_taken, taken_listed, taken_next}
use Rattle.rights_test.proofs.FitLemmas.{all_kept, kept_more}
use Rattle.rights_test.proofs.fitting.first_broken.Goals as goal

pub row_flow-requires-clause-line : goal.row_flow-requires-clause-line
row_flow-requires-clause-line g c =
    let m = c.args.market.now in
    (at_places m c.lines-lines.ensures.market c.in-Some.row (taken_listed m _ _ _ c.loop-row.yielded (c.into_iter-row-iterator.ensures.into_iter_gives ∙ c.rows-row-items.ensures.rows) c.loop-row.yielded_by c.next.result c.in-Some.row c.in-Some.is c.next.ensures.steps)).0

pub row_flow-requires-clause-lost : goal.row_flow-requires-clause-lost
row_flow-requires-clause-lost g c =
    let m = c.args.market.now in
    (at_places m c.lines-lines.ensures.market c.in-Some.row (taken_listed m _ _ _ c.loop-row.yielded (c.into_iter-row-iterator.ensures.into_iter_gives ∙ c.rows-row-items.ensures.rows) c.loop-row.yielded_by c.next.result c.in-Some.row c.in-Some.is c.next.ensures.steps)).1

pub is_within-requires : goal.is_within-requires
is_within-requires g c =
    let m = c.args.market.now in
    (at_places m c.lines-lines.ensures.market c.in-Some.row (taken_listed m _ _ _ c.loop-row.yielded (c.into_iter-row-iterator.ensures.into_iter_gives ∙ c.rows-row-items.ensures.rows) c.loop-row.yielded_by c.next.result c.in-Some.row c.in-Some.is c.next.ensures.steps)).0

pub name_at-requires-clause-line : goal.name_at-requires-clause-line
name_at-requires-clause-line g c =
    let m = c.args.market.now in
    (at_places m c.lines-lines.ensures.market c.in-Some.row (taken_listed m _ _ _ c.loop-row.yielded (c.into_iter-row-iterator.ensures.into_iter_gives ∙ c.rows-row-items.ensures.rows) c.loop-row.yielded_by c.next.result c.in-Some.row c.in-Some.is c.next.ensures.steps)).0

pub name_at-requires-clause-lost : goal.name_at-requires-clause-lost
name_at-requires-clause-lost g c =
    let m = c.args.market.now in
    (at_places m c.lines-lines.ensures.market c.in-Some.row (taken_listed m _ _ _ c.loop-row.yielded (c.into_iter-row-iterator.ensures.into_iter_gives ∙ c.rows-row-items.ensures.rows) c.loop-row.yielded_by c.next.result c.in-Some.row c.in-Some.is c.next.ensures.steps)).1

pub returns-in_err-flow-clause-stops : goal.returns-in_err-flow-clause-stops
returns-in_err-flow-clause-stops g c =
    let m = c.args.market.now in
    let listed = taken_listed m _ _ _ c.loop-row.yielded (c.into_iter-row-iterator.ensures.into_iter_gives ∙ c.rows-row-items.ensures.rows) c.loop-row.yielded_by c.next.result c.in-Some.row c.in-Some.is c.next.ensures.steps in
    let given : c.from_residual.result ≡ Err c.in_err-flow.field-0.0 = search rules in
    rw given (c.in-Some.row, listed, c.in_err-flow.ensures.stops)

pub returns-then-not-is_within-clause-fit : goal.returns-then-not-is_within-clause-fit
returns-then-not-is_within-clause-fit g c =
    let m = c.args.market.now in
    let f = flow_by m (carried_in m (map g.N.Exact.value c.args.carried.now)) in
    let r = c.in-Some.row in (
      r,
      record {
        before = c.loop-row.yielded;
        behind = _;
        order = taken_next m _ _ _ c.loop-row.yielded (c.into_iter-row-iterator.ensures.into_iter_gives ∙ c.rows-row-items.ensures.rows) c.loop-row.yielded_by c.next.result r c.in-Some.is c.next.ensures.steps;
        kept = c.loop-row.invariant;
        broken = λ within. c.if-not-is_within.ensures (subst (Within (limit m r)) (sym c.in_ok-flow.ensures.flow) within);
      },
      c.name_at.ensures,
      c.in_ok-flow.ensures.flow,
    )

pub loop-row-preserved : goal.loop-row-preserved
loop-row-preserved g c =
    let m = c.args.market.now in
    let f = flow_by m (carried_in m (map g.N.Exact.value c.args.carried.now)) in
    let r = c.in-Some.row in
    kept_more m f c.loop-row.yielded r c.loop-row.invariant (subst (Within (limit m r)) c.in_ok-flow.ensures.flow c.if-not-is_within.ensures)

pub returns-clause-fit : goal.returns-clause-fit
returns-clause-fit g c =
    let m = c.args.market.now in
    let all = all_taken m _ _ _ c.loop-row.yielded (c.into_iter-row-iterator.ensures.into_iter_gives ∙ c.rows-row-items.ensures.rows) c.loop-row.yielded_by c.next.result c.in-None.is c.next.ensures.steps in
    all_kept m (flow_by m (carried_in m (map g.N.Exact.value c.args.carried.now))) c.loop-row.yielded all c.loop-row.invariant
