use Rattle.std.proofs.Common.{◌∙◌, ap, map}
use Rattle.market_model.specs.Valued.{dual_at, duals_with}
use Rattle.limit_rows.proofs.WalkLemmas.{all_taken, taken_listed}
use Rattle.cert_sums.specs.Named.{priced_at}
use Rattle.cert_verify.specs.Naming.{prices_of}
use Rattle.cert_verify.proofs.NamingLemmas.{row_kept, row_more, row_passed}
use Rattle.cert_verify.proofs.naming.named_rows.Goals as goal

pub named_at-requires-clause-line : goal.named_at-requires-clause-line
named_at-requires-clause-line g c =
    (c.rows-row-items.ensures.stand c.in-Some.row
    (taken_listed c.args.market.now _ _ _ c.loop-row.yielded (c.into_iter-row-iterator.ensures.into_iter_gives ∙ c.rows-row-items.ensures.rows) c.loop-row.yielded_by c.next.result c.in-Some.row c.in-Some.is c.next.ensures.steps)).0

pub named_at-requires-clause-lost : goal.named_at-requires-clause-lost
named_at-requires-clause-lost g c =
    (c.rows-row-items.ensures.stand c.in-Some.row
    (taken_listed c.args.market.now _ _ _ c.loop-row.yielded (c.into_iter-row-iterator.ensures.into_iter_gives ∙ c.rows-row-items.ensures.rows) c.loop-row.yielded_by c.next.result c.in-Some.row c.in-Some.is c.next.ensures.steps)).1

pub loop-row-preserved-in-Continue-branch-2 : goal.loop-row-preserved-in-Continue-branch-2
loop-row-preserved-in-Continue-branch-2 g c = λ energy reserve_price rooms.
    let m = c.args.market.now in
    let value = g.N.Exact.value in
    let d = duals_with energy (map (dual_at value) c.args.limits.now) reserve_price rooms in
    row_more value m d c.loop-row.yielded c.in-Some.row _ _ (c.loop-row.invariant energy reserve_price rooms)
    (ap (map (priced_at value)) c.in_ok-push.ensures ∙ row_kept value m d c.in-Some.row c.loop-row.named c.in-Some-named_at.entry (c.in-Some-named_at.ensures c.args.limits.now energy reserve_price rooms c.in_ok-duals.ensures))

pub loop-row-preserved : goal.loop-row-preserved
loop-row-preserved g c = λ energy reserve_price rooms.
    let m = c.args.market.now in
    let value = g.N.Exact.value in
    let d = duals_with energy (map (dual_at value) c.args.limits.now) reserve_price rooms in
    row_more value m d c.loop-row.yielded c.in-Some.row _ _ (c.loop-row.invariant energy reserve_price rooms)
    (row_passed value m d c.in-Some.row c.loop-row.named (c.in_default.ensures c.args.limits.now energy reserve_price rooms c.in_ok-duals.ensures))

pub returns : goal.returns
returns g c = λ energy reserve_price rooms.
    let m = c.args.market.now in
    let d = duals_with energy (map (dual_at g.N.Exact.value) c.args.limits.now) reserve_price rooms in
    c.loop-row.invariant energy reserve_price rooms
    ∙ ap (prices_of m d) (all_taken m _ _ _ c.loop-row.yielded (c.into_iter-row-iterator.ensures.into_iter_gives ∙ c.rows-row-items.ensures.rows) c.loop-row.yielded_by c.next.result c.in-None.is c.next.ensures.steps)
