use Rattle.std.proofs.Common.{rules, Err, ◌≡◌, ◌∙◌, false, List, map, subst, sym}
use Rattle.std.specs.Prelude.{Contains}
use Rattle.fraction_theory.specs.Sums.{total}
use Rattle.market_model.specs.declared.limits.Row.{Row}
use Rattle.market_model.specs.LimitRows.{rows}
use Rattle.market_model.specs.Valued.{passed_at}
use Rattle.limit_rows.proofs.WalkLemmas.{all_taken, taken_listed, taken_next}
use Rattle.settlement.proofs.WorthLemmas.{cost_refused, energy_terms, worth_less, worth_of_blocks, worth_of_values, worth_same}
use Rattle.settlement.proofs.worth.less_penalties.Goals as goal

pub loop-row-init : goal.loop-row-init
loop-row-init g c = λ x are is. is ∙ worth_of_values c.args.market.now x

pub is_soft-requires : goal.is_soft-requires
is_soft-requires g c =
    (c.rows-row-items.ensures.stand c.in-Some.row
    (taken_listed c.args.market.now _ _ _ c.loop-row.yielded (c.into_iter-row-iterator.ensures.into_iter_gives ∙ c.rows-row-items.ensures.rows) c.loop-row.yielded_by c.next.result c.in-Some.row c.in-Some.is c.next.ensures.steps)).0

pub less_penalty-requires-clause-line : goal.less_penalty-requires-clause-line
less_penalty-requires-clause-line g c =
    (c.rows-row-items.ensures.stand c.in-Some.row
    (taken_listed c.args.market.now _ _ _ c.loop-row.yielded (c.into_iter-row-iterator.ensures.into_iter_gives ∙ c.rows-row-items.ensures.rows) c.loop-row.yielded_by c.next.result c.in-Some.row c.in-Some.is c.next.ensures.steps)).0

pub less_penalty-requires-clause-lost : goal.less_penalty-requires-clause-lost
less_penalty-requires-clause-lost g c =
    (c.rows-row-items.ensures.stand c.in-Some.row
    (taken_listed c.args.market.now _ _ _ c.loop-row.yielded (c.into_iter-row-iterator.ensures.into_iter_gives ∙ c.rows-row-items.ensures.rows) c.loop-row.yielded_by c.next.result c.in-Some.row c.in-Some.is c.next.ensures.steps)).1

pub loop-row-preserved : goal.loop-row-preserved
loop-row-preserved g c = λ x are is.
    worth_same c.args.market.now x c.loop-row.yielded c.in-Some.row (sym c.is_soft.ensures ∙ c.if-is_soft.false) (g.N.Exact.value c.loop-row.sum) (c.loop-row.invariant x are is)

pub loop-row-preserved-then-is_soft : goal.loop-row-preserved-then-is_soft
loop-row-preserved-then-is_soft g c = λ x are is.
    let m = c.args.market.now in
    let value = g.N.Exact.value in
    let listed : Contains (rows m) c.in-Some.row =
    taken_listed m _ _ _ c.loop-row.yielded (c.into_iter-row-iterator.ensures.into_iter_gives ∙ c.rows-row-items.ensures.rows) c.loop-row.yielded_by c.next.result c.in-Some.row c.in-Some.is c.next.ensures.steps in
    worth_less m x c.loop-row.yielded c.in-Some.row (sym c.is_soft.ensures ∙ c.if-is_soft.true) (map value c.args.flows.now) are c.buses-buses.ensures.market listed
    (value c.loop-row.sum) (value c.in_ok-sum.sum) (c.loop-row.invariant x are is) c.in_ok-sum.ensures.less

pub returns-in_err-sum-clause-stops : goal.returns-in_err-sum-clause-stops
returns-in_err-sum-clause-stops g c =
    let m = c.args.market.now in
    let value = g.N.Exact.value in
    let start = c.into_iter-row-iterator.ensures.into_iter_gives ∙ c.rows-row-items.ensures.rows in
    let listed : Contains (rows m) c.in-Some.row = taken_listed m _ _ _ c.loop-row.yielded start c.loop-row.yielded_by c.next.result c.in-Some.row c.in-Some.is c.next.ensures.steps in
    let given : c.from_residual.result ≡ Err c.in_err-sum.field-0.0 = search rules in
    λ x are is. rw given
    (cost_refused m x c.loop-row.yielded c.in-Some.row (sym c.is_soft.ensures ∙ c.if-is_soft.true) (map value c.args.flows.now) are c.buses-buses.ensures.market listed
    _ (value c.loop-row.sum) g.N.Exact.bound (passed_at value c.in_err-sum.field-0.0)
    (taken_next m _ _ _ c.loop-row.yielded start c.loop-row.yielded_by c.next.result c.in-Some.row c.in-Some.is c.next.ensures.steps) (c.loop-row.invariant x are is) c.in_err-sum.ensures.stops)

pub returns-clause-worth : goal.returns-clause-worth
returns-clause-worth g c =
    let m = c.args.market.now in
    let all = all_taken m _ _ _ c.loop-row.yielded (c.into_iter-row-iterator.ensures.into_iter_gives ∙ c.rows-row-items.ensures.rows) c.loop-row.yielded_by c.next.result c.in-None.is c.next.ensures.steps in
    λ x are is. subst (λ (rs : List Row). g.N.Exact.value c.loop-row.sum ≡ total (energy_terms m x rs)) all (c.loop-row.invariant x are is)

pub returns-then-not-has_soft_limits-clause-worth : goal.returns-then-not-has_soft_limits-clause-worth
returns-then-not-has_soft_limits-clause-worth g c =
    let none : c.has_soft_limits.result ≡ false = search rules in
    λ x are is. worth_of_blocks c.args.market.now (sym c.has_soft_limits.ensures ∙ none) x (g.N.Exact.value c.args.values) is
