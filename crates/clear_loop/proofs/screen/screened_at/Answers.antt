use Rattle.std.proofs.lemmas.List.{length-map}
use Rattle.std.proofs.Common.{rules, Err, inl, inr, ap, sym, subst, ◌∙◌, ◌≡◌, map}
use Rattle.std.specs.Prelude.{ℕ, List, MatchOption, Option}
use Rattle.fraction_theory.specs.Fraction.{Fraction}
use Rattle.market_model.specs.LimitRows.{carried}
use Rattle.market_model.specs.Dispatch.{dispatch_with}
use Rattle.market_model.specs.Valued.{passed_at}
use Rattle.market_model.specs.PutIn.{dispatch_of}
use Rattle.market_model.specs.SumTables.{IsRefusedAmong, RoomSum}
use Rattle.market_model.proofs.StopLemmas.{on_passed_weaker}
use Rattle.limit_screen.specs.Flows.{carried_at, flows_at, IsFlowsRefusal}
use Rattle.limit_screen.specs.Reaching.{IsRowLook, reached_by}
use Rattle.limit_screen.specs.Rooms.{AllKeepRooms, IsWorstRoom}
use Rattle.limit_screen.specs.Screening.{AllKeep}
use Rattle.limit_screen.specs.declared.looking.RowLook.TheVariants as look
use Rattle.limit_rows.specs.Refusals.{IsAnyFlowRefusal}
use Rattle.limit_screen.proofs.ScreenLemmas.{flow_count}
use Rattle.settlement.proofs.BlockFlows.{flows_of_blocks, flows_refusal}
use Rattle.clear_loop.proofs.BrokenLemmas.{all_kept, worst_at}
use Rattle.clear_loop.proofs.screen.screened_at.Given.{Over}
use Rattle.clear_loop.proofs.screen.screened_at.Goals as goal
use Rattle.clear_loop.proofs.screen.screened_at.Goals.{After-deref-2, In-Kept}

pub returns-in_err-by_place-clause-stops : goal.returns-in_err-by_place-clause-stops
returns-in_err-by_place-clause-stops g c =
    let value = g.N.Exact.value in
    let m = c.args.market.now in
    let given : c.from_residual.result ≡ Err c.in_err-by_place.field-0.0 = search rules in
    rw given
    (on_passed_weaker c.in_err-by_place.field-0.0 (λ p. IsFlowsRefusal m (dispatch_of value c.args.dispatch.now) g.N.Exact.bound (passed_at value p)) _
    (λ p refused. inl (flows_refusal m (map value c.args.dispatch.now) (map value c.args.reserve.now) g.N.Exact.bound (passed_at value p) refused)) c.in_err-by_place.ensures.stops)

pub whole_parts-requires : goal.whole_parts-requires
whole_parts-requires g c =
    let value = g.N.Exact.value in
    let m = c.args.market.now in
    let x = dispatch_of value c.args.dispatch.now in
    let fs : map value c.deref.result.now ≡ flows_at m x = ap (map value) c.deref.ensures.value ∙ c.in_ok-by_place.ensures.flows in
    sym (length-map c.deref.result.now value) ∙ flow_count m x (map value c.deref.result.now) fs

-- the flows are those of the dispatch with its reserve
flows_are : (g : Over) (c : After-deref-2 g) → map g.N.Exact.value c.deref-2.result.now ≡ flows_at c.args.market.now (dispatch_with (map g.N.Exact.value c.args.dispatch.now) (map g.N.Exact.value c.args.reserve.now))
flows_are g c = ap (map g.N.Exact.value) c.deref-2.ensures.value ∙ c.in_ok-by_place.ensures.flows ∙ flows_of_blocks c.args.market.now (map g.N.Exact.value c.args.dispatch.now) (map g.N.Exact.value c.args.reserve.now)

pub look_at_rows-requires-clause-flows : goal.look_at_rows-requires-clause-flows
look_at_rows-requires-clause-flows g c =
    let value = g.N.Exact.value in
    let x = dispatch_with (map value c.args.dispatch.now) (map value c.args.reserve.now) in
    sym (length-map c.deref-2.result.now value) ∙ flow_count c.args.market.now x (map value c.deref-2.result.now) (flows_are g (goal.at.look_at_rows-requires-clause-flows g c).After-deref-2)

pub returns-in_err-row-clause-stops : goal.returns-in_err-row-clause-stops
returns-in_err-row-clause-stops g c =
    let value = g.N.Exact.value in
    let m = c.args.market.now in
    let fs = flows_are g (goal.at.returns-in_err-row-clause-stops g c).After-deref-2 in
    let given : c.from_residual-in_err-row.result ≡ Err c.in_err-row.field-0.0 = search rules in
    rw given
    (on_passed_weaker c.in_err-row.field-0.0 (λ p. IsAnyFlowRefusal m (carried_at m (map value c.deref-2.result.now)) g.N.Exact.bound (passed_at value p)) _
    (λ p refused. inr (inl (subst (λ (ys : List Fraction). IsAnyFlowRefusal m (carried_at m ys) g.N.Exact.bound (passed_at value p)) fs refused))) c.in_err-row.ensures.stops)

pub returns-in-Worst-clause-screened : goal.returns-in-Worst-clause-screened
returns-in-Worst-clause-screened g c =
    let value = g.N.Exact.value in
    let m = c.args.market.now in
    let x = dispatch_with (map value c.args.dispatch.now) (map value c.args.reserve.now) in
    let fs = map value c.deref-2.result.now in
    let taken = c.args.taken.now in
    worst_at m c.lines-lines.ensures.market taken x fs (flows_are g (goal.at.returns-in-Worst-clause-screened g c).After-deref-2) c.in-Worst.row (subst (IsRowLook m taken (carried_at m fs)) c.in-Worst.is c.in_ok-row.ensures.look)

-- where no limit is broken, and it is told which are reached
none_broken : (g : Over) (c : In-Kept g) → let m = c.args.market.now in let value = g.N.Exact.value in let x = dispatch_with (map value c.args.dispatch.now) (map value c.args.reserve.now) in
    AllKeep m c.args.taken.now (carried m x) × (c.in-Kept.rows.items ≡ reached_by m (carried_at m (flows_at m x)))
none_broken g c =
    let value = g.N.Exact.value in
    let m = c.args.market.now in
    let x = dispatch_with (map value c.args.dispatch.now) (map value c.args.reserve.now) in
    let fs = map value c.deref-2.result.now in
    let taken = c.args.taken.now in
    let puts = flows_are g (goal.at.In-Kept g c).After-deref-2 in
    let looked : IsRowLook m taken (carried_at m fs) (look.Kept c.in-Kept.rows) = subst (IsRowLook m taken (carried_at m fs)) c.in-Kept.is c.in_ok-row.ensures.look in
    (all_kept m c.lines-lines.ensures.market taken x fs puts looked.0, looked.1 ∙ ap (λ (ys : List Fraction). reached_by m (carried_at m ys)) puts)

pub returns-in_err-unit-in-Kept-clause-stops : goal.returns-in_err-unit-in-Kept-clause-stops
returns-in_err-unit-in-Kept-clause-stops g c =
    let value = g.N.Exact.value in
    let m = c.args.market.now in
    let x = dispatch_with (map value c.args.dispatch.now) (map value c.args.reserve.now) in
    let given : c.from_residual-in_err-unit-in-Kept.result ≡ Err c.in_err-unit-in-Kept.field-0.0 = search rules in
    rw given
    (on_passed_weaker c.in_err-unit-in-Kept.field-0.0 (λ p. IsRefusedAmong (RoomSum m x) g.N.Exact.bound (passed_at value p)) _ (λ p refused. inr (inr refused)) c.in_err-unit-in-Kept.ensures.stops)

pub returns-in-Some-clause-screened : goal.returns-in-Some-clause-screened
returns-in-Some-clause-screened g c =
    let m = c.args.market.now in
    let x = dispatch_with (map g.N.Exact.value c.args.dispatch.now) (map g.N.Exact.value c.args.reserve.now) in (
      (none_broken g (goal.at.returns-in-Some-clause-screened g c).In-Kept).0,
      subst (λ (o : Option ℕ). MatchOption o (AllKeepRooms m x) (IsWorstRoom m x)) c.in-Some.is c.in_ok-unit-in-Kept.ensures.worst,
    )

pub returns-in-None-clause-screened : goal.returns-in-None-clause-screened
returns-in-None-clause-screened g c =
    let m = c.args.market.now in
    let x = dispatch_with (map g.N.Exact.value c.args.dispatch.now) (map g.N.Exact.value c.args.reserve.now) in
    let at = goal.at.returns-in-None-clause-screened g c in
    let none = none_broken g at.In-Kept in (
      record { limits = none.0; rooms = subst (λ (o : Option ℕ). MatchOption o (AllKeepRooms m x) (IsWorstRoom m x)) c.in-None.is c.in_ok-unit-in-Kept.ensures.worst },
      record { flows = ap (map g.N.Exact.value) (sym c.deref-2.ensures.value) ∙ flows_are g at.After-deref-2; rows = none.1 },
    )
