use Rattle.std.proofs.Common.{Err, ap, ap₂, ◌≡◌, ◌∙◌, map, subst}
use Rattle.std.proofs.lemmas.Result.{err_from_is_err_and}
use Rattle.linear_dict.specs.Dictionaries.{choice_of}
use Rattle.market_model.specs.Dispatch.{Dispatch, dispatch_with}
use Rattle.market_model.specs.Stops.{StopsBy}
use Rattle.market_model.specs.Optimality.{BestFor}
use Rattle.market_system.specs.MarketSystem.{choice_duals}
use Rattle.market_dict.specs.Takings.{IsTaking, limits_of, taken_of}
use Rattle.clear_loop.specs.Growing.{IsNew, IsPassedTaking}
use Rattle.clear_loop.specs.Rounds.{IsLookRefusal, IsScreened}
use Rattle.clear_loop.specs.declared.screen.Screened.TheVariants as screened
use Rattle.clear_loop.proofs.BrokenLemmas.{worst_new, worst_passed, worst_taking}
use Rattle.clear_loop.proofs.SolvedLemmas.{best_for}
use Rattle.clear_loop.proofs.StopLemmas.{look_stop}
use Rattle.clear_loop.proofs.rounds.after_first.Given.{Over}
use Rattle.clear_loop.proofs.rounds.after_first.Goals as goal
use Rattle.clear_loop.proofs.rounds.after_first.Goals.{In-Worst}

pub returns-in_err-taking-clause-stops : goal.returns-in_err-taking-clause-stops
returns-in_err-taking-clause-stops g c =
    let value = g.N.Exact.value in
    let m = c.args.market.now in
    let ts = c.args.taken.takings in
    let x = dispatch_with (map value c.args.first.dispatch) (map value c.args.first.reserve) in
    let stop = c.in_err-taking.field-0.0 in
    let p = err_from_is_err_and c.from_residual.result c.from_residual.ensures.1 in
    let given : c.from_residual.result ≡ Err stop = p.1 ∙ ap Err p.2 in
    rw given
    (look_stop value g.N.Exact.bound m ts x (choice_duals m (taken_of ts) (choice_of c.args.first.dict)) c.lines-lines.ensures.market c.requires.first.0.1 stop
    (subst (λ y. StopsBy value (IsLookRefusal m y g.N.Exact.bound) stop) (ap₂ (λ xs rs. dispatch_with (map value xs) (map value rs)) c.slice.ensures c.slice-2.ensures) c.in_err-taking.ensures.stops))

-- what is passed by the most, of those in hand
passed_most : (g : Over) (c : In-Worst g) → let m = c.args.market.now in let ts = c.args.taken.takings in
    IsTaking m c.in-Worst.taking × IsNew ts c.in-Worst.taking × ((x : Dispatch) × BestFor m (taken_of ts) x × IsPassedTaking m x c.in-Worst.taking)
passed_most g c =
    let value = g.N.Exact.value in
    let m = c.args.market.now in
    let ts = c.args.taken.takings in
    let x = dispatch_with (map value c.args.first.dispatch) (map value c.args.first.reserve) in
    let market = c.lines-lines.ensures.market in
    let best = best_for m ts x (choice_duals m (taken_of ts) (choice_of c.args.first.dict)) market c.requires.first.0.1 in
    let found : IsScreened value m (limits_of ts) x (screened.Worst c.in-Worst.taking) =
    subst (IsScreened value m (limits_of ts) x) c.in-Worst.is
    (subst (λ rs. IsScreened value m rs x c.in_ok-taking.field-0) (c.slice-3.ensures ∙ c.requires.listed.rows)
    (subst (λ y. IsScreened value m c.slice-3.result.now y c.in_ok-taking.field-0) (ap₂ (λ xs rs. dispatch_with (map value xs) (map value rs)) c.slice.ensures c.slice-2.ensures) c.in_ok-taking.ensures.screened)) in (
      worst_taking m market ts x value best c.in-Worst.taking found,
      worst_new m market ts x value best c.in-Worst.taking found,
      (x, best, worst_passed m market ts x value best c.in-Worst.taking found),
    )

pub with_taking-requires-clause-taking : goal.with_taking-requires-clause-taking
with_taking-requires-clause-taking g c = (passed_most g (goal.at.with_taking-requires-clause-taking g c).In-Worst).0

pub with_taking-requires-clause-new : goal.with_taking-requires-clause-new
with_taking-requires-clause-new g c = (passed_most g (goal.at.with_taking-requires-clause-new g c).In-Worst).1

pub with_taking-requires-clause-passed : goal.with_taking-requires-clause-passed
with_taking-requires-clause-passed g c = (passed_most g (goal.at.with_taking-requires-clause-passed g c).In-Worst).2

pub returns-in_ok-with_taking-in-Worst-clause-round : goal.returns-in_ok-with_taking-in-Worst-clause-round
returns-in_ok-with_taking-in-Worst-clause-round g c =
    let passed = passed_most g (goal.at.returns-in_ok-with_taking-in-Worst-clause-round g c).In-Worst in (
      c.in_ok-with_taking-in-Worst.ensures.hand,
      (c.in-Worst.taking, c.in_ok-with_taking-in-Worst.ensures.takings, passed.0, passed.1, passed.2),
    )
