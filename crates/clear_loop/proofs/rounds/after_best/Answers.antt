use Rattle.std.proofs.Common.{Err, ap, ap₂, ◌≡◌, ◌∙◌, map, subst, sym, true}
use Rattle.std.proofs.lemmas.Result.{err_from_is_err_and}
use Rattle.linear_dict.specs.Dictionaries.{choice_of}
use Rattle.market_model.specs.Dispatch.{Dispatch, dispatch_with}
use Rattle.market_model.specs.Stops.{StopsBy}
use Rattle.market_model.specs.Optimality.{BestFor}
use Rattle.market_system.specs.MarketSystem.{choice_duals}
use Rattle.market_system.proofs.GrowthLaws.{growth_none}
use Rattle.market_dict.specs.Takings.{IsTaking, limits_of, taken_of}
use Rattle.clear_loop.specs.Growing.{IsNew, IsPassedTaking}
use Rattle.limit_screen.specs.Reaching.{IsReach}
use Rattle.clear_loop.specs.Rounds.{IsLookRefusal, IsScreened, KeepsAll}
use Rattle.clear_loop.specs.declared.screen.Screened.TheVariants as screened
use Rattle.clear_loop.proofs.BrokenLemmas.{worst_new, worst_passed, worst_taking}
use Rattle.clear_loop.proofs.SolvedLemmas.{best_for}
use Rattle.clear_loop.proofs.StopLemmas.{look_stop, pair_stop}
use Rattle.clear_loop.proofs.rounds.after_best.Given.{Over}
use Rattle.clear_loop.proofs.rounds.after_best.Goals as goal
use Rattle.clear_loop.proofs.rounds.after_best.Goals.{After-are_same-then-are_same, In-Within, In-Worst}

pub returns-in_err-taking-clause-stops : goal.returns-in_err-taking-clause-stops
returns-in_err-taking-clause-stops g c =
    let value = g.N.Exact.value in
    let m = c.args.market.now in
    let ts = c.args.taken.takings in
    let x = dispatch_with (map value c.args.dispatch) (map value c.args.reserve) in
    let stop = c.in_err-taking.field-0.0 in
    let p = err_from_is_err_and c.from_residual.result c.from_residual.ensures.1 in
    let given : c.from_residual.result ≡ Err stop = p.1 ∙ ap Err p.2 in
    rw given
    (look_stop value g.N.Exact.bound m ts x (choice_duals m (taken_of ts) (choice_of c.args.dict)) c.lines-lines.ensures.market c.requires.found.1 stop
    (subst (λ y. StopsBy value (IsLookRefusal m y g.N.Exact.bound) stop) (ap₂ (λ xs rs. dispatch_with (map value xs) (map value rs)) c.slice-blocks.ensures c.slice-offers.ensures) c.in_err-taking.ensures.stops))

-- what is passed by the most, of those in hand
passed_most : (g : Over) (c : In-Worst g) → let m = c.args.market.now in let ts = c.args.taken.takings in
    IsTaking m c.in-Worst.taking × IsNew ts c.in-Worst.taking × ((x : Dispatch) × BestFor m (taken_of ts) x × IsPassedTaking m x c.in-Worst.taking)
passed_most g c =
    let value = g.N.Exact.value in
    let m = c.args.market.now in
    let ts = c.args.taken.takings in
    let x = dispatch_with (map value c.args.dispatch) (map value c.args.reserve) in
    let market = c.lines-lines.ensures.market in
    let best = best_for m ts x (choice_duals m (taken_of ts) (choice_of c.args.dict)) market c.requires.found.1 in
    let found : IsScreened value m (limits_of ts) x (screened.Worst c.in-Worst.taking) =
    subst (IsScreened value m (limits_of ts) x) c.in-Worst.is
    (subst (λ rs. IsScreened value m rs x c.in_ok-taking.field-0) (c.slice.ensures ∙ c.requires.listed.rows)
    (subst (λ y. IsScreened value m c.slice.result.now y c.in_ok-taking.field-0) (ap₂ (λ xs rs. dispatch_with (map value xs) (map value rs)) c.slice-blocks.ensures c.slice-offers.ensures) c.in_ok-taking.ensures.screened)) in (
      worst_taking m market ts x value best c.in-Worst.taking found,
      worst_new m market ts x value best c.in-Worst.taking found,
      (x, best, worst_passed m market ts x value best c.in-Worst.taking found),
    )

pub with_taking-requires-clause-taking : goal.with_taking-requires-clause-taking
with_taking-requires-clause-taking g c = (passed_most g (goal.at.with_taking-requires-clause-taking g c).In-Worst).0

pub with_taking-requires-clause-new : goal.with_taking-requires-clause-new
with_taking-requires-clause-new g c = (passed_most g (goal.at.with_taking-requires-clause-new g c).In-Worst).1

pub with_taking-requires-clause-passed : goal.with_taking-requires-clause-passed
with_taking-requires-clause-passed g c = (passed_most g (goal.at.with_taking-requires-clause-passed g c).In-Worst).2

pub returns-in_ok-with_taking-in-Worst-clause-round : goal.returns-in_ok-with_taking-in-Worst-clause-round
returns-in_ok-with_taking-in-Worst-clause-round g c =
    let passed = passed_most g (goal.at.returns-in_ok-with_taking-in-Worst-clause-round g c).In-Worst in (
      c.in_ok-with_taking-in-Worst.ensures.hand,
      (c.in-Worst.taking, c.in_ok-with_taking-in-Worst.ensures.takings, passed.0, passed.1, passed.2),
    )

-- what is looked for, where all limits and rooms are kept, goes first
pub returns-in_err-first-in-Within-clause-stops : goal.returns-in_err-first-in-Within-clause-stops
returns-in_err-first-in-Within-clause-stops g c =
    let m = c.args.market.now in
    let ts = c.args.taken.takings in
    let stop = c.in_err-first-in-Within.field-0.0 in
    let p = err_from_is_err_and c.from_residual-in_err-first-in-Within.result c.from_residual-in_err-first-in-Within.ensures.1 in
    let given : c.from_residual-in_err-first-in-Within.result ≡ Err stop = p.1 ∙ ap Err p.2 in
    rw given (pair_stop g.N.Exact.value g.N.Exact.bound m (limits_of ts) ts stop (growth_none m (limits_of ts)) (c.in_err-first-in-Within.ensures.pair ts c.requires.found.0))

pub after_first-requires-clause-first : goal.after_first-requires-clause-first
after_first-requires-clause-first g c = c.in_ok-first-in-Within.ensures.first c.args.taken.takings c.requires.found.0

pub answered-requires-clause-first : goal.answered-requires-clause-first
answered-requires-clause-first g c = c.in_ok-first-in-Within.ensures.first c.args.taken.takings c.requires.found.0

-- all is kept, and it is held what the dispatch carries and reaches
all_within : (g : Over) (c : In-Within g) → let m = c.args.market.now in let x = dispatch_with (map g.N.Exact.value c.args.dispatch) (map g.N.Exact.value c.args.reserve) in
    KeepsAll m (limits_of c.args.taken.takings) x × IsReach g.N.Exact.value m x c.in-Within.reach
all_within g c =
    let value = g.N.Exact.value in
    let m = c.args.market.now in
    let ts = c.args.taken.takings in
    let x = dispatch_with (map value c.args.dispatch) (map value c.args.reserve) in
    subst (IsScreened value m (limits_of ts) x) c.in-Within.is
    (subst (λ rs. IsScreened value m rs x c.in_ok-taking.field-0) (c.slice.ensures ∙ c.requires.listed.rows)
    (subst (λ y. IsScreened value m c.slice.result.now y c.in_ok-taking.field-0) (ap₂ (λ xs rs. dispatch_with (map value xs) (map value rs)) c.slice-blocks.ensures c.slice-offers.ensures) c.in_ok-taking.ensures.screened))

-- the dispatch that goes first is that which was looked at
same_dispatch : (g : Over) (c : After-are_same-then-are_same g) → c.are_same-then-are_same.result ≡ true → let value = g.N.Exact.value in
    dispatch_with (map value c.args.dispatch) (map value c.args.reserve) ≡ dispatch_with (map value c.in_ok-first-in-Within.first.dispatch) (map value c.in_ok-first-in-Within.first.reserve)
same_dispatch g c same =
    let value = g.N.Exact.value in
    ap₂ dispatch_with
    (ap (map value) (sym c.slice-blocks.ensures) ∙ c.are_same.ensures c.if-are_same.true ∙ ap (map value) c.slice-in-Within.ensures)
    (ap (map value) (sym c.slice-offers.ensures) ∙ c.are_same-then-are_same.ensures same ∙ ap (map value) c.slice-then-are_same.ensures)

pub answered-requires-clause-kept : goal.answered-requires-clause-kept
answered-requires-clause-kept g c =
    let at = goal.at.answered-requires-clause-kept g c in
    subst (KeepsAll c.args.market.now (limits_of c.args.taken.takings)) (same_dispatch g at.After-are_same-then-are_same c.if-are_same-2.true) (all_within g at.In-Within).0

pub answered-requires-clause-reach : goal.answered-requires-clause-reach
answered-requires-clause-reach g c =
    let at = goal.at.answered-requires-clause-reach g c in
    subst (λ x. IsReach g.N.Exact.value c.args.market.now x c.in-Within.reach) (same_dispatch g at.After-are_same-then-are_same c.if-are_same-2.true) (all_within g at.In-Within).1
