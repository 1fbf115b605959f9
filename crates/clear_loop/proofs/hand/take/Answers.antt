use Rattle.std.specs.Prelude.{[], ◌∷◌, ◌++◌, Contains}
use Rattle.std.proofs.Common.{◌⊎◌, subst}
use Rattle.std.proofs.lemmas.Result.{IfErr-weaker}
use Rattle.linear_dict.specs.Causes.{IsPairOf}
use Rattle.linear_dict.specs.Dictionaries.{choice_of}
use Rattle.market_model.specs.LimitRows.{rows}
use Rattle.market_model.specs.Stops.{OnPassed}
use Rattle.market_model.specs.SumTables.{FactorSum, IsRefusedAmong}
use Rattle.market_model.specs.Valued.{passed_at}
use Rattle.market_system.specs.Growth.{Growth}
use Rattle.market_system.specs.MarketSystem.{system_of}
use Rattle.market_dict.specs.Findings.{IsPairOver}
use Rattle.market_dict.specs.Takings.{IsTaking, limits_of, taken_of}
use Rattle.market_dict.specs.declared.taking.Taking.{Taking}
use Rattle.market_dict.specs.declared.taking.Taking.TheVariants as taking
use Rattle.market_dict.proofs.HoldingLaws.{holds_choice}
use Rattle.clear_loop.proofs.StopLemmas.{pair_stop, taken_stop}
use Rattle.clear_loop.proofs.hand.take.Goals as goal

pub returns-in-Limit-clause-stops : goal.returns-in-Limit-clause-stops
returns-in-Limit-clause-stops g c = λ ts holds grown.
    let value = g.N.Exact.value in
    let m = c.args.market.now in
    let r = c.in-Limit.row in
    let inside : Contains (rows m) r = subst (IsTaking m) c.in-Limit.is c.requires.taking in
    IfErr-weaker c.take_limit.result
    (λ s. OnPassed s (λ p. IsPairOf value g.N.Exact.bound (system_of m (taken_of (ts ++ taking.Limit r ∷ []))) p ⊎ IsRefusedAmong (FactorSum m r) g.N.Exact.bound (passed_at value p))) _
    (λ s. taken_stop value g.N.Exact.bound m ts r (choice_of c.args.dict.now) s c.lines-lines.ensures.market (subst (λ (t : Taking). Growth m (limits_of ts) (limits_of (ts ++ t ∷ []))) c.in-Limit.is grown)
    (holds_choice m ts c.args.dict.now holds) inside)
    (c.take_limit.ensures.stops ts holds)

pub returns-in-Room-clause-stops : goal.returns-in-Room-clause-stops
returns-in-Room-clause-stops g c = λ ts holds grown.
    let value = g.N.Exact.value in
    let m = c.args.market.now in
    IfErr-weaker c.take_room.result (IsPairOver value g.N.Exact.bound m (ts ++ taking.Room c.in-Room.unit ∷ [])) _
    (λ s. pair_stop value g.N.Exact.bound m (limits_of ts) (ts ++ taking.Room c.in-Room.unit ∷ []) s (subst (λ (t : Taking). Growth m (limits_of ts) (limits_of (ts ++ t ∷ []))) c.in-Room.is grown))
    (c.take_room.ensures.pair ts holds)
