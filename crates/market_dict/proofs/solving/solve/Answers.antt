use Rattle.std.proofs.Common.{sym, subst}
use Rattle.linear_dict.specs.Dictionaries.{system_in}
use Rattle.linear_system.proofs.SameSystems.{same_pair}
use Rattle.market_system.specs.MarketSystem.{system_of}
use Rattle.market_dict.specs.Findings.{HoldsBest}
use Rattle.market_dict.specs.Takings.{taken_of}
use Rattle.market_dict.proofs.HoldingLaws.{holds_kept}
use Rattle.market_dict.proofs.solving.solve.Goals as goal

pub returns-in_ok-best-in-Solved-clause-found : goal.returns-in_ok-best-in-Solved-clause-found
returns-in_ok-best-in-Solved-clause-found g c = λ ts holds.
    let m = c.args.market.now in
    let end = c.in-Solved.ensures.outcome in
    c.in_ok-best-in-Solved.ensures ts (subst (HoldsBest m ts) (sym c.into_dict.ensures) (holds_kept m ts c.args.posed c.in-Solved.solved holds end.0, end.1, end.2))

pub returns-in-Empty-clause-found : goal.returns-in-Empty-clause-found
returns-in-Empty-clause-found g c = λ ts holds. c.nothing.ensures.found ts (holds_kept c.args.market.now ts c.args.posed c.in-Empty.dict holds c.in-Empty.ensures.outcome.0)

pub returns-in-Empty-clause-pair : goal.returns-in-Empty-clause-pair
returns-in-Empty-clause-pair g c = λ ts holds. c.nothing.ensures.pair ts (holds_kept c.args.market.now ts c.args.posed c.in-Empty.dict holds c.in-Empty.ensures.outcome.0)

pub returns-in-Passed-clause-pair : goal.returns-in-Passed-clause-pair
returns-in-Passed-clause-pair g c = λ ts holds.
    same_pair (system_in c.args.posed) (system_of c.args.market.now (taken_of ts)) holds.same g.N.Exact.bound _ _ _ c.in-Passed.ensures.outcome

pub best-requires : goal.best-requires
best-requires g c =
    let m = c.args.market.now in
    let ts = c.requires.holds.0 in
    let end = c.in-Solved.ensures.outcome in
    record { best = (ts, subst (HoldsBest m ts) (sym c.into_dict.ensures) (holds_kept m ts c.args.posed c.in-Solved.solved c.requires.holds.1 end.0, end.1, end.2)) }

pub nothing-requires-clause-holds : goal.nothing-requires-clause-holds
nothing-requires-clause-holds g c =
    let h = c.requires.holds in (h.0, holds_kept c.args.market.now h.0 c.args.posed c.in-Empty.dict h.1 c.in-Empty.ensures.outcome.0)
