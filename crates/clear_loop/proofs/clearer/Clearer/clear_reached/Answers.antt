use Rattle.std.proofs.Common.{◌≡◌, ◌∙◌, ap, refl, subst, sym}
use Rattle.std.specs.Prelude.{IsSome}
use Rattle.limit_screen.specs.Reaching.{IsReachOf}
use Rattle.market_model.specs.Fitting.{FitsOutcome}
use Rattle.market_model.specs.Valued.{outcome_at, passed_at}
use Rattle.market_system.specs.Growth.{Growth}
use Rattle.market_system.specs.Outcomes.{IsClear}
use Rattle.market_system.specs.WorkingPairs.{IsRangeOf}
use Rattle.market_dict.specs.Chosen.{IsChosenOutcome}
use Rattle.market_dict.specs.Takings.{limits_of}
use Rattle.clear_loop.specs.Clearing.{KeepsAfter, TakesAfter}
use Rattle.clear_loop.specs.Keeping.{Kept}
use Rattle.clear_loop.specs.declared.reached.ReachedOutcome.{ReachedOutcome}
use Rattle.clear_loop.proofs.EndLemmas.{ended_chosen, ended_clear, ended_fits, ended_keeps, ended_reach, ended_takes}
use Rattle.clear_loop.proofs.StartLemmas.{start_listed, start_rows}
use Rattle.clear_loop.proofs.clearer.Clearer.clear_reached.Given.{Over}
use Rattle.clear_loop.proofs.clearer.Clearer.clear_reached.Goals as goal
use Rattle.clear_loop.proofs.clearer.Clearer.clear_reached.Goals.{After-rounds_from}

-- the rows of what was kept are the limits among it
kept_limits : (g : Over) (c : After-rounds_from g) → limits_of c.replace-before.result.taken.takings ≡ c.args.self.now.taken.rows
kept_limits g c =
    let before : Kept = c.args.self.now in
    ap (λ (k : Kept). limits_of k.taken.takings) c.replace-before.ensures.value ∙ sym (start_listed c.args.market.now before.taken before.dict c.requires.frame).rows

pub returns-in-Ok-clause-clear : goal.returns-in-Ok-clause-clear
returns-in-Ok-clause-clear g c =
    let value = g.N.Exact.value in
    let m = c.args.market.now in
    let before : Kept = c.args.self.now in
    let ended = c.in-Ok.field-0 in
    let limits = limits_of ended.taken.takings in
    subst (λ (o : ReachedOutcome g.row.N.Denot). IsClear g.N.Exact.bound m before.taken.rows (outcome_at value o.outcome) c.keeping.result.taken.rows) (sym c.outcome_at_end.ensures)
    (ended_clear value g.N.Exact.bound m before.taken.rows c.keeping.result.taken.rows ended.taken.takings ended.end (start_rows m before.taken before.dict c.requires.frame)
    (subst (λ rs. Growth m rs limits) (kept_limits g (goal.at.returns-in-Ok-clause-clear g c).After-rounds_from) c.in-Ok.ensures.taken)
    (ap (λ (k : Kept). k.taken.rows) c.keeping.ensures ∙ c.in-Ok.ensures.ended.listed.rows) c.in-Ok.ensures.ended.end)

pub returns-in-Err-Passed-clause-clear : goal.returns-in-Err-Passed-clause-clear
returns-in-Err-Passed-clause-clear g c =
    let m = c.args.market.now in
    let before : Kept = c.args.self.now in
    record {
      rows = start_rows m before.taken before.dict c.requires.frame;
      right = subst (λ rs. IsRangeOf m rs g.N.Exact.bound (passed_at g.N.Exact.value c.in-Err-Passed.passed)) (kept_limits g (goal.at.returns-in-Err-Passed-clause-clear g c).After-rounds_from)
          (rw c.in-Err-Passed.field-0-is at c.in-Err-Passed.ensures.stops);
      taken = ap (λ (k : Kept). k.taken.rows) (c.replace-before.ensures.after ∙ c.unused.ensures);
      priced = tt;
    }

pub returns-in-Ok-clause-chosen : goal.returns-in-Ok-clause-chosen
returns-in-Ok-clause-chosen g c =
    let value = g.N.Exact.value in
    let m = c.args.market.now in
    let ended = c.in-Ok.field-0 in
    subst (λ (o : ReachedOutcome g.row.N.Denot). IsChosenOutcome m (outcome_at value o.outcome)) (sym c.outcome_at_end.ensures)
    (ended_chosen value m ended.taken.takings ended.end c.in-Ok.ensures.ended.end)

pub returns-in-Ok-clause-fits : goal.returns-in-Ok-clause-fits
returns-in-Ok-clause-fits g c =
    let m = c.args.market.now in
    let ended = c.in-Ok.field-0 in
    subst (λ (o : ReachedOutcome g.row.N.Denot). FitsOutcome m o.outcome) (sym c.outcome_at_end.ensures)
    (ended_fits g.N.Exact.value m ended.taken.takings ended.end c.in-Ok.ensures.ended.end)

pub returns-in-Ok-clause-reach : goal.returns-in-Ok-clause-reach
returns-in-Ok-clause-reach g c =
    let value = g.N.Exact.value in
    let m = c.args.market.now in
    let ended = c.in-Ok.field-0 in
    subst (λ (o : ReachedOutcome g.row.N.Denot). IsReachOf value m o.outcome o.reach) (sym c.outcome_at_end.ensures)
    (ended_reach value m ended.taken.takings ended.end c.in-Ok.ensures.ended.end)

pub returns-in-Ok-clause-takings : goal.returns-in-Ok-clause-takings
returns-in-Ok-clause-takings g c =
    let m = c.args.market.now in
    let before = c.args.self.now.taken.takings in
    let ended = c.in-Ok.field-0 in
    let old : c.replace-before.result.taken.takings ≡ before = ap (λ (k : Kept). k.taken.takings) c.replace-before.ensures.value in
    let new : c.keeping.result.taken.takings ≡ ended.taken.takings = ap (λ (k : Kept). k.taken.takings) c.keeping.ensures in
    subst (λ (o : ReachedOutcome g.row.N.Denot). TakesAfter m before o.outcome c.keeping.result.taken.takings) (sym c.outcome_at_end.ensures)
    (ended_takes m before c.keeping.result.taken.takings ended.end (rw new (rw old at c.in-Ok.ensures.grown)))

pub returns-in-Ok-clause-kept : goal.returns-in-Ok-clause-kept
returns-in-Ok-clause-kept g c =
    subst (λ (o : ReachedOutcome g.row.N.Denot). KeepsAfter o.outcome c.keeping.result) (sym c.outcome_at_end.ensures)
    (ended_keeps c.keeping.result c.in-Ok.field-0.end (subst (λ (k : Kept). IsSome k.dict) (sym c.keeping.ensures) refl))
