use Rattle.std.proofs.Common.{subst}
use Rattle.std.specs.Prelude.{IfOk}
use Rattle.std.proofs.lemmas.Result.{IfOk-weaker}
use Rattle.market_model.specs.Valued.{outcome_at}
use Rattle.market_system.specs.Outcomes.{IsClear}
use Rattle.market_dict.specs.Takings.{limits_of}
use Rattle.edit_replay.specs.SessionStates.{SessionState}
use Rattle.edit_replay.proofs.KeptLemmas.{clear_by_limits}
use Rattle.edit_replay.proofs.session.Session.clear_reached.Goals as goal

pub returns-clause-clear : goal.returns-clause-clear
returns-clause-clear g c =
    let value = g.N.Exact.value in
    let new = c.clear_reached.new.self in
    let old = c.self.inside in
    subst (λ (s : SessionState). IfOk c.clear_reached.result (λ r. IsClear g.N.Exact.bound s.market (limits_of s.kept.taken.takings) (outcome_at value r.outcome) (limits_of new.taken.takings))) c.self.view_is
    (IfOk-weaker c.clear_reached.result _ _ (λ r. clear_by_limits g.N.Exact.bound old.market old.clearer new (outcome_at value r.outcome) c.self.invariant c.clear_reached.ensures.frame) c.clear_reached.ensures.clear)
