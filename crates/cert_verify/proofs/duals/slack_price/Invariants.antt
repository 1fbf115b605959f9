use Rattle.std.proofs.Common.{◌≡◌, None, map, take}
use Rattle.std.specs.List.{find}
use Rattle.market_model.specs.Dispatch.{Dispatch}
use Rattle.market_model.specs.Valued.{dual_at}
use Rattle.market_model.specs.PutIn.{AreCarried}
use Rattle.cert_verify.specs.Reasons.{has_slack}
use Rattle.cert_verify.proofs.duals.slack_price.Given as goal

abbrev pub invariant-loop-dual : goal.invariant-loop-dual
invariant-loop-dual g l = (x : Dispatch) → AreCarried l.market x (map g.N.Exact.value l.carried) → find (λ e. has_slack l.market x (dual_at g.N.Exact.value e)) (take l.dual-index l.limits) ≡ None
