use Rattle.std.proofs.Common.{◌≡◌, None, map}
use Rattle.std.specs.List.{find}
use Rattle.market_model.specs.Dispatch.{Dispatch}
use Rattle.market_model.specs.PutIn.{AreCarried}
use Rattle.cert_verify.specs.Reasons.{is_overloaded}
use Rattle.cert_verify.proofs.limits.broken_limit.Given as goal

abbrev pub invariant-loop-row : goal.invariant-loop-row
invariant-loop-row g l = (x : Dispatch) → AreCarried l.market x (map g.N.Exact.value l.carried) → find (is_overloaded l.market x) l.yielded ≡ None
