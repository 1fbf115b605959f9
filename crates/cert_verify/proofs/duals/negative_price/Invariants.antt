use Rattle.std.proofs.Common.{◌≡◌, None, take}
use Rattle.std.specs.List.{find}
use Rattle.market_model.specs.Valued.{dual_at}
use Rattle.cert_verify.specs.Reasons.{has_negative}
use Rattle.cert_verify.proofs.duals.negative_price.Given as goal

abbrev pub invariant-loop-dual : goal.invariant-loop-dual
invariant-loop-dual g l = find (λ e. has_negative (dual_at g.N.Exact.value e)) (take l.dual-index l.limits) ≡ None
