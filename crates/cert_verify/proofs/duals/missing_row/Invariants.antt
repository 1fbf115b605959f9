use Rattle.std.proofs.Common.{◌≡◌, None, take}
use Rattle.std.specs.List.{find}
use Rattle.market_model.specs.Valued.{dual_at}
use Rattle.cert_verify.specs.Reasons.{has_no_row}
use Rattle.cert_verify.proofs.duals.missing_row.Given as goal

abbrev pub invariant-loop-dual : goal.invariant-loop-dual
invariant-loop-dual g l = find (λ e. has_no_row l.market (dual_at g.N.Exact.value e)) (take l.dual-index l.limits) ≡ None
