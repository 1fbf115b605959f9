use Rattle.std.proofs.Common.{◌≡◌, ℕ, ◌<◌, get_or}
use Rattle.market_model.specs.Rights.{rights_injection}
use Rattle.rights_test.proofs.injecting.put_rights.Given as goal

abbrev pub invariant-loop-bus : goal.invariant-loop-bus
invariant-loop-bus g l = (k : ℕ) (d : g.row.N.Denot) → k < l.bus → g.N.Exact.value (get_or l.out k d) ≡ rights_injection l.rights k
