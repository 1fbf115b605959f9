use Rattle.std.proofs.Common.{◌≡◌, map, take}
use Rattle.cert_verify.specs.Naming.{entry_of}
use Rattle.cert_verify.proofs.naming.by_name.Given as goal

abbrev pub invariant-loop-dual : goal.invariant-loop-dual
invariant-loop-dual g l = l.duals.entries ≡ map entry_of (take l.dual-index l.limits)
