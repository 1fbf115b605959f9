use Rattle.std.proofs.Common.{◌≡◌, ℕ, ◌<◌, pos, get_or}
use Rattle.std.specs.Prelude.{int_rem}
use Rattle.flow_guess.specs.declared.links.Link.{Link}
use Rattle.flow_guess.proofs.scale.divides_all.Given as goal

abbrev pub invariant-loop-link : goal.invariant-loop-link
invariant-loop-link l = (k : ℕ) (d : Link) → k < l.link-index → int_rem (get_or l.links k d).reactance l.scale ≡ pos 0
