use Rattle.std.proofs.Common.{◌≡◌, ◌*◌}
use Rattle.case_maker.specs.Rings.{state}
use Rattle.case_maker.proofs.RingParts.{first_buses}
use Rattle.case_maker.proofs.rings.ring.Given as goal

abbrev pub invariant-loop-place : goal.invariant-loop-place
invariant-loop-place l = record {
  state : l.draws.state ≡ state l.seed (4 * l.place);
  parts : l.parts ≡ first_buses l.buses l.seed l.place;
}
