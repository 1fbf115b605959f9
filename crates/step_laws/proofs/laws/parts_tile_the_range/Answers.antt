use Rattle.step_laws.proofs.Tiling.{tiling}
use Rattle.step_laws.proofs.laws.parts_tile_the_range.Goals as goal

pub returns : goal.returns
returns c = tiling
