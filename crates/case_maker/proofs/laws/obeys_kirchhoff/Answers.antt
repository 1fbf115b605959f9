use Rattle.case_maker.proofs.KirchhoffLaws.{kirchhoff}
use Rattle.case_maker.proofs.laws.obeys_kirchhoff.Goals as goal

pub returns : goal.returns
returns c = kirchhoff
