use Rattle.case_text.proofs.EvenLemmas.{cases_even}
use Rattle.case_text.proofs.laws.matrices_are_even.Goals as goal

pub returns : goal.returns
returns c = cases_even
