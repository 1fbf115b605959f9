use Rattle.case_grammar.proofs.Completeness.{one-reading}
use Rattle.case_grammar.proofs.laws.one_reading.Goals as goal

pub returns : goal.returns
returns c = one-reading
