use Rattle.case_grammar.proofs.Completeness.{derived-read}
use Rattle.case_grammar.proofs.laws.derived_texts_are_read.Goals as goal

pub returns : goal.returns
returns c = derived-read
