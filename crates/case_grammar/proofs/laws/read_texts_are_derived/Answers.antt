use Rattle.case_grammar.proofs.Soundness.{read-derived}
use Rattle.case_grammar.proofs.laws.read_texts_are_derived.Goals as goal

pub returns : goal.returns
returns c = read-derived
