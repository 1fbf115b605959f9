use Rattle.table_grammar.proofs.WorkedTexts.{worked}
use Rattle.table_grammar.proofs.laws.worked_texts.Goals as goal

pub returns : goal.returns
returns c = worked
