use Rattle.case_tokens.proofs.TokenLemmas.{tokens_in_order}
use Rattle.case_tokens.proofs.laws.spans_in_order.Goals as goal

pub returns : goal.returns
returns c = tokens_in_order
