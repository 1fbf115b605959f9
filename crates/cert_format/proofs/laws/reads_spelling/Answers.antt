use Rattle.cert_format.proofs.FractionLemmas.{fraction_of_text-read, fraction_of_text-spells}
use Rattle.cert_format.proofs.laws.reads_spelling.Goals as goal

pub returns : goal.returns
returns c = λ most text x. (fraction_of_text-spells most text x, fraction_of_text-read most text x)
