use Rattle.cert_format.proofs.SameLemmas.{law_of_one_reading}
use Rattle.cert_format.proofs.laws.written_texts_have_one_reading.Goals as goal

pub returns : goal.returns
returns c = law_of_one_reading
