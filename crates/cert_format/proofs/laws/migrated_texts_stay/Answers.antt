use Rattle.cert_format.proofs.SameLemmas.{law_of_migrated_texts}
use Rattle.cert_format.proofs.laws.migrated_texts_stay.Goals as goal

pub returns : goal.returns
returns c = law_of_migrated_texts
