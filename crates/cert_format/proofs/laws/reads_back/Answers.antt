use Rattle.cert_format.proofs.CertLemmas.{reads-back}
use Rattle.cert_format.proofs.laws.reads_back.Goals as goal

pub returns : goal.returns
returns c = reads-back
