use Rattle.cert_format.proofs.InverseLemmas.{cert_read-fits}
use Rattle.cert_format.proofs.laws.reads_what_fits.Goals as goal

pub returns : goal.returns
returns c = cert_read-fits
