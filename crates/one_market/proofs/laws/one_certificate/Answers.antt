use Rattle.one_market.proofs.Once.{one-certificate}
use Rattle.one_market.proofs.laws.one_certificate.Goals as goal

pub returns : goal.returns
returns c = one-certificate
