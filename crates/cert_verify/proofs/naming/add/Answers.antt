use Rattle.std.proofs.Common.{rules}
use Rattle.indexmap.proofs.CallerLemmas.{insert_entry-new}
use Rattle.cert_format.specs.Certificates.{same_triple}
use Rattle.cert_verify.proofs.naming.add.Goals as goal

pub returns : goal.returns
returns g c = search (rules, insert_entry-new same_triple c.args.duals.now c.args.name c.args.dual c.requires)
