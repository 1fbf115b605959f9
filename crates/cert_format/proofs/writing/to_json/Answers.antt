use Rattle.cert_format.proofs.CertLemmas.{fits-wider, written-back}
use Rattle.cert_format.proofs.writing.to_json.Goals as goal

pub returns-in-Ok-clause-reads_back : goal.returns-in-Ok-clause-reads_back
returns-in-Ok-clause-reads_back g c = λ most wide once.
    written-back g.N.Exact.value most (fits-wider g.N.Exact.value g.N.Exact.bound most wide g.met.N.Exact.value_fits) c.args.cert.now c.in-Ok.bytes.items c.in-Ok.ensures.names c.in-Ok.ensures.text once
