use Rattle.std.proofs.Common.{rules, ◌∙◌, ap, Err}
use Rattle.std.proofs.lemmas.Result.{IfOk-weaker}
use Rattle.serde_json.specs.Errors.{IsMemory}
use Rattle.serde_json.specs.View.{view}
use Rattle.cert_format.specs.Grammar.{cert_in, cert_read}
use Rattle.cert_format.proofs.CertLemmas.{json-fault, json-value}
use Rattle.cert_format.proofs.GivesLemmas.{gives-fault, gives-read, key_is}
use Rattle.cert_format.proofs.InverseLemmas.{cert_read-distinct}
use Rattle.cert_format.proofs.reading.read_json.Goals as goal

pub returns-in-Ok-clause-read : goal.returns-in-Ok-clause-read
returns-in-Ok-clause-read g c =
    let h = (c.in-Ok.ensures).ok in
    gives-read _ (cert_in g.N.Exact.bound (view c.in-Ok.value)) (cert_read g.N.Exact.bound c.args.bytes.now) (json-value g.N.Exact.bound c.args.bytes.now (view c.in-Ok.value) h.0 h.1) c.cert_in.result c.cert_in.ensures

pub returns-in-Ok-clause-fault : goal.returns-in-Ok-clause-fault
returns-in-Ok-clause-fault g c =
    let h = (c.in-Ok.ensures).ok in
    gives-fault _ (cert_in g.N.Exact.bound (view c.in-Ok.value)) (cert_read g.N.Exact.bound c.args.bytes.now) (json-value g.N.Exact.bound c.args.bytes.now (view c.in-Ok.value) h.0 h.1) c.cert_in.result c.cert_in.ensures

pub returns-in-Ok-clause-distinct : goal.returns-in-Ok-clause-distinct
returns-in-Ok-clause-distinct g c =
    let h = (c.in-Ok.ensures).ok in
    IfOk-weaker c.cert_in.result _ _ (λ x e. cert_read-distinct g.N.Exact.bound c.args.bytes.now _ e)
    (gives-read _ (cert_in g.N.Exact.bound (view c.in-Ok.value)) (cert_read g.N.Exact.bound c.args.bytes.now) (json-value g.N.Exact.bound c.args.bytes.now (view c.in-Ok.value) h.0 h.1) c.cert_in.result c.cert_in.ensures)

pub returns-else-is_memory-clause-fault : goal.returns-else-is_memory-clause-fault
returns-else-is_memory-clause-fault g c =
    let other : ¬ IsMemory c.in-Err.error = search rules in
    λ k e. json-fault g.N.Exact.bound c.args.bytes.now ((c.in-Err.ensures).err other) ∙ ap (λ j. Err j) (key_is _ k e)
