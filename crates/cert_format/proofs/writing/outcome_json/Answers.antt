use Rattle.cert_format.specs.Certificates.{cert_against, cert_of}
use Rattle.cert_format.proofs.CertLemmas.{answer-at, farkas-at, told-back}
use Rattle.cert_format.proofs.writing.outcome_json.Goals as goal

pub returns-in-Cleared : goal.returns-in-Cleared
returns-in-Cleared g c =
    let a = c.in-Cleared.answer in
    let told = told-back g.N.Exact.value g.N.Exact.bound g.met.N.Exact.value_fits (λ v. v.items) (cert_of c.args.places c.args.listed a) _ (answer-at g.N.Exact.value c.args.places c.args.listed a) c.answer_text.result c.made.result
    c.answer_text.ensures.names c.made.ensures.made (c.made.ensures.text _ c.answer_text.ensures.text) in
    rw c.in-Cleared.is (record { text = told.text; fits = told.fits; reads_back = told.reads_back })

pub returns-in-Infeasible : goal.returns-in-Infeasible
returns-in-Infeasible g c =
    let f = c.in-Infeasible.farkas in
    let told = told-back g.N.Exact.value g.N.Exact.bound g.met.N.Exact.value_fits (λ v. v.items) (cert_against c.args.places c.args.listed f) _ (farkas-at g.N.Exact.value c.args.places c.args.listed f) c.against_text.result c.made-in-Infeasible.result
    c.against_text.ensures.names c.made-in-Infeasible.ensures.made (c.made-in-Infeasible.ensures.text _ c.against_text.ensures.text) in
    rw c.in-Infeasible.is (record { text = told.text; fits = told.fits; reads_back = told.reads_back })
