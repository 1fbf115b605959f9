use Rattle.std.proofs.Common.{◌≡◌, ◌∙◌, ap}
use Rattle.std.proofs.lemmas.Result.{IfOk-weaker}
use Rattle.serde_json.specs.View.{view}
use Rattle.serde_json.specs.Written.{compact_text, has_float}
use Rattle.serde_json.specs.declared.value.Value.{Object}
use Rattle.serde_json.proofs.Views.{view-Object}
use Rattle.cert_format.specs.Written.{cert_data, cert_text}
use Rattle.cert_format.proofs.CertLemmas.{no-float}
use Rattle.cert_format.proofs.writing.text_of.Goals as goal

pub returns : goal.returns
unfolding cert_text
returns c = λ cert is.
    let value : view (Object c.args.members) ≡ cert_data cert = view-Object c.args.members ∙ is in
    IfOk-weaker c.to_vec.result _ _ (λ b h. h (ap has_float value ∙ no-float cert) ∙ ap compact_text value) c.to_vec.ensures.text
