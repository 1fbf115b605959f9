use Rattle.std.proofs.Common.{rules, ◌≡◌, ◌∙◌, IfOk, ap, subst, w64}
use mir.Val.{to_z, of_z}
use Rattle.std.proofs.lemmas.Int.{to_z-of_z}
use Rattle.market_model.specs.declared.participants.Parts.{Parts}
use Rattle.market_model.specs.declared.participants.Reserve.{Reserve}
use Rattle.market_model.specs.Valued.{outcome_at}
use Rattle.report_text.specs.Reports.{report_text}
use Rattle.report_text.proofs.ReserveLemmas.{need_kept}
use Rattle.report_text.proofs.outcome.report.Goals as goal

pub returns : goal.returns
returns g c =
    let fits : to_z w64 (of_z w64 c.need_of.result) ≡ c.need_of.result = search (rules, to_z-of_z) in
    subst (λ (m : Parts). IfOk c.report_with_need.result (λ bytes. bytes.items ≡ report_text m (outcome_at g.N.Exact.value c.args.outcome.now)))
    (need_kept c.args.market.now (to_z w64 (of_z w64 c.need_of.result)) (fits ∙ c.need_of.ensures ∙ ap (λ (r : Reserve). r.need) c.reserve.ensures.reserve)) c.report_with_need.ensures
