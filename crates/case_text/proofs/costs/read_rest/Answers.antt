use Rattle.std.proofs.Common.{◌∙◌, sym, ap, Err}
use Rattle.std.proofs.lemmas.Result.{err_from_is_err_and}
use Rattle.case_text.specs.declared.costs.CostsFault.TheVariants as fault
use Rattle.case_text.specs.Views.{setting_of}
use Rattle.case_text.specs.Costs.{costs_field, costs_at_end}
use Rattle.case_text.proofs.CostsLemmas.{stops, costs-end, as-costs, costs-go, costs-unset, costs-misread, costs-fewer, costs-stop}
use Rattle.case_text.proofs.costs.read_rest.Goals as goal

pub returns-in_err-head : goal.returns-in_err-head
returns-in_err-head c =
    let p = err_from_is_err_and c.from_residual.result c.from_residual.ensures.1 in
    let stop = c.in_err-head.ensures.stop in
    Prim.rw (p.1, p.2) (λ _. sym (costs-end _ c.args.text.now _ c.loop-costs.costs _ c.loop-costs.invariant.whole stop.0 ∙ stops _ _ stop.1 c.loop-costs.costs))

pub returns-in_err-setting : goal.returns-in_err-setting
returns-in_err-setting c =
    let p = err_from_is_err_and c.from_residual-in_err-setting.result c.from_residual-in_err-setting.ensures.1 in
    let first = Prim.rw c.in-Some.is at c.in_ok-head.ensures.head in
    let whole = costs-stop _ c.args.text.now _ _ c.loop-costs.costs _ c.loop-costs.invariant.whole c.in_ok-head.ensures.same.fault in
    let named = c.costs_field-field.ensures ∙ ap costs_field c.text_of.ensures in
    Prim.rw (p.1, p.2) (λ other. sym (costs-misread _ c.args.text.now _ c.loop-costs.costs _ _ c.in-Some.head _ whole first.0
    (as-costs c.args.text.now _ c.in-Some.head _ _ _ named (c.in_err-setting.ensures.err (λ m. other (ap (λ e. Err (fault.Text e)) m))))))

pub returns-in_err-costs : goal.returns-in_err-costs
returns-in_err-costs c =
    let p = err_from_is_err_and c.from_residual-in_err-costs.result c.from_residual-in_err-costs.ensures.1 in
    let first = Prim.rw c.in-Some.is at c.in_ok-head.ensures.head in
    let whole = costs-stop _ c.args.text.now _ _ c.loop-costs.costs _ c.loop-costs.invariant.whole c.in_ok-head.ensures.same.fault in
    let named = c.costs_field-field.ensures ∙ ap costs_field c.text_of.ensures in
    Prim.rw (p.1, p.2) (λ _. sym (costs-unset _ c.args.text.now _ c.loop-costs.costs _ _ _ c.in-Some.head (setting_of c.in_ok-setting.setting) _ whole first.0
    (as-costs c.args.text.now _ c.in-Some.head _ _ _ named c.in_ok-setting.ensures.ok) (sym c.in_err-costs.ensures)))

pub loop-costs-smaller : goal.loop-costs-smaller
loop-costs-smaller c =
    let first = Prim.rw c.in-Some.is at c.in_ok-head.ensures.head in
    costs-fewer c.args.text.now _ _ _ c.in-Some.head _ _ (setting_of c.in_ok-setting.setting) first.0 c.in_ok-setting.ensures.ok

pub loop-costs-preserved : goal.loop-costs-preserved
loop-costs-preserved c =
    let first = Prim.rw c.in-Some.is at c.in_ok-head.ensures.head in
    let old = c.loop-costs.invariant in
    let head = c.in_ok-head.ensures.same in
    let read = c.in_ok-setting.ensures.same in
    let whole = costs-stop _ c.args.text.now _ _ c.loop-costs.costs _ old.whole head.fault in
    let named = c.costs_field-field.ensures ∙ ap costs_field c.text_of.ensures in
    let goes = costs-go _ c.args.text.now _ c.loop-costs.costs c.in_ok-costs.costs _ _ _ c.in-Some.head (setting_of c.in_ok-setting.setting) whole first.0
    (as-costs c.args.text.now _ c.in-Some.head _ _ _ named c.in_ok-setting.ensures.ok) (sym c.in_ok-costs.ensures) in
    record {
      same = record { text = read.text ∙ head.text ∙ old.same.text; fault = read.fault ∙ head.fault ∙ old.same.fault };
      whole = costs-stop _ c.args.text.now _ _ c.in_ok-costs.costs _ goes read.fault;
    }

pub returns : goal.returns
returns c =
    let ended = Prim.rw c.in_default.is at c.in_ok-head.ensures.head in
    λ _. sym (costs-end _ c.args.text.now _ c.loop-costs.costs _ c.loop-costs.invariant.whole ended.0 ∙ ap (λ z. costs_at_end z c.loop-costs.costs) ended.2)
