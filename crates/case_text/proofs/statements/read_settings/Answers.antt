use Rattle.std.proofs.Common.{◌∙◌, sym, ap}
use Rattle.std.proofs.lemmas.Result.{err_from_is_err_and}
use Rattle.case_text.specs.Names.{field_of}
use Rattle.case_text.specs.Views.{settings_of, setting_of}
use Rattle.case_text.proofs.StatementLemmas.{case-ends, case-done, case-goes, case-misread, case-unset, with-stop, as-read, fewer, as-ok, as-err}
use Rattle.case_text.proofs.statements.read_settings.Goals as goal

pub returns-in_err-head-clause-err : goal.returns-in_err-head-clause-err
returns-in_err-head-clause-err c =
    let p = err_from_is_err_and c.from_residual.result c.from_residual.ensures.1 in
    let stop = c.in_err-head.ensures.stop in
    Prim.rw (p.1, p.2) (λ _. case-ends _ c.args.text.now _ (settings_of c.loop-settings.settings) _ c.loop-settings.invariant.whole stop.0 ∙ stop.1 _)

pub returns-in_err-field-clause-err : goal.returns-in_err-field-clause-err
returns-in_err-field-clause-err c =
    let p = err_from_is_err_and c.from_residual-in_err-field.result c.from_residual-in_err-field.ensures.1 in
    let first = Prim.rw c.in-Some.is at c.in_ok-head.ensures.head in
    let whole = with-stop _ c.args.text.now _ _ (settings_of c.loop-settings.settings) _ c.loop-settings.invariant.whole c.in_ok-head.ensures.same.fault in
    Prim.rw (p.1, p.2) (λ other. case-misread _ c.args.text.now _ (settings_of c.loop-settings.settings) _ _ c.in-Some.head _ whole first.0 (as-read c.args.text.now _ c.in-Some.head _ _ _ (c.field_of-named.ensures ∙ ap field_of c.text_of.ensures) (c.in_err-field.ensures.err other)))

pub returns-in_err-settings-clause-err : goal.returns-in_err-settings-clause-err
returns-in_err-settings-clause-err c =
    let p = err_from_is_err_and c.from_residual-in_err-settings.result c.from_residual-in_err-settings.ensures.1 in
    let first = Prim.rw c.in-Some.is at c.in_ok-head.ensures.head in
    let whole = with-stop _ c.args.text.now _ _ (settings_of c.loop-settings.settings) _ c.loop-settings.invariant.whole c.in_ok-head.ensures.same.fault in
    Prim.rw (p.1, p.2) (λ _. case-unset _ c.args.text.now _ (settings_of c.loop-settings.settings) _ _ _ c.in-Some.head (setting_of c.in_ok-field.field-0) _ whole first.0 (as-read c.args.text.now _ c.in-Some.head _ _ _ (c.field_of-named.ensures ∙ ap field_of c.text_of.ensures) c.in_ok-field.ensures.ok) c.in_err-settings.ensures)

pub loop-settings-smaller : goal.loop-settings-smaller
loop-settings-smaller c =
    let first = Prim.rw c.in-Some.is at c.in_ok-head.ensures.head in
    fewer c.args.text.now _ _ _ c.in-Some.head _ (setting_of c.in_ok-field.field-0) first.0 (as-read c.args.text.now _ c.in-Some.head _ _ _ (c.field_of-named.ensures ∙ ap field_of c.text_of.ensures) c.in_ok-field.ensures.ok)

pub loop-settings-preserved : goal.loop-settings-preserved
loop-settings-preserved c =
    let first = Prim.rw c.in-Some.is at c.in_ok-head.ensures.head in
    let old = c.loop-settings.invariant in
    let head = c.in_ok-head.ensures.same in
    let read = c.in_ok-field.ensures.same in
    let whole = with-stop _ c.args.text.now _ _ (settings_of c.loop-settings.settings) _ old.whole head.fault in
    let goes = case-goes _ c.args.text.now _ (settings_of c.loop-settings.settings) (settings_of c.in_ok-settings.settings) _ _ _ c.in-Some.head (setting_of c.in_ok-field.field-0) whole first.0
    (as-read c.args.text.now _ c.in-Some.head _ _ _ (c.field_of-named.ensures ∙ ap field_of c.text_of.ensures) c.in_ok-field.ensures.ok) c.in_ok-settings.ensures in
    record {
      same = record { text = read.text ∙ head.text ∙ old.same.text; fault = read.fault ∙ head.fault ∙ old.same.fault };
      whole = with-stop _ c.args.text.now _ _ (settings_of c.in_ok-settings.settings) _ goes read.fault;
    }

pub returns-clause-ok : goal.returns-clause-ok
returns-clause-ok c =
    let ended = Prim.rw c.in_default.is at c.in_ok-head.ensures.head in
    as-ok c.all_set.result _ (case-done _ c.args.text.now _ (settings_of c.loop-settings.settings) _ c.loop-settings.invariant.whole ended.0 ended.2 ∙ sym c.all_set.ensures)

pub returns-clause-err : goal.returns-clause-err
returns-clause-err c =
    let ended = Prim.rw c.in_default.is at c.in_ok-head.ensures.head in
    as-err c.all_set.result _ (case-done _ c.args.text.now _ (settings_of c.loop-settings.settings) _ c.loop-settings.invariant.whole ended.0 ended.2 ∙ sym c.all_set.ensures)
