use Rattle.std.proofs.Common.{◌∙◌, ap, Err}
use Rattle.std.proofs.lemmas.Result.{err_from_is_err_and}
use Rattle.case_text.specs.declared.CaseFault.TheVariants as fault
use Rattle.case_text.specs.Settings.{no_settings}
use Rattle.case_text.specs.Cases.{at_end}
use Rattle.case_text.proofs.StatementLemmas.{statements-none, statements-head, ok-through, err-through, same-stop}
use Rattle.case_text.proofs.statements.read_statements.Goals as goal

pub returns-in_err-head-clause-err : goal.returns-in_err-head-clause-err
returns-in_err-head-clause-err c =
    let p = err_from_is_err_and c.from_residual.result c.from_residual.ensures.1 in
    let stop = c.in_err-head.ensures.stop in
    Prim.rw (p.1, p.2) (λ _. statements-none c.args.text.now _ _ stop.0 ∙ stop.1 _)

pub returns-in_err-read_function-in-Some-clause-err : goal.returns-in_err-read_function-in-Some-clause-err
returns-in_err-read_function-in-Some-clause-err c =
    let p = err_from_is_err_and c.from_residual-in_err-read_function-in-Some.result c.from_residual-in_err-read_function-in-Some.ensures.1 in
    let first = Prim.rw c.in-Some.is at c.in_ok-head.ensures.head in
    Prim.rw (p.1, p.2) (λ _. statements-head c.args.text.now _ _ _ _ c.in-Some.head first.0 c.in_ok-head.ensures.same.fault ∙ c.in_err-read_function-in-Some.ensures.reads)

pub returns-in_ok-read_function-in-Some-clause-ok : goal.returns-in_ok-read_function-in-Some-clause-ok
returns-in_ok-read_function-in-Some-clause-ok c =
    let first = Prim.rw c.in-Some.is at c.in_ok-head.ensures.head in
    let read = c.in_ok-read_function-in-Some.ensures in
    ok-through c.read_settings.result _ _
    (statements-head c.args.text.now _ _ _ _ c.in-Some.head first.0 c.in_ok-head.ensures.same.fault ∙ read.reads ∙ same-stop c.args.text.now _ _ no_settings _ read.same.fault)
    c.read_settings.ensures.ok

pub returns-in_ok-read_function-in-Some-clause-err : goal.returns-in_ok-read_function-in-Some-clause-err
returns-in_ok-read_function-in-Some-clause-err c =
    let first = Prim.rw c.in-Some.is at c.in_ok-head.ensures.head in
    let read = c.in_ok-read_function-in-Some.ensures in
    err-through c.read_settings.result _ _
    (statements-head c.args.text.now _ _ _ _ c.in-Some.head first.0 c.in_ok-head.ensures.same.fault ∙ read.reads ∙ same-stop c.args.text.now _ _ no_settings _ read.same.fault)
    c.read_settings.ensures.err

pub returns-in-None-clause-err : goal.returns-in-None-clause-err
returns-in-None-clause-err c =
    let ended = Prim.rw c.in-None.is at c.in_ok-head.ensures.head in
    λ _. statements-none c.args.text.now _ _ ended.0 ∙ ap (λ stop. at_end stop (Err fault.NoVersion)) ended.2
