use Rattle.std.proofs.Common.{◌∙◌, None}
use Rattle.std.proofs.lemmas.Result.{err_from_is_err_and}
use Rattle.case_text.proofs.CostsLemmas.{stops, first-none, first-four, first-empty}
use Rattle.case_text.proofs.costs.pass_first.Goals as goal

pub returns-in_err-next_head-clause-reads : goal.returns-in_err-next_head-clause-reads
returns-in_err-next_head-clause-reads c =
    let p = err_from_is_err_and c.from_residual.result c.from_residual.ensures.1 in
    let stop = c.in_err-next_head.ensures.stop in
    Prim.rw (p.1, p.2) (first-none c.args.text.now _ _ stop.0 ∙ stops _ _ stop.1 None)

pub returns-in-Some-clause-reads : goal.returns-in-Some-clause-reads
returns-in-Some-clause-reads c =
    let first = Prim.rw c.in-Some.is at c.in_ok-next_head.ensures.head in
    first-four c.args.text.now _ _ _ c.in-Some.field-0 _ _ _ first.0 c.pass_token.ensures.pass c.pass_token-in-Some.ensures.pass c.pass_token-in-Some-2.ensures.pass

pub returns-in_default-clause-reads : goal.returns-in_default-clause-reads
returns-in_default-clause-reads c =
    let ended = Prim.rw c.in_default.is at c.in_ok-next_head.ensures.head in
    first-empty c.args.text.now _ _ _ ended.0 ended.1
