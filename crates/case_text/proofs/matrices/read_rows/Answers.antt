use Rattle.std.proofs.Common.{◌∙◌, sym, ap, refl, true, arith, inr}
use Rattle.std.proofs.lemmas.Result.{err_from_is_err_and}
use Rattle.case_text.specs.Nests.{Nest}
use Rattle.case_text.specs.Nesting.{nest_of, behind_nest}
use Rattle.case_text.proofs.NestLemmas.{nest-more, nest-fails, nest-stops, nest-closed, nest-opened, not_empty, all_empty, flat-step, only-square, stays-flat}
use Rattle.case_text.proofs.RowLemmas.{rows-keeps, rows-done, rows-start}
use Rattle.case_text.proofs.matrices.read_rows.Goals as goal

pub loop-alloc-init : goal.loop-alloc-init
loop-alloc-init c =
    let tokens = c.args.tokens.now.left in
    let flat = ap (λ (n : Nest). n.brackets) c.in_ok-nest.ensures.ok in
    record {
      same = record { text = refl; fault = refl };
      behind =
          sym (nest-opened c.args.text.now tokens.fault true _ tokens.tokens (λ e. Prim.omega (arith, e)))
          ∙ ap (λ nest. behind_nest c.args.text.now tokens.fault true nest tokens.tokens) (sym c.in_ok-nest.ensures.ok);
      flat = inr flat;
      rows = rows-start _ _ c.new.result.items c.new-2.result.items c.args.text.now (nest_of c.in_ok-nest.nest) tokens.tokens c.new.ensures.items c.new-2.ensures.items flat;
    }

pub returns-in_err-token-clause-err : goal.returns-in_err-token-clause-err
returns-in_err-token-clause-err c =
    let p = err_from_is_err_and c.from_residual-in_err-token.result c.from_residual-in_err-token.ensures.1 in
    let nest = c.loop-alloc.nest in
    let some = not_empty _ _ _ c.is_empty.ensures c.loop-alloc-test.true nest.brackets.ok.0 in
    Prim.rw (p.1, p.2) (λ _. nest-stops _ c.args.text.now _ true (nest_of nest) _ _ c.loop-alloc.invariant.behind c.in_err-token.ensures.stop.0 some c.in_err-token.ensures.stop.1)

pub returns-in_err-nest-2-clause-err : goal.returns-in_err-nest-2-clause-err
returns-in_err-nest-2-clause-err c =
    let p = err_from_is_err_and c.from_residual-in_err-nest-2.result c.from_residual-in_err-nest-2.ensures.1 in
    let nest = c.loop-alloc.nest in
    let some = not_empty _ _ _ c.is_empty.ensures c.loop-alloc-test.true nest.brackets.ok.0 in
    Prim.rw (p.1, p.2) (λ other. nest-fails _ c.args.text.now _ true (nest_of nest) _ c.in_ok-token.token _ _ c.loop-alloc.invariant.behind c.in_ok-token.ensures.next.left some (c.in_err-nest-2.ensures other))

pub loop-alloc-preserved : goal.loop-alloc-preserved
loop-alloc-preserved c =
    let nest = c.loop-alloc.nest in
    let next = c.in_ok-nest-2.nest in
    let text = c.args.text.now in
    let token = c.in_ok-token.token in
    let old = c.loop-alloc.invariant in
    let same = c.in_ok-token.ensures.same in
    let some = not_empty _ _ _ c.is_empty.ensures c.loop-alloc-test.true nest.brackets.ok.0 in
    let flat = only-square nest.brackets.items old.flat some in
    let goes = flat-step text token (nest_of nest) (nest_of next) flat c.in_ok-nest-2.ensures in
    record {
      same = record { text = same.text ∙ old.same.text; fault = same.fault ∙ old.same.fault };
      behind = nest-more _ text _ _ true (nest_of nest) (nest_of next) token _ _ old.behind c.in_ok-token.ensures.next.left some c.in_ok-nest-2.ensures same.fault;
      flat = stays-flat _ (nest_of next) goes;
      rows = rows-keeps text token _ _ _ _ _ _ _ (nest_of nest) (nest_of next) flat c.in_ok-token.ensures.next.left goes c.in_ok-gathered.ensures.ok.0 c.in_ok-gathered.ensures.ok.1 old.rows;
    }

pub returns-clause-ok : goal.returns-clause-ok
returns-clause-ok c =
    let nest = c.loop-alloc.nest in
    c.loop-alloc.invariant.behind
    ∙ nest-closed c.args.text.now _ true (nest_of nest) _ (all_empty _ _ _ c.is_empty.ensures c.loop-alloc-test.false nest.brackets.ok.0)

pub returns-clause-rows : goal.returns-clause-rows
returns-clause-rows c =
    let nest = c.loop-alloc.nest in
    rows-done c.args.text.now (nest_of nest) _ _ _ _ c.loop-alloc.invariant.rows (all_empty _ _ _ c.is_empty.ensures c.loop-alloc-test.false nest.brackets.ok.0)
