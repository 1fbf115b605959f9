use Rattle.std.proofs.Common.{◌∙◌, sym, ap, refl, false, arith}
use Rattle.std.proofs.lemmas.Result.{err_from_is_err_and}
use Rattle.case_text.specs.Nesting.{nest_of, behind_nest}
use Rattle.case_text.proofs.NestLemmas.{nest-more, nest-fails, nest-stops, nest-closed, nest-opened, not_empty, all_empty}
use Rattle.case_text.proofs.nests.skip_brackets.Goals as goal

pub loop-tokens-init : goal.loop-tokens-init
loop-tokens-init c =
    let tokens = c.args.tokens.now.left in
    record {
      same = record { text = refl; fault = refl };
      behind =
          sym (nest-opened c.args.text.now tokens.fault false _ tokens.tokens (λ e. Prim.omega (arith, e)))
          ∙ ap (λ nest. behind_nest c.args.text.now tokens.fault false nest tokens.tokens) (sym c.in_ok-nest.ensures.ok);
    }

pub returns-in_err-token-clause-err : goal.returns-in_err-token-clause-err
returns-in_err-token-clause-err c =
    let p = err_from_is_err_and c.from_residual-in_err-token.result c.from_residual-in_err-token.ensures.1 in
    let nest = c.loop-tokens.nest in
    let some = not_empty _ _ _ c.is_empty.ensures c.loop-tokens-test.true nest.brackets.ok.0 in
    Prim.rw (p.1, p.2) (λ _. nest-stops _ c.args.text.now _ false (nest_of nest) _ _ c.loop-tokens.invariant.behind c.in_err-token.ensures.stop.0 some c.in_err-token.ensures.stop.1)

pub returns-in_err-nest-2-clause-err : goal.returns-in_err-nest-2-clause-err
returns-in_err-nest-2-clause-err c =
    let p = err_from_is_err_and c.from_residual-in_err-nest-2.result c.from_residual-in_err-nest-2.ensures.1 in
    let nest = c.loop-tokens.nest in
    let some = not_empty _ _ _ c.is_empty.ensures c.loop-tokens-test.true nest.brackets.ok.0 in
    Prim.rw (p.1, p.2) (λ other. nest-fails _ c.args.text.now _ false (nest_of nest) _ c.in_ok-token.token _ _ c.loop-tokens.invariant.behind c.in_ok-token.ensures.next.left some (c.in_err-nest-2.ensures other))

pub loop-tokens-preserved : goal.loop-tokens-preserved
loop-tokens-preserved c =
    let nest = c.loop-tokens.nest in
    let some = not_empty _ _ _ c.is_empty.ensures c.loop-tokens-test.true nest.brackets.ok.0 in
    let old = c.loop-tokens.invariant in
    let same = c.in_ok-token.ensures.same in
    record {
      same = record { text = same.text ∙ old.same.text; fault = same.fault ∙ old.same.fault };
      behind = nest-more _ c.args.text.now _ _ false (nest_of nest) (nest_of c.in_ok-nest-2.nest) c.in_ok-token.token _ _ old.behind c.in_ok-token.ensures.next.left some c.in_ok-nest-2.ensures same.fault;
    }

pub returns-clause-ok : goal.returns-clause-ok
returns-clause-ok c =
    let nest = c.loop-tokens.nest in
    c.loop-tokens.invariant.behind
    ∙ nest-closed c.args.text.now _ false (nest_of nest) _ (all_empty _ _ _ c.is_empty.ensures c.loop-tokens-test.false nest.brackets.ok.0)
