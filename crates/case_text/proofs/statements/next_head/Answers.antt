use Rattle.std.proofs.Common.{◌∙◌, sym, ap, subst, length, List, ℕ}
use Rattle.case_tokens.specs.TokenLists.{IsWithin}
use Rattle.std.proofs.lemmas.Result.{err_from_is_err_and}
use Rattle.case_text.specs.Words.{is_separator}
use Rattle.case_text.specs.Cases.{past_separators, at_end}
use Rattle.case_text.proofs.StatementLemmas.{past-separator, past-other, past-none}
use Rattle.case_text.proofs.statements.next_head.Goals as goal

pub returns-in_err-token-clause-stop : goal.returns-in_err-token-clause-stop
returns-in_err-token-clause-stop c =
    let p = err_from_is_err_and c.from_residual.result c.from_residual.ensures.1 in
    let stop = c.in_err-token.ensures.stop in
    let old = c.loop-token.invariant in
    Prim.rw (p.1, p.2) (
      sym old.head ∙ ap (past_separators c.args.text.now) stop.0 ∙ past-none c.args.text.now,
      λ case. ap (λ s. at_end s case) (sym old.same.fault) ∙ stop.1 case,
    )

pub returns-then-not-is_separator-clause-head : goal.returns-then-not-is_separator-clause-head
returns-then-not-is_separator-clause-head c =
    let next = Prim.rw c.in-Some.is at c.in_ok-token.ensures.next in
    let text = c.args.text.now in (
      sym c.loop-token.invariant.head ∙ ap (past_separators text) next.left
          ∙ past-other text c.in-Some.token _ (ap is_separator (sym c.word_of.ensures) ∙ sym c.is_separator.ensures ∙ c.if-not-is_separator.true),
      subst (λ n. IsWithin n c.in-Some.token) (ap (λ (xs : List ℕ). length xs) (c.loop-token.invariant.same.text ∙ c.requires)) next.within,
    )

pub loop-token-preserved : goal.loop-token-preserved
loop-token-preserved c =
    let next = Prim.rw c.in-Some.is at c.in_ok-token.ensures.next in
    let text = c.args.text.now in
    let old = c.loop-token.invariant in
    let same = c.in_ok-token.ensures.same in
    record {
      same = record { text = same.text ∙ old.same.text; fault = same.fault ∙ old.same.fault };
      head =
          sym (past-separator text c.in-Some.token _ (ap is_separator (sym c.word_of.ensures) ∙ sym c.is_separator.ensures ∙ c.if-not-is_separator.false))
          ∙ ap (past_separators text) (sym next.left) ∙ old.head;
    }

pub returns-clause-head : goal.returns-clause-head
returns-clause-head c =
    let ended = Prim.rw c.in_default.is at c.in_ok-token.ensures.next in
    let old = c.loop-token.invariant in
    (sym old.head ∙ ap (past_separators c.args.text.now) ended.0 ∙ past-none c.args.text.now, ended.1, sym old.same.fault ∙ ended.2)
