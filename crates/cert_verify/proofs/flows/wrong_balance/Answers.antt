use Rattle.std.proofs.Common.{rules, Err, ◌≡◌, ◌∙◌, Bool, ap, ap₂, sym}
use Rattle.fraction_theory.specs.Fraction.{Fraction}
use Rattle.market_model.specs.SumTables.{balance_of_all}
use Rattle.cert_verify.specs.declared.verdicts.Reason.TheVariants as reason
use Rattle.cert_verify.specs.Reasons.{differ, where_so}
use Rattle.cert_verify.proofs.flows.wrong_balance.Goals as goal

pub returns-in_err-sum-clause-stops : goal.returns-in_err-sum-clause-stops
returns-in_err-sum-clause-stops g c =
    let given : c.from_residual.result ≡ Err c.in_err-sum.field-0.0 = search rules in
    λ x puts. rw given (_, balance_of_all, c.in_err-sum.ensures.stops x puts)

pub returns-then-differ-clause-first : goal.returns-then-differ-clause-first
returns-then-differ-clause-first g c = λ x puts.
    ap (λ (b : Bool). where_so b reason.Balance) (sym c.if-differ.true ∙ c.differ.ensures ∙ ap₂ (λ (a b : Fraction). differ a b) (c.in_ok-sum.ensures.sum x puts) c.datum.ensures)

pub returns-else-differ-clause-first : goal.returns-else-differ-clause-first
returns-else-differ-clause-first g c = λ x puts.
    ap (λ (b : Bool). where_so b reason.Balance) (sym c.if-differ.false ∙ c.differ.ensures ∙ ap₂ (λ (a b : Fraction). differ a b) (c.in_ok-sum.ensures.sum x puts) c.datum.ensures)
