use Rattle.std.proofs.Common.{◌+◌, ◌++◌, ◌∙◌, ap₂, codes, decimal, arith}
use Rattle.std.proofs.lemmas.Result.{IfOk-weaker}
use Rattle.preparation.proofs.LineLemmas.{limited-few}
use Rattle.preparation.proofs.lines.put_soft.Goals as goal

pub overflow_add-count : goal.overflow_add-count
overflow_add-count c = omega (arith, limited-few c.args.branches.now _ _ c.requires c.limited_count.ensures c.limited_count-2.ensures)

pub returns : goal.returns
returns c =
    IfOk-weaker c.put_counted.result _ _
    (λ _ e. e ∙ ap₂ (λ a b. c.args.text.now ++ (codes "penalties " ++ decimal (a + b) ++ codes " limits\n")) c.limited_count.ensures c.limited_count-2.ensures) c.put_counted.ensures
