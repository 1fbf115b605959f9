use Rattle.std.proofs.Common.{◌∙◌, sym}
use Rattle.linear_dict.proofs.ChangeLemmas.{opposite_sum}
use Rattle.linear_dict.proofs.changes.sum_at.Goals as goal

pub returns-then-is_same-4 : goal.returns-then-is_same-4
returns-then-is_same-4 g c =
    let value = g.N.Exact.value in record {
      exact = c.neg-then-is_same-4.ensures
          ∙ opposite_sum (value c.args.entry) (value c.args.factor) (value c.args.other) _ _ _
          (sym c.neg-then-is_same-3.ensures ∙ c.is_same-then-is_same-3.ensures.0 c.if-is_same-4.true)
          (sym c.neg.ensures ∙ c.is_same-else-is_same.ensures.0 c.if-is_same-3.true)
          (c.requires.made _ c.index-changes-twin.result c.if-twin-n.true).exact;
    }
