use Rattle.std.proofs.Common.{arith, sym, ◌∙◌}
use Rattle.fraction_theory.proofs.SignLaws.{not_nil_by_sign}
use Rattle.exact_tests.proofs.dictionary.pivot_at.Goals as goal

pub pivot-requires : goal.pivot-requires
pivot-requires g c = record {
  live = sym c.spent.ensures.answer ∙ c.if-spent.false;
  row = Prim.omega (arith, c.row_count.ensures, c.if-r-row_count.false);
  column = Prim.omega (arith, c.column_count.ensures, c.if-c-column_count.false);
  entry = λ z. not_nil_by_sign (g.N.Exact.value c.entry.result) c.sign.result c.sign.ensures c.in_default.not-Zero (c.entry.ensures.value ∙ z);
}
