use Rattle.fraction_theory.proofs.OrderLaws.{<ℚ-≤ℚ}
use Rattle.limit_screen.proofs.ReachLemmas.{not_less}
use Rattle.price_search.proofs.GreatestLemmas.{is_left, is_right}
use Rattle.price_search.proofs.caps.greater.Goals as goal

pub returns-in-Less : goal.returns-in-Less
returns-in-Less g c = is_right (g.N.Exact.value c.args.left) (g.N.Exact.value c.args.right) (<ℚ-≤ℚ (g.N.Exact.value c.args.left) (g.N.Exact.value c.args.right) c.in-Less.ensures)

pub returns-in-Equal : goal.returns-in-Equal
returns-in-Equal g c =
    let l = g.N.Exact.value c.args.left in
    let r = g.N.Exact.value c.args.right in
    is_left l r (not_less c.order.result l r c.order.ensures c.in-Equal.is)
