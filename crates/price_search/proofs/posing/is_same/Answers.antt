use Rattle.std.proofs.Common.{sym}
use Rattle.limit_screen.proofs.ReachLemmas.{are_one, are_two, not_same}
use Rattle.price_search.proofs.posing.is_same.Goals as goal

pub returns-in-Equal : goal.returns-in-Equal
returns-in-Equal g c = sym (are_one (g.N.Exact.value c.args.left) (g.N.Exact.value c.args.right) c.in-Equal.ensures)

pub returns-in-Less : goal.returns-in-Less
returns-in-Less g c =
    let l = g.N.Exact.value c.args.left in
    let r = g.N.Exact.value c.args.right in
    sym (are_two l r (not_same c.order.result l r c.order.ensures c.in-Less.is))
