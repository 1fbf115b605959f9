use Rattle.std.proofs.Common.{sym}
use Rattle.cert_verify.proofs.TestLemmas.{below_of, below_not, not_less}
use Rattle.cert_verify.proofs.comparing.is_below.Goals as goal

pub returns-in-Less : goal.returns-in-Less
returns-in-Less g c = sym (below_of (g.N.Exact.value c.args.left) (g.N.Exact.value c.args.right) c.in-Less.ensures)

pub returns-in-Equal : goal.returns-in-Equal
returns-in-Equal g c =
    sym (below_not (g.N.Exact.value c.args.left) (g.N.Exact.value c.args.right) (not_less c.order.result (g.N.Exact.value c.args.left) (g.N.Exact.value c.args.right) c.order.ensures c.in-Equal.is))
