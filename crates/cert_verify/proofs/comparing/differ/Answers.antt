use Rattle.std.proofs.Common.{sym}
use Rattle.cert_verify.proofs.TestLemmas.{same_not, not_equal}
use Rattle.cert_verify.proofs.comparing.differ.Goals as goal

pub returns-in-Equal : goal.returns-in-Equal
returns-in-Equal g c = sym (same_not (g.N.Exact.value c.args.left) (g.N.Exact.value c.args.right) c.in-Equal.ensures)

pub returns-in-Less : goal.returns-in-Less
returns-in-Less g c = sym (not_equal c.order.result (g.N.Exact.value c.args.left) (g.N.Exact.value c.args.right) c.order.ensures c.in-Less.is)
