use Rattle.std.proofs.Common.{ap, sym, ◌∙◌, w64}
use Rattle.std.proofs.lemmas.Int.{to_z-of_z}
use mir.Val.{to_z}
use Rattle.limit_rows.proofs.FlowSteps.{no_share}
use Rattle.limit_rows.proofs.flowing.with_share.Goals as goal

pub returns-then-share-eq0-clause-sum : goal.returns-then-share-eq0-clause-sum
returns-then-share-eq0-clause-sum g c =
    no_share (g.N.Exact.value c.args.sum) (g.N.Exact.value c.args.number) c.args.share (sym (to_z-of_z w64 c.args.share c.ranges.share) ∙ ap (to_z w64) c.if-share-eq0.true)
