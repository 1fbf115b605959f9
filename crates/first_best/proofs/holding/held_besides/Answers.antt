use Rattle.std.proofs.Common.{◌≡◌, ◌∙◌, ◌+◌, Bool, List, Option, arith, ap₂, subst, sym, slice_index}
use Rattle.linear_dict.specs.Notes.{noted}
use Rattle.first_best.proofs.HoldLemmas.{AreBesides, besides, besides-all, besides_more}
use Rattle.first_best.proofs.holding.held_besides.Goals as goal

pub loop-rank-preserved : goal.loop-rank-preserved
loop-rank-preserved g c =
    let d = c.args.dict.now in
    subst (AreBesides d c.args.held.now (c.loop-rank.rank + 1)) (sym c.in-Ok.ensures.items)
    (besides_more d c.args.held.now c.loop-rank.rank c.loop-rank.more.items c.hold_besides-hold.result c.loop-rank.invariant
    (c.hold_besides-hold.ensures ∙ ap₂ besides c.hold_at.ensures c.note_at.ensures))

pub returns : goal.returns
returns g c = besides-all c.args.dict.now c.requires.sound c.args.held.now c.loop-rank.more.items
    (λ k l. c.loop-rank.invariant.each k (Prim.omega (arith, l, c.loop-rank-test.false, c.name_count-rank-end.ensures)))
