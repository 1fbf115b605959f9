use Rattle.std.proofs.Common.{◌≡◌, ◌-◌, ◌∙◌, arith, pos, subst}
use Rattle.fraction_theory.proofs.FieldLaws.{over-one}
use Rattle.linear_dict.proofs.WideLemmas.{IsGrown, IsMoved, grown_more, grown_none, moved_all, moved_more, moved_none}
use Rattle.linear_dict.proofs.column.widen_table.Goals as goal

pub loop-init : goal.loop-init
loop-init g c = (grown_none g.N.Exact.value c.args.rows c.args.columns c.args.table.now.items c.requires.size, Prim.omega (arith, c.requires.room))

pub push_reserved-requires : goal.push_reserved-requires
push_reserved-requires g c = Prim.omega (arith, c.loop.invariant.1, c.loop-test.true)

pub loop-preserved : goal.loop-preserved
loop-preserved g c = (
  grown_more g.N.Exact.value c.args.rows c.args.columns c.args.table.now.items c.loop.counter c.loop.table.items c.push_reserved.new.self.items c.of_parts-zero.result c.push_reserved.ensures.items
      (c.of_parts-zero.ensures ∙ over-one (pos 0)) c.loop.invariant.0,
  Prim.omega (arith, c.loop.invariant.1, c.push_reserved.ensures.len, c.push_reserved.ensures.capacity),
)

pub loop-k-init : goal.loop-k-init
loop-k-init g c =
    let all : c.loop.counter ≡ c.args.rows = Prim.omega (arith, c.loop-test.false, c.loop.auto.counter-end) in
    moved_none g.N.Exact.value c.args.rows c.args.columns c.args.table.now.items c.loop.table.items
    (subst (λ k. IsGrown g.N.Exact.value c.args.rows c.args.columns c.args.table.now.items k c.loop.table.items) all c.loop.invariant.0)

pub loop-k-preserved : goal.loop-k-preserved
loop-k-preserved g c =
    let row = c.args.rows - 1 - c.loop-k.k in
    moved_more g.N.Exact.value c.args.rows c.args.columns c.args.table.now.items c.loop-k.k row c.loop-k.table.items c.move_row.new.table.items (Prim.omega (arith, c.loop-k-test.true)) c.move_row.ensures.count
    c.loop-k.invariant c.move_row.ensures.below c.move_row.ensures.here c.move_row.ensures.behind

pub returns : goal.returns
returns g c =
    let all : c.loop-k.k ≡ c.args.rows = Prim.omega (arith, c.loop-k-test.false, c.loop-k.auto.k-end) in
    moved_all g.N.Exact.value c.args.rows c.args.columns c.args.table.now.items c.loop-k.table.items
    (subst (λ k. IsMoved g.N.Exact.value c.args.rows c.args.columns c.args.table.now.items k c.loop-k.table.items) all c.loop-k.invariant)
