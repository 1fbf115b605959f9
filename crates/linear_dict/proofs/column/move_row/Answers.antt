use Rattle.std.proofs.Common.{◌∙◌, arith, pos}
use Rattle.fraction_theory.proofs.FieldLaws.{over-one}
use Rattle.linear_dict.proofs.WideLemmas.{moved_behind, moved_below, moved_here}
use Rattle.linear_dict.proofs.column.move_row.Goals as goal

pub returns-clause-below : goal.returns-clause-below
returns-clause-below g c =
    moved_below g.N.Exact.value c.of_parts.result (c.of_parts.ensures ∙ over-one (pos 0)) c.args.table.now.items c.copy_within.new.self.items c.args.columns c.args.row
    (Prim.omega (arith, c.requires, c.copy_within.ensures.len, c.args.table.now.ok.0, c.copy_within.new.self.ok.0)) c.copy_within.ensures.by_index.0 c.copy_within.ensures.by_index.1 c.copy_within.ensures.by_index.2

pub returns-clause-here : goal.returns-clause-here
returns-clause-here g c =
    moved_here g.N.Exact.value c.of_parts.result (c.of_parts.ensures ∙ over-one (pos 0)) c.args.table.now.items c.copy_within.new.self.items c.args.columns c.args.row
    (Prim.omega (arith, c.requires, c.copy_within.ensures.len, c.args.table.now.ok.0, c.copy_within.new.self.ok.0)) c.copy_within.ensures.by_index.0 c.copy_within.ensures.by_index.1 c.copy_within.ensures.by_index.2

pub returns-clause-behind : goal.returns-clause-behind
returns-clause-behind g c =
    moved_behind g.N.Exact.value c.of_parts.result (c.of_parts.ensures ∙ over-one (pos 0)) c.args.table.now.items c.copy_within.new.self.items c.args.columns c.args.row
    (Prim.omega (arith, c.requires, c.copy_within.ensures.len, c.args.table.now.ok.0, c.copy_within.new.self.ok.0)) c.copy_within.ensures.by_index.0 c.copy_within.ensures.by_index.1 c.copy_within.ensures.by_index.2
