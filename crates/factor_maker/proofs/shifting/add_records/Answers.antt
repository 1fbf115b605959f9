use Rattle.std.proofs.Common.{rules, ◌≡◌, ◌<◌, ◌∙◌, ℤ, None, ap, arith, false, length, pos, w64}
use Rattle.std.specs.Prelude.{slice_index_or}
use Rattle.net_case.specs.declared.live_parts.NetBranch.{NetBranch}
use Rattle.factor_maker.specs.Columns.{shift_made}
use Rattle.factor_maker.proofs.ColumnSteps.{shift_made_is}
use Rattle.factor_maker.proofs.ListSteps.{one_more}
use Rattle.factor_maker.proofs.shifting.add_records.Goals as goal
use mir.Val.{of_z, to_z}

abbrev none : NetBranch
none = record { row = 0; from = 0; to = 0; base = None; post = None; shifted = false }

pub loop-bus-preserved : goal.loop-bus-preserved
loop-bus-preserved c =
    let network = c.args.network.now in
    let columns = c.args.columns.now in
    let bus = c.loop-bus.bus in
    let place = c.args.place in
    let there : bus < length columns = omega (arith, c.loop-bus-test.true, c.loop-bus.auto.bus-end, c.len-bus-end.ensures, ap length c.buses.ensures.list, c.requires.count) in
    let units = slice_index_or c.slice-in-loop-bus.result.now place (pos 0) in
    let known : to_z w64 (of_z w64 units) ≡ units = search rules in
    one_more (shift_made network columns place) bus c.args.records.now c.loop-bus.records c.push.new.self _ c.loop-bus.invariant c.in_ok-push.ensures
    (ap (λ (u : ℤ). record { branch = (slice_index_or c.slice.result.now place none).row; of = c.bus_number.result; units = u }) known
    ∙ shift_made_is network columns place bus c.bus_number.result none c.slice.result.now c.index-columns-bus.result c.slice-in-loop-bus.result.now (c.slice.ensures ∙ c.branches.ensures.list)
    c.requires.place there c.index-columns-bus.is c.slice-in-loop-bus.ensures c.bus_number.ensures)
