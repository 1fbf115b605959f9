use Rattle.std.proofs.Common.{rules, ◌≡◌, ◌∙◌, Err, ap, length}
use Rattle.factor_maker.proofs.OutageColumns.{few_flows, flow_stopped, sides, sides_column, sides_refused, sides_small}
use Rattle.factor_maker.proofs.losing.exact_column.Goals as goal

pub returns-in-Err-clause-stop : goal.returns-in-Err-clause-stop
returns-in-Err-clause-stop c =
    flow_stopped _ 170141183460469231731687303715884105727 c.args.network.now c.args.reactances.now c.args.lost.now c.in-Err.stop c.flow_stop.result c.flow_stop.ensures c.in-Err.ensures.stop

pub flows_from-requires-clause-few : goal.flows_from-requires-clause-few
flows_from-requires-clause-few c =
    few_flows c.args.network.now c.args.reactances.now c.args.lost.now c.requires.sound c.args.others c.len-buses.result c.requires.others (c.len-buses.ensures ∙ ap length c.buses.ensures.list)

pub flows_from-requires-2-clause-few : goal.flows_from-requires-2-clause-few
flows_from-requires-2-clause-few c =
    few_flows c.args.network.now c.args.reactances.now c.args.lost.now c.requires.sound c.args.others c.len-buses.result c.requires.others (c.len-buses.ensures ∙ ap length c.buses.ensures.list)

pub returns-in_err-factors-clause-stop : goal.returns-in_err-factors-clause-stop
returns-in_err-factors-clause-stop c =
    let given : c.from_residual-in_err-factors.result ≡ Err c.in_err-factors.field-0.0 = search rules in
    sides_refused _ c.args.network.now c.args.reactances.now c.args.lost.now c.requires.sound c.requires.lost c.slice-3.result.now c.slice-4.result.now
    (sides _ c.args.network.now c.args.reactances.now c.args.lost.now c.requires.sound c.requires.lost c.args.others c.len-buses.result c.in-Ok.flows c.slice.result.now c.slice-2.result.now
    c.slice-3.result.now c.slice-4.result.now c.in_ok-from_source.from_source c.in_ok-from_sink.from_sink c.requires.others (c.len-buses.ensures ∙ ap length c.buses.ensures.list) c.in-Ok.ensures.flows
    c.slice.ensures c.slice-2.ensures c.in_ok-from_source.ensures c.in_ok-from_sink.ensures c.slice-3.ensures c.slice-4.ensures)
    170141183460469231731687303715884105727 c.from_residual-in_err-factors.result c.in_err-factors.field-0.0 given c.in_err-factors.ensures.stop

pub rounded-requires : goal.rounded-requires
rounded-requires c = record {
  sizes = sides_small _ c.args.network.now c.args.reactances.now c.args.lost.now c.requires.sound c.requires.lost c.slice-3.result.now c.slice-4.result.now
      (sides _ c.args.network.now c.args.reactances.now c.args.lost.now c.requires.sound c.requires.lost c.args.others c.len-buses.result c.in-Ok.flows c.slice.result.now c.slice-2.result.now
      c.slice-3.result.now c.slice-4.result.now c.in_ok-from_source.from_source c.in_ok-from_sink.from_sink c.requires.others (c.len-buses.ensures ∙ ap length c.buses.ensures.list) c.in-Ok.ensures.flows
      c.slice.ensures c.slice-2.ensures c.in_ok-from_source.ensures c.in_ok-from_sink.ensures c.slice-3.ensures c.slice-4.ensures)
      c.in_ok-factors.factors c.slice-5.result.now c.slice-5.ensures c.in_ok-factors.ensures.are;
}

pub returns-clause-column : goal.returns-clause-column
returns-clause-column c =
    sides_column _ c.args.network.now c.args.reactances.now c.args.lost.now c.requires.sound c.requires.lost c.slice-3.result.now c.slice-4.result.now
    (sides _ c.args.network.now c.args.reactances.now c.args.lost.now c.requires.sound c.requires.lost c.args.others c.len-buses.result c.in-Ok.flows c.slice.result.now c.slice-2.result.now
    c.slice-3.result.now c.slice-4.result.now c.in_ok-from_source.from_source c.in_ok-from_sink.from_sink c.requires.others (c.len-buses.ensures ∙ ap length c.buses.ensures.list) c.in-Ok.ensures.flows
    c.slice.ensures c.slice-2.ensures c.in_ok-from_source.ensures c.in_ok-from_sink.ensures c.slice-3.ensures c.slice-4.ensures)
    c.in_ok-factors.factors c.slice-5.result.now c.slice-5.ensures c.in_ok-factors.ensures.are c.args.places c.in_ok-rounded.field-0 c.in_ok-rounded.ensures
