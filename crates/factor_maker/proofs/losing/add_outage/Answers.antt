use Rattle.factor_maker.proofs.ColumnSteps.{added_outage, column_count}
use Rattle.factor_maker.proofs.losing.add_outage.Goals as goal

pub add_records-requires : goal.add_records-requires
add_records-requires c = record {
  count = column_count c.args.network.now c.args.reactances.now c.branch_of-lost.result c.args.places c.in_ok-units.units c.slice-2.result.now c.in_ok-branches.branches c.slice.result.now
      c.in_ok-units.ensures.column c.slice-2.ensures c.slice.ensures c.in_ok-branches.ensures;
}

pub returns-clause-added : goal.returns-clause-added
returns-clause-added c =
    added_outage c.args.network.now c.args.reactances.now c.args.places c.args.outage c.branch_of-lost.result c.args.records.now c.add_records.new.records c.in_ok-units.units c.slice-2.result.now
    c.in_ok-branches.branches c.slice.result.now c.branch_of-lost.ensures.is c.in_ok-units.ensures.column c.slice-2.ensures c.slice.ensures c.in_ok-branches.ensures c.in_ok-add_records.ensures
