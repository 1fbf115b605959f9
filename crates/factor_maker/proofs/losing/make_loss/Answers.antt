use Rattle.std.proofs.Common.{arith, subst, sym}
use Rattle.factor_tables.specs.Made.{AreApart, AreInBounds}
use Rattle.factor_maker.specs.Columns.{AreLossRecords}
use Rattle.factor_maker.proofs.ListedOutages.{few_outages}
use Rattle.factor_maker.proofs.Records.{loss_records_apart, loss_records_small, loss_table}
use Rattle.factor_maker.proofs.losing.make_loss.Goals as goal

pub check_count-requires-clause-columns : goal.check_count-requires-clause-columns
check_count-requires-clause-columns c =
    let few = few_outages c.args.network.now c.args.outages.now c.branches.ensures.network c.requires.outages in
    omega (arith, few, c.len-2.ensures)

pub of-requires-clause-once : goal.of-requires-clause-once
of-requires-clause-once c =
    subst AreApart (sym c.slice.ensures)
    (loss_records_apart c.args.network.now c.args.reactances.now c.args.places c.branches.ensures.network c.requires.reactances c.in_ok-check_positive.ensures.positive c.requires.joined c.args.outages.now
    c.requires.outages c.in_ok-records.records c.in_ok-records.ensures.records)

pub of-requires-clause-sizes : goal.of-requires-clause-sizes
of-requires-clause-sizes c =
    subst (AreInBounds c.args.places) (sym c.slice.ensures)
    (loss_records_small c.args.network.now c.args.reactances.now c.args.places c.branches.ensures.network c.requires.reactances c.in_ok-check_positive.ensures.positive c.requires.joined c.args.outages.now
    c.requires.outages c.in_ok-records.records c.in_ok-records.ensures.records)

pub returns-clause-made : goal.returns-clause-made
returns-clause-made c =
    loss_table c.args.network.now c.args.reactances.now c.args.places c.branches.ensures.network c.requires.reactances c.in_ok-check_positive.ensures.positive c.requires.joined c.args.outages.now
    c.requires.outages c.slice.result.now (subst (AreLossRecords c.args.network.now c.args.reactances.now c.args.places c.args.outages.now) (sym c.slice.ensures) c.in_ok-records.ensures.records)
    c.in_ok-of.field-0 c.in_ok-of.ensures
