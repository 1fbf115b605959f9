use Rattle.factor_maker.proofs.ColumnSteps.{told_outage}
use Rattle.factor_maker.proofs.losing.column_of.Goals as goal

pub returns-in-Some-clause-column : goal.returns-in-Some-clause-column
returns-in-Some-clause-column c =
    told_outage c.args.network.now c.args.reactances.now c.args.lost.now c.requires.sound c.requires.lost c.in_ok-guesser.guesser c.args.places c.in-Some.column c.in_ok-column.field-0
    c.in_ok-guesser.ensures c.in-Some.is c.in_ok-column.ensures
