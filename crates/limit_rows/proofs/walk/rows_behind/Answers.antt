use Rattle.limit_rows.proofs.WalkLemmas.{behind_few}
use Rattle.limit_rows.proofs.walk.rows_behind.Goals as goal

pub returns-clause-few : goal.returns-clause-few
returns-clause-few c = behind_few c.args.market.now c.lines-lines.ensures.market c.args.cause
