use Rattle.std.proofs.Common.{◌∙◌}
use Rattle.market_model.proofs.RowMembers.{at_places}
use Rattle.limit_rows.proofs.WalkLemmas.{all_from_start, rows_few}
use Rattle.limit_rows.proofs.walk.rows.Goals as goal

pub returns-clause-rows : goal.returns-clause-rows
returns-clause-rows c = c.rows_behind.ensures.rows ∙ all_from_start c.args.market.now

pub returns-clause-stand : goal.returns-clause-stand
returns-clause-stand c = at_places c.args.market.now c.lines-lines.ensures.market

pub returns-clause-few : goal.returns-clause-few
returns-clause-few c = rows_few c.args.market.now c.lines-lines.ensures.market
