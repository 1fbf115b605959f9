use Rattle.std.proofs.Common.{Some, sym}
use Rattle.std.proofs.lemmas.Iterator.Consumers.{YieldsList-from_first, nth_from_yields_List}
use Rattle.limit_rows.specs.Walk.{rows_from}
use Rattle.limit_rows.proofs.numbering.row_from.Goals as goal

pub returns : goal.returns
returns c = sym (nth_from_yields_List (Some c.in-Some.row) c.nth.new.self c.args.place c.in-Some.ensures.ran (YieldsList-from_first (λ row. row) (λ left. left) (rows_from c.args.market.now c.args.cause 0) c.rows_behind.ensures.rows))
