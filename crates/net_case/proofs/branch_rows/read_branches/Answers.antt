use Rattle.case_text.specs.declared.Field.TheVariants as field
use Rattle.market_data.specs.Scales.{most_lines}
use Rattle.net_case.proofs.RowLemmas.{few_rows-count}
use Rattle.net_case.proofs.branch_rows.read_branches.Goals as goal

pub live_branches-requires-clause-all : goal.live_branches-requires-clause-all
live_branches-requires-clause-all c = few_rows-count most_lines field.Branch c.args.case.now.branch c.args.count (rw c.in-Read.is at c.requires.count)
