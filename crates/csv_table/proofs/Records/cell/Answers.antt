use Rattle.std.proofs.Common.{◌≤◌, ◌∙◌, sym, [], length, get_or, arith}
use Rattle.std.proofs.lemmas.List.{get_or_past}
use Rattle.csv_table.specs.Records.{records_in}
use Rattle.csv_table.proofs.CutLemmas.{records-cell, records-wide}
use Rattle.csv_table.proofs.Records.cell.Goals as goal

pub returns-then-col-self : goal.returns-then-col-self
returns-then-col-self c = c.field.ensures ∙ records-cell c.args.self.now c.args.place c.args.col c.requires.flat c.requires.place c.if-col-self.true

pub returns-else-col-self : goal.returns-else-col-self
returns-else-col-self c =
    let wide = records-wide c.args.self.now c.args.place c.requires.flat c.requires.place in
    let past : length (get_or (records_in c.args.self.now) c.args.place []) ≤ c.args.col = omega arith in
    sym (get_or_past (get_or (records_in c.args.self.now) c.args.place []) c.args.col [] past)
