-- The worked texts.
use Rattle.std.proofs.Common.{refl, arith}
use Rattle.csv.specs.Machine.{next_record}
use Rattle.csv.specs.Reading.{records_from, strip_bom}
use Rattle.csv_table.specs.Table.{table_of}
use Rattle.table_grammar.specs.Worked.{WorkedTexts}
use Rattle.table_grammar.proofs.TextsDerived.{read-derived}

pub worked : WorkedTexts
unfolding table_of strip_bom records_from next_record
worked = record {
  line_ends = read-derived _ _ refl;
  empty_lines = read-derived _ _ refl;
  no_text = read-derived _ _ refl;
  blanks = read-derived _ _ refl;
  commas = read-derived _ _ refl;
  no_bytes = read-derived _ _ refl;
  in_quotes = read-derived _ _ refl;
  behind_quotes = read-derived _ _ refl;
  never_closed = read-derived _ _ refl;
  mark = read-derived _ _ refl;
  mark_behind = read-derived _ _ refl;
  table = record { text = read-derived _ _ refl; wide = (refl, (refl, tt)); few = omega arith };
}
