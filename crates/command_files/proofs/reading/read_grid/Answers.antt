use Rattle.command_files.proofs.ReadingLemmas.{reads-same, same_then, table-same}
use Rattle.command_files.proofs.reading.read_grid.Goals as goal

pub returns-clause-bytes : goal.returns-clause-bytes
returns-clause-bytes g c =
    let case = c.read_file.ensures.reads.same in
    let ptdf = same_then _ _ _ case c.read_file-2.ensures.reads.same in
    let lodf = same_then _ _ _ ptdf c.read_table.ensures.reads.same in
    record {
      case = c.in_ok-case.ensures.bytes;
      ptdf = reads-same _ _ _ _ case c.in_ok-ptdf.ensures.bytes;
      lodf = table-same _ _ _ _ ptdf c.in_ok-lodf.ensures.bytes;
      contingencies = table-same _ _ _ _ lodf c.in_ok-contingencies.ensures.bytes;
    }
