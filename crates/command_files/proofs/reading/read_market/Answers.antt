use Rattle.command_files.proofs.ReadingLemmas.{reads-same, same_then, table-same}
use Rattle.command_files.proofs.reading.read_market.Goals as goal

pub returns-clause-bytes : goal.returns-clause-bytes
returns-clause-bytes g c =
    let listed = same_then _ _ _ c.read_grid.ensures.reads.same c.read_table.ensures.reads.same in
    let offered = same_then _ _ _ listed c.read_file.ensures.reads.same in
    let reserved = same_then _ _ _ offered c.read_table-2.ensures.reads.same in
    let shifted = same_then _ _ _ reserved c.read_table-3.ensures.reads.same in
    record {
      grid = c.in_ok-grid.ensures.bytes;
      unit_outages = table-same _ _ _ _ c.read_grid.ensures.reads.same c.in_ok-unit_outages.ensures.bytes;
      offers = reads-same _ _ _ _ listed c.in_ok-offers.ensures.bytes;
      reserves = table-same _ _ _ _ offered c.in_ok-reserves.ensures.bytes;
      offsets = table-same _ _ _ _ reserved c.in_ok-offsets.ensures.bytes;
      penalties = table-same _ _ _ _ shifted c.in_ok-penalties.ensures.bytes;
    }
