use Rattle.std.proofs.Common.{◌≡◌, w64}
use mir.Val.{to_z, of_z}
use Rattle.std.proofs.lemmas.Int.{to_z-of_z}
use Rattle.market_data.proofs.Data.{datum_fits}
use Rattle.factor_tables.proofs.offset_reading.check_offset.Goals as goal

pub returns-clause-row : goal.returns-clause-row
returns-clause-row c =
    let branch : to_z w64 (of_z w64 c.args.numbers.branch) ≡ c.args.numbers.branch = to_z-of_z w64 _ (datum_fits _ c.requires.branch) in
    let row = rw branch at (c.is_row.ensures.range c.if-not-is_row.false) in
    record { least = row.0; most = row.1; few = c.is_row.ensures.network.branch_row_count }
