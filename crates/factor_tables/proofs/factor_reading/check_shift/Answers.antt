use Rattle.std.proofs.Common.{◌≡◌, ◌∙◌, sym, w64}
use mir.Val.{to_z, of_z}
use Rattle.std.proofs.lemmas.Int.{to_z-of_z}
use Rattle.market_data.proofs.Data.{datum_fits}
use Rattle.factor_tables.proofs.NameLemmas.{bus-range}
use Rattle.factor_tables.proofs.factor_reading.check_shift.Goals as goal

pub returns-clause-pair : goal.returns-clause-pair
returns-clause-pair c =
    let branch : to_z w64 (of_z w64 c.args.numbers.branch) ≡ c.args.numbers.branch = to_z-of_z w64 _ (datum_fits _ c.requires.branch) in
    let of : to_z w64 (of_z w64 c.args.numbers.of) ≡ c.args.numbers.of = to_z-of_z w64 _ (datum_fits _ c.requires.of) in
    let row = rw branch at (c.is_row.ensures.range c.if-not-is_row.false) in
    let bus = rw of at (sym c.has_bus.ensures ∙ c.if-not-has_bus.false) in
    record {
      least = row.0;
      most = row.1;
      of = bus-range c.args.network.now c.args.numbers.of c.is_row.ensures.network bus;
      few = c.is_row.ensures.network.branch_row_count;
    }
