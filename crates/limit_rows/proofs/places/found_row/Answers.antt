use Rattle.limit_rows.proofs.ApartLemmas.{same_row}
use Rattle.market_model.proofs.RowMembers.{at_places}
use Rattle.std.proofs.Common.{sym, ◌∙◌}
use Rattle.limit_rows.proofs.places.found_row.Goals as goal

pub returns : goal.returns
returns c =
    let m = c.args.market.now in
    let places = at_places m c.lines-lines.ensures.market c.in-Some.row c.in-Some.ensures.0 in
    record {
      line = places.0;
      lost = places.1;
      is = λ r listed named. same_row m c.lines-lines.ensures.market c.in-Some.row r c.in-Some.ensures.0 listed (c.in-Some.ensures.1 ∙ sym named);
    }

pub unreachable-requires : goal.unreachable-requires
unreachable-requires c = absurd (c.in-None.ensures c.requires.0 c.requires.1 c.requires.2)
