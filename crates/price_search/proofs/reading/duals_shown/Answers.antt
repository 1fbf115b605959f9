use Rattle.price_search.proofs.ReadingLemmas.{duals_are}
use Rattle.price_search.proofs.reading.duals_shown.Goals as goal

pub returns : goal.returns
returns g c = λ x are holds.
    duals_are c.args.market.now x c.args.reached c.args.dict.now c.lines-lines.ensures.market are holds _ _ _ _ c.price_shown.ensures (c.in_ok-limits.ensures x are holds) c.price_shown-2.ensures
    (c.in_ok-rooms.ensures x are holds)
