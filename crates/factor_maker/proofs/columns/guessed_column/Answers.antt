use Rattle.std.proofs.Common.{ℕ, subst}
use Rattle.market_data.specs.Scales.{place_count}
use Rattle.flow_guess.specs.Links.{grid_network}
use Rattle.flow_guess.specs.Told.{AreNearest}
use Rattle.factor_maker.proofs.Networks.{told_all}
use Rattle.factor_maker.proofs.columns.guessed_column.Goals as goal

pub returns : goal.returns
returns c =
    let grid = c.args.guesser.now in
    told_all grid c.args.source c.args.sink (place_count c.args.places) c.in_ok-guess.guess c.in_ok-guess.ensures.count
    (subst (λ (p : ℕ). AreNearest (grid_network grid) grid.reference c.args.source c.args.sink p grid.links c.in_ok-guess.guess) c.count.ensures c.in_ok-guess.ensures.nearest)
    c.slice.result.now c.all_told.result c.slice.ensures c.all_told.ensures
