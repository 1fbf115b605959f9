use Rattle.std.proofs.Common.{◌∙◌, ap, length, map}
use Rattle.factor_maker.specs.Columns.{link_of}
use Rattle.factor_maker.proofs.Networks.{given_links}
use Rattle.factor_maker.proofs.lines.guesser_of.Goals as goal

pub new-requires : goal.new-requires
new-requires c =
    let network = c.args.network.now in
    let xs = c.args.reactances.now in
    given_links network xs c.args.lost c.requires.sound c.len.result c.slice-2.result.now (c.len.ensures ∙ ap length c.buses.ensures.list)
    (c.slice-2.ensures ∙ c.in_ok-links.ensures ∙ ap (map (link_of network xs)) (c.slice.ensures ∙ c.in_ok-branches.ensures))
