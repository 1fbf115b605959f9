use Rattle.std.proofs.Common.{◌≡◌, rules, replicate, None}
use Rattle.net_paths.proofs.VisitLemmas.{visits-begin}
use Rattle.net_paths.proofs.search.Search.begin.Goals as goal

pub returns : goal.returns
returns c = λ branches.
    let none : c.in-Ok.seen.items ≡ replicate c.args.places None = c.in-Ok.ensures.items_if_clones_equal (λ y is. search rules) in
    rw (c.in_ok-push.ensures, c.new-visits.ensures, none) (visits-begin branches c.args.places c.args.root c.requires)
