use Rattle.std.proofs.Common.{◌∙◌, ℕ, arith, sym, subst, length}
use Rattle.net_paths.specs.Searching.{IsWayBack, visit_at}
use Rattle.net_paths.proofs.WayLemmas.{joined_visited, not_none, nowhere}
use Rattle.net_paths.proofs.loops_of_tree.way_through.Goals as goal

pub visit_of-requires : goal.visit_of-requires
visit_of-requires c =
    let whole = c.in_ok-search.ensures c.requires.tree.0 c.requires.tree.1 in
    omega (arith, whole.visits.room, c.requires.branch.to)

pub way_back-requires-clause-visits : goal.way_back-requires-clause-visits
way_back-requires-clause-visits c =
    (c.requires.tree.0, length c.args.tree.now.lists.items, c.args.branch.now.from, (c.in_ok-search.ensures c.requires.tree.0 c.requires.tree.1).visits)

pub way_back-requires-clause-visit : goal.way_back-requires-clause-visit
way_back-requires-clause-visit c =
    let whole = c.in_ok-search.ensures c.requires.tree.0 c.requires.tree.1 in
    (whole.visits.found c.args.branch.now.to c.in-Some.visit (sym c.visit_of.ensures ∙ c.in-Some.is)).0

pub returns-in-Some : goal.returns-in-Some
returns-in-Some c = λ branches inc.
    let branch = c.args.branch.now in
    let whole = c.in_ok-search.ensures branches inc in
    let at = whole.visits.found branch.to c.in-Some.visit (sym c.visit_of.ensures ∙ c.in-Some.is) in
    subst (λ (p : ℕ). IsWayBack branches p branch.from c.in_ok-steps-in-Some.steps) (at.1 nowhere)
    (c.in_ok-steps-in-Some.ensures branches (length c.args.tree.now.lists.items) branch.from whole.visits)

pub returns : goal.returns
returns c = λ branches inc joined.
    let branch = c.args.branch.now in
    let search = c.in_ok-search.search in
    let whole = c.in_ok-search.ensures branches inc in
    not_none (visit_at search.seen.items branch.to) (sym c.visit_of.ensures ∙ c.in-None.is)
    (joined_visited branches (length c.args.tree.now.lists.items) branch.from search.visits search.seen.items whole.visits whole.closed branch.to joined)
