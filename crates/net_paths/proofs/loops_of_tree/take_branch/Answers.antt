use Rattle.std.proofs.Common.{◌≡◌, ◌∙◌, ◌++◌, ◌∷◌, [], List, Option, sym, ap, subst, length, true}
use Rattle.std.specs.Prelude.{MatchOption}
use Rattle.net_paths.specs.declared.steps.Step.{Step}
use Rattle.net_paths.specs.Chains.{AreJoined}
use Rattle.net_paths.specs.Searching.{IsWayBack}
use Rattle.net_paths.specs.Loops.{HoldsTree, members_of}
use Rattle.net_paths.proofs.IncidenceLemmas.{if_ok}
use Rattle.net_paths.proofs.LoopLemmas.{match_ok, rest-more, tree-more}
use Rattle.net_paths.proofs.loops_of_tree.take_branch.Goals as goal

pub returns-in_ok-made-in-Some : goal.returns-in_ok-made-in-Some
returns-in_ok-made-in-Some c = λ branches holds.
    let b = c.args.branch in
    let tree = holds.loops_are.tree in
    let lists = c.args.tree.now.lists.items in
    let way = c.in-Some.way in
    let back = subst (λ (o : Option (List Step)). MatchOption o (¬ AreJoined tree b.from b.to) (IsWayBack tree b.to b.from)) c.in-Some.is (c.in_ok-way.ensures tree holds.tree_is) in
    let made : c.in_ok-made-in-Some.made ≡ members_of (record { branch = b; forward = true } ∷ way) =
    c.in_ok-made-in-Some.ensures ∙ ap (λ (steps : List Step). members_of (record { branch = b; forward = true } ∷ steps)) c.slice.ensures in
    match_ok c.push.result _ _ _
    (λ is. subst (HoldsTree (branches ++ b ∷ []) (length lists) lists) (sym is) (rest-more branches (length lists) lists c.args.loops.now holds b way c.in_ok-made-in-Some.made back made))
    c.push.ensures

pub returns-in-None : goal.returns-in-None
returns-in-None c = λ branches holds.
    let b = c.args.branch in
    let tree = holds.loops_are.tree in
    let lists = c.args.tree.now.lists.items in
    let apart = subst (λ (o : Option (List Step)). MatchOption o (¬ AreJoined tree b.from b.to) (IsWayBack tree b.to b.from)) c.in-None.is (c.in_ok-way.ensures tree holds.tree_is) in
    if_ok c.add.result _ _
    (λ inc. tree-more branches (length lists) lists c.args.loops.now holds b c.add.new.self.lists.items apart inc)
    (c.add.ensures tree holds.tree_is)
