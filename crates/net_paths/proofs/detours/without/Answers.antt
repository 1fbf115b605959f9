use Rattle.std.proofs.Common.{◌∙◌, ◌==◌, ◌≢◌, ℕ, arith, sym, ap, subst, length, map}
use Rattle.std.specs.Prelude.{All, not}
use Rattle.std.proofs.lemmas.List.Elements.{All-filter, All-contains, All-map}
use Rattle.std.proofs.lemmas.List.Quantifiers.{all_pairs_push}
use Rattle.net_case.specs.declared.live_parts.NetBranch.{NetBranch}
use Rattle.net_case.specs.Networks.{IsNetBranch}
use Rattle.net_paths.specs.declared.steps.Step.{Step}
use Rattle.net_paths.specs.Chains.{Lead, AreJoined, start_of}
use Rattle.net_paths.specs.Detours.{others, IsOff, IsPath, IsSide}
use Rattle.net_paths.specs.Searching.{visit_at}
use Rattle.net_paths.proofs.ChainLemmas.{joined_sym}
use Rattle.net_paths.proofs.SideLemmas.{off_side, side_is}
use Rattle.net_paths.proofs.WayLemmas.{joined_visited, not_none, nowhere}
use Rattle.net_paths.proofs.detours.without.Goals as goal

pub search_without-requires : goal.search_without-requires
search_without-requires c = (All-contains (IsNetBranch (length c.args.network.now.buses)) c.args.network.now.branches c.branch_of-branch.result c.branch_of-branch.ensures.ends c.branch_of-branch.ensures.is.live).to

pub visit_of-requires : goal.visit_of-requires
visit_of-requires c =
    let ends = All-contains (IsNetBranch (length c.args.network.now.buses)) c.args.network.now.branches c.branch_of-branch.result c.branch_of-branch.ensures.ends c.branch_of-branch.ensures.is.live in
    omega (arith, ends.from, c.in_ok-search.ensures.visits.room)

pub way_back-requires-clause-visits : goal.way_back-requires-clause-visits
way_back-requires-clause-visits c =
    (others c.args.k c.args.network.now.branches, length c.args.network.now.buses, c.branch_of-branch.result.to, c.in_ok-search.ensures.visits)

pub way_back-requires-clause-visit : goal.way_back-requires-clause-visit
way_back-requires-clause-visit c = (c.in_ok-search.ensures.visits.found c.branch_of-branch.result.from c.in-Some.visit (sym c.visit_of.ensures ∙ c.in-Some.is)).0

pub returns-in-Some : goal.returns-in-Some
returns-in-Some c =
    let network = c.args.network.now in
    let branch = c.branch_of-branch.result in
    let bs = others c.args.k network.branches in
    let steps = c.in_ok-steps-in-Some.steps in
    let rows = c.in_ok-rows-in-Some.rows in
    let visits = c.in_ok-search.ensures.visits in
    let at = visits.found branch.from c.in-Some.visit (sym c.visit_of.ensures ∙ c.in-Some.is) in
    let way = c.in_ok-steps-in-Some.ensures bs (length network.buses) branch.to visits in
    let path : IsPath bs branch.from branch.to rows = record {
      steps = steps;
      pass = way.pass;
      lead = subst (λ (p : ℕ). Lead steps p branch.to) (at.1 nowhere) way.lead;
      apart = all_pairs_push (λ p q. p ≢ q) (map start_of steps) branch.to way.apart (All-map (λ (p : ℕ). p ≢ branch.to) start_of steps way.off_root);
      rows_are = c.in_ok-rows-in-Some.ensures ∙ ap (map (λ (s : Step). s.branch.row)) c.slice.ensures;
    } in
    (branch, c.branch_of-branch.ensures.is, subst (λ (k : ℕ). IsPath (others k network.branches) branch.from branch.to rows) (sym c.branch_of-branch.ensures.is.row_is) path)

pub visited_numbers-requires : goal.visited_numbers-requires
visited_numbers-requires c = c.in_ok-search.ensures.visits.room

pub returns : goal.returns
returns c =
    let network = c.args.network.now in
    let n = length network.buses in
    let search = c.in_ok-search.search in
    let branch = c.branch_of-branch.result in
    let bs = others c.args.k network.branches in
    let numbers = c.in_ok-numbers-in-None.numbers in
    let whole = c.in_ok-search.ensures in
    let apart : ¬ AreJoined bs branch.from branch.to = λ h. not_none (visit_at search.seen.items branch.from) (sym c.visit_of.ensures ∙ c.in-None.is)
    (joined_visited bs n branch.to search.visits search.seen.items whole.visits whole.closed branch.from (joined_sym bs branch.from branch.to h)) in
    let ends : All (IsNetBranch n) bs = All-filter (λ (b : NetBranch). not (b.row == c.args.k)) (IsNetBranch n) network.branches c.branch_of-branch.ensures.ends in
    let side : IsSide network bs branch.to numbers = side_is network bs branch.to search numbers whole ends c.in_ok-numbers-in-None.ensures in
    let from = (All-contains (IsNetBranch n) network.branches branch c.branch_of-branch.ensures.ends c.branch_of-branch.ensures.is.live).from in
    let off : IsOff network branch.from numbers = off_side network bs branch.from branch.to numbers c.branch_of-branch.ensures.network from apart side in (
      branch,
      c.branch_of-branch.ensures.is,
      subst (λ (k : ℕ). (¬ AreJoined (others k network.branches) branch.from branch.to) × IsSide network (others k network.branches) branch.to numbers × IsOff network branch.from numbers)
          (sym c.branch_of-branch.ensures.is.row_is) (apart, side, off),
    )
