use Rattle.std.proofs.Common.{rules, arith, ◌≡◌, ◌∙◌, ◌<◌, ◌≤◌, ◌+◌, ◌++◌, ◌∷◌, [], ℕ, List, sym, ap, subst, map, take, length, get_or, true, false, None}
use Rattle.std.proofs.lemmas.List.{get_or-map, length-map, take_all, take_more}
use Rattle.net_case.specs.declared.live_parts.NetBranch.{NetBranch}
use Rattle.outage_list.specs.Listing.{IsOutage}
use Rattle.outage_choice.specs.Choices.{IsRadial}
use Rattle.outage_choice.proofs.ChoiceLemmas.{AreParted, choice-parted, first-below, outage-more, radial-more}
use Rattle.outage_choice.proofs.choose_outages.Goals as goal
use Rattle.outage_choice.proofs.choose_outages.Goals.{then-branch+in_ok-push, else-branch+in_ok-push-2}

pub loop-branch-preserved : goal.loop-branch-preserved
loop-branch-preserved c =
    let network = c.args.network.now in
    let rows = map (λ (b : NetBranch). b.row) network.branches in
    let i = c.loop-branch.branch-index in
    let items : c.slice-branch-items.result.now ≡ network.branches = c.slice-branch-items.ensures ∙ c.branches.ensures.list in
    let lt : i < length network.branches = rw items at c.loop-branch-test.true in
    let wide : i < length rows = rw length-map lt in
    let row = get_or rows i 0 in
    let more : take (i + 1) rows ≡ take i rows ++ row ∷ [] = take_more rows i 0 wide in
    let below = first-below rows i 0 c.branches.ensures.network.rows_of_branches.rise wide in
    let d : NetBranch = record { row = 0; from = 0; to = 0; base = None; post = None; shifted = false } in
    let here : get_or rows i 0 ≡ (get_or c.slice-branch-items.result.now i d).row = get_or-map (λ (b : NetBranch). b.row) network.branches i d 0 lt ∙ ap (λ (bs : List NetBranch). (get_or bs i d).row) (sym items) in
    elim c.if-branch.branch [
      | then-branch+in_ok-push w ↦
          let added : c.if-branch.listed ≡ c.loop-branch.listed ++ (get_or c.slice-branch-items.result.now i d).row ∷ [] = search rules in
          let other : c.if-branch.radial ≡ c.loop-branch.radial = search rules in
          let out : IsOutage network row = rw here (c.in_ok-has_way_round.ensures.yes w.if-branch.true) in
          rw (more, other, added, ← here) (outage-more network (take i rows) c.loop-branch.listed c.loop-branch.radial row c.loop-branch.invariant below out)
      | else-branch+in_ok-push-2 w ↦
          let added : c.if-branch.radial ≡ c.loop-branch.radial ++ (get_or c.slice-branch-items.result.now i d).row ∷ [] = search rules in
          let other : c.if-branch.listed ≡ c.loop-branch.listed = search rules in
          let out : IsRadial network row = rw here (c.in_ok-has_way_round.ensures.no w.if-branch.false) in
          rw (more, other, added, ← here) (radial-more network (take i rows) c.loop-branch.listed c.loop-branch.radial row c.loop-branch.invariant below out)
    ]

pub returns : goal.returns
returns c =
    let network = c.args.network.now in
    let rows = map (λ (b : NetBranch). b.row) network.branches in
    let items : c.slice-branch-items.result.now ≡ network.branches = c.slice-branch-items.ensures ∙ c.branches.ensures.list in
    let past : length rows ≤ c.loop-branch.branch-index = rw (length-map, ← items) (omega (arith, c.loop-branch-test.false)) in
    let all : take c.loop-branch.branch-index rows ≡ rows = take_all c.loop-branch.branch-index rows past in
    choice-parted network c.loop-branch.listed c.loop-branch.radial c.branches.ensures.network (subst (λ (t : List ℕ). AreParted network t c.loop-branch.listed c.loop-branch.radial) all c.loop-branch.invariant)
