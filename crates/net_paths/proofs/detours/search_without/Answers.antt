use Rattle.std.proofs.Common.{◌≡◌, ◌∙◌, ◌==◌, ℕ, List, arith, sym, ap, subst}
use Rattle.std.specs.Prelude.{All, not, IfOk}
use Rattle.std.proofs.lemmas.List.Elements.{All-filter}
use Rattle.net_case.specs.declared.live_parts.NetBranch.{NetBranch}
use Rattle.net_case.specs.Networks.{IsNetBranch}
use Rattle.net_paths.specs.Detours.{others}
use Rattle.net_paths.specs.Searching.{IsSearch}
use Rattle.net_paths.proofs.detours.search_without.Goals as goal

pub over-requires : goal.over-requires
over-requires c =
    let branches = c.args.network.now.branches in
    let P = IsNetBranch c.bus_count.result in
    let kept : c.slice.result.now ≡ others c.args.row branches = c.slice.ensures ∙ c.in_ok-kept.ensures ∙ ap (others c.args.row) c.live_branches.ensures.list in
    record {
      branches = subst (All P) (sym kept)
          (All-filter (λ (b : NetBranch). not (b.row == c.args.row)) P branches (subst (λ (n : ℕ). All (IsNetBranch n) branches) (sym c.bus_count.ensures) c.live_branches.ensures.ends));
      root = omega (arith, c.requires, c.bus_count.ensures);
    }

pub returns : goal.returns
returns c =
    let branches = c.args.network.now.branches in
    let kept : c.slice.result.now ≡ others c.args.row branches = c.slice.ensures ∙ c.in_ok-kept.ensures ∙ ap (others c.args.row) c.live_branches.ensures.list in
    subst (λ (n : ℕ). IfOk c.over.result (IsSearch (others c.args.row branches) n c.args.root)) c.bus_count.ensures
    (subst (λ (bs : List NetBranch). IfOk c.over.result (IsSearch bs c.bus_count.result c.args.root)) kept c.over.ensures)
