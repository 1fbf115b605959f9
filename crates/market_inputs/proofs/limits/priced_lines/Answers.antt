use Rattle.std.proofs.Common.{◌≡◌, ◌∙◌, List, All, ap, map, subst, sym}
use Rattle.market_model.specs.declared.participants.Line.{Line}
use Rattle.net_case.specs.declared.live_parts.NetBranch.{NetBranch}
use Rattle.market_inputs.specs.Clearing.{AreLinesOf, IsTabled, line_of}
use Rattle.market_inputs.proofs.MarketLemmas.{lines-of}
use Rattle.market_inputs.proofs.limits.priced_lines.Goals as goal

pub returns-clause-kept : goal.returns-clause-kept
returns-clause-kept c =
    let network = c.args.network.now in
    let offsets = c.args.offsets.now in
    let penalties = c.in_ok-penalties.penalties in
    let lines : List Line = c.in_ok-lines_of.field-0 in
    let is : lines ≡ map (line_of offsets penalties) network.branches =
    c.in_ok-lines_of.ensures.are ∙ ap (λ (branches : List NetBranch). map (line_of offsets penalties) branches) (c.slice.ensures ∙ c.branches.ensures.list) in
    subst (AreLinesOf network) (sym is) (lines-of network offsets penalties c.branches.ensures.network (subst (λ (ls : List Line). All IsTabled ls) is c.in_ok-lines_of.ensures.tabled))
