use Rattle.std.proofs.Common.{◌≡◌, ◌≢◌, ◌<◌, ℕ, length, sym, subst, ◌∙◌}
use Rattle.std.specs.Prelude.{All, AllPairs}
use Rattle.market_model.specs.LimitRows.{lost_lines}
use Rattle.market_model.proofs.LostLemmas.{lost_inside, lost_distinct}
use Rattle.market_model.proofs.assembled.assemble.Goals as goal

lost_is : (c : goal.After-slice-2) → c.slice-2.result.now ≡ lost_lines c.args.parts
lost_is c = c.slice-2.ensures ∙ c.in_ok-lost.ensures

pub outage_index-requires-clause-inside : goal.outage_index-requires-clause-inside
outage_index-requires-clause-inside c =
    subst (λ (n : ℕ). All (λ line. line < n) c.slice-2.result.now) (sym c.len-lines.ensures)
    (subst (All (λ line. line < length c.args.parts.lines)) (sym (lost_is c)) (lost_inside c.args.parts c.requires))

pub outage_index-requires-clause-distinct : goal.outage_index-requires-clause-distinct
outage_index-requires-clause-distinct c = subst (AllPairs (λ a b. a ≢ b)) (sym (lost_is c)) (lost_distinct c.args.parts c.requires)
