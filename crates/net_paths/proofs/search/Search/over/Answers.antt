use Rattle.std.proofs.Common.{ℕ, sym, subst}
use Rattle.std.specs.Prelude.{IfOk}
use Rattle.net_paths.specs.Searching.{IsIncidence, IsSearch}
use Rattle.net_paths.proofs.search.Search.over.Goals as goal

pub returns : goal.returns
returns c =
    let branches = c.args.branches.now in
    let inc = c.in_ok-incidence.ensures in
    subst (λ (n : ℕ). IfOk c.new.result (IsSearch branches n c.args.root)) inc.count
    (c.new.ensures branches (subst (λ (n : ℕ). IsIncidence branches n c.in_ok-incidence.incidence.lists.items) (sym inc.count) inc))
