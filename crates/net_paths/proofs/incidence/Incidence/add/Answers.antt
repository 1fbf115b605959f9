use Rattle.std.proofs.Common.{◌∙◌, ◌++◌, ◌∷◌, [], length, sym, ap, subst, false}
use Rattle.net_paths.specs.Searching.{IsIncidence, with_step}
use Rattle.net_paths.proofs.IncidenceLemmas.{IsIncidence-add, if_ok}
use Rattle.net_paths.proofs.incidence.Incidence.add.Goals as goal

pub returns : goal.returns
returns c = λ before good.
    let branch = c.args.branch in
    let n = length c.args.self.now.lists.items in
    if_ok c.add_step-2.result _ _
    (λ is. subst (IsIncidence (before ++ branch ∷ []) n) (sym (is ∙ ap (λ m. with_step m (record { branch = branch; forward = false })) c.in_ok-add_step.ensures))
    (IsIncidence-add before branch n c.args.self.now.lists.items good c.requires))
    c.add_step-2.ensures
