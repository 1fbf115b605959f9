use Rattle.std.proofs.Common.{◌∙◌, ap, None, [], ◌∷◌, ◌++◌}
use Rattle.std.proofs.lemmas.List.{replicate_more}
use Rattle.limit_screen.proofs.uses.none_used.Goals as goal

pub loop-preserved : goal.loop-preserved
loop-preserved g c = c.in-Ok.ensures.items ∙ ap (λ xs. xs ++ None ∷ []) c.loop.invariant ∙ replicate_more c.loop.counter None
