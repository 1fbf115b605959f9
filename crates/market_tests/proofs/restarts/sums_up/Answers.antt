use Rattle.std.proofs.Common.{◌≡◌, [], ◌∷◌, true, length, rules, sym, subst}
use Rattle.std.specs.Prelude.{Option, IfSome, is_some}
use Rattle.linear_dict.specs.Dictionaries.{Dictionary}
use Rattle.simplex_core.specs.Outcomes.{Keeps}
use Rattle.market_tests.proofs.RestartLemmas.{stays}
use Rattle.market_tests.proofs.restarts.sums_up.Goals as goal

pub returns-in-Solved : goal.returns-in-Solved
returns-in-Solved g c =
    let some : is_some c.replace-start.result ≡ true = search rules in
    rw c.keep.ensures
    (stays g.N.Exact.value c.deref.result.now c.deref-2.result.now c.replace-start.result c.in-Ok.posed c.into_dict.result some
    (subst (λ (o : Option Dictionary). IfSome o (λ d. (d.columns ≡ 1 ∷ 2 ∷ []) × (length d.rows ≡ 1))) (sym c.replace-start.ensures.value) c.requires)
    c.in-Ok.ensures.posed (subst (λ (e : Dictionary). Keeps c.in-Ok.posed e) (sym c.into_dict.ensures) c.in-Solved.ensures.outcome.0))

pub returns-in-Empty : goal.returns-in-Empty
returns-in-Empty g c =
    let some : is_some c.replace-start.result ≡ true = search rules in
    rw c.keep-in-Empty.ensures
    (stays g.N.Exact.value c.deref.result.now c.deref-2.result.now c.replace-start.result c.in-Ok.posed c.in-Empty.dict some
    (subst (λ (o : Option Dictionary). IfSome o (λ d. (d.columns ≡ 1 ∷ 2 ∷ []) × (length d.rows ≡ 1))) (sym c.replace-start.ensures.value) c.requires)
    c.in-Ok.ensures.posed c.in-Empty.ensures.outcome.0)
