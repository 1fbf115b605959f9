use Rattle.std.proofs.Common.{sym, subst}
use Rattle.fraction_theory.proofs.OrderLaws.{<ℚ-≤ℚ}
use Rattle.limit_rows.proofs.FlowSizes.{not_past}
use Rattle.limit_screen.proofs.ReachLemmas.{not_less}
use Rattle.price_search.specs.Energy.{IsNearest, IsNoFurther}
use Rattle.price_search.proofs.EnergyLemmas.{replaces, stays}
use Rattle.price_search.proofs.energy.nearer.Goals as goal

pub returns-in-Less : goal.returns-in-Less
returns-in-Less g c = λ m x d found holds is.
    let value = g.N.Exact.value in
    let before = subst (IsNearest value c.args.hold m x d c.args.place) c.in-Some.is found in
    replaces value c.args.hold m x d c.args.place c.args.margin holds is c.in-Some.found before
    (subst (λ h. IsNoFurther h (value c.args.margin) (value c.in-Some.found)) (sym c.in-Up.is) (<ℚ-≤ℚ (value c.args.margin) (value c.in-Some.found) c.in-Less.ensures))

pub returns-in-Equal : goal.returns-in-Equal
returns-in-Equal g c = λ m x d found holds is.
    let value = g.N.Exact.value in
    let before = subst (IsNearest value c.args.hold m x d c.args.place) c.in-Some.is found in
    stays value c.args.hold m x d c.args.place c.args.margin holds is c.in-Some.found before
    (subst (λ h. IsNoFurther h (value c.in-Some.found) (value c.args.margin)) (sym c.in-Up.is)
    (not_less c.order.result (value c.args.margin) (value c.in-Some.found) c.order.ensures c.in-Equal.is))

pub returns-in-Greater : goal.returns-in-Greater
returns-in-Greater g c = λ m x d found holds is.
    let value = g.N.Exact.value in
    let before = subst (IsNearest value c.args.hold m x d c.args.place) c.in-Some.is found in
    replaces value c.args.hold m x d c.args.place c.args.margin holds is c.in-Some.found before
    (subst (λ h. IsNoFurther h (value c.args.margin) (value c.in-Some.found)) (sym c.in-Down.is) (<ℚ-≤ℚ (value c.in-Some.found) (value c.args.margin) c.in-Greater.ensures))

pub returns-in-Less-order : goal.returns-in-Less-order
returns-in-Less-order g c = λ m x d found holds is.
    let value = g.N.Exact.value in
    let before = subst (IsNearest value c.args.hold m x d c.args.place) c.in-Some.is found in
    stays value c.args.hold m x d c.args.place c.args.margin holds is c.in-Some.found before
    (subst (λ h. IsNoFurther h (value c.in-Some.found) (value c.args.margin)) (sym c.in-Down.is)
    (not_past c.order-in-Down.result (value c.args.margin) (value c.in-Some.found) c.order-in-Down.ensures c.in-Less-order.is))
