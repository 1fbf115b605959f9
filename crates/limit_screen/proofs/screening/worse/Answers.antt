use Rattle.std.proofs.Common.{length, sym, subst, subst₂}
use Rattle.fraction_theory.specs.Fraction.{whole}
use Rattle.fraction_theory.specs.Order.{◌<ℚ◌, ◌≤ℚ◌}
use Rattle.market_model.specs.Overrun.{IsBeyond, overrun}
use Rattle.market_model.specs.declared.limits.Row.{Row}
use Rattle.limit_rows.proofs.FlowSizes.{not_past}
use Rattle.limit_screen.specs.Screening.{IsWorstOf}
use Rattle.limit_screen.proofs.ScreenLemmas.{new_worst, old_worst, worse_than_old, worse_than_kept}
use Rattle.limit_screen.proofs.Casts.{narrow_is}
use Rattle.limit_screen.proofs.screening.worse.Goals as goal

pub returns-in-Greater : goal.returns-in-Greater
returns-in-Greater g c = λ m taken f rs before beyond is.
    let r = c.args.row in
    let old = c.in-Some.broken.row in
    let counts = λ (s : Row). IsBeyond m taken s (f s) in
    let e = λ (s : Row). overrun m s (f s) in
    let h = subst (IsWorstOf g.N.Exact.value m taken f rs) c.in-Some.is before in
    let more : e old <ℚ e r = subst₂ (λ x y. x <ℚ y) h.1 is c.in-Greater.ensures in
    ((length rs, new_worst counts e rs r (worse_than_old counts e rs r h.0.0 old h.0.1 more) beyond), is, subst (λ n. whole n ≤ℚ g.N.Exact.value c.args.overrun) (sym (narrow_is c.least_of.result (record { sfits = c.least_of.type_inv }))) c.least_of.ensures)

pub returns-in-Less : goal.returns-in-Less
returns-in-Less g c = λ m taken f rs before beyond is.
    let r = c.args.row in
    let old = c.in-Some.broken.row in
    let counts = λ (s : Row). IsBeyond m taken s (f s) in
    let e = λ (s : Row). overrun m s (f s) in
    let h = subst (IsWorstOf g.N.Exact.value m taken f rs) c.in-Some.is before in
    let less : e r ≤ℚ e old = subst₂ (λ x y. x ≤ℚ y) is h.1 (not_past c.order.result (g.N.Exact.value c.args.overrun) (g.N.Exact.value c.in-Some.broken.overrun) c.order.ensures c.in-Less.is) in
    ((h.0.0, old_worst counts e rs r h.0.0 old h.0.1 (λ _. less)), h.1, h.2)

pub returns-in-None : goal.returns-in-None
returns-in-None g c = λ m taken f rs before beyond is.
    let r = c.args.row in
    let counts = λ (s : Row). IsBeyond m taken s (f s) in
    let e = λ (s : Row). overrun m s (f s) in
    let h = subst (IsWorstOf g.N.Exact.value m taken f rs) c.in-None.is before in
    ((length rs, new_worst counts e rs r (worse_than_kept g.N.Exact.value m taken f rs r h) beyond), is, subst (λ n. whole n ≤ℚ g.N.Exact.value c.args.overrun) (sym (narrow_is c.least_of.result (record { sfits = c.least_of.type_inv }))) c.least_of.ensures)
