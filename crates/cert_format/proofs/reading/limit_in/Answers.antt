use Rattle.std.proofs.Common.{◌∙◌, sym, ap, refl}
use Rattle.std.specs.Prelude.{option_map}
use Rattle.serde_json.specs.View.{view}
use Rattle.cert_format.specs.Grammar.{has_size, limit_in}
use Rattle.cert_format.proofs.reading.limit_in.Goals as goal

pub returns-in_err-branch : goal.returns-in_err-branch
unfolding limit_in
returns-in_err-branch g c =
    let branch = sym c.row_at.ensures ∙ c.in_err-branch.was in
    rw (c.from_residual.ensures, branch) refl

pub returns-in_err-outage : goal.returns-in_err-outage
unfolding limit_in
returns-in_err-outage g c =
    let branch = sym c.row_at.ensures ∙ c.in_ok-branch.was in
    let outage = sym c.row_at-2.ensures ∙ c.in_err-outage.was in
    rw (c.from_residual-in_err-outage.ensures, branch, outage) refl

pub returns-in_err-unit : goal.returns-in_err-unit
unfolding limit_in
returns-in_err-unit g c =
    let branch = sym c.row_at.ensures ∙ c.in_ok-branch.was in
    let outage = sym c.row_at-2.ensures ∙ c.in_ok-outage.was in
    let unit = sym c.unit_in.ensures ∙ c.in_err-unit.was in
    rw (c.from_residual-in_err-unit.ensures, branch, outage, unit) refl

pub returns-in_err-up : goal.returns-in_err-up
unfolding limit_in
returns-in_err-up g c =
    let branch = sym c.row_at.ensures ∙ c.in_ok-branch.was in
    let outage = sym c.row_at-2.ensures ∙ c.in_ok-outage.was in
    let unit = sym c.unit_in.ensures ∙ c.in_ok-unit.was in
    let up = sym c.fraction_at.ensures ∙ ap (option_map g.N.Exact.value) c.in_err-up.was in
    rw (c.from_residual-in_err-up.ensures, branch, outage, unit, up) refl

pub returns-in_err-down : goal.returns-in_err-down
unfolding limit_in
returns-in_err-down g c =
    let branch = sym c.row_at.ensures ∙ c.in_ok-branch.was in
    let outage = sym c.row_at-2.ensures ∙ c.in_ok-outage.was in
    let unit = sym c.unit_in.ensures ∙ c.in_ok-unit.was in
    let up = sym c.fraction_at.ensures ∙ ap (option_map g.N.Exact.value) c.in_ok-up.was in
    let down = sym c.fraction_at-2.ensures ∙ ap (option_map g.N.Exact.value) c.in_err-down.was in
    rw (c.from_residual-in_err-down.ensures, branch, outage, unit, up, down) refl

pub returns-then-not-has_size : goal.returns-then-not-has_size
unfolding limit_in
returns-then-not-has_size g c =
    let branch = sym c.row_at.ensures ∙ c.in_ok-branch.was in
    let outage = sym c.row_at-2.ensures ∙ c.in_ok-outage.was in
    let unit = sym c.unit_in.ensures ∙ c.in_ok-unit.was in
    let up = sym c.fraction_at.ensures ∙ ap (option_map g.N.Exact.value) c.in_ok-up.was in
    let down = sym c.fraction_at-2.ensures ∙ ap (option_map g.N.Exact.value) c.in_ok-down.was in
    let size = ap (λ n. has_size n (view c.args.value.now)) (sym c.members_with.ensures) ∙ sym c.has_size.ensures ∙ c.if-not-has_size.true in
    rw (branch, outage, unit, up, down, size) refl

pub returns : goal.returns
unfolding limit_in
returns g c =
    let branch = sym c.row_at.ensures ∙ c.in_ok-branch.was in
    let outage = sym c.row_at-2.ensures ∙ c.in_ok-outage.was in
    let unit = sym c.unit_in.ensures ∙ c.in_ok-unit.was in
    let up = sym c.fraction_at.ensures ∙ ap (option_map g.N.Exact.value) c.in_ok-up.was in
    let down = sym c.fraction_at-2.ensures ∙ ap (option_map g.N.Exact.value) c.in_ok-down.was in
    let size = ap (λ n. has_size n (view c.args.value.now)) (sym c.members_with.ensures) ∙ sym c.has_size.ensures ∙ c.if-not-has_size.false in
    rw (branch, outage, unit, up, down, size) refl
