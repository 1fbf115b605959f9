use Rattle.std.proofs.Common.{◌∙◌, sym, ap, refl}
use Rattle.std.specs.Prelude.{option_map}
use Rattle.cert_format.specs.Grammar.{room_dual_in}
use Rattle.cert_format.proofs.reading_reserve.room_dual_in.Goals as goal

pub returns-in_err-price : goal.returns-in_err-price
unfolding room_dual_in
returns-in_err-price g c =
    let price = sym c.fraction_at.ensures ∙ ap (option_map g.N.Exact.value) c.in_err-price.was in
    rw (c.from_residual.ensures, price) refl

pub returns-in_err-unit : goal.returns-in_err-unit
unfolding room_dual_in
returns-in_err-unit g c =
    let price = sym c.fraction_at.ensures ∙ ap (option_map g.N.Exact.value) c.in_ok-price.was in
    let unit = sym c.row_at.ensures ∙ c.in_err-unit.was in
    rw (c.from_residual-in_err-unit.ensures, price, unit) refl

pub returns-then-not-has_size : goal.returns-then-not-has_size
unfolding room_dual_in
returns-then-not-has_size g c =
    let price = sym c.fraction_at.ensures ∙ ap (option_map g.N.Exact.value) c.in_ok-price.was in
    let unit = sym c.row_at.ensures ∙ c.in_ok-unit.was in
    let size = sym c.has_size.ensures ∙ c.if-not-has_size.true in
    rw (price, unit, size) refl

pub returns : goal.returns
unfolding room_dual_in
returns g c =
    let price = sym c.fraction_at.ensures ∙ ap (option_map g.N.Exact.value) c.in_ok-price.was in
    let unit = sym c.row_at.ensures ∙ c.in_ok-unit.was in
    let size = sym c.has_size.ensures ∙ c.if-not-has_size.false in
    rw (price, unit, size) refl
