use Rattle.std.proofs.Common.{rules, Err, ◌≡◌, ◌∙◌, List, ap, refl, sym, subst}
use Rattle.std.specs.Prelude.{not}
use Rattle.fraction_theory.specs.Fraction.{Fraction}
use Rattle.market_model.specs.Dispatch.{zero}
use Rattle.cert_sums.specs.declared.pricing.NamedRow.{NamedRow}
use Rattle.cert_sums.specs.declared.worths.NamedRoom.{NamedRoom}
use Rattle.cert_sums.specs.Named.{AreNamed, AreNamedRooms}
use Rattle.cert_verify.specs.Certified.{certified_duals}
use Rattle.cert_verify.specs.declared.verdicts.Reason.TheVariants as reason
use Rattle.cert_verify.specs.Reasons.{is_below, where_so}
use Rattle.cert_verify.proofs.against.wrong_bound.Goals as goal

pub farkas_bound-requires-clause-named : goal.farkas_bound-requires-clause-named
farkas_bound-requires-clause-named g c =
    let m = c.args.market.now in
    let value = g.N.Exact.value in
    let d = certified_duals value c.args.duals.now in
    let rows = subst (λ (xs : List (NamedRow g.row.N.Denot)). AreNamed value m d xs) (sym c.slice.ensures) (c.in_ok-rows.ensures.rows) in
    (d, rows)

pub farkas_bound-requires-clause-rooms : goal.farkas_bound-requires-clause-rooms
farkas_bound-requires-clause-rooms g c =
    let m = c.args.market.now in
    let value = g.N.Exact.value in
    let d = certified_duals value c.args.duals.now in
    let rooms = subst (λ (xs : List (NamedRoom g.row.N.Denot)). AreNamedRooms value m d xs) (sym c.slice-2.ensures) (c.in_ok-rows.ensures.rooms) in
    (d, rooms)

pub returns-in_err-bound-clause-stops : goal.returns-in_err-bound-clause-stops
returns-in_err-bound-clause-stops g c =
    let m = c.args.market.now in
    let value = g.N.Exact.value in
    let d = certified_duals value c.args.duals.now in
    let rows = subst (λ (xs : List (NamedRow g.row.N.Denot)). AreNamed value m d xs) (sym c.slice.ensures) (c.in_ok-rows.ensures.rows) in
    let rooms = subst (λ (xs : List (NamedRoom g.row.N.Denot)). AreNamedRooms value m d xs) (sym c.slice-2.ensures) (c.in_ok-rows.ensures.rooms) in
    let given : c.from_residual-in_err-bound.result ≡ Err c.in_err-bound.field-0.0 = search rules in
    rw given (c.in_err-bound.ensures.stops d refl rows refl rooms)

pub returns-clause-first : goal.returns-clause-first
returns-clause-first g c =
    let m = c.args.market.now in
    let value = g.N.Exact.value in
    let d = certified_duals value c.args.duals.now in
    let rows = subst (λ (xs : List (NamedRow g.row.N.Denot)). AreNamed value m d xs) (sym c.slice.ensures) (c.in_ok-rows.ensures.rows) in
    let rooms = subst (λ (xs : List (NamedRoom g.row.N.Denot)). AreNamedRooms value m d xs) (sym c.slice-2.ensures) (c.in_ok-rows.ensures.rooms) in
    c.bound_told.ensures ∙ ap (λ (b : Fraction). where_so (not (is_below b zero)) reason.Bound) (c.in_ok-bound.ensures.bound d refl rows refl rooms)
