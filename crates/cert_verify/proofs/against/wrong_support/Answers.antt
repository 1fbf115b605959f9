use Rattle.std.proofs.Common.{inr, ◌∙◌, [], ◌∷◌, List, ap, map, length, refl, sym, subst}
use Rattle.std.specs.Option.{option_or}
use Rattle.std.proofs.lemmas.Result.{err_from_is_err_and}
use Rattle.market_model.specs.Optimality.{energy_worth}
use Rattle.cert_sums.specs.declared.pricing.NamedRow.{NamedRow}
use Rattle.cert_sums.specs.declared.worths.NamedRoom.{NamedRoom}
use Rattle.cert_sums.specs.Named.{AreNamed, AreNamedRooms}
use Rattle.cert_verify.specs.Certified.{certified_dispatch, certified_duals}
use Rattle.cert_verify.specs.Reasons.{first_of, reserve_support_reason}
use Rattle.cert_verify.proofs.NamingLemmas.{counted}
use Rattle.cert_verify.proofs.TestLemmas.{or_none}
use Rattle.cert_verify.proofs.against.wrong_support.Goals as goal

pub energy_worths-requires : goal.energy_worths-requires
energy_worths-requires g c =
    let m = c.args.market.now in
    let value = g.N.Exact.value in
    let d = certified_duals value c.args.duals.now in
    let rows = subst (λ (xs : List (NamedRow g.row.N.Denot)). AreNamed value m d xs) (sym c.slice.ensures) (c.in_ok-rows.ensures.rows) in
    (d, rows)

pub returns-in_err-worths-clause-stops : goal.returns-in_err-worths-clause-stops
returns-in_err-worths-clause-stops g c =
    let m = c.args.market.now in
    let value = g.N.Exact.value in
    let d = certified_duals value c.args.duals.now in
    let rows = subst (λ (xs : List (NamedRow g.row.N.Denot)). AreNamed value m d xs) (sym c.slice.ensures) (c.in_ok-rows.ensures.rows) in
    let rooms = subst (λ (xs : List (NamedRoom g.row.N.Denot)). AreNamedRooms value m d xs) (sym c.slice-2.ensures) (c.in_ok-rows.ensures.rooms) in
    let p = err_from_is_err_and c.from_residual-in_err-worths.result c.from_residual-in_err-worths.ensures.1 in
    rw (p.1, p.2) (c.in_err-worths.ensures.stops d refl rows rooms)

pub unsupported_block-requires-clause-worths : goal.unsupported_block-requires-clause-worths
unsupported_block-requires-clause-worths g c =
    let m = c.args.market.now in
    let value = g.N.Exact.value in
    let d = certified_duals value c.args.duals.now in
    let rows = subst (λ (xs : List (NamedRow g.row.N.Denot)). AreNamed value m d xs) (sym c.slice.ensures) (c.in_ok-rows.ensures.rows) in
    let rooms = subst (λ (xs : List (NamedRoom g.row.N.Denot)). AreNamedRooms value m d xs) (sym c.slice-2.ensures) (c.in_ok-rows.ensures.rooms) in
    ap length c.slice-3.ensures ∙ counted value (energy_worth m d) c.in_ok-worths.worths (length m.units) (c.in_ok-worths.ensures.worths d refl rows rooms)

pub returns-in-Some-clause-first : goal.returns-in-Some-clause-first
returns-in-Some-clause-first g c =
    let m = c.args.market.now in
    let value = g.N.Exact.value in
    let d = certified_duals value c.args.duals.now in
    let rows = subst (λ (xs : List (NamedRow g.row.N.Denot)). AreNamed value m d xs) (sym c.slice.ensures) (c.in_ok-rows.ensures.rows) in
    let rooms = subst (λ (xs : List (NamedRoom g.row.N.Denot)). AreNamedRooms value m d xs) (sym c.slice-2.ensures) (c.in_ok-rows.ensures.rooms) in
    let worths = ap (map value) c.slice-3.ensures ∙ c.in_ok-worths.ensures.worths d refl rows rooms in
    let x = certified_dispatch value c.args.dispatch.now in
    sym (ap (λ o. option_or o (first_of (reserve_support_reason m x d ∷ []))) (sym (c.unsupported_block.ensures d x.reserve worths) ∙ c.in-Some.is))

pub returns-in_err-unsupported_offer-clause-stops : goal.returns-in_err-unsupported_offer-clause-stops
returns-in_err-unsupported_offer-clause-stops g c =
    let m = c.args.market.now in
    let value = g.N.Exact.value in
    let d = certified_duals value c.args.duals.now in
    let named = subst (λ (xs : List (NamedRoom g.row.N.Denot)). AreNamedRooms value m d xs) (sym c.slice-4.ensures) (c.in_ok-rows.ensures.rooms) in
    let p = err_from_is_err_and c.from_residual-in_err-unsupported_offer.result c.from_residual-in_err-unsupported_offer.ensures.1 in
    rw (p.1, p.2) (inr (c.in_err-unsupported_offer.ensures.stops d refl named))

pub returns-clause-first : goal.returns-clause-first
returns-clause-first g c =
    let m = c.args.market.now in
    let value = g.N.Exact.value in
    let d = certified_duals value c.args.duals.now in
    let rows = subst (λ (xs : List (NamedRow g.row.N.Denot)). AreNamed value m d xs) (sym c.slice.ensures) (c.in_ok-rows.ensures.rows) in
    let rooms = subst (λ (xs : List (NamedRoom g.row.N.Denot)). AreNamedRooms value m d xs) (sym c.slice-2.ensures) (c.in_ok-rows.ensures.rooms) in
    let named = subst (λ (xs : List (NamedRoom g.row.N.Denot)). AreNamedRooms value m d xs) (sym c.slice-4.ensures) (c.in_ok-rows.ensures.rooms) in
    let worths = ap (map value) c.slice-3.ensures ∙ c.in_ok-worths.ensures.worths d refl rows rooms in
    let x = certified_dispatch value c.args.dispatch.now in
    sym (ap (λ o. option_or o (first_of (reserve_support_reason m x d ∷ []))) (sym (c.unsupported_block.ensures d x.reserve worths) ∙ c.in_default.is)
    ∙ or_none (reserve_support_reason m x d) ∙ sym (c.in_ok-unsupported_offer.ensures.first d x.blocks refl named))
