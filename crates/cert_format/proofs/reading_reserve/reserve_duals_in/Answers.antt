use Rattle.std.proofs.Common.{rules, ◌≡◌, ◌∙◌, sym, ap, refl, Some, None, Err, map}
use Rattle.std.specs.Prelude.{option_map, if◌then◌else◌}
use Rattle.serde_json.specs.View.{view}
use Rattle.market_model.specs.Valued.{room_dual_at}
use Rattle.cert_format.specs.declared.certificate.Key.TheVariants as key
use Rattle.cert_format.specs.Certificates.{reserve_duals_at}
use Rattle.cert_format.specs.Grammar.{has_size, reserve_duals_in, rooms_at}
use Rattle.cert_format.proofs.GivesLemmas.{fails-within, need-some}
use Rattle.cert_format.proofs.reading_reserve.reserve_duals_in.Goals as goal

pub returns-in_default : goal.returns-in_default
unfolding reserve_duals_in
returns-in_default g c =
    let price = sym c.fraction_at.ensures ∙ ap (option_map g.N.Exact.value) c.in_default.is in
    rw price refl

pub returns-in_err-rooms : goal.returns-in_err-rooms
unfolding reserve_duals_in
returns-in_err-rooms g c =
    let d = view c.args.value.now in
    let price = sym c.fraction_at.ensures ∙ ap (option_map g.N.Exact.value) c.in-Some.is in
    let given : c.from_residual.result ≡ Err c.in_err-rooms.field-0.0 = search rules in
    rw (given, price) (fails-within key.Reserve (rooms_at g.N.Exact.bound d) (λ rooms. if has_size c.args.size d then Some (record { price = g.N.Exact.value c.in-Some.price; rooms = rooms }) else None)
    (map (room_dual_at g.N.Exact.value)) (reserve_duals_at g.N.Exact.value) c.in_err-rooms.field-0.0 c.in_err-rooms.ensures)

pub returns-then-not-has_size : goal.returns-then-not-has_size
unfolding reserve_duals_in
returns-then-not-has_size g c =
    let price = sym c.fraction_at.ensures ∙ ap (option_map g.N.Exact.value) c.in-Some.is in
    let rooms = need-some key.Reserve (rooms_at g.N.Exact.bound (view c.args.value.now)) (map (room_dual_at g.N.Exact.value) c.in_ok-rooms.rooms) c.in_ok-rooms.ensures in
    let size = sym c.has_size.ensures ∙ c.if-not-has_size.true in
    rw (price, rooms, size) refl

pub returns : goal.returns
unfolding reserve_duals_in
returns g c =
    let price = sym c.fraction_at.ensures ∙ ap (option_map g.N.Exact.value) c.in-Some.is in
    let rooms = need-some key.Reserve (rooms_at g.N.Exact.bound (view c.args.value.now)) (map (room_dual_at g.N.Exact.value) c.in_ok-rooms.rooms) c.in_ok-rooms.ensures in
    let size = sym c.has_size.ensures ∙ c.if-not-has_size.false in
    rw (price, rooms, size) refl
