use Rattle.std.proofs.Common.{◌≡◌, ◌∙◌, ◌∷◌, [], sym, ap, Some, None, Ok, get_or, map}
use Rattle.std.specs.Prelude.{option_map}
use Rattle.std.proofs.lemmas.List.{map-append}
use Rattle.serde_json.specs.View.{view}
use Rattle.market_model.specs.Valued.{room_dual_at}
use Rattle.cert_format.specs.declared.certificate.Key.TheVariants as key
use Rattle.cert_format.specs.Grammar.{room_dual_in, need}
use Rattle.cert_format.proofs.EachLemmas.{rest-end, rest-none, rest-start, rest-step}
use Rattle.cert_format.proofs.reading_reserve.rooms_of.Goals as goal

pub loop-value-init : goal.loop-value-init
loop-value-init g c = rw c.new-rooms.ensures (rest-start (room_dual_in g.N.Exact.bound) c.args.values.now)

pub returns-in_default : goal.returns-in_default
returns-in_default g c =
    let here : room_dual_in g.N.Exact.bound (view (get_or c.args.values.now c.loop-value.value-index c.value-item.result)) ≡ None =
    ap (λ v. room_dual_in g.N.Exact.bound (view v)) (sym c.value-item.is) ∙ sym c.room_dual_in.ensures ∙ ap (option_map (room_dual_at g.N.Exact.value)) c.in_default.is in
    let none = c.loop-value.invariant ∙ rest-none (room_dual_in g.N.Exact.bound) (map (room_dual_at g.N.Exact.value) c.loop-value.rooms) c.args.values.now c.loop-value.value-index c.value-item.result c.loop-value-test.true here in
    ap (λ o. need key.Reserve o (λ xs. Ok xs)) none

pub loop-value-preserved : goal.loop-value-preserved
loop-value-preserved g c =
    let here : room_dual_in g.N.Exact.bound (view (get_or c.args.values.now c.loop-value.value-index c.value-item.result)) ≡ Some (room_dual_at g.N.Exact.value c.in-Some.room) =
    ap (λ v. room_dual_in g.N.Exact.bound (view v)) (sym c.value-item.is) ∙ sym c.room_dual_in.ensures ∙ ap (option_map (room_dual_at g.N.Exact.value)) c.in-Some.is in
    let seen = ap (map (room_dual_at g.N.Exact.value)) c.in_ok-push.ensures ∙ map-append (room_dual_at g.N.Exact.value) c.loop-value.rooms (c.in-Some.room ∷ []) in
    rw seen (c.loop-value.invariant
    ∙ rest-step (room_dual_in g.N.Exact.bound) (map (room_dual_at g.N.Exact.value) c.loop-value.rooms) c.args.values.now c.loop-value.value-index c.value-item.result (room_dual_at g.N.Exact.value c.in-Some.room) c.loop-value-test.true here)

pub returns : goal.returns
returns g c =
    let all = c.loop-value.invariant ∙ rest-end (room_dual_in g.N.Exact.bound) (map (room_dual_at g.N.Exact.value) c.loop-value.rooms) c.args.values.now c.loop-value.value-index c.loop-value-test.false in
    ap (λ o. need key.Reserve o (λ xs. Ok xs)) all
