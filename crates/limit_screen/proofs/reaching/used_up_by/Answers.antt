use Rattle.std.proofs.Common.{Global, Vec, ◌≡◌, ◌∙◌, ◌&&◌, ℕ, arith, ap, sym, length}
use Rattle.std.specs.List.{filter}
use Rattle.market_model.specs.Dispatch.{places}
use Rattle.market_model.specs.Reserves.{offers_reserve, room_used}
use Rattle.limit_screen.specs.Reaching.{uses_up}
use Rattle.limit_screen.proofs.ReachLemmas.{filter_both, place_past, place_with}
use Rattle.limit_screen.proofs.UseLemmas.{sum_read}
use Rattle.limit_screen.proofs.reaching.used_up_by.Goals as goal
use Rattle.limit_screen.proofs.reaching.used_up_by.Goals.{then-is_used_up+in-Ok, else-is_used_up}

pub loop-unit-preserved : goal.loop-unit-preserved
loop-unit-preserved g c = λ x are.
    let m = c.args.market.now in
    let k = c.loop-unit.unit in
    let p = λ (u : ℕ). offers_reserve m u && uses_up m x u in
    let told = c.is_used_up.ensures x
    (sum_read g.N.Exact.value (offers_reserve m) (room_used m x) (length m.units) k c.args.used.now c.index-used-unit.result are c.loop-unit-test.true c.index-used-unit.is) in
    elim c.if-is_used_up.branch [
      | then-is_used_up+in-Ok w ↦ ap (λ (v : Vec ℕ Global). v.items) w.units-is ∙ w.in-Ok.ensures.items ∙ place_with p k c.loop-unit.units.items (c.loop-unit.invariant x are) (sym w.if-is_used_up.true ∙ told)
      | else-is_used_up w ↦ ap (λ (v : Vec ℕ Global). v.items) w.units-is ∙ place_past p k c.loop-unit.units.items (c.loop-unit.invariant x are) (sym w.if-is_used_up.false ∙ told)
    ]

pub returns : goal.returns
returns g c = λ x are.
    let m = c.args.market.now in
    let all : c.loop-unit.unit ≡ length m.units = omega (arith, c.loop-unit-test.false, c.loop-unit.auto.unit-end, c.requires) in
    c.loop-unit.invariant x are ∙ ap (λ (n : ℕ). filter (λ u. offers_reserve m u && uses_up m x u) (places n)) all ∙ filter_both (offers_reserve m) (uses_up m x) (places (length m.units))
