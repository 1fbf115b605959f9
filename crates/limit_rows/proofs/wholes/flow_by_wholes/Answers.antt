use Rattle.std.proofs.Common.{◌≡◌, ◌∙◌, ◌≤◌, ◌+◌, ◌*◌, ℕ, ℤ, sym, arith, ap, ap₂, subst, refl, map, length, w64}
use Rattle.std.specs.Prelude.{◌+ℤ◌, ◌*ℤ◌, unsigned_abs, IfSome}
use Rattle.std.specs.Int.{w128}
use Rattle.std.proofs.lemmas.Int.{to_z-of_z}
use mir.Val.{to_z, of_z}
use Rattle.fraction_theory.specs.Fraction.{Fraction, over, ◌+ℚ◌, ◌*ℚ◌}
use Rattle.fraction_theory.specs.Sums.{total}
use Rattle.fraction_theory.proofs.FieldLaws.{+ℚ_nil}
use Rattle.market_data.specs.Scales.{factor_one, most_buses}
use Rattle.market_model.specs.LimitRows.{line_flow as flow_of_line}
use Rattle.market_model.specs.PutIn.{put_in}
use Rattle.market_model.proofs.PlaceLists.{put_read}
use Rattle.limit_rows.proofs.FlowSteps.{line_step, line_to}
use Rattle.limit_rows.proofs.WholeLemmas.{flow_more, most_product, no_more, of_ok, parts_more, size_kept, sum_fits, sum_is, sum_size}
use Rattle.limit_rows.proofs.wholes.flow_by_wholes.Goals.{in-Some, in-None+in_ok-flow-in-None}
use Rattle.limit_rows.proofs.wholes.flow_by_wholes.Goals as goal

pub loop-bus-init : goal.loop-bus-init
loop-bus-init g c = record { size = omega arith; flow = sym (no_more (g.N.Exact.value c.offset_of-flow.result)) ∙ c.offset_of-flow.ensures ∙ sym (+ℚ_nil _) }

pub overflow_add-parts : goal.overflow_add-parts
overflow_add-parts g c =
    let few : c.loop-bus.bus ≤ most_buses = omega (arith, c.loop-bus-test.true, c.requires.injections, c.buses-buses.ensures.market.bus_count) in
    let is = c.requires.wholes c.loop-bus.bus c.in-Some.whole c.in-Some.is in
    sum_fits c.shift_of-share.result c.in-Some.whole c.from.result c.from-in-Some.result c.shift_of-share.ensures.size is.small c.from.ensures c.from-in-Some.ensures (to_z w128 c.loop-bus.parts-bits) c.loop-bus.bus
    few c.loop-bus.invariant.size

pub loop-bus-preserved : goal.loop-bus-preserved
loop-bus-preserved g c =
    let value = g.N.Exact.value in
    let m = c.args.market.now in
    let p : ℕ → Fraction = put_in (map value c.args.injections.now) in
    let l = c.args.line in
    let k = c.loop-bus.bus in
    let s = c.shift_of-share.result in
    let t : ℤ = to_z w128 c.loop-bus.parts-bits in
    let u : ℤ = to_z w128 c.match-wholes-bus.parts-bits in
    let few : k ≤ most_buses = omega (arith, c.loop-bus-test.true, c.requires.injections, c.buses-buses.ensures.market.bus_count) in
    elim c.match-wholes-bus.branch [
      | in-Some w ↦
          let n = w.in-Some.whole in
          let is = c.requires.wholes k n w.in-Some.is in
          let sum : u ≡ t +ℤ s *ℤ n =
          w.parts-is ∙ sum_is s n w.from.result w.from-in-Some.result c.shift_of-share.ensures.size is.small w.from.ensures w.from-in-Some.ensures t k few c.loop-bus.invariant.size in
          let more = parts_more (value c.loop-bus.flow) (p k) t s n u is.is sum in
          record {
            size = subst (λ (z : ℤ). unsigned_abs z ≤ (k + 1) * most_product) (sym sum)
                (sum_size s n w.from.result w.from-in-Some.result c.shift_of-share.ensures.size is.small w.from.ensures w.from-in-Some.ensures t k few c.loop-bus.invariant.size);
            flow = line_step m p l k (over s factor_one) (p k) (value c.loop-bus.flow +ℚ over t factor_one) (value c.match-wholes-bus.flow +ℚ over u factor_one)
                (ap (λ (z : ℤ). over z factor_one) c.shift_of-share.ensures.is) refl c.loop-bus.invariant.flow (ap (λ f. value f +ℚ over u factor_one) w.flow-is ∙ more);
          }
      | in-None+in_ok-flow-in-None w ↦
          let x = value c.index-injections-bus.result in
          let known : to_z w64 (of_z w64 s) ≡ s = to_z-of_z w64 s (record { sfits = c.shift_of-share.type_inv }) in
          let h : Fraction = over (to_z w64 (of_z w64 s)) factor_one in
          let made = of_ok (λ f. value f ≡ value c.loop-bus.flow +ℚ h *ℚ x) w.with_share.result w.in_ok-flow-in-None.flow w.with_share.ensures.sum w.in_ok-flow-in-None.ensures.value in
          record {
            size = subst (λ (z : ℤ). unsigned_abs z ≤ (k + 1) * most_product) (sym w.parts-is) (size_kept (unsigned_abs t) k c.loop-bus.invariant.size);
            flow = line_step m p l k h x (value c.loop-bus.flow +ℚ over t factor_one) (value c.match-wholes-bus.flow +ℚ over u factor_one)
                (ap (λ (z : ℤ). over z factor_one) (known ∙ c.shift_of-share.ensures.is)) (put_read value c.args.injections.now k c.index-injections-bus.result c.loop-bus-test.true c.index-injections-bus.is)
                c.loop-bus.invariant.flow
                (ap₂ (λ f (z : ℤ). value f +ℚ over z factor_one) w.flow-is w.parts-is ∙ flow_more (value c.loop-bus.flow) (over t factor_one) h x (value w.in_ok-flow-in-None.flow) made);
          }
    ]

pub returns : goal.returns
unfolding flow_of_line
returns g c =
    let value = g.N.Exact.value in
    let m = c.args.market.now in
    let p : ℕ → Fraction = put_in (map value c.args.injections.now) in
    let all : c.loop-bus.bus ≡ length m.buses = omega (arith, c.requires.injections, c.loop-bus-test.false, c.loop-bus.auto.bus-end) in
    let told : value c.loop-bus.flow +ℚ over (to_z w128 c.loop-bus.parts-bits) factor_one ≡ flow_of_line m p c.args.line = c.loop-bus.invariant.flow ∙ ap (λ (n : ℕ). total (line_to m p c.args.line n)) all in
    subst (λ (x : Fraction). IfSome c.with_parts.result (λ mw. value mw ≡ x)) told c.with_parts.ensures
