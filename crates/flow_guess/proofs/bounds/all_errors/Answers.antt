use Rattle.std.proofs.Common.{rules, ◌∙◌, ap, sym, length, to_z, of_z}
use Rattle.std.specs.Int.{w128}
use mathlib.Core.Path.{ap₂}
use Rattle.std.specs.Prelude.{◌≡◌, ℕ, pos, ◌+ℤ◌, ◌==◌, if◌then◌else◌}
use Rattle.std.specs.List.{range_with_len}
use Rattle.fraction_theory.specs.Fraction.{Fraction, whole, ◌+ℚ◌}
use Rattle.fraction_theory.specs.Sums.{sum_by}
use Rattle.fraction_theory.proofs.FieldLaws.{whole-+ℚ}
use Rattle.flow_guess.specs.Links.{link_network}
use Rattle.flow_guess.specs.Guesses.{error_at}
use Rattle.flow_guess.proofs.NetSums.{sum_places_more, sum_others}
use Rattle.flow_guess.proofs.bounds.all_errors.Goals as goal

pub loop-bus-preserved : goal.loop-bus-preserved
loop-bus-preserved c =
    let g = c.args.guess.now in
    let t = c.args.transfer.now in
    let n = link_network (length g.angles.items) c.args.links.now in
    let f : ℕ → Fraction = λ bus. if bus == c.args.reference then whole (pos 0) else error_at n g t bus in
    let e : c.in_ok-sum.sum ≡ c.loop-bus.sum +ℤ c.in_ok-error.field-0 = search rules in
    let x : to_z w128 (of_z w128 c.in_ok-sum.sum) ≡ c.in_ok-sum.sum = search rules in
    ap whole (x ∙ e) ∙ whole-+ℚ c.loop-bus.sum c.in_ok-error.field-0 ∙ ap₂ ◌+ℚ◌ (ap whole (sym c.loop-bus.sum-is) ∙ c.loop-bus.invariant) c.in_ok-error.ensures ∙ sym (sum_places_more f c.loop-bus.bus)

pub returns : goal.returns
returns c =
    let g = c.args.guess.now in
    let t = c.args.transfer.now in
    let n = link_network (length g.angles.items) c.args.links.now in
    let f : ℕ → Fraction = λ bus. if bus == c.args.reference then whole (pos 0) else error_at n g t bus in
    let e : c.loop-bus.bus ≡ length g.angles.items = search rules in
    c.loop-bus.invariant ∙ ap (λ (k : ℕ). sum_by f (range_with_len 0 k)) e ∙ sum_others n (error_at n g t) c.args.reference
