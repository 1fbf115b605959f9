use Rattle.std.proofs.Common.{◌≡◌, ℕ, ℤ, ap, ◌∙◌, rules}
use Rattle.std.specs.Prelude.{unsigned_abs}
use Rattle.std.specs.Int.{w128}
use Rattle.std.proofs.lemmas.Int.{to_z-of_z}
use mir.Val.{SFits, to_z, of_z}
use Rattle.cost_steps.proofs.Rounding.{rounded_above, rounded_below, beyond}
use Rattle.cost_steps.proofs.price.nearest.Goals as goal

size_is : (n : ℤ) (size : ℕ) → SFits w128 n → size ≡ unsigned_abs (to_z w128 (of_z w128 n)) → size ≡ unsigned_abs n
size_is n _ fits is = is ∙ ap unsigned_abs (to_z-of_z w128 n fits)

pub returns-then-rounded : goal.returns-then-rounded
returns-then-rounded c = beyond c.args.rise c.args.run c.from-divisor.result c.unsigned_abs-size.result c.nearest_size-rounded.result (size_is c.args.rise c.unsigned_abs-size.result c.ranges.rise c.unsigned_abs-size.ensures.value) c.from-divisor.ensures c.requires.run c.nearest_size-rounded.ensures.not_above c.nearest_size-rounded.ensures.below_next (search rules)

pub returns-then-rise-lt0 : goal.returns-then-rise-lt0
returns-then-rise-lt0 c = rounded_below c.args.rise c.args.run c.from-divisor.result c.unsigned_abs-size.result c.nearest_size-rounded.result (size_is c.args.rise c.unsigned_abs-size.result c.ranges.rise c.unsigned_abs-size.ensures.value) c.from-divisor.ensures c.requires.run c.nearest_size-rounded.ensures.not_above c.nearest_size-rounded.ensures.below_next (search rules) (search rules)

pub returns-else-rise-lt0 : goal.returns-else-rise-lt0
returns-else-rise-lt0 c = rounded_above c.args.rise c.args.run c.from-divisor.result c.unsigned_abs-size.result c.nearest_size-rounded.result (size_is c.args.rise c.unsigned_abs-size.result c.ranges.rise c.unsigned_abs-size.ensures.value) c.from-divisor.ensures c.requires.run c.nearest_size-rounded.ensures.not_above c.nearest_size-rounded.ensures.below_next (search rules) (search rules)
