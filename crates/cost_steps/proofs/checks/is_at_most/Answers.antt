use Rattle.std.proofs.Common.{rules, ap, ◌∙◌, ◌≡◌, ℕ, ℤ, refl}
use Rattle.std.proofs.lemmas.Bool.{false≢true}
use Rattle.std.specs.Prelude.{unsigned_abs}
use Rattle.std.specs.Int.{w128}
use Rattle.std.proofs.lemmas.Int.{to_z-of_z}
use mir.Val.{SFits, to_z, of_z}
use Rattle.cost_steps.proofs.Comparing.{tested_above, tested_below, below_above, above_below}
use Rattle.cost_steps.proofs.checks.is_at_most.Goals as goal

size_is : (n : ℤ) (size : ℕ) → SFits w128 n → size ≡ unsigned_abs (to_z w128 (of_z w128 n)) → size ≡ unsigned_abs n
size_is n _ fits is = is ∙ ap unsigned_abs (to_z-of_z w128 n fits)

pub returns-then-next_rise-lt0 : goal.returns-then-next_rise-lt0
returns-then-next_rise-lt0 c = tested_below c.args.rise c.args.next_rise c.args.run c.args.next_run c.unsigned_abs.result c.unsigned_abs-2.result c.from.result c.from-2.result c.requires.run c.requires.next_run
    (size_is c.args.rise c.unsigned_abs.result c.ranges.rise c.unsigned_abs.ensures.value) (size_is c.args.next_rise c.unsigned_abs-2.result c.ranges.next_rise c.unsigned_abs-2.ensures.value)
    c.from.ensures c.from-2.ensures (search rules) (search rules)

pub returns-else-next_rise-lt0 : goal.returns-else-next_rise-lt0
returns-else-next_rise-lt0 c = (λ t. below_above c.args.rise c.args.next_rise c.args.run c.args.next_run c.requires.run c.requires.next_run (search rules) (search rules), λ h. refl)

pub returns-then-next_rise-lt0-2 : goal.returns-then-next_rise-lt0-2
returns-then-next_rise-lt0-2 c = (λ t. absurd (false≢true t), λ h. absurd (above_below c.args.rise c.args.next_rise c.args.run c.args.next_run c.requires.run c.requires.next_run (search rules) (search rules) h))

pub returns-else-next_rise-lt0-2 : goal.returns-else-next_rise-lt0-2
returns-else-next_rise-lt0-2 c = tested_above c.args.rise c.args.next_rise c.args.run c.args.next_run c.unsigned_abs.result c.unsigned_abs-2.result c.from.result c.from-2.result c.requires.run c.requires.next_run
    (size_is c.args.rise c.unsigned_abs.result c.ranges.rise c.unsigned_abs.ensures.value) (size_is c.args.next_rise c.unsigned_abs-2.result c.ranges.next_rise c.unsigned_abs-2.ensures.value)
    c.from.ensures c.from-2.ensures (search rules) (search rules)
