use Rattle.std.proofs.Common.{arith, subst, ◌<◌, ◌%◌}
use Rattle.std.proofs.Math.Nat.{mod-lt}
use Rattle.exact_fraction.proofs.Digits.{power_above, short_whole}
use Rattle.exact_fraction.proofs.Units.{units_without_rest, units_with_rest}
use Rattle.exact_fraction.proofs.text.append_units.Goals as goal

pub nonzero_div-q : goal.nonzero_div-q
nonzero_div-q c = power_above c.args.places _ c.pow-whole.ensures

pub append_digits-point-requires : goal.append_digits-point-requires
append_digits-point-requires c = omega (arith, short_whole c.args.places c.args.q c.pow-whole.result c.requires.places c.requires.sizes.0 c.pow-whole.ensures)

pub nonzero_rem-q : goal.nonzero_rem-q
nonzero_rem-q c = power_above c.args.places _ c.pow-whole.ensures

pub append_trimmed-requires-clause-space : goal.append_trimmed-requires-clause-space
append_trimmed-requires-clause-space c = omega (arith, short_whole c.args.places c.args.q c.pow-whole.result c.requires.places c.requires.sizes.0 c.pow-whole.ensures)

pub append_trimmed-requires-clause-fits : goal.append_trimmed-requires-clause-fits
append_trimmed-requires-clause-fits c = subst (λ t. c.args.q % c.pow-whole.result < t) c.pow-whole.ensures (mod-lt c.args.q (power_above c.args.places _ c.pow-whole.ensures))

pub nonzero_rem-q-else-r-eq0 : goal.nonzero_rem-q-else-r-eq0
nonzero_rem-q-else-r-eq0 c = power_above c.args.places _ c.pow-whole.ensures

pub append_rest-requires-clause-start : goal.append_rest-requires-clause-start
append_rest-requires-clause-start c = omega (arith, short_whole c.args.places c.args.q c.pow-whole.result c.requires.places c.requires.sizes.0 c.pow-whole.ensures)

pub append_rest-requires-clause-fits : goal.append_rest-requires-clause-fits
append_rest-requires-clause-fits c = subst (λ t. c.args.q % c.pow-whole.result < t) c.pow-whole.ensures (mod-lt c.args.q (power_above c.args.places _ c.pow-whole.ensures))

pub returns-then-r-eq0-clause-within : goal.returns-then-r-eq0-clause-within
returns-then-r-eq0-clause-within c = omega (arith, short_whole c.args.places c.args.q c.pow-whole.result c.requires.places c.requires.sizes.0 c.pow-whole.ensures)

pub returns-then-r-eq0-clause-text : goal.returns-then-r-eq0-clause-text
returns-then-r-eq0-clause-text c = units_without_rest _ _ _ c.args.places c.args.q c.args.r c.args.d _ c.pow-whole.ensures c.if-r-eq0.true c.append_digits-point.ensures.text c.append_trimmed.ensures.text

pub returns-else-r-eq0-clause-text : goal.returns-else-r-eq0-clause-text
returns-else-r-eq0-clause-text c = units_with_rest _ _ _ c.args.places c.args.q c.args.r c.args.d _ c.pow-whole.ensures c.if-r-eq0.false c.append_digits-point.ensures.text c.append_rest.ensures.text
