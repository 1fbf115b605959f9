use Rattle.std.proofs.Common.{rules, Err, refl, ◌≡◌, ◌∙◌, ap, sym}
use Rattle.std.specs.Option.{option_map}
use Rattle.fraction_theory.specs.Fraction.{Fraction, ◌+ℚ◌}
use Rattle.exact_fraction.specs.declared.Op.TheVariants.{Plus}
use Rattle.market_model.proofs.SumSteps.{refusal}
use Rattle.limit_screen.proofs.UseLemmas.{more_nowhere, more_put, none_counts, some_counts, sum_read}
use Rattle.limit_screen.proofs.uses.add_use.Goals as goal

pub returns-in_err-exact_sum-in-Some-clause-stops : goal.returns-in_err-exact_sum-in-Some-clause-stops
returns-in_err-exact_sum-in-Some-clause-stops g c = λ counts sum units have.
    let value = g.N.Exact.value in
    let i = c.args.unit in
    let read = sum_read value counts sum units i c.args.used.now c.index-used-unit.result have c.requires c.index-used-unit.is in
    let there = some_counts (counts i) (value c.in-Some.sum) (sum i) (sym (ap (option_map value) c.in-Some.is) ∙ read) in
    let given : c.from_residual.result ≡ Err c.in_err-exact_sum-in-Some.field-0.0 = search rules in
    rw given (there.0, refusal value g.N.Exact.bound Plus c.in-Some.sum c.args.mw _ _ c.in_err-exact_sum-in-Some.field-0.0 there.1 refl c.in_err-exact_sum-in-Some.ensures)

pub returns-in_ok-exact_sum-in-Some-clause-sums : goal.returns-in_ok-exact_sum-in-Some-clause-sums
returns-in_ok-exact_sum-in-Some-clause-sums g c = λ counts sum units have.
    let value = g.N.Exact.value in
    let i = c.args.unit in
    let read = sum_read value counts sum units i c.args.used.now c.index-used-unit.result have c.requires c.index-used-unit.is in
    let there = some_counts (counts i) (value c.in-Some.sum) (sum i) (sym (ap (option_map value) c.in-Some.is) ∙ read) in
    more_put value counts sum units i c.args.used.now (value c.args.mw) have c.in_ok-exact_sum-in-Some.field-0 c.requires there.0
    (c.in_ok-exact_sum-in-Some.ensures.exact ∙ ap (λ (t : Fraction). t +ℚ value c.args.mw) there.1)

pub returns-in-None-clause-sums : goal.returns-in-None-clause-sums
returns-in-None-clause-sums g c = λ counts sum units have.
    let value = g.N.Exact.value in
    let i = c.args.unit in
    let read = sum_read value counts sum units i c.args.used.now c.index-used-unit.result have c.requires c.index-used-unit.is in
    more_nowhere value counts sum units i c.args.used.now (value c.args.mw) have (none_counts (counts i) (sum i) (sym (ap (option_map value) c.in-None.is) ∙ read))
