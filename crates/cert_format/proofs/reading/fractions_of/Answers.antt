use Rattle.std.proofs.Common.{◌≡◌, ◌∙◌, ◌∷◌, [], sym, ap, Some, None, Ok, get_or, map}
use Rattle.std.specs.Prelude.{option_map}
use Rattle.std.proofs.lemmas.List.{map-append}
use Rattle.serde_json.specs.View.{view}
use Rattle.cert_format.specs.Grammar.{fraction_in, need}
use Rattle.cert_format.proofs.EachLemmas.{rest-end, rest-none, rest-start, rest-step}
use Rattle.cert_format.proofs.reading.fractions_of.Goals as goal

pub loop-value-init : goal.loop-value-init
loop-value-init g c = rw c.new-numbers.ensures (rest-start (fraction_in g.N.Exact.bound) c.args.values.now)

pub returns-in_default : goal.returns-in_default
returns-in_default g c =
    let here : fraction_in g.N.Exact.bound (view (get_or c.args.values.now c.loop-value.value-index c.value-item.result)) ≡ None =
    ap (λ v. fraction_in g.N.Exact.bound (view v)) (sym c.value-item.is) ∙ sym c.fraction_in.ensures ∙ ap (option_map g.N.Exact.value) c.in_default.is in
    let none = c.loop-value.invariant ∙ rest-none (fraction_in g.N.Exact.bound) (map g.N.Exact.value c.loop-value.numbers) c.args.values.now c.loop-value.value-index c.value-item.result c.loop-value-test.true here in
    ap (λ o. need c.args.part o (λ xs. Ok xs)) none

pub loop-value-preserved : goal.loop-value-preserved
loop-value-preserved g c =
    let here : fraction_in g.N.Exact.bound (view (get_or c.args.values.now c.loop-value.value-index c.value-item.result)) ≡ Some (g.N.Exact.value c.in-Some.number) =
    ap (λ v. fraction_in g.N.Exact.bound (view v)) (sym c.value-item.is) ∙ sym c.fraction_in.ensures ∙ ap (option_map g.N.Exact.value) c.in-Some.is in
    let seen = ap (map g.N.Exact.value) c.in_ok-push.ensures ∙ map-append g.N.Exact.value c.loop-value.numbers (c.in-Some.number ∷ []) in
    rw seen (c.loop-value.invariant
    ∙ rest-step (fraction_in g.N.Exact.bound) (map g.N.Exact.value c.loop-value.numbers) c.args.values.now c.loop-value.value-index c.value-item.result (g.N.Exact.value c.in-Some.number) c.loop-value-test.true here)

pub returns : goal.returns
returns g c =
    let all = c.loop-value.invariant ∙ rest-end (fraction_in g.N.Exact.bound) (map g.N.Exact.value c.loop-value.numbers) c.args.values.now c.loop-value.value-index c.loop-value-test.false in
    ap (λ o. need c.args.part o (λ xs. Ok xs)) all
