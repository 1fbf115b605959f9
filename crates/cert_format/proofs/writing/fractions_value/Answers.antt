use Rattle.std.proofs.Common.{arith, ◌≡◌, ◌<◌, ◌≤◌, ◌∙◌, ap, subst, length, get_or}
use Rattle.serde_json.specs.Data.{array}
use Rattle.serde_json.specs.View.{items_of, view}
use Rattle.serde_json.proofs.Views.{view-Array}
use Rattle.cert_format.specs.Written.{fraction_data}
use Rattle.cert_format.proofs.ListLemmas.{viewed-all, viewed-push, viewed-through}
use Rattle.cert_format.proofs.writing.fractions_value.Goals as goal

pub loop-number-preserved : goal.loop-number-preserved
loop-number-preserved g c =
    let slice = c.slice-number-items.ensures in
    let lt : c.loop-number.number-index < length c.args.numbers.now = omega (arith, c.loop-number-test.true, ap length slice) in
    viewed-push view (λ x. fraction_data (g.N.Exact.value x)) c.args.numbers.now c.loop-number.values.items c.loop-number.number-index c.number-item.result c.in_ok-fraction_value.field-0 c.push.new.self.items lt
    (subst (λ xs. c.number-item.result ≡ get_or xs c.loop-number.number-index c.number-item.result) slice c.number-item.is) c.loop-number.invariant c.in_ok-fraction_value.ensures c.in_ok-push.ensures.items

pub returns : goal.returns
returns g c =
    let slice = c.slice-number-items.ensures in
    let le : length c.args.numbers.now ≤ c.loop-number.number-index = omega (arith, c.loop-number-test.false, ap length slice) in
    view-Array c.loop-number.values ∙ ap (λ ds. array (items_of ds)) (viewed-through view fraction_data g.N.Exact.value c.args.numbers.now c.loop-number.values.items
    (viewed-all view (λ x. fraction_data (g.N.Exact.value x)) c.args.numbers.now c.loop-number.values.items c.loop-number.number-index le c.loop-number.invariant))
