use Rattle.std.proofs.Common.{◌≡◌, ◌<◌, ◌^◌, sym, ap, ◌∙◌, arith, Ok, to_z, of_z, w64, pos, ◌-ℤ◌, neg_ℤ}
use Rattle.std.proofs.lemmas.Int.{ints}
use Rattle.scaled_decimal.specs.Decimal.{with_sign}
use Rattle.scaled_decimal.proofs.AmountLemmas.{shifted_none, shifted_over, shifted_out, shifted_in}
use Rattle.scaled_decimal.proofs.amount.shifted.Goals as goal

pub returns-then-size-eq0 : goal.returns-then-size-eq0
returns-then-size-eq0 c = λ exact cut ends. sym (shifted_none c.args.negative exact c.args.size c.args.above c.args.under cut c.if-size-eq0.true)

pub returns-then-above-under : goal.returns-then-above-under
returns-then-above-under c = λ exact cut ends. sym (shifted_over c.args.negative exact c.args.size c.args.above c.args.under cut ends c.if-size-eq0.false c.if-above-under.true)

pub returns-then-size : goal.returns-then-size
returns-then-size c = λ exact cut ends.
    sym (shifted_out c.args.negative exact c.args.size c.args.above c.args.under c.raised-size.result cut c.if-above-under.false c.raised-size.ensures c.if-size.true)

pub returns-then-negative : goal.returns-then-negative
returns-then-negative c = λ exact cut ends.
    let found = shifted_in c.args.negative exact c.args.size c.args.above c.args.under c.raised-size.result cut c.if-above-under.false c.raised-size.ensures c.if-size.false in
    let low : c.raised-size.result < 2 ^ 63 = found.0 in
    let number : to_z w64 (of_z w64 (pos 0 -ℤ to_z w64 c.raised-size.result)) ≡ neg_ℤ (pos c.raised-size.result) = Prim.omega (arith, ints) in
    ap Ok (number ∙ ap (λ b. with_sign b c.raised-size.result) (sym c.if-negative.true)) ∙ sym found.1

pub returns-else-negative : goal.returns-else-negative
returns-else-negative c = λ exact cut ends.
    let found = shifted_in c.args.negative exact c.args.size c.args.above c.args.under c.raised-size.result cut c.if-above-under.false c.raised-size.ensures c.if-size.false in
    let low : c.raised-size.result < 2 ^ 63 = found.0 in
    let number : to_z w64 c.raised-size.result ≡ pos c.raised-size.result = Prim.omega (arith, ints) in
    ap Ok (number ∙ ap (λ b. with_sign b c.raised-size.result) (sym c.if-negative.false)) ∙ sym found.1
