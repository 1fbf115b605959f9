use Rattle.std.proofs.Common.{◌∙◌, ◌-◌, pos, ap, Some, get_or}
use Rattle.std.proofs.lemmas.Bool.{MatchBool-at_false, MatchBool-at_true}
use Rattle.std.specs.Char.{IsAsciiDigit}
use Rattle.fraction_theory.proofs.FieldLaws.{over-one}
use Rattle.cert_format.proofs.NumberLemmas.{all_read, bound_from_ten, digit_goes, digit_read, next_is, no_other, shift_goes, shifted_is}
use Rattle.cert_format.proofs.fractions.number.Goals as goal

pub loop-byte-init : goal.loop-byte-init
loop-byte-init g c = c.of_parts-number.ensures ∙ over-one (pos 0)

pub returns-then-not-is_ascii_digit : goal.returns-then-not-is_ascii_digit
returns-then-not-is_ascii_digit g c = λ n le are.
    no_other n c.args.digits.now are c.loop-byte.byte-index c.loop-byte-test.true (MatchBool-at_false _ _ c.if-not-is_ascii_digit.true c.is_ascii_digit.ensures.cases)

pub returns-in_default : goal.returns-in_default
returns-in_default g c = λ n le are.
    let ten = bound_from_ten g.N.Exact.bound (g.N.Exact.value c.of_parts-ten.result) c.of_parts-ten.ensures (g.met.N.Exact.value_fits c.of_parts-ten.result).0 in
    shift_goes n c.args.digits.now are g.N.Exact.bound le (g.N.Exact.value c.loop-byte.number) (g.N.Exact.value c.of_parts-ten.result) ten c.loop-byte.byte-index c.loop-byte-test.true c.loop-byte.invariant c.of_parts-ten.ensures
    c.in_default.ensures.passes

pub returns-in_default-plus : goal.returns-in_default-plus
returns-in_default-plus g c = λ n le are.
    let ten = bound_from_ten g.N.Exact.bound (g.N.Exact.value c.of_parts-ten.result) c.of_parts-ten.ensures (g.met.N.Exact.value_fits c.of_parts-ten.result).0 in
    let shifted = shifted_is _ (g.N.Exact.value c.loop-byte.number) (g.N.Exact.value c.of_parts-ten.result) (g.N.Exact.value c.in-Ok.shifted) c.loop-byte.invariant c.of_parts-ten.ensures c.in-Ok.ensures.exact in
    digit_goes n c.args.digits.now are g.N.Exact.bound le (g.N.Exact.value c.in-Ok.shifted) (g.N.Exact.value c.digit.result) ten c.loop-byte.byte-index c.loop-byte-test.true shifted c.digit.ensures
    c.in_default-plus.ensures.passes

pub loop-byte-preserved : goal.loop-byte-preserved
loop-byte-preserved g c =
    let shifted = shifted_is _ (g.N.Exact.value c.loop-byte.number) (g.N.Exact.value c.of_parts-ten.result) (g.N.Exact.value c.in-Ok.shifted) c.loop-byte.invariant c.of_parts-ten.ensures c.in-Ok.ensures.exact in
    let digit : IsAsciiDigit (get_or c.args.digits.now c.loop-byte.byte-index 0) = MatchBool-at_true _ _ c.if-not-is_ascii_digit.false c.is_ascii_digit.ensures.cases in
    digit_read c.args.digits.now c.loop-byte.byte-index (g.N.Exact.value c.in-Ok-plus.next) c.loop-byte-test.true digit.0 digit.1
    (next_is _ (get_or c.args.digits.now c.loop-byte.byte-index 0 - 48) (g.N.Exact.value c.in-Ok.shifted) (g.N.Exact.value c.digit.result) (g.N.Exact.value c.in-Ok-plus.next) shifted c.digit.ensures c.in-Ok-plus.ensures.exact)

pub returns : goal.returns
returns g c = λ n le are. ap Some (all_read n c.args.digits.now are c.loop-byte.byte-index (g.N.Exact.value c.loop-byte.number) c.loop-byte-test.false c.loop-byte.invariant)
