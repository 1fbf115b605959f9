use Rattle.std.proofs.Common.{◌≡◌, ◌-◌, ◌∙◌, Some, Ok, ap, arith, sym}
use Rattle.std.proofs.lemmas.Int.{to_z-of_z}
use mir.Syntax.{w64}
use mir.Val.{to_z, of_z}
use Rattle.scaled_decimal.specs.Reading.{in_range}
use Rattle.scaled_decimal.proofs.PlainLemmas.{few_digits}
use Rattle.scaled_decimal.proofs.UnitLemmas.{units_of-plain, Reads-told}
use Rattle.scaled_decimal.proofs.plain.plain_units.Goals as goal

pub raised-size-requires-clause-few : goal.raised-size-requires-clause-few
raised-size-requires-clause-few c =
    let found = c.in_ok-found.found in
    few_digits found.number found.whole found.behind c.from-places.result c.in_ok-found.ensures.size (Prim.omega arith) (Prim.omega arith) (Prim.omega (arith, c.from-places.ensures))

pub returns-clause-is : goal.returns-clause-is
returns-clause-is c =
    let found = c.in_ok-found.found in
    let known : to_z w64 (of_z w64 c.signed.result) ≡ c.signed.result = to_z-of_z w64 c.signed.result (record { sfits = c.signed.type_inv }) in
    units_of-plain c.args.places c.args.bytes.now c.behind_sign-negative.result.1.now c.behind_sign-negative.result.0 found.number found.behind
    (c.from-places.result - found.behind) c.behind_sign-negative.ensures.signed c.in_ok-found.ensures.plain (Prim.omega arith) (Prim.omega (arith, c.from-places.ensures))
    ∙ (ap (in_range c.behind_sign-negative.result.0) (sym c.raised-size.ensures.is) ∙ (c.signed.ensures ∙ ap Ok (sym known)))

pub returns-clause-means : goal.returns-clause-means
returns-clause-means c = Reads-told c.args.places c.args.bytes.now (Some (to_z w64 (of_z w64 c.signed.result))) (returns-clause-is c)
