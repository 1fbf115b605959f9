use Rattle.std.proofs.Common.{arith}
use Rattle.limit_rows.proofs.WholeLemmas.{some_inside}
use Rattle.limit_rows.proofs.wholes.put_wholes.Goals as goal

pub returns-clause-wholes : goal.returns-clause-wholes
returns-clause-wholes g c = λ place n found.
    let inside = some_inside c.loop-place.out place n found in
    c.loop-place.invariant place n (omega (arith, inside, c.loop-place-test.false, c.loop-place.auto.out)) found
