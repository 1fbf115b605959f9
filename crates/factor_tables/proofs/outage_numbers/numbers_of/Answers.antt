use Rattle.std.proofs.Common.{rules, arith, ◌≡◌, ◌<◌, ◌≤◌, ◌+◌, ◌++◌, ◌∷◌, ◌∙◌, sym, ap, Err, [], length, length-append}
use Rattle.record_reading.specs.Steps.{or_as}
use Rattle.record_reading.proofs.GatherLemmas.{read_records-end, read_records-fault, read_records-step}
use Rattle.factor_tables.specs.declared.table_fault.TableFault.TheVariants as fault
use Rattle.factor_tables.specs.OutageNumbers.{outage_number}
use Rattle.factor_tables.proofs.outage_numbers.numbers_of.Goals as goal

pub returns-in_err-number-clause-is : goal.returns-in_err-number-clause-is
returns-in_err-number-clause-is c =
    let lt : c.loop-place.place < length c.args.table.now = omega arith in
    let fails = ap (or_as fault.Frame) (sym c.number.ensures.is ∙ c.in_err-number.was) in
    let here = c.loop-place.invariant.is ∙ read_records-fault outage_number c.loop-place.numbers (c.loop-place.place + 2) c.args.table.now c.loop-place.place (fault.Frame c.in_err-number.field-0.0) lt fails in
    let given : c.from_residual.result ≡ Err (fault.Frame c.in_err-number.field-0.0) = search rules in
    λ _. given ∙ sym here

pub loop-place-preserved : goal.loop-place-preserved
loop-place-preserved c =
    let lt : c.loop-place.place < length c.args.table.now = omega arith in
    let reads = ap (or_as fault.Frame) (sym c.number.ensures.is ∙ c.in_ok-number.was) in
    let here = c.loop-place.invariant.is ∙ read_records-step outage_number c.loop-place.numbers (c.loop-place.place + 2) c.args.table.now c.loop-place.place c.in_ok-number.number lt reads in
    let added : c.push.new.self ≡ c.loop-place.numbers ++ c.in_ok-number.number ∷ [] = search rules in
    let next : c.loop-place.place + 2 + 1 ≡ c.loop-place.place + 1 + 2 = omega arith in
    record {
      count = omega (arith, ap length added, length-append c.loop-place.numbers (c.in_ok-number.number ∷ []));
      is = rw (added, ← next) here;
    }

pub returns-clause-is : goal.returns-clause-is
returns-clause-is c =
    let le : length c.args.table.now ≤ c.loop-place.place = omega arith in
    λ _. sym (c.loop-place.invariant.is ∙ read_records-end outage_number c.loop-place.numbers (c.loop-place.place + 2) c.args.table.now c.loop-place.place le)
