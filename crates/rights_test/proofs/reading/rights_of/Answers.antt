use Rattle.std.proofs.Common.{rules, arith, ◌≡◌, ◌<◌, ◌≤◌, ◌+◌, ◌++◌, ◌∷◌, ◌∙◌, sym, ap, Err, [], length, length-append}
use Rattle.std.proofs.lemmas.List.Elements.{All-append, All-cons, All-nil}
use Rattle.market_model.specs.Rights.{IsTransmissionRight}
use Rattle.record_reading.proofs.GatherLemmas.{read_records-end, read_records-fault, read_records-step}
use Rattle.rights_test.specs.RightsTable.{right_in}
use Rattle.rights_test.proofs.reading.rights_of.Goals as goal

pub returns-in_err-right-clause-is : goal.returns-in_err-right-clause-is
returns-in_err-right-clause-is c =
    let lt : c.loop-place.place < length c.args.table.now = omega arith in
    let here = c.loop-place.invariant.is
    ∙ read_records-fault (λ done. right_in c.args.buses.now) c.loop-place.rights (c.loop-place.place + 2) c.args.table.now c.loop-place.place c.in_err-right.field-0.0 lt (sym c.right_of.ensures.is ∙ c.in_err-right.was) in
    let given : c.from_residual.result ≡ Err c.in_err-right.field-0.0 = search rules in
    λ _. given ∙ sym here

pub loop-place-preserved : goal.loop-place-preserved
loop-place-preserved c =
    let lt : c.loop-place.place < length c.args.table.now = omega arith in
    let here = c.loop-place.invariant.is
    ∙ read_records-step (λ done. right_in c.args.buses.now) c.loop-place.rights (c.loop-place.place + 2) c.args.table.now c.loop-place.place c.in_ok-right.right lt (sym c.right_of.ensures.is ∙ c.in_ok-right.was) in
    let added : c.push.new.self ≡ c.loop-place.rights ++ c.in_ok-right.right ∷ [] = search rules in
    let next : c.loop-place.place + 2 + 1 ≡ c.loop-place.place + 1 + 2 = omega arith in
    let buses = length c.args.buses.now in
    record {
      count = omega (arith, ap length added, length-append c.loop-place.rights (c.in_ok-right.right ∷ []));
      kept = rw added
          (All-append (IsTransmissionRight buses) c.loop-place.rights (c.in_ok-right.right ∷ []) c.loop-place.invariant.kept
          (All-cons (IsTransmissionRight buses) c.in_ok-right.right [] c.in_ok-right.ensures.kept (All-nil _)));
      is = rw (added, ← next) here;
    }

pub returns-clause-is : goal.returns-clause-is
returns-clause-is c =
    let le : length c.args.table.now ≤ c.loop-place.place = omega arith in
    λ _. sym (c.loop-place.invariant.is ∙ read_records-end (λ done. right_in c.args.buses.now) c.loop-place.rights (c.loop-place.place + 2) c.args.table.now c.loop-place.place le)
