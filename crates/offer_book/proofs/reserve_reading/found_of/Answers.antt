use Rattle.std.proofs.Common.{rules, arith, ◌≡◌, ◌<◌, ◌≤◌, ◌+◌, ◌∙◌, sym, Err, length}
use Rattle.offer_book.proofs.ReserveLemmas.{found-end, found-fault, found-none, found-push, found-step}
use Rattle.offer_book.proofs.reserve_reading.found_of.Goals as goal

pub loop-place-init : goal.loop-place-init
loop-place-init c = record { kept = rw c.new.ensures (found-none (length c.args.units.now.units)); is = search rules }

pub returns-in_err-entry-clause-err : goal.returns-in_err-entry-clause-err
returns-in_err-entry-clause-err c =
    let lt : c.loop-place.place < length c.args.table.now = omega arith in
    let here = c.loop-place.invariant.is
    ∙ found-fault c.args.units.now c.loop-place.found (c.loop-place.place + 2) c.args.table.now c.loop-place.place c.in_err-entry.field-0.0 lt (sym c.entry_of.ensures.is ∙ c.in_err-entry.was) in
    let given : c.from_residual.result ≡ Err c.in_err-entry.field-0.0 = search rules in
    rw given (λ _. here)

pub loop-place-preserved : goal.loop-place-preserved
loop-place-preserved c =
    let lt : c.loop-place.place < length c.args.table.now = omega arith in
    let here = c.loop-place.invariant.is
    ∙ found-step c.args.units.now c.loop-place.found (c.loop-place.place + 2) c.args.table.now c.loop-place.place c.in_ok-entry.entry lt (sym c.entry_of.ensures.is ∙ c.in_ok-entry.was) in
    let next : c.loop-place.place + 2 + 1 ≡ c.loop-place.place + 1 + 2 = omega arith in
    let more = found-push (length c.args.units.now.units) c.loop-place.found c.in_ok-entry.entry c.loop-place.invariant.kept c.in_ok-entry.ensures.kept in
    record {
      kept = rw c.in_ok-add.ensures more;
      is = rw (c.in_ok-add.ensures, ← next) here;
    }

pub returns-clause-ok : goal.returns-clause-ok
returns-clause-ok c =
    let le : length c.args.table.now ≤ c.loop-place.place = omega arith in
    c.loop-place.invariant.is ∙ found-end c.args.units.now c.loop-place.found (c.loop-place.place + 2) c.args.table.now c.loop-place.place le
