use Rattle.std.proofs.Common.{rules, ◌≡◌, ◌∙◌, sym, ap, Some, Err, refl, length, pos, w64}
use mir.Val.{to_z, of_z}
use Rattle.std.specs.Option.{unwrap_or}
use Rattle.market_data.specs.Scales.{most_reserves}
use Rattle.offer_book.specs.declared.reserve_reading.ReserveFault.TheVariants as fault
use Rattle.offer_book.specs.Reserving.{reserve_header, reserve_in, reserve_of_table}
use Rattle.csv_table.proofs.Framed.{framed-fault, framed-fits}
use Rattle.offer_book.proofs.ReserveLemmas.{found-empty, found-reserve}
use Rattle.offer_book.proofs.reserve_reading.reserves.Goals as goal

pub returns-in_err-table-clause-is : goal.returns-in_err-table-clause-is
unfolding reserve_of_table
returns-in_err-table-clause-is c =
    let given : c.from_residual-in_err-table.result ≡ Err (fault.Frame c.in_err-table.field-0.0) = search rules in
    λ _. rw (given, framed-fault fault.Frame (reserve_in c.args.units.now) (Some most_reserves) c.args.bytes.now reserve_header _ c.in_err-table.field-0.0 refl (sym c.in_err-table.was ∙ c.in_ok-read_table.ensures.is)) refl

pub returns-in_err-found-clause-is : goal.returns-in_err-found-clause-is
unfolding reserve_of_table reserve_in
returns-in_err-found-clause-is c =
    let fits = framed-fits fault.Frame (reserve_in c.args.units.now) (Some most_reserves) c.args.bytes.now reserve_header _ _ refl (sym c.in_ok-table.was ∙ c.in_ok-read_table.ensures.is) in
    let given : c.from_residual-in_err-found.result ≡ Err c.in_err-found.field-0.0 = search rules in
    λ other. rw (given, fits, c.in_err-found.ensures.err (λ m. other (given ∙ ap Err m))) refl

pub returns-clause-is : goal.returns-clause-is
unfolding reserve_of_table reserve_in
returns-clause-is c =
    let fits = framed-fits fault.Frame (reserve_in c.args.units.now) (Some most_reserves) c.args.bytes.now reserve_header _ _ refl (sym c.in_ok-table.was ∙ c.in_ok-read_table.ensures.is) in
    λ _. rw (fits, c.in_ok-found.ensures.ok) (search rules)

pub returns-clause-kept : goal.returns-clause-kept
returns-clause-kept c =
    let need : to_z w64 (of_z w64 c.unwrap_or.result) ≡ unwrap_or c.in_ok-found.found.need (pos 0) = search rules in
    let empty = found-empty c.args.units.now c.in_ok-table.table c.in_ok-found.found c.in_ok-found.ensures.ok in
    λ most. rw (need, c.len.ensures.count) (found-reserve (length c.args.units.now.units) (length c.in_ok-table.table) c.in_ok-found.found most c.in_ok-found.ensures.kept empty)
