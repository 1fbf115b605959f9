use Rattle.std.proofs.Common.{◌≡◌, ◌∙◌, ◌<◌, ap, arith, length, slice_get, sym, true, Some}
use Rattle.std.specs.Prelude.{is_some, nat_lt}
use Rattle.std.proofs.lemmas.Bool.{false≢true, lt-ltb}
use Rattle.factor_tables.specs.Factors.{listed_entry}
use Rattle.factor_text.specs.Texts.{record_line}
use Rattle.factor_text.proofs.WritingLemmas.{lines-more}
use Rattle.factor_text.proofs.writing.put_records.Goals.{in-Some+in_ok-put_record, in_default}
use Rattle.factor_text.proofs.writing.put_records.Goals as goal

pub loop-place-preserved : goal.loop-place-preserved
loop-place-preserved g c =
    let place = c.loop-place.place in
    let lt : place < length c.args.table.now.entries = omega (arith, c.loop-place-test.true, c.len-place-end.ensures) in
    let passes : nat_lt place (length c.args.table.now.entries) ≡ true = lt-ltb place (length c.args.table.now.entries) lt in
    elim c.match-record.branch [
      | in-Some+in_ok-put_record w ↦
          let here : slice_get c.args.table.now.entries place ≡ Some (listed_entry w.in-Some.listed) = w.in-Some.ensures.is in
          lines-more record_line c.args.text.now c.args.table.now.entries c.loop-place.text c.match-record.text place (listed_entry w.in-Some.listed) lt here c.loop-place.invariant (w.text-is ∙ w.in_ok-put_record.ensures)
      | in_default w ↦ absurd (false≢true (sym (ap is_some w.in_default.is) ∙ (c.record.ensures.there ∙ passes)))
    ]
