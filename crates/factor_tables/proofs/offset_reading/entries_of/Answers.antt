use Rattle.std.proofs.Common.{rules, arith, ◌≡◌, ◌<◌, ◌≤◌, ◌+◌, ◌++◌, ◌∷◌, ◌∙◌, sym, Err, [], length}
use Rattle.std.specs.Prelude.{nat_eq}
use Rattle.indexmap.proofs.CallerLemmas.{insert_entry-new}
use Rattle.record_reading.proofs.GatherLemmas.{read_records-end, read_records-fault, read_records-step}
use Rattle.factor_tables.specs.Offsets.{offset_entry}
use Rattle.factor_tables.proofs.FactorLemmas.{is-none}
use Rattle.factor_tables.proofs.OffsetLemmas.{offsets-push}
use Rattle.factor_tables.proofs.offset_reading.entries_of.Goals as goal

pub returns-in_err-branch-clause-err : goal.returns-in_err-branch-clause-err
returns-in_err-branch-clause-err c =
    let lt : c.loop-place.place < length c.args.table.now = omega arith in
    let here = c.loop-place.invariant.is
    ∙ read_records-fault (offset_entry c.args.network.now) c.loop-place.by_row.entries (c.loop-place.place + 2) c.args.table.now c.loop-place.place c.in_err-branch.field-0.0 lt (sym c.entry_of.ensures.is ∙ c.in_err-branch.was) in
    let given : c.from_residual.result ≡ Err c.in_err-branch.field-0.0 = search rules in
    rw given (λ _. here)

pub loop-place-preserved : goal.loop-place-preserved
loop-place-preserved c =
    let lt : c.loop-place.place < length c.args.table.now = omega arith in
    let here = c.loop-place.invariant.is
    ∙ read_records-step (offset_entry c.args.network.now) c.loop-place.by_row.entries (c.loop-place.place + 2) c.args.table.now c.loop-place.place (c.in_ok-branch.branch, c.in_ok-branch.mw) lt (sym c.entry_of.ensures.is ∙ c.in_ok-branch.was) in
    let absent = is-none _ c.in_ok-branch.ensures.new in
    let added : c.insert.new.self.entries ≡ c.loop-place.by_row.entries ++ (c.in_ok-branch.branch, c.in_ok-branch.mw) ∷ [] =
    search (rules, insert_entry-new nat_eq c.loop-place.by_row c.in_ok-branch.branch c.in_ok-branch.mw absent) in
    let next : c.loop-place.place + 2 + 1 ≡ c.loop-place.place + 1 + 2 = omega arith in
    record {
      kept = offsets-push c.loop-place.by_row.entries c.insert.new.self.entries (c.in_ok-branch.branch, c.in_ok-branch.mw) c.loop-place.invariant.kept c.in_ok-branch.ensures.datum added;
      is = rw (added, ← next) here;
    }

pub returns-clause-ok : goal.returns-clause-ok
returns-clause-ok c =
    let le : length c.args.table.now ≤ c.loop-place.place = omega arith in
    c.loop-place.invariant.is ∙ read_records-end (offset_entry c.args.network.now) c.loop-place.by_row.entries (c.loop-place.place + 2) c.args.table.now c.loop-place.place le
