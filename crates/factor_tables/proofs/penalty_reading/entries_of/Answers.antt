use Rattle.std.proofs.Common.{rules, arith, ◌≡◌, ◌<◌, ◌≤◌, ◌+◌, ◌++◌, ◌∷◌, ◌∙◌, sym, Err, [], length}
use Rattle.indexmap.proofs.CallerLemmas.{insert_entry-new}
use Rattle.record_reading.proofs.GatherLemmas.{read_records-end, read_records-fault, read_records-step}
use Rattle.factor_tables.specs.Penalties.{penalty_entry, same_limit}
use Rattle.factor_tables.proofs.FactorLemmas.{is-none}
use Rattle.factor_tables.proofs.PenaltyLemmas.{penalties-push}
use Rattle.factor_tables.proofs.penalty_reading.entries_of.Goals as goal

pub returns-in_err-limit-clause-err : goal.returns-in_err-limit-clause-err
returns-in_err-limit-clause-err c =
    let lt : c.loop-place.place < length c.args.table.now = omega arith in
    let here = c.loop-place.invariant.is
    ∙ read_records-fault (penalty_entry c.args.network.now) c.loop-place.by_limit.entries (c.loop-place.place + 2) c.args.table.now c.loop-place.place c.in_err-limit.field-0.0 lt (sym c.entry_of.ensures.is ∙ c.in_err-limit.was) in
    let given : c.from_residual.result ≡ Err c.in_err-limit.field-0.0 = search rules in
    rw given (λ _. here)

pub loop-place-preserved : goal.loop-place-preserved
loop-place-preserved c =
    let lt : c.loop-place.place < length c.args.table.now = omega arith in
    let here = c.loop-place.invariant.is
    ∙ read_records-step (penalty_entry c.args.network.now) c.loop-place.by_limit.entries (c.loop-place.place + 2) c.args.table.now c.loop-place.place (c.in_ok-limit.limit, c.in_ok-limit.penalty) lt (sym c.entry_of.ensures.is ∙ c.in_ok-limit.was) in
    let absent = is-none _ c.in_ok-limit.ensures.new in
    let added : c.insert.new.self.entries ≡ c.loop-place.by_limit.entries ++ (c.in_ok-limit.limit, c.in_ok-limit.penalty) ∷ [] =
    search (rules, insert_entry-new same_limit c.loop-place.by_limit c.in_ok-limit.limit c.in_ok-limit.penalty absent) in
    let next : c.loop-place.place + 2 + 1 ≡ c.loop-place.place + 1 + 2 = omega arith in
    record {
      kept = penalties-push c.loop-place.by_limit.entries c.insert.new.self.entries (c.in_ok-limit.limit, c.in_ok-limit.penalty) c.loop-place.invariant.kept c.in_ok-limit.ensures.new c.in_ok-limit.ensures.kept added;
      is = rw (added, ← next) here;
    }

pub returns-clause-ok : goal.returns-clause-ok
returns-clause-ok c =
    let le : length c.args.table.now ≤ c.loop-place.place = omega arith in
    c.loop-place.invariant.is ∙ read_records-end (penalty_entry c.args.network.now) c.loop-place.by_limit.entries (c.loop-place.place + 2) c.args.table.now c.loop-place.place le
