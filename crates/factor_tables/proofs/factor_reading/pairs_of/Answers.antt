use Rattle.std.proofs.Common.{rules, arith, ◌≡◌, ◌<◌, ◌≤◌, ◌+◌, ◌^◌, ◌++◌, ◌∷◌, ◌∙◌, sym, ap, Err, [], length, w64}
use Rattle.std.specs.Prelude.{unsigned_abs}
use mir.Val.{to_z, of_z}
use Rattle.std.proofs.lemmas.Int.{to_z-of_z}
use Rattle.market_data.proofs.Data.{datum_fits}
use Rattle.std.proofs.Math.ListN.{length-set}
use Rattle.record_reading.proofs.GatherLemmas.{read_records-end, read_records-fault, read_records-step}
use Rattle.factor_tables.specs.Tables.{entry_in}
use Rattle.factor_tables.proofs.FactorLemmas.{factors-none, factors-push}
use Rattle.factor_tables.proofs.factor_reading.pairs_of.Goals as goal

pub returns-in_err-pair-clause-err : goal.returns-in_err-pair-clause-err
returns-in_err-pair-clause-err c =
    let lt : c.loop-place.place < length c.args.table.now = omega arith in
    let here = c.loop-place.invariant.is
    ∙ read_records-fault (entry_in c.args.places c.args.network.now c.args.column) c.loop-place.pairs.by_pair.entries (c.loop-place.place + 2) c.args.table.now c.loop-place.place c.in_err-pair.field-0.0 lt (sym c.entry_of.ensures.is ∙ c.in_err-pair.was) in
    let given : c.from_residual-in_err-pair.result ≡ Err c.in_err-pair.field-0.0 = search rules in
    rw given (λ _. here)

pub loop-place-init : goal.loop-place-init
loop-place-init c = record {
  kept = factors-none c.args.column c.in_ok-pairs.pairs c.in_ok-pairs.ensures.none c.in_ok-pairs.ensures.unmarked;
  rows = search rules;
  is = search rules;
}

pub loop-place-preserved : goal.loop-place-preserved
loop-place-preserved c =
    let lt : c.loop-place.place < length c.args.table.now = omega arith in
    let here = c.loop-place.invariant.is
    ∙ read_records-step (entry_in c.args.places c.args.network.now c.args.column) c.loop-place.pairs.by_pair.entries (c.loop-place.place + 2) c.args.table.now c.loop-place.place (c.in_ok-pair.pair, c.in_ok-pair.factor) lt (sym c.entry_of.ensures.is ∙ c.in_ok-pair.was) in
    let next : c.loop-place.place + 2 + 1 ≡ c.loop-place.place + 1 + 2 = omega arith in
    let datum : unsigned_abs c.in_ok-pair.factor < 2 ^ 63 = omega (arith, c.in_ok-pair.ensures.size) in
    let fits : to_z w64 (of_z w64 c.in_ok-pair.factor) ≡ c.in_ok-pair.factor = to_z-of_z w64 _ (datum_fits _ datum) in
    let entries : c.add.new.self.by_pair.entries ≡ c.loop-place.pairs.by_pair.entries ++ (c.in_ok-pair.pair, c.in_ok-pair.factor) ∷ [] = rw fits at c.in_ok-add.ensures.entries in
    let within : c.marked_row.result < length c.loop-place.pairs.marked.items = omega (arith, c.in_ok-pair.ensures.row, c.loop-place.invariant.rows, c.marked_row.ensures) in
    record {
      kept =
          factors-push c.args.column c.loop-place.pairs c.add.new.self (c.in_ok-pair.pair, c.in_ok-pair.factor) c.marked_row.result c.loop-place.invariant.kept c.in_ok-pair.ensures.new c.marked_row.ensures within
          c.in_ok-pair.ensures.size entries c.in_ok-add.ensures.marked;
      rows = ap length c.in_ok-add.ensures.marked ∙ length-set _ _ _ ∙ c.loop-place.invariant.rows;
      is = rw (entries, ← next) here;
    }

pub returns-clause-ok : goal.returns-clause-ok
returns-clause-ok c =
    let le : length c.args.table.now ≤ c.loop-place.place = omega arith in
    c.loop-place.invariant.is ∙ read_records-end (entry_in c.args.places c.args.network.now c.args.column) c.loop-place.pairs.by_pair.entries (c.loop-place.place + 2) c.args.table.now c.loop-place.place le
