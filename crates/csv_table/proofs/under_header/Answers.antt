use Rattle.std.proofs.Common.{◌≡◌, ◌+◌, ◌-◌, ◌∙◌, sym, map, length, arith, Bor, List, ℕ}
use Rattle.std.proofs.lemmas.List.{length-drop}
use Rattle.csv_table.specs.Records.{records_in}
use Rattle.csv_table.proofs.CutLemmas.{records-count, records-none}
use Rattle.csv_table.proofs.FrameLemmas.{frame-header, frame-many, frame-none, frame-ok, within-most}
use Rattle.csv_table.proofs.under_header.Goals as goal
use Rattle.csv_table.proofs.under_header.Goals.{then-records-eq0-via-then-records-eq0, then-records-eq0-via-else-records-eq0+then-not-is_header}

pub returns-then-records-eq0-clause-is : goal.returns-then-records-eq0-clause-is
returns-then-records-eq0-clause-is c =
    let names = map (λ (name : Bor (List ℕ)). name.now) c.args.header.now in
    elim c.then-records-eq0.branch [
      | then-records-eq0-via-then-records-eq0 w ↦ sym (frame-none names c.args.most (records_in c.args.records) (records-count c.args.records ∙ w.if-records-eq0.true))
      | then-records-eq0-via-else-records-eq0+then-not-is_header w ↦ sym (frame-header names c.args.most (records_in c.args.records) (records-none c.args.records c.requires) (sym w.is_header.ensures ∙ w.if-not-is_header.true))
    ]

pub returns-then-is_above-clause-is : goal.returns-then-is_above-clause-is
returns-then-is_above-clause-is c =
    let names = map (λ (name : Bor (List ℕ)). name.now) c.args.header.now in
    let count : length (records_in c.args.records) ≡ c.args.records.count - 1 + 1 = omega (arith, records-count c.args.records) in
    sym (frame-many names c.args.most (c.args.records.count - 1) (records_in c.args.records) (records-none c.args.records c.requires) (sym c.is_header.ensures ∙ c.if-not-is_header.false) count (sym c.is_above.ensures ∙ c.if-is_above.true))

pub returns-clause-is : goal.returns-clause-is
returns-clause-is c =
    let names = map (λ (name : Bor (List ℕ)). name.now) c.args.header.now in
    let count : length (records_in c.args.records) ≡ c.args.records.count - 1 + 1 = omega (arith, records-count c.args.records) in
    sym (frame-ok names c.args.most (c.args.records.count - 1) (records_in c.args.records) (records-none c.args.records c.requires) (sym c.is_header.ensures ∙ c.if-not-is_header.false) count (sym c.is_above.ensures ∙ c.if-is_above.false))

pub returns-clause-few : goal.returns-clause-few
returns-clause-few c =
    let count : length (records_in c.args.records) - 1 ≡ c.args.records.count - 1 = omega (arith, records-count c.args.records) in
    let under = length-drop 1 (records_in c.args.records) ∙ count in
    rw under (within-most c.args.most (c.args.records.count - 1) (sym c.is_above.ensures ∙ c.if-is_above.false))
