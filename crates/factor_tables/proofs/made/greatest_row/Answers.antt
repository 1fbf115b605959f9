use Rattle.std.proofs.Common.{arith, ◌≡◌, ◌<◌, ◌≤◌, ◌∙◌, ℕ, All, ap, get_or, length, pos, subst}
use Rattle.std.proofs.lemmas.List.{take_all}
use Rattle.factor_tables.specs.declared.made.MadeFactor.{MadeFactor}
use Rattle.factor_tables.specs.Factors.{marked_row}
use Rattle.factor_tables.specs.Made.{made_pair}
use Rattle.factor_tables.proofs.MadeLemmas.{bound-more}
use Rattle.factor_tables.proofs.made.greatest_row.Goals as goal

pub loop-record-preserved : goal.loop-record-preserved
loop-record-preserved c =
    let row : MadeFactor → ℕ = λ made. marked_row c.args.column (made_pair made) in
    let i = c.loop-record.record-index in
    let lt : i < length c.args.records.now = omega (arith, c.loop-record-test.true) in
    let none : MadeFactor = record { branch = 0; of = 0; units = pos 0 } in
    let is : c.marked_row.result ≡ row (get_or c.args.records.now i none) = c.marked_row.ensures ∙ ap (marked_row c.args.column) c.made_pair.ensures in
    bound-more row c.args.records.now i none c.loop-record.greatest c.max-greatest.result lt (omega (arith, c.max-greatest.ensures)) (omega (arith, is, c.max-greatest.ensures)) c.loop-record.invariant

pub returns : goal.returns
returns c =
    subst (All (λ made. marked_row c.args.column (made_pair made) ≤ c.loop-record.greatest)) (take_all c.loop-record.record-index c.args.records.now (omega (arith, c.loop-record-test.false))) c.loop-record.invariant
