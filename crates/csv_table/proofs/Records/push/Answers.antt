use Rattle.std.proofs.Common.{rules, arith, ◌≡◌, ◌++◌, ◌+◌, ◌∙◌, sym, ap}
use Rattle.csv.specs.Records.{fields_of}
use Rattle.csv_table.specs.declared.Records.{Records}
use Rattle.csv_table.proofs.CutLemmas.{records-push}
use Rattle.csv_table.proofs.Records.push.Goals as goal
use Rattle.csv_table.proofs.Records.push.Goals.{then-self-eq0, else-self-eq0+else-len-self}

pub returns-clause-records : goal.returns-clause-records
returns-clause-records c =
    let cells : fields_of c.append.new.cells ≡ fields_of c.if-self-eq0.self.cells ++ fields_of c.args.more.now = search rules in
    elim c.if-self-eq0.branch [
      | then-self-eq0 w ↦ records-push c.args.self.now _ (fields_of c.args.more.now) c.requires.flat (ap (λ (s : Records). s.count + 1) w.self-is) (rw w.self-is at cells)
          (sym (ap (λ (s : Records). s.width) w.self-is ∙ w.len-self.ensures)) (λ some. absurd (omega arith))
      | else-self-eq0+else-len-self w ↦ records-push c.args.self.now _ (fields_of c.args.more.now) c.requires.flat (ap (λ (s : Records). s.count + 1) w.self-is) (rw w.self-is at cells)
          (sym w.len.ensures ∙ w.if-len-self.false ∙ sym (ap (λ (s : Records). s.width) w.self-is)) (λ _. ap (λ (s : Records). s.width) w.self-is)
    ]
