use Rattle.std.proofs.Common.{◌≡◌, ◌⊎◌, ◌++◌, [], ◌∷◌, length, map, true}
use Rattle.case_text.specs.declared.words.Bracket.TheVariants as bracket
use Rattle.case_text.specs.Readers.{SameEnd}
use Rattle.case_text.specs.Nesting.{nest_of, behind_nest, rows_left}
use Rattle.case_text.specs.Nests.{behind_brackets, first_nest}
use Rattle.case_text.specs.Matrices.{rows_from}
use Rattle.case_text.proofs.matrices.read_rows.Given as goal

abbrev pub invariant-loop-alloc : goal.invariant-loop-alloc
invariant-loop-alloc l =
    let start = l.initial.tokens.left in
    let left = l.tokens.left in
    record {
      same : SameEnd l.initial.tokens l.tokens;
      behind : behind_brackets l.text start.fault true (first_nest bracket.Square) start.tokens ≡ behind_nest l.text left.fault true (nest_of l.nest) left.tokens;
      flat : (l.nest.brackets.items ≡ []) ⊎ (l.nest.brackets.items ≡ bracket.Square ∷ []);
      rows : map (λ r. map (λ c. c.now) r.items) l.gathered.rows.items ++ rows_left l.text (nest_of l.nest) (map (λ c. c.now) l.gathered.row.items) left.tokens
          ≡ rows_from l.text [] start.tokens;
    }

abbrev pub decreases-loop-alloc : goal.decreases-loop-alloc
decreases-loop-alloc l = length l.tokens.left.tokens
