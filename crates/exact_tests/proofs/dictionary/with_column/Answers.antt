use Rattle.std.proofs.Common.{[], ◌∷◌, ◌++◌, ◌∙◌, ℕ, List, ap, lit<}
use Rattle.exact_tests.proofs.NewNames.{is_new, above_one, above_two, above_three}
use Rattle.exact_tests.proofs.dictionary.with_column.Goals as goal

pub add_column-requires-clause-absent : goal.add_column-requires-clause-absent
add_column-requires-clause-absent g c =
    let s = c.in-Ok.ensures in
    is_new 9 (8 ∷ []) (7 ∷ 3 ∷ []) s.sound s.rows s.columns (above_one 9 8 (lit< tt)) (above_two 9 7 3 (lit< tt) (lit< tt))

pub add_row-requires-clause-absent : goal.add_row-requires-clause-absent
add_row-requires-clause-absent g c =
    let s = c.in-Ok.ensures in
    let a = c.in-Ok-add_column.ensures in
    is_new 10 (8 ∷ []) (7 ∷ 3 ∷ 9 ∷ []) a.sound (a.rows ∙ s.rows) (a.columns ∙ ap (λ (ws : List ℕ). ws ++ 9 ∷ []) s.columns) (above_one 10 8 (lit< tt))
    (above_three 10 7 3 9 (lit< tt) (lit< tt) (lit< tt))
