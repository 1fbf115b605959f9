use Rattle.std.proofs.Common.{[], ◌∷◌, lit<}
use Rattle.exact_tests.proofs.NewNames.{is_new, above_one, above_two}
use Rattle.exact_tests.proofs.dictionary.two_rows.Goals as goal

pub add_row-requires-clause-absent : goal.add_row-requires-clause-absent
add_row-requires-clause-absent g c =
    let s = c.in-Ok.ensures in
    is_new 9 (8 ∷ []) (7 ∷ 3 ∷ []) s.sound s.rows s.columns (above_one 9 8 (lit< tt)) (above_two 9 7 3 (lit< tt) (lit< tt))
