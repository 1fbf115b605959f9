use Rattle.std.proofs.Common.{[], ◌∷◌, lit<}
use Rattle.exact_tests.proofs.NewNames.{is_new, above_one, above_three}
use Rattle.exact_tests.proofs.method.values_move_and_are_not_added_up.Goals as goal

pub add-requires-clause-absent : goal.add-requires-clause-absent
add-requires-clause-absent g c =
    is_new 5 (4 ∷ []) (1 ∷ 2 ∷ 3 ∷ []) c.started-dict.ensures.sound c.started-dict.ensures.rows c.started-dict.ensures.columns
    (above_one 5 4 (lit< tt)) (above_three 5 1 2 3 (lit< tt) (lit< tt) (lit< tt))
