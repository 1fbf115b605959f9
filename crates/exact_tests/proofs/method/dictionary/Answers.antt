use Rattle.std.proofs.Common.{◌∙◌, List, ℕ, [], ◌∷◌, ◌++◌, ap, lit<}
use Rattle.exact_tests.proofs.NewNames.{is_new, above_one, above_two, above_three}
use Rattle.exact_tests.proofs.method.dictionary.Goals as goal

pub add-requires-clause-absent : goal.add-requires-clause-absent
add-requires-clause-absent g c =
    is_new 5 (4 ∷ []) (1 ∷ 2 ∷ 3 ∷ []) c.started-dict.ensures.sound c.started-dict.ensures.rows c.started-dict.ensures.columns
    (above_one 5 4 (lit< tt)) (above_three 5 1 2 3 (lit< tt) (lit< tt) (lit< tt))

pub add-requires-2-clause-absent : goal.add-requires-2-clause-absent
add-requires-2-clause-absent g c =
    is_new 6 (4 ∷ 5 ∷ []) (1 ∷ 2 ∷ 3 ∷ []) c.add.ensures.sound
    (c.add.ensures.rows ∙ ap (λ (rs : List ℕ). rs ++ 5 ∷ []) c.started-dict.ensures.rows) (c.add.ensures.columns ∙ c.started-dict.ensures.columns)
    (above_two 6 4 5 (lit< tt) (lit< tt)) (above_three 6 1 2 3 (lit< tt) (lit< tt) (lit< tt))

pub add-requires-3-clause-absent : goal.add-requires-3-clause-absent
add-requires-3-clause-absent g c =
    is_new 7 (4 ∷ 5 ∷ 6 ∷ []) (1 ∷ 2 ∷ 3 ∷ []) c.add-2.ensures.sound
    (c.add-2.ensures.rows ∙ ap (λ (rs : List ℕ). rs ++ 6 ∷ []) (c.add.ensures.rows ∙ ap (λ (rs : List ℕ). rs ++ 5 ∷ []) c.started-dict.ensures.rows))
    (c.add-2.ensures.columns ∙ c.add.ensures.columns ∙ c.started-dict.ensures.columns)
    (above_three 7 4 5 6 (lit< tt) (lit< tt) (lit< tt)) (above_three 7 1 2 3 (lit< tt) (lit< tt) (lit< tt))
