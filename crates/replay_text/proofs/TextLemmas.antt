-- A text that grows by one piece after another.
use Rattle.std.specs.Prelude.{◌≡◌, ℕ, List, ◌++◌}
use Rattle.std.proofs.Common.{ap, ◌∙◌, append_assoc}

-- by a word, and then by what follows it
pub word_then : (t u w d : List ℕ) → u ≡ t ++ w → u ++ d ≡ t ++ (w ++ d)
word_then t u w d e = ap (λ (s : List ℕ). s ++ d) e ∙ append_assoc t w d

-- by three pieces
pub three_pieces : (t u v a b c : List ℕ) → u ≡ t ++ a → v ≡ u ++ b → v ++ c ≡ t ++ (a ++ b ++ c)
three_pieces t u v a b c e f = Prim.rw (f, e) Prim.simp append_assoc
