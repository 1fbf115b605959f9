-- No block comment's mark stands on a line, as the tokens tell it.
use Rattle.std.specs.Prelude.{◌≡◌, ℕ, List, ◌++◌, IsTrue}
use Rattle.std.specs.List.{before_first}
use Rattle.case_tokens.specs.Bytes.{is_line_end}
use Rattle.case_tokens.specs.Pieces.{is_block_rest}
use Rattle.case_tokens.specs.TokenLists.{is_blank_line}

abbrev pub IsBlockless : List ℕ → Type 0
IsBlockless text = (before rest : List ℕ) → text ≡ before ++ rest → IsTrue (is_blank_line before) → IsTrue (is_block_rest (before_first is_line_end rest)) → ⊥
