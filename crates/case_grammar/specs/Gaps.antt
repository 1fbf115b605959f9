-- What stands between the words of a case: blanks, continuations, comments and line ends.
--
-- The grammar is one of trees. A `data` lists the forms that a tree may have, each with its parts. `x_text` is the text that a tree of
-- that kind stands for: `codes "..."` are the bytes of what is quoted, and `++` joins bytes. `IsX` says which trees are of the grammar:
-- `Unit {0}` is always so, `⊥` never, `×` is "and", `⊎` is "or", `¬` is "not", `≡` is "is", `≢` is "is not"; of a `record` all lines hold.
-- `(x : A) × B` is "there is an x so that B", `(x : A) → B` is "B for each x". `x ∷ xs` is the list that begins with x, `[]` the one of
-- none, and `AllByRecursion P xs` says P of each in xs. A text is a case where some tree of the grammar has this text.
use Rattle.std.specs.Prelude.{◌≢◌, ℕ, List, [], ◌∷◌, ◌++◌, codes, IsTrue}
use Rattle.std.specs.List.{AllByRecursion}
use Rattle.case_tokens.specs.Bytes.{is_blank}

-- A line ends at a line feed, the byte 10. These bytes have none.
abbrev pub IsOnLine : List ℕ → Type 0
IsOnLine bytes = AllByRecursion (λ byte. byte ≢ 10) bytes

-- ---- What is skipped is
pub data Skip : Type 0 where
  -- a blank, which is a space, a tab or a carriage return;
  blank : ℕ → Skip
  -- or a continuation: `...` skips the rest of the line with its end.
  continued : List ℕ → Skip

abbrev pub skip_text : Skip → List ℕ
skip_text (blank byte) = byte ∷ []
skip_text (continued rest) = codes "..." ++ (rest ++ codes "\n")

abbrev pub IsSkip : Skip → Type 0
IsSkip (blank byte) = IsTrue (is_blank byte)
IsSkip (continued rest) = IsOnLine rest

-- A gap is any number of these: the blanks of the rules, a continuation being one of them.
abbrev pub Gap : Type 0
Gap = List Skip

abbrev pub gap_text : Gap → List ℕ
gap_text [] = []
gap_text (skip ∷ gap) = skip_text skip ++ gap_text gap

abbrev pub IsGap : Gap → Type 0
IsGap gap = AllByRecursion IsSkip gap

-- Right after a word or a number `...` belongs to that, and inside brackets no `...` stands right after a string: a gap there begins with a
-- blank, where it has anything.
abbrev pub BeginsBlank : Gap → Type 0
BeginsBlank [] = Unit {0}
BeginsBlank (blank byte ∷ gap) = Unit {0}
BeginsBlank (continued rest ∷ gap) = ⊥

-- Something stands between.
abbrev pub IsNotEmpty : Gap → Type 0
IsNotEmpty [] = ⊥
IsNotEmpty (skip ∷ gap) = Unit {0}

-- ---- A line ends
pub data LineEnd : Type 0 where
  -- at a line feed,
  bare : LineEnd
  -- and `%` begins a comment up to the line's end.
  commented : List ℕ → LineEnd

abbrev pub line_end_text : LineEnd → List ℕ
line_end_text bare = codes "\n"
line_end_text (commented comment) = codes "%" ++ (comment ++ codes "\n")

abbrev pub IsLineEnd : LineEnd → Type 0
IsLineEnd bare = Unit {0}
IsLineEnd (commented comment) = IsOnLine comment
