-- What stands at a place of a text. A text is cut into pieces: what parts tokens, and tokens.
use Rattle.std.specs.Prelude.{ℕ, ◌+◌, ◌<◌, ◌≤◌, Bool, true, false, List, [], ◌∷◌, length, take, drop, ◌==◌, ◌||◌, ◌&&◌, not, Option, Some, None, if◌then◌else◌, min, nat_eq, codes}
use Rattle.std.specs.List.{list_all, position_or_len, before_first, starts_with}
use Rattle.scaled_decimal.specs.Reading.{is_number_text}
use Rattle.case_tokens.specs.declared.Kind.TheVariants as kind
use Rattle.case_tokens.specs.declared.pieces.Piece.{Piece}
use Rattle.case_tokens.specs.declared.pieces.Piece.TheVariants as piece
use Rattle.case_tokens.specs.Bytes.{is_line_end, is_blank, is_percent, is_quote, is_mark, ends_run, may_follow}

-- how many bytes are left of a line
abbrev pub line_length : List ℕ → ℕ
line_length rest = position_or_len is_line_end rest

-- a line's rest is `%{` or `%}`, and blanks
unfoldable pub is_block_rest : List ℕ → Bool
is_block_rest [] = false
is_block_rest (a ∷ []) = false
is_block_rest (a ∷ b ∷ behind) = is_percent a && (b == 123 || b == 125) && list_all is_blank behind

-- A comment goes up to the end of its line. It is a block's mark where the line has it alone.
unfoldable pub comment_at : Bool → List ℕ → Piece
comment_at blank rest =
    if blank && is_block_rest (before_first is_line_end rest) then piece.Token kind.Block 2
    else piece.Gap (line_length rest)

-- a continuation begins
abbrev pub is_continuation : List ℕ → Bool
is_continuation rest = starts_with nat_eq rest (codes "...")

-- it takes the rest of its line and the line's end, where there is one
abbrev pub continuation_length : List ℕ → ℕ
continuation_length rest = min (line_length rest + 1) (length rest)

-- this many more
abbrev pub more : ℕ → Option ℕ → Option ℕ
more n None = None
more n (Some m) = Some (n + m)

-- How many bytes a string takes behind its opening quote, up to its closing one and with it. It is closed on its line, by the first
-- quote that is not doubled.
unfoldable pub string_length : ℕ → List ℕ → Option ℕ
string_length quote [] = None
string_length quote (b ∷ []) = if b == quote then Some 1 else None
string_length quote (b ∷ c ∷ behind) =
    if is_line_end b then None
    else (if b == quote then (if c == quote then more 2 (string_length quote behind) else Some 1)
    else more 1 (string_length quote (c ∷ behind)))

-- nothing, or a byte that may follow a number or a string inside brackets
abbrev pub is_parted : List ℕ → Bool
is_parted [] = true
is_parted (b ∷ behind) = may_follow b

-- the string, or the quote that is not closed; rest begins with the quote
unfoldable pub quoted_at : Bool → Option ℕ → List ℕ → Piece
quoted_at inside None rest = if inside then piece.Bad else piece.Token kind.Open (line_length rest)
quoted_at inside (Some n) rest = if inside && not (is_parted (drop (n + 1) rest)) then piece.Bad else piece.Token kind.Text (n + 1)

-- the run of this many bytes; inside brackets it is a number
unfoldable pub run_at : Bool → ℕ → List ℕ → Piece
run_at inside n rest =
    if inside && not (is_number_text (take n rest) && is_parted (drop n rest)) then piece.Bad else piece.Token kind.Run n

-- The piece that begins where this is left of a text, inside brackets or not, and with blanks alone before it on its line or not.
unfoldable pub piece_at : Bool → Bool → List ℕ → Piece
piece_at inside blank [] = if inside then piece.Bad else piece.End
piece_at inside blank (b ∷ behind) =
    if is_blank b then piece.Gap 1
    else (if is_line_end b then piece.Token kind.LineEnd 1
    else (if is_percent b then comment_at blank (b ∷ behind)
    else (if is_continuation (b ∷ behind) then piece.Gap (continuation_length (b ∷ behind))
    else (if is_mark inside b then piece.Token kind.Mark 1
    else (if is_quote b then quoted_at inside (string_length b behind) (b ∷ behind)
    else run_at inside (position_or_len (ends_run inside) (b ∷ behind)) (b ∷ behind))))))

-- a piece of this many bytes at least one, and within what is left
abbrev pub Fits : Piece → ℕ → Type 0
Fits piece.End most = Unit {0}
Fits (piece.Gap n) most = (0 < n) × (n ≤ most)
Fits (piece.Token k n) most = (0 < n) × (n ≤ most)
Fits piece.Bad most = Unit {0}

-- it does not only part tokens
abbrev pub IsNoGap : Piece → Type 0
IsNoGap piece.End = Unit {0}
IsNoGap (piece.Gap n) = ⊥
IsNoGap (piece.Token k n) = Unit {0}
IsNoGap piece.Bad = Unit {0}
