-- The tokens of a text, from the pieces that follow one another in it.
use Rattle.std.specs.Prelude.{◌≡◌, ℕ, zero, suc, ◌+◌, ◌-◌, ◌<◌, ◌≤◌, Bool, List, [], ◌∷◌, ◌++◌, length, nat_lt, Option, Some, None, Result, Ok, Err, if◌then◌else◌, count_by}
use Rattle.std.specs.List.{list_all, after_last}
use Rattle.case_tokens.specs.declared.Kind.{Kind}
use Rattle.case_tokens.specs.declared.Token.{Token}
use Rattle.case_tokens.specs.declared.TokenFault.{TokenFault}
use Rattle.case_tokens.specs.declared.TokenFault.TheVariants as fault
use Rattle.case_tokens.specs.declared.pieces.Piece.{Piece}
use Rattle.case_tokens.specs.declared.pieces.Piece.TheVariants as piece
use Rattle.case_tokens.specs.Bytes.{is_line_end, is_blank, is_opening, is_closing}
use Rattle.case_tokens.specs.Pieces.{piece_at}

-- The tokens, and the place of the fault that ends them: None where the text ends outside brackets.
pub record TokenList : Type 0 where
  pub tokens : List Token
  pub fault : Option ℕ

-- how many brackets were opened and closed so far
pub record Brackets : Type 0 where
  pub opened : ℕ
  pub closed : ℕ

abbrev pub no_brackets : Brackets
no_brackets = record { opened = 0; closed = 0 }

-- more were opened than closed
abbrev pub is_inside : Brackets → Bool
is_inside brackets = nat_lt brackets.closed brackets.opened

-- the counts behind a piece that begins with this byte
abbrev pub counted : Piece → ℕ → Brackets → Brackets
counted (piece.Token k n) byte brackets = record {
  opened = brackets.opened + (if is_opening byte then 1 else 0);
  closed = brackets.closed + (if is_closing byte then 1 else 0);
}
counted (piece.Gap n) byte brackets = brackets
counted piece.End byte brackets = brackets
counted piece.Bad byte brackets = brackets

-- the bytes of the line that these end with
unfoldable pub last_line : List ℕ → List ℕ
last_line bytes = after_last is_line_end bytes

-- blanks alone stand on the line that these end with
unfoldable pub is_blank_line : List ℕ → Bool
is_blank_line bytes = list_all is_blank (last_line bytes)

-- the number of the line that stands behind these bytes, from 1
unfoldable pub line_of : List ℕ → ℕ
line_of bytes = count_by is_line_end bytes + 1

-- a token of this many bytes behind these
abbrev pub token_of : Kind → ℕ → List ℕ → Token
token_of kind n before = record {
  kind = kind;
  span = record { start = length before; end = length before + n };
  line = line_of before;
}

abbrev pub with_first : Token → TokenList → TokenList
with_first token list = record { tokens = token ∷ list.tokens; fault = list.fault }

-- The tokens from a piece on, from those behind it. What parts tokens adds none, and a fault ends them at its place.
abbrev pub with_piece : Piece → List ℕ → TokenList → TokenList
with_piece piece.End before behind = record { tokens = []; fault = None }
with_piece piece.Bad before behind = record { tokens = []; fault = Some (length before) }
with_piece (piece.Gap n) before behind = behind
with_piece (piece.Token k n) before behind = with_first (token_of k n before) behind

abbrev pub length_of : Piece → ℕ
length_of piece.End = 0
length_of piece.Bad = 0
length_of (piece.Gap n) = n
length_of (piece.Token k n) = n

-- The tokens behind the bytes that went before. The next piece begins when so many more bytes have been passed, and each piece begins
-- where the one before it ends.
unfoldable pub tokens_from : Brackets → List ℕ → ℕ → List ℕ → TokenList
tokens_from brackets before n [] =
    with_piece (piece_at (is_inside brackets) (is_blank_line before) []) before (record { tokens = []; fault = None })
tokens_from brackets before (suc n) (b ∷ rest) = tokens_from brackets (before ++ b ∷ []) n rest
tokens_from brackets before zero (b ∷ rest) =
    let next = piece_at (is_inside brackets) (is_blank_line before) (b ∷ rest) in
    with_piece next before (tokens_from (counted next b brackets) (before ++ b ∷ []) (length_of next - 1) rest)

-- the tokens of a text
unfoldable pub token_list : List ℕ → TokenList
token_list text = tokens_from no_brackets [] 0 text

-- a text, and what is left of its tokens
pub record Remaining : Type 0 where
  pub text : List ℕ
  pub left : TokenList

-- The token is the next, within the text; or none is left, and nothing changes; or the fault is what is left, and nothing changes.
abbrev pub Gives : Result (Option Token) TokenFault → Remaining → Remaining → Type 0
Gives (Ok (Some token)) old new = (old.left ≡ with_first token new.left) × (new.text ≡ old.text)
Gives (Ok None) old new = (old.left ≡ record { tokens = []; fault = None }) × (new ≡ old)
Gives (Err (fault.BadToken at)) old new = (old.left ≡ record { tokens = []; fault = Some at }) × (new ≡ old)

-- the token's text is not empty, and lies within the text
abbrev pub IsWithin : ℕ → Token → Type 0
IsWithin most token = (token.span.start < token.span.end) × (token.span.end ≤ most)

-- Each token has some byte and lies within the text, and none begins before the one before it has ended.
abbrev pub AreInOrder : ℕ → ℕ → List Token → Type 0
AreInOrder from most [] = Unit {0}
AreInOrder from most (token ∷ tokens) = (from ≤ token.span.start) × IsWithin most token × AreInOrder token.span.end most tokens
