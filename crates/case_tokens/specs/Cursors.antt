-- A place of a text, and what is known of the bytes before it.
use Rattle.std.specs.Prelude.{◌≡◌, ℕ, ◌≤◌, ◌+◌, List, length, take, drop, count_by}
use Rattle.case_tokens.specs.declared.cursor.Cursor.{Cursor}
use Rattle.case_tokens.specs.Bytes.{is_line_end}
use Rattle.case_tokens.specs.TokenLists.{Brackets, TokenList, is_blank_line, tokens_from}

abbrev pub brackets_of : Cursor → Brackets
brackets_of cursor = record { opened = cursor.opened; closed = cursor.closed }

pub record IsCursor (cursor : Cursor) : Type 0 where
  pub within : cursor.place ≤ length cursor.text.now
  pub line_ends : cursor.line_ends ≡ count_by is_line_end (take cursor.place cursor.text.now)
  pub blank : cursor.blank ≡ is_blank_line (take cursor.place cursor.text.now)
  pub opened : cursor.opened ≤ cursor.place
  pub closed : cursor.closed ≤ cursor.place

-- the tokens that are left of a text from a place on
unfoldable pub left_from : Brackets → List ℕ → ℕ → TokenList
left_from brackets text place = tokens_from brackets (take place text) 0 (drop place text)

abbrev pub left_at : Cursor → TokenList
left_at cursor = left_from (brackets_of cursor) cursor.text.now cursor.place

-- the cursor has passed this many bytes, and counted no bracket
pub record Passes (old : Cursor) (count : ℕ) (new : Cursor) : Type 0 where
  pub text : new.text.now ≡ old.text.now
  pub place : new.place ≡ old.place + count
  pub opened : new.opened ≡ old.opened
  pub closed : new.closed ≡ old.closed
