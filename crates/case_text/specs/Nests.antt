-- What may stand inside brackets, token by token.
use Rattle.std.specs.Prelude.{ℕ, ◌-◌, ◌==◌, ◌&&◌, not, nat_lt, Bool, true, false, List, [], ◌∷◌, ◌++◌, length, take, slice_index_or, Option, unwrap_or, Result, Ok, Err, if◌then◌else◌}
use Rattle.record_reading.specs.Steps.{and_then}
use Rattle.case_tokens.specs.declared.Token.{Token}
use Rattle.case_text.specs.declared.CaseFault.{CaseFault}
use Rattle.case_text.specs.declared.CaseFault.TheVariants as fault
use Rattle.case_text.specs.declared.nests.Before.{Before}
use Rattle.case_text.specs.declared.nests.Before.TheVariants as before
use Rattle.case_text.specs.declared.words.Bracket.{Bracket}
use Rattle.case_text.specs.declared.words.Bracket.TheVariants as bracket
use Rattle.case_text.specs.declared.words.Word.{Word}
use Rattle.case_text.specs.declared.words.Word.TheVariants as word
use Rattle.case_text.specs.Words.{word_of, is_curly, same_bracket}

-- The brackets that are open, the innermost last, and what stands before in the row of the innermost.
pub record Nest : Type 0 where
  pub brackets : List Bracket
  pub before : Before

-- inside the bracket that opens a value
abbrev pub first_nest : Bracket → Nest
first_nest opening = record { brackets = opening ∷ []; before = before.Nothing }

abbrev pub innermost : List Bracket → Bracket
innermost brackets = slice_index_or brackets (length brackets - 1) bracket.Square

-- an element may begin here: something parts it from an element before it
abbrev pub is_parted : Before → ℕ → Bool
is_parted before.Nothing start = true
is_parted before.Comma start = true
is_parted (before.Element end) start = nat_lt end start

abbrev pub is_element : Before → Bool
is_element before.Nothing = false
is_element before.Comma = false
is_element (before.Element end) = true

-- what may stand, or the token can't
abbrev pub where_allowed : Bool → ℕ → Nest → Result Nest CaseFault
where_allowed allowed start nest = if allowed then Ok nest else Err (fault.BadToken start)

-- Behind an element the row goes on. Elements are numbers, and strings where not numbers alone may stand; in a cell list also a matrix
-- or a cell list, where not eight are open. One comma may follow an element. A bracket is closed by its own.
unfoldable pub step_by : Word → Bool → Token → Nest → Result Nest CaseFault
step_by word.LineEnd numbers token nest = Ok (record { brackets = nest.brackets; before = before.Nothing })
step_by word.Semicolon numbers token nest = Ok (record { brackets = nest.brackets; before = before.Nothing })
step_by word.Block numbers token nest = Err (fault.Code token.line)
step_by word.Equals numbers token nest = Err (fault.BadToken token.span.start)
step_by word.Unclosed numbers token nest = Err (fault.BadToken token.span.start)
step_by word.Comma numbers token nest =
    where_allowed (is_element nest.before) token.span.start (record { brackets = nest.brackets; before = before.Comma })
step_by word.Run numbers token nest =
    where_allowed (is_parted nest.before token.span.start) token.span.start (record { brackets = nest.brackets; before = before.Element token.span.end })
step_by word.Quoted numbers token nest =
    where_allowed (not numbers && is_parted nest.before token.span.start) token.span.start (record { brackets = nest.brackets; before = before.Element token.span.end })
step_by (word.Opening opening) numbers token nest =
    where_allowed (is_curly (innermost nest.brackets) && nat_lt (length nest.brackets) 8 && is_parted nest.before token.span.start) token.span.start
    (record { brackets = nest.brackets ++ opening ∷ []; before = before.Nothing })
step_by (word.Closing closing) numbers token nest =
    where_allowed (same_bracket closing (innermost nest.brackets)) token.span.start
    (record { brackets = take (length nest.brackets - 1) nest.brackets; before = before.Element token.span.end })

abbrev pub step : List ℕ → Bool → Token → Nest → Result Nest CaseFault
step text numbers token nest = step_by (word_of text token) numbers token nest

-- The tokens behind the bracket that closes the value, or the first token that can't stand inside. Where the tokens end there, that is a
-- fault at the place of theirs, or at the end of the text.
unfoldable pub behind_brackets : List ℕ → Option ℕ → Bool → Nest → List Token → Result (List Token) CaseFault
behind_brackets text stop numbers nest [] = Err (fault.BadToken (unwrap_or stop (length text)))
behind_brackets text stop numbers nest (token ∷ tokens) =
    and_then (step text numbers token nest) (λ next. if length next.brackets == 0 then Ok tokens else behind_brackets text stop numbers next tokens)
