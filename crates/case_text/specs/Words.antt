-- What a token says, and its bytes.
use Rattle.std.specs.Prelude.{ℕ, Bool, true, false, List, ◌==◌, if◌then◌else◌, slice_index, slice_range}
use Rattle.case_tokens.specs.declared.Kind.{Kind}
use Rattle.case_tokens.specs.declared.Kind.TheVariants as kind
use Rattle.case_tokens.specs.declared.Token.{Token}
use Rattle.case_text.specs.declared.words.Bracket.{Bracket}
use Rattle.case_text.specs.declared.words.Bracket.TheVariants as bracket
use Rattle.case_text.specs.declared.words.Word.{Word}
use Rattle.case_text.specs.declared.words.Word.TheVariants as word

abbrev pub text_of : List ℕ → Token → List ℕ
text_of text token = slice_range text token.span.start token.span.end

-- what a mark says: `,` `;` `=` `[` `{` `]` `}`
unfoldable pub mark_of : ℕ → Word
mark_of byte =
    if byte == 44 then word.Comma
    else (if byte == 59 then word.Semicolon
    else (if byte == 61 then word.Equals
    else (if byte == 91 then word.Opening bracket.Square
    else (if byte == 123 then word.Opening bracket.Curly
    else (if byte == 93 then word.Closing bracket.Square
    else word.Closing bracket.Curly)))))

abbrev pub word_by : Kind → ℕ → Word
word_by kind.LineEnd byte = word.LineEnd
word_by kind.Block byte = word.Block
word_by kind.Mark byte = mark_of byte
word_by kind.Text byte = word.Quoted
word_by kind.Open byte = word.Unclosed
word_by kind.Run byte = word.Run

-- what a token says, by its kind, and by its byte where it is a mark
unfoldable pub word_of : List ℕ → Token → Word
word_of text token = word_by token.kind (slice_index text token.span.start)

-- what parts statements: `;`, `,` and line ends
abbrev pub is_separator : Word → Bool
is_separator word.Semicolon = true
is_separator word.Comma = true
is_separator word.LineEnd = true
is_separator _ = false

abbrev pub is_equals : Word → Bool
is_equals word.Equals = true
is_equals _ = false

abbrev pub is_run : Word → Bool
is_run word.Run = true
is_run _ = false

-- the word is `[`
abbrev pub opens_square : Word → Bool
opens_square (word.Opening bracket.Square) = true
opens_square _ = false

abbrev pub is_curly : Bracket → Bool
is_curly bracket.Curly = true
is_curly bracket.Square = false

abbrev pub same_bracket : Bracket → Bracket → Bool
same_bracket bracket.Square bracket.Square = true
same_bracket bracket.Curly bracket.Curly = true
same_bracket bracket.Square bracket.Curly = false
same_bracket bracket.Curly bracket.Square = false
