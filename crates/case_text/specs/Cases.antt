-- What the text of a case means: its matrices, or its first fault.
use Rattle.std.specs.Prelude.{ℕ, zero, suc, ◌-◌, ◌&&◌, nat_lt, Bool, List, [], ◌∷◌, length, take, drop, codes, Option, Some, None, Result, Err, if◌then◌else◌}
use Rattle.std.specs.Str.{bytes_eq}
use Rattle.case_tokens.specs.declared.Token.{Token}
use Rattle.case_tokens.specs.TokenLists.{token_list}
use Rattle.case_text.specs.declared.CaseFault.{CaseFault}
use Rattle.case_text.specs.declared.CaseFault.TheVariants as fault
use Rattle.case_text.specs.Words.{word_of, text_of, is_separator, is_equals, is_run, opens_square}
use Rattle.case_text.specs.Names.{is_name_text}
use Rattle.record_reading.specs.Steps.{and_then}
use Rattle.case_text.specs.Matrices.{CaseMatrices}
use Rattle.case_text.specs.Statements.{statement_at}
use Rattle.case_text.specs.Settings.{Settings, no_settings, with_setting, all_set}

-- the tokens end, by the end of the text or by their fault
abbrev pub at_end : Option ℕ → Result CaseMatrices CaseFault → Result CaseMatrices CaseFault
at_end None case = case
at_end (Some at) case = Err (fault.BadToken at)

-- The statements behind the first. The next begins when so many more tokens have been passed, and each begins where the one before it
-- ends; what parts statements is passed over.
unfoldable pub case_from : List ℕ → Option ℕ → Settings → ℕ → List Token → Result CaseMatrices CaseFault
case_from text stop settings n [] = at_end stop (all_set settings)
case_from text stop settings (suc n) (token ∷ tokens) = case_from text stop settings n tokens
case_from text stop settings zero (token ∷ tokens) =
    if is_separator (word_of text token) then case_from text stop settings 0 tokens
    else and_then (statement_at text stop token tokens) (λ read.
    and_then (with_setting settings read.0.field read.0.rows) (λ next.
    case_from text stop next (length tokens - length read.1) tokens))

abbrev pub is_run_of : List ℕ → List ℕ → Token → Bool
is_run_of bytes text token = is_run (word_of text token) && bytes_eq (text_of text token) bytes

-- `=` and the name of the function, and then the other statements
unfoldable pub named_from : List ℕ → Option ℕ → ℕ → List Token → Result CaseMatrices CaseFault
named_from text stop line [] = Err (fault.Code line)
named_from text stop line (equals ∷ []) = Err (fault.Code line)
named_from text stop line (equals ∷ name ∷ tokens) =
    if is_equals (word_of text equals) && is_run (word_of text name) && is_name_text (text_of text name)
    then case_from text stop no_settings 0 tokens
    else Err (fault.Code line)

-- The first statement from its head on: `function`, and `mpc`. Old versions have `[` there.
unfoldable pub function_from : List ℕ → Option ℕ → Token → List Token → Result CaseMatrices CaseFault
function_from text stop head [] = Err (fault.Code head.line)
function_from text stop head (next ∷ tokens) =
    if is_run_of (codes "function") text head
    then (if opens_square (word_of text next) && nat_lt head.span.end next.span.start then Err fault.VersionOne
    else (if is_run_of (codes "mpc") text next then named_from text stop head.line tokens else Err (fault.Code head.line)))
    else Err (fault.Code head.line)

-- the tokens from the first on that does not part statements
unfoldable pub past_separators : List ℕ → List Token → List Token
past_separators text [] = []
past_separators text (token ∷ tokens) = if is_separator (word_of text token) then past_separators text tokens else token ∷ tokens

-- all statements
unfoldable pub statements_from : List ℕ → Option ℕ → List Token → Result CaseMatrices CaseFault
statements_from text stop [] = at_end stop (Err fault.NoVersion)
statements_from text stop (token ∷ tokens) =
    if is_separator (word_of text token) then statements_from text stop tokens else function_from text stop token tokens

-- a text without the byte order mark that it may begin with
unfoldable pub without_mark : List ℕ → List ℕ
without_mark bytes = if bytes_eq (take 3 bytes) (239 ∷ 187 ∷ 191 ∷ []) then drop 3 bytes else bytes

-- a text's case, or its first fault
unfoldable pub case_of : List ℕ → Result CaseMatrices CaseFault
case_of bytes =
    let text = without_mark bytes in
    let list = token_list text in
    statements_from text list.fault list.tokens
