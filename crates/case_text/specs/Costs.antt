-- The rows of `gencost`, which a text may set beside what a case has to set.
-- Source: MATPOWER User's Manual, the generator cost data of a case; own names.
use Rattle.std.specs.Prelude.{ℕ, zero, suc, ◌-◌, List, [], ◌∷◌, length, codes, Option, Some, None, Result, Ok, Err, if◌then◌else◌}
use Rattle.std.specs.Option.{option_map_or}
use Rattle.std.specs.Str.{bytes_eq}
use Rattle.case_tokens.specs.declared.Token.{Token}
use Rattle.case_tokens.specs.TokenLists.{token_list}
use Rattle.record_reading.specs.Records.{first_ragged}
use Rattle.record_reading.specs.Steps.{and_then, or_as}
use Rattle.case_text.specs.declared.CaseFault.TheVariants as case_fault
use Rattle.case_text.specs.declared.Field.{Field}
use Rattle.case_text.specs.declared.Field.TheVariants as field
use Rattle.case_text.specs.declared.costs.CostsFault.{CostsFault}
use Rattle.case_text.specs.declared.costs.CostsFault.TheVariants as fault
use Rattle.case_text.specs.Words.{word_of, text_of, is_separator}
use Rattle.case_text.specs.Matrices.{Rows, width_of}
use Rattle.case_text.specs.Statements.{Setting, statement_of}
use Rattle.case_text.specs.Cases.{without_mark, past_separators}

-- `gencost` is read as the matrix of generators is, and what sets another field is passed over
abbrev pub costs_field : List ℕ → Option Field
costs_field name = if bytes_eq name (codes "mpc.gencost") then Some field.Gen else None

-- the rows that are set with a further statement, which sets them no second time, and as long as the first each
abbrev pub with_rows : Option Rows → Rows → Result (Option Rows) CostsFault
with_rows (Some costs) rows = Err fault.Twice
with_rows None rows = option_map_or (λ row. Err (fault.Ragged row)) (first_ragged (width_of rows) 1 rows) (Ok (Some rows))

abbrev pub with_costs : Option Rows → Setting → Result (Option Rows) CostsFault
with_costs costs setting = option_map_or (λ _. with_rows costs setting.rows) setting.field (Ok costs)

-- the tokens end, by the end of the text or by their fault
abbrev pub costs_at_end : Option ℕ → Option Rows → Result (Option Rows) CostsFault
costs_at_end None costs = Ok costs
costs_at_end (Some at) costs = Err (fault.Text (case_fault.BadToken at))

-- The rows that the statements set. The next statement begins when so many more tokens have been passed, as in a case.
unfoldable pub costs_from : List ℕ → Option ℕ → Option Rows → ℕ → List Token → Result (Option Rows) CostsFault
costs_from text stop costs n [] = costs_at_end stop costs
costs_from text stop costs (suc n) (token ∷ tokens) = costs_from text stop costs n tokens
costs_from text stop costs zero (token ∷ tokens) =
    if is_separator (word_of text token) then costs_from text stop costs 0 tokens
    else and_then (or_as fault.Text (statement_of (costs_field (text_of text token)) text stop token tokens)) (λ read.
    and_then (with_costs costs read.0) (λ next.
    costs_from text stop next (length tokens - length read.1) tokens))

-- The rows of a text's `gencost`, where it is set, or what is wrong with it. The first statement, of four tokens, sets nothing.
unfoldable pub costs_of : List ℕ → Result (Option Rows) CostsFault
costs_of bytes =
    let text = without_mark bytes in
    let list = token_list text in
    costs_from text list.fault None 4 (past_separators text list.tokens)
