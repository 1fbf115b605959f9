-- Worked texts are read, or refused, by computation.
use Rattle.std.proofs.Common.{◌≡◌, ℕ, List, [], refl, Ok, Err, codes}
use Rattle.record_reading.specs.Records.{first_ragged}
use Rattle.scaled_decimal.specs.Reading.{is_number_text, decimal_in}
use Rattle.case_tokens.specs.Pieces.{is_block_rest, comment_at, string_length, quoted_at, run_at, piece_at}
use Rattle.case_tokens.specs.TokenLists.{last_line, is_blank_line, line_of, tokens_from, token_list}
use Rattle.case_text.specs.declared.CaseFault.{CaseFault}
use Rattle.case_text.specs.declared.CaseFault.TheVariants as fault
use Rattle.case_text.specs.declared.Field.TheVariants as field
use Rattle.case_text.specs.Words.{word_of, mark_of}
use Rattle.case_text.specs.Names.{is_name_text, is_names_text, is_target, field_of, is_version_one, is_version_two}
use Rattle.case_text.specs.Nests.{step_by, behind_brackets}
use Rattle.case_text.specs.Matrices.{rows_from}
use Rattle.case_text.specs.Statements.{behind_end, plain_value, bracketed, value_by, statement_of}
use Rattle.case_text.specs.Settings.{uneven, with_setting, matrices, all_set}
use Rattle.case_text.specs.Cases.{case_of, without_mark, statements_from, function_from, named_from, case_from}
use Rattle.case_text.proofs.StatementLemmas.{no-ok}
use Rattle.case_grammar.specs.Worked.{saved, saved_matrices, mixed, mixed_matrices, marked, ending_with, IsNoCase, WorkedTexts}
use Rattle.case_grammar.proofs.Completeness.{derived-read}
use Rattle.case_grammar.proofs.Soundness.{read-derived}

saved-read : case_of saved ≡ Ok saved_matrices
unfolding case_of without_mark statements_from function_from named_from case_from word_of mark_of is_name_text is_names_text is_target field_of is_version_one is_version_two step_by behind_brackets rows_from behind_end plain_value bracketed value_by statement_of uneven with_setting matrices all_set is_block_rest comment_at string_length quoted_at run_at piece_at last_line is_blank_line line_of tokens_from token_list is_number_text decimal_in first_ragged
saved-read = refl

mixed-read : case_of mixed ≡ Ok mixed_matrices
unfolding case_of without_mark statements_from function_from named_from case_from word_of mark_of is_name_text is_names_text is_target field_of is_version_one is_version_two step_by behind_brackets rows_from behind_end plain_value bracketed value_by statement_of uneven with_setting matrices all_set is_block_rest comment_at string_length quoted_at run_at piece_at last_line is_blank_line line_of tokens_from token_list is_number_text decimal_in first_ragged
mixed-read = refl

marked-read : case_of marked ≡ Ok mixed_matrices
unfolding case_of without_mark statements_from function_from named_from case_from word_of mark_of is_name_text is_names_text is_target field_of is_version_one is_version_two step_by behind_brackets rows_from behind_end plain_value bracketed value_by statement_of uneven with_setting matrices all_set is_block_rest comment_at string_length quoted_at run_at piece_at last_line is_blank_line line_of tokens_from token_list is_number_text decimal_in first_ragged
marked-read = refl

again-read : case_of (ending_with (codes "mpc.x = 5; mpc.x = 'again' ...")) ≡ Ok (record { bus = []; generators = []; branch = [] })
unfolding case_of without_mark statements_from function_from named_from case_from word_of mark_of is_name_text is_names_text is_target field_of is_version_one is_version_two step_by behind_brackets rows_from behind_end plain_value bracketed value_by statement_of uneven with_setting matrices all_set is_block_rest comment_at string_length quoted_at run_at piece_at last_line is_blank_line line_of tokens_from token_list is_number_text decimal_in first_ragged
again-read = refl

number_continued-refused : case_of (ending_with (codes "mpc.x = 5...\n;")) ≡ Err (fault.Code 7)
unfolding case_of without_mark statements_from function_from named_from case_from word_of mark_of is_name_text is_names_text is_target field_of is_version_one is_version_two step_by behind_brackets rows_from behind_end plain_value bracketed value_by statement_of uneven with_setting matrices all_set is_block_rest comment_at string_length quoted_at run_at piece_at last_line is_blank_line line_of tokens_from token_list is_number_text decimal_in first_ragged
number_continued-refused = refl

word_continued-refused : case_of (ending_with (codes "mpc.x...\n= 5")) ≡ Err (fault.Code 7)
unfolding case_of without_mark statements_from function_from named_from case_from word_of mark_of is_name_text is_names_text is_target field_of is_version_one is_version_two step_by behind_brackets rows_from behind_end plain_value bracketed value_by statement_of uneven with_setting matrices all_set is_block_rest comment_at string_length quoted_at run_at piece_at last_line is_blank_line line_of tokens_from token_list is_number_text decimal_in first_ragged
word_continued-refused = refl

two_commas-refused : case_of (ending_with (codes "mpc.x = [1,,2]")) ≡ Err (fault.BadToken 106)
unfolding case_of without_mark statements_from function_from named_from case_from word_of mark_of is_name_text is_names_text is_target field_of is_version_one is_version_two step_by behind_brackets rows_from behind_end plain_value bracketed value_by statement_of uneven with_setting matrices all_set is_block_rest comment_at string_length quoted_at run_at piece_at last_line is_blank_line line_of tokens_from token_list is_number_text decimal_in first_ragged
two_commas-refused = refl

comma_first-refused : case_of (ending_with (codes "mpc.x = [,1]")) ≡ Err (fault.BadToken 104)
unfolding case_of without_mark statements_from function_from named_from case_from word_of mark_of is_name_text is_names_text is_target field_of is_version_one is_version_two step_by behind_brackets rows_from behind_end plain_value bracketed value_by statement_of uneven with_setting matrices all_set is_block_rest comment_at string_length quoted_at run_at piece_at last_line is_blank_line line_of tokens_from token_list is_number_text decimal_in first_ragged
comma_first-refused = refl

string_unparted-refused : case_of (ending_with (codes "mpc.x = {1'a'}")) ≡ Err (fault.BadToken 104)
unfolding case_of without_mark statements_from function_from named_from case_from word_of mark_of is_name_text is_names_text is_target field_of is_version_one is_version_two step_by behind_brackets rows_from behind_end plain_value bracketed value_by statement_of uneven with_setting matrices all_set is_block_rest comment_at string_length quoted_at run_at piece_at last_line is_blank_line line_of tokens_from token_list is_number_text decimal_in first_ragged
string_unparted-refused = refl

brackets_unparted-refused : case_of (ending_with (codes "mpc.x = {[1][2]}")) ≡ Err (fault.BadToken 107)
unfolding case_of without_mark statements_from function_from named_from case_from word_of mark_of is_name_text is_names_text is_target field_of is_version_one is_version_two step_by behind_brackets rows_from behind_end plain_value bracketed value_by statement_of uneven with_setting matrices all_set is_block_rest comment_at string_length quoted_at run_at piece_at last_line is_blank_line line_of tokens_from token_list is_number_text decimal_in first_ragged
brackets_unparted-refused = refl

matrix_inside-refused : case_of (ending_with (codes "mpc.x = [[1]]")) ≡ Err (fault.BadToken 104)
unfolding case_of without_mark statements_from function_from named_from case_from word_of mark_of is_name_text is_names_text is_target field_of is_version_one is_version_two step_by behind_brackets rows_from behind_end plain_value bracketed value_by statement_of uneven with_setting matrices all_set is_block_rest comment_at string_length quoted_at run_at piece_at last_line is_blank_line line_of tokens_from token_list is_number_text decimal_in first_ragged
matrix_inside-refused = refl

expression-refused : case_of (ending_with (codes "mpc.x = 1 + 1")) ≡ Err (fault.Code 7)
unfolding case_of without_mark statements_from function_from named_from case_from word_of mark_of is_name_text is_names_text is_target field_of is_version_one is_version_two step_by behind_brackets rows_from behind_end plain_value bracketed value_by statement_of uneven with_setting matrices all_set is_block_rest comment_at string_length quoted_at run_at piece_at last_line is_blank_line line_of tokens_from token_list is_number_text decimal_in first_ragged
expression-refused = refl

part_set-refused : case_of (ending_with (codes "mpc.bus(1, 3) = 5")) ≡ Err (fault.Code 7)
unfolding case_of without_mark statements_from function_from named_from case_from word_of mark_of is_name_text is_names_text is_target field_of is_version_one is_version_two step_by behind_brackets rows_from behind_end plain_value bracketed value_by statement_of uneven with_setting matrices all_set is_block_rest comment_at string_length quoted_at run_at piece_at last_line is_blank_line line_of tokens_from token_list is_number_text decimal_in first_ragged
part_set-refused = refl

too_deep-refused : case_of (ending_with (codes "mpc.x = {{{{{{{{{}}}}}}}}}")) ≡ Err (fault.BadToken 111)
unfolding case_of without_mark statements_from function_from named_from case_from word_of mark_of is_name_text is_names_text is_target field_of is_version_one is_version_two step_by behind_brackets rows_from behind_end plain_value bracketed value_by statement_of uneven with_setting matrices all_set is_block_rest comment_at string_length quoted_at run_at piece_at last_line is_blank_line line_of tokens_from token_list is_number_text decimal_in first_ragged
too_deep-refused = refl

string_open-refused : case_of (ending_with (codes "mpc.x = 'a\n'")) ≡ Err (fault.Code 7)
unfolding case_of without_mark statements_from function_from named_from case_from word_of mark_of is_name_text is_names_text is_target field_of is_version_one is_version_two step_by behind_brackets rows_from behind_end plain_value bracketed value_by statement_of uneven with_setting matrices all_set is_block_rest comment_at string_length quoted_at run_at piece_at last_line is_blank_line line_of tokens_from token_list is_number_text decimal_in first_ragged
string_open-refused = refl

block_comment-refused : case_of (ending_with (codes "  %{ \n")) ≡ Err (fault.Code 7)
unfolding case_of without_mark statements_from function_from named_from case_from word_of mark_of is_name_text is_names_text is_target field_of is_version_one is_version_two step_by behind_brackets rows_from behind_end plain_value bracketed value_by statement_of uneven with_setting matrices all_set is_block_rest comment_at string_length quoted_at run_at piece_at last_line is_blank_line line_of tokens_from token_list is_number_text decimal_in first_ragged
block_comment-refused = refl

set_twice-refused : case_of (ending_with (codes "mpc.bus = []")) ≡ Err (fault.Twice field.Bus)
unfolding case_of without_mark statements_from function_from named_from case_from word_of mark_of is_name_text is_names_text is_target field_of is_version_one is_version_two step_by behind_brackets rows_from behind_end plain_value bracketed value_by statement_of uneven with_setting matrices all_set is_block_rest comment_at string_length quoted_at run_at piece_at last_line is_blank_line line_of tokens_from token_list is_number_text decimal_in first_ragged
set_twice-refused = refl

no_end-refused : case_of (ending_with (codes "mpc.x = 5 mpc.y = 6")) ≡ Err (fault.Code 7)
unfolding case_of without_mark statements_from function_from named_from case_from word_of mark_of is_name_text is_names_text is_target field_of is_version_one is_version_two step_by behind_brackets rows_from behind_end plain_value bracketed value_by statement_of uneven with_setting matrices all_set is_block_rest comment_at string_length quoted_at run_at piece_at last_line is_blank_line line_of tokens_from token_list is_number_text decimal_in first_ragged
no_end-refused = refl

field_missing-refused : case_of (codes "function mpc = t\nmpc.version = '2'\nmpc.baseMVA = 100\nmpc.bus = []\nmpc.gen = []") ≡ Err (fault.Missing field.Branch)
unfolding case_of without_mark statements_from function_from named_from case_from word_of mark_of is_name_text is_names_text is_target field_of is_version_one is_version_two step_by behind_brackets rows_from behind_end plain_value bracketed value_by statement_of uneven with_setting matrices all_set is_block_rest comment_at string_length quoted_at run_at piece_at last_line is_blank_line line_of tokens_from token_list is_number_text decimal_in first_ragged
field_missing-refused = refl

refused : (text : List ℕ) (why : CaseFault) → case_of text ≡ Err why → IsNoCase text
refused text why e matrices h = no-ok why matrices (case_of text) e (derived-read text matrices h)

pub worked : WorkedTexts
worked = record {
  saved_case = read-derived saved saved_matrices saved-read;
  mixed_case = read-derived mixed mixed_matrices mixed-read;
  marked_case = read-derived marked mixed_matrices marked-read;
  any_field = read-derived _ _ again-read;
  number_continued = refused _ _ number_continued-refused;
  word_continued = refused _ _ word_continued-refused;
  two_commas = refused _ _ two_commas-refused;
  comma_first = refused _ _ comma_first-refused;
  string_unparted = refused _ _ string_unparted-refused;
  brackets_unparted = refused _ _ brackets_unparted-refused;
  matrix_inside = refused _ _ matrix_inside-refused;
  expression = refused _ _ expression-refused;
  part_set = refused _ _ part_set-refused;
  too_deep = refused _ _ too_deep-refused;
  string_open = refused _ _ string_open-refused;
  block_comment = refused _ _ block_comment-refused;
  set_twice = refused _ _ set_twice-refused;
  field_missing = refused _ _ field_missing-refused;
  no_end = refused _ _ no_end-refused;
}
