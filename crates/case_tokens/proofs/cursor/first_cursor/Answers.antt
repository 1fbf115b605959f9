use Rattle.std.proofs.Common.{refl, arith}
use Rattle.case_tokens.specs.TokenLists.{token_list, is_blank_line, last_line}
use Rattle.case_tokens.specs.Cursors.{left_from}
use Rattle.case_tokens.proofs.cursor.first_cursor.Goals as goal

pub returns-clause-valid : goal.returns-clause-valid
unfolding is_blank_line last_line
returns-clause-valid c = record { within = Prim.omega arith; line_ends = refl; blank = refl; opened = Prim.omega arith; closed = Prim.omega arith }

pub returns-clause-left : goal.returns-clause-left
unfolding token_list left_from
returns-clause-left c = refl
