use Rattle.std.proofs.Common.{◌≡◌, ◌++◌, take, ◌≤◌, ◌+◌}
use Rattle.std.specs.Prelude.{count_by}
use Rattle.case_tokens.specs.Bytes.{is_line_end}
use Rattle.case_tokens.specs.TokenLists.{is_blank_line}
use Rattle.case_tokens.proofs.cursor.passed.Given as goal

abbrev pub invariant-loop-byte : goal.invariant-loop-byte
invariant-loop-byte l =
    let seen = take l.cursor.place l.cursor.text.now ++ take l.byte-index l.byte-items in
    record {
      few : l.line_ends ≤ l.cursor.place + l.byte-index;
      line_ends : l.line_ends ≡ count_by is_line_end seen;
      blank : l.blank ≡ is_blank_line seen;
    }
