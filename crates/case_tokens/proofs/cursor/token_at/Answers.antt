use Rattle.std.proofs.Common.{◌≡◌, ◌+◌, length, take, ap, sym, ◌∙◌, arith}
use Rattle.std.proofs.lemmas.List.{length-take}
use Rattle.case_tokens.specs.TokenLists.{line_of}
use Rattle.case_tokens.proofs.cursor.token_at.Goals as goal

pub returns : goal.returns
unfolding line_of
returns c =
    let cursor = c.args.cursor in
    let start : cursor.place ≡ length (take cursor.place cursor.text.now) = sym (length-take cursor.place cursor.text.now ∙ Prim.omega arith) in
    let line : cursor.line_ends + 1 ≡ line_of (take cursor.place cursor.text.now) = ap (λ n. n + 1) c.requires.valid.line_ends in
    Prim.cc
