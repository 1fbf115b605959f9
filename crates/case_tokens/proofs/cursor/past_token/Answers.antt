use Rattle.std.proofs.Common.{◌+◌, ap, ◌∙◌, sym, take, Bool, ℕ}
use Rattle.std.specs.Prelude.{if◌then◌else◌}
use Rattle.case_tokens.specs.declared.pieces.Piece.TheVariants as piece
use Rattle.case_tokens.specs.TokenLists.{with_first, token_of}
use Rattle.case_tokens.specs.Cursors.{brackets_of}
use Rattle.case_tokens.proofs.TokenLemmas.{left-piece, same_left}
use Rattle.case_tokens.proofs.cursor.past_token.Goals as goal

pub returns-clause-left : goal.returns-clause-left
returns-clause-left c = λ kind e.
    let cursor = c.args.cursor in
    let one : Bool → ℕ = λ test. if test then 1 else 0 in
    left-piece (brackets_of cursor) cursor.text.now (piece.Token kind c.args.count) cursor.place cursor.blank c.requires.some c.requires.within c.requires.valid.blank e
    ∙ ap (with_first (token_of kind c.args.count (take cursor.place cursor.text.now))) (same_left _ _ _ _ _ _ _ _
    (ap (λ n. cursor.opened + n) (sym (c.one_if.ensures ∙ ap one c.is_opening.ensures)))
    (ap (λ n. cursor.closed + n) (sym (c.one_if-2.ensures ∙ ap one c.is_closing.ensures)))
    (sym c.passed-behind.ensures.moves.text) (sym c.passed-behind.ensures.moves.place))
