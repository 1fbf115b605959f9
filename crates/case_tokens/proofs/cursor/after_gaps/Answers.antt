use Rattle.std.proofs.Common.{◌+◌, ◌∙◌, sym, arith}
use Rattle.case_tokens.specs.declared.pieces.Piece.TheVariants as piece
use Rattle.case_tokens.specs.Cursors.{brackets_of}
use Rattle.case_tokens.proofs.TokenLemmas.{left-piece, same_left}
use Rattle.case_tokens.proofs.cursor.after_gaps.Goals as goal

pub loop-count-preserved : goal.loop-count-preserved
loop-count-preserved c =
    let at = c.loop-count.at in
    let moves = c.passed-at.ensures.moves in
    record {
      valid = c.passed-at.ensures.valid;
      text = moves.text ∙ c.loop-count.invariant.text;
      left =
          same_left _ _ at.opened at.closed _ at.text.now _ (at.place + c.in-Gap.count) moves.opened moves.closed moves.text moves.place
          ∙ sym (left-piece (brackets_of at) at.text.now (piece.Gap c.in-Gap.count) at.place at.blank c.in-Gap.ensures.fits.0 (Prim.omega (arith, c.in-Gap.ensures.fits.1))
          c.loop-count.invariant.valid.blank (sym c.in-Gap.ensures.value))
          ∙ c.loop-count.invariant.left;
    }
