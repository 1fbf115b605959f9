use Rattle.std.proofs.Common.{◌-◌, length, drop, arith}
use Rattle.std.proofs.lemmas.List.{length-take, length-drop}
use Rattle.case_tokens.proofs.PieceLemmas.{fits-at}
use Rattle.case_tokens.proofs.cursor.piece_of.Goals as goal

pub returns-clause-fits : goal.returns-clause-fits
returns-clause-fits c =
    let text = c.args.cursor.text.now in
    let place = c.args.cursor.place in
    fits-at _ _ _ _ _ c.piece_at.ensures (Prim.omega (arith, length-take (length text - place) (drop place text), length-drop place text))
