use Rattle.std.proofs.Common.{Err, ◌≡◌, ◌∙◌, ap, length, sym, subst, subst₂}
use Rattle.std.proofs.lemmas.List.{length-map}
use Rattle.std.proofs.lemmas.Result.{err_from_is_err_and}
use Rattle.linear_dict.specs.Notes.{noted}
use Rattle.optimal_face.specs.Faces.{price_of_one}
use Rattle.simplex_core.specs.Fixed.{IsFixedPairPosed}
use Rattle.simplex_core.specs.Posings.{IsPosing}
use Rattle.simplex_theory.specs.States.{HasNoPoint}
use Rattle.std.specs.Prelude.{map}
use Rattle.first_best.specs.declared.stop.FirstStop.TheVariants.{Passed as StoppedBy}
use Rattle.first_best.proofs.MovedLemmas.{AreHighs, AreLows, besides_as, bounds_count, bounds_order, brought, has_point, next_face, next_same, pair_is}
use Rattle.first_best.proofs.moving.moved_first.Goals as goal

pub pose-requires-clause-prices : goal.pose-requires-clause-prices
pose-requires-clause-prices g c =
    let value = g.N.Exact.value in
    let d = c.args.face.dict in
    let prices = c.in_ok-prices.prices.items in
    ap length c.deref-2.ensures.value ∙ sym (length-map prices value) ∙ ap length c.in_ok-prices.ensures ∙ length-map d.columns (price_of_one c.args.name)

pub pose-requires-clause-bounds : goal.pose-requires-clause-bounds
pose-requires-clause-bounds g c =
    let d = c.args.face.dict in
    let f = c.requires.face in
    ap length c.deref-3.ensures.value
    ∙ bounds_count g.N.Exact.value d f.0 c.args.face.held.items c.args.name f.1 c.in_ok-bounds.bounds.items (subst (AreLows g.N.Exact.value d c.in_ok-bounds.bounds.items) c.deref.ensures.value c.in_ok-bounds.ensures.lows)
    (subst (AreHighs g.N.Exact.value d c.in_ok-bounds.bounds.items) c.deref.ensures.value c.in_ok-bounds.ensures.highs)

pub pose-requires-clause-ordered : goal.pose-requires-clause-ordered
pose-requires-clause-ordered g c =
    let d = c.args.face.dict in
    let f = c.requires.face in
    rw c.deref-3.ensures.value
    (bounds_order g.N.Exact.value d f.0 c.args.face.held.items c.args.name f.1 c.in_ok-bounds.bounds.items (subst (AreLows g.N.Exact.value d c.in_ok-bounds.bounds.items) c.deref.ensures.value c.in_ok-bounds.ensures.lows)
    (subst (AreHighs g.N.Exact.value d c.in_ok-bounds.bounds.items) c.deref.ensures.value c.in_ok-bounds.ensures.highs))

pub returns-in_err-pose-clause-pair : goal.returns-in_err-pose-clause-pair
returns-in_err-pose-clause-pair g c =
    let value = g.N.Exact.value in
    let d = c.args.face.dict in
    let f = c.requires.face in
    let x = c.in_err-pose.field-0.0 in
    let fixed = subst₂ (λ ps bs. IsFixedPairPosed value g.N.Exact.bound d ps bs x) c.deref-2.ensures.value c.deref-3.ensures.value c.in_err-pose.ensures.fixed in
    let p = err_from_is_err_and c.from_residual-in_err-pose.result c.from_residual-in_err-pose.ensures.1 in
    let given : c.from_residual-in_err-pose.result ≡ Err (StoppedBy x) = p.1 ∙ ap Err p.2 in
    rw given (pair_is value d f.0 c.args.face.held.items c.args.name f.1 c.in_ok-bounds.bounds.items
    (subst (AreLows value d c.in_ok-bounds.bounds.items) c.deref.ensures.value c.in_ok-bounds.ensures.lows)
    (subst (AreHighs value d c.in_ok-bounds.bounds.items) c.deref.ensures.value c.in_ok-bounds.ensures.highs)
    c.in_ok-prices.prices.items c.in_ok-prices.ensures c.requires.column fixed.0 fixed.1 g.N.Exact.bound _ _ _ fixed.2)

pub returns-in-Solved-clause-same : goal.returns-in-Solved-clause-same
returns-in-Solved-clause-same g c =
    let value = g.N.Exact.value in
    let d = c.args.face.dict in
    let f = c.requires.face in
    next_same value d f.0 c.args.face.held.items c.args.name f.1 c.in_ok-bounds.bounds.items
    (subst (AreLows value d c.in_ok-bounds.bounds.items) c.deref.ensures.value c.in_ok-bounds.ensures.lows)
    (subst (AreHighs value d c.in_ok-bounds.bounds.items) c.deref.ensures.value c.in_ok-bounds.ensures.highs)
    c.in_ok-prices.prices.items c.in_ok-prices.ensures c.requires.column c.in_ok-pose.field-0
    (subst₂ (λ ps bs. IsPosing value d ps bs c.in_ok-pose.field-0) c.deref-2.ensures.value c.deref-3.ensures.value c.in_ok-pose.ensures.posed)
    c.in-Solved.solved c.bring_back.new.dict c.in_ok-held-in-Solved.held.items c.in-Solved.ensures.outcome.0 c.in-Solved.ensures.outcome.1 c.in-Solved.ensures.outcome.2 c.in-Solved.ensures.fixed
    (besides_as c.into_dict-dict.result c.in-Solved.solved c.in_ok-held-in-Solved.held.items _ c.args.face.held.items c.in_ok-held-in-Solved.ensures c.deref-in-Solved.ensures.value c.into_dict-dict.ensures)
    (brought c.into_dict-dict.result c.in-Solved.solved d c.bring_back.new.dict _ _ c.in_ok-held-in-Solved.held.items c.bring_back.ensures
    (ap (map (noted value)) c.deref-in-Solved-2.ensures.value ∙ c.in_ok-notes.ensures) c.deref-in-Solved-3.ensures.value c.into_dict-dict.ensures)

pub returns-in-Solved-clause-face : goal.returns-in-Solved-clause-face
returns-in-Solved-clause-face g c = λ names face.
    let value = g.N.Exact.value in
    let d = c.args.face.dict in
    next_face value d names c.args.face.held.items c.args.name face c.in_ok-bounds.bounds.items
    (subst (AreLows value d c.in_ok-bounds.bounds.items) c.deref.ensures.value c.in_ok-bounds.ensures.lows)
    (subst (AreHighs value d c.in_ok-bounds.bounds.items) c.deref.ensures.value c.in_ok-bounds.ensures.highs)
    c.in_ok-prices.prices.items c.in_ok-prices.ensures c.requires.column c.in_ok-pose.field-0
    (subst₂ (λ ps bs. IsPosing value d ps bs c.in_ok-pose.field-0) c.deref-2.ensures.value c.deref-3.ensures.value c.in_ok-pose.ensures.posed)
    c.in-Solved.solved c.bring_back.new.dict c.in_ok-held-in-Solved.held.items c.in-Solved.ensures.outcome.0 c.in-Solved.ensures.outcome.1 c.in-Solved.ensures.outcome.2 c.in-Solved.ensures.fixed
    (besides_as c.into_dict-dict.result c.in-Solved.solved c.in_ok-held-in-Solved.held.items _ c.args.face.held.items c.in_ok-held-in-Solved.ensures c.deref-in-Solved.ensures.value c.into_dict-dict.ensures)
    (brought c.into_dict-dict.result c.in-Solved.solved d c.bring_back.new.dict _ _ c.in_ok-held-in-Solved.held.items c.bring_back.ensures
    (ap (map (noted value)) c.deref-in-Solved-2.ensures.value ∙ c.in_ok-notes.ensures) c.deref-in-Solved-3.ensures.value c.into_dict-dict.ensures)

pub unreachable-requires : goal.unreachable-requires
unreachable-requires g c =
    let value = g.N.Exact.value in
    let d = c.args.face.dict in
    let f = c.requires.face in
    let end = c.in-Empty.ensures.outcome in
    has_point value d f.0 c.args.face.held.items c.args.name f.1 c.in_ok-bounds.bounds.items
    (subst (AreLows value d c.in_ok-bounds.bounds.items) c.deref.ensures.value c.in_ok-bounds.ensures.lows)
    (subst (AreHighs value d c.in_ok-bounds.bounds.items) c.deref.ensures.value c.in_ok-bounds.ensures.highs)
    c.in_ok-prices.prices.items c.in_ok-prices.ensures c.requires.column c.in_ok-pose.field-0
    (subst₂ (λ ps bs. IsPosing value d ps bs c.in_ok-pose.field-0) c.deref-2.ensures.value c.deref-3.ensures.value c.in_ok-pose.ensures.posed)
    (subst HasNoPoint end.0.system end.2.none)

pub returns-clause-pair : goal.returns-clause-pair
returns-clause-pair g c =
    let value = g.N.Exact.value in
    let d = c.args.face.dict in
    let f = c.requires.face in
    pair_is value d f.0 c.args.face.held.items c.args.name f.1 c.in_ok-bounds.bounds.items
    (subst (AreLows value d c.in_ok-bounds.bounds.items) c.deref.ensures.value c.in_ok-bounds.ensures.lows)
    (subst (AreHighs value d c.in_ok-bounds.bounds.items) c.deref.ensures.value c.in_ok-bounds.ensures.highs)
    c.in_ok-prices.prices.items c.in_ok-prices.ensures c.requires.column c.in_ok-pose.field-0
    (subst₂ (λ ps bs. IsPosing value d ps bs c.in_ok-pose.field-0) c.deref-2.ensures.value c.deref-3.ensures.value c.in_ok-pose.ensures.posed)
    g.N.Exact.bound _ _ _ c.in-Passed.ensures.fixed
