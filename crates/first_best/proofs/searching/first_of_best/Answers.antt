use Rattle.std.proofs.Common.{Err, rules, ◌≡◌, ◌<◌, ◌∙◌, arith, ap, false, length, sym, subst}
use Rattle.std.specs.List.{Contains}
use Rattle.std.proofs.lemmas.List.{take_all, take_more}
use Rattle.std.proofs.lemmas.Result.{err_from_is_err_and}
use Rattle.linear_dict.specs.Dictionaries.{Dictionary, IsDictionary, system_in}
use Rattle.linear_dict.proofs.SplitLemmas.{Contains-at}
use Rattle.optimal_face.specs.Faces.{Held, more_held}
use Rattle.simplex_core.specs.Outcomes.{ShowsChoice}
use Rattle.simplex_core.specs.States.{state_of}
use Rattle.simplex_theory.specs.States.{IsSolved}
use Rattle.first_best.specs.Holding.{held_by}
use Rattle.first_best.specs.Outcomes.{HasSystem, IsFace}
use Rattle.first_best.proofs.HoldLemmas.{held-nothing}
use Rattle.first_best.proofs.StartLemmas.{first_face, goes_first, pair_on, same_itself, same_through}
use Rattle.first_best.proofs.searching.first_of_best.Goals as goal

pub loop-place-init : goal.loop-place-init
loop-place-init g c =
    let d : Dictionary = c.args.dict in
    let sound : IsDictionary d = Prim.search rules in (
      same_itself d sound c.requires.live,
      first_face d sound c.requires.live c.requires.shows c.requires.solved (held_by d.names c.in_ok-held.held.items)
          (c.in_ok-held.ensures ∙ ap (λ (h : Held). more_held h (state_of d)) (held-nothing d.names)),
    )

pub further-requires-clause-column : goal.further-requires-clause-column
further-requires-clause-column g c =
    let l : c.loop-place.place < length c.args.order.now = Prim.omega (arith, c.loop-place-test.true) in
    rw c.loop-place.invariant.0.columns (c.requires.columns _ (Contains-at c.args.order.now c.loop-place.place l))

pub returns-in_err-face-clause-pair : goal.returns-in_err-face-clause-pair
returns-in_err-face-clause-pair g c =
    let x = c.in_err-face.field-0.0 in
    let p = err_from_is_err_and c.from_residual-in_err-face.result c.from_residual-in_err-face.ensures.1 in
    let given : c.from_residual-in_err-face.result ≡ Err x = p.1 ∙ ap Err p.2 in
    rw given (pair_on g.N.Exact.value g.N.Exact.bound c.args.dict c.loop-place.face.dict x c.loop-place.invariant.0.system c.in_err-face.ensures.pair)

pub loop-place-preserved : goal.loop-place-preserved
loop-place-preserved g c =
    let order = c.args.order.now in
    let k = c.loop-place.place in
    let next = c.in_ok-face.face in
    let so = c.loop-place.invariant in (
      same_through c.args.dict c.loop-place.face.dict next.dict so.0 c.in_ok-face.ensures.same,
      rw (take_more order k 0 (Prim.omega (arith, c.loop-place-test.true))) (c.in_ok-face.ensures.face _ so.1),
    )

pub returns-clause-first : goal.returns-clause-first
returns-clause-first g c =
    let order = c.args.order.now in
    let k = c.loop-place.place in
    let face = c.loop-place.face in
    let so = c.loop-place.invariant in
    let all = take_all k order c.loop-place-test.false in
    rw (sym all) (goes_first face.dict _ (held_by face.dict.names face.held.items) so.1 c.args.dict so.0)
