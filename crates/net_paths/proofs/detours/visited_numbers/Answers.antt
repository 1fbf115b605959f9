use Rattle.std.proofs.Common.{◌∙◌, ◌+◌, ◌++◌, ◌∷◌, [], ℕ, sym, ap, subst}
use Rattle.std.specs.Prelude.{is_some}
use Rattle.net_paths.specs.Detours.{HoldsSide}
use Rattle.net_paths.proofs.SideLemmas.{side-more, side-skip}
use Rattle.net_paths.proofs.detours.visited_numbers.Goals as goal
use Rattle.net_paths.proofs.detours.visited_numbers.Goals.{then-is_some+in_ok-push, else-is_some}

pub loop-place-preserved : goal.loop-place-preserved
loop-place-preserved c =
    let network = c.args.network.now in
    let seen = c.args.search.now.seen.items in
    let place = c.loop-place.place in
    let test = ap is_some (sym c.visit_of.ensures) ∙ sym c.is_some.ensures in
    elim c.if-is_some.branch [
      | then-is_some+in_ok-push w ↦ subst (HoldsSide network seen (place + 1)) (sym (w.numbers-is ∙ w.in_ok-push.ensures ∙ ap (λ (n : ℕ). c.loop-place.numbers ++ n ∷ []) w.bus_number.ensures))
          (side-more network seen place c.loop-place.numbers c.loop-place.invariant (test ∙ w.if-is_some.true))
      | else-is_some w ↦ subst (HoldsSide network seen (place + 1)) (sym w.numbers-is) (side-skip network seen place c.loop-place.numbers c.loop-place.invariant (test ∙ w.if-is_some.false))
    ]
