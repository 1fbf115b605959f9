use Rattle.std.proofs.Common.{◌≡◌, ℕ, ◌+◌, ◌-◌, ◌/◌, ◌<◌, ◌≤◌, length, map, get_or, arith, sym, ap, ◌∙◌, Some, None, false}
use Rattle.std.proofs.lemmas.List.{length-map}
use Rattle.std.proofs.Math.ListN.{get_or-map}
use Rattle.std.proofs.lemmas.Bool.{cases_lt}
use Rattle.std.proofs.Math.Logic.{⊎_elim}
use Rattle.std.proofs.lemmas.Option.{slice_get-get_or}
use Rattle.net_case.specs.declared.live_parts.NetBranch.{NetBranch}
use Rattle.net_case.proofs.PlaceLemmas.{place-some, place-none, apart-from_rise, rows-less, rows-more}
use Rattle.net_case.proofs.live_parts.place_of_row.Goals as goal

pub returns-then-here-row : goal.returns-then-here-row
returns-then-here-row c =
    let branches = c.args.branches.now in
    let rows = map (λ (b : NetBranch). b.row) branches in
    let middle = c.loop-low.low + (c.loop-low.high - c.loop-low.low) / 2 in
    let d : NetBranch = record { row = 0; from = 0; to = 0; base = None; post = None; shifted = false } in
    let within : middle < length branches = omega (arith, c.loop-low-test.true, c.loop-low.invariant.within) in
    let inside : middle < length rows = omega (arith, within, length-map branches (λ (b : NetBranch). b.row)) in
    let at : get_or rows middle 0 ≡ c.args.row = get_or-map (λ (b : NetBranch). b.row) branches middle d ∙ c.if-here-row.true in
    sym (place-some rows c.args.row middle (apart-from_rise rows c.requires) (slice_get-get_or rows middle 0 inside ∙ ap Some at))

pub loop-low-preserved-then-here-row-2 : goal.loop-low-preserved-then-here-row-2
loop-low-preserved-then-here-row-2 c =
    let branches = c.args.branches.now in
    let rows = map (λ (b : NetBranch). b.row) branches in
    let middle = c.loop-low.low + (c.loop-low.high - c.loop-low.low) / 2 in
    let d : NetBranch = record { row = 0; from = 0; to = 0; base = None; post = None; shifted = false } in
    let within : middle < length branches = omega (arith, c.loop-low-test.true, c.loop-low.invariant.within) in
    let inside : middle < length rows = omega (arith, within, length-map branches (λ (b : NetBranch). b.row)) in
    let below : get_or rows middle 0 < c.args.row = rw (get_or-map (λ (b : NetBranch). b.row) branches middle d) c.if-here-row-2.true in
    record {
      order = omega (arith, c.loop-low-test.true);
      within = c.loop-low.invariant.within;
      less = rows-less rows middle c.args.row c.requires inside below;
      more = c.loop-low.invariant.more;
    }

pub loop-low-preserved : goal.loop-low-preserved
loop-low-preserved c =
    let branches = c.args.branches.now in
    let rows = map (λ (b : NetBranch). b.row) branches in
    let middle = c.loop-low.low + (c.loop-low.high - c.loop-low.low) / 2 in
    let d : NetBranch = record { row = 0; from = 0; to = 0; base = None; post = None; shifted = false } in
    let within : middle < length branches = omega (arith, c.loop-low-test.true, c.loop-low.invariant.within) in
    let row = (get_or branches middle d).row in
    let above : c.args.row < get_or rows middle 0 = rw (get_or-map (λ (b : NetBranch). b.row) branches middle d) (greater row c.args.row c.if-here-row-2.false (λ e. c.if-here-row.false e)) in
    record {
      order = omega arith;
      within = omega (arith, within);
      less = c.loop-low.invariant.less;
      more = λ k ge lt. rows-more rows middle c.args.row c.requires above k ge (omega (arith, lt, length-map branches (λ (b : NetBranch). b.row)));
    }
  where
    greater : (a b : ℕ) → b ≤ a → (a ≡ b → ⊥) → b < a
    greater a b le differ = ⊎_elim (λ lt. lt) (λ ge. absurd (differ (omega (arith, le, ge)))) (cases_lt b a)

pub returns : goal.returns
returns c =
    let branches = c.args.branches.now in
    let rows = map (λ (b : NetBranch). b.row) branches in
    sym (place-none rows c.args.row (λ k lt is. ⊎_elim
    (λ below. let h = c.loop-low.invariant.less k below in omega (arith, h, is))
    (λ ge. let h = c.loop-low.invariant.more k (omega (arith, ge, c.loop-low-test.false)) (omega (arith, lt, length-map branches (λ (b : NetBranch). b.row))) in omega (arith, h, is))
    (cases_lt k c.loop-low.low)))
