use Rattle.std.proofs.Common.{◌≡◌, ◌<◌, ◌≤◌, ◌∙◌, ℕ, ℤ, None, List, length, ap, arith, false, pos, refl, subst, sym}
use Rattle.std.specs.Prelude.{◌<ℤ◌, slice_index_or, unsigned_abs}
use Rattle.std.specs.Int.{w128}
use Rattle.std.proofs.lemmas.Int.{fits_signed_from_abs, ints, to_z-of_z}
use Rattle.std.proofs.Math.Nat.{lt_of_le_of_lt}
use Rattle.std.proofs.lemmas.List.{get_or_default, take_all}
use Rattle.std.proofs.lemmas.List.Elements.{All-more}
use Rattle.net_case.specs.declared.live_parts.NetBranch.{NetBranch}
use Rattle.dc_network.specs.DcNetworks.{ArePositive}
use Rattle.market_data.specs.Scales.{most_scaled_reactance}
use Rattle.factor_maker.proofs.ListSteps.{first_not_positive}
use mir.Val.{of_z, to_z}
use Rattle.factor_maker.proofs.stops.check_positive.Goals as goal

abbrev none : NetBranch
none = record { row = 0; from = 0; to = 0; base = None; post = None; shifted = false }

-- a reactance is as it is kept
kept : (x : ℤ) → unsigned_abs x ≤ most_scaled_reactance → to_z w128 (of_z w128 x) ≡ x
kept x few = to_z-of_z w128 x (fits_signed_from_abs w128 x (lt_of_le_of_lt few (omega arith)))

size_at : (xs ys : List ℤ) (place : ℕ) → ys ≡ xs → Rattle.std.specs.Prelude.All (λ x. unsigned_abs x ≤ most_scaled_reactance) xs → place < length xs → unsigned_abs (slice_index_or ys place (pos 0)) ≤ most_scaled_reactance
size_at xs ys place is sizes lt = subst (λ (zs : List ℤ). unsigned_abs (slice_index_or zs place (pos 0)) ≤ most_scaled_reactance) (sym is) (sizes place (pos 0) lt)

pub returns-then-xs-place-le0-clause-stop : goal.returns-then-xs-place-le0-clause-stop
returns-then-xs-place-le0-clause-stop g c =
    let network = c.args.network.now in
    let xs = c.args.reactances.now in
    let place = c.loop-place.place in
    let x = slice_index_or c.slice-xs.result.now place (pos 0) in
    let branch = slice_index_or c.slice-branches.result.now place none in
    let all = c.slice-branches.ensures ∙ c.branches.ensures.list in
    let lt : place < length xs = omega (arith, c.loop-place-test.true, c.loop-place.auto.place-end, ap length c.slice-xs.ensures) in
    let within : place < length network.branches = omega (arith, lt, c.requires.reactances.count) in (
      branch.row,
      refl,
      first_not_positive network xs place x branch c.loop-place.invariant lt
          (get_or_default xs place x (pos 0) lt ∙ ap (λ (ys : List ℤ). slice_index_or ys place (pos 0)) (sym c.slice-xs.ensures))
          (let same = kept x (size_at xs c.slice-xs.result.now place c.slice-xs.ensures c.requires.reactances.sizes lt) in omega (arith, ints, same, c.if-xs-place-le0.true)) within
          (get_or_default network.branches place branch none within ∙ ap (λ (bs : List NetBranch). slice_index_or bs place none) (sym all)),
    )

pub loop-place-preserved : goal.loop-place-preserved
loop-place-preserved g c =
    let xs = c.args.reactances.now in
    let place = c.loop-place.place in
    let lt : place < length xs = omega (arith, c.loop-place-test.true, c.loop-place.auto.place-end, ap length c.slice-xs.ensures) in
    let above : pos 0 <ℤ slice_index_or c.slice-xs.result.now place (pos 0) =
    let same = kept (slice_index_or c.slice-xs.result.now place (pos 0)) (size_at xs c.slice-xs.result.now place c.slice-xs.ensures c.requires.reactances.sizes lt) in
    omega (arith, ints, same, c.if-xs-place-le0.false) in
    All-more (λ (x : ℤ). pos 0 <ℤ x) xs place (pos 0) lt c.loop-place.invariant (subst (λ (ys : List ℤ). pos 0 <ℤ slice_index_or ys place (pos 0)) c.slice-xs.ensures above)

pub returns-clause-positive : goal.returns-clause-positive
returns-clause-positive g c =
    let xs = c.args.reactances.now in
    subst ArePositive (take_all c.loop-place.place xs (omega (arith, c.loop-place-test.false, c.loop-place.auto.place-end, ap length c.slice-xs.ensures))) c.loop-place.invariant
