use Rattle.std.proofs.Common.{rules, ◌≡◌, ◌∙◌, ◌++◌, ◌∷◌, ◌<◌, ◌≤◌, ℤ, [], refl, sym, ap, arith, length, length-append, get_or, map, None, false, Err}
use mir.Val.{to_z, of_z}
use mir.Syntax.{w128}
use Rattle.std.specs.Prelude.{unsigned_abs}
use Rattle.std.proofs.lemmas.Int.{to_z-of_z}
use Rattle.std.proofs.lemmas.List.Elements.{All-nil, All-push}
use Rattle.std.proofs.lemmas.List.{length-map}
use Rattle.std.proofs.Math.ListN.{get_or-map}
use Rattle.market_data.specs.Scales.{most_scaled_reactance}
use Rattle.net_case.specs.ReactanceReading.{reactances_in}
use Rattle.net_case.specs.declared.live_parts.NetBranch.{NetBranch}
use Rattle.net_case.proofs.ReactanceLemmas.{fits_128, from-step, from-fault, from-end, from-start}
use Rattle.net_case.proofs.branch_reactances.reactances.Goals as goal

pub loop-branch-init : goal.loop-branch-init
loop-branch-init c = rw c.new-list.ensures (record {
  count = refl;
  size = All-nil (λ (x : ℤ). unsigned_abs x ≤ most_scaled_reactance);
  is = from-start c.args.case.now.branch _;
})

pub reactance-requires : goal.reactance-requires
reactance-requires c =
    let d : NetBranch = record { row = 0; from = 0; to = 0; base = None; post = None; shifted = false } in
    let items = c.slice-branch-items.ensures ∙ c.branches.ensures.list in
    let branches = c.args.network.now.branches in
    let i = c.loop-branch.branch-index in
    let lt : i < length branches = rw items at c.loop-branch-test.true in
    let inside : i < length (map (λ (b : NetBranch). b.row) branches) = omega (arith, lt, length-map branches (λ (b : NetBranch). b.row)) in
    let range : 1 ≤ get_or (map (λ (b : NetBranch). b.row) branches) i 0 = (c.branches.ensures.network.rows_of_branches.range i 0 inside).0 in
    rw items (rw (get_or-map (λ (b : NetBranch). b.row) branches i d) at range)

pub returns-in_err-reactance-clause-is : goal.returns-in_err-reactance-clause-is
returns-in_err-reactance-clause-is c =
    let d : NetBranch = record { row = 0; from = 0; to = 0; base = None; post = None; shifted = false } in
    let items = c.slice-branch-items.ensures ∙ c.branches.ensures.list in
    let given : c.from_residual.result ≡ Err c.in_err-reactance.field-0.0 = search rules in
    let fails = sym c.reactance.ensures.is ∙ c.in_err-reactance.was in
    let here = c.loop-branch.invariant.is ∙ from-fault c.args.case.now.branch c.slice-branch-items.result.now c.loop-branch.list c.loop-branch.branch-index d c.in_err-reactance.field-0.0 c.loop-branch-test.true fails in
    λ _. given ∙ sym here ∙ ap (reactances_in c.args.case.now.branch) items

pub loop-branch-preserved : goal.loop-branch-preserved
loop-branch-preserved c =
    let d : NetBranch = record { row = 0; from = 0; to = 0; base = None; post = None; shifted = false } in
    let x = c.in_ok-reactance.field-0 in
    let reads = sym c.reactance.ensures.is ∙ c.in_ok-reactance.was in
    let here = c.loop-branch.invariant.is ∙ from-step c.args.case.now.branch c.slice-branch-items.result.now c.loop-branch.list c.loop-branch.branch-index d x c.loop-branch-test.true reads in
    let kept : to_z w128 (of_z w128 x) ≡ x = to_z-of_z w128 x (fits_128 x c.in_ok-reactance.ensures.size) in
    let added : c.push.new.self ≡ c.loop-branch.list ++ x ∷ [] = rw kept at c.in_ok-push.ensures in
    rw added (record {
      count = omega (arith, c.loop-branch.invariant.count, length-append c.loop-branch.list (x ∷ []));
      size = All-push (λ (n : ℤ). unsigned_abs n ≤ most_scaled_reactance) c.loop-branch.list x c.loop-branch.invariant.size c.in_ok-reactance.ensures.size;
      is = here;
    })

pub returns-clause-is : goal.returns-clause-is
returns-clause-is c =
    let items = c.slice-branch-items.ensures ∙ c.branches.ensures.list in
    λ _. sym (c.loop-branch.invariant.is ∙ from-end c.args.case.now.branch c.slice-branch-items.result.now c.loop-branch.list c.loop-branch.branch-index c.loop-branch-test.false)
    ∙ ap (reactances_in c.args.case.now.branch) items
