use Rattle.std.proofs.Common.{rules, arith, ◌≡◌, ◌<◌, ◌≤◌, ◌+◌, ◌-◌, ◌∙◌, sym, ap, Ok, Err, [], length, get_or}
use Rattle.net_case.specs.Networks.{IsNetBranch}
use Rattle.net_case.specs.NetworkReading.{branch_row}
use Rattle.record_reading.proofs.GatherLemmas.{gather-end, gather-fault, gather-step, All-listed, length-listed}
use Rattle.net_case.specs.declared.live_parts.NetBranch.{NetBranch}
use Rattle.net_case.proofs.RowLemmas.{rows-listed}
use Rattle.net_case.proofs.branch_rows.live_branches.Goals as goal

pub returns-in_err-branch-clause-is : goal.returns-in_err-branch-clause-is
returns-in_err-branch-clause-is c =
    let lt : c.loop-row.row < length c.args.case.now.branch = omega arith in
    let at_row : c.loop-row.row + 1 - 1 ≡ c.loop-row.row = omega arith in
    let fails : branch_row c.args.post c.args.places.now.entries (c.loop-row.row + 1) (get_or c.args.case.now.branch c.loop-row.row []) ≡ Err c.in_err-branch.field-0.0 =
    rw at_row at (sym c.read_branch.ensures.is ∙ c.in_err-branch.was) in
    let here = c.loop-row.invariant.is ∙ gather-fault (λ _. branch_row c.args.post c.args.places.now.entries) c.loop-row.branches (c.loop-row.row + 1) c.args.case.now.branch c.loop-row.row c.in_err-branch.field-0.0 lt fails in
    let given : c.from_residual.result ≡ Err c.in_err-branch.field-0.0 = search rules in
    λ _. given ∙ sym here

pub loop-row-preserved : goal.loop-row-preserved
loop-row-preserved c =
    let lt : c.loop-row.row < length c.args.case.now.branch = omega arith in
    let at_row : c.loop-row.row + 1 - 1 ≡ c.loop-row.row = omega arith in
    let reads : branch_row c.args.post c.args.places.now.entries (c.loop-row.row + 1) (get_or c.args.case.now.branch c.loop-row.row []) ≡ Ok c.in_ok-branch.branch =
    rw at_row at (sym c.read_branch.ensures.is ∙ c.in_ok-branch.was) in
    let here = c.loop-row.invariant.is ∙ gather-step (λ _. branch_row c.args.post c.args.places.now.entries) c.loop-row.branches (c.loop-row.row + 1) c.args.case.now.branch c.loop-row.row c.in_ok-branch.branch lt reads in
    let added = c.in_ok-push_some.ensures in
    record {
      count = omega (arith, ap length added, length-listed c.loop-row.branches c.in_ok-branch.branch);
      branches = λ buses places. rw added (All-listed (IsNetBranch buses) c.loop-row.branches c.in_ok-branch.branch (c.loop-row.invariant.branches buses places) (c.in_ok-branch.ensures.branch buses places));
      rows = rw added (rows-listed (λ (u : NetBranch). u.row) c.loop-row.branches c.in_ok-branch.branch c.loop-row.row c.loop-row.invariant.rows c.in_ok-branch.ensures.row);
      is = rw added here;
    }

pub returns-clause-is : goal.returns-clause-is
returns-clause-is c =
    let le : length c.args.case.now.branch ≤ c.loop-row.row = omega arith in
    λ _. sym (c.loop-row.invariant.is ∙ gather-end (λ _. branch_row c.args.post c.args.places.now.entries) c.loop-row.branches (c.loop-row.row + 1) c.args.case.now.branch c.loop-row.row le)
