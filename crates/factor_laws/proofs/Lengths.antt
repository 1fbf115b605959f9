-- How long the texts of tables are that are made.
use Rattle.std.proofs.Common.{◌≡◌, ℕ, zero, suc, ◌+◌, ◌*◌, ◌≤◌, List, [], ◌∷◌, length, map, sym, arith, refl}
use Rattle.std.specs.Prelude.{◌==◌, Bool, not}
use Rattle.std.specs.List.{flat_map}
use Rattle.std.proofs.Math.Nat.{mul-suc, mul_comm}
use Rattle.std.proofs.lemmas.List.{length-append, length-map}
use Rattle.std.proofs.lemmas.List.Sums.{count_by-le-length, length-filter}
use Rattle.net_case.specs.Networks.{LiveNetwork}
use Rattle.net_case.specs.declared.live_parts.NetBranch.{NetBranch}
use Rattle.net_paths.specs.Detours.{IsBranchOf, others}
use Rattle.factor_residuals.specs.Residuals.{places_below}
use Rattle.factor_tables.specs.declared.by_pair.Column.TheVariants as column
use Rattle.factor_text.specs.Texts.{factor_table_text}
use Rattle.factor_text.proofs.Lengths.{tables-short}
use Rattle.factor_maker.specs.Made.{IsLossEntry, IsShiftEntry, loss_pairs, shift_pairs}
use Rattle.factor_maker.specs.Stops.{loss_count, shift_count}
use Rattle.factor_maker.proofs.Lists.{zip-length}
use Rattle.factor_laws.specs.Laws.{LossTablesAreShort, ShiftTablesAreShort}
use Rattle.factor_laws.proofs.LossTables.{loss_read_back}
use Rattle.factor_laws.proofs.ShiftTables.{shift_read_back}

-- lists of so many items at the most, one behind another
flat-length : {A B : Type 0} (f : A → List B) (n : ℕ) (xs : List A) → ((x : A) → length (f x) ≤ n) → length (flat_map f xs) ≤ n * length xs
flat-length f n [] few = omega arith
flat-length f n (x ∷ xs) few =
    let here = few x in
    let rest = flat-length f n xs few in
    let all = length-append (f x) (flat_map f xs) in
    let more = mul-suc n (length xs) in
    omega (arith, here, rest, all, more)

below-length : (n : ℕ) → length (places_below n) ≡ n
below-length zero = refl
below-length (suc n) = let rest = below-length n in let all = length-append (places_below n) (n ∷ []) in omega (arith, rest, all)

-- ---- how many records there are
-- the pairs of a branch, and those of a lost one
abbrev with_buses : ℕ → NetBranch → List (NetBranch × ℕ)
with_buses buses l = map (λ i. (l, i)) (places_below buses)

abbrev with_others : List NetBranch → NetBranch → List (NetBranch × NetBranch)
with_others branches k = map (λ l. (l, k)) (others k.row branches)

shift-few : (network : LiveNetwork) → length (shift_pairs network) ≤ shift_count network
shift-few network =
    let all : length (shift_pairs network) ≤ length network.buses * length network.branches = flat-length (with_buses (length network.buses)) (length network.buses) network.branches each in
    let turned = mul_comm (length network.branches) (length network.buses) in
    omega (arith, all, turned)
  where
    each : (l : NetBranch) → length (with_buses (length network.buses) l) ≤ length network.buses
    each l =
        let pair : ℕ → NetBranch × ℕ = λ i. (l, i) in
        let same = length-map (places_below (length network.buses)) pair in
        let count = below-length (length network.buses) in
        omega (arith, same, count)

loss-few : (network : LiveNetwork) (lost : List NetBranch) → length (loss_pairs network lost) ≤ length network.branches * length lost
loss-few network lost = flat-length (with_others network.branches) (length network.branches) lost each
  where
    each : (k : NetBranch) → length (with_others network.branches k) ≤ length network.branches
    each k =
        let pair : NetBranch → NetBranch × NetBranch = λ l. (l, k) in
        let same = length-map (others k.row network.branches) pair in
        let test : NetBranch → Bool = λ branch. not (branch.row == k.row) in
        let kept = length-filter test network.branches in
        let count = count_by-le-length test network.branches in
        omega (arith, same, kept, count)

-- ---- how long the texts are
lines : (entries most text : ℕ) → entries ≤ most → text ≤ 32 * (1 + entries) → text ≤ 32 * (1 + most)
lines entries most text few long = omega (arith, few, long)

pub shift_short : ShiftTablesAreShort
shift_short network xs places shift sound made =
    let over = (shift_read_back network xs places shift sound made).0 in
    let same = zip-length (IsShiftEntry network xs places) (shift_pairs network) shift.entries made.entries in
    let count = shift-few network in
    lines (length shift.entries) (shift_count network) (length (factor_table_text column.Bus shift.entries)) (omega (arith, same, count)) (tables-short column.Bus network shift sound.network_is over)

pub loss_short : LossTablesAreShort
loss_short network xs outages places loss sound listed made =
    let over = (loss_read_back network xs outages places loss sound listed made).0 in
    let same = zip-length (IsLossEntry network xs places) (loss_pairs network made.lost) loss.entries made.entries in
    let lost : length made.lost ≡ length outages = zip-length (IsBranchOf network) outages made.lost made.lost_are in
    let count : length (loss_pairs network made.lost) ≤ loss_count network outages = rw (sym lost) (loss-few network made.lost) in
    lines (length loss.entries) (loss_count network outages) (length (factor_table_text column.Outage loss.entries)) (omega (arith, same, count)) (tables-short column.Outage network loss sound.network_is over)
