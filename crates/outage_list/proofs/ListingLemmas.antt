-- Outages, one more of them, and the first number at fault.
use Rattle.std.proofs.Common.{◌≡◌, ◌≢◌, ◌<◌, ◌+◌, ◌∷◌, ◌++◌, ℕ, zero, suc, ℤ, pos, negsuc, List, [], Bool, true, false, Option, Some, None, Err, length, map, get_or, refl, sym, arith, ◌∙◌, length-append}
use Rattle.std.specs.Prelude.{◌≤ℤ◌, ◌==◌, ◌||◌, unsigned_abs, is_some, position, AllPairs, Contains}
use Rattle.std.specs.List.{list_any}
use Rattle.std.proofs.lemmas.Bool.{eqb-true, eq-eqb, cases_lt}
use Rattle.std.proofs.lemmas.Int.{ints}
use Rattle.std.proofs.lemmas.List.{get_or-map, length-map, get_or_append_left}
use Rattle.std.proofs.Math.Seq.{get_or-append_seam}
use Rattle.std.proofs.lemmas.List.Folds.{Any-from_list_any}
use Rattle.std.proofs.lemmas.List.Elements.{All-append, All-cons, All-nil, Contains-get_or}
use Rattle.std.proofs.lemmas.List.Quantifiers.{position-Some}
use Rattle.std.proofs.Math.Logic.{⊎_elim}
use Rattle.net_case.specs.declared.live_parts.NetBranch.{NetBranch}
use Rattle.net_case.specs.Networks.{LiveNetwork}
use Rattle.net_paths.specs.declared.detours.Detour.TheVariants as detour
use Rattle.net_paths.specs.Detours.{IsBranchOf, IsDetour, IsLiveRow}
use Rattle.factor_tables.specs.Rules.{is_live_branch}
use Rattle.outage_list.specs.declared.listing.OutageFault.{OutageFault}
use Rattle.outage_list.specs.declared.listing.OutageFault.TheVariants as fault
use Rattle.outage_list.specs.Listing.{AreOutages, IsFirstFault, IsIsland, IsListed, IsOutage}

-- a number from 1 on is its size
pub its_size : (n : ℤ) → pos 1 ≤ℤ n → n ≡ pos (unsigned_abs n)
its_size (pos k) least = refl
its_size (negsuc k) least = absurd (omega (arith, ints, least))

-- a live branch's number is the row of a live branch
pub live-row : (network : LiveNetwork) (n : ℤ) → is_live_branch network n ≡ true → IsLiveRow network (unsigned_abs n)
live-row network (negsuc k) live = cc
live-row network (pos k) live = by (position (λ m. m == k) (map (λ (branch : NetBranch). branch.row) network.branches)) refl
  where
    by : (place : Option ℕ) → position (λ m. m == k) (map (λ (branch : NetBranch). branch.row) network.branches) ≡ place → IsLiveRow network k
    by None none = let lost : is_some {T = ℕ} None ≡ true = rw none at live in cc
    by (Some p) found =
        let d : NetBranch = record { row = 0; from = 0; to = 0; base = None; post = None; shifted = false } in
        let (within, same, first) = position-Some (λ m. m == k) (map (λ (branch : NetBranch). branch.row) network.branches) p 0 found in
        let lt : p < length network.branches = rw length-map at within in
        let row = sym (get_or-map (λ (branch : NetBranch). branch.row) network.branches p d 0 lt) ∙ eqb-true _ _ same in
        (get_or network.branches p d, record { live = Contains-get_or network.branches p d lt; row_is = row })

-- ---- whether a row stands among others
pub among : (xs : List ℕ) (x : ℕ) → list_any (λ y. y == x) xs ≡ true → Contains xs x
among xs x found =
    let (k, y, lt, at, passes) = Any-from_list_any (λ y. y == x) xs found in
    let same : y ≡ x = eqb-true y x passes in
    (k, lt, rw same at at)

neither : (a b : Bool) → (a || b) ≡ false → (a ≡ false) × (b ≡ false)
neither true b none = cc
neither false b none = (refl, none)

pub not_among : (xs : List ℕ) (x : ℕ) → list_any (λ y. y == x) xs ≡ false → ¬ Contains xs x
not_among [] x none (k, lt, at) = absurd (omega (arith, lt))
not_among (y ∷ ys) x none (zero, lt, at) = let found = eq-eqb y x at in cc (found, (neither (y == x) _ none).0)
not_among (y ∷ ys) x none (suc k, lt, at) = not_among ys x (neither (y == x) _ none).1 (k, omega (arith, lt), at)

-- ---- what a way round or a side says of a row
pub outage-path : (network : LiveNetwork) (row : ℕ) (rows : List ℕ) → (branch : NetBranch) × IsBranchOf network row branch × IsDetour network branch (detour.Path rows) → IsOutage network row
outage-path network row rows (branch, live, path) = record { branch = branch; live = live; joined = record { steps = path.steps; pass = path.pass; lead = path.lead } }

pub island-side : (network : LiveNetwork) (row : ℕ) (side : List ℕ) → (branch : NetBranch) × IsBranchOf network row branch × IsDetour network branch (detour.Side side) → IsIsland network row side
island-side network row side (branch, live, (islands, is, off)) = record { branch = branch; live = live; islands = islands; side = is; off = off }

-- ---- one outage more
pub apart-push : (rows : List ℕ) (row : ℕ) → AllPairs (λ a b. a ≢ b) rows → ¬ Contains rows row → AllPairs (λ a b. a ≢ b) (rows ++ row ∷ [])
apart-push rows row apart new i j d lt within same =
    let size : length (rows ++ row ∷ []) ≡ length rows + 1 = length-append rows (row ∷ []) in
    let early : i < length rows = omega (arith, lt, within, size) in
    let first = get_or_append_left rows (row ∷ []) d i early in
    ⊎_elim
    (λ old. apart i j d lt old (sym first ∙ same ∙ get_or_append_left rows (row ∷ []) d j old))
    (λ past.
    let last : j ≡ length rows = omega (arith, past, within, size) in
    let second : get_or (rows ++ row ∷ []) j d ≡ row = rw last (get_or-append_seam rows row [] d) in
    new (rw (sym first ∙ same ∙ second) at (Contains-get_or rows i d early)))
    (cases_lt j (length rows))

pub outages-push : (network : LiveNetwork) (rows : List ℕ) (row : ℕ) → AreOutages network rows → ¬ Contains rows row → IsOutage network row → AreOutages network (rows ++ row ∷ [])
outages-push network rows row are new is = record {
  each = All-append (IsOutage network) rows (row ∷ []) are.each (All-cons (IsOutage network) row [] is (All-nil _));
  distinct = apart-push rows row are.distinct new;
}

-- ---- the first number at fault
pub told-first : (network : LiveNetwork) (numbers : List ℤ) (f : OutageFault) → IsFirstFault network numbers f → IsListed network numbers (Err f)
told-first network numbers (fault.NoBranch line) first = first
told-first network numbers (fault.DeadBranch line) first = first
told-first network numbers (fault.Twice line) first = first
told-first network numbers (fault.Islands row side) first = first
told-first network numbers fault.Memory first = tt
