-- Branch rows: which branches are in service, between which buses, and their limits.
use Rattle.std.specs.Prelude.{◌≡◌, ◌≢◌, ◌⊎◌, ℕ, ℤ, pos, ◌<ℤ◌, Bool, true, false, List, codes, Contains, Option, Some, None}
use Rattle.fraction_theory.specs.declared.Sign.{Sign}
use Rattle.fraction_theory.specs.declared.Sign.TheVariants as sign
use Rattle.record_reading.specs.Records.{Record}
use Rattle.net_case.specs.Columns.{BR_STATUS, F_BUS, T_BUS, RATE_A, RATE_B, RATE_C, SHIFT}
use Rattle.net_case.specs.declared.live_parts.NetBranch.{NetBranch}
use Rattle.net_case.specs.declared.live_parts.PostRating.{PostRating}
use Rattle.net_case.specs.declared.live_parts.PostRating.TheVariants as post
use Rattle.network_meaning.specs.Cells.{cell, IsWhole, IsMegawatts, IsOfSign}

-- `Inf` or `inf` with or without `+`
abbrev pub IsInfinite : List ℕ → Type 0
IsInfinite text = (text ≡ codes "Inf") ⊎ (text ≡ codes "inf") ⊎ (text ≡ codes "+Inf") ⊎ (text ≡ codes "+inf")

-- A rating of 0 or of infinity means no limit; one above 0 is the limit.
abbrev pub GivesLimit : List ℕ → Option ℤ → Type 0
GivesLimit text None = IsMegawatts text (pos 0) ⊎ IsInfinite text
GivesLimit text (Some limit) = IsMegawatts text limit × (pos 0 <ℤ limit)

-- The limit after an outage is the rating that is asked for.
abbrev pub rating_column : PostRating → ℕ
rating_column post.A = RATE_A
rating_column post.B = RATE_B
rating_column post.C = RATE_C

-- whether SHIFT is not 0
abbrev pub IsShifted : List ℕ → Bool → Type 0
IsShifted text true = IsOfSign text sign.Below ⊎ IsOfSign text sign.Above
IsShifted text false = IsOfSign text sign.Zero

-- The branch of a branch row has its number, the places of its two buses among the buses in service, F_BUS first, and its limits.
pub record IsBranchInService (rating : PostRating) (number : ℕ) (row : Record) (from to : Option ℕ) (status : Sign) (branch : NetBranch) : Type 0 where
  pub status_above : status ≡ sign.Above
  pub from_in_service : from ≡ Some branch.from
  pub to_in_service : to ≡ Some branch.to
  pub ends : branch.from ≢ branch.to
  pub row_is : branch.row ≡ number
  pub base : GivesLimit (cell row RATE_A) branch.base
  pub post : GivesLimit (cell row (rating_column rating)) branch.post
  pub shift : IsShifted (cell row SHIFT) branch.shifted

-- A branch is in service where its BR_STATUS is above 0 and both its buses are in service. Ratings and SHIFT of one out of service are not
-- read.
abbrev pub IsBranch : PostRating → ℕ → Record → Option ℕ → Option ℕ → Sign → Option NetBranch → Type 0
IsBranch rating number row from to status None = (from ≡ None) ⊎ (to ≡ None) ⊎ (status ≢ sign.Above)
IsBranch rating number row from to status (Some branch) = IsBranchInService rating number row from to status branch

-- F_BUS and T_BUS are numbers of bus rows, and BR_STATUS is read by its sign.
pub record IsBranchRow (rating : PostRating) (buses : List (ℕ × Option ℕ)) (number : ℕ) (row : Record) (gives : Option NetBranch) : Type 0 where
  pub from_bus : ℕ
  pub to_bus : ℕ
  pub from : Option ℕ
  pub to : Option ℕ
  pub status : Sign
  pub f_bus : IsWhole (cell row F_BUS) (pos from_bus)
  pub t_bus : IsWhole (cell row T_BUS) (pos to_bus)
  pub from_has_row : Contains buses (from_bus, from)
  pub to_has_row : Contains buses (to_bus, to)
  pub br_status : IsOfSign (cell row BR_STATUS) status
  pub branch : IsBranch rating number row from to status gives
