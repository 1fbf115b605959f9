-- What a certificate says of a market, and the first reason against it.
-- Source: own, of what is feasible, what duals support and what shows a market infeasible.
use Rattle.std.specs.Prelude.{◌≡◌, ◌≢◌, ◌∷◌, ℕ, List, Option, Some, None, All, AllPairs, Contains}
use Rattle.fraction_theory.specs.Fraction.{Fraction}
use Rattle.market_model.specs.declared.answered.Dual.{Dual}
use Rattle.market_model.specs.declared.answered.Duals.{Duals}
use Rattle.market_model.specs.declared.participants.Parts.{Parts}
use Rattle.market_model.specs.declared.answered.RoomDual.{RoomDual}
use Rattle.market_model.specs.Dispatch.{Dispatch, dispatch_by, dispatch_with, unit_at}
use Rattle.market_model.specs.Infeasibility.{ShowsInfeasible}
use Rattle.market_model.specs.declared.limits.Row.{Row}
use Rattle.market_model.specs.LimitRows.{rows, row_id}
use Rattle.market_model.specs.Optimality.{Feasible, Supports}
use Rattle.market_model.specs.Reserves.{reserve_units}
use Rattle.market_model.specs.Valued.{energy_duals, duals_with}
use Rattle.cert_format.specs.declared.certificate.Cert.{Cert}
use Rattle.cert_format.specs.declared.certificate.Cert.TheVariants.{Optimal, Farkas}
use Rattle.cert_format.specs.declared.certificate.ClearedReserve.{ClearedReserve}
use Rattle.cert_format.specs.declared.certificate.ReserveDuals.{ReserveDuals}
use Rattle.cert_format.specs.Certificates.{places_of, reserve_of}
use Rattle.cert_verify.specs.Reasons.{first_of, optimal_reasons, farkas_reasons, places_reason}
use Rattle.cert_verify.specs.declared.verdicts.Reason.{Reason}

-- a price of energy and those of rows, and where a certificate has a part on reserve its price and those of rooms; else it is of energy alone
abbrev pub named_duals : Fraction → List (Dual Fraction) → Option (ReserveDuals Fraction) → Duals Fraction
named_duals energy limits None = energy_duals energy limits
named_duals energy limits (Some d) = duals_with energy limits d.price d.rooms

-- the quantities of blocks, and where a certificate has a part on reserve those of its offers
abbrev pub dispatched : List Fraction → Option (ClearedReserve Fraction) → Dispatch
dispatched blocks None = dispatch_by blocks
dispatched blocks (Some r) = dispatch_with blocks r.quantities

-- all duals of a certificate
abbrev pub duals_of : Cert Fraction → Duals Fraction
duals_of (Optimal blocks energy limits places reserve) = named_duals energy limits (reserve_of (Optimal blocks energy limits places reserve))
duals_of (Farkas energy limits places reserve) = named_duals energy limits reserve

-- against what a certificate shows, by its kind
abbrev pub kind_reasons : Parts → Cert Fraction → List (Option Reason)
kind_reasons m (Optimal blocks energy limits places reserve) = optimal_reasons m (dispatched blocks reserve) (duals_of (Optimal blocks energy limits places reserve))
kind_reasons m (Farkas energy limits places reserve) = farkas_reasons m (duals_of (Farkas energy limits places reserve))

-- the first reason against a certificate, where there is one: before all others, that factors had other places
abbrev pub first_reason : Parts → Cert Fraction → Option Reason
first_reason m c = first_of (places_reason m (places_of c) ∷ kind_reasons m c)

-- each row that the duals name is a row of the market
abbrev pub NamesRows : Parts → List (Dual Fraction) → Type 0
NamesRows m ds = All (λ e. (r : Row) × Contains (rows m) r × (row_id m r ≡ e.row)) ds

-- each unit whose room the duals name offers reserve, and none is named twice
pub record NamesRooms (m : Parts) (ds : List (RoomDual Fraction)) : Type 0 where
  pub offered : All (λ e. (u : ℕ) × Contains (reserve_units m) u × ((unit_at m u).row ≡ e.unit)) ds
  pub once : AllPairs (λ (a b : RoomDual Fraction). a.unit ≢ b.unit) ds

-- a feasible dispatch, which has one quantity for each block and each offer of reserve, and duals of rows and of rooms of the market that
-- support it
pub record IsOptimum (m : Parts) (x : Dispatch) (d : Duals Fraction) : Type 0 where
  pub rows : NamesRows m d.limits
  pub rooms : NamesRooms m d.rooms
  pub feasible : Feasible m x
  pub supported : Supports m x d

-- duals of rows and of rooms of the market that show that nothing is feasible
pub record ProvesInfeasible (m : Parts) (d : Duals Fraction) : Type 0 where
  pub rows : NamesRows m d.limits
  pub rooms : NamesRooms m d.rooms
  pub shows : ShowsInfeasible m d

-- what a certificate shows is so
abbrev pub IsShown : Parts → Cert Fraction → Type 0
IsShown m (Optimal blocks energy limits places reserve) = IsOptimum m (dispatched blocks reserve) (duals_of (Optimal blocks energy limits places reserve))
IsShown m (Farkas energy limits places reserve) = ProvesInfeasible m (duals_of (Farkas energy limits places reserve))

-- the certificate is true of the market: its factors had as many places as the market's, and what it shows is so
pub record IsTrueOf (m : Parts) (c : Cert Fraction) : Type 0 where
  pub places : places_of c ≡ m.factor_places
  pub shown : IsShown m c
