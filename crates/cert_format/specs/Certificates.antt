-- Certificates, and those of what a clear came to.
use Rattle.std.specs.Prelude.{◌≢◌, ◌==◌, ◌&&◌, ℕ, ◌<◌, ◌≤◌, ◌^◌, Bool, List, [], map, All, AllPairs, Option, Some, None, IfSome, option_map, unsigned_abs, if◌then◌else◌}
use Rattle.fraction_theory.specs.Fraction.{Fraction}
use Rattle.market_data.specs.declared.scales.FactorPlaces.{FactorPlaces}
use Rattle.market_model.specs.declared.answered.Answer.{Answer}
use Rattle.market_model.specs.declared.answered.Dual.{Dual}
use Rattle.market_model.specs.declared.answered.Duals.{Duals}
use Rattle.market_model.specs.declared.answered.Farkas as infeasible
use Rattle.market_model.specs.declared.answered.RoomDual.{RoomDual}
use Rattle.market_model.specs.declared.answered.RowId.{RowId}
use Rattle.market_model.specs.declared.answered.Outcome.{Outcome}
use Rattle.market_model.specs.declared.answered.Outcome.TheVariants as outcome
use Rattle.market_model.specs.Valued.{dual_at, room_dual_at}
use Rattle.cert_format.specs.declared.certificate.Cert.{Cert}
use Rattle.cert_format.specs.declared.certificate.Cert.TheVariants as cert
use Rattle.cert_format.specs.declared.certificate.ClearedReserve.{ClearedReserve}
use Rattle.cert_format.specs.declared.certificate.ReserveDuals.{ReserveDuals}

-- ---- each number as the fraction that it stands for
abbrev pub reserve_duals_at : {N : Type 0} → (N → Fraction) → ReserveDuals N → ReserveDuals Fraction
reserve_duals_at value d = record { price = value d.price; rooms = map (room_dual_at value) d.rooms }

abbrev pub cleared_reserve_at : {N : Type 0} → (N → Fraction) → ClearedReserve N → ClearedReserve Fraction
cleared_reserve_at value r = record { quantities = map value r.quantities; duals = reserve_duals_at value r.duals }

abbrev pub cert_at : {N : Type 0} → (N → Fraction) → Cert N → Cert Fraction
cert_at value (cert.Optimal blocks energy limits places reserve) = cert.Optimal (map value blocks) (value energy) (map (dual_at value) limits) places (option_map (cleared_reserve_at value) reserve)
cert_at value (cert.Farkas energy limits places reserve) = cert.Farkas (value energy) (map (dual_at value) limits) places (option_map (reserve_duals_at value) reserve)

-- ---- parts of a certificate, whatever the kind
-- the duals of limits
abbrev pub limit_duals_of : {N : Type 0} → Cert N → List (Dual N)
limit_duals_of (cert.Optimal blocks energy limits places reserve) = limits
limit_duals_of (cert.Farkas energy limits places reserve) = limits

-- how many decimals the factors of the market had
abbrev pub places_of : {N : Type 0} → Cert N → FactorPlaces
places_of (cert.Optimal blocks energy limits places reserve) = places
places_of (cert.Farkas energy limits places reserve) = places

-- the prices of reserve and of rooms, where the market lists reserve
abbrev pub reserve_of : {N : Type 0} → Cert N → Option (ReserveDuals N)
reserve_of (cert.Optimal blocks energy limits places reserve) = option_map (λ r. r.duals) reserve
reserve_of (cert.Farkas energy limits places reserve) = reserve

-- the prices of rooms; none where the market is of energy alone
abbrev pub rooms_among : {N : Type 0} → Option (ReserveDuals N) → List (RoomDual N)
rooms_among None = []
rooms_among (Some d) = d.rooms

abbrev pub room_duals_of : {N : Type 0} → Cert N → List (RoomDual N)
room_duals_of c = rooms_among (reserve_of c)

-- the name of a row as a triple: the branch row, that of its outage, and the row of the unit that is lost
abbrev pub name_of : RowId → ℕ × ℕ × ℕ
name_of row = (row.branch, row.outage, row.unit)

abbrev pub same_triple : ℕ × ℕ × ℕ → ℕ × ℕ × ℕ → Bool
same_triple p q = (p.0 == q.0) && (p.1 == q.1) && (p.2 == q.2)

-- no row is named twice
abbrev pub NamesNoRowTwice : List (Dual Fraction) → Type 0
NamesNoRowTwice limits = AllPairs (λ a b. a.row ≢ b.row) limits

abbrev pub RowsAreDistinct : Cert Fraction → Type 0
RowsAreDistinct c = NamesNoRowTwice (limit_duals_of c)

-- numerator and denominator are at most so great
pub record Fits (most : ℕ) (x : Fraction) : Type 0 where
  pub num : unsigned_abs x.num ≤ most
  pub den : x.den ≤ most

-- a row's numbers have 32 bits
pub record RowFits (row : RowId) : Type 0 where
  pub branch : row.branch < 2 ^ 32
  pub outage : row.outage < 2 ^ 32
  pub unit : row.unit < 2 ^ 32

pub record DualFits (most : ℕ) (d : Dual Fraction) : Type 0 where
  pub row : RowFits d.row
  pub up : Fits most d.up
  pub down : Fits most d.down

pub record RoomFits (most : ℕ) (d : RoomDual Fraction) : Type 0 where
  pub unit : d.unit < 2 ^ 32
  pub price : Fits most d.price

pub record ReserveDualsFit (most : ℕ) (d : ReserveDuals Fraction) : Type 0 where
  pub price : Fits most d.price
  pub rooms : All (RoomFits most) d.rooms

pub record ClearedReserveFits (most : ℕ) (r : ClearedReserve Fraction) : Type 0 where
  pub quantities : All (Fits most) r.quantities
  pub duals : ReserveDualsFit most r.duals

-- every number of a certificate is within its bound
abbrev pub NumbersFit : ℕ → Cert Fraction → Type 0
NumbersFit most (cert.Optimal blocks energy limits places reserve) = All (Fits most) blocks × Fits most energy × All (DualFits most) limits × IfSome reserve (ClearedReserveFits most)
NumbersFit most (cert.Farkas energy limits places reserve) = Fits most energy × All (DualFits most) limits × IfSome reserve (ReserveDualsFit most)

-- the names of rows and of units have numbers of 32 bits
pub record NamesFit {N : Type 0} (c : Cert N) : Type 0 where
  pub limits : All (λ d. RowFits d.row) (limit_duals_of c)
  pub rooms : All (λ d. d.unit < 2 ^ 32) (room_duals_of c)

-- a certificate that has a text: its numbers are within their bounds, and no row is named twice
pub record CertFits (most : ℕ) (c : Cert Fraction) : Type 0 where
  pub numbers : NumbersFit most c
  pub distinct : RowsAreDistinct c

-- ---- the certificates of what a clear came to, where factors had so many places, and where reserve was listed or not
abbrev pub if_listed : {A : Type 0} → Bool → A → Option A
if_listed listed x = if listed then Some x else None

-- the prices of reserve and of rooms among duals
abbrev pub reserve_duals_of : {N : Type 0} → Duals N → ReserveDuals N
reserve_duals_of d = record { price = d.reserve; rooms = d.rooms }

-- what an answer tells of reserve
abbrev pub cleared_reserve_of : {N : Type 0} → Answer N → ClearedReserve N
cleared_reserve_of a = record { quantities = a.reserve; duals = reserve_duals_of a.duals }

-- the dispatch of an answer with its duals
abbrev pub cert_of : {N : Type 0} → FactorPlaces → Bool → Answer N → Cert N
cert_of places listed a = cert.Optimal a.dispatch a.duals.energy a.duals.limits places (if_listed listed (cleared_reserve_of a))

-- the duals that show that no dispatch is feasible
abbrev pub cert_against : {N : Type 0} → FactorPlaces → Bool → infeasible.Farkas N → Cert N
cert_against places listed f = cert.Farkas f.duals.energy f.duals.limits places (if_listed listed (reserve_duals_of f.duals))

-- one of these; there is none where numbers became too large
abbrev pub cert_of_outcome : FactorPlaces → Bool → Outcome Fraction → Option (Cert Fraction)
cert_of_outcome places listed (outcome.Cleared a) = Some (cert_of places listed a)
cert_of_outcome places listed (outcome.Infeasible f) = Some (cert_against places listed f)
cert_of_outcome places listed (outcome.Range p) = None
