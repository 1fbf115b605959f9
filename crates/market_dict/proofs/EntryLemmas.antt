-- What blocks count in the rows of a dictionary, and the names of its variables.
use Rattle.std.specs.Prelude.{◌≡◌, ℕ, ◌<◌, ◌+◌, ◌*◌, pos, length, Contains, Some}
use Rattle.std.specs.List.{slice_get}
use Rattle.std.proofs.Common.{arith, ap, ap₂, sym, ◌∙◌}
use Rattle.std.proofs.lemmas.Option.{slice_get_within, get_or_from_slice_get}
use Rattle.fraction_theory.specs.Fraction.{Fraction, whole}
use Rattle.market_model.specs.declared.participants.Block.{Block}
use Rattle.market_model.specs.declared.participants.Parts.{Parts}
use Rattle.market_model.specs.Dispatch.{signed_by_side, block_at}
use Rattle.market_model.specs.declared.limits.Row.{Row}
use Rattle.market_model.specs.LimitRows.{rows, unit_factor}
use Rattle.market_model.specs.Market.{IsMarket}
use Rattle.limit_rows.proofs.ApartLemmas.{names_apart}
use Rattle.limit_rows.proofs.WalkLemmas.{rows_few}
use Rattle.market_system.specs.MarketSystem.{row_name, over_name, block_sign, block_coefficient}
use Rattle.market_system.proofs.DualLists.{rows_apart}
use Rattle.market_system.proofs.RowOrder.{AreOrdered, names-ascend, row_name-at, row_place-below}

pub sign_entry : (m : Parts) (k : ℕ) (block : Block) (one entry : Fraction) → block ≡ block_at m k → one ≡ whole (pos 1) → entry ≡ signed_by_side block.side one → entry ≡ block_sign m k
sign_entry m k block one entry at is e = e ∙ ap₂ (λ (b : Block) (x : Fraction). signed_by_side b.side x) at is

pub row_entry_is : (m : Parts) (r : Row) (k : ℕ) (block : Block) → block ≡ block_at m k → signed_by_side block.side (unit_factor m r block.unit) ≡ block_coefficient m r k
row_entry_is m r k block at = ap (λ (b : Block). signed_by_side b.side (unit_factor m r b.unit)) at

-- ---- the rows of a market
-- all rows of a market are in its order
pub all_ordered : (m : Parts) → IsMarket m → AreOrdered m (rows m)
all_ordered m market = record { rows = λ r c. c; ascend = names-ascend m (rows_apart m (names_apart m market)) }

-- ---- the name of a row by its place
pub name_at_place : (m : Parts) → IsMarket m → (r : Row) (place : ℕ) → slice_get (rows m) place ≡ Some r → (place < length (rows m)) × (row_name m r ≡ length m.blocks + 1 + place)
name_at_place m market r place e =
    let inside = slice_get_within (rows m) place r e in (
      inside,
      ap (row_name m) (sym (get_or_from_slice_get (rows m) place r r e)) ∙ row_name-at m (rows_apart m (names_apart m market)) place r inside,
    )

-- its first column's too, and no name is large
pub over_at_place : (m : Parts) → IsMarket m → (r : Row) (place : ℕ) → slice_get (rows m) place ≡ Some r → over_name m r ≡ length m.blocks + 1 + length (rows m) + 2 * place
over_at_place m market r place e = let at = (name_at_place m market r place e).1 in Prim.omega (arith, at)

pub over_small : (m : Parts) → IsMarket m → (r : Row) → Contains (rows m) r → over_name m r + 1 < 10000000
over_small m market r c = Prim.omega (arith, row_place-below m r c, rows_few m market, market.block_count)
