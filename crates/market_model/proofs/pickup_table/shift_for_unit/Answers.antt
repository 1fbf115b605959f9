use Rattle.std.proofs.Common.{◌≡◌, ℕ, Some, arith, sym}
use Rattle.std.specs.List.{slice_get}
use Rattle.std.proofs.lemmas.Option.{get_or_from_slice_get}
use Rattle.market_data.specs.declared.participants.Unit as unit
use Rattle.market_model.specs.declared.participants.Parts.{Parts}
use Rattle.market_model.specs.Dispatch.{unit_at}
use Rattle.market_model.proofs.PickupLemmas.{shift_place_few, shift_place_inside, shift_read, shift_size}
use Rattle.market_model.proofs.pickup_table.shift_for_unit.Goals as goal

read : (m : Parts) (place : ℕ) (u : unit.Unit) → slice_get m.units place ≡ Some u → u ≡ unit_at m place
read m place u e = sym (get_or_from_slice_get m.units place u _ e)

pub offset_bounds-shift-line : goal.offset_bounds-shift-line
offset_bounds-shift-line c =
    let few = shift_place_few c.args.parts.now c.requires.market c.args.shift.now c.requires.shift c.args.line c.args.unit c.requires.line c.requires.unit in
    rw (c.len.ensures, read c.args.parts.now c.args.unit c.at.result.now c.at.ensures) (omega (arith, few))

pub bounds-shift-line : goal.bounds-shift-line
bounds-shift-line c =
    rw (c.len.ensures, read c.args.parts.now c.args.unit c.at.result.now c.at.ensures)
    (shift_place_inside c.args.parts.now c.requires.market c.args.shift.now c.requires.shift c.args.line c.args.unit c.requires.line c.requires.unit)

pub returns-clause-size : goal.returns-clause-size
returns-clause-size c =
    rw (c.len.ensures, read c.args.parts.now c.args.unit c.at.result.now c.at.ensures)
    (shift_size c.args.parts.now c.requires.market c.args.shift.now c.requires.shift c.args.line c.args.unit c.requires.line c.requires.unit)

pub returns-clause-is : goal.returns-clause-is
returns-clause-is c =
    rw (c.len.ensures, read c.args.parts.now c.args.unit c.at.result.now c.at.ensures)
    (shift_read c.args.parts.now c.requires.market c.args.shift.now c.requires.shift c.args.line c.args.unit c.requires.line c.requires.unit)
