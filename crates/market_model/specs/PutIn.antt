-- What buses put in, by lists of numbers, and what may be refused of that.
use Rattle.std.specs.Prelude.{◌≡◌, ◌⊎◌, ℕ, ◌+◌, List, length, map, slice_index_or}
use Rattle.fraction_theory.specs.Fraction.{Fraction, whole, ◌-ℚ◌}
use Rattle.exact_fraction.specs.declared.Op.TheVariants.{Minus}
use Rattle.exact_fraction.specs.declared.Passed.{Passed}
use Rattle.market_data.specs.declared.participants.Bus.{Bus}
use Rattle.market_model.specs.declared.participants.Parts.{Parts}
use Rattle.market_model.specs.Dispatch.{Dispatch, zero, places, injection, dispatch_by}
use Rattle.market_model.specs.LimitRows.{Carried, carried, carried_list}
use Rattle.market_model.specs.NamedSums.{IsRefusal}

-- the accepted MW of each block, as numbers, and no reserve
abbrev pub dispatch_of : {N : Type 0} → (N → Fraction) → List N → Dispatch
dispatch_of value xs = dispatch_by (map value xs)

-- by place, what a list says; 0 past its end
abbrev pub put_in : List Fraction → ℕ → Fraction
put_in mws i = slice_index_or mws i zero

-- what is carried, by a list of the flows of lines and then of the outputs of lost units
abbrev pub carried_in : Parts → List Fraction → Carried
carried_in m mws = record { line = put_in mws; lost = λ k. put_in mws (length m.lines + k) }

-- the list of what is carried at a dispatch
abbrev pub AreCarried : Parts → Dispatch → List Fraction → Type 0
AreCarried m x mws = mws ≡ carried_list m (carried m x)

-- what each bus puts in at a dispatch
abbrev pub injections_at : Parts → Dispatch → List Fraction
injections_at m x = map (injection m x) (places (length m.buses))

abbrev pub AreInjections : Parts → Dispatch → List Fraction → Type 0
AreInjections m x mws = mws ≡ injections_at m x

-- a difference refused where a sum is lowered by a bus's load, and then by its shunt
abbrev pub IsDemandRefusal : Fraction → Bus → ℕ → Passed Fraction → Type 0
IsDemandRefusal sum bus bound p = IsRefusal Minus sum (whole bus.pd) bound p ⊎ IsRefusal Minus (sum -ℚ whole bus.pd) (whole bus.gs) bound p
