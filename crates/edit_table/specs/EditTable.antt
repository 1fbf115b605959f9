-- What a table of edits stands for: the steps of its records, or the first fault.
use Rattle.std.specs.Prelude.{⊤, ℕ, ℤ, ◌≤◌, ◌&&◌, Bool, true, false, List, [], ◌∷◌, codes, length, All, Option, Some, None, option_map, Result, Ok, Err, if◌then◌else◌}
use Rattle.std.specs.Option.{option_map_or}
use Rattle.std.specs.Str.{bytes_eq}
use Rattle.market_data.specs.Participants.{IsDatum}
use Rattle.market_data.specs.Scales.{mw_places, price_places}
use Rattle.market_model.specs.declared.participants.Side.{Side}
use Rattle.market_model.specs.declared.participants.Side.TheVariants.{Sell, Buy}
use Rattle.record_reading.specs.Records.{Record, cell_of}
use Rattle.record_reading.specs.Steps.{and_then, or_as}
use Rattle.record_reading.specs.Gathering.{read_records}
use Rattle.csv_table.specs.Table.{framed, number_in}
use Rattle.offer_book.specs.Edits.{number_of}
use Rattle.offer_book.specs.declared.edit_parts.Edit.TheVariants as edit
use Rattle.offer_book.specs.Reserving.{is_empty}
use Rattle.edit_table.specs.declared.Form.{Form}
use Rattle.edit_table.specs.declared.Form.TheVariants as form
use Rattle.edit_table.specs.declared.Step.{Step}
use Rattle.edit_table.specs.declared.Step.TheVariants as step
use Rattle.edit_table.specs.declared.StepFault.{StepFault}
use Rattle.edit_table.specs.declared.StepFault.TheVariants as fault

-- the most steps of a table
abbrev pub most_steps : ℕ
most_steps = 10000

-- ---- the columns
abbrev pub edit_header : Record
edit_header = codes "op" ∷ codes "target" ∷ codes "side" ∷ codes "block" ∷ codes "value" ∷ []

abbrev pub op : ℕ
op = 0

abbrev pub target : ℕ
target = 1

abbrev pub side : ℕ
side = 2

abbrev pub block : ℕ
block = 3

abbrev pub value : ℕ
value = 4

-- ---- the words of a record
abbrev pub says_at : Record → ℕ → List ℕ → Bool
says_at r col word = bytes_eq (cell_of r col) word

-- a record of its first word and its number, and one of its first word alone
abbrev pub is_plain : Record → Bool
is_plain r = is_empty r target && is_empty r side && is_empty r block

abbrev pub is_bare : Record → Bool
is_bare r = is_plain r && is_empty r value

-- the side of an offer
unfoldable pub side_in : Record → Option Side
side_in r = if says_at r side (codes "sell") then Some Sell else if says_at r side (codes "buy") then Some Buy else None

-- whether a limit is that after an outage
unfoldable pub post_in : Record → Option Bool
post_in r = if says_at r side (codes "base") then Some false else if says_at r side (codes "post") then Some true else None

-- what a record is, as its words say: its first cell names it, and those that it has no use for are empty
unfoldable pub form_in : Record → Option Form
form_in r =
    if says_at r op (codes "price") then option_map (λ s. form.Price s) (side_in r)
    else if says_at r op (codes "quantity") then option_map (λ s. form.Quantity s) (side_in r)
    else if says_at r op (codes "demand") && is_empty r side && is_empty r block then Some form.Demand
    else if says_at r op (codes "limit") && is_empty r block then option_map (λ post. form.Limit post) (post_in r)
    else if says_at r op (codes "need") && is_plain r then Some form.Need
    else if says_at r op (codes "clear") && is_bare r then Some form.Clear
    else None

-- ---- the numbers of a record
-- the number in a cell, in units of so many places
abbrev pub number : ℕ → Record → ℕ → ℕ → Result ℤ StepFault
number line r col places = or_as fault.Frame (number_in line r col places)

-- the step of a record of a form: its numbers, from left to right
unfoldable pub numbers_in : ℕ → Record → Form → Result Step StepFault
numbers_in line r (form.Price side) =
    and_then (number line r target 0) (λ unit.
    and_then (number line r block 0) (λ place.
    and_then (number line r value price_places) (λ price.
    Ok (step.Edit (edit.Price unit side place price)))))
numbers_in line r (form.Quantity side) =
    and_then (number line r target 0) (λ unit.
    and_then (number line r block 0) (λ place.
    and_then (number line r value mw_places) (λ mw.
    Ok (step.Edit (edit.Quantity unit side place mw)))))
numbers_in line r form.Demand =
    and_then (number line r target 0) (λ bus.
    and_then (number line r value mw_places) (λ mw.
    Ok (step.Edit (edit.Demand bus mw))))
numbers_in line r (form.Limit post) =
    and_then (number line r target 0) (λ branch.
    and_then (number line r value mw_places) (λ mw.
    Ok (step.Edit (edit.Limit branch post mw))))
numbers_in line r form.Need = and_then (number line r value mw_places) (λ mw. Ok (step.Edit (edit.Need mw)))
numbers_in line r form.Clear = Ok step.Clear

-- a record's words first, then its numbers
unfoldable pub step_in : ℕ → Record → Result Step StepFault
step_in line r = option_map_or (numbers_in line r) (form_in r) (Err (fault.Word line))

-- the steps that the bytes stand for, in the order of their records
unfoldable pub steps_of_table : List ℕ → Result (List Step) StepFault
steps_of_table bytes = and_then (framed fault.Frame edit_header (Some most_steps) bytes) (read_records (λ _. step_in) [] 2)

-- ---- what is kept of steps
-- an edit's number has at most 63 bits
abbrev pub IsStep : Step → Type 0
IsStep (step.Edit e) = IsDatum (number_of e)
IsStep step.Clear = ⊤

pub record AreSteps (list : List Step) : Type 0 where
  pub count : length list ≤ most_steps
  pub steps : All IsStep list
