-- A market is of energy alone exactly where its table of reserves has no records.
use Rattle.std.proofs.Common.{◌≡◌, ◌∙◌, ◌∷◌, [], ap, arith, refl, sym, suc, ℕ, Bool, true, List, length, Some, Result, Ok, Err}
use Rattle.std.specs.Prelude.{◌↔◌, nat_lt}
use Rattle.std.proofs.lemmas.Bool.{false≢true, lt-ltb}
use Rattle.csv.proofs.OnLiterals.{csv_on_literals}
use Rattle.csv_table.specs.Table.{frame_of, header_line, table_of}
use Rattle.market_data.specs.declared.participants.UnitList.{UnitList}
use Rattle.market_model.specs.declared.participants.Reserve.{Reserve}
use Rattle.market_model.specs.Reserves.{no_reserve}
use Rattle.record_reading.specs.Records.{Record, first_ragged}
use Rattle.record_reading.specs.Steps.{and_then, or_as}
use Rattle.record_reading.specs.declared.FrameFault.{FrameFault}
use Rattle.offer_book.specs.declared.reserve_reading.ReserveFault.{ReserveFault}
use Rattle.offer_book.specs.declared.reserve_reading.ReserveFault.TheVariants as fault
use Rattle.offer_book.specs.Reserving.{found_from, nothing_found, reserve_from, reserve_header, reserve_in, reserve_of_table}
use Rattle.market_inputs.specs.Tables.{ListsNoReserve}
use Rattle.market_data.specs.Scales.{most_reserves}

-- what is made of something is listed or not, whatever it is made of
made-listed : {A : Type 0} (f : Result A ReserveFault) (make : A → Reserve) (listed : Bool) → ((x : A) → (make x).listed ≡ listed) → (r : Reserve) → and_then f (λ x. Ok (make x)) ≡ Ok r → r.listed ≡ listed
made-listed (Ok x) make listed each r made = let same : make x ≡ r = cc made in sym (ap (λ (reserve : Reserve). reserve.listed) same) ∙ each x
made-listed (Err e) make listed each r made = absurd (cc made)

module _ (units : UnitList) where
  -- reserve is listed exactly where there is a record
  listed-is : (rows : List Record) (r : Reserve) → reserve_in units rows ≡ Ok r → r.listed ≡ nat_lt 0 (length rows)
  unfolding reserve_in
  listed-is rows r is = made-listed (found_from units nothing_found 2 rows) (reserve_from (length rows)) (nat_lt 0 (length rows)) (λ found. refl) r is

  -- no records make none
  none-made : (r : Reserve) → reserve_in units [] ≡ Ok r → r ≡ no_reserve
  unfolding reserve_in found_from
  none-made r is = let same : no_reserve ≡ r = cc is in sym same

  module _ (text : List ℕ) (r : Reserve) where
    by_frame : (framed : Result (List Record) FrameFault) → frame_of reserve_header (Some most_reserves) (table_of text) ≡ framed → and_then (or_as fault.Frame framed) (reserve_in units) ≡ Ok r
        → (r ≡ no_reserve) ↔ ListsNoReserve text
    by_frame (Err e) fits made = absurd (cc made)
    by_frame (Ok []) fits made = (λ _. fits, λ _. none-made r made)
    by_frame (Ok (row ∷ rows)) fits made =
        let listed : r.listed ≡ true = listed-is (row ∷ rows) r made ∙ lt-ltb 0 (suc (length rows)) (omega arith) in
        (λ none. absurd (false≢true (sym (ap (λ (x : Reserve). x.listed) none) ∙ listed)), λ empty. absurd (cc (sym fits ∙ empty)))

    pub none-listed : reserve_of_table units text ≡ Ok r → (r ≡ no_reserve) ↔ ListsNoReserve text
    unfolding reserve_of_table
    none-listed made = by_frame (frame_of reserve_header (Some most_reserves) (table_of text)) refl made

-- the header alone, as a table that is not named stands for it, has no records
pub header-lists-none : ListsNoReserve (header_line reserve_header)
unfolding csv_on_literals first_ragged frame_of table_of
header-lists-none = refl
