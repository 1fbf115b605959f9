-- The line that tells whether a certificate holds.
use Rattle.std.specs.Prelude.{ℕ, ◌==◌, List, [], ◌++◌, codes, decimal, if◌then◌else◌, Option, Some, None}
use Rattle.market_model.specs.declared.answered.RowId.{RowId}
use Rattle.cert_verify.specs.declared.verdicts.Reason.{Reason}
use Rattle.cert_verify.specs.declared.verdicts.Reason.TheVariants as reason

-- the gen row of the unit that is lost; nothing where none is
abbrev pub unit_words : ℕ → List ℕ
unit_words unit = if unit == 0 then [] else codes " unit " ++ decimal unit

-- a limit by the rows of its branch and of the lost one, 0 where none is, and of the lost unit
unfoldable pub row_words : RowId → List ℕ
row_words id = codes " branch " ++ decimal id.branch ++ codes " outage " ++ decimal id.outage ++ unit_words id.unit

-- a unit whose room is meant, by its gen row
abbrev pub room_words : ℕ → List ℕ
room_words unit = codes " unit " ++ decimal unit

-- a reason by its name, and where it is: a row, a unit, or the place of a block or of an offer of reserve
unfoldable pub reason_words : Reason → List ℕ
reason_words reason.Places = codes "Places"
reason_words reason.Count = codes "Count"
reason_words (reason.NoRow id) = codes "NoRow" ++ row_words id
reason_words (reason.NoUnit unit) = codes "NoUnit" ++ room_words unit
reason_words (reason.Sign id) = codes "Sign" ++ row_words id
reason_words reason.NeedSign = codes "NeedSign"
reason_words (reason.RoomSign unit) = codes "RoomSign" ++ room_words unit
reason_words (reason.Block n) = codes "Block " ++ decimal n
reason_words (reason.Reserve n) = codes "Reserve " ++ decimal n
reason_words reason.Balance = codes "Balance"
reason_words reason.Need = codes "Need"
reason_words (reason.Limit id) = codes "Limit" ++ row_words id
reason_words (reason.Room unit) = codes "Room" ++ room_words unit
reason_words (reason.Slack id) = codes "Slack" ++ row_words id
reason_words reason.NeedSlack = codes "NeedSlack"
reason_words (reason.RoomSlack unit) = codes "RoomSlack" ++ room_words unit
reason_words (reason.Support n) = codes "Support " ++ decimal n
reason_words (reason.ReserveSupport n) = codes "ReserveSupport " ++ decimal n
reason_words reason.Bound = codes "Bound"

unfoldable pub verdict_line : Option Reason → List ℕ
verdict_line None = codes "yes\n"
verdict_line (Some r) = codes "no " ++ reason_words r ++ codes "\n"
