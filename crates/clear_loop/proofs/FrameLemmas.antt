-- What is kept stays a start where a market is edited.
use Rattle.std.proofs.Common.{Some, None, ◌∙◌, ap, map}
use Rattle.std.specs.Prelude.{Option}
use Rattle.linear_dict.specs.Dictionaries.{Dictionary}
use Rattle.market_model.specs.declared.answered.RowId.{RowId}
use Rattle.market_model.specs.declared.participants.Parts.{Parts}
use Rattle.market_model.specs.Frame.{SameFrame}
use Rattle.market_model.specs.Optimality.{rows_alone}
use Rattle.market_model.specs.declared.limits.Row.{Row}
use Rattle.market_system.proofs.FrameLaws.{law_of_the_frame}
use Rattle.market_dict.proofs.HoldingLaws.{holds_in_frame}
use Rattle.clear_loop.specs.Keeping.{AreListed, IsStartOf}
use Rattle.clear_loop.specs.Laws.{LawOfTheStart}
use Rattle.clear_loop.specs.declared.hand.TakenInOrder.{TakenInOrder}

listed_moved : (m n : Parts) (t : TakenInOrder) → SameFrame m n → AreListed m t → AreListed n t
listed_moved m n t same are = record { rows = are.rows; names = are.names ∙ ap (λ (f : Row → RowId). map f t.rows) (law_of_the_frame m n (rows_alone t.rows) same).0.ids }

moved : (m n : Parts) (t : TakenInOrder) (start : Option Dictionary) → SameFrame m n → IsStartOf m t start → IsStartOf n t start
moved m n t None same is = is
moved m n t (Some d) same is = (holds_in_frame m n t.takings d same is.0, listed_moved m n t same is.1)

pub law_of_the_start : LawOfTheStart
law_of_the_start m n k same fits = moved m n k.taken k.dict same fits
