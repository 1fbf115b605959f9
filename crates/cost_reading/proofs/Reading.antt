-- Points that are read one by one.
use Rattle.std.specs.Prelude.{◌≡◌, ℕ, ◌+◌, ◌<◌, List, [], ◌∷◌, ◌++◌, length, pos}
use Rattle.std.proofs.Common.{arith, subst}
use Rattle.std.proofs.Math.ListN.{get_or-append}
use Rattle.std.proofs.Math.Seq.{get_or-append_seam}
use borrow.Author.Count.{below_more}
use Rattle.record_reading.specs.Records.{Record}
use Rattle.cost_steps.specs.declared.costs.CostPoint.{CostPoint}
use Rattle.cost_steps.specs.Costs.{point_at}
use Rattle.cost_reading.specs.CostRows.{ArePoints, HasCount, HasModel}
use Rattle.cost_reading.specs.Cells.{IsPoint}

-- each of so many is the point of its place
abbrev pub AreRead : Record → ℕ → List CostPoint → Type 0
AreRead r n points = (i : ℕ) → i < n → IsPoint r i (point_at points i)

-- the point of the next place is added
pub one_more : (r : Record) (n : ℕ) (points : List CostPoint) (p : CostPoint) → length points ≡ n → AreRead r n points → IsPoint r n p → AreRead r (n + 1) (points ++ p ∷ [])
one_more r n points p count read next = below_more (λ i. IsPoint r i (point_at (points ++ p ∷ []) i)) n
    (λ i inside. rw (get_or-append points (p ∷ []) (record { output = pos 0; cost = pos 0 }) i (omega arith)) (read i inside))
    (subst (λ (i : ℕ). IsPoint r n (point_at (points ++ p ∷ []) i)) count (rw (get_or-append_seam points p [] (record { output = pos 0; cost = pos 0 })) next))

-- all of them are read
pub all_read : (r : Record) (n : ℕ) (points : List CostPoint) → HasModel r 1 → HasCount r 2 2 n → length points ≡ n → AreRead r n points → ArePoints r points
all_read r n points model count is read = record {
  model = model;
  count = rw is count;
  output = λ i inside. (read i (rw is at inside)).output;
  cost = λ i inside. (read i (rw is at inside)).cost;
}
