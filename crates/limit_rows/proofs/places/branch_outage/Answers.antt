use Rattle.std.proofs.Common.{◌≡◌, ℕ, ◌<◌, List, Some, length, get_or, slice_get, sym, ap, subst, ◌∙◌, arith}
use Rattle.std.specs.Prelude.{Contains}
use Rattle.market_model.proofs.ChangeLemmas.{same_default}
use Rattle.market_model.specs.declared.limits.Cause.TheVariants.{Branch}
use Rattle.market_model.specs.LimitRows.{causes, lost_lines, place_of_line}
use Rattle.limit_rows.specs.Naming.{IsCauseNamed}
use Rattle.limit_rows.proofs.GroupLemmas.{lost_line-of}
use Rattle.limit_rows.proofs.PlaceLemmas.{of_outage, of_no_outage}
use Rattle.limit_rows.proofs.places.branch_outage.Goals as goal

pub returns-then-listed-row : goal.returns-then-listed-row
returns-then-listed-row c =
    let m = c.args.market.now in
    let listed : c.slice-outages.result.now ≡ m.outages = c.slice-outages.ensures ∙ c.outages.ensures.list in
    let i = c.loop-place.place in
    let inside : i < length m.outages = let long = ap length listed in omega (arith, c.loop-place-test.true, long) in
    let is : get_or m.outages i c.args.row ≡ c.args.row = same_default m.outages i c.args.row 0 inside ∙ ap (λ (os : List ℕ). get_or os i 0) (sym listed) ∙ c.if-listed-row.true in
    let lost : slice_get (lost_lines m) i ≡ Some c.at.result.now = rw c.lost_lines.ensures.list at c.at.ensures in
    let line : c.at.result.now ≡ place_of_line m c.args.row = lost_line-of m i c.args.row c.at.result.now inside is lost in
    subst (λ (l : ℕ). Contains (causes m) (Branch l) × IsCauseNamed m (Branch l) c.args.row 0) (sym line) (of_outage m c.outages.ensures.market i c.args.row inside is)

pub returns : goal.returns
returns c =
    let m = c.args.market.now in
    let listed : c.slice-outages.result.now ≡ m.outages = c.slice-outages.ensures ∙ c.outages.ensures.list in
    of_no_outage m c.outages.ensures.market c.args.row c.requires
    (λ k lt e. c.loop-place.invariant k (let long = ap length listed in let end = c.loop-place-test.false in omega (arith, lt, long, end)) (ap (λ (os : List ℕ). get_or os k 0) listed ∙ e))
