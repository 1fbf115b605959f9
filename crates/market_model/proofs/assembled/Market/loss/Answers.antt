use Rattle.std.proofs.Common.{rules, ◌≡◌, ◌<◌, ◌≤◌, length, w64, arith, sym, ap, subst, ◌∙◌, slice_index_or, vec_len}
use mir.Val.{to_z, of_z}
use Rattle.market_data.specs.Scales.{most_outages}
use Rattle.market_model.specs.declared.participants.Parts.{Parts}
use Rattle.market_model.specs.Factors.{factor_in}
use Rattle.market_model.proofs.LostLemmas.{lost_few, loss_read, outage_read, place_few, place_inside, row_few}
use Rattle.market_model.proofs.assembled.Market.loss.Goals as goal

module _ (c : goal.After-len) where
  line_inside : c.args.line < length c.self.inside.parts.lines
  line_inside = subst (λ (m : Parts). c.args.line < length m.lines) (sym c.self.view_is) c.requires.line

  lost_inside : c.args.lost < length c.self.inside.parts.lines
  lost_inside = subst (λ (m : Parts). c.args.lost < length m.lines) (sym c.self.view_is) c.requires.lost

  at : (c.in-Some.outage < length c.self.inside.lost) × (slice_index_or c.self.inside.lost c.in-Some.outage 0 ≡ c.args.lost)
  at = outage_read c.self.inside.parts c.self.invariant.0 c.self.inside.lost c.self.inside.index.items c.self.inside.loss.items c.self.invariant.3 c.args.lost c.in-Some.outage c.index.result.now lost_inside c.index.ensures c.in-Some.is

  few : length c.self.inside.lost ≤ most_outages
  few = lost_few c.self.inside.parts c.self.invariant.0 c.self.inside.lost c.self.inside.index.items c.self.inside.loss.items c.self.invariant.3

pub overflow_mul-outage : goal.overflow_mul-outage
overflow_mul-outage c =
    let r = row_few (length c.self.inside.parts.lines) (length c.self.inside.lost) c.self.invariant.0.line_count (few c) c.in-Some.outage c.args.line (at c).0 (line_inside c) in
    rw c.len.ensures (omega (arith, r))

pub overflow_add-outage : goal.overflow_add-outage
overflow_add-outage c =
    let r = place_few (length c.self.inside.parts.lines) (length c.self.inside.lost) c.self.invariant.0.line_count (few c) c.in-Some.outage c.args.line (at c).0 (line_inside c) in
    rw c.len.ensures (omega (arith, r))

pub index-requires-in-Some : goal.index-requires-in-Some
index-requires-in-Some c =
    let r = place_inside (length c.self.inside.parts.lines) (length c.self.inside.lost) c.self.invariant.0.line_count (few c) c.in-Some.outage c.args.line (at c).0 (line_inside c) c.self.inside.loss.items c.self.invariant.3.factors.count in
    let long : vec_len c.self.inside.loss ≡ length c.self.inside.loss.items = search rules in
    rw (c.len.ensures, long) r

pub returns-in-Some : goal.returns-in-Some
returns-in-Some c =
    let m = c.self.inside.parts in
    let market = c.self.invariant.0 in
    let lost = c.self.inside.lost in
    let index = c.self.inside.index.items in
    let table = c.self.inside.loss.items in
    let are = c.self.invariant.3 in
    let line_in : c.args.line < length c.self.inside.parts.lines = subst (λ (m : Parts). c.args.line < length m.lines) (sym c.self.view_is) c.requires.line in
    let lost_in : c.args.lost < length c.self.inside.parts.lines = subst (λ (m : Parts). c.args.lost < length m.lines) (sym c.self.view_is) c.requires.lost in
    let known : to_z w64 (of_z w64 c.index-in-Some.result.now) ≡ c.index-in-Some.result.now = search rules in
    let at = outage_read m market lost index table are c.args.lost c.in-Some.outage c.index.result.now lost_in c.index.ensures c.in-Some.is in
    let read = rw c.len.ensures at c.index-in-Some.ensures in
    known
    ∙ loss_read m market lost index table are c.args.line c.args.lost c.in-Some.outage c.index-in-Some.result.now line_in at read
    ∙ ap (λ (m : Parts). factor_in m.loss c.args.line c.args.lost) c.self.view_is
