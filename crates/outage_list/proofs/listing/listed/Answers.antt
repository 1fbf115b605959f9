use Rattle.std.proofs.Common.{rules, arith, ◌≡◌, ◌<◌, ◌+◌, ◌∷◌, ◌++◌, ◌∙◌, ℤ, List, pos, ap, Ok, Err, [], length, map, get_or, drop, length-append, append_assoc, w64}
use mir.Val.{SFits, to_z, of_z}
use Rattle.std.proofs.lemmas.Int.{to_z-of_z}
use Rattle.std.proofs.lemmas.List.{drop_more, map-append}
use Rattle.outage_list.specs.Listing.{IsTold}
use Rattle.outage_list.proofs.ListingLemmas.{outages-push, told-first}
use Rattle.outage_list.proofs.listing.listed.Goals as goal

pub returns-in_err-row : goal.returns-in_err-row
returns-in_err-row c =
    let lt : c.loop-place.place < length c.args.rows.now = rw c.slice-number-items.ensures at c.loop-place-test.true in
    let number = get_or c.args.rows.now c.loop-place.place (pos 0) in
    let given : c.from_residual.result ≡ Err c.in_err-row.field-0.0 = search rules in
    let f : SFits w64 (get_or c.slice-number-items.result.now c.loop-place.place (pos 0)) = search rules in
    let fits : to_z w64 (of_z w64 number) ≡ number = to_z-of_z w64 number (rw c.slice-number-items.ensures at f) in
    let line : c.loop-place.place + 2 ≡ length c.loop-place.outages + 2 = omega arith in
    let told : IsTold c.args.network.now c.loop-place.outages number (length c.loop-place.outages + 2) (Err c.in_err-row.field-0.0) = rw (c.slice.ensures, c.slice-number-items.ensures, fits, line) at c.in_err-row.ensures in
    rw given (told-first c.args.network.now c.args.rows.now c.in_err-row.field-0.0 (record {
      before = c.loop-place.outages;
      number = number;
      after = drop (c.loop-place.place + 1) c.args.rows.now;
      numbers_are = c.loop-place.invariant.numbers ∙ ap (λ (t : List ℤ). map pos c.loop-place.outages ++ t) (drop_more c.args.rows.now c.loop-place.place (pos 0) lt);
      listed = c.loop-place.invariant.listed;
      fault = told;
    }))

pub loop-place-preserved : goal.loop-place-preserved
loop-place-preserved c =
    let lt : c.loop-place.place < length c.args.rows.now = rw c.slice-number-items.ensures at c.loop-place-test.true in
    let number = get_or c.args.rows.now c.loop-place.place (pos 0) in
    let f : SFits w64 (get_or c.slice-number-items.result.now c.loop-place.place (pos 0)) = search rules in
    let fits : to_z w64 (of_z w64 number) ≡ number = to_z-of_z w64 number (rw c.slice-number-items.ensures at f) in
    let told : IsTold c.args.network.now c.loop-place.outages number (length c.loop-place.outages + 2) (Ok c.in_ok-row.row) = rw (c.slice.ensures, c.slice-number-items.ensures, fits) at c.in_ok-row.ensures in
    let added : c.push.new.self ≡ c.loop-place.outages ++ c.in_ok-row.row ∷ [] = search rules in
    let rest = c.loop-place.invariant.numbers ∙ ap (λ (t : List ℤ). map pos c.loop-place.outages ++ t) (drop_more c.args.rows.now c.loop-place.place (pos 0) lt) in
    record {
      count = ap length added ∙ length-append c.loop-place.outages (c.in_ok-row.row ∷ []) ∙ ap (λ n. n + 1) c.loop-place.invariant.count;
      listed = rw added (outages-push c.args.network.now c.loop-place.outages c.in_ok-row.row c.loop-place.invariant.listed told.1 told.2);
      numbers = rw (added, map-append pos c.loop-place.outages (c.in_ok-row.row ∷ []), append_assoc (map pos c.loop-place.outages) (pos c.in_ok-row.row ∷ []) (drop (c.loop-place.place + 1) c.args.rows.now), ← told.0) rest;
    }
