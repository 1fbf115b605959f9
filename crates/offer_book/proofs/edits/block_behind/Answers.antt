use Rattle.std.proofs.Common.{rules, ◌≡◌, ℕ, ◌+◌, ◌-◌, ◌<◌, Bool, true, false, length, ℤ, sym, subst, ◌∙◌, arith, cond, w64}
use Rattle.std.specs.Prelude.{filter}
use Rattle.std.proofs.lemmas.Int.{to_z-of_z}
use Rattle.std.proofs.lemmas.Option.{slice_get_past}
use mir.Val.{to_z, of_z}
use Rattle.market_model.specs.Dispatch.{places}
use Rattle.offer_book.specs.Edits.{is_block_of, blocks_of_side}
use Rattle.offer_book.proofs.SearchLemmas.{behind, passed-more, passed-few}
use Rattle.offer_book.proofs.edits.block_behind.Goals as goal
use Rattle.offer_book.proofs.edits.block_behind.Goals.{then-is_block_of+else-left-eq0, else-is_block_of}

pub returns-then-left-eq0 : goal.returns-then-left-eq0
returns-then-left-eq0 c =
    let m = c.args.market.now in
    let same : to_z w64 (of_z w64 c.args.row) ≡ c.args.row = to_z-of_z w64 c.args.row c.ranges.row in
    let passes : is_block_of m c.args.row c.args.side c.loop-place.place ≡ true =
    subst (λ (row : ℤ). is_block_of m row c.args.side c.loop-place.place ≡ true) same (sym c.is_block_of.ensures ∙ c.if-is_block_of.true) in
    let kept : c.loop-place.left + length (filter (is_block_of m c.args.row c.args.side) (places c.loop-place.place)) ≡ c.args.count =
    subst (λ (row : ℤ). c.loop-place.left + length (filter (is_block_of m row c.args.side) (places c.loop-place.place)) ≡ c.args.count) same c.loop-place.invariant in
    let before : length (filter (is_block_of m c.args.row c.args.side) (places c.loop-place.place)) ≡ c.args.count = omega (arith, kept, c.if-left-eq0.true) in
    let inside : c.loop-place.place < length m.blocks = search rules in
    record {
      within = inside;
      few = λ _. omega (arith, before, passed-few (is_block_of m c.args.row c.args.side) c.loop-place.place, inside, c.blocks-2.ensures.market.block_count);
      is = sym (behind (is_block_of m c.args.row c.args.side) (length m.blocks) c.loop-place.place c.args.count inside passes before);
    }

pub loop-place-preserved : goal.loop-place-preserved
loop-place-preserved c =
    let m = c.args.market.now in
    let p = is_block_of m (to_z w64 (of_z w64 c.args.row)) c.args.side in
    let more = passed-more p c.loop-place.place in
    let kept : c.loop-place.left + length (filter p (places c.loop-place.place)) ≡ c.args.count = c.loop-place.invariant in
    let test : c.is_block_of.result ≡ p c.loop-place.place = c.is_block_of.ensures in
    elim c.if-is_block_of.branch [
      | then-is_block_of+else-left-eq0 w ↦ passed (p c.loop-place.place) _ _ _ (sym test ∙ w.if-is_block_of.true) more (λ h. w.if-left-eq0.false h) w.left-is kept
      | else-is_block_of w ↦ passed_over (p c.loop-place.place) _ _ _ (sym test ∙ w.if-is_block_of.false) more w.left-is kept
    ]
  where
    passed : (b : Bool) (left' after before : ℕ) {left count : ℕ} → b ≡ true → after ≡ before + cond b 1 0 → (left ≡ 0 → ⊥) → left' ≡ left - 1 → left + before ≡ count → left' + after ≡ count
    passed true left' after before e more more_left is kept = omega arith
    passed false left' after before e more more_left is kept = absurd (cc)

    passed_over : (b : Bool) (left' after before : ℕ) {left count : ℕ} → b ≡ false → after ≡ before + cond b 1 0 → left' ≡ left → left + before ≡ count → left' + after ≡ count
    passed_over true left' after before e more is kept = absurd (cc)
    passed_over false left' after before e more is kept = omega arith

pub returns-clause-is : goal.returns-clause-is
returns-clause-is c =
    let m = c.args.market.now in
    let same : to_z w64 (of_z w64 c.args.row) ≡ c.args.row = to_z-of_z w64 c.args.row c.ranges.row in
    let kept : c.loop-place.left + length (filter (is_block_of m c.args.row c.args.side) (places c.loop-place.place)) ≡ c.args.count =
    subst (λ (row : ℤ). c.loop-place.left + length (filter (is_block_of m row c.args.side) (places c.loop-place.place)) ≡ c.args.count) same c.loop-place.invariant in
    let end : c.loop-place.place ≡ length m.blocks = search (rules, arith) in
    let all : c.loop-place.left + length (filter (is_block_of m c.args.row c.args.side) (places (length m.blocks))) ≡ c.args.count =
    subst (λ (n : ℕ). c.loop-place.left + length (filter (is_block_of m c.args.row c.args.side) (places n)) ≡ c.args.count) end kept in
    sym (slice_get_past (blocks_of_side m c.args.row c.args.side) c.args.count (omega (arith, all)))
