use Rattle.std.proofs.Common.{◌≡◌, ◌<◌, ◌+◌, ◌∙◌, sym, ap, length, pos, arith, ℕ, Bool, List}
use Rattle.std.specs.Prelude.{count_by, slice_index_or}
use Rattle.std.proofs.lemmas.List.{length-take-le, get_or-take}
use Rattle.market_model.specs.declared.participants.Block.{Block}
use Rattle.market_model.specs.declared.participants.Side.TheVariants.{Sell}
use Rattle.market_model.specs.Dispatch.{places, block_at}
use Rattle.report_text.specs.Reports.{alike, block_number}
use Rattle.report_text.proofs.ReportLemmas.{number_more, number_same, count-le}
use Rattle.report_text.proofs.answer.number_of.Goals as goal
use Rattle.report_text.proofs.answer.number_of.Goals.{then-is_alike, else-is_alike}

pub overflow_add-number : goal.overflow_add-number
overflow_add-number c =
    let m = c.args.market.now in
    let blocks = c.slice-blocks.ensures ∙ c.blocks-2.ensures.list in
    omega (
      arith,
      count-le (λ k. alike (block_at m k) (block_at m c.args.place)) c.loop-other.other-index,
      c.loop-other.invariant,
      c.blocks-2.ensures.market.block_count,
      ap length blocks,
      length-take-le c.args.place c.slice-blocks.result.now (omega (arith, ap length blocks)),
    )

pub loop-other-preserved : goal.loop-other-preserved
loop-other-preserved c =
    let m = c.args.market.now in
    let j = c.args.place in
    let k = c.loop-other.other-index in
    let test : ℕ → Bool = λ k. alike (block_at m k) (block_at m j) in
    let blocks = c.slice-blocks.ensures ∙ c.blocks-2.ensures.list in
    let before : k < j = omega (arith, ap length blocks, length-take-le j c.slice-blocks.result.now (omega (arith, ap length blocks))) in
    let taken = get_or-take j c.slice-blocks.result.now k (record { unit = 0; side = Sell; quantity = pos 0; price = pos 0 }) before in
    let tested =
    c.is_alike.ensures ∙ ap (λ (b : Block). alike b (slice_index_or c.slice-blocks.result.now j (record { unit = 0; side = Sell; quantity = pos 0; price = pos 0 }))) taken
    ∙ ap (λ (bs : List Block). alike (slice_index_or bs k (record { unit = 0; side = Sell; quantity = pos 0; price = pos 0 })) (slice_index_or bs j (record { unit = 0; side = Sell; quantity = pos 0; price = pos 0 }))) blocks in
    elim c.if-is_alike.branch [
      | then-is_alike w ↦ number_more test k c.loop-other.number c.if-is_alike.number (sym tested ∙ w.if-is_alike.true) c.loop-other.invariant w.number-is
      | else-is_alike w ↦ number_same test k c.loop-other.number c.if-is_alike.number (sym tested ∙ w.if-is_alike.false) c.loop-other.invariant w.number-is
    ]

pub returns : goal.returns
unfolding block_number
returns c =
    let m = c.args.market.now in
    let j = c.args.place in
    let blocks = c.slice-blocks.ensures ∙ c.blocks-2.ensures.list in
    let all : c.loop-other.other-index ≡ j = omega (arith, ap length blocks, length-take-le j c.slice-blocks.result.now (omega (arith, ap length blocks))) in
    c.loop-other.invariant ∙ ap (λ n. 1 + count_by (λ k. alike (block_at m k) (block_at m j)) (places n)) all
