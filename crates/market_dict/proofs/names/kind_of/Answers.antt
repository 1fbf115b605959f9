use Rattle.std.proofs.Common.{◌≡◌, ◌∙◌, ap, sym, arith, length}
use Rattle.limit_rows.proofs.WalkLemmas.{rows_few}
use Rattle.market_dict.proofs.KindLemmas.{first_columns, late_columns, the_need, a_room}
use Rattle.market_dict.proofs.names.kind_of.Goals as goal

pub overflow_add-columns-2 : goal.overflow_add-columns-2
overflow_add-columns-2 c =
    let m = c.args.market.now in
    let market = c.lines-lines.ensures.market in
    let blocks : c.len-balance.result ≡ length m.blocks = c.len-balance.ensures ∙ ap length c.blocks-2.ensures.list in
    omega (arith, c.requires, rows_few m market, market.block_count, blocks)

pub returns-then-place-balance : goal.returns-then-place-balance
returns-then-place-balance c =
    let m = c.args.market.now in
    let blocks : c.len-balance.result ≡ length m.blocks = c.len-balance.ensures ∙ ap length c.blocks-2.ensures.list in
    λ v is at. sym (first_columns m v is (omega (arith, c.if-place-balance.true, blocks, at)))

pub returns-then-place-need : goal.returns-then-place-need
returns-then-place-need c =
    let m = c.args.market.now in
    let blocks : c.len-balance.result ≡ length m.blocks = c.len-balance.ensures ∙ ap length c.blocks-2.ensures.list in
    λ v is at. sym (late_columns m v is (omega (arith, c.if-place-columns.false, c.requires, blocks, at)) (omega (arith, c.if-place-need.true, c.need_name-need.ensures, at)))

pub returns-then-place-need-2 : goal.returns-then-place-need-2
returns-then-place-need-2 c = λ v is at. sym (the_need c.args.market.now v is (omega (arith, c.if-place-need-2.true, c.need_name-need.ensures, at)))

pub returns-else-place-need-2 : goal.returns-else-place-need-2
returns-else-place-need-2 c = λ v is at. sym (a_room c.args.market.now v _ is (omega (arith, c.if-place-need.false, c.if-place-need-2.false, c.need_name-need.ensures, at)))
