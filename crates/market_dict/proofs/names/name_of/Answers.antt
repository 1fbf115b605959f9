use Rattle.std.proofs.Common.{◌≡◌, ◌<◌, ◌∙◌, ◌+◌, ℕ, ap, sym, subst, arith, length}
use Rattle.market_model.specs.Optimality.{all_of}
use Rattle.market_system.specs.MarketSystem.{name, IsVariableOf}
use Rattle.market_system.specs.declared.variables.Variable.TheVariants.{Over, Under, Room}
use Rattle.market_model.proofs.RoomLemmas.{listed-inside}
use Rattle.market_dict.proofs.EntryLemmas.{name_at_place, over_small}
use Rattle.limit_rows.proofs.WalkLemmas.{rows_few}
use Rattle.market_dict.proofs.names.name_of.Goals as goal

pub overflow_cast-result : goal.overflow_cast-result
overflow_cast-result c =
    let m = c.args.market.now in
    let inside : c.in-Block.place < length m.blocks = subst (IsVariableOf m (all_of m)) c.in-Block.is c.requires in
    omega (arith, inside, c.lines-lines.ensures.market.block_count)

pub overflow_add-result-in-Limit : goal.overflow_add-result-in-Limit
overflow_add-result-in-Limit c =
    let m = c.args.market.now in
    let market = c.lines-lines.ensures.market in
    let at = name_at_place m market c.in-Limit.row c.place_of.result c.place_of.ensures in
    let blocks : c.len-blocks.result ≡ length m.blocks = c.len-blocks.ensures ∙ ap length c.blocks-2.ensures.list in
    omega (arith, at.0, rows_few m market, market.block_count, blocks)

pub overflow_cast-result-in-Limit : goal.overflow_cast-result-in-Limit
overflow_cast-result-in-Limit c =
    let m = c.args.market.now in
    let market = c.lines-lines.ensures.market in
    let at = name_at_place m market c.in-Limit.row c.place_of.result c.place_of.ensures in
    let blocks : c.len-blocks.result ≡ length m.blocks = c.len-blocks.ensures ∙ ap length c.blocks-2.ensures.list in
    omega (arith, at.0, rows_few m market, market.block_count, blocks)

pub returns-in-Limit : goal.returns-in-Limit
returns-in-Limit c =
    let m = c.args.market.now in
    let at = name_at_place m c.lines-lines.ensures.market c.in-Limit.row c.place_of.result c.place_of.ensures in
    let blocks : c.len-blocks.result ≡ length m.blocks = c.len-blocks.ensures ∙ ap length c.blocks-2.ensures.list in
    ap (λ (n : ℕ). n + 1 + c.place_of.result) blocks ∙ sym at.1 ∙ ap (name m) (sym c.in-Limit.is)

pub overflow_cast-result-in-Over : goal.overflow_cast-result-in-Over
overflow_cast-result-in-Over c =
    let m = c.args.market.now in
    let here : IsVariableOf m (all_of m) (Over c.in-Over.row) = subst (IsVariableOf m (all_of m)) c.in-Over.is c.requires in
    omega (arith, over_small m c.lines-lines.ensures.market c.in-Over.row here.0, c.over_name.ensures)

pub overflow_add-result-in-Under : goal.overflow_add-result-in-Under
overflow_add-result-in-Under c =
    let m = c.args.market.now in
    let here : IsVariableOf m (all_of m) (Under c.in-Under.row) = subst (IsVariableOf m (all_of m)) c.in-Under.is c.requires in
    omega (arith, over_small m c.lines-lines.ensures.market c.in-Under.row here.0, c.over_name-in-Under.ensures)

pub overflow_cast-result-in-Under : goal.overflow_cast-result-in-Under
overflow_cast-result-in-Under c =
    let m = c.args.market.now in
    let here : IsVariableOf m (all_of m) (Under c.in-Under.row) = subst (IsVariableOf m (all_of m)) c.in-Under.is c.requires in
    omega (arith, over_small m c.lines-lines.ensures.market c.in-Under.row here.0, c.over_name-in-Under.ensures)

pub offer_name_behind-requires-clause-place : goal.offer_name_behind-requires-clause-place
offer_name_behind-requires-clause-place c = subst (IsVariableOf c.args.market.now (all_of c.args.market.now)) c.in-Offer.is c.requires

pub overflow_cast-result-in-Need : goal.overflow_cast-result-in-Need
overflow_cast-result-in-Need c =
    let m = c.args.market.now in
    let market = c.lines-lines.ensures.market in
    omega (arith, rows_few m market, market.block_count, market.reserve.count, c.need_name.ensures)

pub overflow_add-result-in-Room : goal.overflow_add-result-in-Room
overflow_add-result-in-Room c =
    let m = c.args.market.now in
    let market = c.lines-lines.ensures.market in
    omega (arith, rows_few m market, market.block_count, market.reserve.count, c.need_name-in-Room.ensures)

pub overflow_add-result-in-Room-2 : goal.overflow_add-result-in-Room-2
overflow_add-result-in-Room-2 c =
    let m = c.args.market.now in
    let market = c.lines-lines.ensures.market in
    let here : IsVariableOf m (all_of m) (Room c.in-Room.unit) = subst (IsVariableOf m (all_of m)) c.in-Room.is c.requires in
    omega (arith, listed-inside m c.in-Room.unit here, rows_few m market, market.block_count, market.unit_count, market.reserve.count, c.need_name-in-Room.ensures)

pub overflow_cast-result-in-Room : goal.overflow_cast-result-in-Room
overflow_cast-result-in-Room c =
    let m = c.args.market.now in
    let market = c.lines-lines.ensures.market in
    let here : IsVariableOf m (all_of m) (Room c.in-Room.unit) = subst (IsVariableOf m (all_of m)) c.in-Room.is c.requires in
    omega (arith, listed-inside m c.in-Room.unit here, rows_few m market, market.block_count, market.unit_count, market.reserve.count, c.need_name-in-Room.ensures)
