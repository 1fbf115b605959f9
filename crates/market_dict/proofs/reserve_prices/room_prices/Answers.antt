use Rattle.std.proofs.Common.{◌≡◌, ◌<◌, ◌≤◌, ◌∙◌, ℕ, List, [], map, ap, ap₂, refl, sym, subst, length, arith}
use Rattle.std.proofs.lemmas.List.{append-nil}
use Rattle.fraction_theory.specs.Fraction.{Fraction}
use Rattle.fraction_theory.specs.Signs.{sign_of}
use Rattle.market_model.specs.Optimality.{all_of}
use Rattle.market_model.specs.Valued.{room_dual_at}
use Rattle.market_model.proofs.PutInSteps.{unit_read}
use Rattle.market_model.proofs.RoomLemmas.{listed-inside}
use Rattle.market_system.specs.declared.variables.Variable.TheVariants as variable
use Rattle.market_system.specs.MarketSystem.{taken_in_order, room_dual_by, variables, IsVariableOf}
use Rattle.market_dict.specs.declared.names.DualKind.TheVariants as kind
use Rattle.market_dict.specs.declared.taking.Taking.{Taking}
use Rattle.market_dict.specs.Holding.{HoldsMarket}
use Rattle.market_dict.specs.Kinds.{kind_of}
use Rattle.market_dict.specs.Takings.{taken_of}
use Rattle.market_dict.proofs.KindLemmas.{no_room_dual, room_of_kind}
use Rattle.market_dict.proofs.ReadingLemmas.{at_name, at_rank, name_count, rank_is, rank_inside, rank_cost, room_dual_of, listed_step, room_duals_all}
use Rattle.market_dict.proofs.reserve_prices.room_prices.Goals as goal
use Rattle.market_dict.proofs.reserve_prices.room_prices.Goals.{in-Room+in_ok-push_room_dual-in-Room, in-Column, in-Balance, in-Limit, in-Need}

pub at-requires : goal.at-requires
at-requires g c =
    let m = c.args.market.now in
    let h = c.requires.holds in
    let d = c.args.dict.now in
    let market = c.lines-lines.ensures.market in
    let k = c.loop-rank.rank in
    let lt : k < length d.names = omega (arith, c.loop-rank-test.true, c.requires.costs) in
    let read = at_name m h.0 d market h.1 (λ v. c.kind_of.result ≡ kind_of m v) k c.ranked.result lt c.ranked.ensures c.kind_of.ensures in
    let room = room_of_kind m (at_rank m h.0 d market h.1 k) c.in-Room.unit (sym read ∙ c.in-Room.is) in
    omega (arith, listed-inside m c.in-Room.unit (subst (IsVariableOf m (all_of m)) room (rank_is m h.0 d market h.1 k lt)), ap length c.units.ensures.list)

pub loop-rank-preserved : goal.loop-rank-preserved
loop-rank-preserved g c =
    let m = c.args.market.now in
    let d = c.args.dict.now in
    let market = c.lines-lines.ensures.market in
    let k = c.loop-rank.rank in
    let worth = g.N.Exact.value in
    let test = c.loop-rank-test.true in
    let lt : k < length d.names = omega (arith, test, c.requires.costs) in
    let vs : List Taking → List _ = λ ts. variables m (taken_in_order m (taken_of ts)) in
    let read : (ts : List Taking) (holds : HoldsMarket m ts d) → c.kind_of.result ≡ kind_of m (at_rank m ts d market holds k) =
    λ ts holds. at_name m ts d market holds (λ v. c.kind_of.result ≡ kind_of m v) k c.ranked.result lt c.ranked.ensures c.kind_of.ensures in
    elim c.match-kind_of.branch [
      | in-Room+in_ok-push_room_dual-in-Room w ↦ λ ts cost holds same.
          let room = room_of_kind m (at_rank m ts d market holds k) w.in-Room.unit (sym (read ts holds) ∙ w.in-Room.is) in
          let row = unit_read m w.units.result.now w.in-Room.unit w.in-Room.unit w.at.result.now w.units.ensures.list refl w.at.ensures in
          let priced = rank_cost m ts d market holds worth cost c.args.costs.now k w.index-costs-rank.result (variable.Room w.in-Room.unit) same test lt w.index-costs-rank.is room in
          listed_step (room_dual_of m cost) (vs ts) k (variable.Room w.in-Room.unit) _ _ _ (rank_inside m ts d market holds k lt) room (c.loop-rank.invariant ts cost holds same)
          (ap (map (room_dual_at worth)) w.rooms-is ∙ w.in_ok-push_room_dual-in-Room.ensures) (ap₂ (λ (id : ℕ) (x : Fraction). room_dual_by id x (sign_of x)) (λ i. (row i).row) priced)
      | in-Column w ↦ λ ts cost holds same.
          let v = at_rank m ts d market holds k in
          let none = no_room_dual m cost v c.kind_of.result (read ts holds) (λ p e. let wrong : kind.Column ≡ kind.Room p = sym w.in-Column.is ∙ e in absurd cc) in
          listed_step (room_dual_of m cost) (vs ts) k v _ _ [] (rank_inside m ts d market holds k lt) refl (c.loop-rank.invariant ts cost holds same) (ap (map (room_dual_at worth)) w.rooms-is ∙ sym (append-nil _)) (sym none)
      | in-Balance w ↦ λ ts cost holds same.
          let v = at_rank m ts d market holds k in
          let none = no_room_dual m cost v c.kind_of.result (read ts holds) (λ p e. let wrong : kind.Balance ≡ kind.Room p = sym w.in-Balance.is ∙ e in absurd cc) in
          listed_step (room_dual_of m cost) (vs ts) k v _ _ [] (rank_inside m ts d market holds k lt) refl (c.loop-rank.invariant ts cost holds same) (ap (map (room_dual_at worth)) w.rooms-is ∙ sym (append-nil _)) (sym none)
      | in-Limit w ↦ λ ts cost holds same.
          let v = at_rank m ts d market holds k in
          let none = no_room_dual m cost v c.kind_of.result (read ts holds) (λ p e. let wrong : kind.Limit w.in-Limit.field-0 ≡ kind.Room p = sym w.in-Limit.is ∙ e in absurd cc) in
          listed_step (room_dual_of m cost) (vs ts) k v _ _ [] (rank_inside m ts d market holds k lt) refl (c.loop-rank.invariant ts cost holds same) (ap (map (room_dual_at worth)) w.rooms-is ∙ sym (append-nil _)) (sym none)
      | in-Need w ↦ λ ts cost holds same.
          let v = at_rank m ts d market holds k in
          let none = no_room_dual m cost v c.kind_of.result (read ts holds) (λ p e. let wrong : kind.Need ≡ kind.Room p = sym w.in-Need.is ∙ e in absurd cc) in
          listed_step (room_dual_of m cost) (vs ts) k v _ _ [] (rank_inside m ts d market holds k lt) refl (c.loop-rank.invariant ts cost holds same) (ap (map (room_dual_at worth)) w.rooms-is ∙ sym (append-nil _)) (sym none)
    ]

pub returns : goal.returns
returns g c = λ ts cost holds same.
    let m = c.args.market.now in
    let d = c.args.dict.now in
    let k = c.loop-rank.rank in
    let t = taken_in_order m (taken_of ts) in
    let count = name_count m ts d c.lines-lines.ensures.market holds in
    let all : length (variables m t) ≤ k = omega (arith, count, c.requires.costs, c.loop-rank-test.false) in
    c.loop-rank.invariant ts cost holds same ∙ room_duals_all m cost t k all
