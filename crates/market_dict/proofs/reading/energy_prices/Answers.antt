use Rattle.std.proofs.Common.{◌≡◌, ◌≢◌, ◌<◌, ◌≤◌, ◌∙◌, ℕ, List, [], map, ap, ap₂, refl, sym, subst, length, arith}
use Rattle.std.specs.Prelude.{Contains, Some}
use Rattle.std.specs.List.{slice_get}
use Rattle.std.proofs.lemmas.List.{append-nil}
use Rattle.fraction_theory.specs.Fraction.{Fraction, neg_ℚ}
use Rattle.fraction_theory.specs.Signs.{sign_of}
use Rattle.market_model.specs.declared.answered.RowId.{RowId}
use Rattle.market_model.specs.LimitRows.{rows}
use Rattle.market_model.specs.Optimality.{all_of}
use Rattle.market_model.specs.Valued.{dual_at}
use Rattle.market_system.specs.declared.variables.Variable.TheVariants as variable
use Rattle.market_system.specs.MarketSystem.{taken_in_order, dual_by, variables, IsVariableOf}
use Rattle.market_system.proofs.RowOrder.{row_place-below}
use Rattle.market_dict.specs.declared.names.DualKind.TheVariants as kind
use Rattle.market_dict.specs.declared.taking.Taking.{Taking}
use Rattle.market_dict.specs.Holding.{HoldsMarket}
use Rattle.market_dict.specs.Kinds.{kind_of}
use Rattle.market_dict.specs.Takings.{taken_of}
use Rattle.market_dict.proofs.KindLemmas.{balance_of_kind, limit_of_kind, no_balance, no_dual, row_there}
use Rattle.market_dict.proofs.ReadingLemmas.{at_name, at_rank, name_count, rank_is, rank_inside, rank_cost, dual_of, listed_step, energy_step, duals_all, balance_all}
use Rattle.market_dict.proofs.reading.energy_prices.Goals as goal
use Rattle.market_dict.proofs.reading.energy_prices.Goals.{in-Balance, in-Limit+in_ok-push_dual-in-Limit, in-Column, in-Need, in-Room}

pub id-requires : goal.id-requires
id-requires g c =
    let m = c.args.market.now in
    let h = c.requires.holds in
    let d = c.args.dict.now in
    let market = c.lines-lines.ensures.market in
    let k = c.loop-rank.rank in
    let lt : k < length d.names = omega (arith, c.loop-rank-test.true, c.requires.costs) in
    let read = at_name m h.0 d market h.1 (λ v. c.kind_of.result ≡ kind_of m v) k c.ranked.result lt c.ranked.ensures c.kind_of.ensures in
    let limit = limit_of_kind m (at_rank m h.0 d market h.1 k) c.in-Limit.place (sym read ∙ c.in-Limit.is) in
    let among : Contains (rows m) limit.0 = subst (IsVariableOf m (all_of m)) limit.1 (rank_is m h.0 d market h.1 k lt) in
    omega (arith, row_place-below m limit.0 among, limit.2)

pub loop-rank-preserved : goal.loop-rank-preserved
loop-rank-preserved g c =
    let m = c.args.market.now in
    let d = c.args.dict.now in
    let market = c.lines-lines.ensures.market in
    let k = c.loop-rank.rank in
    let worth = g.N.Exact.value in
    let test = c.loop-rank-test.true in
    let lt : k < length d.names = omega (arith, test, c.requires.costs) in
    let vs : List Taking → List _ = λ ts. variables m (taken_in_order m (taken_of ts)) in
    let read : (ts : List Taking) (holds : HoldsMarket m ts d) → c.kind_of.result ≡ kind_of m (at_rank m ts d market holds k) =
    λ ts holds. at_name m ts d market holds (λ v. c.kind_of.result ≡ kind_of m v) k c.ranked.result lt c.ranked.ensures c.kind_of.ensures in
    elim c.match-kind_of.branch [
      | in-Balance w ↦ record {
        limits = λ ts cost holds same.
            let is = balance_of_kind m (at_rank m ts d market holds k) (sym (read ts holds) ∙ w.in-Balance.is) in
            listed_step (dual_of m cost) (vs ts) k variable.Balance _ _ [] (rank_inside m ts d market holds k lt) is (c.loop-rank.invariant.limits ts cost holds same) (ap (map (dual_at worth)) w.limits-is ∙ sym (append-nil _)) refl;
        energy = λ ts cost holds same among.
            let is = balance_of_kind m (at_rank m ts d market holds k) (sym (read ts holds) ∙ w.in-Balance.is) in
            ap worth w.energy-is ∙ w.neg-energy.ensures ∙ ap neg_ℚ (rank_cost m ts d market holds worth cost c.args.costs.now k w.index-costs-rank.result variable.Balance same test lt w.index-costs-rank.is is);
      }
      | in-Limit+in_ok-push_dual-in-Limit w ↦ record {
        limits = λ ts cost holds same.
            let limit = limit_of_kind m (at_rank m ts d market holds k) w.in-Limit.place (sym (read ts holds) ∙ w.in-Limit.is) in
            let among : Contains (rows m) limit.0 = subst (IsVariableOf m (all_of m)) limit.1 (rank_is m ts d market holds k lt) in
            let there : slice_get (rows m) w.in-Limit.place ≡ Some limit.0 = subst (λ (p : ℕ). slice_get (rows m) p ≡ Some limit.0) limit.2 (row_there m market limit.0 among) in
            let priced = rank_cost m ts d market holds worth cost c.args.costs.now k w.index-costs-rank-in-Limit.result (variable.Limit limit.0) same test lt w.index-costs-rank-in-Limit.is limit.1 in
            listed_step (dual_of m cost) (vs ts) k (variable.Limit limit.0) _ _ _ (rank_inside m ts d market holds k lt) limit.1 (c.loop-rank.invariant.limits ts cost holds same)
            (ap (map (dual_at worth)) w.limits-is ∙ w.in_ok-push_dual-in-Limit.ensures) (ap₂ (λ (id : RowId) (x : Fraction). dual_by id x (sign_of x)) (w.id.ensures.is limit.0 there) priced);
        energy = λ ts cost holds same.
            let v = at_rank m ts d market holds k in
            let other : c.kind_of.result ≢ kind.Balance = λ e. let wrong : kind.Limit w.in-Limit.place ≡ kind.Balance = sym w.in-Limit.is ∙ e in absurd cc in
            energy_step m cost (vs ts) k v (rank_inside m ts d market holds k lt) refl (no_balance m v c.kind_of.result (read ts holds) other) (λ before. ap worth w.energy-is ∙ c.loop-rank.invariant.energy ts cost holds same before);
      }
      | in-Column w ↦ record {
        limits = λ ts cost holds same.
            let v = at_rank m ts d market holds k in
            let none = no_dual m cost v c.kind_of.result (read ts holds) (λ p e. let wrong : kind.Column ≡ kind.Limit p = sym w.in-Column.is ∙ e in absurd cc) in
            listed_step (dual_of m cost) (vs ts) k v _ _ [] (rank_inside m ts d market holds k lt) refl (c.loop-rank.invariant.limits ts cost holds same) (ap (map (dual_at worth)) w.limits-is ∙ sym (append-nil _)) (sym none);
        energy = λ ts cost holds same.
            let v = at_rank m ts d market holds k in
            let other : c.kind_of.result ≢ kind.Balance = λ e. let wrong : kind.Column ≡ kind.Balance = sym w.in-Column.is ∙ e in absurd cc in
            energy_step m cost (vs ts) k v (rank_inside m ts d market holds k lt) refl (no_balance m v c.kind_of.result (read ts holds) other) (λ before. ap worth w.energy-is ∙ c.loop-rank.invariant.energy ts cost holds same before);
      }
      | in-Need w ↦ record {
        limits = λ ts cost holds same.
            let v = at_rank m ts d market holds k in
            let none = no_dual m cost v c.kind_of.result (read ts holds) (λ p e. let wrong : kind.Need ≡ kind.Limit p = sym w.in-Need.is ∙ e in absurd cc) in
            listed_step (dual_of m cost) (vs ts) k v _ _ [] (rank_inside m ts d market holds k lt) refl (c.loop-rank.invariant.limits ts cost holds same) (ap (map (dual_at worth)) w.limits-is ∙ sym (append-nil _)) (sym none);
        energy = λ ts cost holds same.
            let v = at_rank m ts d market holds k in
            let other : c.kind_of.result ≢ kind.Balance = λ e. let wrong : kind.Need ≡ kind.Balance = sym w.in-Need.is ∙ e in absurd cc in
            energy_step m cost (vs ts) k v (rank_inside m ts d market holds k lt) refl (no_balance m v c.kind_of.result (read ts holds) other) (λ before. ap worth w.energy-is ∙ c.loop-rank.invariant.energy ts cost holds same before);
      }
      | in-Room w ↦ record {
        limits = λ ts cost holds same.
            let v = at_rank m ts d market holds k in
            let none = no_dual m cost v c.kind_of.result (read ts holds) (λ p e. let wrong : kind.Room w.in-Room.field-0 ≡ kind.Limit p = sym w.in-Room.is ∙ e in absurd cc) in
            listed_step (dual_of m cost) (vs ts) k v _ _ [] (rank_inside m ts d market holds k lt) refl (c.loop-rank.invariant.limits ts cost holds same) (ap (map (dual_at worth)) w.limits-is ∙ sym (append-nil _)) (sym none);
        energy = λ ts cost holds same.
            let v = at_rank m ts d market holds k in
            let other : c.kind_of.result ≢ kind.Balance = λ e. let wrong : kind.Room w.in-Room.field-0 ≡ kind.Balance = sym w.in-Room.is ∙ e in absurd cc in
            energy_step m cost (vs ts) k v (rank_inside m ts d market holds k lt) refl (no_balance m v c.kind_of.result (read ts holds) other) (λ before. ap worth w.energy-is ∙ c.loop-rank.invariant.energy ts cost holds same before);
      }
    ]

pub returns-clause-energy : goal.returns-clause-energy
returns-clause-energy g c = λ ts cost holds same.
    let m = c.args.market.now in
    let d = c.args.dict.now in
    let k = c.loop-rank.rank in
    let t = taken_in_order m (taken_of ts) in
    let count = name_count m ts d c.lines-lines.ensures.market holds in
    let all : length (variables m t) ≤ k = omega (arith, count, c.requires.costs, c.loop-rank-test.false) in
    c.loop-rank.invariant.energy ts cost holds same (balance_all m cost t k all)

pub returns-clause-limits : goal.returns-clause-limits
returns-clause-limits g c = λ ts cost holds same.
    let m = c.args.market.now in
    let d = c.args.dict.now in
    let k = c.loop-rank.rank in
    let t = taken_in_order m (taken_of ts) in
    let count = name_count m ts d c.lines-lines.ensures.market holds in
    let all : length (variables m t) ≤ k = omega (arith, count, c.requires.costs, c.loop-rank-test.false) in
    c.loop-rank.invariant.limits ts cost holds same ∙ duals_all m cost t k all
