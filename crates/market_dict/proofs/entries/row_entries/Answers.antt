use Rattle.std.proofs.Common.{◌≡◌, ◌-◌, ◌+◌, ◌∙◌, ◌++◌, List, arith, ap, map, length, refl, replicate}
use Rattle.std.specs.Prelude.{[], ◌∷◌}
use Rattle.fraction_theory.specs.Fraction.{Fraction}
use Rattle.market_system.specs.MarketSystem.{excess_columns, limit_coefficient, offer_columns}
use Rattle.market_dict.specs.Takings.{limits_of}
use Rattle.market_dict.proofs.ColumnLists.{limit_entries, offers_count}
use Rattle.market_dict.proofs.TakingLists.{put_columns_count}
use Rattle.market_dict.proofs.entries.row_entries.Goals as goal

pub returns-clause-entries : goal.returns-clause-entries
returns-clause-entries g c = λ ts absent count.
    let m = c.args.market.now in
    let value = g.N.Exact.value in
    let k = c.args.columns - c.len.result in
    let blocks : c.len.result ≡ length m.blocks = c.len.ensures ∙ ap length c.blocks-2.ensures.list in
    let others : k ≡ length (offer_columns m) + length (excess_columns m (limits_of ts)) = omega (arith, count, blocks, put_columns_count m ts, offers_count m) in
    limit_entries m ts c.args.row absent (map value c.in_ok-entries.entries) (map (limit_coefficient m c.args.row) (excess_columns m (c.args.row ∷ []))) (map value c.push_own.new.entries) k others
    c.in_ok-entries.ensures.entries refl
    (c.in_ok-push_own.ensures ∙ ap (λ (xs : List Fraction). xs ++ map (limit_coefficient m c.args.row) (excess_columns m (c.args.row ∷ [])))
    (c.in_ok-push_alike.ensures ∙ ap (λ (x : Fraction). map value c.in_ok-entries.entries ++ replicate k x) c.datum.ensures))
