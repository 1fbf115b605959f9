use Rattle.std.proofs.Common.{◌∙◌, ◌++◌, List, ℕ, ap, ap₂, map, length, replicate}
use Rattle.fraction_theory.specs.Fraction.{Fraction}
use Rattle.market_model.specs.declared.participants.Reserve.{Reserve}
use Rattle.market_dict.proofs.ColumnLists.{balance_at_start}
use Rattle.market_dict.proofs.entries.balance_entries.Goals as goal

pub returns : goal.returns
returns g c =
    let m = c.args.market.now in
    let value = g.N.Exact.value in
    let count = c.len.ensures ∙ ap (λ (r : Reserve). length r.offers) c.reserve.ensures.reserve in
    balance_at_start m (map value c.push_alike.new.entries)
    (c.in_ok-push_alike.ensures ∙ ap₂ (λ (xs ys : List Fraction). xs ++ ys) c.in_ok-entries.ensures (ap₂ (λ (n : ℕ) (x : Fraction). replicate n x) count c.datum.ensures))
