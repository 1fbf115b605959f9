use Rattle.std.proofs.Common.{◌∙◌, ◌++◌, List, ℕ, ap, ap₂, map, length, replicate}
use Rattle.fraction_theory.specs.Fraction.{Fraction}
use Rattle.market_model.specs.declared.participants.Reserve.{Reserve}
use Rattle.market_dict.proofs.ColumnLists.{need_at_start}
use Rattle.market_dict.proofs.entries.need_entries.Goals as goal

pub returns : goal.returns
returns g c =
    let m = c.args.market.now in
    let value = g.N.Exact.value in
    let blocks = c.len.ensures ∙ ap length c.blocks-2.ensures.list in
    let offers = c.len-2.ensures ∙ ap (λ (r : Reserve). length r.offers) c.reserve.ensures.reserve in
    need_at_start m (map value c.push_alike-2.new.entries)
    (c.in_ok-push_alike-2.ensures
    ∙ ap₂ (λ (xs ys : List Fraction). xs ++ ys) (c.in_ok-push_alike.ensures ∙ ap₂ (λ (xs : List g.row.N.Denot) (ys : List Fraction). map value xs ++ ys) c.new-entries.ensures (ap₂ (λ (n : ℕ) (x : Fraction). replicate n x) blocks c.datum.ensures))
    (ap₂ (λ (n : ℕ) (x : Fraction). replicate n x) offers c.datum-2.ensures))
