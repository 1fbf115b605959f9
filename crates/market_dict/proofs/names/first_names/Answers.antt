use Rattle.std.proofs.Common.{◌∙◌, ◌++◌, ◌∷◌, [], ap, ap₂, sym, List, ℕ, arith, length, map, append_assoc}
use Rattle.std.proofs.lemmas.List.{append-nil, map-append}
use Rattle.market_model.specs.declared.participants.Reserve.{Reserve}
use Rattle.market_model.specs.Dispatch.{places}
use Rattle.market_model.proofs.MorePlaces.{places_more}
use Rattle.market_system.specs.MarketSystem.{block_columns, name, offer_name}
use Rattle.market_system.proofs.VariableLaws.{block_names, offer_names}
use Rattle.market_dict.proofs.ColumnLists.{mapped_none}
use Rattle.market_dict.proofs.names.first_names.Goals as goal

pub loop-place-preserved : goal.loop-place-preserved
loop-place-preserved c =
    c.in_ok-push.ensures ∙ ap₂ (λ (xs : List ℕ) (n : ℕ). xs ++ n ∷ []) c.loop-place.invariant c.name_of.ensures ∙ sym (places_more c.loop-place.place)

pub loop-place-2-init : goal.loop-place-2-init
loop-place-2-init c =
    let m = c.args.market.now in
    c.loop-place.invariant ∙ ap places (omega (arith, c.loop-place-test.false, c.loop-place.auto.place-end, c.len-place-end.ensures, ap length c.blocks-2.ensures.list))
    ∙ sym (append-nil (map (name m) (block_columns m)) ∙ block_names m)

pub loop-place-2-preserved : goal.loop-place-2-preserved
loop-place-2-preserved c =
    let m = c.args.market.now in
    let k = c.loop-place-2.place in
    let blocks = map (name m) (block_columns m) in
    c.in_ok-push-2.ensures ∙ ap₂ (λ (xs : List ℕ) (n : ℕ). xs ++ n ∷ []) c.loop-place-2.invariant c.offer_name_behind.ensures
    ∙ append_assoc blocks (map (offer_name m) (places k)) (offer_name m k ∷ [])
    ∙ ap (λ (xs : List ℕ). blocks ++ xs) (sym (ap (map (offer_name m)) (places_more k) ∙ map-append (offer_name m) (places k) (k ∷ [])))

pub returns : goal.returns
returns c =
    let m = c.args.market.now in
    let blocks = map (name m) (block_columns m) in
    c.loop-place-2.invariant
    ∙ ap (λ (n : ℕ). blocks ++ map (offer_name m) (places n))
    (omega (arith, c.loop-place-2-test.false, c.loop-place-2.auto.place-end, c.len-place-end-2.ensures, ap (λ (r : Reserve). length r.offers) c.reserve.ensures.reserve))
    ∙ ap (λ (xs : List ℕ). blocks ++ xs) (sym (offer_names m))
    ∙ sym (mapped_none m (name m))
