use Rattle.std.proofs.Common.{◌∙◌, [], ◌∷◌, ◌++◌, ap, sym}
use Rattle.std.specs.Option.{option_or}
use Rattle.cert_verify.specs.Certified.{certified_dispatch, certified_duals}
use Rattle.cert_verify.specs.Reasons.{block_reason, dual_reasons, first_of, reserve_reason}
use Rattle.cert_verify.proofs.TestLemmas.{first_join, or_none}
use Rattle.cert_verify.proofs.against.wrong_part.Goals as goal

pub returns-in-Some-wrong_dual : goal.returns-in-Some-wrong_dual
returns-in-Some-wrong_dual g c =
    let value = g.N.Exact.value in
    let m = c.args.market.now in
    let x = certified_dispatch value c.args.dispatch.now in
    let d = certified_duals value c.args.duals.now in
    let rest = block_reason m x ∷ reserve_reason m x ∷ [] in
    let counted = ap (λ o. option_or o (first_of (dual_reasons m d ++ rest))) (sym c.other_count.ensures ∙ c.in_default.is) ∙ first_join (dual_reasons m d) rest in
    sym (counted ∙ ap (λ o. option_or o (first_of rest)) (sym c.wrong_dual.ensures ∙ c.in-Some-wrong_dual.is))

pub returns-in-Some-outside_block : goal.returns-in-Some-outside_block
returns-in-Some-outside_block g c =
    let value = g.N.Exact.value in
    let m = c.args.market.now in
    let x = certified_dispatch value c.args.dispatch.now in
    let d = certified_duals value c.args.duals.now in
    let rest = block_reason m x ∷ reserve_reason m x ∷ [] in
    let counted = ap (λ o. option_or o (first_of (dual_reasons m d ++ rest))) (sym c.other_count.ensures ∙ c.in_default.is) ∙ first_join (dual_reasons m d) rest in
    sym (counted ∙ ap (λ o. option_or o (first_of rest)) (sym c.wrong_dual.ensures ∙ c.in_default-wrong_dual.is)
    ∙ ap (λ o. option_or o (first_of (reserve_reason m x ∷ []))) (sym (c.outside_block.ensures x.reserve) ∙ c.in-Some-outside_block.is))

pub returns : goal.returns
returns g c =
    let value = g.N.Exact.value in
    let m = c.args.market.now in
    let x = certified_dispatch value c.args.dispatch.now in
    let d = certified_duals value c.args.duals.now in
    let rest = block_reason m x ∷ reserve_reason m x ∷ [] in
    let counted = ap (λ o. option_or o (first_of (dual_reasons m d ++ rest))) (sym c.other_count.ensures ∙ c.in_default.is) ∙ first_join (dual_reasons m d) rest in
    sym (counted ∙ ap (λ o. option_or o (first_of rest)) (sym c.wrong_dual.ensures ∙ c.in_default-wrong_dual.is)
    ∙ ap (λ o. option_or o (first_of (reserve_reason m x ∷ []))) (sym (c.outside_block.ensures x.reserve) ∙ c.in_default-outside_block.is)
    ∙ or_none (reserve_reason m x) ∙ sym (c.outside_offer.ensures x.blocks))
