use Rattle.std.proofs.Common.{rules, arith, ◌≡◌, ◌∙◌, ℕ, ◌<◌, ◌+◌, ap, sym, subst, pos, length, get_or, inl, inr, to_z, of_z, [], ◌∷◌, ◌++◌, length-append}
use Rattle.std.specs.Int.{w128}
use Rattle.std.specs.Prelude.{ℤ, ◌*ℤ◌, ◌^◌, List, Option, None, IfSome}
use Rattle.std.proofs.lemmas.List.{get_or_append_left, get_or_default}
use Rattle.std.proofs.Math.Seq.{get_or-append_seam}
use Rattle.fraction_theory.specs.Fraction.{whole}
use Rattle.fraction_theory.specs.Sums.{sum_by}
use Rattle.fraction_theory.proofs.ListSums.{same_or_not}
use Rattle.network_theory.specs.Carrying.{IsCarried}
use Rattle.network_theory.specs.Networks.{others}
use Rattle.exact_fraction.specs.Nearest.{IsNearest}
use Rattle.flow_guess.specs.declared.links.Link.{Link}
use Rattle.flow_guess.specs.Links.{link_branch, link_network}
use Rattle.flow_guess.specs.Guesses.{error_at}
use Rattle.flow_guess.specs.Told.{IsToldOf}
use Rattle.flow_guess.proofs.Solutions.{within_errors}
use Rattle.flow_guess.proofs.told.all_told.Goals as goal

pub loop-link-preserved : goal.loop-link-preserved
loop-link-preserved c =
    let links = c.args.links.now in
    let guess = c.args.guess.now in
    let transfer = c.args.transfer.now in
    let n = link_network (length guess.angles.items) links in
    let part = to_z w128 (of_z w128 c.args.part) in
    let at = c.loop-link.link-index in
    let count = c.loop-link.invariant.0 in
    let within = c.loop-link-test.true in
    let nothing : Link = record { from = 0; to = 0; reactance = pos 0 } in
    let link = get_or links at nothing in
    let all : List (Option ℤ) = c.loop-link.all in
    let told : Option ℤ = c.told.result in
    let pushed : c.push.new.self ≡ all ++ told ∷ [] = c.in_ok-push.ensures in
    let last : (places : ℕ) → transfer.parts ≡ part *ℤ pos (10 ^ places) → IsToldOf n c.args.reference transfer.source transfer.sink places link told =
    λ places parts k carried is_k is.
    subst (λ (o : Option ℤ). IfSome o (IsNearest places carried)) is_k
    (c.told.ensures places carried
    (λ e is_e. within_errors guess links c.requires.guess c.args.reference transfer part places link carried e (at, within, get_or_default links at link nothing within) parts is
    (subst (λ (o : Option ℤ). IfSome o (λ z. whole z ≡ sum_by (error_at n guess transfer) (others n c.args.reference))) is_e c.all_errors-error.ensures))) in (
      ap length pushed ∙ length-append all (told ∷ []) ∙ ap (λ k. k + 1) count,
      λ places parts i below d. elim (same_or_not i at) [
        | inl e ↦
            let link_is : get_or links i d ≡ link = ap (λ j. get_or links j d) e ∙ get_or_default links at d nothing within in
            let told_is : get_or c.push.new.self i None ≡ told = ap (λ (xs : List (Option ℤ)). get_or xs i None) pushed ∙ ap (λ j. get_or (all ++ told ∷ []) j None) (e ∙ sym count) ∙ get_or-append_seam all told [] None in
            λ k carried is_k is. last places parts k carried (sym told_is ∙ is_k) (subst (λ (x : Link). IsCarried n c.args.reference transfer.source transfer.sink (link_branch x) carried) link_is is)
        | inr d' ↦
            let before : i < at = omega (arith, below, d') in
            let told_is : get_or c.push.new.self i None ≡ get_or all i None = ap (λ (xs : List (Option ℤ)). get_or xs i None) pushed ∙ get_or_append_left all (told ∷ []) None i (omega (arith, before, count)) in
            λ k carried is_k is. c.loop-link.invariant.1 places parts i before d k carried (sym told_is ∙ is_k) is
      ],
    )

pub returns-clause-nearest : goal.returns-clause-nearest
returns-clause-nearest c = λ places parts l d below.
    let part : to_z w128 (of_z w128 c.args.part) ≡ c.args.part = search rules in
    c.loop-link.invariant.1 places (parts ∙ ap (λ (z : ℤ). z *ℤ pos (10 ^ places)) (sym part)) l (omega (arith, below, c.loop-link-test.false)) d
