use Rattle.std.proofs.Common.{◌≡◌, ◌∙◌, ℕ, arith, sym, ap, subst, length, get_or, take, []}
use Rattle.std.specs.Prelude.{All, IsSome}
use Rattle.std.proofs.lemmas.List.{take_all}
use Rattle.std.proofs.lemmas.List.Elements.{All-more, All-weaker}
use Rattle.std.proofs.lemmas.Option.{get_or_from_slice_get}
use Rattle.net_paths.specs.declared.steps.Step.{Step}
use Rattle.net_paths.specs.declared.search.Visit.{Visit}
use Rattle.net_paths.specs.Chains.{end_of}
use Rattle.net_paths.specs.Searching.{visit_at}
use Rattle.net_paths.proofs.IncidenceLemmas.{step_read, within}
use Rattle.net_paths.proofs.VisitLemmas.{goes_on-itself, goes_on-trans}
use Rattle.net_paths.proofs.search.Search.follow_all.Goals as goal

pub loop-step-init : goal.loop-step-init
loop-step-init c = record { room = c.requires.room; on = goes_on-itself c.args.self.now; visits = λ _ _ _ _ old. old; seen = λ k d lt. absurd (omega arith) }

pub follow-requires-clause-end : goal.follow-requires-clause-end
follow-requires-clause-end c =
    let n = length c.args.incidence.now.lists.items in
    within _ _ _
    (step_read c.requires.branches.0 n c.args.incidence.now.lists.items c.requires.branches.1 c.at.result.now.place c.at-step-items.result.now c.at-step-items.ensures c.loop-step.step-index _ c.loop-step-test.true).end
    c.loop-step.invariant.room

pub follow-requires-clause-visit : goal.follow-requires-clause-visit
follow-requires-clause-visit c = omega (arith, c.loop-step.invariant.on.longer, c.requires.visit)

pub loop-step-preserved : goal.loop-step-preserved
loop-step-preserved c =
    let items = c.at-step-items.result.now in
    let k = c.loop-step.step-index in
    let on = c.loop-step.invariant.on in
    let here = λ (d : Visit). on.visits c.args.visit d c.requires.visit ∙ get_or_from_slice_get c.args.self.now.visits c.args.visit c.at.result.now d c.at.ensures in
    record {
      room = c.follow.ensures.room ∙ c.loop-step.invariant.room;
      on = goes_on-trans c.args.self.now c.loop-step.self c.follow.new.self on c.in_ok-follow.ensures.on;
      visits = λ branches places root inc old.
          let step = step_read branches places c.args.incidence.now.lists.items inc c.at.result.now.place items c.at-step-items.ensures k _ c.loop-step-test.true in
          c.in_ok-follow.ensures.search branches places root (c.loop-step.invariant.visits branches places root inc old) step.branch (λ d. step.start ∙ sym (ap (λ (v : Visit). v.place) (here d)));
      seen = All-more (λ (s : Step). IsSome (visit_at c.follow.new.self.seen.items (end_of s))) items k _ c.loop-step-test.true
          (All-weaker (λ (s : Step). IsSome (visit_at c.loop-step.self.seen.items (end_of s))) (λ (s : Step). IsSome (visit_at c.follow.new.self.seen.items (end_of s)))
          (λ s. c.in_ok-follow.ensures.on.seen (end_of s)) (take k items) c.loop-step.invariant.seen)
          c.in_ok-follow.ensures.seen;
    }

pub returns-clause-seen : goal.returns-clause-seen
returns-clause-seen c = λ place is.
    let items = c.at-step-items.result.now in
    let same : c.at.result.now.place ≡ place = sym (ap (λ (v : Visit). v.place) (get_or_from_slice_get c.args.self.now.visits c.args.visit c.at.result.now c.at.result.now c.at.ensures)) ∙ is c.at.result.now in
    let all : take c.loop-step.step-index items ≡ get_or c.args.incidence.now.lists.items place [] =
    take_all c.loop-step.step-index items (omega (arith, c.loop-step-test.false)) ∙ c.at-step-items.ensures ∙ ap (λ (p : ℕ). get_or c.args.incidence.now.lists.items p []) same in
    subst (All (λ (s : Step). IsSome (visit_at c.loop-step.self.seen.items (end_of s)))) all c.loop-step.invariant.seen
