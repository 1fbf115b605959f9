use Rattle.std.proofs.Common.{◌≡◌, ◌∙◌, sym, ap, subst, length, Some, None}
use Rattle.std.specs.Prelude.{Contains, not}
use Rattle.net_paths.specs.declared.steps.Step.{Step}
use Rattle.net_paths.specs.declared.search.Visit.{Visit}
use Rattle.net_paths.specs.Chains.{start_of, end_of}
use Rattle.net_paths.specs.Searching.{IsVisit, visit_at}
use Rattle.net_paths.proofs.ChainLemmas.{start_of-turned, end_of-turned}
use Rattle.net_paths.proofs.VisitLemmas.{visits-more, free-read}
use Rattle.net_paths.proofs.search.Search.follow.Goals as goal

pub returns-in_ok-push-clause-search : goal.returns-in_ok-push-clause-search
returns-in_ok-push-clause-search c = λ branches places root good contains start.
    let step = c.args.step in
    let visits = c.args.self.now.visits in
    let seen = c.args.self.now.seen.items in
    let more : Visit = record { place = c.end-place.result; back = Some (record { step = c.turned.result; visit = c.args.visit }) } in
    let is : IsVisit branches root visits (length visits) more = record {
      before = c.requires.visit;
      branch = subst (λ (s : Step). Contains branches s.branch) (sym c.turned.ensures) contains;
      start = ap start_of c.turned.ensures ∙ start_of-turned step ∙ sym c.end-place.ensures;
      end = λ d. sym (start d) ∙ sym (end_of-turned step) ∙ sym (ap end_of c.turned.ensures);
    } in
    let free : visit_at seen c.end-place.result ≡ None = free-read seen c.end-place.result c.index.result.now (rw c.end-place.ensures c.requires.end) c.index.ensures (c.is_none.ensures ∙ ap not c.if-is_none.true) in
    rw (c.in_ok-push.ensures, c.len-number.ensures) (visits-more branches places root visits seen good more (rw c.end-place.ensures c.requires.end) free is)
