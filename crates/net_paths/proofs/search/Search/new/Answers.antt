use Rattle.std.proofs.Common.{◌≡◌, ◌<◌, ℕ, arith, subst, length}
use Rattle.net_paths.specs.Searching.{AreVisits}
use Rattle.net_paths.proofs.VisitLemmas.{place_within, closed-more, visits-few}
use Rattle.net_paths.proofs.search.Search.new.Goals as goal

pub loop-visit-init : goal.loop-visit-init
loop-visit-init c =
    let n : c.len-places.result ≡ length c.args.incidence.now.lists.items = omega (arith, c.len-places.ensures, c.args.incidence.now.lists.ok.0) in
    record {
      count = omega arith;
      visits = λ branches inc. subst (λ (m : ℕ). AreVisits branches m c.args.root c.in_ok-search.search.visits c.in_ok-search.search.seen.items) n (c.in_ok-search.ensures branches);
      closed = λ branches inc i d lt. absurd (omega arith);
    }

pub follow_all-requires : goal.follow_all-requires
follow_all-requires c =
    let n = length c.args.incidence.now.lists.items in
    let inc = c.requires.branches in
    let good = c.loop-visit.invariant.visits inc.0 inc.1 in
    let lt : c.loop-visit.visit < length c.loop-visit.search.visits = omega (arith, c.len.ensures, c.if-visit-len.false, c.loop-visit.invariant.count) in
    record {
      branches = inc;
      room = good.room;
      visit = lt;
      place = λ d. place_within inc.0 n c.args.root c.loop-visit.search.visits c.loop-visit.search.seen.items good c.loop-visit.visit d lt;
    }

pub loop-visit-preserved : goal.loop-visit-preserved
loop-visit-preserved c =
    let n = length c.args.incidence.now.lists.items in
    let on = c.in_ok-follow_all.ensures.on in
    let lt : c.loop-visit.visit < length c.loop-visit.search.visits = omega (arith, c.len.ensures, c.if-visit-len.false, c.loop-visit.invariant.count) in
    record {
      count = omega (arith, on.longer, lt);
      visits = λ branches inc. c.in_ok-follow_all.ensures.visits branches n c.args.root inc (c.loop-visit.invariant.visits branches inc);
      closed = λ branches inc. closed-more branches n c.args.incidence.now.lists.items inc c.loop-visit.search c.follow_all.new.self c.loop-visit.visit on lt
          (c.loop-visit.invariant.closed branches inc) c.in_ok-follow_all.ensures.seen;
    }

pub returns-then-visit-len : goal.returns-then-visit-len
returns-then-visit-len c = λ branches inc.
    record { visits = c.loop-visit.invariant.visits branches inc; closed = λ i d lt. c.loop-visit.invariant.closed branches inc i d (omega (arith, lt, c.len.ensures, c.if-visit-len.true)) }

pub returns : goal.returns
returns c = λ branches inc.
    let n = length c.args.incidence.now.lists.items in
    let good = c.loop-visit.invariant.visits branches inc in
    let few = visits-few branches n c.args.root c.loop-visit.search.visits c.loop-visit.search.seen.items good in
    let all : c.len-places.result ≡ n = omega (arith, c.len-places.ensures, c.args.incidence.now.lists.ok.0) in
    record { visits = good; closed = λ i d lt. c.loop-visit.invariant.closed branches inc i d (omega (arith, lt, few, all, c.loop-visit-test.false)) }
