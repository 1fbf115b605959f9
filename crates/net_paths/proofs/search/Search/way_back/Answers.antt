use Rattle.std.proofs.Common.{sym, subst}
use Rattle.std.proofs.lemmas.Option.{get_or_from_slice_get}
use Rattle.net_paths.specs.declared.search.Visit.{Visit}
use Rattle.net_paths.specs.Searching.{IsWay, place_at}
use Rattle.net_paths.proofs.WayLemmas.{way-more, way-end}
use Rattle.net_paths.proofs.search.Search.way_back.Goals as goal

pub loop-back-preserved : goal.loop-back-preserved
loop-back-preserved c =
    let visits = c.args.self.now.visits in
    let seen = c.args.self.now.seen.items in
    let at = λ (d : Visit). get_or_from_slice_get visits c.loop-back.visit c.at.result.now d c.at.ensures in
    let any = c.requires.visits in
    record {
      within = (way-more any.0 any.1 any.2 visits seen any.3 (place_at visits c.args.visit) c.loop-back.visit c.loop-back.steps c.at.result.now c.in-Some.back c.loop-back.invariant.within at c.in-Some.is
          (c.loop-back.invariant.way any.0 any.1 any.2 any.3)).0;
      way = λ branches places root good. subst (IsWay branches visits seen (place_at visits c.args.visit) c.in-Some.back.visit) (sym c.in_ok-push.ensures)
          (way-more branches places root visits seen good (place_at visits c.args.visit) c.loop-back.visit c.loop-back.steps c.at.result.now c.in-Some.back c.loop-back.invariant.within at c.in-Some.is
          (c.loop-back.invariant.way branches places root good)).2;
    }

pub returns : goal.returns
returns c = λ branches places root good.
    let visits = c.args.self.now.visits in
    let seen = c.args.self.now.seen.items in
    let at = λ (d : Visit). get_or_from_slice_get visits c.loop-back.visit c.at.result.now d c.at.ensures in
    way-end branches places root visits seen good (place_at visits c.args.visit) c.loop-back.visit c.loop-back.steps c.at.result.now c.loop-back.invariant.within at c.in_default.is
    (c.loop-back.invariant.way branches places root good)
