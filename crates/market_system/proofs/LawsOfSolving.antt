-- The laws of solving a market's system.
use Rattle.std.specs.Prelude.{length, refl}
use Rattle.market_system.specs.SolvedLaws.{LawOfTheSystem, LawOfThePoints, LawOfTheSolved, LawOfTheAnswer, LawOfTheStuck, LawOfGrowth}
use Rattle.limit_rows.proofs.ApartLemmas.{names_apart}
use Rattle.market_system.proofs.DualLists.{rows_apart}
use Rattle.market_system.proofs.GrowthLaws.{beyond_is_new, growth_none, growth_more, growth_again, growth_rows, rows_few}
use Rattle.market_system.proofs.MarketPoints.{is_system_of, points_are}
use Rattle.market_system.proofs.SolvedMarkets.{solved_best, solved_block, solved_proper, solved_supports}
use Rattle.market_system.proofs.StuckMarkets.{stuck_bound, stuck_bound_alone, stuck_shows, stuck_proper, stuck_of_choice}
use Rattle.market_model.proofs.RowMembers.{Contains-from_places}

pub law_of_the_system : LawOfTheSystem
law_of_the_system m t market = is_system_of m (rows_apart m (names_apart m market)) t

pub law_of_the_points : LawOfThePoints
law_of_the_points m t market are = points_are m (rows_apart m (names_apart m market)) t market are

pub law_of_the_solved : LawOfTheSolved
law_of_the_solved m t h market are choice solved =
    let names = names_apart m market in
    record {
      best = solved_best m names market t h choice are solved;
      proper = solved_proper m names market t h choice are solved;
      supported = solved_supports m names market t h choice are solved;
      blocks = λ j c. solved_block m names market t h choice are solved j (Contains-from_places (length m.blocks) j c);
    }

pub law_of_the_stuck : LawOfTheStuck
law_of_the_stuck m t h b above market all choice stuck =
    let names = names_apart m market in
    record {
      farkas = record {
        shows = stuck_shows m names market t h choice b above stuck;
        proper = stuck_proper m names market t h choice b above stuck;
        bound = refl;
      };
      leaves = record { most = stuck_bound m names market t h choice b above stuck; energy_alone = stuck_bound_alone m names market t h choice b above stuck };
      of_choice = stuck_of_choice m names market t h choice b above stuck all;
    }

pub law_of_growth : LawOfGrowth
law_of_growth m = record {
  beyond_is_new = λ t x r best beyond. beyond_is_new m t x r best.feasible beyond;
  none = growth_none m;
  more = growth_more m;
  again = growth_again m;
  distinct = growth_rows m;
  few = rows_few m;
}

pub law_of_the_answer : LawOfTheAnswer
law_of_the_answer m x d feasible supported proper = record { feasible = feasible; supported = supported; proper = proper; made = refl }
