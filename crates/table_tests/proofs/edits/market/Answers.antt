use Rattle.std.proofs.Common.{◌<◌, pos, [], ◌∷◌, Some, None, ℕ, get_or, zero, suc, arith, refl}
use Rattle.std.proofs.lemmas.Int.{ints}
use Rattle.std.proofs.lemmas.List.Elements.{All-cons, All-nil}
use Rattle.market_data.specs.Participants.{IsBus, IsUnit}
use Rattle.market_data.specs.declared.participants.Bus.{Bus}
use Rattle.market_data.specs.declared.participants.Unit as unit
use Rattle.market_model.specs.declared.participants.Block.{Block}
use Rattle.market_model.specs.declared.participants.Line.{Line}
use Rattle.market_model.specs.declared.participants.Parts.{Parts}
use Rattle.market_model.specs.declared.participants.Side.TheVariants.{Sell, Buy}
use Rattle.market_model.specs.Lines.{hard_line}
use Rattle.market_model.specs.Market.{bare_parts, IsMarket, IsBlock, IsLine, HasRoom}
use Rattle.market_model.specs.Stairs.{stair_in}
use Rattle.market_model.proofs.LinePenalties.{hard_is_line}
use Rattle.market_model.proofs.PlainMarkets.{is_no_reserve, no_unit_outages}
use Rattle.table_tests.proofs.edits.market.Goals as goal

abbrev the_bus : Bus
the_bus = record { number = 3; pd = pos 60000000000; gs = pos 5000000000 }

abbrev the_unit : unit.Unit
the_unit = record { row = 1; bus = 0; fixed = pos 0; up = pos 100000000000; down = pos 0 }

abbrev cheap : Block
cheap = record { unit = 0; side = Sell; quantity = pos 50000000000; price = pos 10000000 }

abbrev dear : Block
dear = record { unit = 0; side = Sell; quantity = pos 50000000000; price = pos 20000000 }

abbrev the_line : Line
the_line = hard_line 2 (Some (pos 40000000000)) None (pos 0)

abbrev the_parts : Parts
the_parts = record (bare_parts (the_bus ∷ []) (the_unit ∷ []) (cheap ∷ dear ∷ [])) { lines = the_line ∷ [] }

has_room : HasRoom (cheap ∷ dear ∷ []) 0 the_unit
unfolding stair_in
has_room Sell = Prim.omega (arith, ints)
has_room Buy = Prim.omega (arith, ints)

is_market : IsMarket the_parts
is_market = record {
  bus_count = Prim.omega arith;
  unit_count = Prim.omega arith;
  block_count = Prim.omega arith;
  line_count = Prim.omega arith;
  outage_count = Prim.omega arith;
  buses = All-cons IsBus the_bus [] (record { load = Prim.omega (arith, ints); shunt = Prim.omega (arith, ints) }) (All-nil IsBus);
  bus_numbers = λ i j d p q. absurd (Prim.omega (arith, p, q));
  units = All-cons (IsUnit 1) the_unit [] (record { row = Prim.omega arith; bus = Prim.omega arith; fixed = Prim.omega (arith, ints); up = Prim.omega (arith, ints); down = Prim.omega (arith, ints) }) (All-nil (IsUnit 1));
  unit_rows = λ i j d p q. absurd (Prim.omega (arith, p, q));
  blocks = All-cons (IsBlock 1) cheap (dear ∷ []) (record { unit = Prim.omega arith; quantity = Prim.omega (arith, ints); price = Prim.omega (arith, ints) }) (All-cons (IsBlock 1) dear [] (record { unit = Prim.omega arith; quantity = Prim.omega (arith, ints); price = Prim.omega (arith, ints) }) (All-nil (IsBlock 1)));
  room = rooms;
  lines = All-cons IsLine the_line [] (hard_is_line 2 (Some (pos 40000000000)) None (pos 0) (Prim.omega arith) (Prim.omega (arith, ints)) tt (Prim.omega (arith, ints))) (All-nil IsLine);
  line_rows = λ i j d p q. absurd (Prim.omega (arith, p, q));
  outages = λ i d lt. absurd (Prim.omega (arith, lt));
  outages_distinct = λ i j d p q. absurd (Prim.omega (arith, q));
  shift = record { each = λ i d lt. absurd (Prim.omega (arith, lt)); distinct = λ i j d p q. absurd (Prim.omega (arith, q)) };
  loss = record { each = λ i d lt. absurd (Prim.omega (arith, lt)); distinct = λ i j d p q. absurd (Prim.omega (arith, q)) };
  unit_outages = no_unit_outages 1;
  reserve = is_no_reserve 1;
}
  where
    rooms : (place : ℕ) (d : unit.Unit) → place < 1 → HasRoom (cheap ∷ dear ∷ []) place (get_or (the_unit ∷ []) place d)
    rooms zero d h = has_room
    rooms (suc place) d h = absurd (Prim.omega (arith, h))

pub assemble-requires : goal.assemble-requires
assemble-requires c =
    rw (c.bare.ensures, c.in_ok-buses.ensures, c.in_ok-units.ensures, c.in_ok-blocks.ensures, c.in_ok-lines.ensures, c.hard.ensures) is_market
