-- The triangles of `clear_tests` and `market_tests` are markets.
use Rattle.std.proofs.Common.{◌≡◌, ◌≢◌, ℕ, pos, negsuc, List, [], ◌∷◌, length, ◌≤◌, All, Option, Some, None, ℤ, arith, refl}
use Rattle.std.specs.Prelude.{AllPairs, Contains, IfSome, ◌≤ℤ◌}
use Rattle.std.proofs.lemmas.Int.{ints}
use Rattle.std.proofs.lemmas.List.Elements.{All-cons, All-nil}
use Rattle.std.proofs.lemmas.List.Kept.{AllPairs-cons}
use Rattle.market_data.specs.Participants.{IsBus}
use Rattle.market_data.specs.declared.participants.Bus.{Bus}
use Rattle.market_model.specs.declared.participants.Factor.{Factor}
use Rattle.market_model.specs.declared.participants.Line.{Line}
use Rattle.market_model.specs.declared.participants.Parts.{Parts}
use Rattle.market_model.specs.Market.{bare_parts, IsMarket, IsLine, IsTableFactor, AreTableFactors}
use Rattle.market_model.specs.Lines.{hard_line}
use Rattle.market_model.proofs.LinePenalties.{hard_is_line}
use Rattle.market_model.proofs.PlainMarkets.{is_no_reserve, no_unit_outages}

abbrev pub bus_of : ℕ → Bus
bus_of number = record { number = number; pd = pos 0; gs = pos 0 }

abbrev pub line_of : ℕ → Option ℤ → Option ℤ → Line
line_of row base post = hard_line row base post (pos 0)

abbrev shift_of : ℕ → ℕ → ℤ → Factor
shift_of line of value = record { line = line; of = of; value = value }

abbrev pub buses : List Bus
buses = bus_of 1 ∷ bus_of 2 ∷ bus_of 3 ∷ []

abbrev pub shifts : List Factor
shifts = shift_of 0 1 (negsuc 499999999) ∷ shift_of 0 2 (negsuc 249999999) ∷ shift_of 1 1 (negsuc 499999999) ∷ shift_of 1 2 (negsuc 749999999) ∷ []

abbrev pub losses : List Factor
losses = shift_of 1 0 (pos 1000000000) ∷ []

abbrev pub lines : Option ℤ → List Line
lines third = line_of 1 None None ∷ line_of 2 (Some (pos 40)) (Some (pos 45)) ∷ line_of 3 None third ∷ []

abbrev pub parts : Option ℤ → List ℕ → Parts
parts third outages = record (bare_parts buses [] []) { lines = lines third; outages = outages; shift = shifts; loss = losses }

-- no two of a list, where the first is apart from the others
one_alone : {X : Type 0} (R : X → X → Type 0) (x : X) → AllPairs R (x ∷ [])
one_alone R x = λ i j d p q. absurd (Prim.omega (arith, p, q))

two_apart : {X : Type 0} (R : X → X → Type 0) (x y : X) → R x y → AllPairs R (x ∷ y ∷ [])
two_apart R x y h = AllPairs-cons R x (y ∷ []) (All-cons (R x) y [] h (All-nil (R x))) (one_alone R y)

three_apart : {X : Type 0} (R : X → X → Type 0) (x y z : X) → R x y → R x z → R y z → AllPairs R (x ∷ y ∷ z ∷ [])
three_apart R x y z f g h = AllPairs-cons R x (y ∷ z ∷ []) (All-cons (R x) y (z ∷ []) f (All-cons (R x) z [] g (All-nil (R x)))) (two_apart R y z h)

abbrev Apart : ℕ → ℕ → Type 0
Apart a b = a ≢ b

abbrev OtherPair : Factor → Factor → Type 0
OtherPair f g = f.line ≡ g.line → f.of ≢ g.of

shifts-are : AreTableFactors 3 3 shifts
shifts-are = record {
  each = All-cons (IsTableFactor 3 3) (shift_of 0 1 (negsuc 499999999)) (shift_of 0 2 (negsuc 249999999) ∷ shift_of 1 1 (negsuc 499999999) ∷ shift_of 1 2 (negsuc 749999999) ∷ []) (record { line = Prim.omega arith; of = Prim.omega arith; size = Prim.omega (arith, ints) })
      (All-cons (IsTableFactor 3 3) (shift_of 0 2 (negsuc 249999999)) (shift_of 1 1 (negsuc 499999999) ∷ shift_of 1 2 (negsuc 749999999) ∷ []) (record { line = Prim.omega arith; of = Prim.omega arith; size = Prim.omega (arith, ints) })
      (All-cons (IsTableFactor 3 3) (shift_of 1 1 (negsuc 499999999)) (shift_of 1 2 (negsuc 749999999) ∷ []) (record { line = Prim.omega arith; of = Prim.omega arith; size = Prim.omega (arith, ints) })
      (All-cons (IsTableFactor 3 3) (shift_of 1 2 (negsuc 749999999)) ([]) (record { line = Prim.omega arith; of = Prim.omega arith; size = Prim.omega (arith, ints) })
      (All-nil (IsTableFactor 3 3)))));
  distinct = AllPairs-cons OtherPair (shift_of 0 1 (negsuc 499999999)) (shift_of 0 2 (negsuc 249999999) ∷ shift_of 1 1 (negsuc 499999999) ∷ shift_of 1 2 (negsuc 749999999) ∷ [])
      (All-cons (OtherPair (shift_of 0 1 (negsuc 499999999))) (shift_of 0 2 (negsuc 249999999)) (shift_of 1 1 (negsuc 499999999) ∷ shift_of 1 2 (negsuc 749999999) ∷ []) (λ e f. absurd (Prim.omega (arith, f)))
      (All-cons (OtherPair (shift_of 0 1 (negsuc 499999999))) (shift_of 1 1 (negsuc 499999999)) (shift_of 1 2 (negsuc 749999999) ∷ []) (λ e. absurd (Prim.omega (arith, e)))
      (All-cons (OtherPair (shift_of 0 1 (negsuc 499999999))) (shift_of 1 2 (negsuc 749999999)) [] (λ e. absurd (Prim.omega (arith, e))) (All-nil (OtherPair (shift_of 0 1 (negsuc 499999999)))))))
      (three_apart OtherPair (shift_of 0 2 (negsuc 249999999)) (shift_of 1 1 (negsuc 499999999)) (shift_of 1 2 (negsuc 749999999)) (λ e. absurd (Prim.omega (arith, e))) (λ e. absurd (Prim.omega (arith, e))) (λ e f. absurd (Prim.omega (arith, f))));
}

losses-are : AreTableFactors 3 3 losses
losses-are = record {
  each = All-cons (IsTableFactor 3 3) (shift_of 1 0 (pos 1000000000)) [] (record { line = Prim.omega arith; of = Prim.omega arith; size = Prim.omega (arith, ints) }) (All-nil (IsTableFactor 3 3));
  distinct = one_alone OtherPair (shift_of 1 0 (pos 1000000000));
}

-- outages that are rows of the three branches make a market
is_market : (third : Option ℤ) (outages : List ℕ) → IfSome third (λ mw. pos 0 ≤ℤ mw) → length outages ≤ 500 → All (Contains (1 ∷ 2 ∷ 3 ∷ [])) outages → AllPairs Apart outages → IsMarket (parts third outages)
is_market third outages limit few rows apart = record {
  bus_count = Prim.omega arith;
  unit_count = Prim.omega arith;
  block_count = Prim.omega arith;
  line_count = Prim.omega arith;
  outage_count = few;
  buses = All-cons IsBus (bus_of 1) (bus_of 2 ∷ bus_of 3 ∷ []) (bus 1) (All-cons IsBus (bus_of 2) (bus_of 3 ∷ []) (bus 2) (All-cons IsBus (bus_of 3) [] (bus 3) (All-nil IsBus)));
  bus_numbers = numbers;
  units = λ i d lt. absurd (Prim.omega (arith, lt));
  unit_rows = λ i j d p q. absurd (Prim.omega (arith, q));
  blocks = λ i d lt. absurd (Prim.omega (arith, lt));
  room = λ place d lt. absurd (Prim.omega (arith, lt));
  lines = All-cons IsLine (line_of 1 None None) (line_of 2 (Some (pos 40)) (Some (pos 45)) ∷ line_of 3 None third ∷ []) (hard_is_line 1 None None (pos 0) (Prim.omega arith) tt tt (Prim.omega (arith, ints)))
      (All-cons IsLine (line_of 2 (Some (pos 40)) (Some (pos 45))) (line_of 3 None third ∷ []) (hard_is_line 2 (Some (pos 40)) (Some (pos 45)) (pos 0) (Prim.omega arith) (Prim.omega (arith, ints)) (Prim.omega (arith, ints)) (Prim.omega (arith, ints)))
      (All-cons IsLine (line_of 3 None third) [] (hard_is_line 3 None third (pos 0) (Prim.omega arith) tt limit (Prim.omega (arith, ints))) (All-nil IsLine)));
  line_rows = numbers;
  outages = rows;
  outages_distinct = apart;
  shift = shifts-are;
  loss = losses-are;
  unit_outages = no_unit_outages 0;
  reserve = is_no_reserve 0;
}
  where
    bus : (number : ℕ) → IsBus (bus_of number)
    bus number = record { load = Prim.omega (arith, ints); shunt = Prim.omega (arith, ints) }

    numbers : AllPairs Apart (1 ∷ 2 ∷ 3 ∷ [])
    numbers = three_apart Apart 1 2 3 (λ e. absurd (Prim.omega (arith, e))) (λ e. absurd (Prim.omega (arith, e))) (λ e. absurd (Prim.omega (arith, e)))

pub one_is_market : IsMarket (parts None (1 ∷ []))
one_is_market = is_market None (1 ∷ []) tt (Prim.omega arith) (All-cons (Contains (1 ∷ 2 ∷ 3 ∷ [])) 1 [] (0, Prim.omega arith, refl) (All-nil (Contains (1 ∷ 2 ∷ 3 ∷ [])))) (one_alone Apart 1)

pub two_are_market : IsMarket (parts (Some (pos 45)) (3 ∷ 1 ∷ []))
two_are_market = is_market (Some (pos 45)) (3 ∷ 1 ∷ []) (Prim.omega (arith, ints)) (Prim.omega arith)
    (All-cons (Contains (1 ∷ 2 ∷ 3 ∷ [])) 3 (1 ∷ []) (2, Prim.omega arith, refl) (All-cons (Contains (1 ∷ 2 ∷ 3 ∷ [])) 1 [] (0, Prim.omega arith, refl) (All-nil (Contains (1 ∷ 2 ∷ 3 ∷ [])))))
    (two_apart Apart 3 1 (λ e. absurd (Prim.omega (arith, e))))
