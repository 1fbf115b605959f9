-- The size of a reactance, and the reactances from a branch on.
use Rattle.std.proofs.Common.{◌≡◌, ℕ, ◌+◌, ◌*◌, ◌^◌, ◌≤◌, ◌<◌, ℤ, pos, neg_ℤ, List, [], ◌∷◌, ◌++◌, length, get_or, drop, arith, refl, sym, ap, append_assoc, w64, Result, Ok, Err}
use mir.Val.{SFits, to_z, of_z}
use mir.Syntax.{w128}
use Rattle.std.specs.Prelude.{◌≤ℤ◌, ◌*ℤ◌, unsigned_abs}
use Rattle.std.proofs.lemmas.Int.{ints, unsigned_abs-mul, to_z-of_z}
use Rattle.std.proofs.Math.Nat.{mul-le-mul_left}
use Rattle.std.proofs.lemmas.List.{append-nil, drop_all, drop_more}
use Rattle.market_data.specs.Scales.{most_ratio, most_reactance, most_scaled_reactance}
use Rattle.record_reading.specs.Records.{Record}
use Rattle.record_reading.specs.Steps.{and_then}
use Rattle.net_case.specs.NetworkReading.{row_at}
use Rattle.net_case.specs.ReactanceReading.{reactance_in, reactances_in}
use Rattle.net_case.specs.declared.live_parts.NetBranch.{NetBranch}
use Rattle.net_case.specs.declared.live_parts.NetFault.{NetFault}

pub size_of_product : (x r : ℤ) → neg_ℤ (pos most_reactance) ≤ℤ x → x ≤ℤ pos most_reactance → pos 0 ≤ℤ r → r ≤ℤ pos most_ratio → unsigned_abs (x *ℤ r) ≤ most_scaled_reactance
size_of_product x r low high least most =
    let a : unsigned_abs x ≤ most_reactance = Prim.omega (arith, ints) in
    let b : unsigned_abs r ≤ most_ratio = Prim.omega (arith, ints) in
    let one : unsigned_abs x * unsigned_abs r ≤ unsigned_abs x * most_ratio = mul-le-mul_left (unsigned_abs x) b in
    rw (unsigned_abs-mul x r) (within (unsigned_abs x) (unsigned_abs x * unsigned_abs r) a one)
  where
    within : (m n : ℕ) → m ≤ most_reactance → n ≤ m * most_ratio → n ≤ most_scaled_reactance
    within m n le lt = omega arith

fits_64 : (n : ℤ) → neg_ℤ (pos most_reactance) ≤ℤ n → n ≤ℤ pos most_reactance → SFits w64 n
fits_64 n low high = Prim.omega (arith, ints)

pub fits_128 : (n : ℤ) → unsigned_abs n ≤ most_scaled_reactance → SFits w128 n
fits_128 n size = Prim.omega (arith, ints, size)

-- a product that is passed on keeps its size
pub size_kept : (x r p : ℤ) → neg_ℤ (pos most_reactance) ≤ℤ x → x ≤ℤ pos most_reactance → pos 0 ≤ℤ r → r ≤ℤ pos most_ratio
    → p ≡ to_z w64 (of_z w64 x) *ℤ to_z w64 (of_z w64 r) → unsigned_abs (to_z w128 (of_z w128 p)) ≤ most_scaled_reactance
size_kept x r p low high least most is =
    let ratio_low : neg_ℤ (pos most_reactance) ≤ℤ r = Prim.omega (arith, ints) in
    let ratio_high : r ≤ℤ pos most_reactance = Prim.omega (arith, ints) in
    let e : p ≡ x *ℤ r = rw (to_z-of_z w64 x (fits_64 x low high), to_z-of_z w64 r (fits_64 r ratio_low ratio_high)) at is in
    let size : unsigned_abs p ≤ most_scaled_reactance = rw e (size_of_product x r low high least most) in
    rw (to_z-of_z w128 p (fits_128 p size)) size

module _ (matrix : List Record) (branches : List NetBranch) where
  -- those of the branches from a place on, behind those done
  abbrev pub from_place : List ℤ → ℕ → Result (List ℤ) NetFault
  from_place done i = and_then (reactances_in matrix (drop i branches)) (λ rest. Ok (done ++ rest))

  pub from-step : (done : List ℤ) (i : ℕ) (d : NetBranch) (x : ℤ) → i < length branches → reactance_in (get_or branches i d).row (row_at matrix (get_or branches i d).row) ≡ Ok x
      → from_place done i ≡ from_place (done ++ x ∷ []) (i + 1)
  unfolding reactances_in
  from-step done i d x lt reads = rw (drop_more branches i d lt, reads) (by (reactances_in matrix (drop (i + 1) branches)))
    where
      by : (rest : Result (List ℤ) NetFault) → and_then (and_then rest (λ list. Ok (x ∷ list))) (λ rest. Ok (done ++ rest)) ≡ and_then rest (λ rest. Ok ((done ++ x ∷ []) ++ rest))
      by (Ok rest) = ap Ok (sym (append_assoc done (x ∷ []) rest))
      by (Err f) = refl

  pub from-fault : (done : List ℤ) (i : ℕ) (d : NetBranch) (fault : NetFault) → i < length branches → reactance_in (get_or branches i d).row (row_at matrix (get_or branches i d).row) ≡ Err fault
      → from_place done i ≡ Err fault
  unfolding reactances_in
  from-fault done i d fault lt reads = rw (drop_more branches i d lt, reads) refl

  pub from-end : (done : List ℤ) (i : ℕ) → length branches ≤ i → from_place done i ≡ Ok done
  unfolding reactances_in
  from-end done i le = rw (drop_all i branches le, append-nil done) refl

  pub from-start : reactances_in matrix branches ≡ from_place [] 0
  from-start = by (reactances_in matrix branches)
    where
      by : (all : Result (List ℤ) NetFault) → all ≡ and_then all (λ rest. Ok ([] ++ rest))
      by (Ok all) = refl
      by (Err f) = refl
