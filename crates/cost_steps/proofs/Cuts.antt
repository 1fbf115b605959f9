-- Where ranges are cut.
use Rattle.std.specs.Prelude.{◌≡◌, ℕ, ◌*◌, ◌/◌, ◌^◌, ◌<◌, ◌≤◌, ◌==◌, ℤ, pos, ◌-ℤ◌, ◌≤ℤ◌, unsigned_abs, Bool, false, if◌then◌else◌}
use Rattle.std.proofs.Common.{arith, ap, sym, ◌∙◌, subst, w64}
use Rattle.std.proofs.lemmas.Int.{ints, to_z-of_z, to_z_pos}
use Rattle.std.proofs.lemmas.Bool.{ne_eqb}
use Rattle.std.proofs.Math.Nat.{mul-le-mul_right, div-mul-le_self, mul_comm}
use mir.Val.{SFits, to_z, of_z}
use Rattle.cost_steps.specs.declared.parts.Way.TheVariants.{Down}
use Rattle.cost_steps.specs.Parts.{equal_width, equal_cut}

-- a cut that the code gives is the one of the definition
pub cut_read : (cut : ℤ → ℤ → ℤ) (low high result : ℤ) → SFits w64 low → SFits w64 high → SFits w64 result
    → result ≡ cut (to_z w64 (of_z w64 low)) (to_z w64 (of_z w64 high)) → to_z w64 (of_z w64 result) ≡ cut low high
cut_read cut low high result p q r e = to_z-of_z w64 result r ∙ e ∙ ap (λ t. cut t (to_z w64 (of_z w64 high))) (to_z-of_z w64 low p) ∙ ap (λ t. cut low t) (to_z-of_z w64 high q)

-- ---- parts of one width
-- so many of them are within the range
pub past_within : (span count place : ℕ) → place ≤ count → place * (span / count) ≤ span
past_within span count place h = within (mul-le-mul_right (span / count) h) (div-mul-le_self span count)
  where
    within : place * (span / count) ≤ count * (span / count) → span / count * count ≤ span → place * (span / count) ≤ span
    within p q = Prim.omega (arith, p, q, mul_comm (span / count) count)

pub width_is : (low high : ℤ) → low ≤ℤ high → pos (unsigned_abs (high -ℤ low)) ≡ high -ℤ low
width_is low high h = Prim.omega (arith, ints, h)

module _ (low high : ℤ) (count place span : ℕ) (low_fits : SFits w64 low) (high_fits : SFits w64 high) (order : low ≤ℤ high) (width : unsigned_abs (high -ℤ low) < 2 ^ 63)
    (within : place ≤ count) (inner : place ≡ count → ⊥) (span_is : span ≡ unsigned_abs (to_z w64 (of_z w64 high) -ℤ to_z w64 (of_z w64 low))) where
  span_of : span ≡ unsigned_abs (high -ℤ low)
  span_of = span_is ∙ ap (λ t. unsigned_abs (t -ℤ to_z w64 (of_z w64 low))) (to_z-of_z w64 high high_fits) ∙ ap (λ t. unsigned_abs (high -ℤ t)) (to_z-of_z w64 low low_fits)

  abbrev past : ℕ
  past = place * (span / count)

  past_most : past ≤ unsigned_abs (high -ℤ low)
  past_most = subst (λ t. past ≤ t) span_of (past_within span count place within)

  past_read : to_z w64 past ≡ pos past
  past_read = to_z_pos w64 past (below past_most width)
    where
      below : {m n : ℕ} → m ≤ n → n < 2 ^ 63 → m < 2 ^ 63
      below p q = Prim.omega (arith, p, q)

  past_of : past ≡ place * equal_width low high count
  past_of = ap (λ t. place * (t / count)) span_of

  not_last : (place == count) ≡ false
  not_last = ne_eqb place count inner

  pub down_read : to_z w64 (of_z w64 (to_z w64 (of_z w64 high) -ℤ to_z w64 past)) ≡ equal_cut Down low high count place
  down_read =
      ap (λ t. to_z w64 (of_z w64 (t -ℤ to_z w64 past))) (to_z-of_z w64 high high_fits) ∙ ap (λ t. to_z w64 (of_z w64 (high -ℤ t))) past_read
      ∙ to_z-of_z w64 (high -ℤ pos past) (fits past past_most)
      ∙ ap (λ n. high -ℤ pos n) past_of
      ∙ ap (λ (b : Bool). if b then low else high -ℤ pos (place * equal_width low high count)) (sym not_last)
    where
      fits : (n : ℕ) → n ≤ unsigned_abs (high -ℤ low) → SFits w64 (high -ℤ pos n)
      fits n h = Prim.omega (arith, ints, h, order, low_fits, high_fits)
