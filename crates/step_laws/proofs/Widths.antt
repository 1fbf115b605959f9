-- The parts of a quadratic cost are of one width.
use Rattle.std.specs.Prelude.{◌≡◌, ℕ, ◌+◌, ◌-◌, ◌*◌, ◌<◌, ℤ, pos, ◌-ℤ◌, ◌≤ℤ◌, ◌<ℤ◌, [], length, ◌⊎◌}
use Rattle.std.proofs.Common.{suc, arith, ap, sym, ◌∙◌, subst, inl, inr}
use Rattle.std.proofs.lemmas.Int.{ints}
use Rattle.std.proofs.lemmas.Bool.{cases_eq}
use Rattle.cost_steps.specs.declared.costs.Cost.TheVariants.{Quadratic}
use Rattle.cost_steps.specs.declared.parts.Way.TheVariants.{Up, Down}
use Rattle.cost_steps.specs.Parts.{Part, equal_width, part_at}
use Rattle.step_laws.specs.Laws.{AreOfOneWidth, LawOfEqualWidths}
use Rattle.step_laws.proofs.EqualCuts.{down_rest, down_width, rest_above, up_rest, up_width}
use Rattle.step_laws.proofs.Kept.{all_kept, kept, kept_all, more_wide, none_kept}

abbrev width_of : Part → ℤ
width_of part = part.to -ℤ part.from

module _ (part : ℕ → Part) (m w : ℕ) (span : ℤ) (inner : (k : ℕ) → k < m → width_of (part k) ≡ pos w) (outer : width_of (part m) ≡ span -ℤ pos (m * w)) (above : pos 0 <ℤ (span -ℤ pos (m * w))) where
  some_width : (x y : ℤ) → pos 0 <ℤ (y -ℤ x) → x <ℤ y
  some_width x y h = omega (arith, ints, h)

  no_width : (x y : ℤ) (w : ℕ) → y -ℤ x ≡ pos w → w ≡ 0 → y ≤ℤ x
  no_width x y w e z = omega (arith, ints, e, z)

  wide_width : (x y : ℤ) (w : ℕ) → y -ℤ x ≡ pos w → 0 < w → x <ℤ y
  wide_width x y w e h = omega (arith, ints, e, h)

  none : w ≡ 0 → kept part m ≡ []
  none z = none_kept part m (λ k h. no_width (part k).from (part k).to w (inner k h) z)

  many : 0 < w → length (kept part m) ≡ m
  many h = all_kept part m (λ k lt. wide_width (part k).from (part k).to w (inner k lt) h)

  last_wide : (part m).from <ℤ (part m).to
  last_wide = some_width (part m).from (part m).to (subst (λ t. pos 0 <ℤ t) (sym outer) above)

  sum_same : length (kept part m) * w ≡ m * w
  sum_same = by (cases_eq w 0)
    where
      nil : (a b : ℕ) → a * 0 ≡ b * 0
      nil a b = omega arith

      by : (w ≡ 0) ⊎ (w ≡ 0 → ⊥) → length (kept part m) * w ≡ m * w
      by (inl z) = ap (λ t. length (kept part m) * t) z ∙ nil (length (kept part m)) m ∙ sym (ap (λ t. m * t) z)
      by (inr n) = ap (λ t. t * w) (many (omega (arith, n)))

  pub of_one_width : (count : ℕ) → count ≡ suc m → AreOfOneWidth w span count (kept part count)
  of_one_width count e = record {
    equal = kept part m;
    last = part m;
    row_is = ap (kept part) e ∙ more_wide part m last_wide;
    widths = kept_all (λ part. part.to -ℤ part.from ≡ pos w) part m (λ k lt width. inner k lt);
    left_over = outer ∙ ap (λ t. span -ℤ pos t) (sym sum_same);
    all = λ h. ap (λ t. t + 1) (many h) ∙ next m ∙ sym e;
    alone = none;
  }
    where
      next : (m : ℕ) → m + 1 ≡ suc m
      next m = omega arith

pub equal_widths : LawOfEqualWidths
equal_widths square linear Up low high count order some =
    let last : count - 1 + 1 ≡ count = omega (arith, some) in
    of_one_width (part_at (Quadratic square linear) Up low high count) (count - 1) (equal_width low high count) (high -ℤ low)
    (λ k h. up_width low high count k (omega (arith, h, some))) (up_rest low high count (count - 1) last) (rest_above low high count (count - 1) last order) count (omega (arith, some))
equal_widths square linear Down low high count order some =
    let last : count - 1 + 1 ≡ count = omega (arith, some) in
    of_one_width (part_at (Quadratic square linear) Down low high count) (count - 1) (equal_width low high count) (high -ℤ low)
    (λ k h. down_width low high count k (omega (arith, h, some))) (down_rest low high count (count - 1) last) (rest_above low high count (count - 1) last order) count (omega (arith, some))
