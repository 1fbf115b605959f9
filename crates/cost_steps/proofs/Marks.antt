-- Parts that follow one another from one end of a range to the other, by how far each begins from where the way does.
use Rattle.std.specs.Prelude.{◌≡◌, ℕ, ◌+◌, ◌-◌, ◌*◌, ◌<◌, ◌≤◌, ◌==◌, ℤ, pos, ◌+ℤ◌, ◌-ℤ◌, ◌≤ℤ◌, ◌<ℤ◌, int_lt, unsigned_abs, Bool, true, false, cond, List, [], ◌∷◌, ◌++◌, length, map, if◌then◌else◌, ◌⊎◌}
use Rattle.std.specs.Int.{int_max, int_min}
use Rattle.std.specs.List.{filter, range_with_len}
use Rattle.std.proofs.Common.{zero, suc, arith, ap, sym, ◌∙◌, subst, subst₂, refl, inl, inr}
use Rattle.std.proofs.lemmas.Int.{ints, clamps}
use Rattle.std.proofs.lemmas.Bool.{eq-eqb, ne_eqb, cases_eq}
use Rattle.std.proofs.lemmas.List.FromFn.{filter_of_map_range_with_len_more}
use Rattle.market_data.specs.WholeSums.{int_sum}
use Rattle.cost_steps.specs.declared.costs.CostPoint.{CostPoint}
use Rattle.cost_steps.specs.declared.costs.Cost.{Cost}
use Rattle.cost_steps.specs.declared.costs.Cost.TheVariants.{Quadratic, Segments}
use Rattle.cost_steps.specs.declared.parts.Way.{Way}
use Rattle.cost_steps.specs.declared.parts.Way.TheVariants.{Up, Down}
use Rattle.cost_steps.specs.Costs.{AreCostPoints, IsCost, point_at}
use Rattle.cost_steps.specs.Parts.{Part, equal_width, equal_cut, point_cut, part_at, part_count, has_width}
use Rattle.cost_steps.proofs.Cuts.{past_within, width_is}

-- marks that do not fall, from 0 to a whole
pub record AreMarks (n : ℕ) (all : ℤ) (mark : ℕ → ℤ) : Type 0 where
  pub first : mark 0 ≡ pos 0
  pub last : mark n ≡ all
  pub rise : (k : ℕ) → k < n → mark k ≤ℤ mark (k + 1)

trans : (x y z : ℤ) → x ≤ℤ y → y ≤ℤ z → x ≤ℤ z
trans x y z p q = Prim.omega (arith, ints, p, q)

itself : (x : ℤ) → x ≤ℤ x
itself x = Prim.omega (arith, ints)

rise_by : (n : ℕ) (all : ℤ) (mark : ℕ → ℤ) → AreMarks n all mark → (i d j : ℕ) → i + d ≡ j → j ≤ n → mark i ≤ℤ mark j
rise_by n all mark are i zero j e h = let same : i ≡ j = Prim.omega (arith, e) in subst (λ t. mark i ≤ℤ mark t) same (itself (mark i))
rise_by n all mark are i (suc d) j e h =
    let same : i + d + 1 ≡ j = Prim.omega (arith, e) in
    subst (λ t. mark i ≤ℤ mark t) same (trans (mark i) (mark (i + d)) (mark (i + d + 1)) (rise_by n all mark are i d (i + d) refl (Prim.omega (arith, e, h))) (are.rise (i + d) (Prim.omega (arith, e, h))))

pub marks_rise : (n : ℕ) (all : ℤ) (mark : ℕ → ℤ) → AreMarks n all mark → (i j : ℕ) → i ≤ j → j ≤ n → mark i ≤ℤ mark j
marks_rise n all mark are i j p q = rise_by n all mark are i (j - i) j (Prim.omega (arith, p)) q

-- the widths of parts, by the marks
abbrev pub Widths : ℕ → (ℕ → ℤ) → (ℕ → Part) → Type 0
Widths n mark part = (k : ℕ) → k < n → (part k).to -ℤ (part k).from ≡ mark (k + 1) -ℤ mark k

-- no part is wider than the range
pub width_within : (n : ℕ) (all : ℤ) (mark : ℕ → ℤ) (part : ℕ → Part) → AreMarks n all mark → Widths n mark part → (k : ℕ) → k < n
    → (pos 0 ≤ℤ ((part k).to -ℤ (part k).from)) × (((part k).to -ℤ (part k).from) ≤ℤ all)
width_within n all mark part are widths k h =
    subst (λ t. (pos 0 ≤ℤ t) × (t ≤ℤ all)) (sym (widths k h))
    (within (mark k) (mark (k + 1)) all (subst (λ t. t ≤ℤ mark k) are.first (marks_rise n all mark are 0 k (Prim.omega arith) (Prim.omega (arith, h)))) (are.rise k h)
    (subst (λ t. mark (k + 1) ≤ℤ t) are.last (marks_rise n all mark are (k + 1) n (Prim.omega (arith, h)) (Prim.omega arith))))
  where
    within : (x y z : ℤ) → pos 0 ≤ℤ x → x ≤ℤ y → y ≤ℤ z → (pos 0 ≤ℤ (y -ℤ x)) × ((y -ℤ x) ≤ℤ z)
    within x y z p q r = (Prim.omega (arith, ints, p, q, r), Prim.omega (arith, ints, p, q, r))

-- ---- the sum of the widths
abbrev pub width_of : Part → ℤ
width_of part = part.to -ℤ part.from

int_sum-append : {A : Type 0} (f : A → ℤ) (xs ys : List A) → int_sum f (xs ++ ys) ≡ int_sum f xs +ℤ int_sum f ys
int_sum-append f [] ys = Prim.omega (arith, ints)
int_sum-append f (x ∷ xs) ys = let rest = int_sum-append f xs ys in Prim.omega (arith, ints, rest)

one_kept : (part : Part) → pos 0 ≤ℤ width_of part → int_sum width_of (cond (has_width part) (part ∷ []) []) ≡ width_of part
one_kept part h = by (has_width part) refl
  where
    by : (b : Bool) → has_width part ≡ b → int_sum width_of (cond b (part ∷ []) []) ≡ width_of part
    by true e = Prim.omega (arith, ints)
    by false e = none part.from part.to e h
      where
        none : (x y : ℤ) → int_lt x y ≡ false → pos 0 ≤ℤ (y -ℤ x) → pos 0 ≡ y -ℤ x
        none x y e h = Prim.grind (arith, ints)

pub kept_total : (n : ℕ) (all : ℤ) (mark : ℕ → ℤ) (part : ℕ → Part) → AreMarks n all mark → Widths n mark part → (k : ℕ) → k ≤ n → int_sum width_of (filter has_width (map part (range_with_len 0 k))) ≡ mark k
kept_total n all mark part are widths zero h = sym are.first
kept_total n all mark part are widths (suc k) h =
    let more = filter_of_map_range_with_len_more has_width part 0 k k (Prim.omega arith) in
    let lt : k < n = Prim.omega (arith, h) in
    let rest = kept_total n all mark part are widths k (Prim.omega (arith, h)) in
    subst (λ t. int_sum width_of (filter has_width (map part (range_with_len 0 t))) ≡ mark t) (next k)
    (ap (int_sum width_of) more
    ∙ int_sum-append width_of (filter has_width (map part (range_with_len 0 k))) (cond (has_width (part k)) (part k ∷ []) [])
    ∙ ap (λ t. t +ℤ int_sum width_of (cond (has_width (part k)) (part k ∷ []) [])) rest
    ∙ ap (λ t. mark k +ℤ t) (one_kept (part k) (width_within n all mark part are widths k lt).0 ∙ widths k lt)
    ∙ joined (mark k) (mark (k + 1)))
  where
    next : (k : ℕ) → k + 1 ≡ suc k
    next k = Prim.omega arith

    joined : (x y : ℤ) → x +ℤ (y -ℤ x) ≡ y
    joined x y = Prim.omega (arith, ints)

-- ---- the marks of parts of one width
abbrev pub equal_mark : ℤ → ℤ → ℕ → ℕ → ℤ
equal_mark low high count k = if k == count then high -ℤ low else pos (k * equal_width low high count)

mark_inner : (low high : ℤ) (count k : ℕ) → (k ≡ count → ⊥) → equal_mark low high count k ≡ pos (k * equal_width low high count)
mark_inner low high count k n = ap (λ (b : Bool). if b then high -ℤ low else pos (k * equal_width low high count)) (ne_eqb k count n)

mark_last : (low high : ℤ) (count k : ℕ) → k ≡ count → equal_mark low high count k ≡ high -ℤ low
mark_last low high count k e = ap (λ (b : Bool). if b then high -ℤ low else pos (k * equal_width low high count)) (eq-eqb k count e)

pub equal_marks : (low high : ℤ) (count : ℕ) → low ≤ℤ high → 1 ≤ count → AreMarks count (high -ℤ low) (equal_mark low high count)
equal_marks low high count order some = record {
  first = mark_inner low high count 0 (λ e. Prim.omega (arith, e, some)) ∙ ap pos (none (equal_width low high count));
  last = mark_last low high count count refl;
  rise = λ k h. step k h (cases_eq (k + 1) count);
}
  where
    none : (w : ℕ) → 0 * w ≡ 0
    none w = Prim.omega arith

    more : (k w : ℕ) → pos (k * w) ≤ℤ pos ((k + 1) * w)
    more k w = Prim.omega (arith, ints)

    to_last : (n m : ℕ) (all : ℤ) → n ≤ m → pos m ≡ all → pos n ≤ℤ all
    to_last n m all p e = Prim.omega (arith, ints, p, e)

    step : (k : ℕ) → k < count → ((k + 1 ≡ count) ⊎ (k + 1 ≡ count → ⊥)) → equal_mark low high count k ≤ℤ equal_mark low high count (k + 1)
    step k h (inl e) = subst₂ ◌≤ℤ◌ (sym (mark_inner low high count k (λ f. Prim.omega (arith, h, f)))) (sym (mark_last low high count (k + 1) e))
        (to_last (k * equal_width low high count) (unsigned_abs (high -ℤ low)) (high -ℤ low) (past_within (unsigned_abs (high -ℤ low)) count k (Prim.omega (arith, h))) (width_is low high order))
    step k h (inr n) = subst₂ ◌≤ℤ◌ (sym (mark_inner low high count k (λ f. Prim.omega (arith, h, f)))) (sym (mark_inner low high count (k + 1) n)) (more k (equal_width low high count))

pub up_cut : (low high : ℤ) (count k : ℕ) → equal_cut Up low high count k ≡ low +ℤ equal_mark low high count k
up_cut low high count k = by (k == count)
  where
    by : (b : Bool) → (if b then high else low +ℤ pos (k * equal_width low high count)) ≡ low +ℤ (if b then high -ℤ low else pos (k * equal_width low high count))
    by true = Prim.omega (arith, ints)
    by false = refl

pub down_cut : (low high : ℤ) (count k : ℕ) → equal_cut Down low high count k ≡ high -ℤ equal_mark low high count k
down_cut low high count k = by (k == count)
  where
    by : (b : Bool) → (if b then low else high -ℤ pos (k * equal_width low high count)) ≡ high -ℤ (if b then high -ℤ low else pos (k * equal_width low high count))
    by true = Prim.omega (arith, ints)
    by false = refl

-- ---- the marks of segments
module _ (low high : ℤ) (points : List CostPoint) (order : low ≤ℤ high) (are : AreCostPoints points) where
  abbrev N : ℕ
  N = length points - 1

  abbrev C : ℕ → ℤ
  C = point_cut low high points

  inner : ℕ → ℤ
  inner k = int_max low (int_min (point_at points k).output high)

  cut_first : C 0 ≡ low
  cut_first = refl

  cut_last : C N ≡ high
  cut_last =
      ap (λ (b : Bool). if b then low else if N == N then high else int_max low (int_min (point_at points N).output high)) (ne_eqb N 0 (λ e. Prim.omega (arith, e, are.some)))
      ∙ ap (λ (b : Bool). if b then high else int_max low (int_min (point_at points N).output high)) (eq-eqb N N refl)

  cut_inner : (k : ℕ) → (k ≡ 0 → ⊥) → (k ≡ N → ⊥) → C k ≡ int_max low (int_min (point_at points k).output high)
  cut_inner k n m =
      ap (λ (b : Bool). if b then low else if k == N then high else int_max low (int_min (point_at points k).output high)) (ne_eqb k 0 n)
      ∙ ap (λ (b : Bool). if b then high else int_max low (int_min (point_at points k).output high)) (ne_eqb k N m)

  clamped : (x : ℤ) → (low ≤ℤ int_max low (int_min x high)) × (int_max low (int_min x high) ≤ℤ high)
  clamped x = (Prim.omega (arith, ints, clamps, order), Prim.omega (arith, ints, clamps, order))

  clamped_rise : (x y : ℤ) → x <ℤ y → int_max low (int_min x high) ≤ℤ int_max low (int_min y high)
  clamped_rise x y h = Prim.omega (arith, ints, clamps, h)

  cut_within : (k : ℕ) → (low ≤ℤ C k) × (C k ≤ℤ high)
  cut_within k = by (k == 0) (k == N)
    where
      by : (a b : Bool) → let cut : ℤ = if a then low else if b then high else int_max low (int_min (point_at points k).output high) in (low ≤ℤ cut) × (cut ≤ℤ high)
      by true b = (itself low, order)
      by false true = (order, itself high)
      by false false = clamped (point_at points k).output

  cuts_rise : (k : ℕ) → k < N → C k ≤ℤ C (k + 1)
  cuts_rise zero h = (cut_within (zero + 1)).0
  cuts_rise (suc k) h = by (cases_eq (suc k + 1) N)
    where
      by : ((suc k + 1 ≡ N) ⊎ (suc k + 1 ≡ N → ⊥)) → C (suc k) ≤ℤ C (suc k + 1)
      by (inl e) = subst (λ t. C (suc k) ≤ℤ t) (sym cut_last ∙ ap C (sym e)) (cut_within (suc k)).1
      by (inr n) = subst₂ ◌≤ℤ◌ (sym (cut_inner (suc k) (λ e. Prim.omega (arith, e)) (λ e. Prim.omega (arith, e, h)))) (sym (cut_inner (suc k + 1) (λ e. Prim.omega (arith, e)) n))
          (clamped_rise (point_at points (suc k)).output (point_at points (suc k + 1)).output (are.rise (suc k) (Prim.omega (arith, h))))

  less : (x y z : ℤ) → y ≤ℤ z → (y -ℤ x) ≤ℤ (z -ℤ x)
  less x y z h = Prim.omega (arith, ints, h)

  more : (x y z : ℤ) → y ≤ℤ z → (x -ℤ z) ≤ℤ (x -ℤ y)
  more x y z h = Prim.omega (arith, ints, h)

  nothing : (x : ℤ) → x -ℤ x ≡ pos 0
  nothing x = Prim.omega (arith, ints)

  pub up_marks : AreMarks N (high -ℤ low) (λ k. C k -ℤ low)
  up_marks = record {
    first = nothing low;
    last = ap (λ t. t -ℤ low) cut_last;
    rise = λ k h. less low (C k) (C (k + 1)) (cuts_rise k h);
  }

  pub down_marks : AreMarks N (high -ℤ low) (λ k. high -ℤ C (N - k))
  down_marks = record {
    first = ap (λ t. high -ℤ C t) (whole N) ∙ ap (λ t. high -ℤ t) cut_last ∙ nothing high;
    last = ap (λ t. high -ℤ C t) (none N);
    rise = λ k h. more high (C (N - (k + 1))) (C (N - k)) (subst (λ t. C (N - (k + 1)) ≤ℤ C t) (next N k h) (cuts_rise (N - (k + 1)) (Prim.omega (arith, h))));
  }
    where
      whole : (n : ℕ) → n - 0 ≡ n
      whole n = Prim.omega arith

      none : (n : ℕ) → n - n ≡ 0
      none n = Prim.omega arith

      next : (n k : ℕ) → k < n → n - (k + 1) + 1 ≡ n - k
      next n k h = Prim.omega (arith, h)

-- ---- the marks of all parts
pub record AreParts (n : ℕ) (all : ℤ) (part : ℕ → Part) : Type 0 where
  pub mark : ℕ → ℤ
  pub marks : AreMarks n all mark
  pub widths : Widths n mark part

up_width : (low x y : ℤ) → (low +ℤ y) -ℤ (low +ℤ x) ≡ y -ℤ x
up_width low x y = Prim.omega (arith, ints)

down_width : (high x y : ℤ) → (high -ℤ x) -ℤ (high -ℤ y) ≡ y -ℤ x
down_width high x y = Prim.omega (arith, ints)

apart : (low x y : ℤ) → y -ℤ x ≡ (y -ℤ low) -ℤ (x -ℤ low)
apart low x y = Prim.omega (arith, ints)

apart_down : (high x y : ℤ) → y -ℤ x ≡ (high -ℤ x) -ℤ (high -ℤ y)
apart_down high x y = Prim.omega (arith, ints)

pub are_parts : (cost : Cost) (way : Way) (low high : ℤ) (count : ℕ) → IsCost cost → low ≤ℤ high → 1 ≤ count → AreParts (part_count cost count) (high -ℤ low) (part_at cost way low high count)
are_parts (Quadratic square linear) Up low high count is order some = record {
  mark = equal_mark low high count;
  marks = equal_marks low high count order some;
  widths = λ k h. ap (λ t. t -ℤ equal_cut Up low high count k) (up_cut low high count (k + 1)) ∙ ap (λ t. (low +ℤ equal_mark low high count (k + 1)) -ℤ t) (up_cut low high count k) ∙ up_width low (equal_mark low high count k) (equal_mark low high count (k + 1));
}
are_parts (Quadratic square linear) Down low high count is order some = record {
  mark = equal_mark low high count;
  marks = equal_marks low high count order some;
  widths = λ k h. ap (λ t. t -ℤ equal_cut Down low high count (k + 1)) (down_cut low high count k) ∙ ap (λ t. (high -ℤ equal_mark low high count k) -ℤ t) (down_cut low high count (k + 1)) ∙ down_width high (equal_mark low high count k) (equal_mark low high count (k + 1));
}
are_parts (Segments points) Up low high count is order some = record {
  mark = λ k. point_cut low high points k -ℤ low;
  marks = up_marks low high points order is;
  widths = λ k h. apart low (point_cut low high points k) (point_cut low high points (k + 1));
}
are_parts (Segments points) Down low high count is order some = record {
  mark = λ k. high -ℤ point_cut low high points (length points - 1 - k);
  marks = down_marks low high points order is;
  widths = λ k h.
      ap (λ t. point_cut low high points (length points - 2 - k + 1) -ℤ point_cut low high points t) (from (length points) k)
      ∙ ap (λ t. point_cut low high points t -ℤ point_cut low high points (length points - 1 - (k + 1))) (to (length points) k h)
      ∙ apart_down high (point_cut low high points (length points - 1 - (k + 1))) (point_cut low high points (length points - 1 - k));
}
  where
    from : (n k : ℕ) → n - 2 - k ≡ n - 1 - (k + 1)
    from n k = Prim.omega arith

    to : (n k : ℕ) → k < n - 1 → n - 2 - k + 1 ≡ n - 1 - k
    to n k h = Prim.omega (arith, h)
