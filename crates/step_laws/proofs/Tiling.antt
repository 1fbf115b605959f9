-- The parts follow one another from one end of the range to the other.
use Rattle.std.specs.Prelude.{◌≡◌, ℕ, ◌+◌, ◌-◌, ◌<◌, ◌≤◌, ℤ, ◌≤ℤ◌, ◌<ℤ◌, Bool, true, false, cond, List, [], ◌∷◌, ◌++◌, length}
use Rattle.std.specs.List.{All}
use Rattle.std.proofs.Common.{zero, suc, arith, ap, sym, ◌∙◌, subst, subst₂, refl}
use Rattle.std.proofs.lemmas.Int.{ints}
use Rattle.std.proofs.lemmas.List.{append-nil}
use Rattle.std.proofs.lemmas.List.Elements.{All-head, All-tail}
use Rattle.cost_steps.specs.declared.costs.Cost.{Cost}
use Rattle.cost_steps.specs.declared.costs.Cost.TheVariants.{Quadratic, Segments}
use Rattle.cost_steps.specs.declared.parts.Way.{Way}
use Rattle.cost_steps.specs.declared.parts.Way.TheVariants.{Up, Down}
use Rattle.cost_steps.specs.Costs.{IsCost}
use Rattle.cost_steps.specs.Parts.{Part, equal_cut, has_width, part_at, part_count, parts, point_cut}
use Rattle.step_laws.specs.Laws.{FollowOn, LawOfTiling, Tile, begin_of, end_of}
use Rattle.step_laws.proofs.Cuts.{cut_last, cuts_rise}
use Rattle.step_laws.proofs.EqualCuts.{down_first, down_last, down_rise, up_first, up_last, up_rise}
use Rattle.step_laws.proofs.Kept.{kept, kept_all, kept_more, added, width_none}

-- parts between cuts in the order of a way
record AreCutAt (way : Way) (n : ℕ) (cut : ℕ → ℤ) (part : ℕ → Part) : Type 0 where
  begins : (k : ℕ) → k < n → begin_of way (part k) ≡ cut k
  ends : (k : ℕ) → k < n → end_of way (part k) ≡ cut (k + 1)
  rise : (k : ℕ) → k < n → (part k).from ≤ℤ (part k).to

-- one part more
follow_more : (way : Way) (a b c : ℤ) (row : List Part) (part : Part) → FollowOn way a b row → begin_of way part ≡ b → end_of way part ≡ c → FollowOn way a c (row ++ part ∷ [])
follow_more way a b c [] part h p q = (p ∙ sym h, q)
follow_more way a b c (first ∷ row) part h p q = (h.0, follow_more way (end_of way first) b c row part h.1 p q)

-- a part with no width ends where it begins
no_width : (way : Way) (part : Part) → part.from ≤ℤ part.to → part.to ≤ℤ part.from → begin_of way part ≡ end_of way part
no_width Up part p q = same part.from part.to p q
  where
    same : (x y : ℤ) → x ≤ℤ y → y ≤ℤ x → x ≡ y
    same x y p q = omega (arith, ints, p, q)
no_width Down part p q = same part.to part.from q p
  where
    same : (x y : ℤ) → x ≤ℤ y → y ≤ℤ x → x ≡ y
    same x y p q = omega (arith, ints, p, q)

follow_next : (way : Way) (n : ℕ) (cut : ℕ → ℤ) (part : ℕ → Part) → AreCutAt way n cut part → (k : ℕ) → k < n → FollowOn way (cut 0) (cut k) (kept part k) → FollowOn way (cut 0) (cut (k + 1)) (kept part k ++ added (part k))
follow_next way n cut part are k h rest = by (has_width (part k)) refl
  where
    by : (b : Bool) → has_width (part k) ≡ b → FollowOn way (cut 0) (cut (k + 1)) (kept part k ++ cond b (part k ∷ []) [])
    by true e = follow_more way (cut 0) (cut k) (cut (k + 1)) (kept part k) (part k) rest (are.begins k h) (are.ends k h)
    by false e = subst₂ (λ t row. FollowOn way (cut 0) t row)
        (sym (are.begins k h) ∙ no_width way (part k) (are.rise k h) (width_none (part k) e) ∙ are.ends k h) (sym (append-nil (kept part k))) rest

follow_by : (way : Way) (n : ℕ) (cut : ℕ → ℤ) (part : ℕ → Part) → AreCutAt way n cut part → (k : ℕ) → k ≤ n → FollowOn way (cut 0) (cut k) (kept part k)
follow_by way n cut part are zero h = refl
follow_by way n cut part are (suc k) h =
    let next : k + 1 ≡ suc k = omega arith in
    subst₂ (λ t row. FollowOn way (cut 0) (cut t) row) next (sym (kept_more part k)) (follow_next way n cut part are k (omega (arith, h)) (follow_by way n cut part are k (omega (arith, h))))

follow : (way : Way) (n : ℕ) (cut : ℕ → ℤ) (part : ℕ → Part) (a b : ℤ) → AreCutAt way n cut part → cut 0 ≡ a → cut n ≡ b → FollowOn way a b (kept part n)
follow way n cut part a b are p q = subst₂ (λ x y. FollowOn way x y (kept part n)) p q (follow_by way n cut part are n (omega arith))

tile : (cost : Cost) (way : Way) (low high : ℤ) (count : ℕ) → IsCost cost → low ≤ℤ high → 1 ≤ count → Tile way low high (parts cost way low high count)
tile (Quadratic square linear) Up low high count is order some =
    follow Up count (equal_cut Up low high count) (part_at (Quadratic square linear) Up low high count) low high
    (record { begins = λ k h. refl; ends = λ k h. refl; rise = up_rise low high count order }) (up_first low high count some) (up_last low high count count refl)
tile (Quadratic square linear) Down low high count is order some =
    follow Down count (equal_cut Down low high count) (part_at (Quadratic square linear) Down low high count) high low
    (record { begins = λ k h. refl; ends = λ k h. refl; rise = down_rise low high count order }) (down_first low high count some) (down_last low high count count refl)
tile (Segments points) Up low high count is order some =
    follow Up (length points - 1) (point_cut low high points) (part_at (Segments points) Up low high count) low high
    (record { begins = λ k h. refl; ends = λ k h. refl; rise = cuts_rise low high points order is }) refl (cut_last low high points order is)
tile (Segments points) Down low high count is order some =
    follow Down (length points - 1) (λ k. point_cut low high points (length points - 1 - k)) (part_at (Segments points) Down low high count) high low
    (record {
      begins = λ k h. ap (point_cut low high points) (to (length points) k h);
      ends = λ k h. ap (point_cut low high points) (from (length points) k);
      rise = λ k h. cuts_rise low high points order is (length points - 2 - k) (omega (arith, h));
    })
    (ap (point_cut low high points) (whole (length points - 1)) ∙ cut_last low high points order is) (ap (point_cut low high points) (none (length points - 1)))
  where
    from : (n k : ℕ) → n - 2 - k ≡ n - 1 - (k + 1)
    from n k = omega arith

    to : (n k : ℕ) → k < n - 1 → n - 2 - k + 1 ≡ n - 1 - k
    to n k h = omega (arith, h)

    whole : (n : ℕ) → n - 0 ≡ n
    whole n = omega arith

    none : (n : ℕ) → n - n ≡ 0
    none n = omega arith

-- ---- there are none where the range has no width
abbrev WidthsAbove : List Part → Type 0
WidthsAbove row = All (λ (part : Part). part.from <ℤ part.to) row

widths : (cost : Cost) (way : Way) (low high : ℤ) (count : ℕ) → WidthsAbove (parts cost way low high count)
widths cost way low high count = kept_all (λ part. part.from <ℤ part.to) (part_at cost way low high count) (part_count cost count) (λ k h width. width)

itself : (x : ℤ) → x ≤ℤ x
itself x = omega (arith, ints)

up_to : (x y z : ℤ) → x <ℤ y → y ≤ℤ z → x <ℤ z
up_to x y z p q = omega (arith, ints, p, q)

less : (x y : ℤ) → x <ℤ y → x ≤ℤ y
less x y h = omega (arith, ints, h)

one_end : (x y : ℤ) → x <ℤ y → x ≡ y → ⊥
one_end x y h e = omega (arith, ints, h, e)

ups : (a b : ℤ) (row : List Part) → FollowOn Up a b row → WidthsAbove row → a ≤ℤ b
ups a b [] e above = subst (λ t. a ≤ℤ t) e (itself a)
ups a b (part ∷ row) h above =
    subst (λ t. t ≤ℤ b) h.0 (less part.from b (up_to part.from part.to b (All-head (λ part. part.from <ℤ part.to) part row above) (ups part.to b row h.1 (All-tail (λ part. part.from <ℤ part.to) part row above))))

downs : (a b : ℤ) (row : List Part) → FollowOn Down a b row → WidthsAbove row → b ≤ℤ a
downs a b [] e above = subst (λ t. t ≤ℤ a) e (itself a)
downs a b (part ∷ row) h above =
    subst (λ t. b ≤ℤ t) h.0 (less b part.to (after b part.from part.to (downs part.from b row h.1 (All-tail (λ part. part.from <ℤ part.to) part row above)) (All-head (λ part. part.from <ℤ part.to) part row above)))
  where
    after : (x y z : ℤ) → x ≤ℤ y → y <ℤ z → x <ℤ z
    after x y z p q = omega (arith, ints, p, q)

no_parts : (way : Way) (low high : ℤ) (row : List Part) → Tile way low high row → WidthsAbove row → low ≡ high → row ≡ []
no_parts way low high [] h above e = refl
no_parts Up low high (part ∷ row) h above e =
    absurd (one_end part.from high (up_to part.from part.to high (All-head (λ part. part.from <ℤ part.to) part row above) (ups part.to high row h.1 (All-tail (λ part. part.from <ℤ part.to) part row above))) (h.0 ∙ e))
no_parts Down low high (part ∷ row) h above e =
    absurd (one_end low part.to (after low part.from part.to (downs part.from low row h.1 (All-tail (λ part. part.from <ℤ part.to) part row above)) (All-head (λ part. part.from <ℤ part.to) part row above)) (e ∙ sym h.0))
  where
    after : (x y z : ℤ) → x ≤ℤ y → y <ℤ z → x <ℤ z
    after x y z p q = omega (arith, ints, p, q)

pub tiling : LawOfTiling
tiling cost way low high count is order some = (
  tile cost way low high count is order some,
  widths cost way low high count,
  no_parts way low high (parts cost way low high count) (tile cost way low high count is order some) (widths cost way low high count),
)
