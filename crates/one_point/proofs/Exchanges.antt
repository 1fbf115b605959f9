-- An exchange keeps what is known, and where all others are known all variables are.
use Rattle.std.specs.Prelude.{◌≡◌, ℕ, ◌+◌, ◌<◌, Bool, true, false, List, length, slice_index, slice_set, refl}
use Rattle.std.specs.List.{Contains}
use Rattle.std.proofs.Common.{arith, ap, sym, ◌∙◌, subst, inl, inr}
use Rattle.std.proofs.lemmas.List.{length-set, get_or-set_same, get_or-set_other}
use Rattle.fraction_theory.specs.Fraction.{Fraction, ◌*ℚ◌}
use Rattle.fraction_theory.proofs.ListSums.{same_or_not, sum_by-members}
use Rattle.linear_system.specs.Systems.{MeetsRows}
use Rattle.linear_system.specs.Choices.{others}
use Rattle.linear_dict.specs.Dictionaries.{Dictionary, IsDictionary, choice_of, note_of, pivoted, system_in}
use Rattle.linear_dict.specs.Places.{place_in}
use Rattle.linear_dict.proofs.NameLemmas.{place_in-within}
use Rattle.linear_dict.proofs.SplitLemmas.{basic_in, in_others}
use Rattle.one_point.specs.Known.{AgreeBehind, AgreeWhere, AreAllMarked, IsSolvedBefore, LeavesOnePoint}

-- before any exchange
pub solved_none : (d : Dictionary) (marks : List Bool) → d.spent ≡ false → IsDictionary d → length marks ≡ length d.others → IsSolvedBefore d marks 1 d marks
solved_none d marks live sound marked = record {
  live = live;
  sound = sound;
  system = refl;
  names = refl;
  basics = refl;
  marked = marked;
  behind = λ i h k. refl;
  known = λ v w agree behind. agree;
}

-- a row may be passed over
pub solved_over : (d : Dictionary) (marks : List Bool) (row : ℕ) (e : Dictionary) (now : List Bool) → IsSolvedBefore d marks row e now → IsSolvedBefore d marks (row + 1) e now
solved_over d marks row e now is = record {
  live = is.live;
  sound = is.sound;
  system = is.system;
  names = is.names;
  basics = is.basics;
  marked = is.marked;
  behind = λ i h k. is.behind i (Prim.omega (arith, h)) k;
  known = is.known;
}

same_system : (e : Dictionary) (r c : ℕ) → system_in (pivoted e r c) ≡ system_in e
unfolding system_in pivoted note_of
same_system e r c = refl

same_names : (e : Dictionary) (r c : ℕ) → (pivoted e r c).names ≡ e.names
unfolding pivoted
same_names e r c = refl

basics_set : (e : Dictionary) (r c : ℕ) → (pivoted e r c).basics ≡ slice_set e.basics r (slice_index e.others c)
unfolding pivoted
basics_set e r c = refl

same_life : (e : Dictionary) (r c : ℕ) → (pivoted e r c).spent ≡ e.spent
unfolding pivoted
same_life e r c = refl

others_set : (e : Dictionary) (r c : ℕ) → (pivoted e r c).others ≡ slice_set e.others c (slice_index e.basics r)
unfolding pivoted
others_set e r c = refl

-- an exchange of the row
module _ (d : Dictionary) (marks : List Bool) (row : ℕ) (e : Dictionary) (now : List Bool) (is : IsSolvedBefore d marks row e now) (c : ℕ)
    (above : 0 < row) (within : row < length e.basics) (column : c < length e.others) where
  at : (names : List ℕ) → (pivoted e row c).others ≡ names → (i : ℕ) → slice_index (pivoted e row c).others i ≡ slice_index names i
  at names same i = ap (λ (ns : List ℕ). slice_index ns i) same

  known_then : (v w : ℕ → Fraction) → AgreeWhere marks d.others v w → AgreeBehind d.basics v w → AgreeWhere (slice_set now c true) (pivoted e row c).others v w
  known_then v w agree behind i lt marked = elim (same_or_not i c) [
    | inl same ↦
        let here : slice_index (pivoted e row c).others i ≡ slice_index d.basics row =
        at (slice_set e.others c (slice_index e.basics row)) (others_set e row c) i
        ∙ ap (λ (k : ℕ). slice_index (slice_set e.others c (slice_index e.basics row)) k) same
        ∙ get_or-set_same e.others c (slice_index e.basics row) 0 column
        ∙ is.behind row (Prim.omega arith) (Prim.omega (arith, within, is.basics)) in
        ap v here ∙ behind row above (Prim.omega (arith, within, is.basics)) ∙ sym (ap w here)
    | inr apart ↦
        let here : slice_index (pivoted e row c).others i ≡ slice_index e.others i =
        at (slice_set e.others c (slice_index e.basics row)) (others_set e row c) i ∙ get_or-set_other e.others c i (slice_index e.basics row) 0 apart in
        let few : i < length e.others = Prim.omega (arith, lt, ap length (others_set e row c) ∙ length-set e.others c (slice_index e.basics row)) in
        ap v here ∙ is.known v w agree behind i few (sym (get_or-set_other now c i true false apart) ∙ marked) ∙ sym (ap w here)
  ]

  pub solved_more : (f : Dictionary) → f ≡ pivoted e row c → IsDictionary f → IsSolvedBefore d marks (row + 1) f (slice_set now c true)
  solved_more f same sound = record {
    live = ap (λ (g : Dictionary). g.spent) same ∙ same_life e row c ∙ is.live;
    sound = sound;
    system = ap system_in same ∙ same_system e row c ∙ is.system;
    names = ap (λ (g : Dictionary). g.names) same ∙ same_names e row c ∙ is.names;
    basics = ap (λ (g : Dictionary). length g.basics) same ∙ ap length (basics_set e row c) ∙ length-set e.basics row (slice_index e.others c) ∙ is.basics;
    marked = length-set now c true ∙ is.marked ∙ sym (ap (λ (g : Dictionary). length g.others) same ∙ ap length (others_set e row c) ∙ length-set e.others c (slice_index e.basics row));
    behind = λ i h k. ap (λ (g : Dictionary). slice_index g.basics i) same ∙ ap (λ (ns : List ℕ). slice_index ns i) (basics_set e row c)
        ∙ get_or-set_other e.basics row i (slice_index e.others c) 0 (λ q. Prim.omega (arith, q, h))
        ∙ is.behind i (Prim.omega (arith, h)) k;
    known = λ v w agree behind. subst (λ (g : Dictionary). AgreeWhere (slice_set now c true) g.others v w) (sym same) (known_then v w agree behind);
  }

-- where all others are known, so are the basic ones
module _ (e : Dictionary) (sound : IsDictionary e) (live : e.spent ≡ false) (v w : ℕ → Fraction) (meets : MeetsRows (system_in e) v) (too : MeetsRows (system_in e) w)
    (same : (n : ℕ) → Contains e.others n → v n ≡ w n) where
  basic_same : (n : ℕ) → Contains e.basics n → v n ≡ w n
  basic_same n k =
      let choice = sound.solutions live in
      let b = basic_in e sound n k in
      (choice.to_table v meets).basic n b
      ∙ sum_by-members (λ j. (choice_of e).entry n j *ℚ v j) (λ j. (choice_of e).entry n j *ℚ w j) (others (system_in e) (choice_of e))
      (λ j l. ap (λ (t : Fraction). (choice_of e).entry n j *ℚ t) (same j (in_others e sound j l)))
      ∙ sym ((choice.to_table w too).basic n b)

  pub all_same : (n : ℕ) → Contains e.names n → v n ≡ w n
  all_same n k = elim (sound.split.either n k) [ inl l ↦ basic_same n l | inr l ↦ same n l ]

pub one_point : (d : Dictionary) (marks : List Bool) (row : ℕ) (e : Dictionary) (now : List Bool) → IsSolvedBefore d marks row e now → AreAllMarked now → LeavesOnePoint d marks
one_point d marks row e now is all v w meets too agree behind n named =
    let known = is.known v w agree behind in
    all_same e is.sound is.live v w (subst (λ s. MeetsRows s v) (sym is.system) meets) (subst (λ s. MeetsRows s w) (sym is.system) too)
    (λ k l.
    let at = place_in-within e.others k l in
    subst (λ (j : ℕ). v j ≡ w j) at.1 (known (place_in e.others k) at.0 (all (place_in e.others k) (Prim.omega (arith, at.0, is.marked)))))
    n (subst (λ (ns : List ℕ). Contains ns n) (sym is.names) named)
