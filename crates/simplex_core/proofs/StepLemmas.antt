-- What a pivot leaves at the two places, and the turned dictionary as the code makes it.
use Rattle.std.specs.Prelude.{◌≡◌, ℕ, ◌<◌, Bool, true, false, length, slice_index, if◌then◌else◌, refl}
use Rattle.std.proofs.Common.{ap, sym, ◌∙◌}
use Rattle.std.proofs.lemmas.List.{length-set, get_or-set_same}
use Rattle.fraction_theory.specs.Fraction.{Fraction}
use Rattle.linear_dict.specs.Dictionaries.{Dictionary, IsDictionary, system_in, choice_of, note_of, pivoted}
use Rattle.linear_system.specs.Choices.{at_bound}
use Rattle.linear_dict.specs.Notes.{Noted, noted}
use Rattle.linear_dict.specs.Places.{place_in}
use Rattle.linear_dict.specs.declared.note.Note.{Note}
use Rattle.linear_dict.proofs.NameLemmas.{place_in-at}
use Rattle.simplex_theory.specs.Steps.{violated_bound, displacement}
use Rattle.simplex_core.specs.States.{state_of}
use Rattle.simplex_core.proofs.Helping.{low_is, high_is}
use Rattle.simplex_core.specs.Turns.{moved_note, noted_anew, turned}

-- the bound of a note that the code reads
pub bound_is : {N : Type 0} (value : N → Fraction) (d : Dictionary) (v : ℕ) (n : Note N) (above : Bool) (x : N) → noted value n ≡ note_of d v → x ≡ (if above then n.high else n.low) → value x ≡ violated_bound (system_in d) v above
unfolding violated_bound
bound_is value d v n true x is e = ap value e ∙ high_is d v (noted value n) is
bound_is value d v n false x is e = ap value e ∙ low_is d v (noted value n) is

module _ (d : Dictionary) (r c : ℕ) where
  pub pivoted_live : (pivoted d r c).spent ≡ d.spent
  unfolding pivoted
  pivoted_live = refl

  pub pivoted_rows : length (pivoted d r c).basics ≡ length d.basics
  unfolding pivoted
  pivoted_rows = length-set d.basics r (slice_index d.others c)

  pub pivoted_columns : length (pivoted d r c).others ≡ length d.others
  unfolding pivoted
  pivoted_columns = length-set d.others c (slice_index d.basics r)

  pub pivoted_entering : r < length d.basics → slice_index (pivoted d r c).basics r ≡ slice_index d.others c
  unfolding pivoted
  pivoted_entering h = get_or-set_same d.basics r (slice_index d.others c) 0 h

  pub pivoted_leaving : c < length d.others → slice_index (pivoted d r c).others c ≡ slice_index d.basics r
  unfolding pivoted
  pivoted_leaving h = get_or-set_same d.others c (slice_index d.basics r) 0 h

  pub turned_is : IsDictionary d → (v k : ℕ) (above : Bool) (bound far price : Fraction) → r < length d.basics → slice_index d.basics r ≡ v → c < length d.others → slice_index d.others c ≡ k
      → bound ≡ violated_bound (system_in d) v above → far ≡ displacement (system_in d) (state_of d) v above → price ≡ (note_of d k).reduced
      → noted_anew (pivoted d r c) (moved_note (pivoted d r c) v k above bound far price) ≡ turned d v k above
  unfolding turned
  turned_is h v k above bound far price hr ev hc ek eb ef ep =
      let make : ℕ → ℕ → Fraction → Fraction → Fraction → Dictionary = λ i j x y z. noted_anew (pivoted d i j) (moved_note (pivoted d i j) v k above x y z) in
      ap (λ (i : ℕ). make i c bound far price) (sym (place_in-at d.basics r v h.split.first_distinct hr ev))
      ∙ ap (λ (j : ℕ). make (place_in d.basics v) j bound far price) (sym (place_in-at d.others c k h.split.second_distinct hc ek))
      ∙ ap (λ (x : Fraction). make (place_in d.basics v) (place_in d.others k) x far price) eb
      ∙ ap (λ (y : Fraction). make (place_in d.basics v) (place_in d.others k) (violated_bound (system_in d) v above) y price) ef
      ∙ ap (λ (z : Fraction). make (place_in d.basics v) (place_in d.others k) (violated_bound (system_in d) v above) (displacement (system_in d) (state_of d) v above) z) ep

-- the bound at which a note that the code reads stands
pub stand_is : {N : Type 0} (value : N → Fraction) (d : Dictionary) (w : ℕ) (n : Note N) (x : N) → noted value n ≡ note_of d w → x ≡ (if n.at_high then n.high else n.low) → value x ≡ at_bound (system_in d) (choice_of d) w
unfolding at_bound system_in choice_of
stand_is value d w n x is e = ap value e ∙ by n.at_high ∙ ap (λ (m : Noted). if m.at_high then m.high else m.low) is
  where
    by : (b : Bool) → value (if b then n.high else n.low) ≡ (if b then value n.high else value n.low)
    by true = refl
    by false = refl
