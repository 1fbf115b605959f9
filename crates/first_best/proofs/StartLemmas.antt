-- The first face of a solved dictionary, a column that can't move, and the end.
use Rattle.std.specs.Prelude.{◌≡◌, ◌≢◌, ℕ, ◌++◌, ◌∷◌, [], pos, Bool, true, false, List, Option, Some, None, refl}
use Rattle.std.specs.List.{Contains}
use Rattle.std.proofs.Common.{ap, sym, ◌∙◌, subst, inl, inr}
use Rattle.fraction_theory.specs.Fraction.{Fraction, whole}
use Rattle.fraction_theory.specs.Signs.{sign_of}
use Rattle.linear_dict.specs.Causes.{IsPairOf}
use Rattle.linear_dict.specs.Dictionaries.{Dictionary, IsDictionary, choice_of, system_in}
use Rattle.linear_dict.proofs.SplitLemmas.{system_is}
use Rattle.linear_system.specs.Systems.{System}
use Rattle.linear_system.proofs.ChoiceLaws.{is_basic}
use Rattle.optimal_face.specs.Faces.{Held, Shows, holds, more_held, nothing_held}
use Rattle.optimal_face.specs.FirstPoints.{HoldsFirst, IsFirstBest}
use Rattle.optimal_face.specs.Laws.{CanNotMove}
use Rattle.optimal_face.proofs.FaceLemmas.{law_of_the_face}
use Rattle.optimal_face.proofs.HeldLemmas.{more_held-free, more_held-priced, priced_or_not, within_by_price}
use Rattle.optimal_face.proofs.StillLemmas.{law_of_the_still}
use Rattle.simplex_core.specs.Outcomes.{ShowsChoice}
use Rattle.simplex_core.specs.States.{state_of}
use Rattle.simplex_theory.specs.States.{IsSolved}
use Rattle.simplex_theory.proofs.Stretches.{by_answer}
use Rattle.first_best.specs.Outcomes.{GoesFirst, HasSystem, IsFace, IsPairOn}
use Rattle.first_best.specs.declared.stop.FirstStop.{FirstStop}
use Rattle.first_best.specs.declared.stop.FirstStop.TheVariants.{Passed as StoppedBy, Memory as NoMemory}
use Rattle.first_best.proofs.BackLemmas.{named_variable, stays_within, variable_named}

some_same : {a b : Bool} → Some a ≡ Some b → a ≡ b
some_same e = Prim.cc

-- a dictionary has its own system
pub same_itself : (d : Dictionary) → IsDictionary d → d.spent ≡ false → HasSystem d d
same_itself d sound live = record { live = live; sound = sound; columns = refl; rows = refl; coefficients = refl; names = refl; system = refl; reduced = λ w. refl }

pub same_through : (d e f : Dictionary) → HasSystem d e → HasSystem e f → HasSystem d f
same_through d e f one two = record {
  live = two.live;
  sound = two.sound;
  columns = two.columns ∙ one.columns;
  rows = two.rows ∙ one.rows;
  coefficients = two.coefficients ∙ one.coefficients;
  names = two.names ∙ one.names;
  system = two.system ∙ one.system;
  reduced = λ w. two.reduced w ∙ one.reduced w;
}

module _ (d : Dictionary) (sound : IsDictionary d) (live : d.spent ≡ false) (shows : ShowsChoice d) (solved : IsSolved (system_in d) (state_of d)) where
  pub first_shows : Shows (system_in d) (state_of d)
  unfolding state_of
  first_shows = record {
    choice = shows.choice;
    values = λ w c. shows.values w (variable_named d w c);
    prices = λ w c. shows.prices w (variable_named d w c);
  }

  -- what is held of it: what has a price
  pub first_face : (held : Held) → held ≡ more_held nothing_held (state_of d) → IsFace d [] held
  unfolding state_of
  first_face held is = subst (IsFace d []) (sym is) (record {
    live = live;
    sound = sound;
    shows = shows;
    solved = solved;
    priced = λ w c n. elim (priced_or_not ((state_of d).reduced w)) [
      | inl nil ↦ absurd (n nil.0)
      | inr priced ↦ more_held-priced nothing_held (state_of d) w refl priced.1
    ];
    stands = λ w high c e. elim (priced_or_not ((state_of d).reduced w)) [
      | inl nil ↦ let none : None ≡ Some high = sym (more_held-free nothing_held (state_of d) w refl nil.1) ∙ e in absurd Prim.cc
      | inr priced ↦ (
        by_answer ((choice_of d).basic w) (λ b. absurd (priced.0 (solved.basic w (is_basic (system_in d) (choice_of d) w (named_variable d w c) b)))) (λ b. b),
        some_same (sym (more_held-priced nothing_held (state_of d) w refl priced.1) ∙ e),
      )
    ];
    first = law_of_the_face (system_in d) (state_of d) (system_is d sound) first_shows solved;
  })

module _ (d : Dictionary) (names : List ℕ) (held : Held) (face : IsFace d names held) where
  -- a column that can't move is one more
  pub still_face : (j : ℕ) → Contains d.names j → CanNotMove (system_in d) held (choice_of d) j → IsFace d (names ++ j ∷ []) held
  still_face j c still = record {
    live = face.live;
    sound = face.sound;
    shows = face.shows;
    solved = face.solved;
    priced = face.priced;
    stands = face.stands;
    first = law_of_the_still (system_in d) names held (choice_of d) j (system_is d face.sound) face.shows.choice (named_variable d j c) face.first still;
  }

  -- the point in hand goes first
  pub point_first : IsFirstBest (system_in d) names (state_of d).value
  point_first = (face.first (state_of d).value face.solved.best.meets).0 (within_by_price (system_in d) held _ (system_in d).price (state_of d).value (stays_within d names held 0 face))

  pub goes_first : (start : Dictionary) → HasSystem start d → GoesFirst start names d
  goes_first start same = record {
    same = same;
    shows = face.shows;
    solved = face.solved;
    first = subst (λ (s : System). IsFirstBest s names (state_of d).value) same.system point_first;
  }

-- a working pair of the one system is one of the same
pub pair_on : {N : Type 0} (value : N → Fraction) (bound : ℕ) (d e : Dictionary) (stop : FirstStop N) → system_in e ≡ system_in d → IsPairOn value bound e stop → IsPairOn value bound d stop
pair_on value bound d e (StoppedBy p) same pair = subst (λ (s : System). IsPairOf value bound s p) same pair
pair_on value bound d e NoMemory same pair = pair
