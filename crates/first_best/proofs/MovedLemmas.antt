-- One column more: from the clauses of posing and of a run to the next face.
use Rattle.std.specs.Prelude.{◌≡◌, ℕ, ◌+◌, ◌++◌, ◌∷◌, [], Bool, List, Option, None, length, map, refl}
use Rattle.std.specs.List.{All, Contains}
use Rattle.std.proofs.Common.{ap, ap₂, sym, ◌∙◌, subst, subst₂, inl, inr}
use Rattle.std.proofs.lemmas.List.{length-append, length-map}
use Rattle.std.proofs.lemmas.List.Elements.{Contains-append_cases}
use Rattle.exact_fraction.specs.declared.Op.{Op}
use Rattle.fraction_theory.specs.Fraction.{Fraction}
use Rattle.fraction_theory.specs.Order.{◌≤ℚ◌}
use Rattle.linear_dict.specs.Dictionaries.{Dictionary, choice_of, system_in}
use Rattle.linear_dict.specs.Notes.{Noted}
use Rattle.linear_system.specs.Pairs.{IsSystemPair}
use Rattle.linear_system.specs.SameSystems.{SameSystem}
use Rattle.optimal_face.specs.Faces.{Held, held_at, more_held, price_of_one}
use Rattle.simplex_core.specs.Fixed.{IsFixedSystemPair, KeepsFixed}
use Rattle.simplex_core.specs.Outcomes.{Keeps, ShowsChoice}
use Rattle.simplex_core.specs.Posings.{IsPosing}
use Rattle.simplex_core.specs.States.{state_of}
use Rattle.simplex_core.specs.Turns.{noted_anew}
use Rattle.simplex_core.specs.declared.bounds.Bounds.{Bounds}
use Rattle.simplex_theory.specs.States.{HasNoPoint, IsSolved}
use Rattle.first_best.specs.Holding.{back_note, held_by}
use Rattle.first_best.specs.Outcomes.{HasSystem, IsFace}
use Rattle.first_best.proofs.BackLemmas.{IsPut, after, face_after, held_in_order, not_empty, pair_back, same_after}
use Rattle.first_best.proofs.HoldLemmas.{held-unnamed}
use Rattle.first_best.proofs.PosedLemmas.{bounds_in_order, posed_face}

-- what is brought back and held, where the code reads it by other names
pub brought : (r e d next : Dictionary) (notes : List Noted) (hs more : List (Option Bool)) → next ≡ noted_anew r (back_note (record r { notes = notes }) (held_by r.names hs) r)
    → notes ≡ d.notes → hs ≡ more → r ≡ e → next ≡ noted_anew e (back_note (record e { notes = d.notes }) (held_by e.names more) e)
brought r e d next notes hs more is same held dict =
    is
    ∙ ap₂ (λ (ns : List Noted) (xs : List (Option Bool)). noted_anew r (back_note (record r { notes = ns }) (held_by r.names xs) r)) same held
    ∙ ap (λ (x : Dictionary). noted_anew x (back_note (record x { notes = d.notes }) (held_by x.names more) x)) dict

pub besides_as : (r e : Dictionary) (more hs held : List (Option Bool)) → held_by r.names more ≡ more_held (held_by r.names hs) (state_of r) → hs ≡ held → r ≡ e
    → held_by e.names more ≡ more_held (held_by e.names held) (state_of e)
besides_as r e more hs held is same dict =
    subst₂ (λ (x : Dictionary) (xs : List (Option Bool)). held_by x.names more ≡ more_held (held_by x.names xs) (state_of x)) dict same is

-- the bounds of columns and then of rows, as they are held
abbrev pub AreLows : {N : Type 0} → (N → Fraction) → Dictionary → List (Bounds N) → List (Option Bool) → Type 0
AreLows {N} value d bounds held = (price : ℕ → Fraction) → map (λ (b : Bounds N). value b.low) bounds ≡ map (held_at (system_in d) (held_by d.names held) price).low (d.columns ++ d.rows)

abbrev pub AreHighs : {N : Type 0} → (N → Fraction) → Dictionary → List (Bounds N) → List (Option Bool) → Type 0
AreHighs {N} value d bounds held = (price : ℕ → Fraction) → map (λ (b : Bounds N). value b.high) bounds ≡ map (held_at (system_in d) (held_by d.names held) price).high (d.columns ++ d.rows)

module _ {N : Type 0} (value : N → Fraction) (d : Dictionary) (names : List ℕ) (held : List (Option Bool)) (j : ℕ) (face : IsFace d names (held_by d.names held)) (bounds : List (Bounds N))
    (lows : AreLows value d bounds held) (highs : AreHighs value d bounds held) where
  pub bounds_count : length bounds ≡ length d.columns + length d.rows
  bounds_count =
      sym (length-map bounds (λ (b : Bounds N). value b.low)) ∙ ap length (lows (price_of_one j))
      ∙ length-map (d.columns ++ d.rows) (held_at (system_in d) (held_by d.names held) (price_of_one j)).low ∙ length-append d.columns d.rows

  pub bounds_order : All (λ b. value b.low ≤ℚ value b.high) bounds
  bounds_order = bounds_in_order value (held_at (system_in d) (held_by d.names held) (price_of_one j)) (d.columns ++ d.rows) bounds
      (λ w c. held_in_order d names (held_by d.names held) j face w (elim (Contains-append_cases d.columns d.rows w c) [
        | inl k ↦ face.sound.put_in.second_named w k
        | inr k ↦ face.sound.put_in.first_named w k
      ]))
      (lows (price_of_one j)) (highs (price_of_one j))

  module _ (prices : List N) (priced : map value prices ≡ map (price_of_one j) d.columns) (column : Contains d.columns j) (p : Dictionary) (posing : IsPosing value d prices bounds p) where
    put : IsPut d p
    put = record { columns = posing.columns; rows = posing.rows; coefficients = posing.coefficients; names = posing.names; others = posing.others }

    absent : (w : ℕ) → ¬ (Contains d.names w) → held_by d.names held w ≡ None
    absent w n = held-unnamed d.names held w n

    same : SameSystem (system_in p) (held_at (system_in d) (held_by d.names held) (price_of_one j))
    same = posed_face value d p face.sound (held_by d.names held) j prices bounds posing priced (lows (price_of_one j)) (highs (price_of_one j))

    pub has_point : ¬ (HasNoPoint (system_in p))
    has_point = not_empty d p names (held_by d.names held) j face absent column put same

    pub pair_is : (bound : ℕ) (op : Op) (l r : Fraction) → IsFixedSystemPair p bound op l r → IsSystemPair (system_in d) bound op l r
    pair_is = pair_back d p names (held_by d.names held) j face absent column put same

    module _ (e next : Dictionary) (more : List (Option Bool)) (keeps : Keeps p e) (shows : ShowsChoice e) (solved : IsSolved (system_in e) (state_of e)) (kept : KeepsFixed p (choice_of e))
        (besides : held_by e.names more ≡ more_held (held_by e.names held) (state_of e)) (back : next ≡ noted_anew e (back_note (record e { notes = d.notes }) (held_by e.names more) e)) where
      names_same : e.names ≡ d.names
      names_same = keeps.names ∙ posing.names

      more_is : held_by e.names more ≡ more_held (held_by d.names held) (state_of e)
      more_is = besides ∙ ap (λ (ns : List ℕ). more_held (held_by ns held) (state_of e)) names_same

      next_is : next ≡ after d p names (held_by d.names held) j face absent column put same e keeps shows solved kept
      next_is = back ∙ ap (λ (h : Held). noted_anew e (back_note (record e { notes = d.notes }) h e)) more_is

      pub next_same : HasSystem d next
      next_same = subst (HasSystem d) (sym next_is) (same_after d p names (held_by d.names held) j face absent column put same e keeps shows solved kept)

      pub next_face : IsFace next (names ++ j ∷ []) (held_by next.names more)
      next_face =
          subst₂ (λ (x : Dictionary) (h : Held). IsFace x (names ++ j ∷ []) h) (sym next_is)
          (sym more_is ∙ ap (λ (ns : List ℕ). held_by ns more) (names_same ∙ sym next_same.names))
          (face_after d p names (held_by d.names held) j face absent column put same e keeps shows solved kept)
