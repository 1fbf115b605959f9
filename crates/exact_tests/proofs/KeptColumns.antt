-- What tests ask of dictionaries that were posed and run.
use Rattle.std.specs.Prelude.{◌≡◌, ℕ, List, [], ◌∷◌, refl}
use Rattle.std.specs.List.{Contains}
use Rattle.std.proofs.Common.{sym, subst, ◌∙◌, lit<}
use Rattle.linear_dict.specs.Dictionaries.{Dictionary}
use Rattle.simplex_core.specs.Outcomes.{Keeps}

-- a column of a dictionary is a variable of one that keeps it
pub kept_column : {d e : Dictionary} (columns : List ℕ) (w : ℕ) → Keeps d e → d.columns ≡ columns → Contains columns w → Contains e.names w
kept_column columns w k e m = k.ready.sound.put_in.second_named w (subst (λ (ws : List ℕ). Contains ws w) (sym (k.columns ∙ e)) m)

pub kept_two : {d e : Dictionary} (a b : ℕ) → Keeps d e → d.columns ≡ a ∷ b ∷ [] → Contains e.names a × Contains e.names b
kept_two a b k e = (kept_column (a ∷ b ∷ []) a k e (0, lit< tt, refl), kept_column (a ∷ b ∷ []) b k e (1, lit< tt, refl))

pub kept_three : {d e : Dictionary} (a b c : ℕ) → Keeps d e → d.columns ≡ a ∷ b ∷ c ∷ [] → Contains e.names a × Contains e.names b × Contains e.names c
kept_three a b c k e = (
  kept_column (a ∷ b ∷ c ∷ []) a k e (0, lit< tt, refl),
  kept_column (a ∷ b ∷ c ∷ []) b k e (1, lit< tt, refl),
  kept_column (a ∷ b ∷ c ∷ []) c k e (2, lit< tt, refl),
)
