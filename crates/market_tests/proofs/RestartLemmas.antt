-- What is run is over the columns and the rows that were kept.
use Rattle.std.specs.Prelude.{◌≡◌, true, List, [], ◌∷◌, length, Option, Some, None, IfSome, is_some}
use Rattle.std.proofs.Common.{ap, ◌∙◌}
use Rattle.fraction_theory.specs.Fraction.{Fraction}
use Rattle.linear_dict.specs.Dictionaries.{Dictionary}
use Rattle.simplex_core.specs.Outcomes.{Keeps}
use Rattle.simplex_core.specs.Posings.{IsPosing}
use Rattle.simplex_core.specs.declared.bounds.Bounds.{Bounds}

pub stays : {N : Type 0} (value : N → Fraction) (prices : List N) (bounds : List (Bounds N)) (start : Option Dictionary) (posed e : Dictionary) → is_some start ≡ true
    → IfSome start (λ d. (d.columns ≡ 1 ∷ 2 ∷ []) × (length d.rows ≡ 1)) → IfSome start (λ d. IsPosing value d prices bounds posed) → Keeps posed e
    → (e.columns ≡ 1 ∷ 2 ∷ []) × (length e.rows ≡ 1)
stays value prices bounds None posed e some was posing keeps = absurd cc
stays value prices bounds (Some d) posed e some was posing keeps = (keeps.columns ∙ posing.columns ∙ was.0, ap length (keeps.rows ∙ posing.rows) ∙ was.1)
