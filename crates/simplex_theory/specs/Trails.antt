-- Runs of a step that may end: the states still to come, and how many they are.
use Rattle.std.specs.Prelude.{◌≡◌, ℕ, ◌<◌, List, [], ◌∷◌, length, Option, Some, None}
use Rattle.std.proofs.Common.{zero, suc}

module _ {S : Type 0} (next : S → Option S) where
  -- what follows a step, and nothing where there is none
  abbrev pub rest : (S → List S) → Option S → List S
  rest f None = []
  rest f (Some t) = f t

  -- the states of the run from s on, s among them, at most n of them
  unfoldable pub trail : ℕ → S → List S
  trail zero s = []
  trail (suc n) s = s ∷ rest (trail n) (next s)

  -- how many states the run from s has, where it has at most `most`
  unfoldable pub trail_length : ℕ → S → ℕ
  trail_length most s = length (trail (suc most) s)

  -- p 0, p 1, .. p n: each is followed by the next
  abbrev pub Steps : (ℕ → S) → ℕ → Type 0
  Steps p n = (i : ℕ) → i < n → next (p i) ≡ Some (p (suc i))
