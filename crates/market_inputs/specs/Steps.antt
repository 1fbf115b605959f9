-- Steps of the work, of which the first refusal is told.
use Rattle.std.specs.Prelude.{◌≡◌, Result, Ok, Err}
use Rattle.refusal_text.specs.declared.refusals.Refusal.{Refusal}

-- a step with one outcome
abbrev pub Is : {A : Type 0} → Result A Refusal → Result A Refusal → Type 0
Is made told = made ≡ told

-- what is made is handed on, and a refusal ends the work
abbrev pub Onward : {A B : Type 0} → Result A Refusal → (A → Result B Refusal → Type 0) → Result B Refusal → Type 0
Onward (Ok x) next told = next x told
Onward (Err r) next told = told ≡ Err r

-- a step, and the next one on what it makes
pub record Then {A B : Type 0} (first : Result A Refusal → Type 0) (next : A → Result B Refusal → Type 0) (told : Result B Refusal) : Type 0 where
  pub made : Result A Refusal
  pub is : first made
  pub rest : Onward made next told
