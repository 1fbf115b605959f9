-- What is told of inputs that are refused, and of a certificate alone.
use Rattle.std.proofs.Common.{◌≡◌, ◌∙◌, ap, subst, ℕ, List, Option, Result, Ok, Err}
use Rattle.std.specs.Prelude.{IfOk, option_map}
use Rattle.refusal_text.specs.declared.refusals.Refusal.{Refusal}
use Rattle.market_inputs.specs.Stops.{IsToldAs}
use Rattle.market_inputs.specs.declared.stops.InputStop.{InputStop}
use Rattle.market_inputs.specs.declared.stops.InputStop.TheVariants as stop
use Rattle.command_answers.specs.declared.told.Outputs.{Outputs}
use Rattle.command_answers.specs.declared.told.Told.{Told}
use Rattle.command_answers.specs.Tellings.{MadeTo, Telling, Tells, certified, map_outputs, refusal_of, telling_of}
use Rattle.command_answers.proofs.IfOkLemmas.{if_ok-map}

-- what is right for what was made, or for why nothing was, is right for what the inputs stand for
pub told-made : {A : Type 0} (stand : Result A Refusal → Type 0) (right : A → Telling → Type 0) (made : Result A InputStop) (t : Telling) → IsToldAs stand made → MadeTo right made t → Tells stand right t
told-made stand right (Ok x) t is comes = record { told = Ok x; stands = is; comes = comes }
told-made stand right (Err (stop.Refused r)) t is comes = record { told = Err r; stands = is; comes = comes }
told-made stand right (Err stop.Memory) t is comes = absurd comes

-- the same of why nothing was made
pub refused-tells : {A : Type 0} (stand : Result A Refusal → Type 0) (right : A → Telling → Type 0) (cause : InputStop) (r : Refusal) (t : Telling) → cause ≡ stop.Refused r → IsToldAs stand (Err cause)
    → t ≡ refusal_of r → Tells stand right t
refused-tells stand right cause r t is stands tells = told-made stand right (Err (stop.Refused r)) t (subst (λ (s : InputStop). IsToldAs stand (Err s)) is stands) tells

-- so the line of a refusal is right for what is refused
pub refusal-tells : {A E : Type 0} (stand : Result A Refusal → Type 0) (right : A → Telling → Type 0) (cause : InputStop) (r line_of : Refusal) (out : Result Told E)
    → IfOk out (λ told. telling_of told ≡ refusal_of line_of) → line_of ≡ r → cause ≡ stop.Refused r → IsToldAs stand (Err cause) → IfOk out (λ told. Tells stand right (telling_of told))
refusal-tells stand right cause r line_of out tells same is stands = if_ok-map _ _ out (λ told t. refused-tells stand right cause r (telling_of told) is stands (t ∙ ap refusal_of same)) tells

-- a certificate alone, as its bytes
pub certified-as : {T : Type 0} (bytes : T → List ℕ) (outputs : Outputs T) (made : Option T) (certificate : Option (List ℕ)) → outputs ≡ certified made → option_map bytes made ≡ certificate
    → map_outputs bytes outputs ≡ certified certificate
certified-as bytes outputs made certificate is same = ap (map_outputs bytes) is ∙ ap certified same
