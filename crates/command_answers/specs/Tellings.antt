-- What the inputs of a command come to: a status, the text that goes with it, and what there is to write to files.
use Rattle.std.specs.Prelude.{◌≡◌, ℕ, List, Option, Some, None, option_map, Result, Ok, Err}
use Rattle.refusal_text.specs.Refusals.{refusal_line}
use Rattle.refusal_text.specs.declared.refusals.Refusal.{Refusal}
use Rattle.market_inputs.specs.declared.stops.InputStop.{InputStop}
use Rattle.market_inputs.specs.declared.stops.InputStop.TheVariants as stop
use Rattle.command_answers.specs.declared.status.Status.{Status}
use Rattle.command_answers.specs.declared.status.Status.TheVariants as status
use Rattle.command_answers.specs.declared.told.Outputs.{Outputs}
use Rattle.command_answers.specs.declared.told.Told.{Told}

-- what there is for each file, as something else
abbrev pub map_outputs : {T U : Type 0} → (T → U) → Outputs T → Outputs U
map_outputs f outputs = record { ptdf = option_map f outputs.ptdf; lodf = option_map f outputs.lodf; certificate = option_map f outputs.certificate }

-- a certificate alone, where there is one
abbrev pub certified : {T : Type 0} → Option T → Outputs T
certified certificate = record { ptdf = None; lodf = None; certificate = certificate }

-- a table of shift factors, and one of outage factors where there is one
abbrev pub tabled : {T : Type 0} → T → Option T → Outputs T
tabled ptdf lodf = record { ptdf = Some ptdf; lodf = lodf; certificate = None }

pub record Telling : Type 0 where
  pub status : Status
  pub text : List ℕ
  pub outputs : Outputs (List ℕ)

abbrev pub telling_of : Told → Telling
telling_of t = record { status = t.status; text = t.text.items; outputs = map_outputs (λ bytes. bytes.items) t.outputs }

-- a status and its text, with nothing for a file
abbrev pub uncertified : Status → List ℕ → Telling
uncertified s text = record { status = s; text = text; outputs = certified None }

-- what a file that is refused comes to: the line that says why
abbrev pub refusal_of : Refusal → Telling
refusal_of r = uncertified status.Refused (refusal_line r)

-- what is told is right for what some inputs stand for, or it is the line of their first fault
abbrev pub ComesTo : {A : Type 0} → (A → Telling → Type 0) → Result A Refusal → Telling → Type 0
ComesTo right (Ok x) t = right x t
ComesTo right (Err r) t = t ≡ refusal_of r

-- the same of what was made of them; for want of memory there is nothing to tell
abbrev pub MadeTo : {A : Type 0} → (A → Telling → Type 0) → Result A InputStop → Telling → Type 0
MadeTo right (Ok x) t = right x t
MadeTo right (Err (stop.Refused r)) t = t ≡ refusal_of r
MadeTo right (Err stop.Memory) t = ⊥

-- what is told is right for inputs that stand for this
pub record Tells {A : Type 0} (stand : Result A Refusal → Type 0) (right : A → Telling → Type 0) (t : Telling) : Type 0 where
  pub told : Result A Refusal
  pub stands : stand told
  pub comes : ComesTo right told t
