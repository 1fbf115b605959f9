-- What the statements of a case have set.
use Rattle.std.specs.Prelude.{Bool, true, false, [], ◌∷◌, length, nat_lt, Option, Some, None, is_some, Result, Ok, Err, if◌then◌else◌}
use Rattle.std.specs.Option.{option_map_or}
use Rattle.case_text.specs.declared.CaseFault.{CaseFault}
use Rattle.case_text.specs.declared.CaseFault.TheVariants as fault
use Rattle.case_text.specs.declared.Field.{Field}
use Rattle.case_text.specs.declared.Field.TheVariants as field
use Rattle.record_reading.specs.Records.{first_ragged}
use Rattle.case_text.specs.Matrices.{Rows, CaseMatrices, least_columns}

pub record Settings : Type 0 where
  pub version : Bool
  pub base : Bool
  pub bus : Option Rows
  pub generators : Option Rows
  pub branch : Option Rows

abbrev pub no_settings : Settings
no_settings = record { version = false; base = false; bus = None; generators = None; branch = None }

abbrev pub is_set : Settings → Field → Bool
is_set settings field.Version = settings.version
is_set settings field.BaseMva = settings.base
is_set settings field.Bus = is_some settings.bus
is_set settings field.Gen = is_some settings.generators
is_set settings field.Branch = is_some settings.branch

abbrev pub with_field : Settings → Field → Rows → Settings
with_field settings field.Version rows = record settings { version = true }
with_field settings field.BaseMva rows = record settings { base = true }
with_field settings field.Bus rows = record settings { bus = Some rows }
with_field settings field.Gen rows = record settings { generators = Some rows }
with_field settings field.Branch rows = record settings { branch = Some rows }

-- the fault of rows that are not all as long as the first, or not long enough
unfoldable pub uneven : Field → Rows → Option CaseFault
uneven f [] = None
uneven f (row ∷ rows) =
    option_map_or (λ number. Some (fault.Ragged f number)) (first_ragged (length row) 1 (row ∷ rows))
    (if nat_lt (length row) (least_columns f) then Some (fault.Narrow f) else None)

-- what is set with a further statement, which sets no field a second time
unfoldable pub with_setting : Settings → Option Field → Rows → Result Settings CaseFault
with_setting settings None rows = Ok settings
with_setting settings (Some f) rows =
    if is_set settings f then Err (fault.Twice f)
    else option_map_or (λ e. Err e) (uneven f rows) (Ok (with_field settings f rows))

unfoldable pub matrices : Option Rows → Option Rows → Option Rows → Result CaseMatrices CaseFault
matrices None generators branch = Err (fault.Missing field.Bus)
matrices (Some bus) None branch = Err (fault.Missing field.Gen)
matrices (Some bus) (Some generators) None = Err (fault.Missing field.Branch)
matrices (Some bus) (Some generators) (Some branch) = Ok (record { bus = bus; generators = generators; branch = branch })

-- the matrices, where all fields are set
unfoldable pub all_set : Settings → Result CaseMatrices CaseFault
all_set settings =
    if settings.version then (if settings.base then matrices settings.bus settings.generators settings.branch else Err (fault.Missing field.BaseMva))
    else Err fault.NoVersion
