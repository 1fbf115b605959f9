-- The exit status of each way to end.
use Rattle.std.specs.Prelude.{ℕ}
use Rattle.command_answers.specs.declared.status.Status.{Status}
use Rattle.command_answers.specs.declared.status.Status.TheVariants as status

abbrev pub code_of : Status → ℕ
code_of status.Done = 0
code_of status.Usage = 1
code_of status.Refused = 2
code_of status.Infeasible = 3
code_of status.Range = 4
code_of status.ReadFailed = 5
code_of status.WriteFailed = 6
code_of status.Memory = 7
code_of status.Refuted = 8

-- a status that comes of files that were read, or of a ring
abbrev pub IsOfWork : Status → Type 0
IsOfWork status.Done = Unit {0}
IsOfWork status.Usage = ⊥
IsOfWork status.Refused = Unit {0}
IsOfWork status.Infeasible = Unit {0}
IsOfWork status.Range = Unit {0}
IsOfWork status.Refuted = Unit {0}
IsOfWork status.ReadFailed = ⊥
IsOfWork status.WriteFailed = ⊥
IsOfWork status.Memory = ⊥
