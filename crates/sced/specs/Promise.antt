-- What a run of the program promises, whatever the words, the files and the outside.
use Rattle.std.specs.Prelude.{◌≡◌, ℕ, List}
use Rattle.outside_store.specs.Causes.{Still}
use Rattle.command_answers.specs.declared.status.Status.{Status}
use Rattle.sced.specs.Runs.{CountsReads, CountsWrites, LeavesAll, Outside, TellsUsage}
use Rattle.command_files.specs.OnlyReads.{IsSilent}
use Rattle.sced.specs.Told.{Answers}

-- a run of these words, from what was outside before to what is after it, ends with this status
pub record Runs (words : List (List ℕ)) (before after : Outside) (s : Status) : Type 0 where
  -- The words are refused only where they are none that the program takes, and then always, but for a failed put and want of memory.
  pub usage : TellsUsage words s
  -- It ends for a failed read only where one of a file that the words name for reading failed.
  pub reads : CountsReads words before after s
  -- It ends for a failed write or put only where one failed, of a file that the words name for writing or of the text.
  pub writes : CountsWrites words before after s
  -- Where a failed write is counted, nothing is put.
  pub cut : ¬ (Still before.failed_writes after.failed_writes) → after.taken ≡ before.taken
  -- Where a read failed or memory was refused, no text is put and no file is written.
  pub silent : IsSilent s → LeavesAll before after
  -- Else what there is for the files that the words name for it is written, a certificate or tables of factors, and one text is put, once. They and the status are
  -- right for the whole bytes of the files that the words name, where the store tells its files.
  pub told : ¬ (IsSilent s) → Answers words before after s
