-- How a step ends that only reads, and what it leaves.
use Rattle.std.specs.Prelude.{◌≡◌, ◌⊎◌, ℕ, List}
use Rattle.outside_store.specs.Causes.{Rose, Still}
use Rattle.outside_store.specs.Files.{SameFiles}
use Rattle.outside_store.specs.declared.Store.{Ghosts}
use Rattle.command_answers.specs.declared.status.Status.{Status}
use Rattle.command_answers.specs.declared.status.Status.TheVariants as status

-- a status that comes with no text
abbrev pub IsSilent : Status → Type 0
IsSilent s = (s ≡ status.ReadFailed) ⊎ (s ≡ status.Memory)

-- What a step that only reads leaves of a store: every file is as it was, and no failed write is counted. Where the step failed for a
-- read, the count of failed reads of a file that it was asked to read rose; else no failed read is counted.
pub record OnlyReads {S : Type 0} (store : Ghosts S) (old new : S) (asked : List ℕ → Type 0) (failed : Type 0) : Type 0 where
  pub same : SameFiles (store.files old) (store.files new)
  pub failed_read : failed → (file : List ℕ) × asked file × Rose (store.failed_reads old file) (store.failed_reads new file)
  pub reads : ¬ failed → Still (store.failed_reads old) (store.failed_reads new)
  pub writes : Still (store.failed_writes old) (store.failed_writes new)
