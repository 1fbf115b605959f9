use Rattle.std.proofs.Common.{◌≡◌, drop}
use Rattle.outside_store.specs.Memory.{find}
use Rattle.outside_store.specs.Places.{shown_all}
use Rattle.outside_store.proofs.named_file.bytes_of.Given as goal

abbrev pub invariant-loop-file : goal.invariant-loop-file
invariant-loop-file l = find (shown_all l.files) l.name ≡ find (shown_all (drop l.file-index l.files)) l.name
