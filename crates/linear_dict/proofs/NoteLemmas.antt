-- Notes change nothing of a dictionary's solutions.
use Rattle.std.specs.Prelude.{ℕ, List, slice_set}
use Rattle.std.proofs.Common.{◌∙◌}
use Rattle.std.proofs.lemmas.List.{length-set}
use Rattle.linear_system.specs.Systems.{activity}
use Rattle.linear_system.specs.Choices.{IsChoice, basics, others}
use Rattle.linear_dict.specs.Dictionaries.{Dictionary, IsDictionary, system_in, choice_of, entry_of}
use Rattle.linear_dict.specs.Notes.{Noted}

-- whether it is a choice is asked of names, coefficients, basic variables and entries alone
pub choice_frame : (d : Dictionary) (ns : List Noted) → IsChoice (system_in d) (choice_of d) → IsChoice (system_in (record d { notes = ns })) (choice_of (record d { notes = ns }))
unfolding system_in choice_of entry_of activity basics others
choice_frame d ns h = record {
  to_table = λ v m. record { basic = (h.to_table v (record { row = m.row })).basic };
  to_rows = λ v m. record { row = (h.to_rows v (record { basic = m.basic })).row };
}

pub noted_dictionary : (d : Dictionary) (k : ℕ) (n : Noted) → IsDictionary d → IsDictionary (record d { notes = slice_set d.notes k n })
noted_dictionary d k n h = record {
  row_count = h.row_count;
  column_count = h.column_count;
  coefficient_count = h.coefficient_count;
  table_count = h.table_count;
  note_count = length-set d.notes k n ∙ h.note_count;
  ascending = h.ascending;
  put_in = h.put_in;
  split = h.split;
  solutions = λ live. choice_frame d (slice_set d.notes k n) (h.solutions live);
}
