use Rattle.std.proofs.Common.{◌≡◌, length}
use Rattle.case_text.specs.Readers.{SameEnd}
use Rattle.case_text.specs.Views.{settings_of}
use Rattle.case_text.specs.Settings.{no_settings}
use Rattle.case_text.specs.Cases.{case_from}
use Rattle.case_text.proofs.statements.read_settings.Given as goal

abbrev pub invariant-loop-settings : goal.invariant-loop-settings
invariant-loop-settings l =
    let start = l.initial.tokens.left in
    let left = l.tokens.left in
    record {
      same : SameEnd l.initial.tokens l.tokens;
      whole : case_from l.text start.fault no_settings 0 start.tokens ≡ case_from l.text left.fault (settings_of l.settings) 0 left.tokens;
    }

abbrev pub decreases-loop-settings : goal.decreases-loop-settings
decreases-loop-settings l = length l.tokens.left.tokens
