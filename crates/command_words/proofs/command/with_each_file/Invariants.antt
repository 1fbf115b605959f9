use Rattle.std.proofs.Common.{◌≡◌, take, false}
use Rattle.std.specs.Prelude.{fold}
use Rattle.clap.specs.Words.{app_of}
use Rattle.clap.specs.declared.builder.command.Command.TheViews.{out-Command as fields_of}
use Rattle.command_words.specs.Words.{with_file}
use Rattle.command_words.proofs.command.with_each_file.Given as goal

abbrev pub invariant-loop-name : goal.invariant-loop-name
invariant-loop-name l = record {
  app : app_of l.command ≡ fold (λ app option. with_file app option.0.now) (app_of l.initial.command) (take l.name-index l.options);
  local : (fields_of l.command).has_globals ≡ false;
}
