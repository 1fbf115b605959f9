use Rattle.clap.specs.Words.{app_of}
use Rattle.command_words.specs.Words.{with_file}
use Rattle.command_words.proofs.OptionLemmas.{one-more}
use Rattle.command_words.proofs.command.with_each_file.Goals as goal

pub loop-name-preserved : goal.loop-name-preserved
loop-name-preserved c = record {
  app = one-more (λ app option. with_file app option.0.now) (app_of c.args.command) (app_of c.loop-name.command) (app_of c.in_ok-command.command)
      c.args.options.now c.loop-name.name-index _ c.loop-name-test.true c.loop-name.invariant.app c.in_ok-command.ensures.app;
  local = c.in_ok-command.ensures.local;
}
