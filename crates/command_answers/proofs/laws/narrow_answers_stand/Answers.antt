use Rattle.command_answers.proofs.WiderLemmas.{clears-wider, entitles-wider, replays-wider}
use Rattle.command_answers.proofs.laws.narrow_answers_stand.Goals as goal

pub returns-clause-clears : goal.returns-clause-clears
returns-clause-clears c = λ less bound m t wide tells other priced. (tells.0, clears-wider less bound wide m t tells.1 other priced)

pub returns-clause-replays : goal.returns-clause-replays
returns-clause-replays c = λ less bound m steps t wide market data_ok h none priced. replays-wider less bound wide m steps t market data_ok h none priced

pub returns-clause-rights : goal.returns-clause-rights
returns-clause-rights c = λ less bound m rights t wide h other priced. entitles-wider less bound wide m rights t h other priced
