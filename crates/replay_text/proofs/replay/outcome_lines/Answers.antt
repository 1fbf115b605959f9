use Rattle.std.proofs.Common.{◌++◌}
use Rattle.std.specs.Prelude.{codes}
use Rattle.std.proofs.lemmas.Result.{IfOk-equal}
use Rattle.replay_text.specs.ReplayTexts.{fault_text}
use Rattle.replay_text.proofs.TextLemmas.{three_pieces}
use Rattle.replay_text.proofs.replay.outcome_lines.Goals as goal

pub returns-in_ok-fault_words-in-Refused : goal.returns-in_ok-fault_words-in-Refused
returns-in_ok-fault_words-in-Refused g c =
    let fault = c.in-Refused.fault in
    rw c.in-Refused.is
    (IfOk-equal c.word-in-Refused-2.result c.word-in-Refused-2.new.self (c.fault_words.new.text ++ codes "\n") (c.args.text.now ++ (codes " edit refused " ++ fault_text fault ++ codes "\n")) c.word-in-Refused-2.ensures
    (three_pieces c.args.text.now c.word-in-Refused.new.self c.fault_words.new.text (codes " edit refused ") (fault_text fault) (codes "\n") c.in_ok-word-in-Refused.ensures c.in_ok-fault_words-in-Refused.ensures))
