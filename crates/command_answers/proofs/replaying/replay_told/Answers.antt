use Rattle.std.proofs.Common.{◌≡◌, true, false, rules, sym, subst}
use Rattle.market_tables.specs.Tables.{tables_lent}
use Rattle.number_bits.specs.Bits.{most_of}
use Rattle.number_bits.specs.declared.NumberBits.TheVariants.{Bits1023}
use Rattle.long_fraction.specs.Limits.{limit}
use Rattle.command_answers.specs.Inputs.{IsReplayed}
use Rattle.command_answers.specs.Replaying.{TellsReplay}
use Rattle.command_answers.specs.Tellings.{Tells, telling_of}
use Rattle.command_answers.proofs.WiderLemmas.{by-bits, narrow-wide}
use Rattle.command_answers.proofs.replaying.replay_told.Goals as goal

pub returns-then-not-is_made_anew-clause-tells : goal.returns-then-not-is_made_anew-clause-tells
returns-then-not-is_made_anew-clause-tells c =
    let kept : c.is_made_anew.result ≡ false = search rules in
    by-bits c.args.bits (λ b. Tells (IsReplayed c.args.rating c.args.places (tables_lent c.args.bytes.now) c.args.edits.now) (TellsReplay b) (telling_of c.in_ok-made.made.told)) _ c.in_ok-made.ensures.tells
    (λ none. c.in_ok-made.ensures.wider (most_of Bits1023) narrow-wide none) (c.is_made_anew.ensures.kept kept)

pub returns-clause-tells : goal.returns-clause-tells
unfolding limit
returns-clause-tells c =
    let anew : c.is_made_anew.result ≡ true = search rules in
    subst (λ b. Tells (IsReplayed c.args.rating c.args.places (tables_lent c.args.bytes.now) c.args.edits.now) (TellsReplay (most_of b)) (telling_of c.in_ok-anew.anew.told)) (sym (c.is_made_anew.ensures.anew anew).0)
    c.in_ok-anew.ensures.tells
