use Rattle.std.proofs.Common.{◌≡◌, true, false, rules, sym, subst}
use Rattle.number_bits.specs.Bits.{most_of}
use Rattle.number_bits.specs.declared.NumberBits.TheVariants.{Bits1023}
use Rattle.long_fraction.specs.Limits.{limit}
use Rattle.command_answers.specs.Rights.{EntitlesTo}
use Rattle.command_answers.specs.Tellings.{telling_of}
use Rattle.command_answers.proofs.WiderLemmas.{by-bits, narrow-wide}
use Rattle.command_answers.proofs.rights.rights_by.Goals as goal

pub returns-then-not-is_made_anew-clause-entitles : goal.returns-then-not-is_made_anew-clause-entitles
returns-then-not-is_made_anew-clause-entitles c =
    let kept : c.is_made_anew.result ≡ false = search rules in
    by-bits c.args.bits (λ b. EntitlesTo b c.args.market.now c.args.rights.now (telling_of c.in_ok-made.made.told)) _ c.in_ok-made.ensures.entitles
    (λ none. c.in_ok-made.ensures.wider (most_of Bits1023) narrow-wide none) (c.is_made_anew.ensures.kept kept)

pub returns-clause-entitles : goal.returns-clause-entitles
unfolding limit
returns-clause-entitles c =
    let anew : c.is_made_anew.result ≡ true = search rules in
    subst (λ b. EntitlesTo (most_of b) c.args.market.now c.args.rights.now (telling_of c.in_ok-anew.anew.told)) (sym (c.is_made_anew.ensures.anew anew).0) c.in_ok-anew.ensures.entitles
