use Rattle.std.proofs.Common.{◌≡◌, true, false, rules, sym, subst}
use Rattle.number_bits.specs.Bits.{most_of}
use Rattle.number_bits.specs.declared.NumberBits.TheVariants.{Bits1023}
use Rattle.long_fraction.specs.Limits.{limit}
use Rattle.command_answers.specs.Clearing.{ClearsTo}
use Rattle.command_answers.specs.Tellings.{telling_of}
use Rattle.command_answers.proofs.WiderLemmas.{by-bits, narrow-wide}
use Rattle.command_answers.proofs.clearing.clear_by.Goals as goal

pub returns-then-not-is_made_anew-clause-clears : goal.returns-then-not-is_made_anew-clause-clears
returns-then-not-is_made_anew-clause-clears c =
    let kept : c.is_made_anew.result ≡ false = search rules in
    by-bits c.args.bits (λ b. ClearsTo b c.args.market.now (telling_of c.in_ok-made.made.told)) _ c.in_ok-made.ensures.clears
    (λ none. c.in_ok-made.ensures.wider (most_of Bits1023) narrow-wide none) (c.is_made_anew.ensures.kept kept)

pub returns-clause-clears : goal.returns-clause-clears
unfolding limit
returns-clause-clears c =
    let anew : c.is_made_anew.result ≡ true = search rules in
    subst (λ b. ClearsTo (most_of b) c.args.market.now (telling_of c.in_ok-anew.anew.told)) (sym (c.is_made_anew.ensures.anew anew).0) c.in_ok-anew.ensures.clears
