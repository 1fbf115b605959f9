use Rattle.std.proofs.Common.{sym, subst}
use Rattle.std.specs.Prelude.{IfOk}
use Rattle.market_tables.specs.Tables.{tables_lent}
use Rattle.number_bits.specs.Bits.{most_of}
use Rattle.long_fraction.specs.Limits.{limit}
use Rattle.command_answers.specs.Inputs.{IsCertified}
use Rattle.command_answers.specs.Tellings.{Tells, telling_of}
use Rattle.command_answers.specs.Verifying.{TellsVerdict}
use Rattle.command_answers.proofs.verifying.verify_told.Goals as goal

pub returns-in-Bits1023-clause-tells : goal.returns-in-Bits1023-clause-tells
unfolding limit
returns-in-Bits1023-clause-tells c =
    subst (λ b. IfOk c.verify_by-in-Bits1023.result (λ told. Tells (IsCertified (most_of b) c.args.rating c.args.places (tables_lent c.args.bytes.now) c.args.edits.now c.args.certificate.now) (TellsVerdict (most_of b)) (telling_of told)))
    (sym c.in-Bits1023.is) c.verify_by-in-Bits1023.ensures.tells
