use Rattle.std.proofs.Common.{sym, subst}
use Rattle.std.specs.Prelude.{IfOk}
use Rattle.number_bits.specs.Bits.{most_of}
use Rattle.long_fraction.specs.Limits.{limit}
use Rattle.command_answers.specs.Inputs.{IsCertificate}
use Rattle.command_answers.specs.Migrating.{TellsMigration}
use Rattle.command_answers.specs.Tellings.{Tells, telling_of}
use Rattle.command_answers.proofs.migrating.migrate_told.Goals as goal

pub returns-in-Bits1023-clause-tells : goal.returns-in-Bits1023-clause-tells
unfolding limit
returns-in-Bits1023-clause-tells c =
    subst (λ b. IfOk c.migrate_by-in-Bits1023.result (λ told. Tells (IsCertificate (most_of b) c.args.certificate.now) TellsMigration (telling_of told)))
    (sym c.in-Bits1023.is) c.migrate_by-in-Bits1023.ensures.tells
