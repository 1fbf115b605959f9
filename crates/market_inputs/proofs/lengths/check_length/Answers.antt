use Rattle.std.proofs.Common.{refl, arith}
use Rattle.refusal_text.specs.declared.refusals.Refusal.TheVariants as refusal
use Rattle.market_inputs.proofs.FileLemmas.{sized-long, sized-short}
use Rattle.market_inputs.proofs.lengths.check_length.Goals as goal

pub returns-then-bytes-gt-MOST_FILE-clause-long : goal.returns-then-bytes-gt-MOST_FILE-clause-long
returns-then-bytes-gt-MOST_FILE-clause-long c = (refl, sized-long (refusal.TooLong c.args.file) c.args.bytes.now c.if-bytes-gt-MOST_FILE.true)

pub returns-clause-short : goal.returns-clause-short
returns-clause-short c = sized-short (refusal.TooLong c.args.file) c.args.bytes.now (omega (arith, c.if-bytes-gt-MOST_FILE.false))
