use Rattle.std.proofs.Common.{◌∙◌, sym, ap, codes, ℕ, Option}
use Rattle.std.specs.Prelude.{unwrap_or}
use Rattle.std.specs.Str.Parse.{ExplainsUnsignedError, HasUnsignedDigitsIfOk, ParsesUnsigned}
use Rattle.clap.specs.Words.{found_of}
use Rattle.clap.proofs.WalkLemmas.{one_text-rows}
use Rattle.command_words.proofs.SeedLemmas.{seed-read}
use Rattle.command_words.proofs.words.named_seed.Goals as goal

pub returns-in-Some-clause-given : goal.returns-in-Some-clause-given
returns-in-Some-clause-given c = λ text n given writes most.
    let value = c.get_one.ensures.value text (one_text-rows (found_of c.args.matches.now) (codes "SEED") ∙ given) in
    let read = seed-read (λ bs r. ParsesUnsigned 32 10 bs r × ExplainsUnsignedError 10 bs r × HasUnsignedDigitsIfOk bs r) (λ bs r g. g.0) text n c.get_one.result value writes most in
    c.from.ensures ∙ ap (λ (o : Option ℕ). unwrap_or o 0) (sym c.in-Some.is ∙ read)

pub returns-in-None-clause-given : goal.returns-in-None-clause-given
returns-in-None-clause-given c = λ text n given writes most.
    let value = c.get_one.ensures.value text (one_text-rows (found_of c.args.matches.now) (codes "SEED") ∙ given) in
    let read = seed-read (λ bs r. ParsesUnsigned 32 10 bs r × ExplainsUnsignedError 10 bs r × HasUnsignedDigitsIfOk bs r) (λ bs r g. g.0) text n c.get_one.result value writes most in
    ap (λ (o : Option ℕ). unwrap_or o 0) (sym c.in-None.is ∙ read)
