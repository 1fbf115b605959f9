use Rattle.std.proofs.Common.{◌≡◌, ◌∙◌, arith, refl}
use Rattle.exact_fraction.specs.Written.{number_text}
use Rattle.exact_fraction.proofs.Digits.{decimal_short, short, one_more, no_zeros, after_zeros}
use Rattle.exact_fraction.proofs.text.append_last.Goals as goal

pub loop-zero-init : goal.loop-zero-init
loop-zero-init c =
    let e : c.as_bytes-digits.result.now ≡ number_text c.args.n = c.as_bytes-digits.ensures.value ∙ c.format.ensures.text ∙ decimal_short c.args.n (omega arith) in
    (short c.args.k c.args.n _ c.requires.places.0 c.requires.fits e, refl, no_zeros _ _)

pub loop-zero-preserved : goal.loop-zero-preserved
loop-zero-preserved c = let i = c.loop-zero.invariant in (i.0, omega (arith, c.append-end.ensures.end), one_more _ _ _ _ _ c.loop-zero.auto._zero i.2 c.append-end.ensures.text)

pub returns-clause-text : goal.returns-clause-text
returns-clause-text c =
    let e : c.as_bytes-digits.result.now ≡ number_text c.args.n = c.as_bytes-digits.ensures.value ∙ c.format.ensures.text ∙ decimal_short c.args.n (omega arith) in
    after_zeros _ _ _ _ c.loop-zero._zero c.args.k c.args.n c.requires.places.0 c.requires.fits e (omega arith) c.loop-zero.invariant.2 c.append.ensures.text
