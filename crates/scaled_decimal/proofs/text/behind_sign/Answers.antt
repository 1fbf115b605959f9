use Rattle.std.proofs.Common.{refl, inl, inr, arith, true, false}
use Rattle.scaled_decimal.proofs.PlainLemmas.{signed_by}
use Rattle.scaled_decimal.proofs.text.behind_sign.Goals as goal

pub returns-in-45-clause-signed : goal.returns-in-45-clause-signed
returns-in-45-clause-signed c = signed_by c.args.bytes.now 45 true c.in-45.len_at_least (Prim.omega arith) (inr (inr (refl, refl)))

pub returns-in-43-clause-signed : goal.returns-in-43-clause-signed
returns-in-43-clause-signed c = signed_by c.args.bytes.now 43 false c.in-43.len_at_least (Prim.omega arith) (inr (inl (refl, refl)))
