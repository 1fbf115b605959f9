use Rattle.std.specs.Prelude.{◌↔◌, IsTrue}
use Rattle.std.proofs.Common.{sym, subst, ◌∙◌}
use Rattle.scaled_decimal.specs.Decimal.{IsNumber}
use Rattle.scaled_decimal.proofs.ReadingLaws.{is_number_text-Some, is_number_text-None, is_number_text-IsNumber}
use Rattle.scaled_decimal.proofs.is_number.Goals as goal

pub returns-in-Some-clause-is : goal.returns-in-Some-clause-is
returns-in-Some-clause-is c = sym (is_number_text-Some c.args.bytes.now _ c.in-Some.ensures.parts)

pub returns-in-Some-clause-means : goal.returns-in-Some-clause-means
returns-in-Some-clause-means c = subst (λ b. IsTrue b ↔ IsNumber c.args.bytes.now) (sym (returns-in-Some-clause-is c)) (is_number_text-IsNumber c.args.bytes.now)

pub returns-in-None-clause-is : goal.returns-in-None-clause-is
returns-in-None-clause-is c = c.is_not_finite_text.ensures ∙ sym (is_number_text-None c.args.bytes.now c.in-None.ensures.parts)

pub returns-in-None-clause-means : goal.returns-in-None-clause-means
returns-in-None-clause-means c = subst (λ b. IsTrue b ↔ IsNumber c.args.bytes.now) (sym (returns-in-None-clause-is c)) (is_number_text-IsNumber c.args.bytes.now)
