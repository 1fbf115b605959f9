use Rattle.std.proofs.Common.{◌≡◌, Err, rules}
use Rattle.command_answers.proofs.FactorLemmas.{loss-stopped, shift-stopped}
use Rattle.command_answers.proofs.factors.make_tables.Goals as goal

pub returns-in_err-shift-clause-stop : goal.returns-in_err-shift-clause-stop
returns-in_err-shift-clause-stop c =
    let why = c.in_err-shift.field-0.0 in
    let given : c.from_residual.result ≡ Err why = search rules in
    shift-stopped _ _ c.args.inputs.now c.args.wanted c.args.places c.make_shift.result c.from_residual.result why c.make_shift.ensures.stop c.in_err-shift.was given

pub returns-in_err-loss-clause-stop : goal.returns-in_err-loss-clause-stop
returns-in_err-loss-clause-stop c =
    let why = c.in_err-loss.field-0.0 in
    let given : c.from_residual-in_err-loss.result ≡ Err why = search rules in
    loss-stopped _ _ c.args.inputs.now c.args.wanted c.args.places c.in_ok-shift.shift c.loss_if_wanted.result c.from_residual-in_err-loss.result why
    (record { few = c.in_ok-shift.ensures.few; positive = c.in_ok-shift.ensures.positive; made = c.in_ok-shift.ensures.made }) c.loss_if_wanted.ensures.stop c.in_err-loss.was given

pub returns-clause-made : goal.returns-clause-made
returns-clause-made c = record {
  shift = record { few = c.in_ok-shift.ensures.few; positive = c.in_ok-shift.ensures.positive; made = c.in_ok-shift.ensures.made };
  loss = c.in_ok-loss.ensures.made;
}
