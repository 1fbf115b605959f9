use Rattle.std.proofs.Common.{rules, Err, ◌≡◌, List, map, length, arith, sym, subst}
use Rattle.std.proofs.lemmas.List.{take_at}
use Rattle.market_model.specs.PutIn.{AreCarried, dispatch_of}
use Rattle.market_model.specs.declared.stops.Stop.TheVariants as why
use Rattle.cert_sums.proofs.flowing.carried_flows.Goals as goal

pub returns-clause-carried : goal.returns-clause-carried
returns-clause-carried g c = λ puts.
    let m = c.args.market.now in
    let value = g.N.Exact.value in
    let x = dispatch_of value c.args.dispatch.now in
    let count : length c.put_carried.new.out ≡ c.in_ok-carried.carried.len = omega (arith, c.in_ok-carried.ensures.count, c.in_ok-put_carried.ensures.count, c.deref_mut.ensures.len) in
    subst (λ (ys : List g.row.N.Denot). AreCarried m x (map value ys)) (sym (take_at c.put_carried.new.out _ c.in_ok-carried.carried.len count)) (c.in_ok-put_carried.ensures.carried puts)

pub returns-in_err-put_carried-clause-stops : goal.returns-in_err-put_carried-clause-stops
returns-in_err-put_carried-clause-stops g c = λ puts.
    let given : c.from_residual-in_err-put_carried.result ≡ Err (why.Passed c.in_err-put_carried.field-0.0) = search rules in
    rw given (c.in_err-put_carried.ensures.stops puts)
