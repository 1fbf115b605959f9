use Rattle.std.proofs.Common.{◌≡◌, None, List, map}
use Rattle.std.specs.List.{find}
use Rattle.market_model.specs.declared.answered.Dual.{Dual}
use Rattle.market_model.specs.Dispatch.{Dispatch}
use Rattle.market_model.specs.Valued.{dual_at}
use Rattle.market_model.specs.PutIn.{AreCarried}
use Rattle.cert_verify.specs.Naming.{entry_of}
use Rattle.cert_verify.specs.Reasons.{is_unpriced}
use Rattle.cert_verify.proofs.unpriced.first_unpriced.Given as goal

abbrev pub invariant-loop-row : goal.invariant-loop-row
invariant-loop-row g l =
    (x : Dispatch) (ds : List (Dual g.row.N.Denot)) → AreCarried l.market x (map g.N.Exact.value l.carried) → l.duals.entries ≡ map entry_of ds
    → find (is_unpriced l.market x (map (dual_at g.N.Exact.value) ds)) l.yielded ≡ None
