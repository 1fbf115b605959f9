use Rattle.std.proofs.Common.{◌≡◌, ◌∙◌, [], false, ap, sym, subst}
use Rattle.market_model.specs.declared.participants.Reserve.{Reserve}
use Rattle.market_dict.specs.Holding.{HoldsMarket}
use Rattle.market_dict.proofs.HoldingLaws.{holds_start}
use Rattle.market_dict.proofs.rows.start.Goals as goal
use Rattle.market_dict.proofs.rows.start.Goals.{then-reserve+in_ok-put_need, else-reserve}

pub returns-clause-holds : goal.returns-clause-holds
returns-clause-holds g c =
    let m = c.args.market.now in
    elim c.if-reserve.branch [
      | then-reserve+in_ok-put_need w ↦ subst (HoldsMarket m []) (sym w.dict-is) w.in_ok-put_need.ensures.holds
      | else-reserve w ↦
          let unlisted : m.reserve.listed ≡ false = sym (ap (λ (r : Reserve). r.listed) c.reserve.ensures.reserve) ∙ w.if-reserve.false in
          subst (HoldsMarket m []) (sym w.dict-is) (holds_start m c.in_ok-dict.dict c.reserve.ensures.market unlisted c.in_ok-dict.ensures)
    ]
