use Rattle.market_dict.proofs.reading.duals_by.Goals as goal

pub returns : goal.returns
returns g c = λ ts cost holds same.
    let energy = c.in_ok-energy.ensures.energy ts cost holds same in
    let limits = c.in_ok-energy.ensures.limits ts cost holds same in
    let reserve = c.reserve_price-reserve.ensures ts cost holds same in
    let rooms = c.in_ok-rooms.ensures ts cost holds same in
    λ i. record { energy = energy i; limits = limits i; reserve = reserve i; rooms = rooms i }
