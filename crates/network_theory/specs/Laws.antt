-- The laws of networks by the DC model.
-- Sources: the maximum principle and reciprocity of electric networks (Doyle and Snell, Random Walks and Electric Networks); the DC
-- power flow and the line outage distribution factors (Wood and Wollenberg).
use Rattle.std.specs.Prelude.{◌≡◌, ℕ, ◌<◌, pos}
use Rattle.std.specs.List.{Contains}
use Rattle.fraction_theory.specs.Fraction.{Fraction, whole, ◌+ℚ◌, ◌-ℚ◌, ◌*ℚ◌}
use Rattle.fraction_theory.specs.Order.{◌≤ℚ◌, ◌<ℚ◌}
use Rattle.fraction_theory.specs.Signs.{abs_ℚ}
use Rattle.fraction_theory.specs.Sums.{sum_by}
use Rattle.network_theory.specs.Networks.{Branch, Network, places, others, IsTheoryNetwork, flow, injection, net_outflow, AreLinked, IsConnected, IsSolution, IsTransfer, StandsAt, without, moved, outage_factor}

-- where no bus but the reference has an injection below 0, no angle is below that of the reference
abbrev pub LawOfTheLeastAngle : Type 0
LawOfTheLeastAngle = (n : Network) (reference : ℕ) (angle : ℕ → Fraction) → IsTheoryNetwork n → IsConnected n reference
    → ((i : ℕ) → i < n.buses → ¬ (i ≡ reference) → whole (pos 0) ≤ℚ injection n angle i)
    → (i : ℕ) → i < n.buses → angle reference ≤ℚ angle i

-- where none but the reference has one above 0, no angle is above it
abbrev pub LawOfTheGreatestAngle : Type 0
LawOfTheGreatestAngle = (n : Network) (reference : ℕ) (angle : ℕ → Fraction) → IsTheoryNetwork n → IsConnected n reference
    → ((i : ℕ) → i < n.buses → ¬ (i ≡ reference) → injection n angle i ≤ℚ whole (pos 0))
    → (i : ℕ) → i < n.buses → angle i ≤ℚ angle reference

-- angles that agree at the reference, with injections that agree at all other buses, agree at all buses
abbrev pub LawOfOneSolution : Type 0
LawOfOneSolution = (n : Network) (reference : ℕ) (angle other : ℕ → Fraction) → IsTheoryNetwork n → IsConnected n reference
    → angle reference ≡ other reference
    → ((i : ℕ) → i < n.buses → ¬ (i ≡ reference) → injection n angle i ≡ injection n other i)
    → (i : ℕ) → i < n.buses → angle i ≡ other i

-- in a connected network there is a solution, whatever injections are wanted of the buses other than the reference
abbrev pub LawOfSolutions : Type 0
LawOfSolutions = (n : Network) (reference : ℕ) (wanted : ℕ → Fraction) → IsTheoryNetwork n → IsConnected n reference
    → (angle : ℕ → Fraction) × IsSolution n reference wanted angle

-- and there is a transfer between any two buses
abbrev pub LawOfTransfers : Type 0
LawOfTransfers = (n : Network) (reference source sink : ℕ) → IsTheoryNetwork n → IsConnected n reference
    → source < n.buses → sink < n.buses → ¬ (source ≡ sink)
    → (angle : ℕ → Fraction) × IsTransfer n angle source sink

-- where no bus but the reference has an injection, all angles are that of the reference
abbrev pub LawOfRest : Type 0
LawOfRest = (n : Network) (reference : ℕ) (angle : ℕ → Fraction) → IsTheoryNetwork n → IsConnected n reference
    → ((i : ℕ) → i < n.buses → ¬ (i ≡ reference) → injection n angle i ≡ whole (pos 0))
    → (i : ℕ) → i < n.buses → angle i ≡ angle reference

-- in a transfer the angle is greatest at the source and least at the sink, whichever bus is the reference
abbrev pub LawOfTheTransfer : Type 0
LawOfTheTransfer = (n : Network) (reference : ℕ) (angle : ℕ → Fraction) (source sink : ℕ) → IsTheoryNetwork n → IsConnected n reference
    → IsTransfer n angle source sink
    → (i : ℕ) → i < n.buses → (angle sink ≤ℚ angle i) × (angle i ≤ℚ angle source)

-- in a transfer no branch carries more than 1, either way
abbrev pub LawOfTheFactors : Type 0
LawOfTheFactors = (n : Network) (angle : ℕ → Fraction) (source sink : ℕ) → IsTheoryNetwork n → IsTransfer n angle source sink
    → (b : Branch) → Contains n.branches b → abs_ℚ (flow angle b) ≤ℚ whole (pos 1)

-- However wrong guessed angles are, the flows at them are off by no more than their injections are in all, those of the reference left out.
-- Source: the shift factors of Wood and Wollenberg. What an injection is off by moves no flow by more, as no factor is above 1.
abbrev pub LawOfTheGuess : Type 0
LawOfTheGuess = (n : Network) (reference : ℕ) (angle guess : ℕ → Fraction) → IsTheoryNetwork n
    → (b : Branch) → Contains n.branches b
    → abs_ℚ (flow guess b -ℚ flow angle b) ≤ℚ sum_by (λ i. abs_ℚ (injection n guess i -ℚ injection n angle i)) (others n reference)

-- Where no more than bounds on the flows at a guess are known, and an error of each bus but the reference: if the injections that the bounds
-- leave possible are all within the error of the bus, each flow is within the bounds widened by the sum of the errors.
abbrev pub LawOfGuessedBounds : Type 0
LawOfGuessedBounds = (n : Network) (reference : ℕ) (angle guess : ℕ → Fraction) (low high : Branch → Fraction) (error : ℕ → Fraction) → IsTheoryNetwork n
    → ((b : Branch) → Contains n.branches b → (low b ≤ℚ flow guess b) × (flow guess b ≤ℚ high b))
    → ((i : ℕ) → i < n.buses → ¬ (i ≡ reference)
    → ((injection n angle i -ℚ error i) ≤ℚ net_outflow n low high i) × (net_outflow n high low i ≤ℚ (injection n angle i +ℚ error i)))
    → (b : Branch) → Contains n.branches b
    → ((low b -ℚ sum_by error (others n reference)) ≤ℚ flow angle b) × (flow angle b ≤ℚ (high b +ℚ sum_by error (others n reference)))

-- all injections sum to 0
abbrev pub LawOfBalance : Type 0
LawOfBalance = (n : Network) (angle : ℕ → Fraction) → IsTheoryNetwork n → sum_by (injection n angle) (places n) ≡ whole (pos 0)

-- the injections of one solution at the angles of another sum to what those of the other do at the angles of the one
abbrev pub LawOfReciprocity : Type 0
LawOfReciprocity = (n : Network) (angle other : ℕ → Fraction) → IsTheoryNetwork n
    → sum_by (λ i. angle i *ℚ injection n other i) (places n) ≡ sum_by (λ i. other i *ℚ injection n angle i) (places n)

-- Take a number that, times what the transfer between the ends of the lost branch leaves to the other branches, is the flow that is lost.
-- At the angles plus so many times those of that transfer the network without the branch has the injections that the whole one had, and
-- each branch carries besides so many times its factor.
abbrev pub LawOfTheOutage : Type 0
LawOfTheOutage = (n : Network) (place : ℕ) (lost : Branch) (angle transfer : ℕ → Fraction) (times : Fraction) → StandsAt n place lost
    → IsTransfer n transfer lost.from lost.to
    → times *ℚ (whole (pos 1) -ℚ flow transfer lost) ≡ flow angle lost
    → ((i : ℕ) → i < n.buses → injection (without n place) (moved angle times transfer) i ≡ injection n angle i)
    × ((b : Branch) → flow (moved angle times transfer) b ≡ flow angle b +ℚ times *ℚ flow transfer b)

-- where the ends of a branch stay joined without it, it carries less than 1 of the transfer between them
abbrev pub LawOfTheDetour : Type 0
LawOfTheDetour = (n : Network) (place : ℕ) (lost : Branch) (transfer : ℕ → Fraction) → IsTheoryNetwork n → StandsAt n place lost
    → IsTransfer n transfer lost.from lost.to
    → AreLinked (without n place) lost.from lost.to → flow transfer lost <ℚ whole (pos 1)

-- and where it carries less than 1, they stay joined: a bridge, whose ends do not, carries all of it
abbrev pub LawOfTheBridge : Type 0
LawOfTheBridge = (n : Network) (place : ℕ) (lost : Branch) (transfer : ℕ → Fraction) → IsTheoryNetwork n → StandsAt n place lost
    → IsTransfer n transfer lost.from lost.to
    → (flow transfer lost <ℚ whole (pos 1) → AreLinked (without n place) lost.from lost.to)
    × (¬ (AreLinked (without n place) lost.from lost.to) → flow transfer lost ≡ whole (pos 1))

-- where the network stays connected without the branch and no bus but the reference has another injection, each other branch carries besides
-- its outage factor times what the lost one carried
abbrev pub LawOfTheOutageFactors : Type 0
LawOfTheOutageFactors = (n : Network) (place : ℕ) (lost : Branch) (reference : ℕ) (angle after transfer : ℕ → Fraction) → IsTheoryNetwork n
    → StandsAt n place lost → IsTransfer n transfer lost.from lost.to → IsConnected (without n place) reference
    → ((i : ℕ) → i < n.buses → ¬ (i ≡ reference) → injection (without n place) after i ≡ injection n angle i)
    → (b : Branch) → Contains (without n place).branches b → flow after b ≡ flow angle b +ℚ outage_factor transfer lost b *ℚ flow angle lost
