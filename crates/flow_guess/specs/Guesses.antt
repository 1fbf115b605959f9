-- Flows at guessed angles, in whole numbers of parts, and how far off the buses are.
use Rattle.std.specs.Prelude.{◌≡◌, ℕ, ◌==◌, ℤ, pos, ◌-ℤ◌, ◌<ℤ◌, neg_ℤ, length, get_or, int_div, int_rem, if◌then◌else◌}
use Rattle.std.specs.Int.{int_div_euclid}
use Rattle.fraction_theory.specs.Fraction.{Fraction, whole, ◌+ℚ◌, ◌-ℚ◌, ◌*ℚ◌}
use Rattle.fraction_theory.specs.Signs.{abs_ℚ}
use Rattle.network_theory.specs.Networks.{Branch, Network, net_outflow}
use Rattle.network_theory.specs.Carrying.{put_through}
use Rattle.flow_guess.specs.declared.links.Link.{Link}
use Rattle.flow_guess.specs.declared.bounds.Guess.{Guess}
use Rattle.flow_guess.specs.declared.bounds.Range.{Range}
use Rattle.flow_guess.specs.declared.bounds.Transfer.{Transfer}
use Rattle.flow_guess.specs.Links.{IsLink}

-- The angles are those of the link's network, and the scale is above 0 and divides its reactance.
pub record IsGuessOf (guess : Guess) (link : Link) : Type 0 where
  pub link_is : IsLink (length guess.angles.items) link
  pub above : pos 0 <ℤ guess.scale
  pub divides : int_rem link.reactance guess.scale ≡ pos 0

-- the angle at a place
abbrev pub angle_of : Guess → ℕ → ℤ
angle_of guess place = get_or guess.angles.items place (pos 0)

-- the reactance of a branch by the scale
abbrev pub reach : Guess → Branch → ℤ
reach guess b = int_div (pos b.susceptance.den) guess.scale

-- the greatest whole number of parts that is not above the flow
unfoldable pub least_flow : Guess → Branch → ℤ
least_flow guess b = int_div_euclid (angle_of guess b.from -ℤ angle_of guess b.to) (reach guess b)

-- the least one that is not below it
unfoldable pub most_flow : Guess → Branch → ℤ
most_flow guess b = neg_ℤ (int_div_euclid (angle_of guess b.to -ℤ angle_of guess b.from) (reach guess b))

-- the two of them
pub record IsFlow (guess : Guess) (b : Branch) (range : Range) : Type 0 where
  pub least_is : range.least ≡ least_flow guess b
  pub most_is : range.most ≡ most_flow guess b

abbrev pub low_flow : Guess → Branch → Fraction
low_flow guess b = whole (least_flow guess b)

abbrev pub high_flow : Guess → Branch → Fraction
high_flow guess b = whole (most_flow guess b)

-- what leaves a bus over one branch, by one number of it where it begins there and by another where it ends there
abbrev pub link_out : ℕ → (Branch → Fraction) → (Branch → Fraction) → Branch → Fraction
link_out bus leaves enters b = (if b.from == bus then leaves b else whole (pos 0)) -ℚ (if b.to == bus then enters b else whole (pos 0))

-- the parts that are to be put in at a bus
abbrev pub wanted_at : Transfer → ℕ → Fraction
wanted_at transfer bus = whole transfer.parts *ℚ put_through transfer.source transfer.sink bus

-- how far what leaves a bus can be from what is wanted of it, below and above
abbrev pub error_at : Network → Guess → Transfer → ℕ → Fraction
error_at n guess transfer bus =
    abs_ℚ (wanted_at transfer bus -ℚ net_outflow n (low_flow guess) (high_flow guess) bus)
    +ℚ abs_ℚ (net_outflow n (high_flow guess) (low_flow guess) bus -ℚ wanted_at transfer bus)
