-- Arrivals in time.
use Rattle.std.proofs.Common.{[], ℤ, ◌≤ℤ◌, List, ◌∷◌}
use Rattle.unit_model.specs.Meetings.{Arrival}
use Rattle.unit_model.specs.Standing.{AreInTime}
use Rattle.fh_base.proofs.Orders.{at_most}

pub in_time_later : (clock later : ℤ) (arrivals : List Arrival) → clock ≤ℤ later → AreInTime clock arrivals → AreInTime later arrivals
in_time_later clock later [] order came = tt
in_time_later clock later (a ∷ earlier) order came = (at_most a.at clock later came.0 order, came.1)
