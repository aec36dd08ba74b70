-- The frames that the laws of a replay speak of are those that land, each as often as it is listed (this project's profile).
use Rattle.std.specs.Prelude.{◌≡◌, Bool, List, count_by}
use Rattle.unit_model.specs.Meetings.{Arrival}
use Rattle.replay_laws.specs.Moments.{all_arrivals}
use Rattle.replay_laws.specs.Passing.{AreLandings}

-- whatever one asks of a frame and its time, as many of those that arrive as of those that land have it
abbrev pub AllLand : List Arrival → Type 0
AllLand landings = (test : Arrival → Bool) → count_by test (all_arrivals landings) ≡ count_by test landings

abbrev pub EachArrives : Type 0
EachArrives = (landings : List Arrival) → AreLandings landings → AllLand landings
