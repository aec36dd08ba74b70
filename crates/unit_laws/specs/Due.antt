-- What is due falls apart at each time: no cell is told twice, and what is told is due no more.
use Rattle.std.specs.Prelude.{◌≡◌, ℤ, List, [], ◌++◌}
use Rattle.unit_model.specs.Terms.{AirCell, Side}
use Rattle.eaxc_map.specs.Endpoints.{AppearOnce}
use Rattle.window_config.specs.Endpoints.{ids_of}
use Rattle.window_config.specs.declared.delays.Delays.{Delays}
use Rattle.window_config.specs.declared.endpoints.EndpointConfig.{EndpointConfig}
use Rattle.unit_model.specs.Radiated.{Known, reported}
use Rattle.unit_model.specs.Standing.{due}
pub use Rattle.unit_model.specs.Standing.{AreDifferent}

-- there is at most one report for a cell, among all that is reported up to a time, and among what is due
abbrev pub ReportedAreDifferent : Type 0
ReportedAreDifferent =
    (side : Side) (d : Delays) (es : List EndpointConfig) (k : Known) (to : ℤ) → AppearOnce (ids_of es) → AreDifferent (reported side d es k to)

abbrev pub DueAreDifferent : Type 0
DueAreDifferent =
    (side : Side) (d : Delays) (es : List EndpointConfig) (k : Known) (heard : List AirCell) (to : ℤ) → AppearOnce (ids_of es)
    → AreDifferent (due side d es k heard to)

-- where nothing was heard, all is due
abbrev pub AllIsDue : Type 0
AllIsDue = (side : Side) (d : Delays) (es : List EndpointConfig) (k : Known) (to : ℤ) → due side d es k [] to ≡ reported side d es k to

-- once the first of what is due is heard, the rest is due
abbrev pub DueInPieces : Type 0
DueInPieces =
    (side : Side) (d : Delays) (es : List EndpointConfig) (k : Known) (heard told rest : List AirCell) (to : ℤ) → AppearOnce (ids_of es)
    → due side d es k heard to ≡ told ++ rest → due side d es k (heard ++ told) to ≡ rest

-- and once all of it is heard, nothing is
abbrev pub DueOnce : Type 0
DueOnce =
    (side : Side) (d : Delays) (es : List EndpointConfig) (k : Known) (heard : List AirCell) (to : ℤ) → AppearOnce (ids_of es)
    → due side d es k (heard ++ due side d es k heard to) to ≡ []
