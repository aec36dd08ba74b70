-- The data of the two directions, and how near two of its messages of one sequence id are too near.
use Rattle.std.specs.Prelude.{ℤ, Bool, true, false}
use Rattle.window_config.specs.declared.delays.Delays.{Delays}
use Rattle.plan_model.specs.Dense.{down_distance, up_distance}
use Rattle.plan_model.specs.declared.streams.Stream.{Stream}
use Rattle.plan_model.specs.declared.streams.Stream.TheVariants.{DownData, UpData}

abbrev pub stream_of : Bool → Stream
stream_of true = UpData
stream_of false = DownData

abbrev pub distance_of : Delays → Bool → ℤ
distance_of d true = up_distance d
distance_of d false = down_distance d
