-- Frames that were handed over and not taken on yet (this project's profile).
use Rattle.std.specs.Prelude.{List}
use Rattle.air_source.specs.declared.links.LinkFrame.{LinkFrame}
use Rattle.frame_ways.specs.Pool.{Pool}

-- the frames, in order, and the pool from which the next ones take their memory
pub record Handed : Type 0 where
  pub frames : List LinkFrame
  pub pool : Pool
