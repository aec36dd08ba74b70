-- What a pool keeps true of the memory that it holds: this project's profile.
use Rattle.std.specs.Prelude.{◌≡◌, ◌≤◌, ◌⊎◌, length, vec_capacity}
use Rattle.frame_ways.specs.Pool.{Pool}
use Rattle.frame_ways.specs.declared.pool.FramePool.TheInside.{Inside}

abbrev pub pool_of : Inside → Pool
pool_of p = record { room = p.room; spare = p.spare.items }

-- room for none or for 32, which the list has
pub record KeepsRoom (p : Inside) : Type 0 where
  pub room : (p.room ≡ 0) ⊎ (p.room ≡ 32)
  pub fits : length p.spare.items ≤ p.room
  pub held : p.room ≤ vec_capacity p.spare
