-- What an outbox lends (this project's profile).
use Rattle.std.specs.Borrow.{Fml, Lends, MutBor}
use Rattle.frame_ways.specs.Pool.{Pool}
use Rattle.frame_ways.specs.contracts.pool.FramePool.{the_row as pool_row}
use Rattle.frame_ways.specs.Outboxes.{Handed}
use Rattle.frame_ways.specs.contracts.outbox.Outbox.{the_row}

-- the outbox with another pool
abbrev pub with_pool : Handed → Pool → Handed
with_pool o pool = record { frames = o.frames; pool = pool }

-- its pool is what is left after the reference, and its frames stay
abbrev pub LendsPool : MutBor Handed → MutBor Pool → Fml
LendsPool o pool = Lends the_row pool_row o pool (with_pool o.now)
