-- The frames that leave for a unit, and how long the copies of each are on their way (this project's profile).
use Rattle.std.specs.Prelude.{ℕ, ℤ, ◌+◌, List, [], ◌∷◌}
use Rattle.air_source.specs.declared.events.Side.{Side}
use Rattle.fh_document.specs.declared.delivered.TrafficClass.{TrafficClass}
use Rattle.fh_document.specs.declared.delivered.TrafficClass.TheVariants.{C, U, M}
use Rattle.fh_document.specs.declared.document.Document.{Document}
use Rattle.frame_ways.specs.Copies.{copies_of}

-- a frame as it leaves a unit: when, of which class, and its bytes
pub record Leaving : Type 0 where
  pub at : ℤ
  pub class : TrafficClass
  pub frame : List ℕ

-- ---- the number of a frame among those of its class and way, from 1: commands of both directions count together

pub record SentCounts : Type 0 where
  pub c_plane : ℕ
  pub u_plane : ℕ
  pub measurement : ℕ

abbrev pub none_sent : SentCounts
none_sent = record { c_plane = 0; u_plane = 0; measurement = 0 }

-- the counts with one frame of the class more
abbrev pub counted : TrafficClass → SentCounts → SentCounts
counted C n = record { c_plane = n.c_plane + 1; u_plane = n.u_plane; measurement = n.measurement }
counted U n = record { c_plane = n.c_plane; u_plane = n.u_plane + 1; measurement = n.measurement }
counted M n = record { c_plane = n.c_plane; u_plane = n.u_plane; measurement = n.measurement + 1 }

abbrev pub count_of : TrafficClass → SentCounts → ℕ
count_of C n = n.c_plane
count_of U n = n.u_plane
count_of M n = n.measurement

-- the counts with these frames more
abbrev pub counted_all : SentCounts → List Leaving → SentCounts
counted_all n [] = n
counted_all n (f ∷ fs) = counted_all (counted f.class n) fs

-- ---- copies of the frames that are sent to a unit

-- a frame and how many nanoseconds each of its copies is on its way; it is lost where there is none
pub record Delayed : Type 0 where
  pub frame : Leaving
  pub delays : List ℤ

-- a frame, where so many of each class were sent with it or before it
abbrev pub delayed : Document → Side → SentCounts → Leaving → Delayed
delayed d side n f = record { frame = f; delays = copies_of d side f.class (count_of f.class n) }

-- these frames, where so many were sent before them
unfoldable pub delayed_behind : Document → Side → SentCounts → List Leaving → List Delayed
delayed_behind d side n [] = []
delayed_behind d side n (f ∷ fs) = delayed d side (counted f.class n) f ∷ delayed_behind d side (counted f.class n) fs
