-- What becomes of frames: which lines speak of the same frame.
use Rattle.std.specs.Prelude.{ℕ, ◌+◌, ◌*◌, List, Bool, ◌==◌, ◌&&◌}
use Rattle.std.specs.List.{list_any}
use Rattle.air_source.specs.declared.events.Side.{Side}
use Rattle.air_source.specs.declared.events.Side.TheVariants.{Ru, Du}
use Rattle.fh_document.specs.declared.delivered.TrafficClass.{TrafficClass}
use Rattle.fh_document.specs.declared.delivered.TrafficClass.TheVariants.{C, U, M}
use Rattle.fh_document.specs.declared.delivered.Delivery.{Delivery}

-- a number for each way
abbrev pub way_number : Side → ℕ
way_number Ru = 0
way_number Du = 1

-- a number for each class
abbrev pub class_number : TrafficClass → ℕ
class_number C = 0
class_number U = 1
class_number M = 2

-- both are of the same frame: the same one of its class on its way
abbrev pub is_like : Delivery → Delivery → Bool
is_like a b = (way_number a.side == way_number b.side) && ((class_number a.class == class_number b.class) && (a.k == b.k))

-- one of them is of the frame of d
abbrev pub has_like : Delivery → List Delivery → Bool
has_like d = list_any (is_like d)

-- a number of its own for the k-th frame of a class on a way
abbrev pub number_of : Side → TrafficClass → ℕ → ℕ
number_of side class k = 6 * k + (3 * way_number side + class_number class)

-- the number of the frame that it speaks of
abbrev pub frame_number : Delivery → ℕ
frame_number d = number_of d.side d.class d.k
