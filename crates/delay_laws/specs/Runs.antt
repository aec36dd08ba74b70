-- What two units may be told, one after the other, where each message of delay measurement that is received was sent by the other unit.
use Rattle.std.specs.Prelude.{◌≡◌, ◌==◌, ℕ, ℤ, pos, ◌≤ℤ◌, Bool, false, List, [], ◌∷◌, Contains, ⊤}
use Rattle.std.specs.List.{list_any}
use Rattle.air_source.specs.declared.events.Side.{Side}
use Rattle.delay_measure.specs.After.{Told, begins, comes, forgets}
use Rattle.delay_measure.specs.declared.edge.Compensation.{Compensation}
use Rattle.delay_laws.specs.Nodes.{Heard, measured, node_of, time_of, timed}
use Rattle.air_source.specs.Units.{other}

-- a measurement of the id is begun
abbrev pub is_begin : ℕ → Told → Bool
is_begin id (begins t i kind) = i == id
is_begin id (comes t m) = false
is_begin id (forgets i) = false

abbrev pub has_begun : ℕ → List Heard → Bool
has_begun id heard = list_any (λ one. is_begin id one.told) heard

-- after what both were told: no id is begun twice by both together, and a message is received that the other unit sent, not before it
-- was sent
abbrev pub Comes : (Side → Compensation) → List Heard → Side → Told → Type 0
Comes comps earlier side (begins t id kind) = has_begun id earlier ≡ false
Comes comps earlier side (comes t m) = (at : ℤ) × Contains (node_of (other side) (measured comps m.id earlier)).sent (timed at m) × (at ≤ℤ t)
Comes comps earlier side (forgets id) = ⊥

-- one more, at a millisecond or later: no time less a compensation is below 0
pub record IsNext (comps : Side → Compensation) (earlier : List Heard) (one : Heard) : Type 0 where
  pub late : pos 1536000000 ≤ℤ time_of one.told
  pub comes : Comes comps earlier one.side one.told

-- the newest first
abbrev pub IsRun : (Side → Compensation) → List Heard → Type 0
IsRun comps [] = ⊤
IsRun comps (one ∷ earlier) = IsNext comps earlier one × IsRun comps earlier
