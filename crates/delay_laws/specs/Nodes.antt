-- Both ends of one-way delay measurement (eCPRI 2.0, section 3.2.4.6): what each of the two units did about one measurement id.
use Rattle.std.specs.Prelude.{ℕ, ℤ, pos, ◌==◌, ◌||◌, Bool, if◌then◌else◌, List, [], ◌∷◌, ◌++◌, map, Option, Some, None}
use Rattle.std.specs.List.{filter}
use Rattle.air_source.specs.declared.events.Side.{Side}
use Rattle.air_source.specs.declared.events.Side.TheVariants.{Ru, Du}
use Rattle.delay_measure.specs.declared.edge.Compensation.{Compensation}
use Rattle.delay_measure.specs.declared.message.DelayMessage.{DelayMessage}
use Rattle.delay_measure.specs.declared.states.Exchange.{Exchange}
use Rattle.delay_measure.specs.declared.steps.MeterStep.{MeterStep}
use Rattle.delay_measure.specs.declared.steps.MeterStep.TheVariants.{Send, SendTwo, SendResult, Result as ResultAlone, Again, Noted, Repeat, Unknown}
use Rattle.delay_measure.specs.Stamps.{sending_stamp, receiving_stamp}
use Rattle.delay_measure.specs.Table.{unused, after_begin, after_message, sent_at_begin, sent_at_step}
use Rattle.delay_measure.specs.After.{Told, begins, comes, forgets, id_of, exchange_next}
use Rattle.air_source.specs.Units.{same_side}

-- a message, and when it was sent or received, in ticks
pub record Timed : Type 0 where
  pub at : ℤ
  pub message : DelayMessage

abbrev pub timed : ℤ → DelayMessage → Timed
timed t m = record { at = t; message = m }

-- a unit's part in a measurement id: the states of its exchange, the messages that it sent and those that it received, in order
pub record Node : Type 0 where
  pub exchange : Exchange
  pub sent : List Timed
  pub came : List Timed

-- nothing was done
abbrev pub fresh : Node
fresh = record { exchange = unused; sent = []; came = [] }

-- the time of a begin or of a message that is received
abbrev pub time_of : Told → ℤ
time_of (begins t id kind) = t
time_of (comes t m) = t
time_of (forgets id) = pos 0

-- the messages that are sent when a unit is told something in these states
abbrev pub sent_then : Compensation → Exchange → Told → List DelayMessage
sent_then c e (begins t id kind) = sent_at_begin (after_begin e kind id (sending_stamp t c.sending)).1
sent_then c e (comes t m) = sent_at_step (after_message e m (sending_stamp t c.sending) (receiving_stamp t c.receiving)).1
sent_then c e (forgets id) = []

-- the delay that a step makes known, in units of 2^-16 ns
abbrev pub delay_of : MeterStep → Option ℤ
delay_of (Send m) = None
delay_of (SendTwo m n) = None
delay_of (SendResult m delay) = Some delay
delay_of (ResultAlone delay) = Some delay
delay_of (Again m) = None
delay_of Noted = None
delay_of Repeat = None
delay_of Unknown = None

-- the delay that is known when a unit is told something in these states
abbrev pub delay_then : Compensation → Exchange → Told → Option ℤ
delay_then c e (begins t id kind) = None
delay_then c e (comes t m) = delay_of (after_message e m (sending_stamp t c.sending) (receiving_stamp t c.receiving)).1
delay_then c e (forgets id) = None

abbrev pub came_with : Told → List Timed
came_with (begins t id kind) = []
came_with (comes t m) = timed t m ∷ []
came_with (forgets id) = []

-- a unit that is told something about the id
abbrev pub told_node : Compensation → Node → Told → Node
told_node c node one = record {
  exchange = exchange_next c.sending c.receiving one node.exchange;
  sent = node.sent ++ map (timed (time_of one)) (sent_then c node.exchange one);
  came = node.came ++ came_with one;
}

-- both units
pub record Measurement : Type 0 where
  pub ru : Node
  pub du : Node

abbrev pub node_of : Side → Measurement → Node
node_of Ru m = m.ru
node_of Du m = m.du

abbrev pub with_node : Side → Node → Measurement → Measurement
with_node Ru node m = record { ru = node; du = m.du }
with_node Du node m = record { ru = m.ru; du = node }

-- which unit was told what
pub record Heard : Type 0 where
  pub side : Side
  pub told : Told

-- what both did about an id after all that they were told, the newest first
abbrev pub measured : (Side → Compensation) → ℕ → List Heard → Measurement
measured comps id [] = record { ru = fresh; du = fresh }
measured comps id (one ∷ earlier) =
    if id_of one.told == id
    then with_node one.side (told_node (comps one.side) (node_of one.side (measured comps id earlier)) one.told) (measured comps id earlier)
    else measured comps id earlier

abbrev pub told_to : Side → List Heard → List Told
told_to side [] = []
told_to side (one ∷ earlier) = if same_side side one.side then one.told ∷ told_to side earlier else told_to side earlier

-- Request, and Request with Follow_Up
abbrev pub is_request : Timed → Bool
is_request x = (x.message.action == 0) || (x.message.action == 1)

-- the requests among these messages
abbrev pub requests : List Timed → List Timed
requests xs = filter is_request xs
