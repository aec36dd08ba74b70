-- Delay measurement tick by tick, each tick on the ticks before it: what each unit is told, what it sends then, and how that lands. The
-- frames of delay measurement are class m of this project's profile: each carries one message, and they are counted by the unit that
-- they are sent to, in the order in which they are made.
use Rattle.std.specs.Prelude.{◌≡◌, ℕ, zero, suc, ℤ, pos, ◌+◌, ◌+ℤ◌, ◌≤ℤ◌, if◌then◌else◌, List, [], ◌∷◌, ◌++◌, length, map, All}
use Rattle.std.specs.List.{filter}
use Rattle.std.specs.Ordering.{int_eq}
use Rattle.eaxc_map.specs.Endpoints.{AppearOnce}
use Rattle.air_source.specs.declared.events.Side.{Side}
use Rattle.air_source.specs.declared.events.Side.TheVariants.{Ru, Du}
use Rattle.delay_measure.specs.declared.message.DelayMessage.{DelayMessage}
use Rattle.delay_measure.specs.declared.states.Exchange.{Exchange}
use Rattle.delay_measure.specs.declared.steps.Kind.{Kind}
use Rattle.delay_measure.specs.After.{begins, comes, exchange_after, id_of}
use Rattle.delay_measure.specs.declared.edge.Compensation.{Compensation}
use Rattle.delay_laws.specs.Nodes.{Heard, sent_then, told_to}
use Rattle.air_source.specs.Units.{other, same_side}

-- a measurement that a unit begins, and when, in ticks
pub record Begin : Type 0 where
  pub side : Side
  pub id : ℕ
  pub kind : Kind
  pub at : ℤ

-- a frame that was sent: when, its message, and how many ticks each of its copies takes
pub record Flight : Type 0 where
  pub at : ℤ
  pub message : DelayMessage
  pub delays : List ℤ

-- what is known before: the compensations, the measurements that are begun, in order, how long the copies of the k-th frame that is
-- sent to a unit take, k from 1, and the messages of type 5 in all other frames that are received by a unit at a tick, in order
pub record Setting : Type 0 where
  pub comps : Side → Compensation
  pub begins : List Begin
  pub delays : Side → ℕ → List ℤ
  pub others : Side → ℤ → List DelayMessage

-- ---- on the way

-- the copies of a message, sent at a time with these delays, that land at a tick
abbrev pub copies_at : List ℤ → ℤ → DelayMessage → ℤ → List DelayMessage
copies_at [] at m t = []
copies_at (d ∷ ds) at m t = if int_eq (at +ℤ d) t then m ∷ copies_at ds at m t else copies_at ds at m t

-- those of all frames, in the order in which they were sent, and then by copy
abbrev pub landing : List Flight → ℤ → List DelayMessage
landing [] t = []
landing (f ∷ fs) t = copies_at f.delays f.at f.message t ++ landing fs t

-- a frame after so many that were sent to the unit
abbrev pub flight : (ℕ → List ℤ) → ℤ → ℕ → DelayMessage → Flight
flight delays t n m = record { at = t; message = m; delays = delays (n + 1) }

-- these are sent too, one after the other
abbrev pub launched : (ℕ → List ℤ) → ℤ → List Flight → List DelayMessage → List Flight
launched delays t sent [] = sent
launched delays t sent (m ∷ ms) = launched delays t (sent ++ flight delays t (length sent) m ∷ []) ms

-- ---- what the units make of it

-- the states of an id at a unit that was told all this
abbrev pub exchange_of : Setting → List Heard → Side → ℕ → Exchange
exchange_of w heard side id = exchange_after (w.comps side).sending (w.comps side).receiving (told_to side heard) id

-- what a unit sends when it is told one thing more
abbrev pub answers : Setting → List Heard → Heard → List DelayMessage
answers w heard one = sent_then (w.comps one.side) (exchange_of w heard one.side (id_of one.told)) one.told

-- all that both units were told, the newest first, and what each sent at this tick
pub record Hearing : Type 0 where
  pub heard : List Heard
  pub made : Side → List DelayMessage

abbrev pub told_one : Setting → Hearing → Heard → Hearing
told_one w h one = record { heard = one ∷ h.heard; made = λ side. h.made side ++ (if same_side side one.side then answers w h.heard one else []) }

abbrev pub told_all : Setting → Hearing → List Heard → Hearing
told_all w h [] = h
told_all w h (one ∷ more) = told_all w (told_one w h one) more

-- ---- a tick

-- what was told by its start, and what was sent to each unit
pub record State : Type 0 where
  pub heard : List Heard
  pub sent : Side → List Flight

-- the measurements that begin at a tick
abbrev pub due : ℤ → List Begin → List Begin
due t bs = filter (λ b. int_eq b.at t) bs

abbrev pub begin_heard : Begin → Heard
begin_heard b = record { side = b.side; told = begins b.at b.id b.kind }

abbrev pub came_heard : Side → ℤ → DelayMessage → Heard
came_heard side t m = record { side = side; told = comes t m }

-- what is received by a unit at a tick: what was sent to it before, then the rest
abbrev pub arriving : Setting → State → Side → ℤ → List Heard
arriving w s side t = map (came_heard side t) (landing (s.sent side) t ++ w.others side t)

-- measurements begin; then the radio unit is told what it receives, and then the distributed unit
unfoldable pub hearing : Setting → ℤ → State → Hearing
hearing w t s = told_all w (told_all w (told_all w (record { heard = s.heard; made = λ side. [] }) (map begin_heard (due t w.begins))) (arriving w s Ru t)) (arriving w s Du t)

-- what a unit made is sent to the other at this tick
unfoldable pub after_tick : Setting → ℤ → State → State
after_tick w t s = record { heard = (hearing w t s).heard; sent = λ side. launched (w.delays side) t (s.sent side) ((hearing w t s).made (other side)) }

-- after so many ticks from a first one on
unfoldable pub state : Setting → ℤ → ℕ → State
state w first zero = record { heard = []; sent = λ side. [] }
state w first (suc n) = after_tick w (first +ℤ pos n) (state w first n)

-- no id is begun twice, none before a millisecond, and no message of type 5 is received in any other frame
pub record IsPure (w : Setting) : Type 0 where
  pub once : AppearOnce (map (λ b. b.id) w.begins)
  pub late : All (λ b. pos 1536000000 ≤ℤ b.at) w.begins
  pub alone : (side : Side) (t : ℤ) → w.others side t ≡ []

-- nothing begins at a tick, and nothing is received
pub record IsQuiet (w : Setting) (s : State) (t : ℤ) : Type 0 where
  pub begins : due t w.begins ≡ []
  pub landing : (side : Side) → landing (s.sent side) t ≡ []
  pub others : (side : Side) → w.others side t ≡ []
