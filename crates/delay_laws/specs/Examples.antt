-- Exchanges that were worked out by hand, as what the laws are about.
use Rattle.std.specs.Prelude.{◌≡◌, ◌==◌, ◌&&◌, ℕ, ℤ, pos, ◌+◌, ◌*◌, if◌then◌else◌, List, [], ◌∷◌, ◌++◌, map}
use Rattle.std.specs.Option.{option_to_list}
use Rattle.std.specs.Ordering.{int_eq}
use Rattle.air_source.specs.declared.events.Side.{Side}
use Rattle.air_source.specs.declared.events.Side.TheVariants.{Ru, Du}
use Rattle.delay_measure.specs.declared.message.DelayMessage.{DelayMessage}
use Rattle.delay_measure.specs.declared.steps.Kind.{Kind}
use Rattle.delay_measure.specs.declared.steps.Kind.TheVariants.{One, Two, RemoteTwo}
use Rattle.delay_measure.specs.After.{begins, comes, id_of}
use Rattle.delay_measure.specs.declared.edge.Compensation.{Compensation}
use Rattle.delay_laws.specs.Nodes.{Heard, Timed, delay_then, measured, node_of}
use Rattle.delay_laws.specs.Runs.{IsRun}
use Rattle.delay_laws.specs.Ticks.{Flight, IsPure, Setting, state}
use Rattle.air_source.specs.Units.{same_side}
use Rattle.fh_base.specs.declared.nanoseconds.TheConstants.{NANOSECOND}

-- so many nanoseconds, in ticks
abbrev pub ns : ℕ → ℤ
ns n = pos (NANOSECOND * n)

abbrev pub message : ℕ → ℕ → ℕ → DelayMessage
message action nanoseconds comp = record { id = 7; action = action; seconds = 0; nanoseconds = nanoseconds; comp = pos comp }

abbrev pub begun : Side → Kind → ℕ → Heard
begun side kind at = record { side = side; told = begins (ns at) 7 kind }

abbrev pub came : Side → ℕ → DelayMessage → Heard
came side at m = record { side = side; told = comes (ns at) m }

abbrev pub plain : Side → Compensation
plain side = record { sending = pos 0; receiving = pos 0 }

-- the delays that are known, in order
abbrev pub delays : (Side → Compensation) → List Heard → List ℤ
delays comps [] = []
delays comps (one ∷ earlier) = delays comps earlier ++ option_to_list (delay_then (comps one.side) (node_of one.side (measured comps (id_of one.told) earlier)).exchange one.told)

-- what a unit sent
abbrev pub sent_by : (Side → Compensation) → Side → List Heard → List DelayMessage
sent_by comps side heard = map (λ (x : Timed). x.message) (node_of side (measured comps 7 heard)).sent

-- a Request of the distributed unit, 50,000 ns each way
abbrev pub one_request : List Heard
one_request = came Du 1100000 (message 2 1050000 0) ∷ came Ru 1050000 (message 0 1000000 0) ∷ begun Du One 1000000 ∷ []

-- the same where it is sent 100 ns before it leaves, and received 40 ns after it enters the unit
abbrev pub edges : Side → Compensation
edges Ru = record { sending = pos 0; receiving = pos 2621440 }
edges Du = record { sending = pos 6553600; receiving = pos 0 }

abbrev pub compensated : List Heard
compensated = came Du 1200000 (message 2 1050040 2621440) ∷ came Du 1100000 (message 2 1050040 2621440) ∷ came Ru 1050000 (message 0 999900 6553600) ∷ begun Du One 1000000 ∷ []

-- half a nanosecond at each edge
abbrev pub halves : Side → Compensation
halves side = record { sending = pos 32768; receiving = pos 32768 }

abbrev pub with_halves : List Heard
with_halves = came Du 1100000 (message 2 1050000 32768) ∷ came Ru 1050000 (message 0 999999 32768) ∷ begun Du One 1000000 ∷ []

-- a Remote Request with Follow_Up takes 30,000 ns, the request 50,000, the Response 70,000: both units know the delay
abbrev pub remote_two : List Heard
remote_two =
    came Ru 1150000 (message 2 1080000 0) ∷ came Du 1080000 (message 5 1030000 0) ∷ came Du 1080000 (message 1 0 0) ∷ came Ru 1030000 (message 4 0 0) ∷ begun Du RemoteTwo 1000000 ∷ []

-- a Request is received twice: its Response is sent again, and is received twice
abbrev pub twice : List Heard
twice = came Du 1110000 (message 2 1050000 0) ∷ came Du 1100000 (message 2 1050000 0) ∷ came Ru 1060000 (message 0 1000000 0) ∷ came Ru 1050000 (message 0 1000000 0) ∷ begun Du One 1000000 ∷ []

-- a Follow_Up is received before its Request
abbrev pub overtaken : List Heard
overtaken = came Ru 1060000 (message 1 0 0) ∷ came Ru 1050000 (message 5 1000000 0) ∷ begun Du Two 1000000 ∷ []

-- both messages of a request are received twice, and the second Response is received first
abbrev pub answered_twice : List Heard
answered_twice =
    came Du 1200000 (message 2 1050000 0) ∷ came Du 1130000 (message 2 1080000 0) ∷ came Ru 1080000 (message 5 1000000 0) ∷ came Ru 1080000 (message 1 0 0)
    ∷ came Ru 1050000 (message 5 1000000 0) ∷ came Ru 1050000 (message 1 0 0) ∷ begun Du Two 1000000 ∷ []

-- tick by tick: each copy takes two ticks, but the first frame to the radio unit is received twice, the second time a tick later
abbrev pub example : Setting
example = record {
  comps = plain;
  begins = (record { side = Du; id = 7; kind = One; at = ns 1000000 }) ∷ [];
  delays = λ side k. two_ticks side k;
  others = λ side t. [];
}
  where
    two_ticks : Side → ℕ → List ℤ
    two_ticks Ru k = if k == 1 then pos 2 ∷ pos 3 ∷ [] else pos 2 ∷ []
    two_ticks Du k = pos 2 ∷ []

-- a measurement begins, and at this tick a Remote Request of its id is received in another frame
abbrev pub meeting : Setting
meeting = record {
  comps = plain;
  begins = (record { side = Du; id = 7; kind = One; at = ns 1000000 }) ∷ [];
  delays = λ side k. pos 2 ∷ [];
  others = λ side t. if same_side side Du && int_eq t (ns 1000000) then message 3 0 0 ∷ [] else [];
}

abbrev pub at_tick : Side → ℕ → DelayMessage → Heard
at_tick side n m = record { side = side; told = comes (pos (1536000000 + n)) m }

-- what they are worked out to
pub record AreWorked : Type 0 where
  pub one_delay : delays plain one_request ≡ pos 3276800000 ∷ []
  pub one_run : IsRun plain one_request
  pub edges_delay : delays edges compensated ≡ pos 3276800000 ∷ []
  pub edges_sent : sent_by edges Du compensated ≡ message 0 999900 6553600 ∷ []
  pub edges_run : IsRun edges compensated
  pub halves_delay : delays halves with_halves ≡ pos 3276800000 ∷ []
  pub halves_run : IsRun halves with_halves
  pub remote_delays : delays plain remote_two ≡ pos 3276800000 ∷ pos 3276800000 ∷ []
  pub remote_run : IsRun plain remote_two
  pub twice_delay : delays plain twice ≡ pos 3276800000 ∷ []
  pub twice_sent : sent_by plain Ru twice ≡ message 2 1050000 0 ∷ message 2 1050000 0 ∷ []
  pub twice_run : IsRun plain twice
  pub overtaken_none : delays plain overtaken ≡ []
  pub overtaken_sent : sent_by plain Ru overtaken ≡ []
  pub overtaken_run : IsRun plain overtaken
  pub answered_delay : delays plain answered_twice ≡ pos 5242880000 ∷ []
  pub answered_run : IsRun plain answered_twice
  pub by_ticks : (state example (ns 1000000) 6).heard
      ≡ at_tick Du 5 (message 2 1000000 0) ∷ at_tick Du 4 (message 2 1000000 0) ∷ at_tick Ru 3 (message 0 1000000 0) ∷ at_tick Ru 2 (message 0 1000000 0) ∷ begun Du One 1000000 ∷ []
  pub pure : IsPure example
  pub meeting_heard : (state meeting (ns 1000000) 1).heard ≡ came Du 1000000 (message 3 0 0) ∷ begun Du One 1000000 ∷ []
  pub meeting_sent : map (λ (f : Flight). f.message) ((state meeting (ns 1000000) 1).sent Ru) ≡ message 0 1000000 0 ∷ []
