-- What shows that a relation of a delay profile fails. Times of the profile are in nanoseconds, arrivals and symbols in ticks.
use Rattle.std.specs.Prelude.{◌≡◌, ℤ, ◌+ℤ◌, ◌≤ℤ◌, ◌<ℤ◌, neg_ℤ, ⊤, Bool, true, false, List, [], ◌∷◌, Option, Some, None, if◌then◌else◌}
use Rattle.window_config.specs.declared.delays.Range.{Range}
use Rattle.window_config.specs.declared.delays.Delays.{Delays}
use Rattle.window_config.specs.declared.relations.Relation.{Relation}
use Rattle.window_config.specs.declared.relations.Relation.TheVariants.{UpMax, UpMin, CpUlMax, CpUlMin, Ta4Min, Ta4Max, HoldDl, HoldUl}
use Rattle.window_config.specs.declared.verdicts.Class.{Class}
use Rattle.window_config.specs.declared.verdicts.Class.TheVariants.{OnTime, Late, Early}
use Rattle.window_config.specs.Windows.{ticks_of_ns, data_window_of, command_window_of}
use Rattle.window_config.specs.Classes.{class_of, class_up_of}
use Rattle.window_config.specs.Relations.{holds}
use Rattle.ecpri_fragments.specs.Generations.{Fragment, generations_of, start_in, is_first}
use Rattle.window_plan.specs.declared.breaches.Breach.{Breach}
use Rattle.window_plan.specs.declared.breaches.Breach.TheVariants.{One, Two}

-- times before a symbol, counted from its start
abbrev pub before : Range → Range
before r = record { min = neg_ℤ r.max; max = neg_ℤ r.min }

-- when the frames that a relation speaks of are sent, counted from the start of their symbol: in T1a before it, in Ta3 after it
abbrev pub sent_in : Relation → Delays → Range
sent_in UpMax d = before d.t1a_up
sent_in UpMin d = before d.t1a_up
sent_in CpUlMax d = before d.t1a_cp_ul
sent_in CpUlMin d = before d.t1a_cp_ul
sent_in Ta4Min d = d.ta3
sent_in Ta4Max d = d.ta3
sent_in HoldDl d = before d.t1a_up
sent_in HoldUl d = d.ta3

-- how long they take
abbrev pub delayed_by : Relation → Delays → Range
delayed_by UpMax d = d.t12
delayed_by UpMin d = d.t12
delayed_by CpUlMax d = d.t12
delayed_by CpUlMin d = d.t12
delayed_by Ta4Min d = d.t34
delayed_by Ta4Max d = d.t34
delayed_by HoldDl d = d.t12
delayed_by HoldUl d = d.t34

-- the class of a message that arrives whole at a time, for a symbol that starts at `s`: data and uplink commands at the RU, data
-- at the DU
abbrev pub heard_as : Relation → Delays → ℤ → ℤ → Class
heard_as UpMax d at s = class_of at at s (data_window_of d)
heard_as UpMin d at s = class_of at at s (data_window_of d)
heard_as CpUlMax d at s = class_of at at s (command_window_of d false)
heard_as CpUlMin d at s = class_of at at s (command_window_of d false)
heard_as Ta4Min d at s = class_up_of at at s d.ta4
heard_as Ta4Max d at s = class_up_of at at s d.ta4
heard_as HoldDl d at s = class_of at at s (data_window_of d)
heard_as HoldUl d at s = class_up_of at at s d.ta4

-- how a frame misses its window where a relation fails: it is early where the relation bounds early arrivals, and late where it
-- bounds late ones; the relations on a hold speak of no window
abbrev pub missed_as : Relation → Class
missed_as UpMax = Early
missed_as UpMin = Late
missed_as CpUlMax = Early
missed_as CpUlMin = Late
missed_as Ta4Min = Early
missed_as Ta4Max = Late
missed_as HoldDl = OnTime
missed_as HoldUl = OnTime

-- the hold of the unit that hears the frames
abbrev pub hold_of : Relation → Delays → ℤ
hold_of UpMax d = d.hold_dl
hold_of UpMin d = d.hold_dl
hold_of CpUlMax d = d.hold_dl
hold_of CpUlMin d = d.hold_dl
hold_of Ta4Min d = d.hold_ul
hold_of Ta4Max d = d.hold_ul
hold_of HoldDl d = d.hold_dl
hold_of HoldUl d = d.hold_ul

abbrev pub is_on_hold : Relation → Bool
is_on_hold UpMax = false
is_on_hold UpMin = false
is_on_hold CpUlMax = false
is_on_hold CpUlMin = false
is_on_hold Ta4Min = false
is_on_hold Ta4Max = false
is_on_hold HoldDl = true
is_on_hold HoldUl = true

-- the frames that are received earliest or latest of all that a relation speaks of; of a hold the first and the last
abbrev pub extreme_of : Relation → Delays → Breach
extreme_of UpMax d = One (neg_ℤ d.t1a_up.max) d.t12.min
extreme_of UpMin d = One (neg_ℤ d.t1a_up.min) d.t12.max
extreme_of CpUlMax d = One (neg_ℤ d.t1a_cp_ul.max) d.t12.min
extreme_of CpUlMin d = One (neg_ℤ d.t1a_cp_ul.min) d.t12.max
extreme_of Ta4Min d = One d.ta3.min d.t34.min
extreme_of Ta4Max d = One d.ta3.max d.t34.max
extreme_of HoldDl d = Two (neg_ℤ d.t1a_up.max) d.t12.min (neg_ℤ d.t1a_up.min) d.t12.max
extreme_of HoldUl d = Two d.ta3.min d.t34.min d.ta3.max d.t34.max

-- these frames where the relation fails, and none where it holds
abbrev pub breach_of : Relation → Delays → Option Breach
breach_of r d = if holds r d then None else Some (extreme_of r d)

-- when a frame arrives: its symbol's start, when it was sent and its delay
abbrev pub arrival : ℤ → ℤ → ℤ → ℤ
arrival s sent delay = s +ℤ ticks_of_ns (sent +ℤ delay)

pub record IsIn (r : Range) (time : ℤ) : Type 0 where
  pub low : r.min ≤ℤ time
  pub high : time ≤ℤ r.max

-- A frame is sent in its window, takes a delay within the bounds, and misses the other unit's window, whatever its symbol.
pub record MissesWindow (r : Relation) (d : Delays) (sent delay : ℤ) : Type 0 where
  pub sent_inside : IsIn (sent_in r d) sent
  pub delay_inside : IsIn (delayed_by r d) delay
  pub missed : (s : ℤ) → heard_as r d (arrival s sent delay) s ≡ missed_as r
  pub not_on_time : (s : ℤ) → heard_as r d (arrival s sent delay) s ≡ OnTime → ⊥

-- arrivals none of which was received after a time
abbrev pub NoneAfter : ℤ → List Fragment → Type 0
NoneAfter time [] = ⊤
NoneAfter time (a ∷ more) = (a.at ≤ℤ time) × NoneAfter time more

-- Two frames of one message are sent in their window, take delays within the bounds, and arrive more than the hold apart,
-- whatever their symbol.
pub record Parts (r : Relation) (d : Delays) (sent delay later later_delay : ℤ) : Type 0 where
  pub sent_inside : IsIn (sent_in r d) sent
  pub delay_inside : IsIn (delayed_by r d) delay
  pub later_inside : IsIn (sent_in r d) later
  pub later_delay_inside : IsIn (delayed_by r d) later_delay
  pub apart : (s : ℤ) → (arrival s sent delay +ℤ ticks_of_ns (hold_of r d)) <ℤ arrival s later later_delay
  -- after the first frame, which was received last of all that had arrived, the later one begins a generation
  pub begins : (s : ℤ) (a b : Fragment) (earlier : List Fragment) → a.at ≡ arrival s sent delay → b.at ≡ arrival s later later_delay
      → b.ep ≡ a.ep → b.seq ≡ a.seq → NoneAfter a.at earlier → is_first (ticks_of_ns (hold_of r d)) b (a ∷ earlier) ≡ true
  -- whatever arrived before the later one, the generation that it falls in began after the first frame had been received
  pub after : (s : ℤ) (b : Fragment) (arrivals : List Fragment) → b.at ≡ arrival s later later_delay
      → arrival s sent delay <ℤ start_in (ticks_of_ns (hold_of r d)) b.at (generations_of (ticks_of_ns (hold_of r d)) b.ep b.seq arrivals)

-- what a breach shows: one frame of a relation on windows, two of one on a hold
abbrev pub Breaks : Relation → Delays → Breach → Type 0
Breaks r d (One sent delay) = (is_on_hold r ≡ false) × MissesWindow r d sent delay
Breaks r d (Two sent delay later later_delay) = (is_on_hold r ≡ true) × Parts r d sent delay later later_delay
