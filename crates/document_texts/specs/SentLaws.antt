-- What holds of the frames that are listed (this project's profile). Times are ticks.
use Rattle.std.specs.Prelude.{◌≡◌, ℕ, ℤ, ◌+◌, ◌+ℤ◌, ◌≤ℤ◌, Bool, true, false, List, ◌++◌, Some, filter, length, map, slice_get, take}
use Rattle.std.specs.List.{AllPairs, flat_map}
use Rattle.std.specs.Ordering.{int_eq}
use Rattle.air_source.specs.declared.events.Side.TheVariants.{Ru}
use Rattle.fh_base.specs.Lists.{each_tick}
use Rattle.unit_model.specs.Meetings.{Arrival}
use Rattle.unit_model.specs.Radiated.{first_clock}
use Rattle.unit_model.specs.Times.{tick_count}
use Rattle.window_config.specs.Windows.{ticks_of_ns}
use Rattle.fh_document.specs.declared.delivered.TrafficClass.{TrafficClass}
use Rattle.fh_document.specs.declared.delivered.TrafficClass.TheVariants.{C, U, M}
use Rattle.fh_document.specs.declared.document.Document.{Document}
use Rattle.delay_laws.specs.Ticks.{Flight}
use Rattle.document_traffic.specs.Landing.{all_delayed, injected_to, landings_of}
use Rattle.document_traffic.specs.Sending.{Delayed, Leaving}
use Rattle.document_traffic.specs.Measured.{delay_frame, exchanges, flights_then}
use Rattle.document_traffic.specs.Replayed.{landings_for}
use Rattle.document_texts.specs.Rows.{SentRow, rows_of}

-- ---- the frames

-- the frame of a line as it leaves, and with its copies
abbrev pub leaving_told : SentRow → Leaving
leaving_told r = record { at = r.line.at.0; class = r.line.class; frame = r.frame }

abbrev pub delayed_told : SentRow → Delayed
delayed_told r = record { frame = leaving_told r; delays = r.copies }

-- the first line is of a frame that leaves no later
abbrev pub IsUpTo : SentRow → SentRow → Type 0
IsUpTo r s = r.line.at.0 ≤ℤ s.line.at.0

abbrev pub same_class : TrafficClass → TrafficClass → Bool
same_class C C = true
same_class U U = true
same_class M M = true
same_class C U = false
same_class C M = false
same_class U C = false
same_class U M = false
same_class M C = false
same_class M U = false

-- those of one class among these lines
abbrev pub of_class : TrafficClass → List SentRow → List SentRow
of_class class rs = filter (λ r. same_class class r.line.class) rs

-- ---- what lands

-- a copy of a line's frame, so many nanoseconds after it left
abbrev pub copy_told : SentRow → ℤ → Arrival
copy_told r ns = record { at = r.line.at.0 +ℤ ticks_of_ns ns; frame = r.frame }

abbrev pub copies_told : SentRow → List Arrival
copies_told r = map (copy_told r) r.copies

-- a copy of a frame of delay measurement, so many ticks after it left
abbrev pub flight_copy : Flight → ℤ → Arrival
flight_copy f ticks = record { at = f.at +ℤ ticks; frame = delay_frame f.message }

abbrev pub copies_flown : Flight → List Arrival
copies_flown f = map (flight_copy f) f.delays

-- the copies of what leaves at a tick: first of the listed frames, then of those of delay measurement
abbrev pub sent_then : Document → ℤ → List Arrival
sent_then d t = flat_map copies_told (filter (λ r. int_eq r.line.at.0 t) (rows_of d)) ++ flat_map copies_flown (flights_then ((exchanges d).sent Ru) t)

-- ---- the laws

pub record IsListed (d : Document) : Type 0 where
  -- the lines are the frames that the plan sends to the radio unit, each once and in the sent order, with their copies
  pub frames : map delayed_told (rows_of d) ≡ all_delayed Ru d
  -- they are in the order of time
  pub order : AllPairs IsUpTo (rows_of d)
  -- each is as long as it says
  pub lengths : map (λ r. r.line.bytes) (rows_of d) ≡ map (λ r. length r.frame) (rows_of d)
  -- its number is how many lines of its class there are up to it
  pub numbers : (k : ℕ) (r : SentRow) → slice_get (rows_of d) k ≡ Some r → r.line.number ≡ length (of_class r.line.class (take (k + 1) (rows_of d)))
  -- without measurements their copies are, before the injected frames, all that lands at the radio unit
  pub planned : landings_of d ≡ flat_map copies_told (rows_of d) ++ injected_to Ru d
  -- and with them those of delay measurement are in between, by the tick at which they were sent
  pub lands : landings_for Ru d ≡ each_tick first_clock tick_count (sent_then d) ++ injected_to Ru d
