-- How the frames of a message are handed over.
use Rattle.std.specs.Prelude.{◌≡◌, ℕ, pos, neg_ℤ, ◌<◌, ◌≤◌, ◌≤ℤ◌, ◌*◌, ◌^◌, ◌%◌, ◌==◌, ◌&&◌, min, if◌then◌else◌, List, ◌++◌, Option, Some, None}
use Rattle.window_config.specs.Endpoints.{IsEndpoint}
use Rattle.window_config.specs.declared.config.Config.{Config}
use Rattle.window_config.specs.declared.endpoints.EndpointConfig.{EndpointConfig}
use Rattle.air_source.specs.declared.links.LinkFrame.{LinkFrame}
use Rattle.unit_model.specs.Claims.{same_slot}
use Rattle.unit_model.specs.declared.jobs.UplinkJob.{UplinkJob}
use Rattle.plan_model.specs.Departures.{departures_of}
use Rattle.plan_model.specs.Packs.{Message}
use Rattle.plan_model.specs.declared.streams.Stream.TheVariants.{UpData}
use Rattle.frame_bytes.specs.Messages.{MessageFits, message_size}
use Rattle.uplink_model.specs.Frames.{head_of}
use Rattle.uplink_path.specs.Packing.{IsPacked, sections_in}
use Rattle.uplink_path.specs.declared.pending.Pending.{Pending}
use Rattle.uplink_path.specs.declared.rules.Rules.{Rules}
use Rattle.uplink_path.specs.declared.rules.Run.{Run}
use Rattle.fh_base.specs.declared.symbols.TheConstants.{SLOT_SYMBOLS}
use Rattle.window_config.specs.declared.config.TheConstants.{MESSAGE_SECTIONS, MOST_FRAGMENT, LEAST_FRAGMENT}
use Rattle.frame_bytes.specs.Headers.{carrier_of}

abbrev pub rules_of : Config → Rules
rules_of c = record { fragment = c.fragment; pack = c.pack; departures = departures_of c UpData }

-- how long the next frame of the job's symbol waits, where it goes on with the last symbol or begins
abbrev pub wait_in : Option Run → UplinkJob → ℕ
wait_in None j = 0
wait_in (Some r) j = if (r.ep == j.ep) && (same_slot r.slot j.slot && (r.symbol == j.symbol)) then r.wait else 0

-- how long a frame waits after the first of its symbol, where so many leave before it
abbrev pub wait_behind : Config → ℕ → ℕ
wait_behind c i = min (i * (departures_of c UpData).gap) (departures_of c UpData).spread

-- rules that can be kept
pub record AreRules (r : Rules) : Type 0 where
  pub from_low : neg_ℤ (pos (2 ^ 33)) ≤ℤ r.departures.from.0
  pub from_high : r.departures.from.0 ≤ℤ pos (2 ^ 33)
  pub gap : r.departures.gap < 2 ^ 33
  pub spread : r.departures.spread < 2 ^ 33
  pub fragment_low : LEAST_FRAGMENT ≤ r.fragment
  pub fragment_high : r.fragment ≤ MOST_FRAGMENT

-- a message that can be sent by these rules
pub record CanBeSent (r : Rules) (e : EndpointConfig) (p : Pending) : Type 0 where
  pub rules : AreRules r
  pub endpoint : IsEndpoint e
  pub low : neg_ℤ (pos (2 ^ 56)) ≤ℤ p.first.s.0
  pub high : p.first.s.0 ≤ℤ pos (2 ^ 56)
  pub symbol : p.first.symbol < SLOT_SYMBOLS
  pub count : p.size.parts ≤ MESSAGE_SECTIONS
  pub fits : MessageFits (carrier_of e) (head_of p.first) (sections_in p)
  pub size : p.size.bytes ≡ message_size (carrier_of e) (sections_in p)

-- a message with its number, and so many frames of its symbol before it
pub record IsBehind (c : Config) (r : Rules) (p : Pending) (number wait : ℕ) (m : Message UplinkJob) (n before : ℕ) : Type 0 where
  pub rules : r ≡ rules_of c
  pub packed : IsPacked c p m
  pub number_is : number ≡ n % 256
  pub wait_is : wait ≡ wait_behind c before

-- the first of these frames were handed over
pub record SentSome (frames old new : List LinkFrame) : Type 0 where
  pub front : List LinkFrame
  pub rest : List LinkFrame
  pub is : frames ≡ front ++ rest
  pub sent : new ≡ old ++ front
