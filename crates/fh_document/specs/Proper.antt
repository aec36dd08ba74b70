-- What a document that was read may be (this project's profile).
use Rattle.std.specs.Prelude.{ℕ, ℤ, pos, ◌^◌, ◌<◌, ◌≤◌, ◌≤ℤ◌, ◌≡◌, List, [], ◌∷◌, All, false, length, map, IfSome}
use Rattle.bfp_codec.specs.Layout.{AreBytes}
use Rattle.eaxc_map.specs.Endpoints.{AppearOnce}
use Rattle.air_source.specs.declared.tones.Tone.{Tone}
use Rattle.window_config.specs.declared.endpoints.EndpointConfig.{EndpointConfig}
use Rattle.window_config.specs.declared.plan.PlanLine.{PlanLine}
use Rattle.window_config.specs.Configs.{IsConfig}
use Rattle.fh_document.specs.declared.document.Comps.{Comps}
use Rattle.fh_document.specs.declared.document.Transits.{Transits}
use Rattle.fh_document.specs.declared.delivered.Delivery.{Delivery}
use Rattle.fh_document.specs.declared.document.Injection.{Injection}
use Rattle.fh_document.specs.declared.document.Measure.{Measure}
use Rattle.fh_document.specs.declared.document.Document.{Document}
use Rattle.fh_base.specs.declared.source.TheConstants.{FRAME_LIMIT}
use Rattle.window_config.specs.declared.plan.TheConstants.{PLAN_LINES, LAST_FRAME}
use Rattle.fh_document.specs.Delivered.{has_like}
use Rattle.fh_document.specs.DeliverLines.{least_of}
use Rattle.fh_base.specs.declared.nanoseconds.TheConstants.{LAST_TIME}
use Rattle.fh_document.specs.declared.config_lines.TheConstants.{MOST_TRANSIT}
use Rattle.fh_document.specs.declared.deliver_lines.TheConstants.{MOST_NUMBER}
use Rattle.delay_measure.specs.declared.stamps.TheConstants.{MOST_COMPENSATION}

-- a time from a least to a greatest
pub record IsFrom (least most : ℕ) (ns : ℤ) : Type 0 where
  pub low : pos least ≤ℤ ns
  pub high : ns ≤ℤ pos most

pub record IsTone (t : Tone) : Type 0 where
  pub low : 1 ≤ t.amplitude
  pub high : t.amplitude ≤ 32768

-- compensations of at most 2^16 times a million
pub record AreComps (c : Comps) : Type 0 where
  pub du_sending : IsFrom 0 MOST_COMPENSATION c.du_sending
  pub du_receiving : IsFrom 0 MOST_COMPENSATION c.du_receiving
  pub ru_sending : IsFrom 0 MOST_COMPENSATION c.ru_sending
  pub ru_receiving : IsFrom 0 MOST_COMPENSATION c.ru_receiving

-- at most three seconds, where frames of the way are not lost; a measurement takes a nanosecond at least
pub record AreTransits (t : Transits) : Type 0 where
  pub dl : IfSome t.dl (IsFrom 0 MOST_TRANSIT)
  pub ul : IfSome t.ul (IsFrom 0 MOST_TRANSIT)
  pub m : IsFrom 1 MOST_TRANSIT t.m

-- the numbers of a line of a plan, as the grammar has them
pub record IsPlanLine (line : PlanLine) : Type 0 where
  pub frame : IsFrom 1 LAST_FRAME line.slot.frame
  pub subframe : line.slot.subframe ≤ 9
  pub slot : line.slot.slot ≤ 63
  pub symbol : line.symbol ≤ 63
  pub count : line.count ≤ 15
  pub start_prb : line.start_prb ≤ 1023
  pub num_prb : line.num_prb < 2 ^ 8
  pub mask : line.mask < 2 ^ 12
  pub section : line.section < 2 ^ 12
  pub beam : line.beam < 2 ^ 15

-- one frame of its class and way, and at most eight copies of it
pub record IsDelivery (d : Delivery) : Type 0 where
  pub some : 1 ≤ d.k
  pub most : d.k ≤ MOST_NUMBER
  pub few : length d.copies ≤ 8
  pub times : All (IsFrom (least_of d.class) MOST_TRANSIT) d.copies

-- none is of the frame of one after it
abbrev pub AreApart : List Delivery → Type 0
AreApart [] = Unit {0}
AreApart (d ∷ ds) = (has_like d ds ≡ false) × AreApart ds

-- an id of a byte; late enough that no stamp is below 0
pub record IsMeasure (m : Measure) : Type 0 where
  pub id : m.id < 256
  pub time : IsFrom 1000000 LAST_TIME m.at

pub record IsInjection (i : Injection) : Type 0 where
  pub time : IsFrom 0 LAST_TIME i.at
  pub bytes : AreBytes i.frame
  pub short : length i.frame ≤ FRAME_LIMIT

-- each kind of lines within its limits, and eAxC ids of 16 bits
pub record IsDocument (d : Document) : Type 0 where
  pub config : IsConfig d.config
  pub ids : All (λ (e : EndpointConfig). e.id < 2 ^ 16) d.config.endpoints
  pub plan : All IsPlanLine d.plan
  pub few : length d.plan ≤ PLAN_LINES
  pub numbered : length d.plan_lines ≡ length d.plan
  pub source : IsTone d.source
  pub antenna : IsTone d.antenna
  pub comps : AreComps d.comps
  pub transits : AreTransits d.transits
  pub deliveries : All IsDelivery d.deliveries
  pub frames : AreApart d.deliveries
  pub injections : All IsInjection d.injections
  pub measures : All IsMeasure d.measures
  pub differ : AppearOnce (map (λ m. m.id) d.measures)
