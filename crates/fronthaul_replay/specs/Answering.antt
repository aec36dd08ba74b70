-- How the radio unit's messages of one tick are answered (this project's profile).
use Rattle.std.specs.Prelude.{ℤ, pos, ◌+ℤ◌, ◌≤ℤ◌, List}
use Rattle.air_source.specs.declared.links.LinkFrame.{LinkFrame}
use Rattle.air_source.specs.declared.places.RePlace.{RePlace}
use Rattle.bfp_codec.specs.declared.samples.Wide.{Wide}
use Rattle.frame_ways.specs.declared.way.Way.{Way}
use Rattle.document_traffic.specs.Laws.{IsReplayable}
use Rattle.fh_document.specs.declared.document.Document.{Document}
use Rattle.replay_laws.specs.Moments.{end_of_time}
use Rattle.unit_model.specs.Radiated.{first_clock}
use Rattle.ru_buffers.specs.declared.unit.Ru.{Ru}
use Rattle.uplink_path.specs.declared.uplink.Uplink.{Uplink}
use Rattle.fronthaul_replay.specs.BoxTurns.{AtRadioTurn, HasRadioLanded}
use Rattle.fronthaul_replay.specs.Up.{HasAnswered, WaitsUp}

-- a tick of a document's replay
pub record IsDueAt (d : Document) (tick : ℤ) : Type 0 where
  pub replayable : IsReplayable d
  pub begun : first_clock ≤ℤ tick
  pub ended : tick ≤ℤ end_of_time

-- all has landed at the radio unit, and what is to be received at the other waits
pub record MayAnswer {G : Type 0} (pre : G → RePlace → Type 0) (post : G → RePlace → Wide → Type 0) (ru : Ru) (u : Uplink G) (link queue : List LinkFrame) (way : Way) : Type 0 where
  pub document : Document
  pub tick : ℤ
  pub due : IsDueAt document tick
  pub landed : HasRadioLanded document tick ru
  pub waits : WaitsUp pre post document tick u link queue way

-- its messages of the tick are given, and were handed over
pub record Answered {G : Type 0} (pre : G → RePlace → Type 0) (post : G → RePlace → Wide → Type 0) (d : Document) (tick : ℤ) (ru : Ru) (u : Uplink G) (link queue : List LinkFrame) (way : Way) : Type 0 where
  pub radio : AtRadioTurn d (tick +ℤ pos 1) ru
  pub answered : HasAnswered pre post d tick u link queue way
