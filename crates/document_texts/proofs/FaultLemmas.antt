-- What holds at an answer of a sink holds at that of a text's writer.
use Rattle.std.proofs.Common.{◌≡◌, ◌≢◌, ℕ, List, [], ◌∷◌, ◌++◌, Option, Result, Ok, Err, OnErr, OnOk}
use Rattle.std.specs.List.{flat_map}
use Rattle.fh_base.specs.Causes.{Counts, has_failed}
use Rattle.fh_base.specs.Told.{WritesPart}
use Rattle.fh_base.specs.declared.fault.SinkFault.{SinkFault}
use Rattle.fh_base.specs.declared.fault.SinkFault.TheVariants as sink
use Rattle.fh_base.proofs.Progress.{front_none}
use Rattle.fh_base.proofs.Parts.{front_part}
use Rattle.window_config.specs.declared.endpoints.EndpointConfig.{EndpointConfig}
use Rattle.window_config.specs.declared.plan.PlanLine.{PlanLine}
use Rattle.air_source.specs.declared.events.AirCell.{AirCell}
use Rattle.fronthaul_replay.specs.Replay.{HasWriteCause}
use Rattle.idle_text.specs.Text.{end_text, endpoint_text, idle_text}
use Rattle.document_texts.specs.IdleFaults.{text_result}

pub ok_told : (P : Type 0) (r : Result (Unit {0}) SinkFault) → OnOk r P → OnOk (text_result r) P
ok_told P (Ok u) p = p
ok_told P (Err sink.Failed) p = tt
ok_told P (Err sink.NoMemory) p = tt

pub err_told : (P : Type 0) (r : Result (Unit {0}) SinkFault) → OnErr r P → OnErr (text_result r) P
err_told P (Ok u) p = tt
err_told P (Err sink.Failed) p = p
err_told P (Err sink.NoMemory) p = p

pub cause_told : (before now : ℕ) (r : Result (Unit {0}) SinkFault) → Counts (has_failed r) before now → HasWriteCause before now (text_result r)
cause_told before now (Ok u) counts = counts
cause_told before now (Err sink.Failed) counts = counts
cause_told before now (Err sink.NoMemory) counts = counts

some_end : end_text ≢ []
some_end h = absurd (cc h)

-- nothing was written, and the text is not empty
pub none_written : (es : List EndpointConfig) (lines : List PlanLine) (first last min : ℕ) (cells : List AirCell) (w : Option (List ℕ)) → WritesPart w w (idle_text es lines first last min cells)
unfolding idle_text
none_written es lines first last min cells w =
    let all = flat_map (endpoint_text first last cells min lines) es in
    front_part w w all end_text some_end (front_none w all)
