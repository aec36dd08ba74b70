-- The C-plane message of a line of a plan (O-RAN.WG4.CUS, C-plane messages; which fields a line gives is this project's profile).
use Rattle.std.specs.Prelude.{ℕ, pos, false, if◌then◌else◌, Option, Some, None}
use Rattle.fh_base.specs.Kinds.{time_offset_of, cp_length_of}
use Rattle.fh_base.specs.Numbering.{code_of, offsets_of}
use Rattle.bfp_codec.specs.declared.methods.Format.{Format}
use Rattle.cplane_sections.specs.declared.values.CBody.{CBody}
use Rattle.cplane_sections.specs.declared.values.CBody.TheVariants as body
use Rattle.cplane_sections.specs.declared.values.CHead.{CHead}
use Rattle.cplane_sections.specs.declared.values.CSection.{CSection}
use Rattle.uplane_sections.specs.Writes.{udCompHdr}
use Rattle.window_config.specs.declared.endpoints.EndpointConfig.{EndpointConfig}
use Rattle.window_config.specs.declared.plan.PlanKind.{PlanKind}
use Rattle.window_config.specs.declared.plan.PlanKind.TheVariants.{Down, Up, Idle}
use Rattle.plan_model.specs.Lines.{is_down_kind}
use Rattle.plan_model.specs.declared.lines.PlannedLine.{PlannedLine}
use Rattle.frame_bytes.specs.Headers.{frame_id_of}

-- udCompHdr: the endpoint's in an uplink command where the format is dynamic, else 0
abbrev pub comp_of : Format → ℕ
comp_of format = if format.dynamic then udCompHdr format.method else 0

-- section type 3 with an offset endpoint's timeOffset and cpLength, else section type 1; the FFT nibble of frameStructure is 0
abbrev pub channel_body : ℕ → ℕ → Option (ℕ × ℕ) → CBody
channel_body code comp None = body.Normal comp
channel_body code comp (Some offsets) = body.Offset offsets.0 code offsets.1 comp

-- section type 0 for an `idle` line
abbrev pub body_for : PlanKind → EndpointConfig → CBody
body_for Down e = channel_body (code_of e.numerology) 0 (offsets_of e.numerology)
body_for Up e = channel_body (code_of e.numerology) (comp_of e.format) (offsets_of e.numerology)
body_for Idle e = body.Idle (time_offset_of e.numerology.kind) (code_of e.numerology) (cp_length_of e.numerology.kind)

-- the application header: filterIndex 0, startSymbolId the line's symbol, one section
abbrev pub command_head : PlannedLine → CHead
command_head p = record {
  down = is_down_kind p.line.kind;
  filter = 0;
  frame_id = frame_id_of p.line.slot.frame;
  subframe = p.line.slot.subframe;
  slot = p.line.slot.slot;
  start_symbol = p.line.symbol;
  count = 1;
  body = body_for p.line.kind p.endpoint;
}

-- beamId, which section type 0 has not
abbrev pub beam_of : PlanKind → ℕ → ℕ
beam_of Down beam = beam
beam_of Up beam = beam
beam_of Idle beam = 0

-- the section: symInc 0, freqOffset 0
abbrev pub command_section : PlannedLine → CSection
command_section p = record {
  id = p.line.section;
  sym_inc = false;
  symbol = p.line.symbol;
  start_prb = p.line.start_prb;
  num_prb = p.line.num_prb;
  mask = p.line.mask;
  num_symbol = p.line.count;
  beam = beam_of p.line.kind p.line.beam;
  freq_offset = pos 0;
}
