-- The fields of a line's command are in their widths, and a receiver of the endpoint admits them.
use Rattle.std.proofs.Common.{◌≡◌, ℕ, ℤ, pos, ◌+◌, ◌%◌, ◌<◌, ◌≤◌, ◌^◌, ◌+ℤ◌, Bool, true, false, ◌==◌, if◌then◌else◌, List, [], ◌∷◌, Option, Some, None, refl, ap, ◌∙◌, arith}
use Rattle.std.specs.Int.{int_rem_euclid}
use Rattle.std.proofs.lemmas.Bool.{and_from, eq-eqb}
use Rattle.std.proofs.lemmas.Int.{ints}
use Rattle.std.proofs.Math.Nat.{mod-eq_of_lt}
use Rattle.fh_base.specs.Kinds.{cp_length_of, kind_code, kind_offsets, time_offset_of}
use Rattle.fh_base.specs.Numbering.{code_of, offsets_of, shape_of}
use Rattle.fh_base.specs.Spacing.{code_of_spacing}
use Rattle.fh_base.specs.declared.kind.Kind.{Kind}
use Rattle.fh_base.specs.declared.kind.Kind.TheVariants.{Ordinary, Offset, Extended}
use Rattle.fh_base.specs.declared.numerology.Numerology.{Numerology}
use Rattle.fh_base.specs.declared.spacing.Spacing.{Spacing}
use Rattle.fh_base.specs.declared.spacing.Spacing.TheVariants.{Khz15, Khz30, Khz60, Khz120, Khz240, Khz1x25, Khz5}
use Rattle.fh_base.proofs.Euclid.{rest_small}
use Rattle.bfp_codec.specs.declared.methods.Format.{Format}
use Rattle.cplane_sections.specs.Header.{kind_of}
use Rattle.cplane_sections.specs.Message.{Admits, AreAdmitted}
use Rattle.cplane_sections.specs.Words.{BodyFits}
use Rattle.uplane_sections.specs.Writes.{udCompHdr}
use Rattle.window_config.specs.declared.endpoints.EndpointConfig.{EndpointConfig}
use Rattle.window_config.specs.declared.plan.PlanKind.{PlanKind}
use Rattle.window_config.specs.declared.plan.PlanKind.TheVariants.{Down, Up, Idle}
use Rattle.unit_model.specs.Commands.{has_no_offsets, has_offsets, is_for, is_idle}
use Rattle.unit_model.proofs.CountLemmas.{no_time}
use Rattle.plan_model.specs.Lines.{is_idle_kind as is_idle_line}
use Rattle.plan_model.specs.declared.lines.PlannedLine.{PlannedLine}
use Rattle.plan_model.proofs.LineLemmas.{IsGoodLine}
use Rattle.plan_model.proofs.TimeLemmas.{id_below, first_less}
use Rattle.frame_bytes.specs.Commands.{IsCommand}
use Rattle.sent_frames.specs.Commands.{beam_of, body_for, channel_body, command_head, command_section, comp_of}
use Rattle.sent_frames.proofs.MessageFacts.{below_four}
use Rattle.frame_bytes.specs.Headers.{frame_id_of}
use Rattle.frame_bytes.proofs.ReadBack.{hdr_small as header_small}
use Rattle.fh_base.proofs.EachLemmas.{gap_is}

-- ---- the frame's low 8 bits

from_zero : (z g : ℤ) → pos 0 +ℤ g ≡ z → g ≡ z
from_zero z g h = omega (arith, ints, h)

pub frame_id_is : (frame : ℤ) → pos (frame_id_of frame) ≡ int_rem_euclid frame (pos 256)
frame_id_is frame =
    from_zero (int_rem_euclid frame (pos 256)) (pos (frame_id_of frame)) (gap_is (pos 0) (int_rem_euclid frame (pos 256)) (rest_small frame (int_rem_euclid frame (pos 256)) refl).0)

pub frame_id_small : (frame : ℤ) → frame_id_of frame < 256
frame_id_small frame = id_below frame (frame_id_of frame) (frame_id_is frame)

-- ---- what the section type adds

spacing_small : (s : Spacing) → code_of_spacing s < 16
spacing_small Khz15 = omega arith
spacing_small Khz30 = omega arith
spacing_small Khz60 = omega arith
spacing_small Khz120 = omega arith
spacing_small Khz240 = omega arith
spacing_small Khz1x25 = omega arith
spacing_small Khz5 = omega arith

kind_small : (k : Kind) → kind_code k < 16
kind_small (Ordinary s) = spacing_small s
kind_small (Offset s t c) = spacing_small s
kind_small Extended = omega arith

in_byte : (n : ℕ) → n < 16 → n < 2 ^ 8
in_byte n h = omega (arith, h)

comp_small : (f : Format) → comp_of f < 2 ^ 8
comp_small f = go f.dynamic
  where
    go : (b : Bool) → (let n : ℕ = if b then udCompHdr f.method else 0 in n) < 2 ^ 8
    go true = header_small f.method
    go false = omega arith

channel_fits : (k : Kind) (comp : ℕ) → time_offset_of k < 2 ^ 16 → cp_length_of k < 2 ^ 16 → comp < 2 ^ 8 → BodyFits (channel_body (kind_code k) comp (kind_offsets k))
channel_fits (Ordinary s) comp t c h = h
channel_fits (Offset s a b) comp t c h = (t, in_byte (code_of_spacing s) (spacing_small s), c, h)
channel_fits Extended comp t c h = h

body_fits : (kind : PlanKind) (e : EndpointConfig) → BodyFits (body_for kind e)
body_fits Down e = channel_fits e.numerology.kind 0 e.numerology.short_offset e.numerology.short_prefix (omega arith)
body_fits Up e = channel_fits e.numerology.kind (comp_of e.format) e.numerology.short_offset e.numerology.short_prefix (comp_small e.format)
body_fits Idle e = (e.numerology.short_offset, in_byte (kind_code e.numerology.kind) (kind_small e.numerology.kind), e.numerology.short_prefix)

channel_for : (n : Numerology) (comp : ℕ) (o : Option (ℕ × ℕ)) → offsets_of n ≡ o → is_for (channel_body (code_of n) comp o) n ≡ true
channel_for n comp None e = ap has_no_offsets e
channel_for n comp (Some p) e =
    and_from (has_offsets p.0 p.1 (offsets_of n)) (code_of n % 16 == code_of n) (ap (has_offsets p.0 p.1) e ∙ and_from (p.0 == p.0) (p.1 == p.1) (eq-eqb p.0 p.0 refl) (eq-eqb p.1 p.1 refl))
    (eq-eqb (code_of n % 16) (code_of n) (mod-eq_of_lt (kind_small n.kind)))

pub body_is_for : (kind : PlanKind) (e : EndpointConfig) → is_for (body_for kind e) e.numerology ≡ true
body_is_for Down e = channel_for e.numerology 0 (offsets_of e.numerology) refl
body_is_for Up e = channel_for e.numerology (comp_of e.format) (offsets_of e.numerology) refl
body_is_for Idle e = refl

channel_idle : (code comp : ℕ) (o : Option (ℕ × ℕ)) → is_idle (channel_body code comp o) ≡ false
channel_idle code comp None = refl
channel_idle code comp (Some p) = refl

pub body_idle : (kind : PlanKind) (e : EndpointConfig) → is_idle (body_for kind e) ≡ is_idle_line kind
body_idle Down e = channel_idle (code_of e.numerology) 0 (offsets_of e.numerology)
body_idle Up e = channel_idle (code_of e.numerology) (comp_of e.format) (offsets_of e.numerology)
body_idle Idle e = refl

channel_some : (code comp : ℕ) (o : Option (ℕ × ℕ)) → kind_of (channel_body code comp o) ≡ 0 → ⊥
channel_some code comp None h = omega (arith, h)
channel_some code comp (Some p) h = omega (arith, h)

no_beam : (kind : PlanKind) (e : EndpointConfig) (beam : ℕ) → kind_of (body_for kind e) ≡ 0 → beam_of kind beam ≡ 0
no_beam Down e beam h = absurd (channel_some (code_of e.numerology) 0 (offsets_of e.numerology) h)
no_beam Up e beam h = absurd (channel_some (code_of e.numerology) (comp_of e.format) (offsets_of e.numerology) h)
no_beam Idle e beam h = refl

beam_small : (kind : PlanKind) (beam : ℕ) → beam < 2 ^ 15 → beam_of kind beam < 2 ^ 15
beam_small Down beam h = h
beam_small Up beam h = h
beam_small Idle beam h = omega arith

-- ---- the whole command

pub at_most_nine : (n : ℕ) → n < 10 → n ≤ 9
at_most_nine n h = omega (arith, h)

pub line_command : (es : List EndpointConfig) (p : PlannedLine) → IsGoodLine es p → p.line.num_prb < 2 ^ 8 → IsCommand (command_head p) (command_section p)
line_command es p g num = record {
  head_fits = record { filter = omega arith; subframe = below_four p.line.slot.subframe g.fits.subframe; slot = g.fits.slot; start_symbol = g.fits.symbol };
  frame_id = frame_id_small p.line.slot.frame;
  count = omega arith;
  body = body_fits p.line.kind p.endpoint;
  section_fits = record {
    id = g.fits.section;
    start_prb = g.fits.start_prb;
    mask = g.fits.mask;
    num_symbol = g.fits.count;
    beam = beam_small p.line.kind p.line.beam g.fits.beam;
    freq_low = omega (arith, ints);
    freq_high = omega (arith, ints);
  };
  num_prb = num;
}

pub line_admitted : (es : List EndpointConfig) (p : PlannedLine) → IsGoodLine es p → Admits (shape_of p.endpoint.numerology) (command_head p) (command_section p ∷ [])
unfolding AreAdmitted
line_admitted es p g = record {
  subframe = at_most_nine p.line.slot.subframe g.fits.subframe;
  slot = g.slot;
  start_symbol = first_less p.line.symbol p.line.count _ g.some g.within;
  some = omega arith;
  count = refl;
  sections = (record { maintained = no_time p.line.symbol; some = g.some; within = g.within; no_beam = no_beam p.line.kind p.endpoint p.line.beam; no_offset = λ h. refl }, tt);
}
