-- The lines of an explanation (this project's profile): what became of each frame, message, section and cell, and why.
use Rattle.std.specs.Prelude.{ℕ, List, [], ◌++◌, ◌==◌, Bool, true, false, Option, Some, None, codes, decimal, if◌then◌else◌}
use Rattle.std.specs.List.{flat_map}
use Rattle.air_source.specs.Units.{way_text}
use Rattle.air_source.specs.declared.events.Side.{Side}
use Rattle.bfp_codec.specs.declared.methods.Method.{Method}
use Rattle.bfp_codec.specs.declared.methods.Method.TheVariants.{Plain, Bfp}
use Rattle.cplane_sections.specs.Names.{name_of as command_why}
use Rattle.ecpri_fragments.specs.declared.verdict.Verdict.{Verdict}
use Rattle.ecpri_fragments.specs.declared.verdict.Verdict.TheVariants as fragment
use Rattle.ecpri_frames.specs.Refusals.{name_of as frame_why}
use Rattle.ecpri_frames.specs.declared.refusals.PduRefusal.{PduRefusal}
use Rattle.explain_model.specs.Places.{moment_text, symbol_text, prbs_text, mask_text, run_text, message_text, timing_text, clash_text}
use Rattle.explain_model.specs.Reasons.{reason_text, word_text, from_text}
use Rattle.explain_model.specs.declared.places.Clash.{Clash}
use Rattle.explain_model.specs.declared.values.CellWord.{CellWord}
use Rattle.explain_model.specs.declared.values.CellWord.TheVariants as cell
use Rattle.explain_model.specs.declared.values.CommandAnswer.{CommandAnswer}
use Rattle.explain_model.specs.declared.values.CommandAnswer.TheVariants as answer
use Rattle.explain_model.specs.declared.values.ControlLine.{ControlLine}
use Rattle.explain_model.specs.declared.values.DataLine.{DataLine}
use Rattle.explain_model.specs.declared.values.ExplainLine.{ExplainLine}
use Rattle.explain_model.specs.declared.values.ExplainLine.TheVariants as line
use Rattle.explain_model.specs.declared.values.Margin.{Margin}
use Rattle.explain_model.specs.declared.values.MarginClass.{MarginClass}
use Rattle.explain_model.specs.declared.values.MarginClass.TheVariants as class
use Rattle.explain_model.specs.declared.values.WholeAnswer.{WholeAnswer}
use Rattle.explain_model.specs.declared.values.WholeAnswer.TheVariants as whole
use Rattle.explain_model.specs.declared.values.WholeLine.{WholeLine}
use Rattle.explain_model.specs.declared.values.WindowName.{WindowName}
use Rattle.explain_model.specs.declared.values.WindowName.TheVariants as window
use Rattle.fh_base.specs.Numbering.{code_of, offsets_of, symbols_of}
use Rattle.fh_base.specs.declared.numerology.Numerology.{Numerology}
use Rattle.fh_base.specs.declared.values.Slot.{Slot}
use Rattle.member_lines.specs.Members.{named_text}
use Rattle.air_source.specs.UnitLines.{side_text, delay_text, count_text}
use Rattle.fh_base.specs.Words.{hex4_text, spaced_signed_text, spaced_text}
use Rattle.unit_model.specs.declared.verdicts.CommandVerdict.{CommandVerdict}
use Rattle.unit_model.specs.declared.verdicts.CommandVerdict.TheVariants as command
use Rattle.unit_model.specs.declared.verdicts.DataVerdict.{DataVerdict}
use Rattle.unit_model.specs.declared.verdicts.DataVerdict.TheVariants as given
use Rattle.uplane_sections.specs.Names.{name_of as data_why}
use Rattle.window_config.specs.declared.endpoints.EndpointConfig.{EndpointConfig}

-- ---- the head of the text

abbrev pub head_text : Bool → List ℕ
head_text false = codes "explain 1\n"
head_text true = codes "explain 1 faults\n"

abbrev pub window_text : WindowName → List ℕ
window_text window.T1aUp = codes "t1a_up"
window_text window.T1aCpDl = codes "t1a_cp_dl"
window_text window.T1aCpUl = codes "t1a_cp_ul"
window_text window.T2aUp = codes "t2a_up"
window_text window.T2aCpDl = codes "t2a_cp_dl"
window_text window.T2aCpUl = codes "t2a_cp_ul"
window_text window.Ta3 = codes "ta3"
window_text window.Ta4 = codes "ta4"

-- the twelve symbols of a slot are those of the extended cyclic prefix
abbrev pub kind_by : ℕ → Option (ℕ × ℕ) → List ℕ
kind_by symbols (Some offsets) = codes "offset"
kind_by symbols None = if symbols == 12 then codes "extended" else codes "ordinary"

abbrev pub kind_text : Numerology → List ℕ
kind_text n = kind_by (symbols_of n) (offsets_of n)

-- a subcarrier spacing in kHz, by its code
abbrev pub spacing_text : ℕ → List ℕ
spacing_text code =
    if code == 0 then codes "15"
    else (if code == 1 then codes "30"
    else (if code == 2 then codes "60"
    else (if code == 3 then codes "120"
    else (if code == 4 then codes "240"
    else (if code == 12 then codes "1.25"
    else codes "5")))))

abbrev pub mode_text : Bool → List ℕ
mode_text false = codes " static"
mode_text true = codes " dynamic"

abbrev pub method_text : Method → List ℕ
method_text Plain = codes " none"
method_text (Bfp width) = codes " bfp" ++ decimal width

-- timeOffset and cpLength
abbrev pub offsets_text : Option (ℕ × ℕ) → List ℕ
offsets_text None = []
offsets_text (Some (time_offset, cp_length)) = spaced_text time_offset ++ spaced_text cp_length

unfoldable pub endpoint_text : EndpointConfig → List ℕ
endpoint_text e = codes "endpoint " ++ hex4_text e.id ++ codes " " ++ kind_text e.numerology ++ codes " " ++ spacing_text (code_of e.numerology)
    ++ spaced_text e.prbs ++ mode_text e.format.dynamic ++ method_text e.format.method ++ offsets_text (offsets_of e.numerology) ++ codes "\n"

-- ---- frames and messages

-- why, and where
abbrev pub why_text : List ℕ → ℕ → List ℕ
why_text name at = codes " " ++ name ++ named_text (codes "at") at

abbrev pub frame_answer_text : Option PduRefusal → List ℕ
frame_answer_text None = codes " ok"
frame_answer_text (Some r) = why_text (frame_why r.why) r.place

abbrev pub command_answer_text : CommandAnswer → List ℕ
command_answer_text answer.Read = codes " ok"
command_answer_text answer.Fragmented = codes " Fragmented at=0"
command_answer_text (answer.Refused r) = why_text (command_why r.why) r.place
command_answer_text answer.WrongWay = codes " wrong_way"

abbrev pub whole_answer_text : WholeAnswer → List ℕ
whole_answer_text (whole.Refused r) = why_text (data_why r.why) r.place
whole_answer_text whole.WrongWay = codes " wrong_way"

abbrev pub fragment_text : Verdict → List ℕ
fragment_text fragment.Stored = codes " stored"
fragment_text fragment.Whole = codes " whole"
fragment_text fragment.Repeat = codes " repeat"
fragment_text fragment.Stray = codes " stray"
fragment_text fragment.TooLong = codes " long"

-- the symbol that a header names
abbrev pub named_symbol_text : Option (Slot × ℕ) → List ℕ
named_symbol_text None = []
named_symbol_text (Some (slot, symbol)) = moment_text slot symbol

unfoldable pub whole_text : WholeLine → List ℕ
whole_text w = codes "whole" ++ spaced_text w.number ++ codes " " ++ hex4_text w.id ++ named_symbol_text w.named
    ++ named_text (codes "pieces") w.pieces ++ named_text (codes "bytes") w.bytes ++ whole_answer_text w.answer ++ codes "\n"

-- ---- sections

abbrev pub command_verdict_text : CommandVerdict → List ℕ
command_verdict_text command.Mismatch = codes " mismatch"
command_verdict_text command.Late = codes " late"
command_verdict_text command.Early = codes " early"
command_verdict_text command.Range = codes " range"
command_verdict_text command.Repeat = codes " repeat"
command_verdict_text command.Overlap = codes " overlap"
command_verdict_text command.Full = codes " full"
command_verdict_text command.Accepted = codes " accepted"

abbrev pub data_verdict_text : DataVerdict → List ℕ
data_verdict_text given.Late = codes " late"
data_verdict_text given.Early = codes " early"
data_verdict_text given.Repeat = codes " repeat"
data_verdict_text given.Taken = codes " taken"

-- a word that is there or not
abbrev pub word_if : Bool → List ℕ → List ℕ
word_if b word = if b then word else []

abbrev pub clashing_text : Option Clash → List ℕ
clashing_text None = []
clashing_text (Some c) = clash_text c

-- which PRBs, symbols and elements a section of a command names
unfoldable pub control_place_text : ControlLine → List ℕ
control_place_text c = codes "c" ++ spaced_text c.number ++ symbol_text c.place ++ named_text (codes "section") c.section ++ prbs_text c.prb c.num
    ++ named_text (codes "symbols") c.symbols ++ mask_text c.mask

unfoldable pub control_text : ControlLine → List ℕ
control_text c = control_place_text c ++ word_if c.uplink (codes " uplink") ++ word_if c.idle (codes " idle")
    ++ command_verdict_text c.verdict ++ timing_text c.timing ++ clashing_text c.clash ++ codes "\n"

abbrev pub fresh_text : Option ℕ → List ℕ
fresh_text None = []
fresh_text (Some fresh) = named_text (codes "fresh") fresh

unfoldable pub data_text : DataLine → List ℕ
data_text d = codes "u" ++ spaced_text d.number ++ symbol_text d.place ++ named_text (codes "section") d.section ++ prbs_text d.prb d.num
    ++ data_verdict_text d.verdict ++ timing_text d.timing ++ fresh_text d.fresh ++ codes "\n"

-- ---- cells

abbrev pub cell_word_text : CellWord → List ℕ
cell_word_text (cell.Shown from) = codes " shown" ++ from_text from
cell_word_text cell.Missing = codes " missing"

-- ---- sums

abbrev pub class_text : MarginClass → List ℕ
class_text class.Down = codes "c"
class_text class.Up = codes "cul"
class_text class.Data = codes "u"

-- the least distances of what was on time
abbrev pub least_text : Margin → List ℕ
least_text m = if m.ontime == 0 then [] else timing_text m.least

-- how many were late or early, and by how much at most
abbrev pub beyond_text : List ℕ → ℕ → ℕ → List ℕ
beyond_text name number by = if number == 0 then [] else named_text name number ++ named_text (name ++ codes "by") by

unfoldable pub margin_text : Margin → List ℕ
margin_text m = named_text (codes "ontime") m.ontime ++ least_text m ++ beyond_text (codes "late") m.late m.late_by ++ beyond_text (codes "early") m.early m.early_by

-- ---- a line

-- a first word, an arrival, a place, and what else is said of a message
abbrev pub placed_text : List ℕ → ℕ → ℕ → List ℕ
placed_text word number place = word ++ spaced_text number ++ named_text (codes "place") place

abbrev pub reason_line_text : Side → ℕ → List ℕ → List ℕ → ℕ → List ℕ
reason_line_text side id what word n = codes "reason " ++ way_text side ++ codes " " ++ hex4_text id ++ what ++ word ++ spaced_text n ++ codes "\n"

unfoldable pub line_text : ExplainLine → List ℕ
line_text (line.Head faults) = head_text faults
line_text (line.Window name range) = codes "window " ++ window_text name ++ spaced_signed_text range.min ++ spaced_signed_text range.max ++ codes "\n"
line_text (line.Endpoint e) = endpoint_text e
line_text (line.Frame number side at bytes refusal) =
    codes "frame" ++ spaced_text number ++ codes " " ++ way_text side ++ spaced_signed_text at.0 ++ spaced_text bytes ++ frame_answer_text refusal ++ codes "\n"
line_text (line.Measure number place size) = placed_text (codes "measure") number place ++ named_text (codes "size") size ++ codes "\n"
line_text (line.Other number place kind size) =
    placed_text (codes "other") number place ++ named_text (codes "type") kind ++ named_text (codes "size") size ++ codes "\n"
line_text (line.Short number place kind size) =
    placed_text (codes "short") number place ++ named_text (codes "type") kind ++ named_text (codes "size") size ++ codes "\n"
line_text (line.Unknown message kind) = codes "unknown" ++ message_text message ++ named_text (codes "type") kind ++ codes "\n"
line_text (line.Command message said) = codes "command" ++ message_text message ++ command_answer_text said ++ codes "\n"
line_text (line.Control c) = control_text c
line_text (line.Fragment message bytes verdict) =
    codes "data" ++ message_text message ++ named_text (codes "bytes") bytes ++ fragment_text verdict ++ codes "\n"
line_text (line.Whole w) = whole_text w
line_text (line.Data d) = data_text d
line_text (line.Cells run mask word) = run_text run ++ mask_text mask ++ cell_word_text word ++ codes "\n"
line_text (line.Delay at side id value) = delay_text at.0 side id value
line_text (line.WhyMissing run mask reason) = codes "why " ++ run_text run ++ mask_text mask ++ codes " missing " ++ reason_text reason ++ codes "\n"
line_text (line.WhySilent run mask number reason) =
    codes "why " ++ run_text run ++ mask_text mask ++ named_text (codes "line") number ++ codes " silent " ++ reason_text reason ++ codes "\n"
line_text (line.Unused run from) = codes "unused " ++ run_text run ++ from_text from ++ codes "\n"
line_text (line.Margin side of id margin) =
    codes "margin " ++ side_text side ++ codes " " ++ class_text of ++ codes " " ++ hex4_text id ++ margin_text margin ++ codes "\n"
line_text (line.ShownCells side id cells) = reason_line_text side id (codes " shown") [] cells
line_text (line.MissingCells side id word cells) = reason_line_text side id (codes " missing ") (word_text word) cells
line_text (line.SilentPrbs side id word prbs) = reason_line_text side id (codes " silent ") (word_text word) prbs
line_text (line.Count side counter value) = count_text side counter value
line_text line.End = codes "end\n"

-- ---- lines by what they are of

-- a frame, or a message of it that no unit reads
abbrev pub is_of_frame : ExplainLine → Bool
is_of_frame (line.Frame number side at bytes refusal) = true
is_of_frame (line.Measure number place size) = true
is_of_frame (line.Other number place kind size) = true
is_of_frame (line.Short number place kind size) = true
is_of_frame (line.Unknown message kind) = true
is_of_frame _ = false

-- a reason, and how often it was told
abbrev pub is_of_reason : ExplainLine → Bool
is_of_reason (line.WhyMissing run mask reason) = true
is_of_reason (line.WhySilent run mask number reason) = true
is_of_reason (line.ShownCells side id cells) = true
is_of_reason (line.MissingCells side id word cells) = true
is_of_reason (line.SilentPrbs side id word prbs) = true
is_of_reason _ = false

-- a number of a unit
abbrev pub is_of_unit : ExplainLine → Bool
is_of_unit (line.Delay at side id value) = true
is_of_unit (line.Margin side of id margin) = true
is_of_unit (line.Count side counter value) = true
is_of_unit _ = false

abbrev pub lines_text : List ExplainLine → List ℕ
lines_text = flat_map line_text
