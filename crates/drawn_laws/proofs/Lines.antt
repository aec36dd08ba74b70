-- Each line of an explanation is words with one space between them, and a line feed.
use Rattle.std.proofs.Common.{◌≡◌, ℕ, ◌-◌, List, [], ◌∷◌, ◌++◌, length, take, drop, Bool, false, ℤ, refl, sym, ap, ◌∙◌, arith, length-append, codes, decimal}
use Rattle.std.specs.Prelude.{Option, if◌then◌else◌}
use Rattle.std.specs.Fmt.{signed_decimal}
use Rattle.fh_base.specs.Words.{hex3_text, hex4_text}
use Rattle.air_source.specs.Units.{way_text}
use Rattle.air_source.specs.declared.events.Side.{Side}
use Rattle.ecpri_fragments.specs.declared.verdict.Verdict.{Verdict}
use Rattle.ecpri_frames.specs.declared.refusals.PduRefusal.{PduRefusal}
use Rattle.explain_model.specs.Lines.{class_text, command_verdict_text, control_place_text, control_text, data_text, data_verdict_text, line_text, whole_text, window_text}
use Rattle.explain_model.specs.Reasons.{word_of, word_text}
use Rattle.explain_model.specs.declared.places.MessagePlace.{MessagePlace}
use Rattle.explain_model.specs.declared.places.PrbRun.{PrbRun}
use Rattle.explain_model.specs.declared.reasons.Reason.{Reason}
use Rattle.explain_model.specs.declared.reasons.ReasonWord.{ReasonWord}
use Rattle.explain_model.specs.declared.values.CellWord.{CellWord}
use Rattle.explain_model.specs.declared.values.CellWord.TheVariants as cell
use Rattle.explain_model.specs.declared.values.CommandAnswer.{CommandAnswer}
use Rattle.explain_model.specs.declared.values.ControlLine.{ControlLine}
use Rattle.explain_model.specs.declared.values.DataLine.{DataLine}
use Rattle.explain_model.specs.declared.values.ExplainLine.{ExplainLine}
use Rattle.explain_model.specs.declared.values.ExplainLine.TheVariants as line
use Rattle.explain_model.specs.declared.values.Margin.{Margin}
use Rattle.explain_model.specs.declared.values.MarginClass.{MarginClass}
use Rattle.explain_model.specs.declared.values.WholeLine.{WholeLine}
use Rattle.explain_model.specs.declared.values.WindowName.{WindowName}
use Rattle.fault_counters.specs.Names.{name_of}
use Rattle.fault_counters.specs.declared.kinds.Counter.{Counter}
use Rattle.fh_base.specs.declared.values.Ticks.{Ticks}
use Rattle.air_source.specs.UnitLines.{count_text, delay_text, side_text}
use Rattle.unit_model.specs.declared.verdicts.CommandVerdict.{CommandVerdict}
use Rattle.unit_model.specs.declared.verdicts.CommandVerdict.TheVariants as command
use Rattle.unit_model.specs.declared.verdicts.DataVerdict.{DataVerdict}
use Rattle.unit_model.specs.declared.verdicts.DataVerdict.TheVariants as given
use Rattle.window_config.specs.declared.delays.Range.{Range}
use Rattle.drawn_laws.proofs.Numbers.{hex4_word, number_word, signed_word}
use Rattle.drawn_laws.proofs.Words.{AreWords, ◌⊕◌, no_words, one_word, spaced, words_if}
use Rattle.drawn_laws.proofs.Written.{also, class_word, clash_words, command_answer_words, counter_word, fragment_words, frame_answer_words, fresh_words, joined, lit, literal, margin_words, mask_words, message_words, named, named_symbol_words, number, prbs_words, reason_word, reason_words, rest_list, run_list, run_words, side_word, signed, symbol_words, timing_list, timing_words, way_word, whole_answer_words, window_word}

-- ---- a line and its body

abbrev pub cut_last : List ℕ → List ℕ
cut_last text = take (length text - 1) text

-- a line without its line feed
abbrev pub body_of : ExplainLine → List ℕ
body_of l = cut_last (line_text l)

pub record IsWritten (l : ExplainLine) (ws : List (List ℕ)) : Type 0 where
  pub is : line_text l ≡ body_of l ++ 10 ∷ []
  pub words : AreWords (32 ∷ body_of l) ws

-- with this first word
pub record IsWrittenBy (l : ExplainLine) (w : List ℕ) : Type 0 where
  pub rest : List (List ℕ)
  pub is : IsWritten l (w ∷ rest)

front_again : (t c : List ℕ) → take (length t) (t ++ c) ≡ t
front_again [] c = refl
front_again (x ∷ t) c = ap (λ (xs : List ℕ). x ∷ xs) (front_again t c)

pub cut_again : (t : List ℕ) → cut_last (t ++ 10 ∷ []) ≡ t
cut_again t =
    let less : length (t ++ 10 ∷ []) - 1 ≡ length t = omega (arith, length-append t (10 ∷ [])) in
    ap (λ (n : ℕ). take n (t ++ 10 ∷ [])) less ∙ front_again t (10 ∷ [])

pub written : {a w : List ℕ} {ws : List (List ℕ)} → AreWords a (w ∷ ws) → (l : ExplainLine) → 32 ∷ line_text l ≡ a ++ 10 ∷ [] → IsWritten l (w ∷ ws)
written {w = w} {ws = ws} p l e =
    let same : line_text l ≡ (w ++ spaced ws) ++ 10 ∷ [] = ap (drop 1) (e ∙ ap (λ (t : List ℕ). t ++ 10 ∷ []) p.is) in
    let body : body_of l ≡ w ++ spaced ws = ap cut_last same ∙ cut_again (w ++ spaced ws) in
    record {
      is = same ∙ ap (λ (t : List ℕ). t ++ 10 ∷ []) (sym body);
      words = record { is = ap (λ (t : List ℕ). 32 ∷ t) body; words = p.words };
    }

-- ---- the ends

pub head_written : IsWritten (line.Head false) (codes "explain" ∷ codes "1" ∷ [])
unfolding line_text
head_written = written (lit (codes "explain") refl ⊕ lit (codes "1") refl) (line.Head false) refl

pub end_written : IsWritten line.End (codes "end" ∷ [])
unfolding line_text
end_written = written (lit (codes "end") refl) line.End refl

abbrev pub window_list : WindowName → Range → List (List ℕ)
window_list name range = codes "window" ∷ window_text name ∷ signed_decimal range.min ∷ signed_decimal range.max ∷ []

pub window_written : (name : WindowName) (range : Range) → IsWritten (line.Window name range) (window_list name range)
unfolding line_text
window_written name range =
    written (also (lit (codes "window") refl) (window_text name) (window_word name) ⊕ signed range.min ⊕ signed range.max) (line.Window name range) refl

-- ---- lines that pictures use

pub frame_written : (n : ℕ) (side : Side) (at : Ticks) (bytes : ℕ) (refusal : Option PduRefusal)
    → IsWritten (line.Frame n side at bytes refusal) (codes "frame" ∷ decimal n ∷ way_text side ∷ signed_decimal at.0 ∷ decimal bytes ∷ (frame_answer_words refusal).words)
unfolding line_text
frame_written n side at bytes refusal =
    written (also (lit (codes "frame") refl ⊕ number n) (way_text side) (way_word side) ⊕ signed at.0 ⊕ number bytes ⊕ (frame_answer_words refusal).are)
    (line.Frame n side at bytes refusal) refl

abbrev pub word_list : Bool → List ℕ → List (List ℕ)
word_list b w = if b then w ∷ [] else []

abbrev pub command_name : CommandVerdict → List ℕ
command_name command.Mismatch = codes "mismatch"
command_name command.Late = codes "late"
command_name command.Early = codes "early"
command_name command.Range = codes "range"
command_name command.Repeat = codes "repeat"
command_name command.Overlap = codes "overlap"
command_name command.Full = codes "full"
command_name command.Accepted = codes "accepted"

command_verdict_words : (v : CommandVerdict) → AreWords (command_verdict_text v) (command_name v ∷ [])
command_verdict_words command.Mismatch = lit (codes "mismatch") refl
command_verdict_words command.Late = lit (codes "late") refl
command_verdict_words command.Early = lit (codes "early") refl
command_verdict_words command.Range = lit (codes "range") refl
command_verdict_words command.Repeat = lit (codes "repeat") refl
command_verdict_words command.Overlap = lit (codes "overlap") refl
command_verdict_words command.Full = lit (codes "full") refl
command_verdict_words command.Accepted = lit (codes "accepted") refl

abbrev pub data_name : DataVerdict → List ℕ
data_name given.Late = codes "late"
data_name given.Early = codes "early"
data_name given.Repeat = codes "repeat"
data_name given.Taken = codes "taken"

data_verdict_words : (v : DataVerdict) → AreWords (data_verdict_text v) (data_name v ∷ [])
data_verdict_words given.Late = lit (codes "late") refl
data_verdict_words given.Early = lit (codes "early") refl
data_verdict_words given.Repeat = lit (codes "repeat") refl
data_verdict_words given.Taken = lit (codes "taken") refl

-- what a section of a command says up to its mask
abbrev pub control_list : ControlLine → List (List ℕ) → List (List ℕ)
control_list c behind =
    codes "c" ∷ decimal c.number ∷ hex4_text c.place.id ∷ signed_decimal c.place.slot.frame ∷ decimal c.place.slot.subframe ∷ decimal c.place.slot.slot
    ∷ decimal c.place.symbol ∷ (codes "section=" ++ decimal c.section) ∷ (codes "prb=" ++ decimal c.prb) ∷ (codes "num=" ++ decimal c.num)
    ∷ (codes "symbols=" ++ decimal c.symbols) ∷ (codes "mask=" ++ hex3_text c.mask) ∷ behind

pub control_written : (c : ControlLine) → IsWritten (line.Control c) (control_list c
    (word_list c.uplink (codes "uplink") ++ word_list c.idle (codes "idle") ++ command_name c.verdict ∷ [] ++ timing_list c.timing ++ (clash_words c.clash).words))
unfolding line_text control_text control_place_text
control_written c =
    written (lit (codes "c") refl ⊕ number c.number ⊕ symbol_words c.place ⊕ named (codes "section=") c.section refl ⊕ prbs_words c.prb c.num
    ⊕ named (codes "symbols=") c.symbols refl ⊕ mask_words c.mask ⊕ words_if c.uplink (codes "uplink") (literal (codes "uplink") refl)
    ⊕ words_if c.idle (codes "idle") (literal (codes "idle") refl) ⊕ command_verdict_words c.verdict ⊕ timing_words c.timing ⊕ (clash_words c.clash).are)
    (line.Control c) refl

-- what a section of data says up to its margins
abbrev pub data_list : DataLine → List (List ℕ) → List (List ℕ)
data_list d behind =
    codes "u" ∷ decimal d.number ∷ hex4_text d.place.id ∷ signed_decimal d.place.slot.frame ∷ decimal d.place.slot.subframe ∷ decimal d.place.slot.slot
    ∷ decimal d.place.symbol ∷ (codes "section=" ++ decimal d.section) ∷ (codes "prb=" ++ decimal d.prb) ∷ (codes "num=" ++ decimal d.num) ∷ data_name d.verdict
    ∷ (codes "since=" ++ signed_decimal d.timing.since) ∷ (codes "until=" ++ signed_decimal d.timing.until) ∷ behind

pub data_written : (d : DataLine) → IsWritten (line.Data d) (data_list d (fresh_words d.fresh).words)
unfolding line_text data_text
data_written d =
    written (lit (codes "u") refl ⊕ number d.number ⊕ symbol_words d.place ⊕ named (codes "section=") d.section refl ⊕ prbs_words d.prb d.num
    ⊕ data_verdict_words d.verdict ⊕ timing_words d.timing ⊕ (fresh_words d.fresh).are)
    (line.Data d) refl

abbrev pub shown_list : CellWord → List (List ℕ)
shown_list (cell.Shown from) = codes "shown" ∷ (codes "from=" ++ decimal from) ∷ []
shown_list cell.Missing = codes "missing" ∷ []

pub cells_written : (r : PrbRun) (mask : ℕ) (said : CellWord) → IsWritten (line.Cells r mask said) (way_text r.side ∷ (run_list r mask ++ shown_list said))
unfolding line_text
cells_written r mask (cell.Shown from) =
    written (run_words r ⊕ mask_words mask ⊕ (lit (codes "shown") refl ⊕ named (codes "from=") from refl)) (line.Cells r mask (cell.Shown from)) refl
cells_written r mask cell.Missing = written (run_words r ⊕ mask_words mask ⊕ lit (codes "missing") refl) (line.Cells r mask cell.Missing) refl

pub missing_written : (r : PrbRun) (mask : ℕ) (why : Reason)
    → IsWritten (line.WhyMissing r mask why) (codes "why" ∷ way_text r.side ∷ (run_list r mask ++ codes "missing" ∷ word_text (word_of why) ∷ rest_list why))
unfolding line_text
missing_written r mask why =
    written (joined (lit (codes "why") refl ⊕ run_words r ⊕ mask_words mask) (codes " missing ") _ (lit (codes "missing") refl ⊕ reason_words why)) (line.WhyMissing r mask why) refl

pub silent_written : (r : PrbRun) (mask number : ℕ) (why : Reason)
    → IsWritten (line.WhySilent r mask number why)
    (codes "why" ∷ way_text r.side ∷ (run_list r mask ++ (codes "line=" ++ decimal number) ∷ codes "silent" ∷ word_text (word_of why) ∷ rest_list why))
unfolding line_text
silent_written r mask number why =
    written (joined (lit (codes "why") refl ⊕ run_words r ⊕ mask_words mask ⊕ named (codes "line=") number refl) (codes " silent ") _ (lit (codes "silent") refl ⊕ reason_words why))
    (line.WhySilent r mask number why) refl

-- ---- lines that pictures pass over

pub measure_written : (n place size : ℕ) → IsWrittenBy (line.Measure n place size) (codes "measure")
unfolding line_text
measure_written n place size = record {
  rest = _;
  is = written (lit (codes "measure") refl ⊕ number n ⊕ named (codes "place=") place refl ⊕ named (codes "size=") size refl) (line.Measure n place size) refl;
}

pub other_written : (n place kind size : ℕ) → IsWrittenBy (line.Other n place kind size) (codes "other")
unfolding line_text
other_written n place kind size = record {
  rest = _;
  is = written (lit (codes "other") refl ⊕ number n ⊕ named (codes "place=") place refl ⊕ named (codes "type=") kind refl ⊕ named (codes "size=") size refl) (line.Other n place kind size) refl;
}

pub short_written : (n place kind size : ℕ) → IsWrittenBy (line.Short n place kind size) (codes "short")
unfolding line_text
short_written n place kind size = record {
  rest = _;
  is = written (lit (codes "short") refl ⊕ number n ⊕ named (codes "place=") place refl ⊕ named (codes "type=") kind refl ⊕ named (codes "size=") size refl) (line.Short n place kind size) refl;
}

pub unknown_written : (m : MessagePlace) (kind : ℕ) → IsWrittenBy (line.Unknown m kind) (codes "unknown")
unfolding line_text
unknown_written m kind = record {
  rest = _;
  is = written (lit (codes "unknown") refl ⊕ (message_words m).are ⊕ named (codes "type=") kind refl) (line.Unknown m kind) refl;
}

pub command_written : (m : MessagePlace) (said : CommandAnswer) → IsWrittenBy (line.Command m said) (codes "command")
unfolding line_text
command_written m said = record {
  rest = _;
  is = written (lit (codes "command") refl ⊕ (message_words m).are ⊕ (command_answer_words said).are) (line.Command m said) refl;
}

pub fragment_written : (m : MessagePlace) (bytes : ℕ) (v : Verdict) → IsWrittenBy (line.Fragment m bytes v) (codes "data")
unfolding line_text
fragment_written m bytes v = record {
  rest = _;
  is = written (lit (codes "data") refl ⊕ (message_words m).are ⊕ named (codes "bytes=") bytes refl ⊕ (fragment_words v).are) (line.Fragment m bytes v) refl;
}

pub whole_written : (w : WholeLine) → IsWrittenBy (line.Whole w) (codes "whole")
unfolding line_text whole_text
whole_written w = record {
  rest = _;
  is = written (also (lit (codes "whole") refl ⊕ number w.number) (hex4_text w.id) (hex4_word w.id) ⊕ (named_symbol_words w.named).are
      ⊕ named (codes "pieces=") w.pieces refl ⊕ named (codes "bytes=") w.bytes refl ⊕ (whole_answer_words w.answer).are) (line.Whole w) refl;
}

pub delay_written : (at : Ticks) (side : Side) (id : ℕ) (value : ℤ) → IsWrittenBy (line.Delay at side id value) (codes "delay")
unfolding line_text delay_text
delay_written at side id value = record {
  rest = _;
  is = written (also (also (also (also (lit (codes "delay") refl) _ (signed_word at.0)) (side_text side) (side_word side)) (decimal id) (number_word id)) _ (signed_word value)) (line.Delay at side id value) refl;
}

pub unused_written : (r : PrbRun) (from : ℕ) → IsWrittenBy (line.Unused r from) (codes "unused")
unfolding line_text
unused_written r from = record { rest = _; is = written (lit (codes "unused") refl ⊕ run_words r ⊕ named (codes "from=") from refl) (line.Unused r from) refl }

pub margin_written : (side : Side) (of : MarginClass) (id : ℕ) (m : Margin) → IsWrittenBy (line.Margin side of id m) (codes "margin")
unfolding line_text
margin_written side of id m = record {
  rest = _;
  is = written (also (also (also (lit (codes "margin") refl) (side_text side) (side_word side)) (class_text of) (class_word of)) (hex4_text id) (hex4_word id) ⊕ (margin_words m).are)
      (line.Margin side of id m) refl;
}

pub shown_written : (side : Side) (id cells : ℕ) → IsWrittenBy (line.ShownCells side id cells) (codes "reason")
unfolding line_text
shown_written side id cells = record {
  rest = _;
  is = written (also (also (lit (codes "reason") refl) (way_text side) (way_word side)) (hex4_text id) (hex4_word id) ⊕ lit (codes "shown") refl ⊕ no_words ⊕ number cells)
      (line.ShownCells side id cells) refl;
}

pub missing_sum_written : (side : Side) (id : ℕ) (w : ReasonWord) (cells : ℕ) → IsWrittenBy (line.MissingCells side id w cells) (codes "reason")
unfolding line_text
missing_sum_written side id w cells = record {
  rest = _;
  is = written (joined (also (also (lit (codes "reason") refl) (way_text side) (way_word side)) (hex4_text id) (hex4_word id)) (codes " missing ") (word_text w) (lit (codes "missing") refl ⊕ one_word (word_text w) (reason_word w)) ⊕ number cells)
      (line.MissingCells side id w cells) refl;
}

pub silent_sum_written : (side : Side) (id : ℕ) (w : ReasonWord) (prbs : ℕ) → IsWrittenBy (line.SilentPrbs side id w prbs) (codes "reason")
unfolding line_text
silent_sum_written side id w prbs = record {
  rest = _;
  is = written (joined (also (also (lit (codes "reason") refl) (way_text side) (way_word side)) (hex4_text id) (hex4_word id)) (codes " silent ") (word_text w) (lit (codes "silent") refl ⊕ one_word (word_text w) (reason_word w)) ⊕ number prbs)
      (line.SilentPrbs side id w prbs) refl;
}

pub count_written : (side : Side) (counter : Counter) (value : ℕ) → IsWrittenBy (line.Count side counter value) (codes "count")
unfolding line_text count_text
count_written side counter value = record {
  rest = _;
  is = written (also (also (also (lit (codes "count") refl) (side_text side) (side_word side)) (name_of counter) (counter_word counter)) (decimal value) (number_word value)) (line.Count side counter value) refl;
}
