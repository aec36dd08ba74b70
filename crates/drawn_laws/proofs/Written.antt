-- The words of the pieces of lines.
use Rattle.std.proofs.Common.{◌≡◌, ℕ, List, [], ◌∷◌, ◌++◌, length, Bool, true, false, ◌&&◌, ◌==◌, nat_lt, ℤ, refl, ◌∙◌, arith, append_assoc, codes, decimal}
use Rattle.std.specs.Prelude.{Option, Some, None, if◌then◌else◌}
use Rattle.std.specs.Fmt.{signed_decimal}
use Rattle.std.specs.List.{list_all}
use Rattle.std.proofs.lemmas.Bool.Decides.{nat_tests}
use Rattle.fh_base.specs.Words.{hex3_text, hex4_text}
use Rattle.air_source.specs.Units.{way_text}
use Rattle.air_source.specs.declared.events.Side.{Side}
use Rattle.air_source.specs.declared.events.Side.TheVariants.{Ru, Du}
use Rattle.cplane_sections.specs.Names.{name_of as command_why}
use Rattle.cplane_sections.specs.declared.values.CWhy.{CWhy}
use Rattle.cplane_sections.specs.declared.values.CWhy.TheVariants as c
use Rattle.ecpri_fragments.specs.declared.verdict.Verdict.{Verdict}
use Rattle.ecpri_fragments.specs.declared.verdict.Verdict.TheVariants as fragment
use Rattle.ecpri_frames.specs.Refusals.{name_of as frame_why}
use Rattle.ecpri_frames.specs.declared.refusals.PduRefusal.{PduRefusal}
use Rattle.ecpri_frames.specs.declared.refusals.PduWhy.{PduWhy}
use Rattle.ecpri_frames.specs.declared.refusals.PduWhy.TheVariants as pdu
use Rattle.explain_model.specs.Lines.{clashing_text, class_text, command_answer_text, fragment_text, frame_answer_text, fresh_text, margin_text, named_symbol_text, whole_answer_text, why_text, window_text}
use Rattle.explain_model.specs.Places.{bit_text, clash_text, message_text, moment_text, prbs_text, run_text, symbol_text, timing_text}
use Rattle.explain_model.specs.Reasons.{reason_text, rest_text, word_of, word_text}
use Rattle.explain_model.specs.declared.places.Clash.{Clash}
use Rattle.explain_model.specs.declared.places.MessagePlace.{MessagePlace}
use Rattle.explain_model.specs.declared.places.PrbRun.{PrbRun}
use Rattle.explain_model.specs.declared.places.SymbolPlace.{SymbolPlace}
use Rattle.explain_model.specs.declared.places.Timing.{Timing}
use Rattle.explain_model.specs.declared.reasons.Reason.{Reason}
use Rattle.explain_model.specs.declared.reasons.Reason.TheVariants as reason
use Rattle.explain_model.specs.declared.reasons.ReasonWord.{ReasonWord}
use Rattle.explain_model.specs.declared.reasons.ReasonWord.TheVariants as word
use Rattle.explain_model.specs.declared.values.CommandAnswer.{CommandAnswer}
use Rattle.explain_model.specs.declared.values.CommandAnswer.TheVariants as answer
use Rattle.explain_model.specs.declared.values.Margin.{Margin}
use Rattle.explain_model.specs.declared.values.MarginClass.{MarginClass}
use Rattle.explain_model.specs.declared.values.MarginClass.TheVariants as class
use Rattle.explain_model.specs.declared.values.WholeAnswer.{WholeAnswer}
use Rattle.explain_model.specs.declared.values.WholeAnswer.TheVariants as whole
use Rattle.explain_model.specs.declared.values.WindowName.{WindowName}
use Rattle.explain_model.specs.declared.values.WindowName.TheVariants as window
use Rattle.fault_counters.specs.Names.{name_of}
use Rattle.fault_counters.specs.declared.kinds.Counter.{Counter}
use Rattle.fault_counters.specs.declared.kinds.Counter.TheVariants as counter
use Rattle.fh_base.specs.declared.values.Slot.{Slot}
use Rattle.air_source.specs.UnitLines.{side_text}
use Rattle.uplane_sections.specs.Names.{name_of as data_why}
use Rattle.uplane_sections.specs.declared.values.UWhy.{UWhy}
use Rattle.uplane_sections.specs.declared.values.UWhy.TheVariants as u
use Rattle.drawn_laws.proofs.Numbers.{hex4_word, key_word, mask_word, name_word, number_word, signed_word}
use Rattle.drawn_laws.proofs.Words.{AreWords, IsWord, ◌⊕◌, is_letter, no_words, one_word}

-- ---- pieces

-- words after a text that ends within the first of them
pub joined : {a : List ℕ} {vs ws : List (List ℕ)} → AreWords a vs → (front back : List ℕ) → AreWords (front ++ back) ws → AreWords (a ++ front ++ back) (vs ++ ws)
joined {a = a} p front back q = let both = p ⊕ q in record { is = append_assoc a front back ∙ both.is; words = both.words }

pub literal : (w : List ℕ) → (nat_lt 0 (length w) && list_all is_letter w) ≡ true → IsWord w
literal w e = go (nat_lt 0 (length w)) refl e
  where
    go : (t : Bool) → nat_lt 0 (length w) ≡ t → (t && list_all is_letter w) ≡ true → IsWord w
    go true is e = record { some = grind (arith, nat_tests); is = e }
    go false is e = absurd (cc e)

pub lit : (w : List ℕ) → (nat_lt 0 (length w) && list_all is_letter w) ≡ true → AreWords (32 ∷ w) (w ∷ [])
lit w e = one_word w (literal w e)

pub number : (n : ℕ) → AreWords (32 ∷ decimal n) (decimal n ∷ [])
number n = one_word (decimal n) (number_word n)

pub signed : (z : ℤ) → AreWords (32 ∷ signed_decimal z) (signed_decimal z ∷ [])
signed z = one_word (signed_decimal z) (signed_word z)

pub named : (key : List ℕ) (n : ℕ) → list_all is_letter key ≡ true → AreWords (32 ∷ (key ++ decimal n)) ((key ++ decimal n) ∷ [])
named key n e = one_word (key ++ decimal n) (name_word key n e)

-- one word more, with the space before it apart
pub also : {a : List ℕ} {vs : List (List ℕ)} → AreWords a vs → (w : List ℕ) → IsWord w → AreWords (a ++ (32 ∷ []) ++ w) (vs ++ w ∷ [])
also p w q = joined p (32 ∷ []) w (one_word w q)

-- some words, whichever
pub record HasWords (text : List ℕ) : Type 0 where
  pub words : List (List ℕ)
  pub are : AreWords text words

pub has : {text : List ℕ} {ws : List (List ℕ)} → AreWords text ws → HasWords text
has {ws = ws} p = record { words = ws; are = p }

pub has_if : (t : Bool) (a b : List ℕ) → HasWords a → HasWords b → HasWords (if t then a else b)
has_if true a b p q = p
has_if false a b p q = q

-- ---- words of names

pub way_word : (side : Side) → IsWord (way_text side)
way_word Ru = literal _ refl
way_word Du = literal _ refl

pub side_word : (side : Side) → IsWord (side_text side)
side_word Ru = literal _ refl
side_word Du = literal _ refl

pub window_word : (name : WindowName) → IsWord (window_text name)
window_word window.T1aUp = literal _ refl
window_word window.T1aCpDl = literal _ refl
window_word window.T1aCpUl = literal _ refl
window_word window.T2aUp = literal _ refl
window_word window.T2aCpDl = literal _ refl
window_word window.T2aCpUl = literal _ refl
window_word window.Ta3 = literal _ refl
window_word window.Ta4 = literal _ refl

pub class_word : (of : MarginClass) → IsWord (class_text of)
class_word class.Down = literal _ refl
class_word class.Up = literal _ refl
class_word class.Data = literal _ refl

bit_word : (last : Bool) → IsWord (codes "e=" ++ bit_text last)
bit_word true = literal _ refl
bit_word false = literal _ refl

command_why_word : (why : CWhy) → IsWord (command_why why)
command_why_word c.Truncated = literal _ refl
command_why_word c.Version = literal _ refl
command_why_word c.SectionType = literal _ refl
command_why_word c.SlotRange = literal _ refl
command_why_word c.SymbolRange = literal _ refl
command_why_word c.NoSections = literal _ refl
command_why_word c.EveryOtherRb = literal _ refl
command_why_word c.Extension = literal _ refl
command_why_word c.Trailing = literal _ refl

data_why_word : (why : UWhy) → IsWord (data_why why)
data_why_word u.Truncated = literal _ refl
data_why_word u.Version = literal _ refl
data_why_word u.SlotRange = literal _ refl
data_why_word u.SymbolRange = literal _ refl
data_why_word u.EveryOtherRb = literal _ refl
data_why_word u.PrbRange = literal _ refl
data_why_word u.Method = literal _ refl

frame_why_word : (why : PduWhy) → IsWord (frame_why why)
frame_why_word pdu.Revision = literal _ refl
frame_why_word pdu.Truncated = literal _ refl
frame_why_word pdu.NoPadding = literal _ refl

pub counter_word : (it : Counter) → IsWord (name_of it)
counter_word counter.Frames = literal _ refl
counter_word counter.FramesRefused = literal _ refl
counter_word counter.Messages = literal _ refl
counter_word counter.OtherType = literal _ refl
counter_word counter.Delay = literal _ refl
counter_word counter.Short = literal _ refl
counter_word counter.UnknownEndpoint = literal _ refl
counter_word counter.WrongWay = literal _ refl
counter_word counter.CRefused = literal _ refl
counter_word counter.CMismatch = literal _ refl
counter_word counter.CLate = literal _ refl
counter_word counter.CEarly = literal _ refl
counter_word counter.CRange = literal _ refl
counter_word counter.CRepeat = literal _ refl
counter_word counter.COverlap = literal _ refl
counter_word counter.CFull = literal _ refl
counter_word counter.CAccepted = literal _ refl
counter_word counter.FStored = literal _ refl
counter_word counter.FWhole = literal _ refl
counter_word counter.FRepeat = literal _ refl
counter_word counter.FStray = literal _ refl
counter_word counter.FLong = literal _ refl
counter_word counter.URefused = literal _ refl
counter_word counter.ULate = literal _ refl
counter_word counter.UEarly = literal _ refl
counter_word counter.URepeat = literal _ refl
counter_word counter.UTaken = literal _ refl
counter_word counter.Cells = literal _ refl
counter_word counter.Missing = literal _ refl
counter_word counter.DelayShort = literal _ refl
counter_word counter.DelayUnknown = literal _ refl
counter_word counter.DelayRepeat = literal _ refl
counter_word counter.DelayResult = literal _ refl

pub reason_word : (w : ReasonWord) → IsWord (word_text w)
reason_word word.Other = literal _ refl
reason_word word.Late = literal _ refl
reason_word word.Early = literal _ refl
reason_word word.Refused = literal _ refl
reason_word word.WrongWay = literal _ refl
reason_word word.Repeated = literal _ refl
reason_word word.Unfinished = literal _ refl
reason_word word.CommandMismatch = literal _ refl
reason_word word.CommandLate = literal _ refl
reason_word word.CommandEarly = literal _ refl
reason_word word.CommandRange = literal _ refl
reason_word word.CommandRepeat = literal _ refl
reason_word word.CommandOverlap = literal _ refl
reason_word word.CommandFull = literal _ refl
reason_word word.NoData = literal _ refl
reason_word word.NoCommand = literal _ refl

-- ---- the words of pieces of lines

abbrev pub from_list : ℕ → List (List ℕ)
from_list from = (codes "from=" ++ decimal from) ∷ []

abbrev pub by_list : ℕ → ℕ → List (List ℕ)
by_list by from = (codes "by=" ++ decimal by) ∷ (codes "from=" ++ decimal from) ∷ []

-- what is after the first word of a reason
abbrev pub rest_list : Reason → List (List ℕ)
rest_list (reason.Other section from) = (codes "with=" ++ decimal section) ∷ (codes "from=" ++ decimal from) ∷ []
rest_list (reason.Late by from) = by_list by from
rest_list (reason.Early by from) = by_list by from
rest_list (reason.Refused from) = from_list from
rest_list (reason.WrongWay from) = from_list from
rest_list (reason.Repeated seq from) = (codes "seq=" ++ decimal seq) ∷ (codes "from=" ++ decimal from) ∷ []
rest_list (reason.Unfinished seq pieces from) = (codes "seq=" ++ decimal seq) ∷ (codes "pieces=" ++ decimal pieces) ∷ (codes "from=" ++ decimal from) ∷ []
rest_list (reason.CommandMismatch from) = from_list from
rest_list (reason.CommandLate by from) = by_list by from
rest_list (reason.CommandEarly by from) = by_list by from
rest_list (reason.CommandRange from) = from_list from
rest_list (reason.CommandRepeat from) = from_list from
rest_list (reason.CommandOverlap from) = from_list from
rest_list (reason.CommandFull from) = from_list from
rest_list (reason.NoData None) = []
rest_list (reason.NoData (Some from)) = from_list from
rest_list reason.NoCommand = []

from_words : (from : ℕ) → AreWords (32 ∷ (codes "from=" ++ decimal from)) (from_list from)
from_words from = named (codes "from=") from refl

by_words : (by from : ℕ) → AreWords (32 ∷ (codes "by=" ++ decimal by) ++ (32 ∷ (codes "from=" ++ decimal from))) (by_list by from)
by_words by from = named (codes "by=") by refl ⊕ from_words from

rest_words : (r : Reason) → AreWords (rest_text r) (rest_list r)
rest_words (reason.Other section from) = named (codes "with=") section refl ⊕ from_words from
rest_words (reason.Late by from) = by_words by from
rest_words (reason.Early by from) = by_words by from
rest_words (reason.Refused from) = from_words from
rest_words (reason.WrongWay from) = from_words from
rest_words (reason.Repeated seq from) = named (codes "seq=") seq refl ⊕ from_words from
rest_words (reason.Unfinished seq pieces from) = named (codes "seq=") seq refl ⊕ named (codes "pieces=") pieces refl ⊕ from_words from
rest_words (reason.CommandMismatch from) = from_words from
rest_words (reason.CommandLate by from) = by_words by from
rest_words (reason.CommandEarly by from) = by_words by from
rest_words (reason.CommandRange from) = from_words from
rest_words (reason.CommandRepeat from) = from_words from
rest_words (reason.CommandOverlap from) = from_words from
rest_words (reason.CommandFull from) = from_words from
rest_words (reason.NoData None) = no_words
rest_words (reason.NoData (Some from)) = from_words from
rest_words reason.NoCommand = no_words

pub reason_words : (r : Reason) → AreWords (32 ∷ reason_text r) (word_text (word_of r) ∷ rest_list r)
unfolding reason_text
reason_words r = one_word (word_text (word_of r)) (reason_word (word_of r)) ⊕ rest_words r

abbrev pub symbol_list : SymbolPlace → List (List ℕ)
symbol_list p = hex4_text p.id ∷ signed_decimal p.slot.frame ∷ decimal p.slot.subframe ∷ decimal p.slot.slot ∷ decimal p.symbol ∷ []

pub moment_words : (s : Slot) (symbol : ℕ) → AreWords (moment_text s symbol) (signed_decimal s.frame ∷ decimal s.subframe ∷ decimal s.slot ∷ decimal symbol ∷ [])
moment_words s symbol = signed s.frame ⊕ number s.subframe ⊕ number s.slot ⊕ number symbol

pub symbol_words : (p : SymbolPlace) → AreWords (symbol_text p) (symbol_list p)
symbol_words p = one_word (hex4_text p.id) (hex4_word p.id) ⊕ moment_words p.slot p.symbol

pub prbs_words : (prb num : ℕ) → AreWords (prbs_text prb num) ((codes "prb=" ++ decimal prb) ∷ (codes "num=" ++ decimal num) ∷ [])
prbs_words prb num = named (codes "prb=") prb refl ⊕ named (codes "num=") num refl

pub mask_words : (mask : ℕ) → AreWords (32 ∷ (codes "mask=" ++ hex3_text mask)) ((codes "mask=" ++ hex3_text mask) ∷ [])
mask_words mask = one_word (codes "mask=" ++ hex3_text mask) (mask_word mask)

-- a run of cells after its first word
abbrev pub run_list : PrbRun → ℕ → List (List ℕ)
run_list r mask =
    signed_decimal r.at.0 ∷ hex4_text r.place.id ∷ signed_decimal r.place.slot.frame ∷ decimal r.place.slot.subframe ∷ decimal r.place.slot.slot
    ∷ decimal r.place.symbol ∷ (codes "prb=" ++ decimal r.prb) ∷ (codes "num=" ++ decimal r.num) ∷ (codes "section=" ++ decimal r.section)
    ∷ (codes "mask=" ++ hex3_text mask) ∷ []

pub run_words : (r : PrbRun) → AreWords (32 ∷ run_text r) (way_text r.side ∷ signed_decimal r.at.0 ∷ hex4_text r.place.id ∷ signed_decimal r.place.slot.frame
    ∷ decimal r.place.slot.subframe ∷ decimal r.place.slot.slot ∷ decimal r.place.symbol ∷ (codes "prb=" ++ decimal r.prb) ∷ (codes "num=" ++ decimal r.num)
    ∷ (codes "section=" ++ decimal r.section) ∷ [])
unfolding run_text
run_words r =
    one_word (way_text r.side) (way_word r.side) ⊕ signed r.at.0 ⊕ symbol_words r.place ⊕ prbs_words r.prb r.num ⊕ named (codes "section=") r.section refl

pub message_words : (m : MessagePlace) → HasWords (message_text m)
unfolding message_text
message_words m =
    has (also (number m.number) (hex4_text m.id) (hex4_word m.id) ⊕ named (codes "place=") m.place refl ⊕ named (codes "seq=") m.seq.seq refl ⊕ named (codes "sub=") m.seq.sub refl
    ⊕ one_word (codes "e=" ++ bit_text m.seq.last) (bit_word m.seq.last))

abbrev pub timing_list : Timing → List (List ℕ)
timing_list t = (codes "since=" ++ signed_decimal t.since) ∷ (codes "until=" ++ signed_decimal t.until) ∷ []

pub timing_words : (t : Timing) → AreWords (timing_text t) (timing_list t)
unfolding timing_text
timing_words t =
    one_word (codes "since=" ++ signed_decimal t.since) (key_word (codes "since=") (signed_decimal t.since) refl (signed_word t.since))
    ⊕ one_word (codes "until=" ++ signed_decimal t.until) (key_word (codes "until=") (signed_decimal t.until) refl (signed_word t.until))

pub clash_words : (clash : Option Clash) → HasWords (clashing_text clash)
unfolding clash_text
clash_words None = has no_words
clash_words (Some it) = has (named (codes "with=") it.section refl ⊕ named (codes "symbol=") it.symbol refl ⊕ named (codes "prb=") it.prb refl)

pub fresh_words : (fresh : Option ℕ) → HasWords (fresh_text fresh)
fresh_words None = has no_words
fresh_words (Some k) = has (named (codes "fresh=") k refl)

-- why, and where
why_words : (name : List ℕ) (at : ℕ) → IsWord name → HasWords (why_text name at)
why_words name at is = has (one_word name is ⊕ named (codes "at=") at refl)

pub frame_answer_words : (refusal : Option PduRefusal) → HasWords (frame_answer_text refusal)
frame_answer_words None = has (lit (codes "ok") refl)
frame_answer_words (Some r) = why_words (frame_why r.why) r.place (frame_why_word r.why)

pub command_answer_words : (said : CommandAnswer) → HasWords (command_answer_text said)
command_answer_words answer.Read = has (lit (codes "ok") refl)
command_answer_words answer.Fragmented = has (lit (codes "Fragmented") refl ⊕ lit (codes "at=0") refl)
command_answer_words (answer.Refused r) = why_words (command_why r.why) r.place (command_why_word r.why)
command_answer_words answer.WrongWay = has (lit (codes "wrong_way") refl)

pub whole_answer_words : (said : WholeAnswer) → HasWords (whole_answer_text said)
whole_answer_words (whole.Refused r) = why_words (data_why r.why) r.place (data_why_word r.why)
whole_answer_words whole.WrongWay = has (lit (codes "wrong_way") refl)

pub fragment_words : (v : Verdict) → HasWords (fragment_text v)
fragment_words fragment.Stored = has (lit (codes "stored") refl)
fragment_words fragment.Whole = has (lit (codes "whole") refl)
fragment_words fragment.Repeat = has (lit (codes "repeat") refl)
fragment_words fragment.Stray = has (lit (codes "stray") refl)
fragment_words fragment.TooLong = has (lit (codes "long") refl)

pub named_symbol_words : (it : Option (Slot × ℕ)) → HasWords (named_symbol_text it)
named_symbol_words None = has no_words
named_symbol_words (Some (slot, symbol)) = has (moment_words slot symbol)

pub margin_words : (m : Margin) → HasWords (margin_text m)
unfolding margin_text
margin_words m =
    let least = has_if (m.ontime == 0) [] (timing_text m.least) (has no_words) (has (timing_words m.least)) in
    let late = has_if (m.late == 0) [] _ (has no_words) (has (named (codes "late=") m.late refl ⊕ named (codes "lateby=") m.late_by refl)) in
    let early = has_if (m.early == 0) [] _ (has no_words) (has (named (codes "early=") m.early refl ⊕ named (codes "earlyby=") m.early_by refl)) in
    has (named (codes "ontime=") m.ontime refl ⊕ least.are ⊕ late.are ⊕ early.are)
