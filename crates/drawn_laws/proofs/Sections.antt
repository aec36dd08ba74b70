-- Lines of windows, of frames and of sections, read again.
use Rattle.std.proofs.Common.{◌≡◌, ℕ, ◌+◌, ◌^◌, ◌<◌, ◌≤◌, List, [], ◌∷◌, ◌++◌, Bool, true, false, ◌&&◌, ℤ, pos, negsuc, ◌≤ℤ◌, refl, ap, ◌∙◌, arith, codes, decimal}
use Rattle.std.specs.Prelude.{Some, if◌then◌else◌}
use Rattle.std.specs.Fmt.{signed_decimal}
use Rattle.std.specs.Option.{is_some}
use Rattle.std.specs.Str.{bytes_eq}
use Rattle.std.proofs.lemmas.Int.{ints}
use Rattle.fh_base.specs.Numbers.{word_at}
use Rattle.fh_base.specs.Words.{hex3_text, hex4_text}
use Rattle.explain_model.specs.Lines.{window_text}
use Rattle.explain_model.specs.declared.places.SymbolPlace.{SymbolPlace}
use Rattle.explain_model.specs.declared.places.Timing.{Timing}
use Rattle.explain_model.specs.declared.values.ControlLine.{ControlLine}
use Rattle.explain_model.specs.declared.values.DataLine.{DataLine}
use Rattle.explain_model.specs.declared.values.WindowName.{WindowName}
use Rattle.unit_model.specs.declared.verdicts.CommandVerdict.{CommandVerdict}
use Rattle.unit_model.specs.declared.verdicts.CommandVerdict.TheVariants as command
use Rattle.unit_model.specs.declared.verdicts.DataVerdict.{DataVerdict}
use Rattle.unit_model.specs.declared.verdicts.DataVerdict.TheVariants as given
use Rattle.window_config.specs.declared.delays.Range.{Range}
use Rattle.pictures.specs.Numbers.{integer, numeral}
use Rattle.pictures.specs.Forms.{command_in, data_in, has_command_numbers, has_section, is_data_verdict, is_uplink, is_verdict, margin_in, margins_at, verdict_place}
use Rattle.pictures.specs.ArrivalText.{command_arrival}
use Rattle.pictures.specs.Windows.{window_in, window_name}
use Rattle.pictures.specs.declared.arrivals.Margins.{Margins}
use Rattle.pictures.specs.declared.windows.Window.{Window}
use Rattle.drawn_laws.specs.Drawable.{IsDrawnControl, IsDrawnData, IsDrawnSymbol, IsDrawnTiming, IsDrawnWindow}
use Rattle.drawn_laws.proofs.Choices.{and_true, chosen, passed_by, taken}
use Rattle.drawn_laws.proofs.Lines.{command_name, control_list, data_list, data_name, window_list, word_list}
use Rattle.drawn_laws.proofs.Numbers.{digit_again, hex4_id, integer_again, mask_again, numeral_again, short_again}
use Rattle.drawn_laws.proofs.Written.{timing_list}

-- ---- windows

record AreNatural (x y : ℤ) : Type 0 where
  least : ℕ
  greatest : ℕ
  least_is : x ≡ pos least
  greatest_is : y ≡ pos greatest
  order : least ≤ greatest
  most : greatest ≤ 4000000

naturals : (x y : ℤ) → pos 0 ≤ℤ x → x ≤ℤ y → y ≤ℤ pos 4000000 → AreNatural x y
naturals (pos a) (pos b) p q r = record { least = a; greatest = b; least_is = refl; greatest_is = refl; order = omega (arith, ints, q); most = omega (arith, ints, r) }
naturals (pos a) (negsuc b) p q r = absurd (omega (arith, ints, q))
naturals (negsuc a) y p q r = absurd (omega (arith, ints, p))

signed_numeral : (low high n : ℕ) (z : ℤ) → z ≡ pos n → n < 10 ^ 16 → low ≤ n → n ≤ high → numeral low high (signed_decimal z) ≡ Some n
signed_numeral low high n z is short least greatest = ap (λ (x : ℤ). numeral low high (signed_decimal x)) is ∙ numeral_again low high n short least greatest

pub window_again : (n : ℕ) (name : WindowName) (range : Range) → bytes_eq (window_text name) (window_name n) ≡ true → IsDrawnWindow range
    → (w : Window) × (window_in n (window_list name range) ≡ Some w)
window_again n name range is within =
    let two = naturals range.min range.max within.low within.order within.high in
    let least : two.least ≤ two.greatest = two.order in
    let high : two.greatest ≤ 4000000 = two.most in (
      record { min = two.least; max = two.greatest },
      chosen (bytes_eq (window_text name) (window_name n)) _ _ _ is
          (taken (numeral 0 4000000 (signed_decimal range.max)) two.greatest _ _ (signed_numeral 0 4000000 two.greatest range.max two.greatest_is (omega (arith, high)) (omega arith) high)
          (taken (numeral 0 two.greatest (signed_decimal range.min)) two.least _ _ (signed_numeral 0 two.greatest two.least range.min two.least_is (omega (arith, least, high)) (omega arith) least) refl)),
    )

-- ---- what both kinds of section have

section_again : (w : List ℕ) (n id : ℕ) (p : SymbolPlace) (section prb num : ℕ) (rest : List (List ℕ)) → n < 10 ^ 16 → IsDrawnSymbol p → section < 10 ^ 16 → prb < 10 ^ 16 → num < 10 ^ 16
    → has_section (w ∷ decimal n ∷ hex4_text id ∷ signed_decimal p.slot.frame ∷ decimal p.slot.subframe ∷ decimal p.slot.slot ∷ decimal p.symbol ∷ (codes "section=" ++ decimal section)
    ∷ (codes "prb=" ++ decimal prb) ∷ (codes "num=" ++ decimal num) ∷ rest) ≡ true
section_again w n id p section prb num rest short is a b c =
    and_true (and_true (and_true (and_true (and_true (and_true (and_true (and_true
    (ap is_some (short_again n short)) (hex4_id id)) (ap is_some (integer_again p.slot.frame is.frame))) (ap is_some (digit_again p.slot.subframe is.subframe)))
    (ap is_some (short_again p.slot.slot is.slot))) (ap is_some (short_again p.symbol is.symbol))) (ap is_some (short_again section a)))
    (ap is_some (short_again prb b))) (ap is_some (short_again num c))

abbrev pub margins_of : Timing → Margins
margins_of t = record { since = t.since; until = t.until }

-- the margins that two words say
margins_again : (ws : List (List ℕ)) (at : ℕ) (t : Timing) → IsDrawnTiming t → margin_in (codes "since=") (word_at ws at) ≡ integer (signed_decimal t.since)
    → margin_in (codes "until=") (word_at ws (at + 1)) ≡ integer (signed_decimal t.until) → margins_at ws at ≡ Some (margins_of t)
margins_again ws at t is since until =
    taken (margin_in (codes "since=") (word_at ws at)) t.since _ _ (since ∙ integer_again t.since is.since)
    (taken (margin_in (codes "until=") (word_at ws (at + 1))) t.until _ _ (until ∙ integer_again t.until is.until) refl)

-- ---- sections of data

data_verdict : (v : DataVerdict) → is_data_verdict (data_name v) ≡ true
data_verdict given.Late = refl
data_verdict given.Early = refl
data_verdict given.Repeat = refl
data_verdict given.Taken = refl

pub data_again : (d : DataLine) (rest : List (List ℕ)) → IsDrawnData d → data_in (data_list d rest) ≡ Some (margins_of d.timing)
data_again d rest is =
    let ws = data_list d rest in
    chosen (has_section ws && is_data_verdict (word_at ws 10)) _ _ _
    (and_true (section_again (codes "u") d.number d.place.id d.place d.section d.prb d.num
    (data_name d.verdict ∷ (codes "since=" ++ signed_decimal d.timing.since) ∷ (codes "until=" ++ signed_decimal d.timing.until) ∷ rest) is.number is.place is.section is.prb is.num)
    (data_verdict d.verdict))
    (margins_again ws 11 d.timing is.timing refl refl)

-- ---- sections of commands

-- a section of a command, whose type has no name here
abbrev second_of : {A B C : Type 0} → (A → B → C) → Type 0
second_of {B = B} f = B

abbrev pub Command : Type 0
Command = second_of command_arrival

no_uplink : (v : CommandVerdict) → bytes_eq (command_name v) (codes "uplink") ≡ false
no_uplink command.Mismatch = refl
no_uplink command.Late = refl
no_uplink command.Early = refl
no_uplink command.Range = refl
no_uplink command.Repeat = refl
no_uplink command.Overlap = refl
no_uplink command.Full = refl
no_uplink command.Accepted = refl

no_idle : (v : CommandVerdict) → bytes_eq (command_name v) (codes "idle") ≡ false
no_idle command.Mismatch = refl
no_idle command.Late = refl
no_idle command.Early = refl
no_idle command.Range = refl
no_idle command.Repeat = refl
no_idle command.Overlap = refl
no_idle command.Full = refl
no_idle command.Accepted = refl

command_verdict : (v : CommandVerdict) → is_verdict (command_name v) ≡ true
command_verdict command.Mismatch = refl
command_verdict command.Late = refl
command_verdict command.Early = refl
command_verdict command.Range = refl
command_verdict command.Repeat = refl
command_verdict command.Overlap = refl
command_verdict command.Full = refl
command_verdict command.Accepted = refl

numbers_again : (c : ControlLine) (behind : List (List ℕ)) → IsDrawnControl c → has_command_numbers (control_list c behind) ≡ true
numbers_again c behind is =
    and_true (and_true (section_again (codes "c") c.number c.place.id c.place c.section c.prb c.num
    ((codes "symbols=" ++ decimal c.symbols) ∷ (codes "mask=" ++ hex3_text c.mask) ∷ behind) is.number is.place is.section is.prb is.num)
    (ap is_some (short_again c.symbols is.symbols))) (mask_again c.mask)

command_read : (ws : List (List ℕ)) (at : ℕ) (t : Timing) → has_command_numbers ws ≡ true → verdict_place ws ≡ at → is_verdict (word_at ws at) ≡ true → margins_at ws (at + 1) ≡ Some (margins_of t)
    → (it : Command) × (command_in ws ≡ Some it)
command_read ws at t numbers place verdict margins = (
  record { uplink = is_uplink ws; mismatch = bytes_eq (word_at ws (verdict_place ws)) (codes "mismatch"); margins = margins_of t },
  chosen (has_command_numbers ws && is_verdict (word_at ws (verdict_place ws))) _ _ _ (and_true numbers (ap (λ (n : ℕ). is_verdict (word_at ws n)) place ∙ verdict))
      (taken (margins_at ws (verdict_place ws + 1)) (margins_of t) _ _ (ap (λ (n : ℕ). margins_at ws (n + 1)) place ∙ margins) refl),
)

-- what is after the mask
abbrev behind_mask : Bool → Bool → CommandVerdict → Timing → List (List ℕ) → List (List ℕ)
behind_mask uplink idle v t rest = word_list uplink (codes "uplink") ++ word_list idle (codes "idle") ++ command_name v ∷ [] ++ timing_list t ++ rest

control_by : (c : ControlLine) (uplink idle : Bool) (v : CommandVerdict) (t : Timing) (rest : List (List ℕ)) → IsDrawnControl c → IsDrawnTiming t
    → (it : Command) × (command_in (control_list c (behind_mask uplink idle v t rest)) ≡ Some it)
control_by c true true v t rest is near =
    let ws = control_list c (behind_mask true true v t rest) in
    command_read ws 14 t (numbers_again c (behind_mask true true v t rest) is) refl (command_verdict v) (margins_again ws 15 t near refl refl)
control_by c true false v t rest is near =
    let ws = control_list c (behind_mask true false v t rest) in
    command_read ws 13 t (numbers_again c (behind_mask true false v t rest) is) (passed_by (bytes_eq (command_name v) (codes "idle")) 14 13 13 (no_idle v) refl) (command_verdict v)
    (margins_again ws 14 t near refl refl)
control_by c false true v t rest is near =
    let ws = control_list c (behind_mask false true v t rest) in
    command_read ws 13 t (numbers_again c (behind_mask false true v t rest) is) refl (command_verdict v) (margins_again ws 14 t near refl refl)
control_by c false false v t rest is near =
    let ws = control_list c (behind_mask false false v t rest) in
    command_read ws 12 t (numbers_again c (behind_mask false false v t rest) is)
    (ap (λ (b : Bool). if bytes_eq (word_at ws (if b then 13 else 12)) (codes "idle") then (if b then 13 else 12) + 1 else (if b then 13 else 12)) (no_uplink v)
    ∙ passed_by (bytes_eq (command_name v) (codes "idle")) 13 12 12 (no_idle v) refl)
    (command_verdict v) (margins_again ws 13 t near refl refl)

pub control_again : (c : ControlLine) (rest : List (List ℕ)) → IsDrawnControl c
    → (it : Command) × (command_in (control_list c (word_list c.uplink (codes "uplink") ++ word_list c.idle (codes "idle") ++ command_name c.verdict ∷ [] ++ timing_list c.timing ++ rest)) ≡ Some it)
control_again c rest is = control_by c c.uplink c.idle c.verdict c.timing rest is is.timing
