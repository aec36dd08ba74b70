-- The picture of windows reads the lines of an explanation.
use Rattle.std.proofs.Common.{◌≡◌, ℕ, ◌+◌, ◌^◌, ◌≤◌, ◌<◌, List, [], ◌∷◌, ◌++◌, map, true, false, ◌==◌, nat_le, refl, sym, ap, ◌∙◌, arith, codes, decimal}
use Rattle.std.specs.Prelude.{Option, Some, None, Result, Ok, Err}
use Rattle.std.specs.Option.{is_some, option_to_list}
use Rattle.std.specs.List.{All}
use Rattle.std.specs.Str.{bytes_eq}
use Rattle.std.proofs.lemmas.Bool.Decides.{nat_tests}
use Rattle.std.proofs.lemmas.List.Elements.{All-head, All-tail}
use Rattle.air_source.specs.Units.{way_text}
use Rattle.air_source.specs.declared.events.Side.{Side}
use Rattle.air_source.specs.declared.events.Side.TheVariants.{Ru, Du}
use Rattle.line_words.specs.Words.{is_text}
use Rattle.window_config.specs.declared.delays.Range.{Range}
use Rattle.window_config.specs.declared.endpoints.EndpointConfig.{EndpointConfig}
use Rattle.explain_model.specs.Lines.{window_text}
use Rattle.explain_model.specs.declared.values.ExplainLine.{ExplainLine}
use Rattle.explain_model.specs.declared.values.ExplainLine.TheVariants as line
use Rattle.explain_model.specs.declared.values.WindowName.{WindowName}
use Rattle.explain_model.specs.declared.values.WindowName.TheVariants.{T1aUp, T1aCpDl, T1aCpUl, T2aUp, T2aCpDl, T2aCpUl, Ta3, Ta4}
use Rattle.pictures.specs.Numbers.{most, numeral}
use Rattle.pictures.specs.Refusals.{going_on, is_end, or_line}
use Rattle.pictures.specs.declared.faults.TextWhy.{TextWhy}
use Rattle.pictures.specs.Arrivals.{arrival_of}
use Rattle.pictures.specs.Forms.{command_in, data_in, way_in}
use Rattle.pictures.specs.ArrivalText.{command_arrival, data_flow, data_line, heard, is_down, line_of, read_from, start, unheard, used_line, words_line}
use Rattle.pictures.specs.Windows.{window_in, window_name, with_window}
use Rattle.pictures.specs.declared.arrivals.Arrival.{Arrival}
use Rattle.pictures.specs.declared.arrivals.Flow.TheVariants.{DownlinkData, UplinkData}
use Rattle.pictures.specs.declared.arrivals.Margins.{Margins}
use Rattle.pictures.specs.declared.windows.Windows.{Windows}
use Rattle.drawn_laws.specs.Drawable.{IsDrawnLine, IsDrawnWindow, has_frame, have_frames, is_to_radio, last_way, windows_of}
use Rattle.drawn_laws.proofs.Choices.{chosen, followed, no_end, not_first, passed_by, taken}
use Rattle.drawn_laws.proofs.Endpoints.{endpoint_written}
use Rattle.drawn_laws.proofs.Lines.{IsWritten, IsWrittenBy, body_of, cells_written, command_written, control_written, count_written, data_written, delay_written, end_written, fragment_written, frame_written, head_written, margin_written, measure_written, missing_sum_written, missing_written, other_written, short_written, shown_list, shown_written, silent_sum_written, silent_written, unknown_written, unused_written, whole_written, window_list, window_written}
use Rattle.drawn_laws.proofs.Numbers.{short_again}
use Rattle.drawn_laws.proofs.Sections.{Command, control_again, data_again, margins_of, window_again}
use Rattle.drawn_laws.proofs.Words.{line_printed, words_again}
use Rattle.drawn_laws.proofs.Written.{clash_words, fresh_words, run_list}
use Rattle.fh_base.proofs.Orders.{both as both_true}

-- ---- types without a name here

abbrev first_of : {A B : Type 0} → (A → B) → Type 0
first_of {A = A} f = A

abbrev Reading : Type 0
Reading = first_of line_of

abbrev Way : Type 0
Way = first_of is_down

-- the way of the frames of a unit
abbrev way_of : Option Side → Way
way_of None = None
way_of (Some Ru) = way_in ([] ∷ codes "1" ∷ codes "dl" ∷ [])
way_of (Some Du) = way_in ([] ∷ codes "1" ∷ codes "ul" ∷ [])

-- ---- a line

line_again : (r : Reading) (n : ℕ) (l : ExplainLine) (ws : List (List ℕ)) → IsWritten l ws → line_of r n (body_of l) ≡ words_line r n ws
unfolding line_of
line_again r n l ws p =
    chosen (is_text (body_of l)) _ _ _ (line_printed (body_of l) ws p.words) (ap (words_line r n) (words_again (body_of l) ws p.words))

not_window : (n : ℕ) → 10 ≤ n → nat_le n 9 ≡ false
not_window n later = grind (arith, nat_tests)

later_again : (r : Reading) (n : ℕ) (l : ExplainLine) (w : List ℕ) (rest : List (List ℕ)) (z : Result (Reading × Option Arrival) TextWhy) → IsWritten l (w ∷ rest) → 10 ≤ n → r.ended ≡ false
    → bytes_eq w (codes "end") ≡ false → used_line r (w ∷ rest) ≡ z → line_of r n (body_of l) ≡ z
later_again r n l w rest z p later running more is =
    line_again r n l (w ∷ rest) p
    ∙ passed_by (n == 1) _ _ z (not_first n (omega arith)) (passed_by (nat_le n 9) _ _ z (not_window n later)
    (passed_by r.ended _ _ z running (passed_by (is_end (w ∷ rest)) _ _ z (no_end w rest more) is)))

-- what a line makes of what was read, where the last frame before it has this way
record Goes (last : Option Side) (r : Reading) (n : ℕ) (l : ExplainLine) : Type 0 where
  next : Reading
  came : Option Arrival
  is : line_of r n (body_of l) ≡ Ok (next, came)
  running : next.ended ≡ false
  way : next.way ≡ way_of (last_way last l)

passes : (last : Option Side) (r : Reading) (n : ℕ) (l : ExplainLine) → r.ended ≡ false → r.way ≡ way_of (last_way last l) → line_of r n (body_of l) ≡ Ok (r, None) → Goes last r n l
passes last r n l running way is = record { next = r; came = None; is = is; running = running; way = way }

pass_by : (last : Option Side) (r : Reading) (n : ℕ) (l : ExplainLine) (w : List ℕ) → (p : IsWrittenBy l w) → 10 ≤ n → r.ended ≡ false → r.way ≡ way_of (last_way last l) → bytes_eq w (codes "end") ≡ false
    → used_line r (w ∷ p.rest) ≡ Ok (r, None) → Goes last r n l
pass_by last r n l w p later running way more is = passes last r n l running way (later_again r n l w p.rest (Ok (r, None)) p.is later running more is)

-- ---- frames and sections

frame_way : (n : ℕ) (side : Side) (rest : List (List ℕ)) → n < 10 ^ 16 → way_in (codes "frame" ∷ decimal n ∷ way_text side ∷ rest) ≡ way_of (Some side)
frame_way n Ru rest short = taken (numeral 0 most (decimal n)) n _ _ (short_again n short) refl
frame_way n Du rest short = taken (numeral 0 most (decimal n)) n _ _ (short_again n short) refl

with_way : (r : Reading) (side : Side) → or_line (way_of (Some side)) (λ way. Ok (record r { way = Some way })) ≡ Ok (record r { way = way_of (Some side) })
with_way r Ru = refl
with_way r Du = refl

frame_goes : (last : Option Side) (r : Reading) (n : ℕ) (number : ℕ) (side : Side) (l : ExplainLine) (rest : List (List ℕ)) → IsWritten l (codes "frame" ∷ decimal number ∷ way_text side ∷ rest)
    → number < 10 ^ 16 → 10 ≤ n → r.ended ≡ false → last_way last l ≡ Some side → Goes last r n l
frame_goes last r n number side l rest p short later running is = record {
  next = record r { way = way_of (Some side) };
  came = None;
  is = later_again r n l (codes "frame") (decimal number ∷ way_text side ∷ rest) (Ok (record r { way = way_of (Some side) }, None)) p later running refl
      (ap unheard (ap (λ (w : Way). or_line w (λ way. Ok (record r { way = Some way }))) (frame_way number side rest short) ∙ with_way r side));
  running = running;
  way = ap way_of (sym is);
}

down_way : (last : Option Side) → is_to_radio last ≡ true → is_down (way_of last) ≡ true
down_way None e = absurd (cc e)
down_way (Some Ru) e = refl
down_way (Some Du) e = absurd (cc e)

control_goes : (last : Option Side) (r : Reading) (n : ℕ) (l : ExplainLine) (rest : List (List ℕ)) → IsWritten l (codes "c" ∷ rest) → 10 ≤ n → r.ended ≡ false → r.way ≡ way_of last
    → is_to_radio last ≡ true → last_way last l ≡ last → (it : Command) → command_in (codes "c" ∷ rest) ≡ Some it → Goes last r n l
control_goes last r n l rest p later running way to same it is = record {
  next = r;
  came = command_arrival r it;
  is = later_again r n l (codes "c") rest (Ok (r, command_arrival r it)) p later running refl
      (ap (heard r) (chosen (is_down r.way) _ _ _ (ap is_down way ∙ down_way last to) (followed (command_in (codes "c" ∷ rest)) it _ _ is refl)));
  running = running;
  way = way ∙ ap way_of (sym same);
}

-- a section of data, whose margins are these
data_heard : (last : Option Side) (r : Reading) (ws : List (List ℕ)) (m : Margins) → r.way ≡ way_of last → is_some last ≡ true → data_in ws ≡ Some m → (a : Option Arrival) × (data_line r ws ≡ Ok a)
data_heard None r ws m way e is = absurd (cc e)
data_heard (Some Ru) r ws m way e is =
    (Some (arrival_of r.windows DownlinkData m), ap (λ (w : Way). or_line w (λ it. or_line (data_in ws) (λ n. Ok (Some (arrival_of r.windows (data_flow it) n))))) way ∙ followed (data_in ws) m _ _ is refl)
data_heard (Some Du) r ws m way e is =
    (Some (arrival_of r.windows UplinkData m), ap (λ (w : Way). or_line w (λ it. or_line (data_in ws) (λ n. Ok (Some (arrival_of r.windows (data_flow it) n))))) way ∙ followed (data_in ws) m _ _ is refl)

data_goes : (last : Option Side) (r : Reading) (n : ℕ) (l : ExplainLine) (rest : List (List ℕ)) (m : Margins) → IsWritten l (codes "u" ∷ rest) → 10 ≤ n → r.ended ≡ false → r.way ≡ way_of last
    → is_some last ≡ true → last_way last l ≡ last → data_in (codes "u" ∷ rest) ≡ Some m → Goes last r n l
data_goes last r n l rest m p later running way there same is =
    let it = data_heard last r (codes "u" ∷ rest) m way there is in
    record {
      next = r;
      came = it.0;
      is = later_again r n l (codes "u") rest (Ok (r, it.0)) p later running refl (ap (heard r) it.1);
      running = running;
      way = way ∙ ap way_of (sym same);
    }

-- ---- lines

way_passed : (r : Reading) (side : Side) (rest : List (List ℕ)) → used_line r (way_text side ∷ rest) ≡ Ok (r, None)
way_passed r Ru rest = refl
way_passed r Du rest = refl

pub way_no_end : (side : Side) → bytes_eq (way_text side) (codes "end") ≡ false
way_no_end Ru = refl
way_no_end Du = refl

goes : (es : List EndpointConfig) (last : Option Side) (r : Reading) (n : ℕ) (l : ExplainLine) → IsDrawnLine es l → has_frame last l ≡ true → 10 ≤ n → r.ended ≡ false → r.way ≡ way_of last → Goes last r n l
goes es last r n (line.Head faults) is framed later running way = absurd is
goes es last r n (line.Window name range) is framed later running way = absurd is
goes es last r n (line.Endpoint e) is framed later running way = absurd is
goes es last r n (line.Frame number side at bytes refusal) is framed later running way =
    frame_goes last r n number side (line.Frame number side at bytes refusal) _ (frame_written number side at bytes refusal) is later running refl
goes es last r n (line.Measure number place size) is framed later running way = pass_by last r n (line.Measure number place size) (codes "measure") (measure_written number place size) later running way refl refl
goes es last r n (line.Other number place kind size) is framed later running way = pass_by last r n (line.Other number place kind size) (codes "other") (other_written number place kind size) later running way refl refl
goes es last r n (line.Short number place kind size) is framed later running way = pass_by last r n (line.Short number place kind size) (codes "short") (short_written number place kind size) later running way refl refl
goes es last r n (line.Unknown message kind) is framed later running way = pass_by last r n (line.Unknown message kind) (codes "unknown") (unknown_written message kind) later running way refl refl
goes es last r n (line.Command message said) is framed later running way = pass_by last r n (line.Command message said) (codes "command") (command_written message said) later running way refl refl
goes es last r n (line.Control c) is framed later running way =
    let it = control_again c (clash_words c.clash).words is in
    control_goes last r n (line.Control c) _ (control_written c) later running way framed refl it.0 it.1
goes es last r n (line.Fragment message bytes verdict) is framed later running way = pass_by last r n (line.Fragment message bytes verdict) (codes "data") (fragment_written message bytes verdict) later running way refl refl
goes es last r n (line.Whole w) is framed later running way = pass_by last r n (line.Whole w) (codes "whole") (whole_written w) later running way refl refl
goes es last r n (line.Data d) is framed later running way =
    data_goes last r n (line.Data d) _ (margins_of d.timing) (data_written d) later running way framed refl (data_again d (fresh_words d.fresh).words is)
goes es last r n (line.Cells run mask said) is framed later running way =
    passes last r n (line.Cells run mask said) running way
    (later_again r n (line.Cells run mask said) (way_text run.side) _ (Ok (r, None)) (cells_written run mask said) later running (way_no_end run.side) (way_passed r run.side (run_list run mask ++ shown_list said)))
goes es last r n (line.Delay at side id value) is framed later running way = pass_by last r n (line.Delay at side id value) (codes "delay") (delay_written at side id value) later running way refl refl
goes es last r n (line.WhyMissing run mask reason) is framed later running way =
    passes last r n (line.WhyMissing run mask reason) running way
    (later_again r n (line.WhyMissing run mask reason) (codes "why") _ (Ok (r, None)) (missing_written run mask reason) later running refl refl)
goes es last r n (line.WhySilent run mask number reason) is framed later running way =
    passes last r n (line.WhySilent run mask number reason) running way
    (later_again r n (line.WhySilent run mask number reason) (codes "why") _ (Ok (r, None)) (silent_written run mask number reason) later running refl refl)
goes es last r n (line.Unused run from) is framed later running way = pass_by last r n (line.Unused run from) (codes "unused") (unused_written run from) later running way refl refl
goes es last r n (line.Margin side of id margin) is framed later running way = pass_by last r n (line.Margin side of id margin) (codes "margin") (margin_written side of id margin) later running way refl refl
goes es last r n (line.ShownCells side id cells) is framed later running way = pass_by last r n (line.ShownCells side id cells) (codes "reason") (shown_written side id cells) later running way refl refl
goes es last r n (line.MissingCells side id word cells) is framed later running way = pass_by last r n (line.MissingCells side id word cells) (codes "reason") (missing_sum_written side id word cells) later running way refl refl
goes es last r n (line.SilentPrbs side id word prbs) is framed later running way = pass_by last r n (line.SilentPrbs side id word prbs) (codes "reason") (silent_sum_written side id word prbs) later running way refl refl
goes es last r n (line.Count side counter value) is framed later running way = pass_by last r n (line.Count side counter value) (codes "count") (count_written side counter value) later running way refl refl
goes es last r n line.End is framed later running way = absurd is

-- ---- lists of lines

read_on : (r next : Reading) (n : ℕ) (came : List Arrival) (a : Option Arrival) (body : List ℕ) (rest : List (List ℕ)) → line_of r n body ≡ Ok (next, a)
    → read_from n r came (body ∷ rest) ≡ read_from (n + 1) next (came ++ option_to_list a) rest
read_on r next n came a body rest is =
    ap (λ (x : Result (Reading × Option Arrival) TextWhy). going_on x (λ (m : Reading × Option Arrival). read_from (n + 1) m.0 (came ++ option_to_list m.1) rest) (λ (w : TextWhy). Err (n, w))) is

-- what some lines make of what was read
record Ends (r : Reading) (n : ℕ) (came : List Arrival) (bodies tail : List (List ℕ)) : Type 0 where
  last : Reading
  number : ℕ
  all : List Arrival
  later : 10 ≤ number
  is : read_from n r came (bodies ++ tail) ≡ read_from number last all tail
  running : last.ended ≡ false

others_end : (es : List EndpointConfig) (before : Option Side) (ls : List ExplainLine) → All (IsDrawnLine es) ls → have_frames before ls ≡ true → (r : Reading) (n : ℕ) (came : List Arrival)
    (tail : List (List ℕ)) → 10 ≤ n → r.ended ≡ false → r.way ≡ way_of before → Ends r n came (map body_of ls) tail
others_end es before [] p framed r n came tail later running way = record { last = r; number = n; all = came; later = later; is = refl; running = running }
others_end es before (l ∷ ls) p framed r n came tail later running way =
    let frames = both_true (has_frame before l) (have_frames (last_way before l) ls) framed in
    let one = goes es before r n l (All-head (IsDrawnLine es) l ls p) frames.0 later running way in
    let more = others_end es (last_way before l) ls (All-tail (IsDrawnLine es) l ls p) frames.1 one.next (n + 1) (came ++ option_to_list one.came) tail (omega arith) one.running one.way in
    record {
      last = more.last;
      number = more.number;
      all = more.all;
      later = more.later;
      is = read_on r one.next n came one.came (body_of l) (map body_of ls ++ tail) one.is ∙ more.is;
      running = more.running;
    }

-- lines of endpoints are passed over
record Waits (r : Reading) (n : ℕ) (came : List Arrival) (bodies tail : List (List ℕ)) : Type 0 where
  number : ℕ
  all : List Arrival
  later : 10 ≤ number
  is : read_from n r came (bodies ++ tail) ≡ read_from number r all tail

endpoints_wait : (es : List EndpointConfig) (r : Reading) (n : ℕ) (came : List Arrival) (tail : List (List ℕ)) → 10 ≤ n → r.ended ≡ false → Waits r n came (map body_of (map line.Endpoint es)) tail
endpoints_wait [] r n came tail later running = record { number = n; all = came; later = later; is = refl }
endpoints_wait (e ∷ es) r n came tail later running =
    let more = endpoints_wait es r (n + 1) (came ++ []) tail (omega arith) running in
    record {
      number = more.number;
      all = more.all;
      later = more.later;
      is = read_on r r n came None (body_of (line.Endpoint e)) (map body_of (map line.Endpoint es) ++ tail)
          (later_again r n (line.Endpoint e) (codes "endpoint") _ (Ok (r, None)) (endpoint_written e) later running refl refl) ∙ more.is;
    }

-- ---- windows

record Widens (r : Reading) (n : ℕ) (body : List ℕ) (rest : List (List ℕ)) : Type 0 where
  next : Reading
  is : read_from n r [] (body ∷ rest) ≡ read_from (n + 1) next [] rest
  running : next.ended ≡ r.ended
  way : next.way ≡ r.way

widens : (r : Reading) (n : ℕ) (name : WindowName) (range : Range) (rest : List (List ℕ)) → (n == 1) ≡ false → nat_le n 9 ≡ true → bytes_eq (window_text name) (window_name n) ≡ true
    → IsDrawnWindow range → Widens r n (body_of (line.Window name range)) rest
widens r n name range rest later early same within =
    let it = window_again n name range same within in
    let next : Reading = record r { windows = with_window n it.0 r.windows } in
    record {
      next = next;
      is = read_on r next n [] None (body_of (line.Window name range)) rest
          (line_again r n (line.Window name range) (window_list name range) (window_written name range)
          ∙ passed_by (n == 1) _ _ (Ok (next, None)) later
          (chosen (nat_le n 9) _ _ (Ok (next, None)) early (ap unheard (followed (window_in n (window_list name range)) it.0 (λ w. Ok (record r { windows = with_window n w r.windows })) (Ok next) it.1 refl))));
      running = refl;
      way = refl;
    }

record Opens (bodies tail : List (List ℕ)) : Type 0 where
  next : Reading
  is : read_from 2 start [] (bodies ++ tail) ≡ read_from 10 next [] tail
  running : next.ended ≡ false
  way : next.way ≡ None

windows_open : (range : WindowName → Range) → ((name : WindowName) → IsDrawnWindow (range name)) → (tail : List (List ℕ)) → Opens (map body_of (windows_of range)) tail
windows_open range within tail =
    let body : WindowName → List ℕ = λ name. body_of (line.Window name (range name)) in
    let by_ta4 = body Ta4 ∷ tail in
    let by_ta3 = body Ta3 ∷ by_ta4 in
    let by_t2a_cp_ul = body T2aCpUl ∷ by_ta3 in
    let by_t2a_cp_dl = body T2aCpDl ∷ by_t2a_cp_ul in
    let by_t2a_up = body T2aUp ∷ by_t2a_cp_dl in
    let by_t1a_cp_ul = body T1aCpUl ∷ by_t2a_up in
    let by_t1a_cp_dl = body T1aCpDl ∷ by_t1a_cp_ul in
    let one = widens start 2 T1aUp (range T1aUp) by_t1a_cp_dl refl refl refl (within T1aUp) in
    let two = widens one.next 3 T1aCpDl (range T1aCpDl) by_t1a_cp_ul refl refl refl (within T1aCpDl) in
    let three = widens two.next 4 T1aCpUl (range T1aCpUl) by_t2a_up refl refl refl (within T1aCpUl) in
    let four = widens three.next 5 T2aUp (range T2aUp) by_t2a_cp_dl refl refl refl (within T2aUp) in
    let five = widens four.next 6 T2aCpDl (range T2aCpDl) by_t2a_cp_ul refl refl refl (within T2aCpDl) in
    let six = widens five.next 7 T2aCpUl (range T2aCpUl) by_ta3 refl refl refl (within T2aCpUl) in
    let seven = widens six.next 8 Ta3 (range Ta3) by_ta4 refl refl refl (within Ta3) in
    let eight = widens seven.next 9 Ta4 (range Ta4) tail refl refl refl (within Ta4) in
    record {
      next = eight.next;
      is = one.is ∙ two.is ∙ three.is ∙ four.is ∙ five.is ∙ six.is ∙ seven.is ∙ eight.is;
      running = eight.running ∙ seven.running ∙ six.running ∙ five.running ∙ four.running ∙ three.running ∙ two.running ∙ one.running;
      way = eight.way ∙ seven.way ∙ six.way ∙ five.way ∙ four.way ∙ three.way ∙ two.way ∙ one.way;
    }

-- ---- the whole text

end_read : (r : Reading) (n : ℕ) (came : List Arrival) → 10 ≤ n → r.ended ≡ false → read_from n r came (body_of line.End ∷ []) ≡ Ok (r.windows, came ++ [])
end_read r n came later running =
    read_on r (record r { ended = true }) n came None (body_of line.End) []
    (line_again r n line.End (codes "end" ∷ []) end_written
    ∙ passed_by (n == 1) _ _ _ (not_first n (omega arith)) (passed_by (nat_le n 9) _ _ _ (not_window n later) (passed_by r.ended _ _ _ running refl)))

pub windows_read : (range : WindowName → Range) (es : List EndpointConfig) (others : List ExplainLine) → ((name : WindowName) → IsDrawnWindow (range name)) → All (IsDrawnLine es) others
    → have_frames None others ≡ true
    → (came : Windows × List Arrival) × (read_from 1 start [] (body_of (line.Head false) ∷ (map body_of (windows_of range) ++ (map body_of (map line.Endpoint es) ++ (map body_of others ++ body_of line.End ∷ [])))) ≡ Ok came)
windows_read range es others within each framed =
    let tail = map body_of others ++ body_of line.End ∷ [] in
    let opened = windows_open range within (map body_of (map line.Endpoint es) ++ tail) in
    let waited = endpoints_wait es opened.next 10 [] tail (omega arith) opened.running in
    let ended = others_end es None others each framed opened.next waited.number waited.all (body_of line.End ∷ []) waited.later opened.running opened.way in (
      (ended.last.windows, ended.all ++ []),
      read_on start start 1 [] None (body_of (line.Head false)) (map body_of (windows_of range) ++ (map body_of (map line.Endpoint es) ++ tail))
          (line_again start 1 (line.Head false) (codes "explain" ∷ codes "1" ∷ []) head_written)
          ∙ opened.is
          ∙ waited.is
          ∙ ended.is
          ∙ end_read ended.last ended.number ended.all ended.later ended.running,
    )
