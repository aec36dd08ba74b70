-- The picture of a resource grid reads the lines of an explanation.
use Rattle.std.proofs.Common.{◌≡◌, ℕ, ◌+◌, ◌≤◌, ◌<◌, List, [], ◌∷◌, ◌++◌, length, map, true, false, ◌||◌, ◌==◌, nat_le, refl, sym, ap, ◌∙◌, subst, arith, append_assoc, append-nil, codes, length-append}
use Rattle.std.specs.Prelude.{Some, Result, Ok, Err}
use Rattle.std.specs.List.{All}
use Rattle.std.specs.Str.{bytes_eq}
use Rattle.std.proofs.lemmas.Bool.Decides.{nat_tests}
use Rattle.std.proofs.lemmas.List.{length-map, map-append}
use Rattle.std.proofs.lemmas.List.Elements.{All-append, All-cons, All-head, All-nil, All-tail}
use Rattle.air_source.specs.Units.{way_text}
use Rattle.air_source.specs.declared.events.Side.{Side}
use Rattle.air_source.specs.declared.events.Side.TheVariants.{Ru, Du}
use Rattle.line_words.specs.Words.{is_text}
use Rattle.fh_base.specs.Words.{hex4_text}
use Rattle.window_config.specs.declared.delays.Range.{Range}
use Rattle.window_config.specs.declared.endpoints.EndpointConfig.{EndpointConfig}
use Rattle.explain_model.specs.declared.values.ExplainLine.{ExplainLine}
use Rattle.explain_model.specs.declared.values.ExplainLine.TheVariants as line
use Rattle.explain_model.specs.declared.values.WindowName.{WindowName}
use Rattle.explain_model.specs.declared.values.WindowName.TheVariants.{T1aUp, T1aCpDl, T1aCpUl, T2aUp, T2aCpDl, T2aCpUl, Ta3, Ta4}
use Rattle.pictures.specs.Refusals.{going_on, is_end}
use Rattle.pictures.specs.declared.faults.TextWhy.{TextWhy}
use Rattle.pictures.specs.Cells.{cell_of}
use Rattle.pictures.specs.Endpoints.{endpoint_in}
use Rattle.pictures.specs.Text.{cell_line, has_id, line_of, read_from, used_line, words_line}
use Rattle.pictures.specs.declared.cells.Cell.{Cell}
use Rattle.pictures.specs.declared.endpoints.Endpoint.{Endpoint}
use Rattle.drawn_laws.specs.Drawable.{AreDrawnEndpoints, IsDrawnEndpoint, IsDrawnLine, windows_of}
use Rattle.drawn_laws.proofs.Cells.{cells_again, why_missing_again, why_silent_again}
use Rattle.drawn_laws.proofs.Choices.{chosen, followed, no_end, not_first, or_false, passed_by}
use Rattle.drawn_laws.proofs.Endpoints.{endpoint_again, endpoint_list, endpoint_written, no_id, read_endpoint}
use Rattle.drawn_laws.proofs.Lines.{IsWritten, IsWrittenBy, body_of, cells_written, command_written, control_written, count_written, data_written, delay_written, end_written, fragment_written, frame_written, head_written, margin_written, measure_written, missing_sum_written, missing_written, other_written, short_written, shown_written, silent_sum_written, silent_written, unknown_written, unused_written, whole_written, window_written}
use Rattle.drawn_laws.proofs.Words.{line_printed, words_again}
use Rattle.drawn_laws.proofs.Arrivals.{way_no_end}

-- what was read, whose type has no name here
abbrev first_of : {A B : Type 0} → (A → B) → Type 0
first_of {A = A} f = A

abbrev Reading : Type 0
Reading = first_of line_of

-- ---- a line

line_again : (r : Reading) (n : ℕ) (l : ExplainLine) (ws : List (List ℕ)) → IsWritten l ws → line_of r n (body_of l) ≡ words_line r n ws
unfolding line_of
line_again r n l ws p =
    chosen (is_text (body_of l)) _ _ _ (line_printed (body_of l) ws p.words) (ap (words_line r n) (words_again (body_of l) ws p.words))

-- a line after the first one and before the end
later_again : (r : Reading) (n : ℕ) (l : ExplainLine) (w : List ℕ) (rest : List (List ℕ)) (z : Result Reading TextWhy) → IsWritten l (w ∷ rest) → 2 ≤ n → r.ended ≡ false
    → bytes_eq w (codes "end") ≡ false → used_line r (w ∷ rest) ≡ z → line_of r n (body_of l) ≡ z
later_again r n l w rest z p later running more is =
    line_again r n l (w ∷ rest) p ∙ passed_by (n == 1) _ _ z (not_first n later) (passed_by r.ended _ _ z running (passed_by (is_end (w ∷ rest)) _ _ z (no_end w rest more) is))

-- what a line makes of what was read: endpoints stay
record Goes (r : Reading) (n : ℕ) (l : ExplainLine) : Type 0 where
  next : Reading
  is : line_of r n (body_of l) ≡ Ok next
  running : next.ended ≡ false
  same : next.endpoints ≡ r.endpoints

pass : (r : Reading) (n : ℕ) (l : ExplainLine) (w : List ℕ) (rest : List (List ℕ)) → IsWritten l (w ∷ rest) → 2 ≤ n → r.ended ≡ false → bytes_eq w (codes "end") ≡ false
    → used_line r (w ∷ rest) ≡ Ok r → line_of r n (body_of l) ≡ Ok r
pass r n l w rest p later running more is = later_again r n l w rest (Ok r) p later running more is

passes : (r : Reading) (n : ℕ) (l : ExplainLine) → r.ended ≡ false → line_of r n (body_of l) ≡ Ok r → Goes r n l
passes r n l running is = record { next = r; is = is; running = running; same = refl }

pass_by : (r : Reading) (n : ℕ) (l : ExplainLine) (w : List ℕ) → (p : IsWrittenBy l w) → 2 ≤ n → r.ended ≡ false → bytes_eq w (codes "end") ≡ false
    → used_line r (w ∷ p.rest) ≡ Ok r → Goes r n l
pass_by r n l w p later running more is = passes r n l running (pass r n l w p.rest p.is later running more is)

-- a line of cells, or of why
cells_go : (r : Reading) (n : ℕ) (l : ExplainLine) (w : List ℕ) (rest : List (List ℕ)) (c : Cell) → IsWritten l (w ∷ rest) → 2 ≤ n → r.ended ≡ false → bytes_eq w (codes "end") ≡ false
    → used_line r (w ∷ rest) ≡ cell_line r (w ∷ rest) → cell_of r.endpoints (w ∷ rest) ≡ Some c → Goes r n l
cells_go r n l w rest c p later running more used is = record {
  next = record r { begun = true };
  is = later_again r n l w rest (Ok (record r { begun = true })) p later running more (used ∙ followed (cell_of r.endpoints (w ∷ rest)) c _ _ is refl);
  running = running;
  same = refl;
}

-- a line of cells begins with its way
way_used : (r : Reading) (side : Side) (rest : List (List ℕ)) → used_line r (way_text side ∷ rest) ≡ cell_line r (way_text side ∷ rest)
way_used r Ru rest = refl
way_used r Du rest = refl

found : (gs hs : List Endpoint) (ws : List (List ℕ)) (c : Cell) → gs ≡ hs → cell_of hs ws ≡ Some c → cell_of gs ws ≡ Some c
found gs hs ws c same is = ap (λ (xs : List Endpoint). cell_of xs ws) same ∙ is

goes : (es : List EndpointConfig) → All IsDrawnEndpoint es → (r : Reading) (n : ℕ) (l : ExplainLine) → IsDrawnLine es l → 2 ≤ n → r.ended ≡ false → r.endpoints ≡ map read_endpoint es → Goes r n l
goes es each r n (line.Head faults) is later running same = absurd is
goes es each r n (line.Window name range) is later running same = absurd is
goes es each r n (line.Endpoint e) is later running same = absurd is
goes es each r n (line.Frame number side at bytes refusal) is later running same =
    passes r n (line.Frame number side at bytes refusal) running (pass r n (line.Frame number side at bytes refusal) (codes "frame") _ (frame_written number side at bytes refusal) later running refl refl)
goes es each r n (line.Measure number place size) is later running same = pass_by r n (line.Measure number place size) (codes "measure") (measure_written number place size) later running refl refl
goes es each r n (line.Other number place kind size) is later running same = pass_by r n (line.Other number place kind size) (codes "other") (other_written number place kind size) later running refl refl
goes es each r n (line.Short number place kind size) is later running same = pass_by r n (line.Short number place kind size) (codes "short") (short_written number place kind size) later running refl refl
goes es each r n (line.Unknown message kind) is later running same = pass_by r n (line.Unknown message kind) (codes "unknown") (unknown_written message kind) later running refl refl
goes es each r n (line.Command message said) is later running same = pass_by r n (line.Command message said) (codes "command") (command_written message said) later running refl refl
goes es each r n (line.Control c) is later running same = passes r n (line.Control c) running (pass r n (line.Control c) (codes "c") _ (control_written c) later running refl refl)
goes es each r n (line.Fragment message bytes verdict) is later running same = pass_by r n (line.Fragment message bytes verdict) (codes "data") (fragment_written message bytes verdict) later running refl refl
goes es each r n (line.Whole w) is later running same = pass_by r n (line.Whole w) (codes "whole") (whole_written w) later running refl refl
goes es each r n (line.Data d) is later running same = passes r n (line.Data d) running (pass r n (line.Data d) (codes "u") _ (data_written d) later running refl refl)
goes es each r n (line.Cells run mask said) is later running same =
    let read = cells_again es each run mask said is.0 is.1 in
    cells_go r n (line.Cells run mask said) (way_text run.side) _ read.0 (cells_written run mask said) later running (way_no_end run.side) (way_used r run.side _)
    (found r.endpoints (map read_endpoint es) _ read.0 same read.1)
goes es each r n (line.Delay at side id value) is later running same = pass_by r n (line.Delay at side id value) (codes "delay") (delay_written at side id value) later running refl refl
goes es each r n (line.WhyMissing run mask reason) is later running same =
    let read = why_missing_again es each run mask reason is.0 is.1 in
    cells_go r n (line.WhyMissing run mask reason) (codes "why") _ read.0 (missing_written run mask reason) later running refl refl
    (found r.endpoints (map read_endpoint es) _ read.0 same read.1)
goes es each r n (line.WhySilent run mask number reason) is later running same =
    let read = why_silent_again es each run mask number reason is.0 is.1 is.2 is.3 in
    cells_go r n (line.WhySilent run mask number reason) (codes "why") _ read.0 (silent_written run mask number reason) later running refl refl
    (found r.endpoints (map read_endpoint es) _ read.0 same read.1)
goes es each r n (line.Unused run from) is later running same = pass_by r n (line.Unused run from) (codes "unused") (unused_written run from) later running refl refl
goes es each r n (line.Margin side of id margin) is later running same = pass_by r n (line.Margin side of id margin) (codes "margin") (margin_written side of id margin) later running refl refl
goes es each r n (line.ShownCells side id cells) is later running same = pass_by r n (line.ShownCells side id cells) (codes "reason") (shown_written side id cells) later running refl refl
goes es each r n (line.MissingCells side id word cells) is later running same = pass_by r n (line.MissingCells side id word cells) (codes "reason") (missing_sum_written side id word cells) later running refl refl
goes es each r n (line.SilentPrbs side id word prbs) is later running same = pass_by r n (line.SilentPrbs side id word prbs) (codes "reason") (silent_sum_written side id word prbs) later running refl refl
goes es each r n (line.Count side counter value) is later running same = pass_by r n (line.Count side counter value) (codes "count") (count_written side counter value) later running refl refl
goes es each r n line.End is later running same = absurd is

-- ---- lines

read_on : (r next : Reading) (n : ℕ) (body : List ℕ) (rest : List (List ℕ)) → line_of r n body ≡ Ok next → read_from n r (body ∷ rest) ≡ read_from (n + 1) next rest
read_on r next n body rest is = ap (λ (x : Result Reading TextWhy). going_on x (λ (m : Reading). read_from (n + 1) m rest) (λ (w : TextWhy). Err (n, w))) is

-- what some lines make of what was read
record Ends (r : Reading) (n : ℕ) (bodies : List (List ℕ)) (tail : List (List ℕ)) : Type 0 where
  last : Reading
  number : ℕ
  later : 2 ≤ number
  is : read_from n r (bodies ++ tail) ≡ read_from number last tail
  running : last.ended ≡ false
  same : last.endpoints ≡ r.endpoints

others_end : (es : List EndpointConfig) → All IsDrawnEndpoint es → (ls : List ExplainLine) → All (IsDrawnLine es) ls → (r : Reading) (n : ℕ) (tail : List (List ℕ)) → 2 ≤ n → r.ended ≡ false
    → r.endpoints ≡ map read_endpoint es → Ends r n (map body_of ls) tail
others_end es each [] p r n tail later running same = record { last = r; number = n; later = later; is = refl; running = running; same = refl }
others_end es each (l ∷ ls) p r n tail later running same =
    let one = goes es each r n l (All-head (IsDrawnLine es) l ls p) later running same in
    let more = others_end es each ls (All-tail (IsDrawnLine es) l ls p) one.next (n + 1) tail (omega arith) one.running (one.same ∙ same) in
    record {
      last = more.last;
      number = more.number;
      later = more.later;
      is = read_on r one.next n (body_of l) (map body_of ls ++ tail) one.is ∙ more.is;
      running = more.running;
      same = more.same ∙ one.same;
    }

-- ---- endpoints

-- these endpoints were read, and no line of cells
abbrev reading : List EndpointConfig → Reading
reading es = record { endpoints = map read_endpoint es; begun = false; ended = false }

endpoint_goes : (before after : List EndpointConfig) (e : EndpointConfig) (n : ℕ) → AreDrawnEndpoints (before ++ e ∷ after) → All IsDrawnEndpoint before → IsDrawnEndpoint e → 2 ≤ n
    → line_of (reading before) n (body_of (line.Endpoint e)) ≡ Ok (reading (before ++ e ∷ []))
endpoint_goes before after e n are each is later =
    let few : length (before ++ e ∷ after) ≤ 16 = are.few in
    let room : length (map read_endpoint before) < 16 = omega (arith, few, length-append before (e ∷ after), length-map before read_endpoint) in
    let fits : nat_le 16 (length (map read_endpoint before)) ≡ false = grind (arith, nat_tests) in
    let new : has_id (map read_endpoint before) (hex4_text e.id) ≡ false = no_id before after e each is.id are.differ in
    let more : Reading = record { endpoints = map read_endpoint before ++ read_endpoint e ∷ []; begun = false; ended = false } in
    later_again (reading before) n (line.Endpoint e) (codes "endpoint") _ (Ok more) (endpoint_written e) later refl refl
    (followed (endpoint_in (endpoint_list e)) (read_endpoint e) _ _ (endpoint_again e is)
    (passed_by (nat_le 16 (length (map read_endpoint before)) || has_id (map read_endpoint before) (hex4_text e.id)) _ _ _ (or_false fits new) refl))
    ∙ ap (λ (gs : List Endpoint). Ok (let r : Reading = record { endpoints = gs; begun = false; ended = false } in r)) (sym (map-append read_endpoint before (e ∷ [])))

endpoints_read : (before es : List EndpointConfig) (n : ℕ) (tail : List (List ℕ)) → AreDrawnEndpoints (before ++ es) → All IsDrawnEndpoint before → All IsDrawnEndpoint es → 2 ≤ n
    → (number : ℕ) × (2 ≤ number) × (read_from n (reading before) (map body_of (map line.Endpoint es) ++ tail) ≡ read_from number (reading (before ++ es)) tail)
endpoints_read before [] n tail are each p later = (n, later, ap (λ (es : List EndpointConfig). read_from n (reading es) tail) (sym (append-nil before)))
endpoints_read before (e ∷ es) n tail are each p later =
    let first : IsDrawnEndpoint e = All-head IsDrawnEndpoint e es p in
    let same : (before ++ e ∷ []) ++ es ≡ before ++ e ∷ es = append_assoc before (e ∷ []) es in
    let more = endpoints_read (before ++ e ∷ []) es (n + 1) tail (subst AreDrawnEndpoints (sym same) are) (All-append IsDrawnEndpoint before (e ∷ []) each (All-cons IsDrawnEndpoint e [] first (All-nil IsDrawnEndpoint))) (All-tail IsDrawnEndpoint e es p) (omega arith) in (
      more.0,
      more.1,
      read_on (reading before) (reading (before ++ e ∷ [])) n (body_of (line.Endpoint e)) (map body_of (map line.Endpoint es) ++ tail) (endpoint_goes before es e n are each first later)
          ∙ more.2 ∙ ap (λ (xs : List EndpointConfig). read_from more.0 (reading xs) tail) same,
    )

-- ---- windows, which are passed over

windows_read : (range : WindowName → Range) (tail : List (List ℕ)) → read_from 2 (reading []) (map body_of (windows_of range) ++ tail) ≡ read_from 10 (reading []) tail
windows_read range tail =
    let body : WindowName → List ℕ = λ name. body_of (line.Window name (range name)) in
    let by_ta4 = body Ta4 ∷ tail in
    let by_ta3 = body Ta3 ∷ by_ta4 in
    let by_t2a_cp_ul = body T2aCpUl ∷ by_ta3 in
    let by_t2a_cp_dl = body T2aCpDl ∷ by_t2a_cp_ul in
    let by_t2a_up = body T2aUp ∷ by_t2a_cp_dl in
    let by_t1a_cp_ul = body T1aCpUl ∷ by_t2a_up in
    let by_t1a_cp_dl = body T1aCpDl ∷ by_t1a_cp_ul in
    one 2 T1aUp (omega arith) by_t1a_cp_dl ∙ one 3 T1aCpDl (omega arith) by_t1a_cp_ul ∙ one 4 T1aCpUl (omega arith) by_t2a_up ∙ one 5 T2aUp (omega arith) by_t2a_cp_dl
    ∙ one 6 T2aCpDl (omega arith) by_t2a_cp_ul ∙ one 7 T2aCpUl (omega arith) by_ta3 ∙ one 8 Ta3 (omega arith) by_ta4 ∙ one 9 Ta4 (omega arith) tail
  where
    one : (n : ℕ) (name : WindowName) → 2 ≤ n → (rest : List (List ℕ)) → read_from n (reading []) (body_of (line.Window name (range name)) ∷ rest) ≡ read_from (n + 1) (reading []) rest
    one n name later rest =
        read_on (reading []) (reading []) n (body_of (line.Window name (range name))) rest
        (pass (reading []) n (line.Window name (range name)) (codes "window") _ (window_written name (range name)) later refl refl refl)

-- ---- the whole text

end_read : (r : Reading) (n : ℕ) → 2 ≤ n → r.ended ≡ false → read_from n r (body_of line.End ∷ []) ≡ Ok r.endpoints
end_read r n later running =
    read_on r (record r { ended = true }) n (body_of line.End) []
    (line_again r n line.End (codes "end" ∷ []) end_written ∙ passed_by (n == 1) _ _ _ (not_first n later) (passed_by r.ended _ _ _ running refl))

pub grid_read : (range : WindowName → Range) (es : List EndpointConfig) (others : List ExplainLine) → AreDrawnEndpoints es → All (IsDrawnLine es) others
    → read_from 1 (reading []) (body_of (line.Head false) ∷ (map body_of (windows_of range) ++ (map body_of (map line.Endpoint es) ++ (map body_of others ++ body_of line.End ∷ [])))) ≡ Ok (map read_endpoint es)
grid_read range es others are each =
    let tail = map body_of others ++ body_of line.End ∷ [] in
    let endpoints = endpoints_read [] es 10 tail are (All-nil IsDrawnEndpoint) are.each (omega arith) in
    let after = others_end es are.each others each (reading es) endpoints.0 (body_of line.End ∷ []) endpoints.1 refl refl in
    read_on (reading []) (reading []) 1 (body_of (line.Head false)) (map body_of (windows_of range) ++ (map body_of (map line.Endpoint es) ++ tail))
    (line_again (reading []) 1 (line.Head false) (codes "explain" ∷ codes "1" ∷ []) head_written)
    ∙ windows_read range (map body_of (map line.Endpoint es) ++ tail)
    ∙ endpoints.2
    ∙ after.is
    ∙ end_read after.last after.number after.later after.running
    ∙ ap (λ (gs : List Endpoint). Ok gs) after.same
