-- The text of a drawable explanation has both pictures.
use Rattle.std.proofs.Common.{◌≡◌, ℕ, List, [], ◌∷◌, ◌++◌, length, map, false, ◌==◌, sym, ap, ◌∙◌, subst, append_assoc, codes}
use Rattle.std.specs.Prelude.{Ok}
use Rattle.std.specs.List.{All, slice_split}
use Rattle.std.proofs.lemmas.List.{map-append}
use Rattle.std.proofs.lemmas.List.Elements.{All-append, All-cons, All-head, All-nil, All-tail}
use Rattle.line_words.specs.Words.{without_last_feed}
use Rattle.window_config.specs.declared.endpoints.EndpointConfig.{EndpointConfig}
use Rattle.window_config.specs.declared.delays.Range.{Range}
use Rattle.explain_model.specs.Lines.{lines_text}
use Rattle.explain_model.specs.declared.values.ExplainLine.{ExplainLine}
use Rattle.explain_model.specs.declared.values.ExplainLine.TheVariants as line
use Rattle.explain_model.specs.declared.values.WindowName.{WindowName}
use Rattle.explain_model.specs.declared.values.WindowName.TheVariants.{T1aUp, T1aCpDl, T1aCpUl, T2aUp, T2aCpDl, T2aCpUl, Ta3, Ta4}
use Rattle.pictures.specs.Text.{grid_of, read_from as grid_from, start as grid_start}
use Rattle.pictures.specs.ArrivalText.{arrivals_of, read_from as arrivals_from, start as arrivals_start}
use Rattle.pictures.specs.Rows.{rows_of}
use Rattle.pictures.specs.Picture.{grid_picture, picture_for as grid_for}
use Rattle.pictures.specs.WindowPicture.{windows_picture, picture_for as windows_for}
use Rattle.drawn_laws.specs.Drawable.{IsDrawnLine, windows_of}
use Rattle.drawn_laws.specs.Laws.{DrawableAreDrawn, HasPictures}
use Rattle.drawn_laws.proofs.Arrivals.{windows_read}
use Rattle.drawn_laws.proofs.Choices.{passed_by}
use Rattle.drawn_laws.proofs.Endpoints.{endpoint_written, read_endpoint}
use Rattle.drawn_laws.proofs.Grids.{grid_read}
use Rattle.drawn_laws.proofs.Lines.{IsWrittenBy, body_of, cells_written, command_written, control_written, count_written, data_written, delay_written, end_written, fragment_written, frame_written, head_written, margin_written, measure_written, missing_sum_written, missing_written, other_written, short_written, shown_written, silent_sum_written, silent_written, unknown_written, unused_written, whole_written, window_written}
use Rattle.drawn_laws.proofs.Reading.{IsLine, lines_again, some_text}

-- ---- each line is a line of words

by : (l : ExplainLine) (w : List ℕ) → IsWrittenBy l w → IsLine l
by l w p = record { words = w ∷ p.rest; is = p.is }

other_line : (es : List EndpointConfig) (l : ExplainLine) → IsDrawnLine es l → IsLine l
other_line es (line.Head faults) is = absurd is
other_line es (line.Window name range) is = absurd is
other_line es (line.Endpoint e) is = absurd is
other_line es (line.Frame number side at bytes refusal) is = record { words = _; is = frame_written number side at bytes refusal }
other_line es (line.Measure number place size) is = by (line.Measure number place size) (codes "measure") (measure_written number place size)
other_line es (line.Other number place kind size) is = by (line.Other number place kind size) (codes "other") (other_written number place kind size)
other_line es (line.Short number place kind size) is = by (line.Short number place kind size) (codes "short") (short_written number place kind size)
other_line es (line.Unknown message kind) is = by (line.Unknown message kind) (codes "unknown") (unknown_written message kind)
other_line es (line.Command message said) is = by (line.Command message said) (codes "command") (command_written message said)
other_line es (line.Control c) is = record { words = _; is = control_written c }
other_line es (line.Fragment message bytes verdict) is = by (line.Fragment message bytes verdict) (codes "data") (fragment_written message bytes verdict)
other_line es (line.Whole w) is = by (line.Whole w) (codes "whole") (whole_written w)
other_line es (line.Data d) is = record { words = _; is = data_written d }
other_line es (line.Cells run mask said) is = record { words = _; is = cells_written run mask said }
other_line es (line.Delay at side id value) is = by (line.Delay at side id value) (codes "delay") (delay_written at side id value)
other_line es (line.WhyMissing run mask why) is = record { words = _; is = missing_written run mask why }
other_line es (line.WhySilent run mask number why) is = record { words = _; is = silent_written run mask number why }
other_line es (line.Unused run from) is = by (line.Unused run from) (codes "unused") (unused_written run from)
other_line es (line.Margin side of id margin) is = by (line.Margin side of id margin) (codes "margin") (margin_written side of id margin)
other_line es (line.ShownCells side id cells) is = by (line.ShownCells side id cells) (codes "reason") (shown_written side id cells)
other_line es (line.MissingCells side id word cells) is = by (line.MissingCells side id word cells) (codes "reason") (missing_sum_written side id word cells)
other_line es (line.SilentPrbs side id word prbs) is = by (line.SilentPrbs side id word prbs) (codes "reason") (silent_sum_written side id word prbs)
other_line es (line.Count side counter value) is = by (line.Count side counter value) (codes "count") (count_written side counter value)
other_line es line.End is = absurd is

other_lines : (es : List EndpointConfig) (ls : List ExplainLine) → All (IsDrawnLine es) ls → All IsLine ls
other_lines es [] p = All-nil IsLine
other_lines es (l ∷ ls) p = All-cons IsLine l ls (other_line es l (All-head (IsDrawnLine es) l ls p)) (other_lines es ls (All-tail (IsDrawnLine es) l ls p))

endpoint_lines : (es : List EndpointConfig) → All IsLine (map line.Endpoint es)
endpoint_lines [] = All-nil IsLine
endpoint_lines (e ∷ es) = All-cons IsLine (line.Endpoint e) (map line.Endpoint es) (record { words = _; is = endpoint_written e }) (endpoint_lines es)

window_lines : (range : WindowName → Range) (names : List WindowName) → All IsLine (map (λ name. line.Window name (range name)) names)
window_lines range [] = All-nil IsLine
window_lines range (name ∷ names) =
    All-cons IsLine (line.Window name (range name)) (map (λ name. line.Window name (range name)) names) (record { words = _; is = window_written name (range name) }) (window_lines range names)

head_line : IsLine (line.Head false)
head_line = record { words = _; is = head_written }

end_line : IsLine line.End
end_line = record { words = _; is = end_written }

-- ---- the text is cut into its lines

-- all lines but the last
abbrev front_of : (WindowName → Range) → List EndpointConfig → List ExplainLine → List ExplainLine
front_of range es others = line.Head false ∷ (windows_of range ++ (map line.Endpoint es ++ others))

front_lines : (range : WindowName → Range) (es : List EndpointConfig) (others : List ExplainLine) → All (IsDrawnLine es) others → All IsLine (front_of range es others)
front_lines range es others each =
    All-cons IsLine (line.Head false) (windows_of range ++ (map line.Endpoint es ++ others)) head_line
    (All-append IsLine (windows_of range) (map line.Endpoint es ++ others) (window_lines range (T1aUp ∷ T1aCpDl ∷ T1aCpUl ∷ T2aUp ∷ T2aCpDl ∷ T2aCpUl ∷ Ta3 ∷ Ta4 ∷ []))
    (All-append IsLine (map line.Endpoint es) others (endpoint_lines es) (other_lines es others each)))

together : (range : WindowName → Range) (es : List EndpointConfig) (others : List ExplainLine)
    → line.Head false ∷ (windows_of range ++ (map line.Endpoint es ++ (others ++ line.End ∷ []))) ≡ front_of range es others ++ line.End ∷ []
together range es others =
    ap (λ (ls : List ExplainLine). line.Head false ∷ ls)
    (ap (λ (ls : List ExplainLine). windows_of range ++ ls) (sym (append_assoc (map line.Endpoint es) others (line.End ∷ [])))
    ∙ sym (append_assoc (windows_of range) (map line.Endpoint es ++ others) (line.End ∷ [])))

bodies : (range : WindowName → Range) (es : List EndpointConfig) (others : List ExplainLine)
    → map body_of (front_of range es others) ++ body_of line.End ∷ []
    ≡ body_of (line.Head false) ∷ (map body_of (windows_of range) ++ (map body_of (map line.Endpoint es) ++ (map body_of others ++ body_of line.End ∷ [])))
bodies range es others =
    ap (λ (bs : List (List ℕ)). body_of (line.Head false) ∷ bs)
    (ap (λ (bs : List (List ℕ)). bs ++ body_of line.End ∷ []) (map-append body_of (windows_of range) (map line.Endpoint es ++ others)
    ∙ ap (λ (bs : List (List ℕ)). map body_of (windows_of range) ++ bs) (map-append body_of (map line.Endpoint es) others))
    ∙ append_assoc (map body_of (windows_of range)) (map body_of (map line.Endpoint es) ++ map body_of others) (body_of line.End ∷ [])
    ∙ ap (λ (bs : List (List ℕ)). map body_of (windows_of range) ++ bs) (append_assoc (map body_of (map line.Endpoint es)) (map body_of others) (body_of line.End ∷ [])))

-- ---- the pictures

pub drawable_are_drawn : DrawableAreDrawn
drawable_are_drawn lines p =
    let front = front_of p.range p.endpoints p.others in
    let same : lines ≡ front ++ line.End ∷ [] = p.is ∙ together p.range p.endpoints p.others in
    let cut : slice_split (λ b. b == 10) (without_last_feed (lines_text (front ++ line.End ∷ [])))
    ≡ body_of (line.Head false) ∷ (map body_of (windows_of p.range) ++ (map body_of (map line.Endpoint p.endpoints) ++ (map body_of p.others ++ body_of line.End ∷ []))) =
    lines_again front line.End (front_lines p.range p.endpoints p.others p.each) end_line ∙ bodies p.range p.endpoints p.others in
    let some : (length (lines_text (front ++ line.End ∷ [])) == 0) ≡ false = some_text front line.End end_line in
    let seen = windows_read p.range p.endpoints p.others p.windows p.each p.frames in
    let grid : grid_of (lines_text (front ++ line.End ∷ [])) ≡ Ok (map read_endpoint p.endpoints) =
    passed_by (length (lines_text (front ++ line.End ∷ [])) == 0) _ _ _ some (ap (grid_from 1 grid_start) cut ∙ grid_read p.range p.endpoints p.others p.are_endpoints p.each) in
    let windows : arrivals_of (lines_text (front ++ line.End ∷ [])) ≡ Ok seen.0 =
    passed_by (length (lines_text (front ++ line.End ∷ [])) == 0) _ _ _ some (ap (arrivals_from 1 arrivals_start []) cut ∙ seen.1) in
    subst HasPictures (ap lines_text (sym same)) (record {
      grid = λ s. (grid_picture s (map read_endpoint p.endpoints) (lines_text (front ++ line.End ∷ [])), ap (grid_for s (lines_text (front ++ line.End ∷ []))) grid);
      windows = (windows_picture seen.0.0 (rows_of seen.0.1), ap windows_for windows);
    })
