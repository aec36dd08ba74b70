-- Digits in pieces.
use Rattle.std.proofs.Common.{arith, ◌≡◌, ℕ, suc, ◌+◌, ◌-◌, ◌*◌, ◌≤◌, List, [], ◌∷◌, ◌++◌, length, map, take, drop, refl, sym, ap, append_assoc, append-nil, ◌∙◌}
use Rattle.std.proofs.lemmas.List.{take-append-drop, take-take, length-take-le, length-append, length-drop, take_all, drop-drop}
use Rattle.std.proofs.Math.Seq.{take-append-add}
use Rattle.fh_base.specs.Words.{hex2_text}
use Rattle.fh_document.specs.LineWords.{hex_text}
use Rattle.pcap_lines.specs.Digits.{halves, digit_of}

pub hex_append : (xs ys : List ℕ) → hex_text (xs ++ ys) ≡ hex_text xs ++ hex_text ys
hex_append [] ys = refl
hex_append (x ∷ xs) ys = ap (λ t. hex2_text x ++ t) (hex_append xs ys) ∙ sym (append_assoc (hex2_text x) (hex_text xs) (hex_text ys))

-- the digits of all halves
pub hex_halves : (bytes : List ℕ) → map digit_of (halves bytes) ≡ hex_text bytes
hex_halves [] = refl
hex_halves (b ∷ bytes) = ap (λ t. hex2_text b ++ t) (hex_halves bytes)

-- the digits of a piece are the front of those of an array that begins with it
pub hex_front : (piece behind : List ℕ) → take (2 * length piece) (hex_text (piece ++ behind)) ≡ hex_text piece
hex_front [] behind = refl
hex_front (x ∷ piece) behind =
    let twice : 2 * length (x ∷ piece) ≡ suc (suc (2 * length piece)) = omega arith in
    ap (λ n. take n (hex_text (x ∷ piece ++ behind))) twice ∙ ap (λ t. hex2_text x ++ t) (hex_front piece behind)

-- a block's digits, put after a text's front
pub front_more : (text more left all : List ℕ) (size place next : ℕ) → take place text ++ hex_text left ≡ all → take next more ≡ take place text ++ hex_text (take size left)
    → take next more ++ hex_text (drop size left) ≡ all
front_more text more left all size place next so_far put =
    ap (λ t. t ++ hex_text (drop size left)) put
    ∙ append_assoc (take place text) (hex_text (take size left)) (hex_text (drop size left))
    ∙ ap (λ t. take place text ++ t) (sym (hex_append (take size left) (drop size left)) ∙ ap hex_text (take-append-drop size left))
    ∙ so_far

-- the first of the digits that were put after a text's front
pub front_cut : (text more digits : List ℕ) (place size : ℕ) → size ≤ length digits → place + length digits ≤ length more
    → take (place + length digits) more ≡ take place text ++ digits → take (place + size) more ≡ take place text ++ take size digits
front_cut text more digits place size few room put =
    let whole : length (take (place + length digits) more) ≡ place + length digits = length-take-le (place + length digits) more room in
    let front : length (take place text) ≡ place = omega (arith, whole, ap length put, length-append (take place text) digits) in
    sym (take-take (place + size) (place + length digits) more (omega (arith, few)))
    ∙ ap (take (place + size)) put
    ∙ ap (λ n. take (n + size) (take place text ++ digits)) (sym front)
    ∙ take-append-add (take place text) digits size

-- the digits of what is left, from a piece on
pub hex_parted : (bytes : List ℕ) (place size : ℕ) → hex_text (drop place bytes) ≡ hex_text (take size (drop place bytes)) ++ hex_text (drop (place + size) bytes)
hex_parted bytes place size =
    ap hex_text (sym (take-append-drop size (drop place bytes)))
    ∙ hex_append (take size (drop place bytes)) (drop size (drop place bytes))
    ∙ ap (λ b. hex_text (take size (drop place bytes)) ++ hex_text b) (drop-drop size place bytes)

pub hex_slice : (bytes : List ℕ) (place size : ℕ) → hex_text (drop place bytes) ≡ hex_text (take (place + size - place) (drop place bytes)) ++ hex_text (drop (place + size) bytes)
hex_slice bytes place size =
    let same : size ≡ place + size - place = omega arith in
    hex_parted bytes place size ∙ ap (λ n. hex_text (take n (drop place bytes)) ++ hex_text (drop (place + size) bytes)) same

-- the same, before another text
pub hex_slice_before : (bytes end : List ℕ) (place size : ℕ)
    → hex_text (drop place bytes) ++ end ≡ hex_text (take (place + size - place) (drop place bytes)) ++ (hex_text (drop (place + size) bytes) ++ end)
hex_slice_before bytes end place size =
    ap (λ t. t ++ end) (hex_slice bytes place size)
    ∙ append_assoc (hex_text (take (place + size - place) (drop place bytes))) (hex_text (drop (place + size) bytes)) end

-- of a slice to the end
pub hex_rest : (bytes end : List ℕ) (place : ℕ) → hex_text (drop place bytes) ++ end ≡ (hex_text (take (length bytes - place) (drop place bytes)) ++ end) ++ []
hex_rest bytes end place =
    ap (λ b. hex_text b ++ end) (sym (take_all (length bytes - place) (drop place bytes) (omega (arith, length-drop place bytes))))
    ∙ sym (append-nil (hex_text (take (length bytes - place) (drop place bytes)) ++ end))
