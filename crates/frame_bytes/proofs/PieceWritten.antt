-- A written piece is the frame of its definition.
use Rattle.std.proofs.Common.{◌≡◌, ℕ, ◌+◌, ◌-◌, ◌≤◌, List, ◌++◌, length, drop, refl, sym, ap, ◌∙◌, arith}
use Rattle.std.proofs.lemmas.List.{take_all}
use borrow.Rule.Slice.PartMut.{put_mid}
use Rattle.ecpri_fragments.specs.declared.sequence.SeqField.{SeqField}
use Rattle.frame_bytes.specs.declared.pieces.Span.{Span}
use Rattle.frame_bytes.specs.Spelled.{in_bytes}
use Rattle.frame_bytes.specs.Transport.{transport_fields}
use Rattle.frame_bytes.specs.Cuts.{cut, piece_frame}
use Rattle.frame_bytes.specs.Written.{Stands}
use Rattle.frame_bytes.proofs.Fields.{length-in_bytes}
use Rattle.frame_bytes.proofs.CutBytes.{length_cut}
use Rattle.frame_bytes.proofs.Room.{HoldsFrame, piece_held}

pub cut_size : (span : Span) (message : List ℕ) → span.from ≤ span.to → span.to ≤ length message → length (cut span.from span.to message) ≡ span.to - span.from
cut_size span message order within = omega (arith, length_cut span.from span.to message)

pub frame_held : (id : ℕ) (seq : SeqField) (span : Span) (message room t piece new : List ℕ) (k : ℕ)
    → span.from ≤ span.to → span.to ≤ length message → 8 + (span.to - span.from) ≤ length room
    → length piece ≡ span.to - span.from → k ≡ span.to - span.from → Stands span message piece
    → t ≡ in_bytes (transport_fields 0 id seq (4 + (span.to - span.from)))
    → new ≡ t ++ drop (0 + length t) (put_mid 8 k room piece)
    → HoldsFrame (piece_frame id seq span.from span.to message) room new (8 + (span.to - span.from))
frame_held id seq span message room t piece new k order within fits len count stands t_is new_is =
    let size = cut_size span message order within in
    let is : piece ≡ cut span.from span.to message = sym (take_all (length (cut span.from span.to message)) piece (omega arith)) ∙ stands in
    let eight : length t ≡ 8 = ap length t_is ∙ length-in_bytes 8 (transport_fields 0 id seq (4 + (span.to - span.from))) refl in
    let held = piece_held room t piece new k (span.to - span.from) eight len count fits new_is in
    let header : t ≡ in_bytes (transport_fields 0 id seq (4 + length (cut span.from span.to message))) = t_is ∙ ap (λ n. in_bytes (transport_fields 0 id seq (4 + n))) (sym size) in
    let all : t ++ piece ≡ piece_frame id seq span.from span.to message = rw (header, is) refl in
    rw all at held
