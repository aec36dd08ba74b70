-- A frame by its fragment's numbers.
use Rattle.std.proofs.Common.{◌≡◌, ℕ, ◌+◌, ◌*◌, min, List, length, ap, sym, ◌∙◌}
use Rattle.ecpri_fragments.specs.declared.sequence.SeqField.{SeqField}
use Rattle.frame_bytes.specs.Cuts.{piece_frame}
use Rattle.sent_frames.specs.Sources.{field_of, fragment_frame}
use Rattle.sent_frames.specs.declared.data.Fragment.{Fragment}

pub fragment_written : (id : ℕ) (f : Fragment) (seq : SeqField) (from to bytes size : ℕ) (message frame : List ℕ) → frame ≡ piece_frame id seq from to message
    → seq ≡ field_of f bytes → from ≡ f.sub * f.size → to ≡ min (f.sub * f.size + f.size) bytes → bytes ≡ size → length message ≡ size → frame ≡ fragment_frame id f size message
fragment_written id f seq from to bytes size message frame is seq_is from_is to_is bytes_is len =
    is ∙ ap (λ s. piece_frame id s from to message) (seq_is ∙ ap (field_of f) bytes_is)
    ∙ ap (λ a. piece_frame id (field_of f size) a to message) from_is
    ∙ ap (λ b. piece_frame id (field_of f size) (f.sub * f.size) b message) (to_is ∙ ap (min (f.sub * f.size + f.size)) (bytes_is ∙ sym len))
