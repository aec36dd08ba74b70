-- Frames without messages of type 5.
use Rattle.std.proofs.Common.{◌≡◌, ℕ, ℤ, false, List, [], ◌∷◌, refl, ap, ◌∙◌}
use Rattle.std.specs.List.{list_any}
use Rattle.std.proofs.lemmas.Bool.{or_parts}
use Rattle.delay_measure.specs.declared.edge.Compensation.{Compensation}
use Rattle.ecpri_frames.specs.Gathering.{whole_messages}
use Rattle.ecpri_frames.specs.Messages.{Message, is_delay}
use Rattle.delay_model.specs.Doings.{Doings, forgotten, with_frame, with_message, with_messages}

others_pass : (c : Compensation) (t : ℤ) (d : Doings) (ms : List Message) → list_any is_delay ms ≡ false → with_messages c t d ms ≡ d
others_pass c t d [] none = refl
others_pass c t d (m ∷ ms) none =
    let parts = or_parts (is_delay m) (list_any is_delay ms) none in
    let one : with_message c t d m ≡ d = rw parts.0 refl in
    ap (λ (x : Doings). with_messages c t x ms) one ∙ others_pass c t d ms parts.1

-- with one of them the delays that became known are forgotten, and nothing else changes
pub frame_passes : (c : Compensation) (t : ℤ) (d : Doings) (frame : List ℕ) → list_any is_delay (whole_messages frame) ≡ false → with_frame c t d frame ≡ forgotten d
frame_passes c t d frame none = others_pass c t (forgotten d) (whole_messages frame) none
