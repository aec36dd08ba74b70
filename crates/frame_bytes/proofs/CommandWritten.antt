-- A written command is the frame of its definition.
use Rattle.std.proofs.Common.{◌≡◌, ℕ, ◌+◌, List, ◌++◌, length, take, drop, refl, sym, ap, ◌∙◌, arith, length-append}
use Rattle.cplane_sections.specs.declared.values.CHead.{CHead}
use Rattle.cplane_sections.specs.declared.values.CSection.{CSection}
use Rattle.cplane_sections.specs.Header.{kind_of}
use Rattle.frame_bytes.specs.Spelled.{in_bytes}
use Rattle.frame_bytes.specs.Transport.{transport_fields}
use Rattle.frame_bytes.specs.Commands.{head_fields, section_fields, command_of, command_frame, whole_seq}
use Rattle.frame_bytes.proofs.Fields.{length-in_bytes}
use Rattle.frame_bytes.proofs.Room.{HoldsFrame, three_held}

pub command_is : (h : CHead) (s : CSection) (header body : List ℕ) → header ≡ in_bytes (head_fields h) → body ≡ in_bytes (section_fields (kind_of h.body) s) → header ++ body ≡ command_of h s
command_is h s header body header_is body_is = rw (header_is, body_is) refl

pub command_size : (h : CHead) (s : CSection) (header body : List ℕ) (m n : ℕ) → header ≡ in_bytes (head_fields h) → body ≡ in_bytes (section_fields (kind_of h.body) s)
    → length header ≡ m → length body ≡ n → length (command_of h s) ≡ m + n
command_size h s header body m n header_is body_is hm bn =
    let all : length (command_of h s) ≡ length (header ++ body) = ap length (sym (command_is h s header body header_is body_is)) in
    all ∙ omega (arith, length-append header body)

pub command_held : (id number : ℕ) (h : CHead) (s : CSection) (room t header body x y z : List ℕ) (m n : ℕ)
    → header ≡ in_bytes (head_fields h) → body ≡ in_bytes (section_fields (kind_of h.body) s) → length header ≡ m → length body ≡ n
    → t ≡ in_bytes (transport_fields 2 id (whole_seq number) (4 + (m + n)))
    → x ≡ (take 0 room ++ t) ++ drop (0 + length t) room
    → y ≡ (take 8 x ++ header) ++ drop (8 + length header) x
    → z ≡ (take (8 + m) y ++ body) ++ drop (8 + m + length body) y
    → HoldsFrame (command_frame id number h s) room z (8 + m + n)
command_held id number h s room t header body x y z m n header_is body_is hm bn t_is x_is y_is z_is =
    let size = command_size h s header body m n header_is body_is hm bn in
    let eight : length t ≡ 8 = ap length t_is ∙ length-in_bytes 8 (transport_fields 2 id (whole_seq number) (4 + (m + n))) refl in
    let three = three_held room t header body x y z m n eight hm bn x_is y_is z_is in
    let transport : t ≡ in_bytes (transport_fields 2 id (whole_seq number) (4 + length (command_of h s))) =
    t_is ∙ ap (λ k. in_bytes (transport_fields 2 id (whole_seq number) (4 + k))) (sym size) in
    let all : t ++ (header ++ body) ≡ command_frame id number h s = rw (transport, header_is, body_is) refl in
    rw all at three
