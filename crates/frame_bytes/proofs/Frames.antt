-- A sent frame is one complete PDU, and its id, its sequence field and its application bytes are read back.
use Rattle.std.proofs.Common.{◌≡◌, ℕ, ◌+◌, ◌≤◌, false, eqb, List, [], ◌++◌, length, take, drop, refl, sym, ap, ◌∙◌, arith, append_assoc, append-nil, length-append, length-drop}
use Rattle.std.proofs.lemmas.List.{length-take-le, take-append-drop, drop_at}
use Rattle.bfp_codec.specs.Field.{field}
use Rattle.bfp_codec.proofs.Field.{field_take, field_drop}
use Rattle.ecpri_frames.specs.Headers.{head_of}
use Rattle.ecpri_fragments.specs.declared.sequence.SeqField.{SeqField}
use Rattle.frame_bytes.specs.Spelled.{in_bytes}
use Rattle.frame_bytes.specs.Transport.{transport_fields, frame_of, IsOneMessage, IsTransport}
use Rattle.frame_bytes.proofs.Fields.{AreAt, AreSmall, at_fields, length-in_bytes, bit_small, bit_back}
use Rattle.uplane_sections.proofs.Behind.{field_front as field_left}

fields_small : (kind id : ℕ) (seq : SeqField) (size : ℕ) → IsTransport kind id seq size → AreSmall (transport_fields kind id seq size)
unfolding AreSmall
fields_small kind id seq size t =
    (omega arith, (omega arith, (omega arith, (t.kind_fits, (t.size_fits, (t.id_fits, (t.seq_fits, (bit_small seq.last, (t.sub_fits, tt)))))))))

pub frame_is_one : (kind id : ℕ) (seq : SeqField) (application : List ℕ) → IsTransport kind id seq (4 + length application)
    → IsOneMessage kind id seq application (frame_of kind id seq application)
unfolding AreAt
frame_is_one kind id seq application t =
    let size = 4 + length application in
    let eight = in_bytes (transport_fields kind id seq size) in
    let len : length eight ≡ 8 = length-in_bytes 8 (transport_fields kind id seq size) refl in
    let fields : AreAt eight 0 (transport_fields kind id seq size) = at_fields 8 (transport_fields kind id seq size) refl (fields_small kind id seq size t) in
    let header = take 4 eight in
    let behind = drop 4 eight in
    let payload = behind ++ application in
    let four : length header ≡ 4 = length-take-le 4 eight (omega arith) in
    let behind_len : length behind ≡ 4 = omega (arith, length-drop 4 eight) in
    let h = λ (i n : ℕ) (fit : i + n ≤ 32). field_take eight 4 i n (omega arith) in
    let p = λ (i n : ℕ) (fit : i + n ≤ 32). field_left behind application i n (omega arith) ∙ field_drop eight 4 i n in
    let s = λ (i n : ℕ) (fit : i + n ≤ 16). field_take (drop 2 payload) 2 i n (omega arith) ∙ field_drop payload 2 i n ∙ p (16 + i) n (omega arith) in
    let more : eqb (field header 7 1) 1 ≡ false = ap (λ k. eqb k 1) (h 7 1 (omega arith) ∙ fields.1.1.0) in
    let kind_read : field header 8 8 ≡ kind = h 8 8 (omega arith) ∙ fields.1.1.1.0 in
    let size_read : field header 16 16 ≡ size = h 16 16 (omega arith) ∙ fields.1.1.1.1.0 in
    let head : head_of header ≡ record { more = false; kind = kind; size = size } = rw (more, kind_read, size_read) refl in
    let number : field (take 2 (drop 2 payload)) 0 8 ≡ seq.seq = s 0 8 (omega arith) ∙ fields.1.1.1.1.1.1.0 in
    let last : eqb (field (take 2 (drop 2 payload)) 8 1) 1 ≡ seq.last = ap (λ k. eqb k 1) (s 8 1 (omega arith) ∙ fields.1.1.1.1.1.1.1.0) ∙ bit_back seq.last in
    let sub : field (take 2 (drop 2 payload)) 9 7 ≡ seq.sub = s 9 7 (omega arith) ∙ fields.1.1.1.1.1.1.1.1.0 in
    record {
      payload = payload;
      whole = record {
        header = header;
        beyond = [];
        bytes_are = ap (λ xs. xs ++ application) (sym (take-append-drop 4 eight)) ∙ append_assoc header behind application ∙ ap (λ xs. header ++ xs) (sym (append-nil payload));
        message = record {
          at = refl;
          four = four;
          revision = h 0 4 (omega arith) ∙ fields.0;
          head = head;
          payload = omega (arith, length-append behind application);
        };
        last = refl;
      };
      id_read = p 0 16 (omega arith) ∙ fields.1.1.1.1.1.0;
      seq_read = rw (number, last, sub) refl;
      application_read = drop_at behind application 4 behind_len;
    }
