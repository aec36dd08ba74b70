use Rattle.std.proofs.Common.{◌≡◌, ◌+◌, ◌++◌, ◌/◌, ◌%◌, ℕ, min, length, take, drop, map, ap, ◌∙◌, arith}
use Rattle.std.proofs.lemmas.List.{length-append, length-drop}
use Rattle.fh_document.specs.declared.hex.TheConstants.{DIGITS}
use Rattle.fh_document.specs.Hex.{value_of, joined}
use Rattle.fh_document.proofs.HexSteps.{front_bytes, hex_parts, bytes_behind}
use Rattle.fh_document.proofs.hex.decoded.Goals as goal

-- of an even number of digits an even number is taken, and an even one is left
halves : (all taken left : ℕ) → all % 2 ≡ 0 → taken ≡ min all DIGITS → left + taken ≡ all → (taken % 2 ≡ 0) × (left % 2 ≡ 0)
halves all taken left even is sum = (omega arith, omega arith)

pub pieces-preserved : goal.pieces-preserved
pieces-preserved c =
    let rest = c.pieces.rest.now in
    let piece = c.split_at.result.0.now in
    let behind = c.split_at.result.1.now in
    let old = drop (length piece) c.pieces.digits in
    let cut = c.split_at.ensures in
    let even = halves (length rest) (length piece) (length behind) c.pieces.invariant.even (cut.front_len ∙ c.min.ensures) (omega (arith, cut.front_len, cut.back_len)) in
    let hex = hex_parts rest piece behind c.pieces.invariant.hex cut.by_index.0 in
    let front = c.decode-bytes.ensures ∙ ap (λ f. joined (map value_of (f ++ old))) c.copy_from_slice.ensures.after in
    let decoded = ap (λ b. take (length piece / 2) b) front ∙ front_bytes piece old even.0 hex.0 in
    record {
      even = even.1;
      hex = hex.1;
      bytes = bytes_behind c.args.word.now rest piece behind c.pieces.frame c.push_all.new.self c.pieces.invariant.bytes cut.by_index.0 even.0
          (c.in_ok-push_all.ensures.ok ∙ ap (λ b. c.pieces.frame ++ b) decoded);
      size = length-append c.copy_from_slice.new.self old ∙ omega (arith, length-drop (length piece) c.pieces.digits, c.pieces.invariant.size, ap length c.copy_from_slice.ensures.after, cut.front_len, c.min.ensures);
    }
