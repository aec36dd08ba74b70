-- The transport header, as the bytes that its fields spell.
use Rattle.std.proofs.Common.{◌≡◌, ℕ, zero, suc, ◌+◌, ◌/◌, ◌%◌, ◌^◌, ◌<◌, ◌≤◌, false, List, [], ◌∷◌, drop, get_or, refl, sym, ap, ◌∙◌, arith}
use Rattle.bfp_codec.specs.Field.{field}
use Rattle.bfp_codec.proofs.Field.{field_fits, field_same, field_half, field_drop}
use Rattle.bfp_codec.specs.Layout.{AreBytes}
use Rattle.ecpri_frames.specs.declared.heads.Head.{Head}
use Rattle.ecpri_frames.specs.Headers.{WritesHead}
use Rattle.ecpri_fragments.specs.declared.sequence.SeqField.{SeqField}
use Rattle.ecpri_fragments.specs.Sequence.{seq_field_of}
use Rattle.frame_bytes.specs.Spelled.{in_bytes}
use Rattle.frame_bytes.specs.Transport.{transport_fields}
use Rattle.frame_bytes.proofs.Fields.{AreAt, fields_are, bit_read}

four : (head rest : List ℕ) (k : ℕ) → k < 4 → get_or (get_or head 0 0 ∷ get_or head 1 0 ∷ get_or head 2 0 ∷ get_or head 3 0 ∷ rest) k 0 ≡ get_or head k 0
four head rest zero h = refl
four head rest (suc zero) h = refl
four head rest (suc (suc zero)) h = refl
four head rest (suc (suc (suc zero))) h = refl
four head rest (suc (suc (suc (suc k)))) h = absurd (omega arith)

two : (xs : List ℕ) (k : ℕ) → k < 2 → get_or (get_or xs 0 0 ∷ get_or xs 1 0 ∷ []) k 0 ≡ get_or xs k 0
two xs zero h = refl
two xs (suc zero) h = refl
two xs (suc (suc k)) h = absurd (omega arith)

eight_bytes : (a b c d e f g h : ℕ) → a < 256 → b < 256 → c < 256 → d < 256 → e < 256 → f < 256 → g < 256 → h < 256 → AreBytes (a ∷ b ∷ c ∷ d ∷ e ∷ f ∷ g ∷ h ∷ [])
eight_bytes a b c d e f g h ha hb hc hd he hf hg hh zero = ha
eight_bytes a b c d e f g h ha hb hc hd he hf hg hh (suc zero) = hb
eight_bytes a b c d e f g h ha hb hc hd he hf hg hh (suc (suc zero)) = hc
eight_bytes a b c d e f g h ha hb hc hd he hf hg hh (suc (suc (suc zero))) = hd
eight_bytes a b c d e f g h ha hb hc hd he hf hg hh (suc (suc (suc (suc zero)))) = he
eight_bytes a b c d e f g h ha hb hc hd he hf hg hh (suc (suc (suc (suc (suc zero))))) = hf
eight_bytes a b c d e f g h ha hb hc hd he hf hg hh (suc (suc (suc (suc (suc (suc zero)))))) = hg
eight_bytes a b c d e f g h ha hb hc hd he hf hg hh (suc (suc (suc (suc (suc (suc (suc zero))))))) = hh
eight_bytes a b c d e f g h ha hb hc hd he hf hg hh (suc (suc (suc (suc (suc (suc (suc (suc k)))))))) = omega arith

pub transport_is : (kind id size : ℕ) (seq : SeqField) (head two_bytes : List ℕ) (high low : ℕ) → AreBytes head → AreBytes two_bytes
    → WritesHead (record { more = false; kind = kind; size = size }) head → seq_field_of two_bytes ≡ seq → id < 2 ^ 16 → high ≡ id / 256 → low ≡ id % 256
    → get_or head 0 0 ∷ get_or head 1 0 ∷ get_or head 2 0 ∷ get_or head 3 0 ∷ high ∷ low ∷ get_or two_bytes 0 0 ∷ get_or two_bytes 1 0 ∷ []
    ≡ in_bytes (transport_fields kind id seq size)
unfolding AreAt
transport_is kind id size seq head two_bytes high low hb tb w s fits high_is low_is =
    let xs = get_or head 0 0 ∷ get_or head 1 0 ∷ get_or head 2 0 ∷ get_or head 3 0 ∷ high ∷ low ∷ get_or two_bytes 0 0 ∷ get_or two_bytes 1 0 ∷ [] in
    let high_small : high < 256 = omega arith in
    let low_small : low < 256 = omega arith in
    let h = λ (i n : ℕ) (fit : i + n ≤ 32). field_same xs head i n (λ k from to. four head (high ∷ low ∷ get_or two_bytes 0 0 ∷ get_or two_bytes 1 0 ∷ []) k (omega arith)) in
    let t = λ (i n : ℕ) (fit : i + n ≤ 16). sym (field_drop xs 6 i n) ∙ field_same (drop 6 xs) two_bytes i n (λ k from to. two two_bytes k (omega arith)) in
    let more : field head 7 1 ≡ 0 = bit_read (field head 7 1) false (field_fits head 7 1) (ap (λ (x : Head). x.more) w.reads) in
    let middle : field xs 32 16 ≡ id = field_half xs 4 high_small low_small ∙ omega arith in
    let last = bit_read (field two_bytes 8 1) seq.last (field_fits two_bytes 8 1) (ap (λ (x : SeqField). x.last) s) in
    fields_are 8 xs (transport_fields kind id seq size) refl (eight_bytes _ _ _ _ _ _ _ _ (hb 0) (hb 1) (hb 2) (hb 3) high_small low_small (tb 0) (tb 1)) refl (
      h 0 4 (omega arith) ∙ w.revision,
      (
        h 4 3 (omega arith) ∙ w.reserved,
        (
          h 7 1 (omega arith) ∙ more,
          (
            h 8 8 (omega arith) ∙ ap (λ (x : Head). x.kind) w.reads,
            (
              h 16 16 (omega arith) ∙ ap (λ (x : Head). x.size) w.reads,
              (
                middle,
                (
                  t 0 8 (omega arith) ∙ ap (λ (x : SeqField). x.seq) s,
                  (
                    t 8 1 (omega arith) ∙ last,
                    (
                      t 9 7 (omega arith) ∙ ap (λ (x : SeqField). x.sub) s,
                      tt,
                    ),
                  ),
                ),
              ),
            ),
          ),
        ),
      ),
    )
