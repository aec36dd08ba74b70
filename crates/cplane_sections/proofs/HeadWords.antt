-- What the words of a header say of its fields.
use Rattle.std.proofs.Common.{◌≡◌, ℕ, ◌+◌, ◌*◌, ◌^◌, ◌<◌, eqb, List, refl, ap, ◌∙◌, arith}
use Rattle.bfp_codec.specs.Field.{field, flag}
use Rattle.bfp_codec.proofs.Field.{field_of_word}
use Rattle.cplane_sections.specs.declared.values.CBody.{CBody}
use Rattle.cplane_sections.specs.declared.values.CBody.TheVariants.{Idle, Normal, Offset}
use Rattle.cplane_sections.specs.declared.values.CHead.{CHead}
use Rattle.cplane_sections.specs.Header.{body_of, kind_of}
use Rattle.cplane_sections.specs.Words.{body_words, BodyFits}
use Rattle.cplane_sections.specs.Message.{HeadFits}
use Rattle.cplane_sections.specs.Writes.{WritesHead}
use Rattle.fh_base.proofs.Orders.{bit_test, bit_small}

pub record ReadsBody (count : ℕ) (body : CBody) (bytes : List ℕ) : Type 0 where
  pub count_is : field bytes 32 8 ≡ count
  pub kind : field bytes 40 8 ≡ kind_of body
  pub body_is : body_of (kind_of body) bytes ≡ body
  pub idle : kind_of body ≡ 0 → field bytes 88 8 ≡ 0
  pub normal : kind_of body ≡ 1 → field bytes 56 8 ≡ 0

pub body_read : (count : ℕ) (body : CBody) (bytes : List ℕ) → count < 2 ^ 8 → BodyFits body → field bytes 32 32 ≡ (body_words count body).0
    → ((kind_of body ≡ 1 → ⊥) → field bytes 64 32 ≡ (body_words count body).1) → ReadsBody count body bytes
body_read count (Idle t s c) bytes small fits second third =
    let word = third (λ e. cc) in
    let time : field bytes 48 16 ≡ t = field_of_word bytes 48 16 (omega arith) ∙ omega (arith, fits.0) in
    let structure : field bytes 64 8 ≡ s = field_of_word bytes 64 8 (omega arith) ∙ omega (arith, word, fits.1, fits.2) in
    let cp : field bytes 72 16 ≡ c = field_of_word bytes 72 16 (omega arith) ∙ omega (arith, word, fits.2) in
    record {
      count_is = field_of_word bytes 32 8 (omega arith) ∙ omega (arith, fits.0);
      kind = field_of_word bytes 40 8 (omega arith) ∙ omega (arith, fits.0);
      body_is = rw (time, structure, cp) refl;
      idle = λ e. field_of_word bytes 88 8 (omega arith) ∙ omega (arith, word);
      normal = λ e. absurd cc;
    }
body_read count (Normal u) bytes small fits second third =
    let comp : field bytes 48 8 ≡ u = field_of_word bytes 48 8 (omega arith) ∙ omega (arith, fits) in
    record {
      count_is = field_of_word bytes 32 8 (omega arith) ∙ omega (arith, fits);
      kind = field_of_word bytes 40 8 (omega arith) ∙ omega (arith, fits);
      body_is = rw comp refl;
      idle = λ e. absurd cc;
      normal = λ e. field_of_word bytes 56 8 (omega arith) ∙ omega (arith, fits);
    }
body_read count (Offset t s c u) bytes small fits second third =
    let word = third (λ e. cc) in
    let time : field bytes 48 16 ≡ t = field_of_word bytes 48 16 (omega arith) ∙ omega (arith, fits.0) in
    let structure : field bytes 64 8 ≡ s = field_of_word bytes 64 8 (omega arith) ∙ omega (arith, word, fits.1, fits.2, fits.3) in
    let cp : field bytes 72 16 ≡ c = field_of_word bytes 72 16 (omega arith) ∙ omega (arith, word, fits.2, fits.3) in
    let comp : field bytes 88 8 ≡ u = field_of_word bytes 88 8 (omega arith) ∙ omega (arith, word, fits.3) in
    record {
      count_is = field_of_word bytes 32 8 (omega arith) ∙ omega (arith, fits.0);
      kind = field_of_word bytes 40 8 (omega arith) ∙ omega (arith, fits.0);
      body_is = rw (time, structure, cp, comp) refl;
      idle = λ e. absurd cc;
      normal = λ e. absurd cc;
    }

pub head_written : (h : CHead) (bytes : List ℕ) → HeadFits h → h.frame_id < 2 ^ 8
    → field bytes 0 32 ≡ ((((flag h.down * 2 ^ 3 + 1) * 2 ^ 4 + h.filter) * 2 ^ 8 + h.frame_id) * 2 ^ 4 + h.subframe) * 2 ^ 12 + h.slot * 2 ^ 6 + h.start_symbol
    → ReadsBody h.count h.body bytes → WritesHead h bytes
head_written h bytes fits frame_fits first body =
    let f = bit_small h.down in
    let down : field bytes 0 1 ≡ flag h.down = field_of_word bytes 0 1 (omega arith) ∙ omega arith in
    let down_is : eqb (field bytes 0 1) 1 ≡ h.down = rw down (bit_test h.down) in
    let version : field bytes 1 3 ≡ 1 = field_of_word bytes 1 3 (omega arith) ∙ omega arith in
    let filter : field bytes 4 4 ≡ h.filter = field_of_word bytes 4 4 (omega arith) ∙ omega arith in
    let frame : field bytes 8 8 ≡ h.frame_id = field_of_word bytes 8 8 (omega arith) ∙ omega arith in
    let subframe : field bytes 16 4 ≡ h.subframe = field_of_word bytes 16 4 (omega arith) ∙ omega arith in
    let slot : field bytes 20 6 ≡ h.slot = field_of_word bytes 20 6 (omega arith) ∙ omega arith in
    let start : field bytes 26 6 ≡ h.start_symbol = field_of_word bytes 26 6 (omega arith) ∙ omega arith in
    let body_is : body_of (field bytes 40 8) bytes ≡ h.body = ap (λ k. body_of k bytes) body.kind ∙ body.body_is in
    record {
      reads = rw (down_is, filter, frame, subframe, slot, start, body.count_is, body_is) refl;
      version = version;
      kind = body.kind;
      idle = body.idle;
      normal = body.normal;
    }
