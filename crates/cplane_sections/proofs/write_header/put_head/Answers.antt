use Rattle.std.proofs.Common.{◌≡◌, ℕ, inr, refl, sym, ap, ◌∙◌, arith}
use Rattle.bfp_codec.proofs.Field.{field_kept}
use Rattle.cplane_sections.specs.declared.values.CBody.{CBody}
use Rattle.cplane_sections.specs.declared.values.CBody.TheVariants.{Idle, Normal, Offset}
use Rattle.cplane_sections.specs.Header.{kind_of, size_of_head}
use Rattle.cplane_sections.proofs.HeadWords.{body_read, head_written}
use Rattle.cplane_sections.proofs.Front.{message_head}
use Rattle.cplane_sections.proofs.write_header.put_head.Goals as goal

pub returns-in-Normal-clause-written : goal.returns-in-Normal-clause-written
returns-in-Normal-clause-written c =
    let bytes = c.put_word-2.new.into in
    let first = field_kept bytes c.put_word.new.into 4 4 0 32 c.put_word-2.ensures.others (omega arith) ∙ c.put_word.ensures.word ∙ c.first_word.ensures.value in
    let second = c.put_word-2.ensures.word ∙ ap (λ p. p.0) c.other_words-second.ensures.value in
    let normal = ap kind_of c.in-Normal.is in
    let body = body_read c.args.head.now.count c.args.head.now.body bytes c.other_words-second.ensures.count c.other_words-second.ensures.body second (λ ne. absurd (ne normal)) in
    head_written c.args.head.now bytes c.requires.fits c.first_word.ensures.frame first body

pub returns-in-Normal-clause-message : goal.returns-in-Normal-clause-message
returns-in-Normal-clause-message c =
    message_head c.args.head.now c.put_word-2.new.into 8 (sym (ap (λ b. size_of_head (kind_of b)) c.in-Normal.is)) (omega arith) (returns-in-Normal-clause-written c)

other : (b : CBody) → ((u : ℕ) → b ≡ Normal u → ⊥) → size_of_head (kind_of b) ≡ 12
other (Idle t s c) h = refl
other (Normal u) h = absurd (h u refl)
other (Offset t s c u) h = refl

pub returns : goal.returns
returns c =
    let one = c.put_word.new.into in
    let two = c.put_word-2.new.into in
    let bytes = c.put_word-3.new.into in
    let first = field_kept bytes two 8 4 0 32 c.put_word-3.ensures.others (omega arith) ∙ field_kept two one 4 4 0 32 c.put_word-2.ensures.others (omega arith) ∙ c.put_word.ensures.word ∙ c.first_word.ensures.value in
    let second = field_kept bytes two 8 4 32 32 c.put_word-3.ensures.others (omega arith) ∙ c.put_word-2.ensures.word ∙ ap (λ p. p.0) c.other_words-second.ensures.value in
    let third = c.put_word-3.ensures.word ∙ ap (λ p. p.1) c.other_words-second.ensures.value in
    let body = body_read c.args.head.now.count c.args.head.now.body bytes c.other_words-second.ensures.count c.other_words-second.ensures.body second (λ ne. third) in
    let written = head_written c.args.head.now bytes c.requires.fits c.first_word.ensures.frame first body in
    let size = sym (other c.args.head.now.body c.in_default.not-Normal) in
    record {
      size = size;
      short = omega arith;
      written = written;
      rest = λ k h. c.put_word-3.ensures.others k (inr h) ∙ c.put_word-2.ensures.others k (inr (omega arith)) ∙ c.put_word.ensures.others k (inr (omega arith));
      message = message_head c.args.head.now bytes 12 size (omega arith) written;
    }
