use Rattle.std.proofs.Common.{◌≡◌, ℕ, ◌*◌, ◌^◌, ◌%◌, ℤ, pos, refl, sym, ap, of_z, ◌∙◌, arith, inr, List, eqb, cond}
use Rattle.std.proofs.lemmas.Bool.Decides.{nat_tests}
use Rattle.std.proofs.lemmas.Int.{ints, to_z-of_z}
use mir.Syntax.{w32}
use mir.Val.{SFits}
use Rattle.bfp_codec.specs.Field.{field, signed}
use Rattle.bfp_codec.proofs.Field.{field_kept}
use Rattle.cplane_sections.specs.declared.values.CBody.{CBody}
use Rattle.cplane_sections.specs.declared.values.CBody.TheVariants.{Idle, Normal, Offset}
use Rattle.cplane_sections.specs.Header.{kind_of}
use Rattle.cplane_sections.specs.Section.{offset_of, size_of_section}
use Rattle.cplane_sections.proofs.SectionWords.{written_of_words, offset_of_word, last_of_word}
use Rattle.cplane_sections.proofs.Front.{message_put}
use Rattle.cplane_sections.proofs.Back.{put_back}
use Rattle.cplane_sections.proofs.write_section.put_section.Goals as goal

offset_some : (kind : ℕ) (z : ℤ) (bytes : List ℕ) → kind ≡ 3 → signed 24 (field bytes 64 24) ≡ z → offset_of kind bytes ≡ cond (eqb kind 3) z (pos 0)
offset_some kind z bytes is e = rw is e

offset_none : (kind : ℕ) (z : ℤ) (bytes : List ℕ) → (kind ≡ 3 → ⊥) → offset_of kind bytes ≡ cond (eqb kind 3) z (pos 0)
offset_none kind z bytes ne =
    let mine : offset_of kind bytes ≡ pos 0 = grind (arith, nat_tests) in
    let other : cond (eqb kind 3) z (pos 0) ≡ pos 0 = grind (arith, nat_tests) in
    mine ∙ sym other

not_offset : (b : CBody) → ((t s c u : ℕ) → b ≡ Offset t s c u → ⊥) → kind_of b ≡ 3 → ⊥
not_offset (Idle t s c) h e = absurd cc
not_offset (Normal u) h e = absurd cc
not_offset (Offset t s c u) h e = h t s c u refl

small_size : (kind : ℕ) → (kind ≡ 3 → ⊥) → 8 ≡ size_of_section kind
small_size kind ne = grind (arith, nat_tests)

pub returns-in-Offset-clause-written : goal.returns-in-Offset-clause-written
returns-in-Offset-clause-written c =
    let bytes = c.put_word-in-Offset.new.into in
    let two = c.put_word-2.new.into in
    let one = c.put_word.new.into in
    let z = c.args.s.now.freq_offset in
    let is : kind_of c.args.head.now.body ≡ 3 = ap kind_of c.in-Offset.is in
    let first = field_kept bytes two 8 4 0 32 c.put_word-in-Offset.ensures.others (omega arith) ∙ field_kept two one 4 4 0 32 c.put_word-2.ensures.others (omega arith) ∙ c.put_word.ensures.word ∙ c.first_word.ensures.value in
    let second = field_kept bytes two 8 4 32 32 c.put_word-in-Offset.ensures.others (omega arith) ∙ c.put_word-2.ensures.word ∙ c.second_word.ensures in
    let in_i32 : SFits w32 z = omega (arith, ints, c.requires.fits.freq_low, c.requires.fits.freq_high) in
    let word : field bytes 64 32 ≡ of_z w32 z * 2 ^ 8 % 2 ^ 32 = c.put_word-in-Offset.ensures.word ∙ ap (λ n. n * 2 ^ 8 % 2 ^ 32) (c.cast_unsigned.ensures ∙ ap (of_z w32) (to_z-of_z w32 z in_i32)) in
    written_of_words (kind_of c.args.head.now.body) c.args.s.now bytes c.requires.fits c.first_word.ensures.num_prb first second
    (offset_some (kind_of c.args.head.now.body) z bytes is (offset_of_word z bytes c.requires.fits.freq_low c.requires.fits.freq_high word))
    (λ k. last_of_word (of_z w32 z) bytes word)

pub returns-in-Offset-clause-message : goal.returns-in-Offset-clause-message
returns-in-Offset-clause-message c = λ front ss.
    message_put c.args.head.now ss c.args.s.now front c.put_word-in-Offset.new.into 12 (sym (ap (λ b. size_of_section (kind_of b)) c.in-Offset.is)) (omega arith) (returns-in-Offset-clause-written c)

pub returns-in-Offset-clause-read_back : goal.returns-in-Offset-clause-read_back
returns-in-Offset-clause-read_back c = λ shape front ss.
    put_back shape c.args.head.now ss c.args.s.now front c.put_word-in-Offset.new.into 12 (sym (ap (λ b. size_of_section (kind_of b)) c.in-Offset.is)) (omega arith) (returns-in-Offset-clause-written c)

pub returns : goal.returns
returns c =
    let bytes = c.put_word-2.new.into in
    let one = c.put_word.new.into in
    let ne = not_offset c.args.head.now.body c.in_default.not-Offset in
    let first = field_kept bytes one 4 4 0 32 c.put_word-2.ensures.others (omega arith) ∙ c.put_word.ensures.word ∙ c.first_word.ensures.value in
    let second = c.put_word-2.ensures.word ∙ c.second_word.ensures in
    let size = small_size (kind_of c.args.head.now.body) ne in
    let written = written_of_words (kind_of c.args.head.now.body) c.args.s.now bytes c.requires.fits c.first_word.ensures.num_prb first second
    (offset_none (kind_of c.args.head.now.body) c.args.s.now.freq_offset bytes ne) (λ is. absurd (ne is)) in
    record {
      size = size;
      short = omega arith;
      written = written;
      rest = λ k h. c.put_word-2.ensures.others k (inr h) ∙ c.put_word.ensures.others k (inr (omega arith));
      message = λ front ss. message_put c.args.head.now ss c.args.s.now front bytes 8 size (omega arith) written;
      read_back = λ shape front ss. put_back shape c.args.head.now ss c.args.s.now front bytes 8 size (omega arith) written;
    }
