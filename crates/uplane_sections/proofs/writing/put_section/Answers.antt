use Rattle.std.proofs.Common.{◌≡◌, true, false, inl, refl, ◌∙◌, arith}
use Rattle.std.proofs.lemmas.List.{get_or-drop}
use Rattle.bfp_codec.proofs.Field.{field_same}
use Rattle.bfp_codec.specs.declared.methods.Format.{Format}
use Rattle.uplane_sections.specs.Section.{header_size}
use Rattle.uplane_sections.proofs.Words.{word_written, compression_written, static_written, dynamic_written}
use Rattle.uplane_sections.proofs.Back.{section_back}
use Rattle.uplane_sections.proofs.writing.put_section.Goals as goal
use Rattle.fh_base.proofs.Orders.{is_false, is_true}

static_size : (format : Format) → format.dynamic ≡ false → 4 ≡ header_size format
static_size format is = rw is refl

dynamic_size : (format : Format) → format.dynamic ≡ true → 6 ≡ header_size format
dynamic_size format is = rw is refl

pub returns-then-not-format-clause-written : goal.returns-then-not-format-clause-written
returns-then-not-format-clause-written c =
    let s = c.args.s.now in
    let bytes = c.put_word.new.into in
    let is = is_false c.args.format.dynamic c.if-not-format.true in
    let w = word_written s bytes c.requires.fits.id c.requires.fits.start_prb c.section_word.ensures.num_prb (c.put_word.ensures.word ∙ c.section_word.ensures.value) in
    static_written c.args.format s bytes is (c.requires.fits.static_method is) (omega arith) w

pub returns-then-not-format-clause-read_back : goal.returns-then-not-format-clause-read_back
returns-then-not-format-clause-read_back c prbs shape =
    section_back c.args.format prbs shape c.args.s.now c.put_word.new.into 4 (static_size c.args.format (is_false c.args.format.dynamic c.if-not-format.true)) (returns-then-not-format-clause-written c)

pub returns-clause-written : goal.returns-clause-written
returns-clause-written c =
    let s = c.args.s.now in
    let one = c.put_word.new.into in
    let bytes = c.put_compression.new.into in
    let is = is_true c.args.format.dynamic c.if-not-format.false in
    let word = field_same bytes one 0 32 (λ k low high. c.put_compression.ensures.others k (inl (omega arith))) in
    let w = word_written s bytes c.requires.fits.id c.requires.fits.start_prb c.section_word.ensures.num_prb (word ∙ c.put_word.ensures.word ∙ c.section_word.ensures.value) in
    let k = compression_written s.method _ c.requires.fits.width (get_or-drop 4 bytes 0 0 ∙ c.put_compression.ensures.byte) (get_or-drop 4 bytes 1 0 ∙ c.put_compression.ensures.reserved) in
    dynamic_written c.args.format s bytes is (omega arith) w k

pub returns-clause-read_back : goal.returns-clause-read_back
returns-clause-read_back c prbs shape =
    section_back c.args.format prbs shape c.args.s.now c.put_compression.new.into 6 (dynamic_size c.args.format (is_true c.args.format.dynamic c.if-not-format.false)) (returns-clause-written c)
