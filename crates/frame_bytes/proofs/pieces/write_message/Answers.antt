use Rattle.std.proofs.Common.{◌≡◌, ◌++◌, [], length, take, refl, sym, ap, ◌∙◌, arith, rules, append-nil, append_assoc, length-append, get_or}
use Rattle.std.proofs.lemmas.List.{take_all}
use Rattle.frame_bytes.specs.Spelled.{in_bytes}
use Rattle.frame_bytes.specs.Messages.{head_fields, sections_of, section_of, message_of}
use Rattle.frame_bytes.proofs.DataFields.{head_is}
use Rattle.frame_bytes.proofs.Sections.{no_section, size_last, size_within, sections_last, length_sections, length_head}
use Rattle.frame_bytes.proofs.CutBytes.{stands_none}
use Rattle.frame_bytes.proofs.pieces.write_message.Goals as goal

pub loop-number-init : goal.loop-number-init
loop-number-init g c = (
  c.write_cut.ensures.len,
  refl,
  λ blocks said.
      let head = head_is c.args.message.now.head c.put_head.result (λ i. search rules) c.put_head.ensures.written in
      let written = c.write_cut.ensures.stands [] refl (stands_none c.args.span [] c.args.into.now (omega arith)) in
      let all = head ∙ sym (append-nil (in_bytes (head_fields c.args.message.now.head))) in
      rw all at written,
)

pub write_section-place-requires-clause-place : goal.write_section-place-requires-clause-place
write_section-place-requires-clause-place g c =
    omega (arith, c.loop-number.invariant.1, c.requires.fits.size, size_within c.args.message.now.carrier c.loop-number.number c.args.message.now.sections.now no_section c.loop-number-test.true)

pub loop-number-preserved : goal.loop-number-preserved
loop-number-preserved g c =
    let inv = c.loop-number.invariant in
    let n = c.loop-number.number in
    let ss = c.args.message.now.sections.now in
    let carrier = c.args.message.now.carrier in
    let front = in_bytes (head_fields c.args.message.now.head) in (
      c.write_section-place.ensures.len ∙ inv.0,
      omega (arith, inv.1, c.write_section-place.ensures.end, size_last carrier n ss no_section c.loop-number-test.true),
      λ blocks said.
          let here = sections_of carrier blocks 0 (take n ss) in
          let place : length (front ++ here) ≡ c.loop-number.place =
          omega (arith, inv.1, length-append front here, length_head c.args.message.now.head, length_sections carrier blocks 0 (take n ss)) in
          let written = c.write_section-place.ensures.stands (blocks n) (said n c.loop-number-test.true) (front ++ here) place (inv.2 blocks said) in
          let all = append_assoc front here (section_of carrier (blocks n) (get_or ss n no_section)) ∙ ap (λ xs. front ++ xs) (sym (sections_last carrier blocks n ss no_section c.loop-number-test.true)) in
          rw all at written,
    )

pub returns-clause-stands : goal.returns-clause-stands
unfolding message_of
returns-clause-stands g c blocks said =
    let ss = c.args.message.now.sections.now in
    let stands = c.loop-number.invariant.2 blocks said in
    let whole : take c.loop-number.number ss ≡ ss = take_all c.loop-number.number ss (search rules) in
    rw whole at stands
