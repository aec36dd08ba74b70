use Rattle.std.proofs.Common.{◌+◌, ◌++◌, [], drop, rules, refl, ◌∙◌}
use Rattle.std.specs.Prelude.{codes}
use Rattle.std.proofs.lemmas.Result.{on_ok_weaker, on_err_weaker}
use Rattle.fh_document.specs.LineWords.{hex_text}
use Rattle.pcap_lines.proofs.Hex.{hex_slice_before, hex_rest}
use Rattle.pcap_lines.proofs.Telling.{so_far_more, so_far_all, so_far_stopped}
use Rattle.pcap_lines.proofs.words.tell_digits.Goals as goal
use Rattle.fh_base.proofs.OwedTelling.{anyhow}

pub returns-in_err-tell_piece-clause-part : goal.returns-in_err-tell_piece-clause-part
returns-in_err-tell_piece-clause-part g c =
    let place = c.loop-place.place in
    anyhow c.from_residual.result
    (so_far_stopped _ _ _ _ _ _ _ _ (hex_text (drop (place + 512) c.args.bytes.now) ++ codes "\n") (hex_slice_before c.args.bytes.now (codes "\n") place 512)
    c.loop-place.invariant.so_far c.in_err-tell_piece.ensures.part)

pub loop-place-preserved : goal.loop-place-preserved
loop-place-preserved g c =
    let place = c.loop-place.place in
    record {
      within = search rules;
      so_far = so_far_more _ _ _ _ _ _ _ _ _ (hex_text (drop (place + 512) c.args.bytes.now) ++ codes "\n") (hex_slice_before c.args.bytes.now (codes "\n") place 512)
          c.loop-place.invariant.so_far c.in_ok-tell_piece.ensures.carried;
      still = c.in_ok-tell_piece.ensures.cause.faults ∙ c.loop-place.invariant.still;
      refused_still = c.in_ok-tell_piece.ensures.cause.refusals ∙ c.loop-place.invariant.refused_still;
    }

pub returns-clause-carried : goal.returns-clause-carried
returns-clause-carried g c =
    on_ok_weaker c.tell_last.result
    (λ h. so_far_all _ _ _ _ _ [] refl (so_far_more _ _ _ _ _ _ _ _ _ [] (hex_rest c.args.bytes.now (codes "\n") c.loop-place.place) c.loop-place.invariant.so_far h))
    c.tell_last.ensures.carried

pub returns-clause-part : goal.returns-clause-part
returns-clause-part g c =
    on_err_weaker c.tell_last.result
    (λ h. so_far_stopped _ _ _ _ _ _ _ _ [] (hex_rest c.args.bytes.now (codes "\n") c.loop-place.place) c.loop-place.invariant.so_far h)
    c.tell_last.ensures.part
