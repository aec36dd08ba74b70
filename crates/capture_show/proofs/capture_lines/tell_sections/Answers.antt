use Rattle.std.proofs.Common.{◌≡◌, ◌∷◌, ◌++◌, [], map, ap, sym, ◌∙◌, refl}
use Rattle.cplane_sections.specs.Header.{kind_of}
use Rattle.cplane_sections.specs.Left.{left_of}
use Rattle.capture_show.specs.Messages.{section_line}
use Rattle.capture_show.proofs.Telling.{so_far_none, so_far_more, so_far_stopped}
use Rattle.capture_show.proofs.capture_lines.tell_sections.Goals as goal
use Rattle.fh_base.proofs.OwedTelling.{anyhow}

pub loop-section-init : goal.loop-section-init
loop-section-init g c =
    let left = ap left_of c.into_iter-section-iterator.ensures.into_iter_gives ∙ c.sections-section-items.ensures in
    record {
      so_far = so_far_none _ _ _ (ap (λ ss. map (section_line (kind_of c.args.head.now.body)) ss) left);
      still = refl;
    }

pub loop-section-preserved : goal.loop-section-preserved
loop-section-preserved g c =
    let f = section_line (kind_of c.args.head.now.body) in
    let rest = left_of c.next.new.self in
    let left : map f (left_of c.loop-section.section-iterator) ≡ (c.section_line.result ∷ []) ++ map f rest
    = ap (λ ss. map f ss) c.in-Some.ensures.steps ∙ ap (λ x. x ∷ map f rest) (sym c.section_line.ensures) in
    record {
      so_far = so_far_more _ _ _ _ _ (map f rest) _ left c.loop-section.invariant.so_far c.in_ok-tell.ensures.told;
      still = c.in_ok-tell.ensures.cause ∙ c.loop-section.invariant.still;
    }

pub returns-in_err-tell-clause-part : goal.returns-in_err-tell-clause-part
returns-in_err-tell-clause-part g c =
    let f = section_line (kind_of c.args.head.now.body) in
    let rest = left_of c.next.new.self in
    let left : map f (left_of c.loop-section.section-iterator) ≡ (c.section_line.result ∷ []) ++ map f rest
    = ap (λ ss. map f ss) c.in-Some.ensures.steps ∙ ap (λ x. x ∷ map f rest) (sym c.section_line.ensures) in
    anyhow c.from_residual.result (so_far_stopped _ _ _ _ _ (map f rest) _ left c.loop-section.invariant.so_far c.in_err-tell.ensures.part)
