use Rattle.std.proofs.Common.{◌++◌, ℕ, List, [], refl, ap, ◌∙◌}
use Rattle.std.specs.Prelude.{◌==◌}
use Rattle.std.specs.List.{flat_map, slice_split}
use Rattle.line_words.specs.Words.{parts_left}
use Rattle.fh_base.specs.CarriedLaws.{carried_more, carried_none}
use Rattle.fh_base.proofs.OwedTelling.{anyhow}
use Rattle.pictures.specs.Looks.{line_text}
use Rattle.pictures.specs.Picture.{cells_text}
use Rattle.pictures.proofs.Writing.{line_cut, line_said}
use Rattle.pictures.proofs.drawing.tell_lines.Goals as goal

pub lines-init : goal.lines-init
unfolding cells_text
lines-init g c = record {
  told = [];
  carried = carried_none (g.K.Sink.written c.args.out.now) c.args.owed.now;
  says = ap (λ (t : List ℕ). flat_map (line_text c.args.span c.args.endpoints.now) (slice_split (λ b. b == 10) t)) c.without_last_feed.ensures;
  still = refl;
}

pub returns-in_err-tell_line-clause-front : goal.returns-in_err-tell_line-clause-front
returns-in_err-tell_line-clause-front g c =
    anyhow c.from_residual.result
    (line_cut (line_text c.args.span c.args.endpoints.now) (parts_left 10 c.lines.rest) (parts_left 10 c.cut.result.1) c.cut.result.0.now c.lines.invariant.told _ _ _ _ _ _
    (ap (parts_left 10) c.in-Some.is ∙ c.cut.ensures.parts) c.lines.invariant.says c.lines.invariant.carried c.in_err-tell_line.ensures.front)

pub lines-preserved : goal.lines-preserved
lines-preserved g c = record {
  told = c.lines.invariant.told ++ line_text c.args.span c.args.endpoints.now c.cut.result.0.now;
  carried = carried_more _ _ _ _ _ _ c.lines.invariant.told (line_text c.args.span c.args.endpoints.now c.cut.result.0.now) c.lines.invariant.carried c.in_ok-tell_line.ensures.carried;
  says =
      line_said (line_text c.args.span c.args.endpoints.now) (parts_left 10 c.lines.rest) (parts_left 10 c.cut.result.1) c.cut.result.0.now c.lines.invariant.told _
      (ap (parts_left 10) c.in-Some.is ∙ c.cut.ensures.parts) c.lines.invariant.says;
  still = c.in_ok-tell_line.ensures.cause ∙ c.lines.invariant.still;
}
