use Rattle.std.proofs.Common.{sym, ap, ◌∙◌, ◌+◌, ◌∷◌, take, arith}
use Rattle.std.specs.Prelude.{◌==◌}
use Rattle.std.specs.List.{slice_split}
use Rattle.std.proofs.lemmas.List.{take_rest}
use Rattle.line_words.proofs.Cuts.{cut_at, not_cut}
use Rattle.line_words.proofs.parts.cut_near.Goals as goal

pub returns-then-end-bytes-clause-parts : goal.returns-then-end-bytes-clause-parts
returns-then-end-bytes-clause-parts c =
    let end = c.end_of-end.result in
    cut_at (λ b. b == c.args.separator) c.args.bytes.now end c.end_of-end.ensures.value c.if-end-bytes.true
    ∙ ap (λ rest. take end c.args.bytes.now ∷ slice_split (λ b. b == c.args.separator) rest) (sym (take_rest c.args.bytes.now (end + 1)))

pub returns-else-end-bytes-clause-parts : goal.returns-else-end-bytes-clause-parts
returns-else-end-bytes-clause-parts c = not_cut (λ b. b == c.args.separator) c.args.bytes.now c.end_of-end.result c.end_of-end.ensures.value (omega arith)
