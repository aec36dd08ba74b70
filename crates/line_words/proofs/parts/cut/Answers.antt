use Rattle.std.proofs.Common.{sym, ap, ◌∙◌, ◌+◌, ◌∷◌, take}
use Rattle.std.specs.Prelude.{◌==◌}
use Rattle.std.specs.List.{slice_split}
use Rattle.line_words.proofs.Cuts.{cut_nowhere, cut_first}
use Rattle.line_words.proofs.parts.cut.Goals as goal
use Rattle.std.proofs.lemmas.List.{take_rest}

pub returns-in-Some-clause-parts : goal.returns-in-Some-clause-parts
returns-in-Some-clause-parts c =
    let first = c.in-Some.ensures in
    cut_first (λ b. b == c.args.separator) c.args.bytes.now c.in-Some.end first.0 first.1
    ∙ ap (λ rest. take c.in-Some.end c.args.bytes.now ∷ slice_split (λ b. b == c.args.separator) rest) (sym (take_rest c.args.bytes.now (c.in-Some.end + 1)))

pub returns-in-None-clause-parts : goal.returns-in-None-clause-parts
returns-in-None-clause-parts c = cut_nowhere (λ b. b == c.args.separator) c.args.bytes.now c.in-None.ensures
