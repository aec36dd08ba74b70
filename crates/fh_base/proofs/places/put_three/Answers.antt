use Rattle.std.proofs.Common.{◌≡◌, ◌+◌, ◌++◌, take, ap, ◌∙◌, arith}
use Rattle.std.proofs.lemmas.List.{length-take-le}
use Rattle.fh_base.proofs.Ladder.{taken_part}
use Rattle.fh_base.proofs.places.put_three.Goals as goal

pub returns-clause-text : goal.returns-clause-text
returns-clause-text c =
    let front = take c.args.at c.args.into.now in
    let four : c.args.at + 4 ≡ c.put_text.result = omega (arith, c.put_text.ensures.end) in
    taken_part front c.row-count.result.0 c.put_text.new.into c.args.at 4 c.row-count.result.1 (length-take-le c.args.at c.args.into.now (omega (arith, c.requires.room, c.told-into))) (omega (arith, c.row-count.ensures.count))
    (ap (λ n. take n c.put_text.new.into) four ∙ c.put_text.ensures.text)
    ∙ ap (λ t. front ++ t) c.row-count.ensures.text
