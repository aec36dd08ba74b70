use Rattle.std.proofs.Common.{ap, ◌∙◌}
use Rattle.frame_ways.specs.Copies.{copies_of as copies_in}
use Rattle.document_texts.proofs.CopyLemmas.{short_copies}
use Rattle.document_texts.proofs.frames.copies_of.Goals as goal

pub returns : goal.returns
returns c =
    c.copies.ensures.times ∙ ap (copies_in c.args.deliveries.now.document c.args.deliveries.now.side c.args.class) c.capped.ensures ∙ short_copies c.args.deliveries.now.document c.requires c.args.deliveries.now.side c.args.class c.args.number
