use Rattle.std.proofs.Common.{Bool, false, ◌||◌, get_or, ap, ◌∙◌}
use Rattle.idle_text.proofs.FlagLemmas.{all_set}
use Rattle.idle_text.proofs.flags.set_slots.Goals as goal

pub returns : goal.returns
returns c k below =
    c.loop-k.invariant.set k below
    ∙ ap (λ (t : Bool). get_or c.args.flags.now k false || t) (all_set c.args.first c.args.len c.args.symbols k c.loop-k.k c.requires.some c.loop-k-test.false)
