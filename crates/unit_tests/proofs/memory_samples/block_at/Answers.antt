use Rattle.std.proofs.Common.{◌≡◌, ◌∙◌, ap, arith, length, sym}
use Rattle.std.specs.Prelude.{slice_get}
use Rattle.std.proofs.lemmas.Int.{ints}
use Rattle.fh_base.proofs.Options.{some_is}
use Rattle.unit_tests.proofs.memory_samples.block_at.Goals as goal

pub ring-requires : goal.ring-requires
ring-requires c = let one = ap length c.requires.listed in omega (arith, one)

pub block-requires : goal.block-requires
block-requires c =
    let own : c.ring.result.now.endpoint ≡ c.args.e.now = some_is _ _ (sym c.ring.ensures.endpoint ∙ ap (λ es. slice_get es 0) c.requires.listed) in
    rw own (record { low = omega (arith, ints); high = omega (arith, ints); subframe = omega arith; slot_is = c.requires.slots })
