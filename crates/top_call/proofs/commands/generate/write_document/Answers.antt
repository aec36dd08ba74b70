use Rattle.std.proofs.Common.{◌≡◌, ◌∙◌, List, ℕ, refl, subst}
use Rattle.fh_document.specs.Generated.{generated}
use Rattle.top_call.specs.Run.{Performs}
use Rattle.top_call.specs.declared.status.Status.TheVariants.{Done}
use Rattle.top_call.proofs.Written.{put_as}
use Rattle.top_call.proofs.commands.generate.write_document.Goals as goal

pub returns-in-Ok : goal.returns-in-Ok
returns-in-Ok g c =
    let w = g.K.Sink.written in
    let f = g.K.Sink.faults in
    let bytes = c.as_slice.result.now in
    let same : bytes ≡ generated c.args.seed c.args.slots = c.as_slice.ensures ∙ c.in-Ok.ensures in
    subst
    (λ (t : List ℕ). Performs (record { text = t; status = Done }) (w c.args.out.now) (w c.write_all_to.new.sink) (f c.args.out.now) (f c.write_all_to.new.sink) c.ending_of.result) same
    (put_as (record { text = bytes; status = Done }) _ _ _ _ _ _ c.write_all_to.result Done _ c.ending_of.ensures refl tt
    c.write_all_to.ensures.ok c.write_all_to.ensures.front c.write_all_to.ensures.part c.write_all_to.ensures.cause)
