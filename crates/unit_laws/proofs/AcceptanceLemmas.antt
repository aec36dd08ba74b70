-- The tests that an accepted command passed.
use Rattle.std.proofs.Common.{◌≡◌, Bool, true, false, List, refl}
use Rattle.std.specs.Prelude.{if◌then◌else◌}
use Rattle.fh_base.specs.Carrier.{is_outside}
use Rattle.window_config.specs.declared.verdicts.Class.{Class}
use Rattle.window_config.specs.declared.verdicts.Class.TheVariants as class
use Rattle.unit_model.specs.Claims.{repeats, overlaps}
use Rattle.unit_model.specs.Commands.{command_verdict, command_class, verdict_in, timely_verdict, is_for, is_full, allocation_of}
use Rattle.unit_model.specs.declared.allocations.Allocation.{Allocation}
use Rattle.unit_model.specs.declared.verdicts.CommandVerdict.TheVariants.{Mismatch, Range, Repeat, Overlap, Full, Accepted}
use Rattle.unit_laws.specs.Acceptance.{AcceptedIsAcceptable}

chosen : (outside again over full : Bool)
    → (if outside then Range else (if again then Repeat else (if over then Overlap else (if full then Full else Accepted)))) ≡ Accepted
    → (outside ≡ false) × (again ≡ false) × (over ≡ false) × (full ≡ false)
chosen true again over full h = absurd cc
chosen false true over full h = absurd cc
chosen false false true full h = absurd cc
chosen false false false true h = absurd cc
chosen false false false false h = (refl, refl, refl, refl)

in_time : (k : Class) (earlier : List Allocation) (a : Allocation) → verdict_in k earlier a ≡ Accepted
    → (k ≡ class.OnTime) × (timely_verdict earlier a ≡ Accepted)
in_time class.Late earlier a h = absurd cc
in_time class.Early earlier a h = absurd cc
in_time class.OnTime earlier a h = (refl, h)

same : (b : Bool) (k : Class) (earlier : List Allocation) (a : Allocation) → (if b then verdict_in k earlier a else Mismatch) ≡ Accepted
    → (b ≡ true) × (verdict_in k earlier a ≡ Accepted)
same true k earlier a h = (refl, h)
same false k earlier a h = absurd cc

pub accepted_is_acceptable : AcceptedIsAcceptable
unfolding command_verdict
accepted_is_acceptable d earlier c h =
    let a = allocation_of c in
    let one = same (is_for c.head.body c.endpoint.numerology) (command_class d c) earlier a h in
    let two = in_time (command_class d c) earlier a one.1 in
    let rest = chosen (is_outside a.endpoint.prbs a.start_prb a.num_prb) (repeats earlier a) (overlaps earlier a) (is_full earlier a) two.1 in
    record { fits = one.0; on_time = two.0; within = rest.0; new = rest.1; apart = rest.2; room = rest.3 }
