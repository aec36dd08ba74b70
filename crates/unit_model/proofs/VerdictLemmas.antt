-- What an accepted command names.
use Rattle.std.proofs.Common.{◌≡◌, Bool, true, false, List, [], ◌∷◌, All, refl}
use Rattle.std.specs.Prelude.{if◌then◌else◌}
use Rattle.std.proofs.lemmas.List.Elements.{All-nil, All-cons, All-head, All-tail}
use Rattle.fh_base.specs.Carrier.{is_outside}
use Rattle.window_config.specs.declared.delays.Delays.{Delays}
use Rattle.window_config.specs.declared.endpoints.EndpointConfig.{EndpointConfig}
use Rattle.window_config.specs.declared.verdicts.Class.{Class}
use Rattle.window_config.specs.declared.verdicts.Class.TheVariants as class
use Rattle.unit_model.specs.Claims.{repeats, overlaps}
use Rattle.unit_model.specs.Commands.{command_verdict, command_class, verdict_in, is_for, is_full, accepted, with_accepted, allocation_of}
use Rattle.unit_model.specs.Proper.{IsProperCommand, IsProperAllocation}
use Rattle.unit_model.specs.declared.allocations.Allocation.{Allocation}
use Rattle.unit_model.specs.declared.decoded.ControlSection.{ControlSection}
use Rattle.unit_model.specs.declared.verdicts.CommandVerdict.{CommandVerdict}
use Rattle.unit_model.specs.declared.verdicts.CommandVerdict.TheVariants.{Mismatch, Late, Early, Range, Repeat, Overlap, Full, Accepted}
use Rattle.unit_model.proofs.SlotLemmas.{command_slot_is}
use Rattle.unit_model.proofs.SoundLemmas.{sound_command}

chosen_within : (outside again over full : Bool)
    → (if outside then Range else (if again then Repeat else (if over then Overlap else (if full then Full else Accepted)))) ≡ Accepted → outside ≡ false
chosen_within true again over full h = absurd cc
chosen_within false again over full h = refl

class_within : (k : Class) (accepted : List Allocation) (a : Allocation) → verdict_in k accepted a ≡ Accepted → is_outside a.endpoint.prbs a.start_prb a.num_prb ≡ false
class_within class.Late accepted a h = absurd cc
class_within class.Early accepted a h = absurd cc
class_within class.OnTime accepted a h =
    chosen_within (is_outside a.endpoint.prbs a.start_prb a.num_prb) (repeats accepted a) (overlaps accepted a) (is_full accepted a) h

same_within : (b : Bool) (k : Class) (accepted : List Allocation) (a : Allocation) → (if b then verdict_in k accepted a else Mismatch) ≡ Accepted
    → is_outside a.endpoint.prbs a.start_prb a.num_prb ≡ false
same_within true k accepted a h = class_within k accepted a h
same_within false k accepted a h = absurd cc

pub accepted_within : (d : Delays) (accepted : List Allocation) (c : ControlSection) → command_verdict d accepted c ≡ Accepted
    → is_outside c.endpoint.prbs c.section.start_prb c.section.num_prb ≡ false
unfolding command_verdict
accepted_within d accepted c h = same_within (is_for c.head.body c.endpoint.numerology) (command_class d c) accepted (allocation_of c) h

pub accepted_proper : (es : List EndpointConfig) (d : Delays) (accepted : List Allocation) (c : ControlSection) → IsProperCommand es c
    → command_verdict d accepted c ≡ Accepted → IsProperAllocation es (allocation_of c)
accepted_proper es d accepted c is h = record {
  endpoint = is.endpoint;
  slot = command_slot_is c (sound_command es c is);
  within = is.within;
  prbs = accepted_within d accepted c h;
}

-- so all that was accepted is
pub kept_proper : (es : List EndpointConfig) (v : CommandVerdict) (a : Allocation) (earlier : List Allocation) → (v ≡ Accepted → IsProperAllocation es a)
    → All (IsProperAllocation es) earlier → All (IsProperAllocation es) (with_accepted v a earlier)
kept_proper es Mismatch a earlier here all = all
kept_proper es Late a earlier here all = all
kept_proper es Early a earlier here all = all
kept_proper es Range a earlier here all = all
kept_proper es Repeat a earlier here all = all
kept_proper es Overlap a earlier here all = all
kept_proper es Full a earlier here all = all
kept_proper es Accepted a earlier here all = All-cons (IsProperAllocation es) a earlier (here refl) all

pub all_accepted : (es : List EndpointConfig) (d : Delays) (cs : List ControlSection) → All (IsProperCommand es) cs → All (IsProperAllocation es) (accepted d cs)
unfolding accepted
all_accepted es d [] h = All-nil (IsProperAllocation es)
all_accepted es d (c ∷ earlier) h =
    kept_proper es (command_verdict d (accepted d earlier) c) (allocation_of c) (accepted d earlier)
    (accepted_proper es d (accepted d earlier) c (All-head (IsProperCommand es) c earlier h))
    (all_accepted es d earlier (All-tail (IsProperCommand es) c earlier h))
