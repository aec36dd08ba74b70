-- What was accepted and what is counted of commands, one section further.
use Rattle.std.proofs.Common.{◌≡◌, ℕ, ◌+◌, List, ◌∷◌, ap, ◌∙◌}
use Rattle.fault_counters.specs.declared.kinds.Counter.{Counter}
use Rattle.fault_counters.specs.Counts.{capped, once, times}
use Rattle.window_config.specs.declared.delays.Delays.{Delays}
use Rattle.unit_model.specs.Commands.{accepted, command_verdict, command_verdicts, with_accepted, allocation_of}
use Rattle.unit_model.specs.Counts.{command_counter, commands_counted}
use Rattle.unit_model.specs.declared.allocations.Allocation.{Allocation}
use Rattle.unit_model.specs.declared.decoded.ControlSection.{ControlSection}
use Rattle.unit_model.specs.declared.verdicts.CommandVerdict.{CommandVerdict}
use Rattle.unit_model.proofs.CountLemmas.{capped_command}

pub accepted_on : (d : Delays) (c : ControlSection) (cs : List ControlSection) (old new : List Allocation) (v : CommandVerdict) → old ≡ accepted d cs → v ≡ command_verdict d old c
    → new ≡ with_accepted v (allocation_of c) old → new ≡ accepted d (c ∷ cs)
unfolding accepted
accepted_on d c cs old new v o e n = n ∙ ap (λ w. with_accepted w (allocation_of c) old) e ∙ ap (λ xs. with_accepted (command_verdict d xs c) (allocation_of c) xs) o

pub command_count : (d : Delays) (c : ControlSection) (cs : List ControlSection) (old : List Allocation) (v : CommandVerdict) (x y n b : ℕ) (k : Counter) → old ≡ accepted d cs
    → v ≡ command_verdict d old c → x ≡ capped (n + (times (commands_counted (command_verdicts d cs)) k + b)) → y ≡ capped (x + once (command_counter v) k)
    → y ≡ capped (n + (times (commands_counted (command_verdicts d (c ∷ cs))) k + b))
unfolding command_verdicts
command_count d c cs old v x y n b k o e before now =
    capped_command x y n (once (command_counter v) k) (times (commands_counted (command_verdicts d cs)) k) b before now
    ∙ ap (λ w. capped (n + ((times (commands_counted (command_verdicts d cs)) k + once (command_counter w) k) + b))) (e ∙ ap (λ xs. command_verdict d xs c) o)
