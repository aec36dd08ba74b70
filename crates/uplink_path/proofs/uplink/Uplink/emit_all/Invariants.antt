use Rattle.std.proofs.Common.{◌≡◌, List, length}
use Rattle.air_source.specs.Kept.{closure_of}
use Rattle.plan_model.specs.Packs.{Message}
use Rattle.ru_buffers.specs.Calls.{StandsFor}
use Rattle.ru_buffers.specs.Units.{left_up_to}
use Rattle.unit_model.specs.Standing.{History}
use Rattle.unit_model.specs.declared.jobs.UplinkJob.{UplinkJob}
use Rattle.uplink_path.specs.Emitting.{AreNumbered}
use Rattle.uplink_path.proofs.EmitLemmas.{Taken}
use Rattle.window_config.specs.declared.config.Config.{Config}
use Rattle.uplink_path.proofs.uplink.Uplink.emit_all.Given as goal

abbrev pub invariant-loop-job : goal.invariant-loop-job
invariant-loop-job g l = record {
  antenna : l.self.antenna ≡ l.initial.self.antenna;
  taken : (c : Config) (h : History) (ms : List (Message UplinkJob)) → AreNumbered c l.initial.self ms → StandsFor c l.initial.ru h
      → Taken (λ p w. goal.F-post g (closure_of l.initial.self.antenna) p w) c h ms l.self l.ru l.opened (g.L.Link.sent l.initial.link) (g.L.Link.sent l.link);
}

abbrev pub decreases-loop-job : goal.decreases-loop-job
decreases-loop-job g l = length (left_up_to l.ru.memory.cells l.ru.cursor l.ru.clock.0)
