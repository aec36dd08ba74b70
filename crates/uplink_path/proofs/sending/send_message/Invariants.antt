use Rattle.std.proofs.Common.{◌≡◌, ℕ, ◌+◌, ◌≤◌, length, ◌∷◌, []}
use Rattle.air_source.specs.Answers.{AnswersBy}
use Rattle.air_source.specs.Kept.{closure_of}
use Rattle.plan_model.specs.Packs.{Message}
use Rattle.unit_model.specs.declared.jobs.UplinkJob.{UplinkJob}
use Rattle.uplink_model.specs.Frames.{Antenna, uplink_frame_of}
use Rattle.uplink_path.specs.Sending.{IsBehind, wait_behind}
use Rattle.uplink_path.proofs.FrameLemmas.{HandedUpTo}
use Rattle.window_config.specs.declared.config.Config.{Config}
use Rattle.uplink_path.proofs.sending.send_message.Given as goal

abbrev pub invariant-loop-sub : goal.invariant-loop-sub
invariant-loop-sub g l = record {
  capped : l.next ≤ l.rules.departures.spread;
  room : length l.buffer ≡ length l.fn.buffer;
  wait : (c : Config) (m : Message UplinkJob) (n before : ℕ) → IsBehind c l.rules l.message l.number l.wait m n before → l.next ≡ wait_behind c (before + l.sub);
  sent : (c : Config) (answer : Antenna) (m : Message UplinkJob) (n before : ℕ) → AnswersBy (λ p w. goal.F-post g (closure_of l.antenna) p w) answer
      → IsBehind c l.rules l.message l.number l.wait m n before
      → HandedUpTo (λ k. uplink_frame_of c answer l.endpoint m n before k ∷ []) l.sub l.count (g.L.Link.sent l.fn.link) (g.L.Link.sent l.link);
}
