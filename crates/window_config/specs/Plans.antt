-- What the numbers of a plan's line may be as they are written, before they are tested against an endpoint (this project's
-- profile; the widths are those of the C-plane's fields).
use Rattle.std.specs.Prelude.{pos, ◌^◌, ◌<◌, ◌≤ℤ◌}
use Rattle.window_config.specs.declared.plan.PlanLine.{PlanLine}
use Rattle.window_config.specs.declared.plan.TheConstants.{LAST_FRAME}

pub record IsPlanLine (l : PlanLine) : Type 0 where
  pub frame_low : pos 1 ≤ℤ l.slot.frame
  pub frame_high : l.slot.frame ≤ℤ pos LAST_FRAME
  pub subframe : l.slot.subframe < 10
  pub slot : l.slot.slot < 2 ^ 6
  pub symbol : l.symbol < 2 ^ 6
  pub count : l.count < 2 ^ 4
  pub start_prb : l.start_prb < 2 ^ 10
  pub mask : l.mask < 2 ^ 12
  pub section : l.section < 2 ^ 12
  pub beam : l.beam < 2 ^ 15
