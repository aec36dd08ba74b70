-- Ranges of what messages are cut by (this project's profile).
use Rattle.std.specs.Prelude.{ℕ, pos, neg_ℤ, ◌^◌, ◌<◌, ◌≤◌, ◌≤ℤ◌, Option, IfSome}
use Rattle.du_scheduler.specs.Parts.{IsTimed}
use Rattle.du_scheduler.specs.declared.limits.Limits.{Limits}
use Rattle.du_scheduler.specs.declared.open_messages.OpenMessage.{OpenMessage}
use Rattle.window_config.specs.declared.config.TheConstants.{MESSAGE_SECTIONS, MOST_FRAGMENT, LEAST_FRAGMENT}
use Rattle.unit_model.specs.Terms.{MESSAGE_BYTES}

abbrev pub IsFragment : Option ℕ → Type 0
IsFragment o = IfSome o (λ n. (LEAST_FRAGMENT ≤ n) × (n ≤ MOST_FRAGMENT))

pub record IsLimits (l : Limits) : Type 0 where
  pub fragment : IsFragment l.fragment
  pub pack : l.pack ≤ MESSAGE_SECTIONS
  pub from_low : neg_ℤ (pos (2 ^ 33)) ≤ℤ l.departures.from.0
  pub from_high : l.departures.from.0 ≤ℤ pos (2 ^ 33)
  pub gap : l.departures.gap < 2 ^ 33
  pub spread : l.departures.spread < 2 ^ 33

pub record IsOpenMessage (l : Limits) (m : OpenMessage) : Type 0 where
  pub first : IsTimed m.first
  pub parts : m.size.parts ≤ 65
  pub bytes : m.size.bytes ≤ MESSAGE_BYTES
  pub wait : m.wait ≤ l.departures.spread
