-- A delay, and the frame whose time on the way it is.
use Rattle.std.specs.Prelude.{◌≡◌, ℕ, ℤ, pos, ◌+ℤ◌, ◌*ℤ◌, Contains}
use Rattle.air_source.specs.declared.events.Side.{Side}
use Rattle.delay_laws.specs.Delays.{HasDelay, IsWholeCompensation}
use Rattle.delay_laws.specs.Nodes.{measured, node_of, timed}
use Rattle.delay_laws.specs.Ticks.{Flight, Setting, State}
use Rattle.air_source.specs.Units.{other}
use Rattle.fh_base.specs.declared.nanoseconds.TheConstants.{NANOSECOND}

-- The delay of an id is that of the one request, which a unit sent in a frame: it is measured from the time at which this was sent to
-- that at which a copy of it was received by the other unit, which is the copy's time on the way later.
pub record IsMeasured (w : Setting) (s : State) (id : ℕ) (delay : ℤ) : Type 0 where
  pub side : Side
  pub has : HasDelay (w.comps side) (w.comps (other side)) (node_of side (measured w.comps id s.heard)) (node_of (other side) (measured w.comps id s.heard)) delay
  pub frame : Flight
  pub sent : Contains (s.sent (other side)) frame
  pub is : timed frame.at frame.message ≡ has.request
  pub way : ℤ
  pub of : Contains frame.delays way
  pub took : has.copy.at ≡ frame.at +ℤ way

-- Two compensations enter it: that of the request's sender at sending, and that of its receiver at receiving. Where both are whole
-- nanoseconds, whatever the other two are, it is exactly the copy's time on its way.
pub record IsMeasuredExactly (w : Setting) (s : State) (id : ℕ) (delay : ℤ) : Type 0 where
  pub of_request : IsMeasured w s id delay
  pub exact : IsWholeCompensation (w.comps of_request.side).sending → IsWholeCompensation (w.comps (other of_request.side)).receiving
      → (pos NANOSECOND *ℤ delay) ≡ (pos 65536 *ℤ of_request.way)
