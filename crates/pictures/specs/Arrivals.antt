-- What arrived, and when.
use Rattle.std.specs.Prelude.{ℕ, ℤ, pos, neg_ℤ, ◌^◌, ◌+ℤ◌, ◌-ℤ◌, ◌≤ℤ◌, Bool, true, false, Option, Some, None, if◌then◌else◌, int_lt}
use Rattle.pictures.specs.declared.arrivals.Arrival.{Arrival}
use Rattle.pictures.specs.declared.arrivals.Flow.{Flow}
use Rattle.pictures.specs.declared.arrivals.Flow.TheVariants.{DownlinkCommands, UplinkCommands, DownlinkData, UplinkData}
use Rattle.pictures.specs.declared.arrivals.Kind.{Kind}
use Rattle.pictures.specs.declared.arrivals.Kind.TheVariants.{OnTime, Late, Early}
use Rattle.pictures.specs.declared.arrivals.Margins.{Margins}
use Rattle.pictures.specs.declared.windows.Window.{Window}
use Rattle.pictures.specs.declared.windows.Windows.{Windows}
use Rattle.pictures.specs.Windows.{column_of}

-- a number of at most 16 digits
pub record IsMargin (z : ℤ) : Type 0 where
  pub low : neg_ℤ (pos (10 ^ 16)) ≤ℤ z
  pub high : z ≤ℤ pos (10 ^ 16)

-- the window in which a flow is awaited
abbrev pub awaited_of : Windows → Flow → Window
awaited_of ws DownlinkCommands = ws.t2a_cp_dl
awaited_of ws UplinkCommands = ws.t2a_cp_ul
awaited_of ws DownlinkData = ws.t2a_up
awaited_of ws UplinkData = ws.ta4

-- the radio unit awaits before the symbol, the distributed unit after it
abbrev pub is_after : Flow → Bool
is_after DownlinkCommands = false
is_after UplinkCommands = false
is_after DownlinkData = false
is_after UplinkData = true

abbrev pub opens_of : Flow → Window → ℤ
opens_of flow w = if is_after flow then pos w.min else neg_ℤ (pos w.max)

abbrev pub closes_of : Flow → Window → ℤ
closes_of flow w = if is_after flow then pos w.max else neg_ℤ (pos w.min)

-- late where it was there after the closing, else early where it began before the opening
abbrev pub kind_of : Margins → Kind
kind_of m = if int_lt m.until (pos 0) then Late else (if int_lt m.since (pos 0) then Early else OnTime)

-- when the first and the last arrival of a message were
abbrev pub first_of : Flow → Window → Margins → ℤ
first_of flow w m = opens_of flow w +ℤ m.since

abbrev pub end_of : Flow → Window → Margins → ℤ
end_of flow w m = closes_of flow w -ℤ m.until

-- the column of the last arrival; none where it is the first, of which it differs by up to 1 as both were rounded down
abbrev pub last_of : Windows → ℤ → ℤ → Option ℕ
last_of ws first last = if int_lt (first +ℤ pos 1) last then Some (column_of ws last) else None

-- a section with its margins
unfoldable pub arrival_of : Windows → Flow → Margins → Arrival
arrival_of ws flow m = record {
  flow = flow;
  kind = kind_of m;
  first = column_of ws (first_of flow (awaited_of ws flow) m);
  last = last_of ws (first_of flow (awaited_of ws flow) m) (end_of flow (awaited_of ws flow) m);
  margins = m;
}
