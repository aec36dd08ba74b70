-- Blocks that are found before others, the window of uplink data, and what holds of the data that were received on time.
use Rattle.std.proofs.Common.{◌≡◌, All, ◌∷◌, true, false, List, [], refl, arith}
use Rattle.std.specs.Prelude.{Option, Some, None, is_some}
use Rattle.std.proofs.lemmas.Int.{ints}
use Rattle.std.proofs.lemmas.List.Elements.{All-nil, All-cons, All-head, All-tail}
use Rattle.air_source.specs.declared.events.Side.{Side}
use Rattle.window_config.specs.Limits.{IsWithinLimits, IsWindow}
use Rattle.window_config.specs.declared.delays.Delays.{Delays}
use Rattle.window_config.specs.declared.verdicts.Class.{Class}
use Rattle.window_config.specs.declared.verdicts.Class.TheVariants as class
use Rattle.unit_model.specs.Blocks.{timely, with_timely, data_class}
use Rattle.fh_base.specs.Lists.{or_else}
use Rattle.unit_model.specs.declared.cells.Block.{Block}
use Rattle.unit_model.specs.declared.decoded.UserSection.{UserSection}

-- one that is found takes the place of the one before it
pub newer_found : (b found : Option Block) → is_some b ≡ true → b ≡ or_else b found
newer_found (Some y) found h = refl
newer_found None found h = absurd cc

pub older_found : (b found : Option Block) → is_some b ≡ false → found ≡ or_else b found
older_found (Some y) found h = absurd cc
older_found None found h = refl

-- the window of uplink data, as configured
pub data_up_window : (d : Delays) → IsWithinLimits d → IsWindow d.ta4
data_up_window d is = record {
  min = record { low = is.ta4.low; high = omega (arith, ints, is.ta4.order, is.ta4.high) };
  max = record { low = omega (arith, ints, is.ta4.low, is.ta4.order); high = omega (arith, ints, is.ta4.high) };
}

pub ruleset windows = (data_up_window)

pub kept_timely : (P : UserSection → Type 0) (k : Class) (d : UserSection) (ds : List UserSection) → P d → All P ds → All P (with_timely k d ds)
kept_timely P class.OnTime d ds here all = All-cons P d ds here all
kept_timely P class.Late d ds here all = all
kept_timely P class.Early d ds here all = all

pub all_timely : (P : UserSection → Type 0) (side : Side) (delays : Delays) (ds : List UserSection) → All P ds → All P (timely side delays ds)
unfolding timely
all_timely P side delays [] h = All-nil P
all_timely P side delays (d ∷ earlier) h =
    kept_timely P (data_class side delays d) d (timely side delays earlier) (All-head P d earlier h) (all_timely P side delays earlier (All-tail P d earlier h))
