-- The definitions compute what was worked out by hand.
use Rattle.std.proofs.Common.{refl}
use Rattle.fh_base.specs.Lists.{each, put_in, in_order, some}
use Rattle.plan_model.specs.Examples.{PacksAreAsWorked, NumbersAreAsWorked, DeparturesAreAsWorked, RefusalsAreAsWorked, PartsAreAsWorked, DenseAreAsWorked, nineteen}
use Rattle.plan_model.specs.Dense.{first_near}
use Rattle.plan_model.specs.Lines.{planned_from}
use Rattle.plan_model.specs.Packs.{packs_behind, frames_before, numbered_behind}
use Rattle.plan_model.specs.Streams.{symbol_parts}
use Rattle.plan_model.specs.Validity.{refused_from}

pub packs : PacksAreAsWorked
unfolding packs_behind
packs = record {
  greatest_section = refl;
  nine_frames = refl;
  one_frame = refl;
  whole_frames = refl;
  in_pairs = refl;
  alone = refl;
  filters = refl;
  symbols = refl;
  fits = refl;
  too_long = refl;
}

pub numbers : NumbersAreAsWorked
unfolding numbered_behind frames_before
numbers = record { places = refl }

pub departures : DeparturesAreAsWorked
departures = record { first = refl; second = refl; third = refl; fourth = refl; down_command = refl; up_command = refl; up_data = refl }

pub refusals : RefusalsAreAsWorked
unfolding refused_from some
refusals = record {
  twice = refl;
  two_ids = refl;
  one_id = refl;
  in_part = refl;
  with_idle = refl;
  both_ways = refl;
  all_prbs = refl;
  past_carrier = refl;
  no_mask = refl;
  no_slot = refl;
  last_symbol = refl;
  no_symbol = refl;
  unknown = refl;
}

pub parts : PartsAreAsWorked
unfolding planned_from symbol_parts packs_behind in_order put_in
parts = record {
  by_line = refl;
  by_prb = refl;
  other_symbol = refl;
  other_way = refl;
  idle_command = refl;
  idle_data = refl;
  one_message = refl;
  two_messages = refl;
}

pub dense : DenseAreAsWorked
unfolding nineteen each first_near
dense = record { down = refl; up = refl; near = refl; apart = refl; least = refl; first_of_two = refl }
