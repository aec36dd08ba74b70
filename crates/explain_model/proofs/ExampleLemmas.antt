-- The definitions compute what was worked out by hand.
use Rattle.std.proofs.Common.{refl}
use Rattle.bfp_codec.specs.Field.{field}
use Rattle.fh_base.specs.Frame.{absolute_frame}
use Rattle.fh_base.specs.Lists.{each, in_order, put_in, some}
use Rattle.plan_model.specs.Lines.{planned_from}
use Rattle.explain_model.specs.Pieces.{pieces}
use Rattle.explain_model.specs.Sections.{symbol_named}
use Rattle.explain_model.specs.Commanded.{accepted_command, command_reason, is_named_by, nearest}
use Rattle.explain_model.specs.Examples.{AreAsWorked, FragmentsAreAsWorked, LateIsAsWorked, LostFragmentIsAsWorked, NearestIsAsWorked, OverlapIsAsWorked, SilentIsAsWorked}
use Rattle.explain_model.specs.Fragments.{beginnings_after, grown, is_of_another, repeated_after, stands_at_last}
use Rattle.explain_model.specs.Missing.{missing_cells, missing_lines}
use Rattle.explain_model.specs.SilentReasons.{came_reason, covers_prb, giver_of, header_reason, last_of, missing_reason, other_reason, repeated_reason, unfinished_reason, untimely_reason}
use Rattle.explain_model.specs.Seen.{is_heard, is_shown_at}
use Rattle.explain_model.specs.Silent.{bits_below, silent_lines_of, silent_mask, silent_of_line, silent_prbs, silent_symbol_lines, silent_symbols}
use Rattle.explain_model.specs.Sums.{missing_count, missing_sums, silent_count, silent_sums}
use Rattle.explain_model.specs.Unused.{each_once, in_order_of_time, symbols_given, unused_blocks, unused_lines_of, unused_of_unit, unused_symbol_lines, unused_symbols}

overlap : OverlapIsAsWorked
unfolding each in_order put_in some pieces accepted_command command_reason is_named_by nearest missing_cells missing_lines came_reason covers_prb giver_of header_reason last_of missing_reason other_reason repeated_reason unfinished_reason untimely_reason is_shown_at missing_count missing_sums each_once in_order_of_time symbols_given unused_blocks unused_lines_of unused_of_unit unused_symbol_lines unused_symbols
overlap = record { why = refl; unused = refl; sums = refl; other_unit = refl }

lost_fragment : LostFragmentIsAsWorked
unfolding some pieces accepted_command command_reason is_named_by nearest missing_cells missing_lines came_reason covers_prb giver_of header_reason last_of missing_reason other_reason repeated_reason unfinished_reason untimely_reason missing_count missing_sums
lost_fragment = record { why = refl; sums = refl; last = refl }

late : LateIsAsWorked
unfolding some pieces accepted_command command_reason is_named_by nearest missing_cells missing_lines came_reason covers_prb giver_of header_reason last_of missing_reason other_reason repeated_reason unfinished_reason untimely_reason
late = record { distance = refl; why = refl }

nearest_is : NearestIsAsWorked
unfolding some accepted_command command_reason is_named_by nearest came_reason covers_prb giver_of header_reason last_of missing_reason other_reason repeated_reason unfinished_reason untimely_reason
nearest_is = record { nearest = refl; uncovered = refl; headers = refl; asked = refl; lost = refl; late = refl }

silent : SilentIsAsWorked
unfolding each some pieces command_reason is_named_by nearest is_heard bits_below silent_lines_of silent_mask silent_of_line silent_prbs silent_symbol_lines silent_symbols silent_count silent_sums planned_from
silent = record { lost = refl; part = refl; late = refl; sums = refl; others = refl }

fragments : FragmentsAreAsWorked
unfolding field absolute_frame symbol_named beginnings_after grown is_of_another repeated_after stands_at_last
fragments = record { too_late = refl; in_time = refl; two_pieces = refl; a_copy = refl; another = refl; the_standing = refl }

pub as_worked : AreAsWorked
as_worked = record { overlap = overlap; lost_fragment = lost_fragment; late = late; nearest = nearest_is; silent = silent; fragments = fragments }
