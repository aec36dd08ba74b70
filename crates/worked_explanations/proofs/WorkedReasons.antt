-- The definitions compute what was worked out by hand.
use Rattle.std.proofs.Common.{refl}
use Rattle.std.specs.Fmt.{digits}
use Rattle.bfp_codec.specs.Field.{field}
use Rattle.fh_base.specs.Frame.{absolute_frame}
use Rattle.cplane_sections.specs.Message.{sections_of}
use Rattle.cplane_sections.specs.Tests.{walked, checked}
use Rattle.fh_base.specs.Lists.{each, in_order, put_in, every, some, onto}
use Rattle.unit_model.specs.Meetings.{meet, meetings, commands, fragments}
use Rattle.unit_model.specs.Commands.{command_verdict, accepted}
use Rattle.unit_model.specs.Claims.{claim_at, every_cell, some_cell, repeats, overlaps}
use Rattle.unit_model.specs.Blocks.{block_at, every_data_cell, has_all, data_verdict, timely}
use Rattle.unit_model.specs.Decoding.{gathered, decode, data_sections}
use Rattle.unit_model.specs.Radiated.{id_from}
use Rattle.unit_model.specs.Judgements.{judged_commands, judged_data, judged_whole, judged_in}
use Rattle.unit_model.specs.Heard.{arrivals_heard}
use Rattle.explain_model.specs.Stories.{arrival_count, told_after, stories_in}
use Rattle.explain_model.specs.Pieces.{pieces}
use Rattle.explain_model.specs.Timings.{control_timing, heading_slot, data_timing}
use Rattle.explain_model.specs.Judged.{judged_after, last_place, accepted_in, first_at, clash_in, gives, has_block, passing, fresh_count}
use Rattle.explain_model.specs.Messages.{message_lines}
use Rattle.explain_model.specs.Sections.{control_line, symbol_named, whole_line, data_line, judged_lines, story_lines}
use Rattle.explain_model.specs.Cells.{some_gives, giver_in, entries_after, lines_in}
use Rattle.explain_model.specs.Margins.{dated, margin_of, margin_lines}
use Rattle.explain_model.specs.Text.{shown_count, explain_of}
use Rattle.explain_model.specs.Lines.{line_text, margin_text, endpoint_text, whole_text, control_place_text, control_text, data_text}
use Rattle.explain_model.specs.Places.{run_text, message_text, timing_text, clash_text}
use Rattle.explain_model.specs.Reasons.{reason_text}
use Rattle.explain_model.specs.Faults.{is_fault}
use Rattle.air_source.specs.UnitLines.{delay_text, count_text}
use Rattle.explain_model.specs.Commanded.{nearest, is_named_by, command_reason, accepted_command}
use Rattle.explain_model.specs.Fragments.{unit_fragments, is_of_another, repeated_after, grown, stands_at_last, beginnings_after, repeated_records, beginning_records}
use Rattle.explain_model.specs.Missing.{missing_cells, missing_lines}
use Rattle.explain_model.specs.SilentReasons.{covers_prb, giver_of, other_reason, untimely_reason, header_reason, repeated_reason, last_of, unfinished_reason, came_reason, missing_reason}
use Rattle.explain_model.specs.Records.{data_record, command_record, data_records, command_records, header_records}
use Rattle.explain_model.specs.Seen.{seen, is_heard, is_shown_at, cell_runs, seen_in}
use Rattle.explain_model.specs.Silent.{bits_below, silent_mask, silent_prbs, silent_of_line, silent_symbols, silent_symbol_lines, silent_lines_of}
use Rattle.explain_model.specs.Sums.{missing_count, silent_count, missing_sums, silent_sums}
use Rattle.explain_model.specs.Unused.{each_once, in_order_of_time, symbols_given, unused_blocks, unused_of_unit, unused_symbols, unused_symbol_lines, unused_lines_of}
use Rattle.plan_model.specs.Lines.{planned_from}
use Rattle.worked_explanations.specs.Whole.{TextsAreAsWorked}

pub whole : TextsAreAsWorked
unfolding digits field absolute_frame sections_of walked checked every some onto meet meetings commands fragments command_verdict accepted claim_at every_cell some_cell repeats overlaps block_at every_data_cell has_all data_verdict timely gathered decode data_sections id_from judged_commands judged_data judged_whole judged_in arrivals_heard arrival_count told_after stories_in pieces control_timing heading_slot data_timing judged_after last_place accepted_in first_at clash_in gives has_block passing fresh_count message_lines control_line symbol_named whole_line data_line judged_lines story_lines some_gives giver_in entries_after lines_in dated margin_of margin_lines shown_count explain_of line_text endpoint_text whole_text control_place_text control_text data_text run_text message_text timing_text clash_text reason_text is_fault delay_text count_text margin_text each in_order put_in nearest is_named_by command_reason accepted_command unit_fragments is_of_another repeated_after grown stands_at_last beginnings_after repeated_records beginning_records missing_cells missing_lines covers_prb giver_of other_reason untimely_reason header_reason repeated_reason last_of unfinished_reason came_reason missing_reason data_record command_record data_records command_records header_records seen is_heard is_shown_at cell_runs seen_in bits_below silent_mask silent_prbs silent_of_line silent_symbols silent_symbol_lines silent_lines_of missing_count silent_count missing_sums silent_sums each_once in_order_of_time symbols_given unused_blocks unused_of_unit unused_symbols unused_symbol_lines unused_lines_of planned_from
whole = record { one_command_is = refl; both_ways_is = refl; overlap_is = refl; lost_fragment_is = refl; late_uplink_is = refl; corners_is = refl }
