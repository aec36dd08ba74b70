-- The definitions compute what was worked out by hand.
use Rattle.std.proofs.Common.{refl}
use Rattle.bfp_codec.specs.Field.{digits}
use Rattle.bfp_codec.specs.Layout.{be_bytes, number_bytes, packed_of}
use Rattle.air_source.specs.Answers.{block_of}
use Rattle.fh_base.specs.Lists.{each, in_order, put_in}
use Rattle.unit_model.specs.Uplink.{symbol_jobs}
use Rattle.frame_bytes.specs.Messages.{message_of, section_of}
use Rattle.uplink_model.specs.Examples.{UplinksAreAsWorked, BytesAreAsWorked, MessagesAreAsWorked, OrderIsAsWorked, SentOrderIsAsWorked, TimesAreAsWorked}
use Rattle.uplink_model.specs.Frames.{frames_behind, uplink_message_frames}
use Rattle.uplink_model.specs.Messages.{uplink_frames_before, messages_behind}
use Rattle.uplink_model.specs.Sent.{leaving_at}

order : OrderIsAsWorked
unfolding symbol_jobs in_order put_in
order = record { by_prb = refl; all_prbs = refl; by_filter = refl }

messages : MessagesAreAsWorked
unfolding messages_behind
messages = record { each_alone = refl; two_filters = refl; third_is_cut = refl; two_symbols = refl; two_endpoints = refl; numbers = refl }

times : TimesAreAsWorked
unfolding messages_behind frames_behind uplink_message_frames uplink_frames_before each
times = record { capped = refl; together = refl; anew = refl }

bytes : BytesAreAsWorked
unfolding be_bytes number_bytes packed_of digits message_of section_of block_of
bytes = record { one_prb = refl; last_id = refl; wraps = refl; frame_before_0 = refl }

sent : SentOrderIsAsWorked
unfolding leaving_at each
sent = record { at_7 = refl; at_8 = refl; at_9 = refl }

pub as_worked : UplinksAreAsWorked
as_worked = record { order = order; messages = messages; times = times; bytes = bytes; sent = sent }
