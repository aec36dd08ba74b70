use Rattle.std.proofs.Common.{◌+◌, ◌≤◌, length, arith, rules}
use Rattle.capture_records.proofs.Steps.{first_is, frame_long, rest_passes, room}
use Rattle.capture_records.proofs.reading.record_at.Goals as goal

pub frame_size-size-requires : goal.frame_size-size-requires
frame_size-size-requires c = omega (arith, room c.args.bytes.now c.requires.some c.requires.passes)

pub side_of-requires : goal.side_of-requires
side_of-requires c = omega (arith, room c.args.bytes.now c.requires.some c.requires.passes)

pub time_of-requires : goal.time_of-requires
time_of-requires c = omega (arith, room c.args.bytes.now c.requires.some c.requires.passes)

pub slice_bounds-result-end : goal.slice_bounds-result-end
slice_bounds-result-end c =
    let r = room c.args.bytes.now c.requires.some c.requires.passes in
    let inside : 13 + c.frame_size-size.result ≤ length c.args.bytes.now = omega (arith, r, c.frame_size-size.ensures.size) in
    search (rules, inside)

pub returns-clause-first : goal.returns-clause-first
returns-clause-first c =
    first_is c.args.bytes.now c.frame_size-size.result c.side_of.result c.time_of.result.0 c.requires.some c.requires.passes c.side_of.ensures c.time_of.ensures c.frame_size-size.ensures.size

pub returns-clause-passes : goal.returns-clause-passes
returns-clause-passes c =
    let bytes = c.args.bytes.now in
    rw (frame_long bytes c.frame_size-size.result c.requires.some c.requires.passes c.frame_size-size.ensures.size) (rest_passes bytes c.requires.some c.requires.passes)

pub returns-clause-room : goal.returns-clause-room
returns-clause-room c =
    let bytes = c.args.bytes.now in
    rw (frame_long bytes c.frame_size-size.result c.requires.some c.requires.passes c.frame_size-size.ensures.size) (room bytes c.requires.some c.requires.passes)
