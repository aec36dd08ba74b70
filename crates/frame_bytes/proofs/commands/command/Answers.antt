use Rattle.std.proofs.Common.{arith, sym, ◌∙◌}
use Rattle.frame_bytes.specs.Written.{bytes_of}
use Rattle.frame_bytes.specs.Commands.{command_of, whole_seq}
use Rattle.frame_bytes.proofs.CommandWritten.{command_is, command_size, command_held}
use Rattle.frame_bytes.proofs.Frames.{frame_is_one}
use Rattle.frame_bytes.proofs.commands.command.Goals as goal

pub returns-clause-bytes : goal.returns-clause-bytes
returns-clause-bytes c =
    (command_held c.args.id c.args.number c.args.head.now c.args.section.now c.args.into.now c.transport.result c.as_slice.result.now c.as_slice-2.result.now
    c.write_at.new.into c.write_at-2.new.into c.write_at-3.new.into c.header-header.result.len c.body-body.result.len
    (c.as_slice.ensures.bytes ∙ c.header-header.ensures.bytes) (c.as_slice-2.ensures.bytes ∙ c.body-body.ensures.bytes)
    c.as_slice.ensures.len c.as_slice-2.ensures.len c.transport.ensures c.write_at.ensures c.write_at-2.ensures c.write_at-3.ensures).front

pub returns-clause-rest : goal.returns-clause-rest
returns-clause-rest c =
    (command_held c.args.id c.args.number c.args.head.now c.args.section.now c.args.into.now c.transport.result c.as_slice.result.now c.as_slice-2.result.now
    c.write_at.new.into c.write_at-2.new.into c.write_at-3.new.into c.header-header.result.len c.body-body.result.len
    (c.as_slice.ensures.bytes ∙ c.header-header.ensures.bytes) (c.as_slice-2.ensures.bytes ∙ c.body-body.ensures.bytes)
    c.as_slice.ensures.len c.as_slice-2.ensures.len c.transport.ensures c.write_at.ensures c.write_at-2.ensures c.write_at-3.ensures).back

pub returns-clause-whole : goal.returns-clause-whole
returns-clause-whole c =
    let h = c.header-header.result.in_range in
    let b = c.body-body.result.in_range in
    let size = command_size c.args.head.now c.args.section.now c.as_slice.result.now c.as_slice-2.result.now c.header-header.result.len c.body-body.result.len
    (c.as_slice.ensures.bytes ∙ c.header-header.ensures.bytes) (c.as_slice-2.ensures.bytes ∙ c.body-body.ensures.bytes) c.as_slice.ensures.len c.as_slice-2.ensures.len in
    let id = c.ranges.id.fits in
    let number = c.ranges.number.fits in
    let one = frame_is_one 2 c.args.id (whole_seq c.args.number) (command_of c.args.head.now c.args.section.now)
    (record { kind_fits = omega arith; id_fits = omega arith; seq_fits = omega arith; sub_fits = omega arith; size_fits = omega arith }) in
    let is = sym (returns-clause-bytes c) in
    rw is at one

pub returns-clause-read_back : goal.returns-clause-read_back
returns-clause-read_back c shape admits =
    let h = c.header-header.ensures.bytes in
    let b = c.body-body.ensures.bytes in
    let back = c.body-body.ensures.read_back shape (bytes_of c.header-header.result) c.header-header.ensures.message admits in
    let is = command_is c.args.head.now c.args.section.now (bytes_of c.header-header.result) (bytes_of c.body-body.result) h b in
    rw is at back
