use Rattle.std.proofs.Common.{◌≡◌, ◌-◌, ◌≤◌, length, sym, arith, rules}
use Rattle.frame_bytes.specs.Messages.{message_of}
use Rattle.frame_bytes.specs.Cuts.{cut}
use Rattle.frame_bytes.proofs.Frames.{frame_is_one}
use Rattle.frame_bytes.proofs.Room.{piece_held}
use Rattle.frame_bytes.proofs.Sections.{length_message}
use Rattle.frame_bytes.proofs.PieceWritten.{cut_size, frame_held}
use Rattle.frame_bytes.proofs.pieces.piece.Goals as goal

pub returns-clause-bytes : goal.returns-clause-bytes
returns-clause-bytes g c blocks said =
    let m = c.args.message.now in
    let message = message_of m.carrier blocks m.head m.sections.now in
    let size = length_message m.carrier blocks m.head m.sections.now in
    (frame_held c.args.id c.args.seq c.args.span message c.args.into.now c.transport.result c.write_message.new.into c.write_at.new.into _
    c.requires.order (omega (arith, size, c.requires.within)) c.requires.room (search rules) (omega arith) (c.write_message.ensures.stands blocks said)
    c.transport.ensures c.write_at.ensures).front

pub returns-clause-rest : goal.returns-clause-rest
returns-clause-rest g c =
    let eight : length c.transport.result ≡ 8 = search rules in
    (piece_held c.args.into.now c.transport.result c.write_message.new.into c.write_at.new.into _ (c.args.span.to - c.args.span.from) eight (search rules) (omega arith) c.requires.room c.write_at.ensures).back

pub returns-clause-whole : goal.returns-clause-whole
returns-clause-whole g c blocks said =
    let m = c.args.message.now in
    let message = message_of m.carrier blocks m.head m.sections.now in
    let size = length_message m.carrier blocks m.head m.sections.now in
    let within : c.args.span.to ≤ length message = omega (arith, size, c.requires.within) in
    let len = cut_size c.args.span message c.requires.order within in
    let id = c.ranges.id.fits in
    let one = frame_is_one 0 c.args.id c.args.seq (cut c.args.span.from c.args.span.to message)
    (record { kind_fits = omega arith; id_fits = omega arith; seq_fits = search rules; sub_fits = c.requires.sub; size_fits = omega (arith, len, c.requires.within, c.requires.fits.size) }) in
    let is = sym (returns-clause-bytes g c blocks said) in
    rw is at one
