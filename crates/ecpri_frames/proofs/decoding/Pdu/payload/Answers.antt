use Rattle.std.proofs.Common.{◌≡◌, ◌-◌, length, arith}
use Rattle.std.proofs.lemmas.List.{append-nil, take_all}
use Rattle.ecpri_frames.specs.Phases.{bytes_told}
use Rattle.ecpri_frames.proofs.Bytes.{payload_more}
use Rattle.ecpri_frames.proofs.decoding.Pdu.payload.Goals as goal

pub returns-then-len-left-clause-tells : goal.returns-then-len-left-clause-tells
returns-then-len-left-clause-tells c rest =
    let xs = c.args.piece.now in
    let z : length xs - 0 ≡ length xs = omega arith in
    rw (c.requires.body, z, take_all (length xs) xs (omega arith), append-nil (bytes_told xs))
    (payload_more c.args.self.now.place c.args.head c.args.left xs rest (omega arith))
