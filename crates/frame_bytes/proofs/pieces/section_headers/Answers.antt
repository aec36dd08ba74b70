use Rattle.std.proofs.Common.{◌≤◌, length, arith, ◌∙◌}
use Rattle.frame_bytes.proofs.DataFields.{section_is}
use Rattle.frame_bytes.proofs.pieces.section_headers.Goals as goal

pub returns-clause-bytes : goal.returns-clause-bytes
returns-clause-bytes c =
    let put = c.put_section-size in
    let room : put.result ≤ length put.new.into = omega (arith, put.auto.into, put.ensures.short) in
    c.new.ensures.held ∙ section_is c.args.format c.args.section.now put.new.into put.result put.ensures.size room c.new.ensures.are_bytes put.ensures.written
