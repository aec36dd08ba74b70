use Rattle.std.proofs.Common.{◌≤◌, [], length, arith, ◌∙◌}
use Rattle.cplane_sections.specs.Header.{kind_of}
use Rattle.frame_bytes.proofs.CommandFields.{section_is}
use Rattle.frame_bytes.proofs.commands.body.Goals as goal

pub returns-clause-bytes : goal.returns-clause-bytes
returns-clause-bytes c =
    let put = c.put_section-size in
    let room : put.result ≤ length put.new.into = omega (arith, put.auto.into, put.ensures.short) in
    c.new.ensures.held ∙ section_is (kind_of c.args.head.now.body) c.args.section.now put.new.into put.result put.ensures.size room c.new.ensures.are_bytes put.ensures.written

pub returns-clause-read_back : goal.returns-clause-read_back
returns-clause-read_back c shape front written admits =
    let is = c.new.ensures.held in
    rw is (c.put_section-size.ensures.read_back shape front [] written admits)
