use Rattle.std.proofs.Common.{◌≤◌, length, arith, ◌∙◌}
use Rattle.frame_bytes.proofs.CommandFields.{head_is}
use Rattle.frame_bytes.proofs.commands.header.Goals as goal

pub returns-clause-bytes : goal.returns-clause-bytes
returns-clause-bytes c =
    let put = c.put_head-size in
    let room : put.result ≤ length put.new.into = omega (arith, put.auto.into, put.ensures.short) in
    c.new.ensures.held ∙ head_is c.args.head.now put.new.into put.result put.ensures.size room c.new.ensures.are_bytes put.ensures.written

pub returns-clause-message : goal.returns-clause-message
returns-clause-message c = let is = c.new.ensures.held in rw is c.put_head-size.ensures.message
