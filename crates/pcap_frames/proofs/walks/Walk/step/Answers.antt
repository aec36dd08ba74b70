use Rattle.std.proofs.Common.{sym}
use Rattle.pcap_frames.specs.Values.{block_as}
use Rattle.pcap_frames.specs.Walks.{reading_of}
use Rattle.pcap_frames.proofs.Walking.{expects, wanted_next, walk_next, wanted_none}
use Rattle.pcap_frames.proofs.walks.Walk.step.Goals as goal

pub behind-requires-clause-next : goal.behind-requires-clause-next
behind-requires-clause-next c = expects c.args.self (block_as c.in-Ok.part) c.requires (sym c.in-Ok.ensures.value) c.in-Ok.ensures.some c.in-Ok.ensures.within

pub returns-in-Ok-clause-steps : goal.returns-in-Ok-clause-steps
returns-in-Ok-clause-steps c =
    let w = c.args.self in
    let part = block_as c.in-Ok.part in
    record {
      wanted = wanted_next w c.behind.result part (sym c.in-Ok.ensures.value) c.in-Ok.ensures.some c.in-Ok.ensures.within c.behind.ensures;
      walk = walk_next w c.behind.result part c.requires (sym c.in-Ok.ensures.value) c.in-Ok.ensures.some c.in-Ok.ensures.within c.behind.ensures;
    }

pub returns-in-Err-clause-steps : goal.returns-in-Err-clause-steps
returns-in-Err-clause-steps c = wanted_none (reading_of c.args.self) c.args.self.rest.now c.in-Err.field-0 (sym c.in-Err.ensures.value)
