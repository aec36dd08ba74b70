use Rattle.std.proofs.Common.{refl, ap}
use Rattle.std.proofs.lemmas.List.{take_rest}
use Rattle.pcap_frames.specs.Values.{held_as}
use Rattle.pcap_frames.proofs.Walking.{added_behind}
use Rattle.pcap_frames.proofs.walks.Walk.behind.Goals as goal

pub returns-in-Interface : goal.returns-in-Interface
returns-in-Interface c =
    let w = c.args.self in
    added_behind w _ (held_as c.args.content) c.in-Interface.field-0 c.args.size (ap held_as c.in-Interface.is) c.requires.next (take_rest w.rest.now c.args.size) refl refl refl
