use Rattle.std.proofs.Common.{arith}
use Rattle.pcap_frames.proofs.Powers.{scale_fits}
use Rattle.pcap_frames.proofs.times.scale.Goals as goal

pub pow-requires : goal.pow-requires
pow-requires c =
    let most = scale_fits c.args.resolution c.requires in
    omega (arith, most)

pub returns-clause-small : goal.returns-clause-small
returns-clause-small c = rw c.pow.ensures (scale_fits c.args.resolution c.requires)
