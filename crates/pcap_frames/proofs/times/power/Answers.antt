use Rattle.pcap_frames.proofs.Powers.{fits, some}
use Rattle.pcap_frames.proofs.times.power.Goals as goal

pub pow-requires : goal.pow-requires
pow-requires c = fits c.args.exponent c.requires

pub returns-clause-some : goal.returns-clause-some
returns-clause-some c = rw c.pow.ensures (some c.args.exponent)
