use Rattle.std.proofs.Common.{◌*◌, ap, ◌∙◌}
use Rattle.pcap_frames.proofs.Powers.{whole, small_product}
use Rattle.pcap_frames.proofs.times.multiple.Goals as goal

pub returns-clause-value : goal.returns-clause-value
returns-clause-value c = ap (λ m. c.args.count * m) c.scale.ensures.value ∙ whole c.args.resolution c.args.count c.requires

pub returns-clause-small : goal.returns-clause-small
returns-clause-small c = small_product c.args.count c.scale.result c.ranges.count.fits c.scale.ensures.small
