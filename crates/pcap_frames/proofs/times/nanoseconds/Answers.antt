use Rattle.std.proofs.Common.{arith}
use Rattle.std.proofs.lemmas.Bool.{lt-ltb}
use Rattle.pcap_frames.proofs.Powers.{none}
use Rattle.pcap_frames.proofs.times.nanoseconds.Goals as goal

pub returns-else-resolution-lt-SHORT-clause-value : goal.returns-else-resolution-lt-SHORT-clause-value
returns-else-resolution-lt-SHORT-clause-value c =
    let r = c.args.resolution in
    rw (lt-ltb r 128 (omega (arith, c.if-resolution-ge128.false))) (none r c.args.count (omega (arith, c.if-resolution-lt-SHORT.false)) c.ranges.count.fits)
