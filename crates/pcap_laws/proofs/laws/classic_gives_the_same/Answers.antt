use Rattle.pcap_laws.proofs.Same.{gives_the_same}
use Rattle.pcap_laws.proofs.laws.classic_gives_the_same.Goals as goal

pub returns : goal.returns
returns c = gives_the_same
