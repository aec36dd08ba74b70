use Rattle.std.proofs.Common.{length}
use Rattle.uplane_messages.specs.Left.{left_of}
use Rattle.base_tests.proofs.walks.heard.Given as goal

abbrev pub decreases-loop-what : goal.decreases-loop-what
decreases-loop-what l = length (left_of l.walk)
