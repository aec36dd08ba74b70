use Rattle.std.proofs.Common.{◌≡◌, ◌-◌, ◌<◌, ◌≤◌, length}
use Rattle.cplane_sections.specs.Tests.{walked, sections_checked}
use Rattle.cplane_sections.proofs.checking.walk.Given as goal

abbrev pub invariant-loop-k : goal.invariant-loop-k
invariant-loop-k l = record {
  rest : walked (l.head.count - l.k) l.size l.shape.symbols l.bytes l.place l.symbol ≡ sections_checked l.shape l.head l.bytes;
  place : l.place ≤ length l.bytes;
  symbol : l.symbol < l.shape.symbols;
}
