-- What parts are sorted by.
use Rattle.du_scheduler.specs.declared.parts.PartKey.{PartKey}
use Rattle.du_scheduler.specs.declared.parts.TimedPart.{TimedPart}

abbrev pub key_of : TimedPart → PartKey
key_of p = record {
  start = p.start.0;
  frame = p.frame;
  subframe = p.subframe;
  slot = p.slot;
  symbol = p.symbol;
  start_prb = p.start_prb;
  num_prb = p.num_prb;
  section = p.section;
}
