use Rattle.std.proofs.Common.{[], false, refl, sym, arith}
use Rattle.pcap_frames.specs.Parts.{blocks}
use Rattle.pcap_frames.proofs.Walking.{refused_wanted, refused_parts}
use Rattle.pcap_frames.proofs.starting.begun.Goals as goal

pub returns-in-Err : goal.returns-in-Err
returns-in-Err c = record {
  wanted = λ whose. refused_wanted whose c.args.bytes.now _ (blocks false []) c.in-Err.field-0 (sym c.in-Err.ensures.value) refl;
  parts = refused_parts c.args.bytes.now _ (blocks false []) c.in-Err.field-0 (sym c.in-Err.ensures.value) refl;
  later = refl;
  within = omega arith;
}
