use Rattle.std.proofs.Common.{◌≡◌, ◌+◌, ◌*◌, ◌≤◌, ◌++◌, length, take}
use Rattle.std.specs.List.{flat_map}
use Rattle.fh_base.specs.Words.{spaced_signed_text}
use Rattle.document_texts.proofs.lines.put_times.Given as goal

abbrev pub invariant-loop-ns : goal.invariant-loop-ns
invariant-loop-ns l = record {
  text : l.line ≡ l.initial.line ++ flat_map spaced_signed_text (take l.ns-index l.copies);
  short : length l.line ≤ length l.initial.line + 21 * l.ns-index;
}
