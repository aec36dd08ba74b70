use Rattle.std.proofs.Common.{◌≡◌, ℕ, ◌+◌, List, ◌++◌, take, true}
use Rattle.ecpri_frames.specs.States.{tells}
use Rattle.ecpri_frames.specs.Turns.{is_outside}
use Rattle.ecpri_frames.proofs.decoding.Pdu.headers.Given as goal

abbrev pub invariant-loop-i : goal.invariant-loop-i
invariant-loop-i l = record {
  outside : is_outside l.self.phase ≡ true;
  used : l.self.place ≡ l.fn.self.place + l.i;
  tells : (rest : List ℕ) → tells l.fn.self (take l.i l.piece ++ rest) ≡ tells l.self rest;
}
