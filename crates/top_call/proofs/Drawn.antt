-- A picture that was drawn, or was not.
use Rattle.std.proofs.Common.{true, ◌≡◌, ◌∙◌, ℕ, List, [], Option, Result, Ok, Err, inl, inr, refl, sym, subst}
use Rattle.std.specs.Io.KnownBytes.{append_known}
use Rattle.fh_base.specs.Causes.{Counts}
use Rattle.fh_base.specs.Told.{WritesFront, WritesPart}
use Rattle.fh_base.specs.KnownLaws.{append_nothing}
use Rattle.fh_base.proofs.Progress.{front_none, front_whole}
use Rattle.pictures.specs.Refusals.{Draws, HasDrawCause}
use Rattle.pictures.specs.declared.faults.DrawFault.{DrawFault}
use Rattle.pictures.specs.declared.faults.DrawFault.TheVariants as draw
use Rattle.pictures.specs.declared.faults.TextWhy.{TextWhy}
use Rattle.top_call.specs.declared.status.Status.{Status}
use Rattle.top_call.specs.declared.status.Status.TheVariants.{Done, BadText, WriteFault, NoMemory}
use Rattle.top_call.specs.Answers.{Answer, of_picture}
use Rattle.top_call.specs.Endings.{drawn_status}
use Rattle.top_call.specs.Run.{Performs}
use Rattle.top_call.proofs.Parts.{part_none}
use Rattle.fh_base.proofs.Parts.{part_front}

-- the picture of a text that is accepted
drawn_ok : (wanted : Result (List ℕ) (ℕ × TextWhy)) (picture : List ℕ) (old new : Option (List ℕ)) (before now : ℕ) → wanted ≡ Ok picture → new ≡ append_known old picture → now ≡ before
    → Performs (of_picture wanted) old new before now Done
drawn_ok wanted picture old new before now is written still = subst (λ w. Performs (of_picture w) old new before now Done) (sym is) (record {
  front = front_whole old new picture written;
  whole = λ _. written;
  part = λ stopped. absurd stopped;
  answers = refl;
  faults = still;
})

-- nothing is written of one that is refused
drawn_refused : (wanted : Result (List ℕ) (ℕ × TextWhy)) (line : ℕ) (why : TextWhy) (old new : Option (List ℕ)) (before now : ℕ) → wanted ≡ Err (line, why) → new ≡ old → now ≡ before
    → Performs (of_picture wanted) old new before now (BadText line why)
drawn_refused wanted line why old new before now is same still = subst (λ w. Performs (of_picture w) old new before now (BadText line why)) (sym is) (record {
  front = subst (λ (w : Option (List ℕ)). WritesFront old w []) (sym same) (front_none old []);
  whole = λ _. same ∙ sym (append_nothing old);
  part = λ stopped. absurd stopped;
  answers = refl;
  faults = still;
})

-- a part was written
drawn_fault : (wanted : Result (List ℕ) (ℕ × TextWhy)) (picture : List ℕ) (old new : Option (List ℕ)) (before now : ℕ) → wanted ≡ Ok picture → WritesPart old new picture → Counts true before now
    → Performs (of_picture wanted) old new before now WriteFault
drawn_fault wanted picture old new before now is part counts = subst (λ w. Performs (of_picture w) old new before now WriteFault) (sym is) (record {
  front = part_front old new picture part;
  whole = λ decided. absurd decided;
  part = λ _ _. part;
  answers = λ r. r;
  faults = counts;
})

-- memory ran out: before anything was told of the text, or in its picture
drawn_untold : (a : Answer) (old new : Option (List ℕ)) (before now : ℕ) → new ≡ old → now ≡ before → Performs a old new before now NoMemory
drawn_untold a old new before now same still = subst (λ (w : Option (List ℕ)). Performs a old w before now NoMemory) (sym same) (record {
  front = front_none old a.text;
  whole = λ decided. absurd decided;
  part = λ _. part_none old a.text;
  answers = tt;
  faults = still;
})

drawn_wanting : (wanted : Result (List ℕ) (ℕ × TextWhy)) (picture : List ℕ) (old new : Option (List ℕ)) (before now : ℕ) → wanted ≡ Ok picture → WritesPart old new picture → now ≡ before
    → Performs (of_picture wanted) old new before now NoMemory
drawn_wanting wanted picture old new before now is part still = subst (λ w. Performs (of_picture w) old new before now NoMemory) (sym is) (record {
  front = part_front old new picture part;
  whole = λ decided. absurd decided;
  part = λ _ _. part;
  answers = tt;
  faults = still;
})

drawn : (wanted : Result (List ℕ) (ℕ × TextWhy)) (old new : Option (List ℕ)) (before now : ℕ) (result : Result (Unit {0}) DrawFault) → Draws wanted old new result → HasDrawCause before now result
    → Performs (of_picture wanted) old new before now (drawn_status result)
drawn wanted old new before now (Ok u) draws counts = drawn_ok wanted draws.0 old new before now draws.1 draws.2 counts
drawn wanted old new before now (Err (draw.Refused line why)) draws counts = drawn_refused wanted line why old new before now draws.0 draws.1 counts
drawn wanted old new before now (Err draw.WriteFault) draws counts = drawn_fault wanted draws.0 old new before now draws.1 draws.2 counts
drawn wanted old new before now (Err draw.NoMemory) (inl same) counts = drawn_untold (of_picture wanted) old new before now same counts
drawn wanted old new before now (Err draw.NoMemory) (inr draws) counts = drawn_wanting wanted draws.0 old new before now draws.1 draws.2 counts

pub drawn_as : (wanted : Result (List ℕ) (ℕ × TextWhy)) (old new : Option (List ℕ)) (before now : ℕ) (result : Result (Unit {0}) DrawFault) (status : Status) → status ≡ drawn_status result
    → Draws wanted old new result → HasDrawCause before now result → Performs (of_picture wanted) old new before now status
drawn_as wanted old new before now result status is draws counts = subst (Performs (of_picture wanted) old new before now) (sym is) (drawn wanted old new before now result draws counts)
