-- What is known of samples that keep a closure.
use Rattle.air_source.specs.Answers.{IsGrid}
use Rattle.bfp_codec.specs.declared.samples.Wide.{Wide}
use Rattle.air_source.specs.declared.places.RePlace.{RePlace}
use Rattle.air_source.specs.declared.samples.Samples.{Samples}

-- the closure that the samples keep
abbrev pub closure_of : {F : Type 0} → Samples F → F
closure_of s = s.answer

-- the closure that is kept may be called in range, has one answer there, and its numbers fit 16 bits
abbrev pub IsKept : {F : Type 0} → (F → RePlace → Type 0) → (F → RePlace → Wide → Type 0) → Samples F → Type 0
IsKept pre post s = IsGrid pre post (closure_of s)
