-- What a decoder has told of all bytes so far.
use Rattle.std.proofs.Common.{◌≡◌, ℕ, ◌<◌, List, [], ◌++◌, refl, sym, ap, ◌∙◌, append_assoc}
use Rattle.std.proofs.lemmas.List.{append-nil}
use Rattle.std.proofs.lemmas.Bool.{lt-ltb}
use Rattle.ecpri_frames.specs.declared.phases.Phase.{Phase}
use Rattle.ecpri_frames.specs.declared.phases.Phase.TheVariants.{First, Second, Third, Fourth, Body, Padding, Over, Faulty}
use Rattle.ecpri_frames.specs.declared.decoding.Pdu.{Pdu}
use Rattle.ecpri_frames.specs.Phases.{Item, Telling, after, awaited, resumed}
use Rattle.ecpri_frames.specs.States.{tells, told, Tells, StandsBehind}
use Rattle.ecpri_frames.proofs.Bytes.{after_after}

-- where nothing more is received nothing more is told
pub silent : (phase : Phase) (at : ℕ) → 0 < awaited phase → (resumed phase at []).items ≡ []
silent First at h = refl
silent (Second a) at h = refl
silent (Third a b) at h = refl
silent (Fourth a b c) at h = refl
silent (Body head left) at h = rw (lt-ltb 0 left h) refl
silent (Padding left) at h = rw (lt-ltb 0 left h) refl
silent Over at h = refl
silent (Faulty place) at h = refl

pub stands_more : (old new : Pdu) (bytes more : List ℕ) (items : List Item) → 0 < awaited new.phase → Tells old new more items → StandsBehind old bytes →
    StandsBehind new (bytes ++ more) × ((told (bytes ++ more)).items ≡ (told bytes).items ++ items)
stands_more old new bytes more items h t s =
    let whole : (rest : List ℕ) → told ((bytes ++ more) ++ rest) ≡ after ((told bytes).items ++ items) (tells new rest) = λ rest.
    ap told (append_assoc bytes more rest) ∙ s (more ++ rest) ∙ ap (λ (x : Telling). after (told bytes).items x) (t rest) ∙ sym (after_after (told bytes).items items (tells new rest)) in
    let here : (told (bytes ++ more)).items ≡ (told bytes).items ++ items =
    ap (λ (xs : List ℕ). (told xs).items) (sym (append-nil (bytes ++ more))) ∙ ap (λ (x : Telling). x.items) (whole [])
    ∙ ap (λ (xs : List Item). ((told bytes).items ++ items) ++ xs) (silent new.phase new.place h) ∙ append-nil ((told bytes).items ++ items) in
    ((λ rest. rw here (whole rest)), here)

pub refusal_told : (p : Pdu) (bytes : List ℕ) → StandsBehind p bytes → (tells p []).refusal ≡ (told bytes).refusal
refusal_told p bytes s = sym (ap (λ (xs : List ℕ). (told xs).refusal) (sym (append-nil bytes)) ∙ ap (λ (x : Telling). x.refusal) (s []))
