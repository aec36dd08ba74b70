-- What a walker has told of all bytes so far.
use Rattle.std.proofs.Common.{◌≡◌, ℕ, zero, suc, ◌+◌, ◌*◌, ◌<◌, List, [], ◌∷◌, ◌++◌, length, take, drop, min, true, Some, ◌⊎◌, inl, inr, refl, sym, ap, ◌∙◌, arith, append_assoc}
use Rattle.std.proofs.lemmas.List.{append-nil, length-take}
use Rattle.std.proofs.lemmas.Bool.{lt-ltb}
use Rattle.std.proofs.Math.Seq.{take-add}
use Rattle.fh_base.specs.declared.values.Shape.{Shape}
use Rattle.bfp_codec.specs.declared.methods.Format.{Format}
use Rattle.bfp_codec.specs.Layout.{length_of}
use Rattle.uplane_sections.specs.declared.phases.Phase.{Phase}
use Rattle.uplane_sections.specs.declared.phases.Phase.TheVariants.{Start, Between, Compression, Inside, Faulty}
use Rattle.uplane_sections.specs.declared.values.UWhy.TheVariants.{Truncated}
use Rattle.uplane_sections.specs.declared.walking.UWalker.{UWalker}
use Rattle.uplane_sections.specs.declared.steps.UFeed.{UFeed}
use Rattle.uplane_sections.specs.declared.steps.UFeed.TheVariants.{More}
use Rattle.uplane_sections.specs.Messages.{Item, Telling, after, told}
use Rattle.uplane_sections.specs.Phases.{resumed, unit_of, prbs_left, goes_on, behind, feed_told}
use Rattle.uplane_sections.specs.States.{tells, Tells, StandsBehind}

-- nothing is told of less than a unit
pub silent : (format : Format) (prbs : ℕ) (shape : Shape) (phase : Phase) (at : ℕ) (xs : List ℕ) → length xs < unit_of phase → 0 < prbs_left phase → (resumed format prbs shape phase at xs).items ≡ []
silent format prbs shape Start at xs h some = rw (lt-ltb (length xs) 4 h) refl
silent format prbs shape (Between before) at [] h some = refl
silent format prbs shape (Between before) at (b ∷ bytes) h some = rw (lt-ltb (length (b ∷ bytes)) 4 h) refl
silent format prbs shape (Compression s) at xs h some = rw (lt-ltb (length xs) 2 h) refl
silent format prbs shape (Inside method symbol prb zero) at xs h some = absurd (omega arith)
silent format prbs shape (Inside method symbol prb (suc n)) at xs h some =
    let short : length xs < suc n * length_of method = omega arith in
    rw (lt-ltb (length xs) (length_of method) h, lt-ltb (length xs) (suc n * length_of method) short) refl
silent format prbs shape (Faulty r) at xs h some = refl

-- a message that ends in a unit, or in a section that was begun, ends too early
pub ends_short : (format : Format) (prbs : ℕ) (shape : Shape) (phase : Phase) (at : ℕ) (xs : List ℕ) (place : ℕ) → length xs < unit_of phase → 0 < prbs_left phase → goes_on phase ≡ true
    → (0 < length xs) ⊎ (behind phase ≡ 4) → place ≡ at + length xs → (resumed format prbs shape phase at xs).refusal ≡ Some (record { place = place; why = Truncated })
ends_short format prbs shape Start at xs place h left going some is = rw (lt-ltb (length xs) 4 h, is) refl
ends_short format prbs shape (Between before) at [] place h left going (inl some) is = absurd (omega arith)
ends_short format prbs shape (Between before) at [] place h left going (inr some) is = absurd cc
ends_short format prbs shape (Between before) at (b ∷ bytes) place h left going some is = rw (lt-ltb (length (b ∷ bytes)) 4 h, is) refl
ends_short format prbs shape (Compression s) at xs place h left going some is = rw (lt-ltb (length xs) 2 h, is) refl
ends_short format prbs shape (Inside method symbol prb zero) at xs place h left going some is = absurd (omega arith)
ends_short format prbs shape (Inside method symbol prb (suc n)) at xs place h left going some is =
    let short : length xs < suc n * length_of method = omega arith in
    rw (lt-ltb (length xs) (suc n * length_of method) short, is) refl
ends_short format prbs shape (Faulty r) at xs place h left going some is = absurd cc

mk : (i j : List Item) (t : Telling) → i ≡ j → (let x : Telling = record { items = i; refusal = t.refusal } in x) ≡ record { items = j; refusal = t.refusal }
mk i j t e = rw e refl

pub after_after : (xs ys : List Item) (t : Telling) → after (xs ++ ys) t ≡ after xs (after ys t)
after_after xs ys t = mk _ _ t (append_assoc xs ys t.items)

pub silent_walker : (w : UWalker) → (tells w []).items ≡ []
silent_walker w =
    let part = w.part in
    let there : length (take w.there w.held ++ []) ≡ min w.there (length w.held) = ap length (append-nil (take w.there w.held)) ∙ length-take w.there w.held in
    silent w.format w.prbs w.shape w.phase w.start (take w.there w.held ++ []) (omega arith) w.left

pub stands_more : (format : Format) (prbs : ℕ) (shape : Shape) (old new : UWalker) (bytes more : List ℕ) (items : List Item) → Tells old new more items → StandsBehind format prbs shape old bytes →
    StandsBehind format prbs shape new (bytes ++ more) × ((told format prbs shape (bytes ++ more)).items ≡ (told format prbs shape bytes).items ++ items)
stands_more format prbs shape old new bytes more items t s =
    let says = told format prbs shape in
    let whole : (rest : List ℕ) → says ((bytes ++ more) ++ rest) ≡ after ((says bytes).items ++ items) (tells new rest) = λ rest.
    ap says (append_assoc bytes more rest) ∙ s (more ++ rest) ∙ ap (λ (x : Telling). after (says bytes).items x) (t rest) ∙ sym (after_after (says bytes).items items (tells new rest)) in
    let here : (says (bytes ++ more)).items ≡ (says bytes).items ++ items =
    ap (λ (xs : List ℕ). (says xs).items) (sym (append-nil (bytes ++ more))) ∙ ap (λ (x : Telling). x.items) (whole [])
    ∙ ap (λ (xs : List Item). ((says bytes).items ++ items) ++ xs) (silent_walker new) ∙ append-nil ((says bytes).items ++ items) in
    ((λ rest. rw here (whole rest)), here)

-- two steps, the first of which tells nothing
pub two_steps : (old mid new : UWalker) (piece left : List ℕ) (m n : ℕ) (what : UFeed) (items : List Item) → what ≡ More → left ≡ drop m piece →
    Tells old mid (take m piece) (feed_told what) → Tells mid new (take n left) items → Tells old new (take (m + n) piece) items
two_steps old mid new piece left m n what items is behind s t rest =
    ap (λ (xs : List ℕ). tells old (xs ++ rest)) (take-add m n piece ∙ ap (λ (xs : List ℕ). take m piece ++ take n xs) (sym behind))
    ∙ ap (λ (xs : List ℕ). tells old xs) (append_assoc (take m piece) (take n left) rest)
    ∙ s (take n left ++ rest)
    ∙ ap (λ (w : UFeed). after (feed_told w) (tells mid (take n left ++ rest))) is
    ∙ ap (λ (x : Telling). after [] x) (t rest)
