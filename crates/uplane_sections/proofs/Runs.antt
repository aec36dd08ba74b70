-- Runs of whole PRBs, and bytes that are passed.
use Rattle.std.proofs.Common.{◌≡◌, ℕ, zero, suc, ◌+◌, ◌-◌, ◌*◌, ◌/◌, min, ◌<◌, ◌≤◌, List, [], ◌∷◌, ◌++◌, length, take, drop, refl, sym, ap, ◌∙◌, arith, append_assoc, length-append, length-drop}
use Rattle.std.proofs.lemmas.List.{length-take-le, take_at, take-append-drop}
use Rattle.std.proofs.lemmas.Bool.{le-ltb}
use Rattle.std.proofs.Math.Nat.{mul-le-mul_right}
use Rattle.std.proofs.Math.Seq.{take-add}
use Rattle.fh_base.specs.declared.values.Shape.{Shape}
use Rattle.bfp_codec.specs.declared.methods.Method.{Method}
use Rattle.bfp_codec.specs.declared.methods.Format.{Format}
use Rattle.bfp_codec.specs.Layout.{length_of, unpacked_of}
use Rattle.uplane_sections.specs.declared.walking.UWalker.{UWalker}
use Rattle.uplane_sections.specs.Messages.{Item, Block, Telling, after, blocks}
use Rattle.uplane_sections.specs.declared.phases.Phase.{Phase}
use Rattle.uplane_sections.specs.declared.phases.Phase.TheVariants.{Inside}
use Rattle.uplane_sections.specs.Phases.{in_blocks, resumed}
use Rattle.uplane_sections.specs.declared.steps.UFeed.{UFeed}
use Rattle.uplane_sections.specs.declared.steps.UFeed.TheVariants as feed
use Rattle.uplane_sections.specs.States.{tells, Answers, Tells, Passes, IsOver}
use Rattle.uplane_sections.proofs.Behind.{block_step_at}
use Rattle.uplane_sections.proofs.Histories.{after_after}

pub no_bytes : (xs : List ℕ) → length xs ≡ 0 → xs ≡ []
no_bytes [] h = refl
no_bytes (b ∷ xs) h = absurd (omega arith)

module _ (format : Format) (prbs : ℕ) (shape : Shape) where
  -- n whole PRBs of those that are left
  pub run_step : (method : Method) (symbol at prb left n : ℕ) (xs rest : List ℕ) → n ≤ left → length xs ≡ n * length_of method →
      in_blocks format prbs shape method symbol at prb left (xs ++ rest)
      ≡ after (blocks method prb n xs) (in_blocks format prbs shape method symbol (at + n * length_of method) (prb + n) (left - n) rest)
  run_step method symbol at prb left zero xs rest most h =
      let none = no_bytes xs (omega arith) in
      let place : at + 0 * length_of method ≡ at = omega arith in
      let number : prb + 0 ≡ prb = omega arith in
      let all : left - 0 ≡ left = omega arith in
      rw (none, place, number, all) refl
  run_step method symbol at prb left (suc n) xs rest most h =
      let len = length_of method in
      let front = take len xs in
      let back = drop len xs in
      let room : len ≤ length xs = omega arith in
      let first : length front ≡ len = length-take-le len xs room in
      let behind : length back ≡ n * len = omega (arith, length-drop len xs) in
      let place : at + len + n * len ≡ at + suc n * len = omega arith in
      let number : prb + 1 + n ≡ prb + suc n = omega arith in
      let fewer : left - 1 - n ≡ left - suc n = omega arith in
      let more = run_step method symbol (at + len) (prb + 1) (left - 1) n back rest (omega arith) behind in
      let split : xs ++ rest ≡ front ++ (back ++ rest) = ap (λ (ys : List ℕ). ys ++ rest) (sym (take-append-drop len xs)) ∙ append_assoc front back rest in
      ap (in_blocks format prbs shape method symbol at prb left) split
      ∙ block_step_at format prbs shape method symbol at prb left front (back ++ rest) (omega arith) first
      ∙ ap (λ (t : Telling). after (Block prb (unpacked_of method front) ∷ []) t) more
      ∙ rw (le-ltb (length xs) len room, place, number, fewer) refl

  -- a run, in a walker's words
  pub run_tells : (phase next : Phase) (method : Method) (symbol start prb left n used there : ℕ) (held xs rest : List ℕ) → phase ≡ Inside method symbol prb left → there ≡ 0 → n ≤ left
      → length xs ≡ used → used ≡ n * length_of method → ((at : ℕ) (more : List ℕ) → in_blocks format prbs shape method symbol at (prb + n) (left - n) more ≡ resumed format prbs shape next at more)
      → resumed format prbs shape phase start (take there held ++ (xs ++ rest)) ≡ after (blocks method prb n xs) (resumed format prbs shape next (start + used) (take there held ++ rest))
  run_tells phase next method symbol start prb left n used there held xs rest is none most len size leads =
      rw (is, none, size) (run_step method symbol start prb left n xs rest most (len ∙ size) ∙ ap (λ (t : Telling). after (blocks method prb n xs) t) (leads (start + n * length_of method) rest))

  -- a PRB of which a part was received before, in a walker's words
  pub block_tells : (phase next : Phase) (method : Method) (symbol start prb left size there : ℕ) (held xs rest : List ℕ) → phase ≡ Inside method symbol prb left → 1 ≤ left
      → size ≡ length_of method → length (take there held ++ xs) ≡ size → ((at : ℕ) (more : List ℕ) → in_blocks format prbs shape method symbol at (prb + 1) (left - 1) more ≡ resumed format prbs shape next at more)
      → resumed format prbs shape phase start (take there held ++ (xs ++ rest)) ≡ after (Block prb (unpacked_of method (take there held ++ xs)) ∷ []) (resumed format prbs shape next (start + size) rest)
  block_tells phase next method symbol start prb left size there held xs rest is some size_is len leads =
      let front = take there held ++ xs in
      rw (is, size_is)
      (ap (in_blocks format prbs shape method symbol start prb left) (sym (append_assoc (take there held) xs rest))
      ∙ block_step_at format prbs shape method symbol start prb left front rest some (len ∙ size_is)
      ∙ ap (λ (t : Telling). after (Block prb (unpacked_of method front) ∷ []) t) (leads (start + length_of method) rest))

  -- the same, where its bytes are first in what is kept
  pub joined_tells : (phase next : Phase) (method : Method) (symbol start prb left size there : ℕ) (held xs behind kept rest : List ℕ) → phase ≡ Inside method symbol prb left → 1 ≤ left
      → size ≡ length_of method → length (take there held ++ xs) ≡ size → kept ≡ take there held ++ xs ++ behind
      → ((at : ℕ) (more : List ℕ) → in_blocks format prbs shape method symbol at (prb + 1) (left - 1) more ≡ resumed format prbs shape next at more)
      → resumed format prbs shape phase start (take there held ++ (xs ++ rest)) ≡ after (blocks method prb 1 kept) (resumed format prbs shape next (start + size) rest)
  joined_tells phase next method symbol start prb left size there held xs behind kept rest is some size_is len kept_is leads =
      let front = take there held ++ xs in
      let first : take (length_of method) kept ≡ front = ap (take (length_of method)) kept_is ∙ take_at front behind (length_of method) (len ∙ size_is) in
      let all : length kept ≡ length front + length behind = ap length kept_is ∙ length-append front behind in
      let room : length_of method ≤ length kept = omega arith in
      rw (le-ltb (length kept) (length_of method) room, first) (block_tells phase next method symbol start prb left size there held xs rest is some size_is len leads)

-- as many whole PRBs as the bytes have
pub run_within : (n left size len : ℕ) → 0 < size → n ≡ min (len / size) left → n * size ≤ len
run_within n left size len some is =
    let most : n * size ≤ len / size * size = mul-le-mul_right size (let h : n ≤ len / size = omega arith in h) in
    let all : len / size * size ≤ len = grind arith in
    omega arith

-- bytes passed after bytes that were passed
pub passes_more : (old mid new : UWalker) (piece left : List ℕ) (m n : ℕ) → left ≡ drop m piece → Passes old mid (take m piece) → Passes mid new (take n left) → Passes old new (take (m + n) piece)
passes_more old mid new piece left m n is p q = record {
  items = p.items ++ q.items;
  tells = λ rest.
      ap (λ (xs : List ℕ). tells old (xs ++ rest)) (take-add m n piece ∙ ap (λ (xs : List ℕ). take m piece ++ take n xs) (sym is))
      ∙ ap (tells old) (append_assoc (take m piece) (take n left) rest)
      ∙ p.tells (take n left ++ rest)
      ∙ ap (λ (t : Telling). after p.items t) (q.tells rest)
      ∙ sym (after_after p.items q.items (tells new rest));
}

-- a step after a run of no PRBs
pub passes_step : (old mid new : UWalker) (piece : List ℕ) (m n : ℕ) (none items : List Item) → m ≡ 0 → Tells old mid (take m piece) none → Tells mid new (take n piece) items → Passes old new (take n piece)
passes_step old mid new piece m n none items zero_is s t = record {
  items = none ++ items;
  tells = λ rest.
      ap (λ k. tells old (take k piece ++ (take n piece ++ rest))) (sym zero_is)
      ∙ s (take n piece ++ rest)
      ∙ ap (λ (x : Telling). after none x) (t rest)
      ∙ sym (after_after none items (tells new rest));
}

-- nothing was passed yet
pub passes_start : (w : UWalker) (piece : List ℕ) → Passes w w (take 0 piece)
passes_start w piece = record { items = []; tells = λ rest. refl }

-- after a refusal all is passed
pub passes_over : (old mid new : UWalker) (piece left : List ℕ) (m n : ℕ) → left ≡ drop m piece → n ≡ 0 → Passes old mid (take m piece) → Passes mid new (take n left) → IsOver new → Passes old new piece
passes_over old mid new piece left m n is zero_is p q over =
    let here : Passes old new (take (m + n) piece) = passes_more old mid new piece left m n is p q in
    let none : m + n ≡ m = omega arith in
    record {
      items = here.items;
      tells = λ rest.
          let rest_is : piece ++ rest ≡ take m piece ++ (drop m piece ++ rest) = ap (λ (xs : List ℕ). xs ++ rest) (sym (take-append-drop m piece)) ∙ append_assoc (take m piece) (drop m piece) rest in
          ap (tells old) rest_is
          ∙ ap (λ k. tells old (take k piece ++ (drop m piece ++ rest))) (sym none)
          ∙ here.tells (drop m piece ++ rest)
          ∙ ap (λ (t : Telling). after here.items t) (over (drop m piece ++ rest) ∙ sym (over rest));
    }

-- a step that uses no byte is that of a message which is refused
pub over_at_none : (new : UWalker) (used : ℕ) (what : UFeed) → Answers new used what → used ≡ 0 → IsOver new
over_at_none new used feed.More a none = let some : 0 < used = a.0 in absurd (omega arith)
over_at_none new used (feed.Head h) a none = let some : 0 < used = a in absurd (omega arith)
over_at_none new used (feed.Section s) a none = let some : 0 < used = a in absurd (omega arith)
over_at_none new used (feed.Block prb samples) a none = let some : 0 < used = a in absurd (omega arith)
over_at_none new used (feed.Refused r) a none = λ rest. a.stays rest ∙ sym (a.stays [])
