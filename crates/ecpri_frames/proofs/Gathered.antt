-- The whole messages that the answers of a decoder complete are those of the frame.
use Rattle.std.proofs.Common.{◌≡◌, ℕ, zero, suc, ◌+◌, ◌-◌, ◌<◌, ◌≤◌, ◌==◌, ◌≢◌, Bool, true, false, cond, ltb, inl, inr, List, [], ◌∷◌, ◌++◌, length, take, drop, Option, Some, None, refl, sym, ap, ◌∙◌, arith, append_assoc}
use Rattle.std.proofs.lemmas.List.{append-nil, length-take-le, take-append-drop, drop-drop}
use Rattle.std.proofs.lemmas.Bool.{eq-eqb}
use Rattle.std.proofs.lemmas.Bool.Decides.{nat_tests}
use Rattle.std.specs.Prelude.{filter}
use Rattle.ecpri_frames.specs.declared.heads.Head.{Head}
use Rattle.ecpri_frames.specs.declared.steps.Feed.{Feed}
use Rattle.ecpri_frames.specs.declared.steps.Feed.TheVariants as feed
use Rattle.ecpri_frames.specs.declared.decoding.Pdu.{Pdu}
use Rattle.ecpri_frames.specs.declared.refusals.PduWhy.TheVariants.{Revision, NoPadding}
use Rattle.ecpri_frames.specs.Headers.{revision, head_of}
use Rattle.ecpri_frames.specs.Messages.{Message, Reading, over, fault, padding, behind_head, behind_first, read_from, pdu}
use Rattle.ecpri_frames.specs.Phases.{Item, Start, Close, Telling, bytes_told, closes, message_told, messages_told, feed_told}
use Rattle.ecpri_frames.specs.States.{used_by, tells, told, Tells}
use Rattle.ecpri_frames.specs.Gathering.{is_whole, whole_messages, opened, longer, gathered, body_of, completed, held_after}
use Rattle.ecpri_frames.proofs.Bytes.{lt_tells, closed, open_yet, shut}
use Rattle.ecpri_frames.proofs.Histories.{silent}

-- where nothing more is received nothing more is told
pub nothing_more : (p : Pdu) → (tells p []).items ≡ []
nothing_more p = silent p.phase p.place p.waits

longer_more : (m : Message) (b : ℕ) (xs : List ℕ) → longer (longer m (b ∷ [])) xs ≡ longer m (b ∷ xs)
longer_more m b xs = rw (append_assoc m.payload (b ∷ []) xs) refl

pub gathered_bytes : (m : Message) (xs : List ℕ) (items : List Item) → gathered (Some m) (bytes_told xs ++ items) ≡ gathered (Some (longer m xs)) items
gathered_bytes m [] items = rw (append-nil m.payload) refl
gathered_bytes m (x ∷ xs) items = gathered_bytes (longer m (x ∷ [])) xs items ∙ ap (λ (n : Message). gathered (Some n) items) (longer_more m x xs)

pub gathered_none : (xs : List ℕ) (items : List Item) → gathered None (bytes_told xs ++ items) ≡ gathered None items
gathered_none [] items = refl
gathered_none (x ∷ xs) items = gathered_none xs items

started : (at : ℕ) (head : Head) (items : List Item) (empty : Bool) → (head.size == 0) ≡ empty →
    gathered None (Start at head ∷ items) ≡ (cond empty (opened at head ∷ []) []) ++ gathered (cond empty None (Some (opened at head))) items
started at head items true e = rw e refl
started at head items false e = rw e refl

bodied : (m : Message) (xs : List ℕ) (items : List Item) (last : Bool) →
    gathered (Some m) ((bytes_told xs ++ cond last (Close ∷ []) []) ++ items) ≡ (cond last (longer m xs ∷ []) []) ++ gathered (cond last None (Some (longer m xs))) items
bodied m xs items true = ap (gathered (Some m)) (append_assoc (bytes_told xs) (Close ∷ []) items) ∙ gathered_bytes m xs (Close ∷ items)
bodied m xs items false = ap (gathered (Some m)) (append_assoc (bytes_told xs) [] items) ∙ gathered_bytes m xs items

pub unheld : (xs : List ℕ) (items : List Item) (last : Bool) → gathered None ((bytes_told xs ++ cond last (Close ∷ []) []) ++ items) ≡ gathered None items
unheld xs items true = ap (gathered None) (append_assoc (bytes_told xs) (Close ∷ []) items) ∙ gathered_none xs (Close ∷ items)
unheld xs items false = ap (gathered None) (append_assoc (bytes_told xs) [] items) ∙ gathered_none xs items

-- One answer completes these messages, and the others result from what is told after it.
pub gathered_step : (at : ℕ) (what : Feed) (piece : List ℕ) (held : Option Message) (items : List Item) →
    gathered held (feed_told at what piece ++ items) ≡ completed at what piece held ++ gathered (held_after at what piece held) items
gathered_step at feed.More piece held items = refl
gathered_step at (feed.Message head) piece held items = started (at - 4) head items (head.size == 0) refl
gathered_step at (feed.Body from to last) piece (Some m) items = bodied m (body_of from to piece) items last
gathered_step at (feed.Body from to last) piece None items = unheld (body_of from to piece) items last
gathered_step at feed.End piece held items = refl
gathered_step at (feed.Refused r) piece held items = refl

-- no payload is longer than its header says
abbrev pub Fit : List Message → Type 0
Fit [] = Unit {0}
Fit (m ∷ ms) = (length m.payload ≤ m.head.size) × Fit ms

abbrev pub shown : ℕ → Head → List ℕ → Message
shown place head payload = record { place = place; head = head; payload = payload }

pub neq-eqb : (m n : ℕ) → m ≢ n → (m == n) ≡ false
neq-eqb m n h = grind (arith, nat_tests)

sized : (held : Option Message) (place : ℕ) (head : Head) (payload : List ℕ) (rest : List Item) → 0 < head.size →
    gathered held (message_told (shown place head payload) ++ rest) ≡ gathered (Some (shown place head payload)) (closes head.size (length payload) ++ rest)
sized held place head payload rest p =
    let e : (head.size == 0) ≡ false = neq-eqb head.size 0 (λ q. omega (arith, q)) in
    rw e (ap (gathered (Some (opened place head))) (append_assoc (bytes_told payload) (closes head.size (length payload)) rest) ∙ gathered_bytes (opened place head) payload (closes head.size (length payload) ++ rest))

empty : (held : Option Message) (place : ℕ) (head : Head) (payload : List ℕ) (rest : List Item) (ws : List Message) → length payload ≡ 0 → head.size ≡ 0 →
    ((h : Option Message) → gathered h rest ≡ ws) → gathered held (message_told (shown place head payload) ++ rest) ≡ shown place head payload ∷ ws
empty held place head [] rest ws l z ih =
    let e : (head.size == 0) ≡ true = eq-eqb head.size 0 z in
    rw (shut head.size 0 z, e) (ap (λ (xs : List Message). opened place head ∷ xs) (ih None))
empty held place head (x ∷ xs) rest ws l z ih = absurd (omega (arith, l))

gathered_one : (held : Option Message) (place : ℕ) (head : Head) (payload : List ℕ) (rest : List Item) (ws : List Message) → length payload ≤ head.size →
    ((h : Option Message) → gathered h rest ≡ ws) → gathered held (message_told (shown place head payload) ++ rest) ≡ cond (length payload == head.size) (shown place head payload ∷ ws) ws
gathered_one held place head payload rest ws fits ih =
    elim (lt_tells (length payload) head.size) [
      | inl p ↦
          let o : closes head.size (length payload) ≡ [] = open_yet head.size (length payload) (λ q. omega (arith, p.1, q)) in
          let n : (length payload == head.size) ≡ false = neq-eqb (length payload) head.size (λ q. omega (arith, p.1, q)) in
          sized held place head payload rest (omega (arith, p.1)) ∙ rw (o, n) (ih _)
      | inr p ↦
          let l : length payload ≡ head.size = omega (arith, p.1) in
          let y : (length payload == head.size) ≡ true = eq-eqb _ _ l in
          elim (lt_tells 0 head.size) [
            | inl q ↦
                let o : closes head.size (length payload) ≡ Close ∷ [] = closed head.size (length payload) q.1 l in
                sized held place head payload rest q.1 ∙ rw (o, y) (ap (λ (xs : List Message). shown place head payload ∷ xs) (ih None))
            | inr q ↦
                let z : cond (length payload == head.size) (shown place head payload ∷ ws) ws ≡ shown place head payload ∷ ws = ap (λ (t : Bool). cond t (shown place head payload ∷ ws) ws) y in
                empty held place head payload rest ws (omega (arith, q.1)) (omega (arith, q.1)) ih ∙ sym z
          ]
    ]

pub gathered_messages : (held : Option Message) (ms : List Message) → Fit ms → gathered held (messages_told ms) ≡ filter is_whole ms
gathered_messages held [] f = refl
gathered_messages held (m ∷ ms) f = gathered_one held m.place m.head m.payload (messages_told ms) (filter is_whole ms) f.0 (λ h. gathered_messages h ms f.1)

fit_more : (more : Bool) (there at n : ℕ) (next : ℕ → Reading) → ((n : ℕ) → Fit (next n).messages) → Fit (cond more (cond (ltb there n) (fault at NoPadding) (next n)) over).messages
fit_more false there at n next f = tt
fit_more true there at n next f =
    elim (lt_tells there n) [
      | inl p ↦ rw p.0 tt
      | inr p ↦ rw p.0 (f n)
    ]

pub fit_behind : (place at : ℕ) (head : Head) (rest : List ℕ) (next : ℕ → Reading) → ((n : ℕ) → Fit (next n).messages) → Fit (behind_head place at head rest next).messages
fit_behind place at head rest next f =
    elim (lt_tells (length rest) head.size) [
      | inl p ↦ rw p.0 (omega (arith, p.1), tt)
      | inr p ↦ rw p.0 (omega (arith, length-take-le head.size rest p.1), fit_more head.more (length rest) (at + length rest) (head.size + padding head.size) next f)
    ]

fit_first : (at b : ℕ) (bytes : List ℕ) (first : Bool) → ((n : ℕ) → Fit (read_from (at + 1) n bytes).messages) →
    Fit (cond first (behind_first at (at + 1) b bytes (λ n. read_from (at + 1) n bytes)) (fault at Revision)).messages
fit_first at b bytes false f = tt
fit_first at b [] true f = tt
fit_first at b (c ∷ []) true f = tt
fit_first at b (c ∷ d ∷ []) true f = tt
fit_first at b (c ∷ d ∷ e ∷ rest) true f = fit_behind at (at + 1 + 3) (head_of (b ∷ c ∷ d ∷ e ∷ [])) rest (λ n. read_from (at + 1) (suc (suc (suc n))) (c ∷ d ∷ e ∷ rest)) (λ n. f (suc (suc (suc n))))

pub fit_read : (at skip : ℕ) (bytes : List ℕ) → Fit (read_from at skip bytes).messages
fit_read at skip [] = tt
fit_read at (suc skip) (b ∷ bytes) = fit_read (at + 1) skip bytes
fit_read at zero (b ∷ bytes) = fit_first at b bytes (revision (b ∷ []) == 1) (λ n. fit_read (at + 1) n bytes)

-- All that is told of a frame gathers to its whole messages.
pub gathered_told : (bytes : List ℕ) → gathered None (told bytes).items ≡ whole_messages bytes
gathered_told bytes = gathered_messages None (pdu bytes).messages (fit_read 0 0 bytes)

pub joined : (frame : List ℕ) (at used : ℕ) → take used (drop at frame) ++ drop (at + used) frame ≡ drop at frame
joined frame at used = rw (← drop-drop used at frame) (take-append-drop used (drop at frame))

-- A caller that feeds all the rest of a frame at once: the answer completes these messages, and the others result from what is left.
pub walked : (old new : Pdu) (frame : List ℕ) (at used : ℕ) (what : Feed) (held : Option Message) →
    Tells old new (take used (drop at frame)) (feed_told (used_by new) what (drop at frame)) →
    gathered held (tells old (drop at frame)).items
    ≡ completed (used_by new) what (drop at frame) held ++ gathered (held_after (used_by new) what (drop at frame) held) (tells new (drop (at + used) frame)).items
walked old new frame at used what held t =
    ap (λ (xs : List ℕ). gathered held (tells old xs).items) (sym (joined frame at used))
    ∙ ap (λ (x : Telling). gathered held x.items) (t (drop (at + used) frame))
    ∙ gathered_step (used_by new) what (drop at frame) held (tells new (drop (at + used) frame)).items
