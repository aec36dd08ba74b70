-- A walk over the whole messages of a frame.
use Rattle.std.proofs.Common.{◌≡◌, ℕ, zero, suc, ◌+◌, ◌-◌, ◌*◌, ◌≤◌, ◌==◌, ◌≢◌, Bool, true, false, cond, ltb, ◌⊎◌, inl, inr, List, [], ◌∷◌, ◌++◌, length, take, drop, Option, Some, None, refl, sym, ap, subst, ◌∙◌, arith, length-drop}
use Rattle.std.proofs.lemmas.List.{drop-drop, drop_all, length-take, take_rest}
use Rattle.std.proofs.lemmas.Bool.{eqb-true, eq-eqb}
use Rattle.std.specs.Prelude.{filter}
use Rattle.ecpri_frames.specs.declared.heads.Head.{Head}
use Rattle.ecpri_frames.specs.declared.phases.Phase.{Phase}
use Rattle.ecpri_frames.specs.declared.phases.Phase.TheVariants.{First, Second, Third, Fourth, Body, Padding, Over, Faulty}
use Rattle.ecpri_frames.specs.declared.steps.Feed.{Feed}
use Rattle.ecpri_frames.specs.declared.steps.Feed.TheVariants as feed
use Rattle.ecpri_frames.specs.declared.decoding.Pdu.{Pdu}
use Rattle.ecpri_frames.specs.declared.refusals.PduWhy.TheVariants.{Revision, NoPadding}
use Rattle.ecpri_frames.specs.Headers.{revision, head_of}
use Rattle.ecpri_frames.specs.Messages.{Message, Reading, over, fault, padding, behind_head, behind_first, read_from, pdu}
use Rattle.ecpri_frames.specs.Phases.{Telling, telling, in_padding, behind_payload, in_payload, behind_second, behind_third, resumed, feed_told}
use Rattle.ecpri_frames.specs.declared.refusals.PduRefusal.{PduRefusal}
use Rattle.ecpri_frames.specs.States.{used_by, tells, Tells, Answers, IsRefusal}
use Rattle.ecpri_frames.specs.Gathering.{is_whole, whole_messages, opened, gathered, completed, held_after}
use Rattle.ecpri_frames.proofs.Bytes.{lt_tells}
use Rattle.ecpri_frames.proofs.Gathered.{Fit, fit_behind, fit_read, gathered_none, gathered_messages, unheld, joined, walked, neq-eqb, shown, nothing_more}

-- the message of which the header alone was received
abbrev pub held_of : Option (ℕ × Head) → Option Message
held_of None = None
held_of (Some p) = Some (opened p.0 p.1)

-- ---- each message that is left is whole

abbrev AllWhole : List Message → Type 0
AllWhole [] = Unit {0}
AllWhole (m ∷ ms) = (length m.payload ≡ m.head.size) × AllWhole ms

kept_whole : (m : Message) (ms : List Message) (t : Bool) → is_whole m ≡ t → AllWhole ms → AllWhole (cond t (m ∷ ms) ms)
kept_whole m ms true e h = (eqb-true (length m.payload) m.head.size e, h)
kept_whole m ms false e h = h

filter_whole : (ms : List Message) → AllWhole (filter is_whole ms)
filter_whole [] = tt
filter_whole (m ∷ ms) = kept_whole m (filter is_whole ms) (is_whole m) refl (filter_whole ms)

whole_reading : (r : Reading) → Fit r.messages → AllWhole (gathered None (telling r).items)
whole_reading r f = rw (gathered_messages None r.messages f) (filter_whole r.messages)

whole_padding : (at n : ℕ) (rest : List ℕ) → AllWhole (gathered None (in_padding at n rest).items)
whole_padding at n rest =
    elim (lt_tells (length rest) n) [
      | inl p ↦ rw p.0 tt
      | inr p ↦ rw p.0 (whole_reading (read_from at n rest) (fit_read at n rest))
    ]

whole_onward : (at n : ℕ) (more : Bool) (rest : List ℕ) → AllWhole (gathered None (cond more (in_padding at n rest) (telling over)).items)
whole_onward at n true rest = whole_padding at n rest
whole_onward at n false rest = tt

whole_payload : (at : ℕ) (head : Head) (left : ℕ) (rest : List ℕ) → AllWhole (gathered None (in_payload at head left rest).items)
whole_payload at head left rest =
    elim (lt_tells (length rest) left) [
      | inl p ↦ rw (p.0, gathered_none rest []) tt
      | inr p ↦ rw (p.0, unheld (take left rest) (behind_payload (at + left) head (drop left rest)).items true)
          (whole_onward (at + left) (padding head.size) head.more (drop left rest))
    ]

whole_first : (at a : ℕ) (rest : List ℕ) → AllWhole (gathered None (telling (behind_first (at - 1) at a rest (λ n. read_from at n rest))).items)
whole_first at a [] = tt
whole_first at a (b ∷ []) = tt
whole_first at a (b ∷ c ∷ []) = tt
whole_first at a (b ∷ c ∷ d ∷ rest) =
    whole_reading (behind_head (at - 1) (at + 3) (head_of (a ∷ b ∷ c ∷ d ∷ [])) rest (λ n. read_from at (suc (suc (suc n))) (b ∷ c ∷ d ∷ rest)))
    (fit_behind (at - 1) (at + 3) (head_of (a ∷ b ∷ c ∷ d ∷ [])) rest (λ n. read_from at (suc (suc (suc n))) (b ∷ c ∷ d ∷ rest)) (λ n. fit_read at (suc (suc (suc n))) (b ∷ c ∷ d ∷ rest)))

whole_second : (at a b : ℕ) (rest : List ℕ) → AllWhole (gathered None (behind_second at a b rest).items)
whole_second at a b [] = tt
whole_second at a b (c ∷ []) = tt
whole_second at a b (c ∷ d ∷ rest) =
    whole_reading (behind_head (at - 2) (at + 2) (head_of (a ∷ b ∷ c ∷ d ∷ [])) rest (λ n. read_from (at + 2) n rest))
    (fit_behind (at - 2) (at + 2) (head_of (a ∷ b ∷ c ∷ d ∷ [])) rest (λ n. read_from (at + 2) n rest) (λ n. fit_read (at + 2) n rest))

whole_third : (at a b c : ℕ) (rest : List ℕ) → AllWhole (gathered None (behind_third at a b c rest).items)
whole_third at a b c [] = tt
whole_third at a b c (d ∷ rest) =
    whole_reading (behind_head (at - 3) (at + 1) (head_of (a ∷ b ∷ c ∷ d ∷ [])) rest (λ n. read_from (at + 1) n rest))
    (fit_behind (at - 3) (at + 1) (head_of (a ∷ b ∷ c ∷ d ∷ [])) rest (λ n. read_from (at + 1) n rest) (λ n. fit_read (at + 1) n rest))

whole_resumed : (phase : Phase) (at : ℕ) (rest : List ℕ) → AllWhole (gathered None (resumed phase at rest).items)
whole_resumed First at rest = whole_reading (read_from at 0 rest) (fit_read at 0 rest)
whole_resumed (Second a) at rest = whole_first at a rest
whole_resumed (Third a b) at rest = whole_second at a b rest
whole_resumed (Fourth a b c) at rest = whole_third at a b c rest
whole_resumed (Body head left) at rest = whole_payload at head left rest
whole_resumed (Padding left) at rest = whole_padding at left rest
whole_resumed Over at rest = tt
whole_resumed (Faulty place) at rest = tt

-- the first of the messages that are left is whole
pub first_whole : (p : Pdu) (rest : List ℕ) (m : Message) (ms : List Message) → gathered None (tells p rest).items ≡ m ∷ ms → length m.payload ≡ m.head.size
first_whole p rest m ms e = (rw e at (whole_resumed p.phase p.place rest)).0

-- ---- each message has four bytes of its own

few_more : (more : Bool) (there at n : ℕ) (next : ℕ → Reading) → ((n : ℕ) → length (next n).messages * 4 ≤ there - n) →
    length (cond more (cond (ltb there n) (fault at NoPadding) (next n)) over).messages * 4 ≤ there
few_more false there at n next f = omega arith
few_more true there at n next f =
    elim (lt_tells there n) [
      | inl p ↦ rw p.0 (omega arith)
      | inr p ↦ rw p.0 (omega (arith, f n))
    ]

few_behind : (place at : ℕ) (head : Head) (rest : List ℕ) (next : ℕ → Reading) → ((n : ℕ) → length (next n).messages * 4 ≤ length rest - n) →
    length (behind_head place at head rest next).messages * 4 ≤ 4 + length rest
few_behind place at head rest next f =
    elim (lt_tells (length rest) head.size) [
      | inl p ↦ rw p.0 (omega arith)
      | inr p ↦ rw p.0 (omega (arith, few_more head.more (length rest) (at + length rest) (head.size + padding head.size) next f))
    ]

few_first : (at b : ℕ) (bytes : List ℕ) (first : Bool) → ((n : ℕ) → length (read_from (at + 1) n bytes).messages * 4 ≤ length bytes - n) →
    length (cond first (behind_first at (at + 1) b bytes (λ n. read_from (at + 1) n bytes)) (fault at Revision)).messages * 4 ≤ suc (length bytes)
few_first at b bytes false f = omega arith
few_first at b [] true f = omega arith
few_first at b (c ∷ []) true f = omega arith
few_first at b (c ∷ d ∷ []) true f = omega arith
few_first at b (c ∷ d ∷ e ∷ rest) true f =
    omega (arith, few_behind at (at + 1 + 3) (head_of (b ∷ c ∷ d ∷ e ∷ [])) rest (λ n. read_from (at + 1) (suc (suc (suc n))) (c ∷ d ∷ e ∷ rest)) (λ n. omega (arith, f (suc (suc (suc n))))))

few_read : (at skip : ℕ) (bytes : List ℕ) → length (read_from at skip bytes).messages * 4 ≤ length bytes - skip
few_read at skip [] = omega arith
few_read at (suc skip) (b ∷ bytes) = omega (arith, few_read (at + 1) skip bytes)
few_read at zero (b ∷ bytes) = omega (arith, few_first at b bytes (revision (b ∷ []) == 1) (λ n. few_read (at + 1) n bytes))

few_kept : (m : Message) (ms : List Message) (t : Bool) → length (cond t (m ∷ ms) ms) ≤ suc (length ms)
few_kept m ms true = omega arith
few_kept m ms false = omega arith

few_filtered : (ms : List Message) → length (filter is_whole ms) ≤ length ms
few_filtered [] = omega arith
few_filtered (m ∷ ms) = omega (arith, few_kept m (filter is_whole ms) (is_whole m), few_filtered ms)

pub few_whole : (bytes : List ℕ) → length (whole_messages bytes) * 4 ≤ length bytes
few_whole bytes = omega (arith, few_read 0 0 bytes, few_filtered (pdu bytes).messages)

-- ---- one answer to all the rest of a frame

-- what was left before an answer to all the rest of a frame: the messages that it completes, and those that are after it
pub record Fed (left : List Message) (held : Option Message) (new : Pdu) (frame : List ℕ) (at used : ℕ) (what : Feed) : Type 0 where
  pub left_is : left ≡ completed (at + used) what (drop at frame) held ++ gathered (held_after (at + used) what (drop at frame) held) (tells new (drop (at + used) frame)).items

pub fed_whole : (old new : Pdu) (frame : List ℕ) (at used : ℕ) (what : Feed) (held : Option Message) (left : List Message) → used_by new ≡ at + used →
    left ≡ gathered held (tells old (drop at frame)).items →
    Tells old new (take used (take (length frame - at) (drop at frame))) (feed_told (used_by new) what (take (length frame - at) (drop at frame))) →
    Fed left held new frame at used what
fed_whole old new frame at used what held left u so_far t = record {
  left_is = so_far
      ∙ subst (λ n. gathered held (tells old (drop at frame)).items ≡ completed n what (drop at frame) held ++ gathered (held_after n what (drop at frame) held) (tells new (drop (at + used) frame)).items) u
      (walked old new frame at used what held (rw (take_rest frame at) at t));
}

-- after the header of a message with no payload
pub empty_given : {left : List Message} {held : Option Message} {new : Pdu} {frame : List ℕ} {at used : ℕ} {what : Feed} → Fed left held new frame at used what → (head : Head) → what ≡ feed.Message head → head.size ≡ 0 →
    left ≡ opened (at + used - 4) head ∷ gathered None (tells new (drop (at + used) frame)).items
empty_given f head w z = rw (w, eq-eqb head.size 0 z) at f.left_is

-- after another header
pub header_held : {left : List Message} {held : Option Message} {new : Pdu} {frame : List ℕ} {at used : ℕ} {what : Feed} → Fed left held new frame at used what → (head : Head) → what ≡ feed.Message head → head.size ≢ 0 →
    left ≡ gathered (Some (opened (at + used - 4) head)) (tells new (drop (at + used) frame)).items
header_held f head w z = rw (w, neq-eqb head.size 0 z) at f.left_is

-- after the end of a payload whose header was received
pub payload_given : {left : List Message} {held : Option (ℕ × Head)} {new : Pdu} {frame : List ℕ} {at used : ℕ} {what : Feed} → Fed left (held_of held) new frame at used what →
    (place from to : ℕ) (head : Head) (last : Bool) → what ≡ feed.Body from to last → last ≡ true → held ≡ Some (place, head) →
    left ≡ shown place head (take (at + to - (at + from)) (drop (at + from) frame)) ∷ gathered None (tells new (drop (at + used) frame)).items
payload_given {frame = frame} {at = at} f place from to head last w l h =
    let d : drop from (drop at frame) ≡ drop (at + from) frame = drop-drop from at frame in
    let n : to - from ≡ at + to - (at + from) = omega arith in
    rw (d, n) at (rw (w, l, h) at f.left_is)

-- after the end of another payload
pub payload_passed : {left : List Message} {held : Option (ℕ × Head)} {new : Pdu} {frame : List ℕ} {at used : ℕ} {what : Feed} → Fed left (held_of held) new frame at used what →
    (from to : ℕ) (last : Bool) → what ≡ feed.Body from to last → held ≡ None → left ≡ gathered (held_of held) (tells new (drop (at + used) frame)).items
payload_passed f from to last w h = rw h (rw (w, h) at f.left_is)

-- an answer that completes no message, and after which nothing is told
pub nothing_left : {left : List Message} {held : Option Message} {new : Pdu} {frame : List ℕ} {at used : ℕ} {what : Feed} → Fed left held new frame at used what →
    completed (at + used) what (drop at frame) held ≡ [] → (tells new (drop (at + used) frame)).items ≡ [] → (left ≡ []) × (gathered None (tells new (drop (at + used) frame)).items ≡ [])
nothing_left f none quiet = (rw (none, quiet) at f.left_is, rw quiet refl)

pub unfinished : (here from to : ℕ) (last : Bool) (piece : List ℕ) (held : Option Message) → last ≡ false → completed here (feed.Body from to last) piece held ≡ []
unfinished here from to last piece None l = refl
unfinished here from to last piece (Some m) l = rw l refl

-- the frame ended, or the PDU is over or refused
pub frame_ends : (new : Pdu) (frame : List ℕ) (at used : ℕ) → used ≡ length (take (length frame - at) (drop at frame)) → (tells new (drop (at + used) frame)).items ≡ []
frame_ends new frame at used h =
    let l : used ≡ length frame - at = h ∙ ap length (take_rest frame at) ∙ length-drop at frame in
    let d : drop (at + used) frame ≡ [] = drop_all (at + used) frame (omega arith) in
    rw d (nothing_more new)

pub over_ends : (old new : Pdu) (frame : List ℕ) (at used : ℕ) → ((rest : List ℕ) → tells old rest ≡ telling over) →
    Tells old new (take used (take (length frame - at) (drop at frame))) [] → (tells new (drop (at + used) frame)).items ≡ []
over_ends old new frame at used o t =
    sym (ap (λ (x : Telling). x.items) (t (drop (at + used) frame))) ∙ ap (λ (x : Telling). x.items) (o (take used (take (length frame - at) (drop at frame)) ++ drop (at + used) frame))

pub refusal_ends : (new : Pdu) (used : ℕ) (r : PduRefusal) (rest : List ℕ) → IsRefusal new used r → (tells new rest).items ≡ []
refusal_ends new used r rest h = ap (λ (t : Telling). t.items) (h.stays rest)

-- the answers after which the walk stops
pub stops : (old new : Pdu) (frame : List ℕ) (at used : ℕ) (what : Feed) (held : Option Message) (left : List Message) → Fed left held new frame at used what →
    Answers old new used (length (take (length frame - at) (drop at frame))) what →
    Tells old new (take used (take (length frame - at) (drop at frame))) (feed_told (used_by new) what (take (length frame - at) (drop at frame))) →
    ((what ≡ feed.More) ⊎ ((what ≡ feed.End) ⊎ ((r : PduRefusal) × (what ≡ feed.Refused r)))) → (left ≡ []) × (gathered None (tells new (drop (at + used) frame)).items ≡ [])
stops old new frame at used what held left f a t (inl w) = nothing_left f (rw w refl) (frame_ends new frame at used (rw w at a).0)
stops old new frame at used what held left f a t (inr (inl w)) = nothing_left f (rw w refl) (over_ends old new frame at used (rw w at a).1 (rw w at t))
stops old new frame at used what held left f a t (inr (inr p)) = nothing_left f (rw p.1 refl) (refusal_ends new used p.0 (drop (at + used) frame) (rw p.1 at a))

-- the fault stays the same
pub fed_refusal : (old new : Pdu) (frame : List ℕ) (at used : ℕ) (what : Feed) →
    (tells old (drop at frame)).refusal ≡ (pdu frame).refusal →
    Tells old new (take used (take (length frame - at) (drop at frame))) (feed_told (used_by new) what (take (length frame - at) (drop at frame))) →
    (tells new (drop (at + used) frame)).refusal ≡ (pdu frame).refusal
fed_refusal old new frame at used what so_far t =
    let q = rw (take_rest frame at) at t in
    sym (ap (λ (x : Telling). x.refusal) (q (drop (at + used) frame))) ∙ ap (λ (xs : List ℕ). (tells old xs).refusal) (joined frame at used) ∙ so_far

-- a refusal is the fault of all that follows
pub refused_is : (new : Pdu) (used : ℕ) (r : PduRefusal) (rest : List ℕ) (fault_is : Option PduRefusal) → IsRefusal new used r → (tells new rest).refusal ≡ fault_is → Some r ≡ fault_is
refused_is new used r rest fault_is h e =
    ap (λ w. Some (let x : PduRefusal = record { place = r.place; why = w } in x)) h.why ∙ sym (ap (λ (t : Telling). t.refusal) (h.stays rest)) ∙ e

-- the bytes of a payload that is at hand lie in the frame, after its header
pub lies : (frame : List ℕ) (place start from to : ℕ) → place + 4 ≤ start → start + to ≤ length frame → place + (4 + length (take (start + to - (start + from)) (drop (start + from) frame))) ≤ length frame
lies frame place start from to h fits =
    omega (arith, length-take (start + to - (start + from)) (drop (start + from) frame))
