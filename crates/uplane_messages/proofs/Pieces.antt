-- The bytes of a message that is in pieces, from a place on, and a walker that is fed the rest of a piece.
use Rattle.std.proofs.Common.{◌≡◌, ◌≢◌, subst, ℕ, zero, suc, ◌+◌, ◌-◌, ◌*◌, ◌<◌, ◌≤◌, ◌⊎◌, inl, inr, List, [], ◌++◌, length, take, drop, min, refl, sym, ap, ◌∙◌, arith, add-one, append_assoc, length-append, length-drop}
use Rattle.std.proofs.lemmas.List.{take-append-drop, take_all, drop-drop, length-take, get_or_past}
use Rattle.std.proofs.Math.Seq.{drop-cons}
use Rattle.std.proofs.Math.ListN.{drop_of_length-le}
use Rattle.bfp_codec.specs.declared.methods.Method.{Method}
use Rattle.uplane_sections.specs.declared.walking.UWalker.{UWalker}
use Rattle.uplane_sections.specs.declared.values.URefusal.{URefusal}
use Rattle.uplane_sections.specs.Messages.{Item, Telling, after, blocks, refused}
use Rattle.uplane_sections.specs.declared.steps.UFeed.{UFeed}
use Rattle.uplane_sections.specs.declared.steps.UFeed.TheVariants as feed
use Rattle.uplane_sections.specs.Phases.{feed_told}
use Rattle.uplane_sections.specs.States.{tells, Tells, Answers}
use Rattle.uplane_sections.proofs.Histories.{silent_walker as nothing_more}
use Rattle.ecpri_fragments.specs.declared.place.Span.{Span}
use Rattle.ecpri_fragments.specs.declared.assembly.Lease.{Lease}
use Rattle.ecpri_fragments.specs.Spans.{Inside, bytes_of, end_of_span, pieces_in, span_of}
use Rattle.uplane_messages.specs.Joined.{piece_of, message_bytes, bytes_from}
use Rattle.uplane_messages.specs.Left.{NothingLeft, first_of_pieces}
use Rattle.std.specs.Prelude.{Option, Some, None}
use Rattle.std.proofs.Math.Nat.{mul-le-mul_right}
use Rattle.ecpri_fragments.specs.Pieces.{joined}
use Rattle.ecpri_fragments.proofs.Cuts.{joined_one}
use Rattle.ecpri_fragments.specs.declared.place.TheConstants.{MESSAGE_BYTES}

or_beyond : (ps : List (List ℕ)) (k : ℕ) → (k < length ps) ⊎ (length ps ≤ k)
or_beyond ps k = grind arith

inside_or_not : (p : List ℕ) (at : ℕ) → (at ≤ length p) ⊎ (length p ≤ at)
inside_or_not p at = grind arith

pub no_piece : (ps : List (List ℕ)) (k : ℕ) → length ps ≤ k → piece_of ps k ≡ []
no_piece ps k h = get_or_past ps k [] h

-- what begins with piece k
joined_from : (ps : List (List ℕ)) (k : ℕ) → joined (drop k ps) ≡ piece_of ps k ++ joined (drop (k + 1) ps)
joined_from ps k =
    elim (or_beyond ps k) [
      | inl h ↦ rw (drop-cons ps k [] h, add-one k) refl
      | inr h ↦ rw (drop_of_length-le ps h, no_piece ps k h, drop_of_length-le ps (let b : length ps ≤ k + 1 = omega arith in b)) refl
    ]

-- at the start of the first piece all bytes are to follow
pub from_start : (ps : List (List ℕ)) → bytes_from ps 0 0 ≡ joined ps
from_start ps = sym (joined_from ps 0)

-- after the last piece nothing follows
pub at_end : (ps : List (List ℕ)) (k at : ℕ) → length ps ≤ k → bytes_from ps k at ≡ []
at_end ps k at h =
    let none : length (piece_of ps k) ≤ at = rw (no_piece ps k h) (omega arith) in
    rw (drop_of_length-le (piece_of ps k) none, drop_of_length-le ps (let b : length ps ≤ k + 1 = omega arith in b)) refl

-- what is used of the rest of a piece, and what is after it
pub used_of : (ps : List (List ℕ)) (k at used : ℕ) →
    bytes_from ps k at ≡ take used (take (length (piece_of ps k) - at) (drop at (piece_of ps k))) ++ bytes_from ps k (at + used)
used_of ps k at used =
    let p = piece_of ps k in
    let all : take (length p - at) (drop at p) ≡ drop at p = take_all (length p - at) (drop at p) (omega (arith, length-drop at p)) in
    let behind = joined (drop (k + 1) ps) in
    ap (λ (xs : List ℕ). xs ++ behind) (sym (take-append-drop used (drop at p)))
    ∙ append_assoc (take used (drop at p)) (drop used (drop at p)) behind
    ∙ ap (λ (xs : List ℕ). take used (drop at p) ++ (xs ++ behind)) (drop-drop used at p)
    ∙ ap (λ (xs : List ℕ). take used xs ++ bytes_from ps k (at + used)) (sym all)

-- where all of a piece is used, what follows is what begins with the next one
pub skipped : (ps : List (List ℕ)) (k at : ℕ) → length (piece_of ps k) ≤ at → bytes_from ps (k + 1) 0 ≡ bytes_from ps k at
skipped ps k at h =
    sym (joined_from ps (k + 1)) ∙ ap (λ (xs : List ℕ). xs ++ joined (drop (k + 1) ps)) (sym (drop_of_length-le (piece_of ps k) h))

part_from : (ps : List (List ℕ)) (k : ℕ) → first_of_pieces [] (drop k ps) ≡ first_of_pieces (piece_of ps k) (drop (k + 1) ps)
part_from ps k =
    elim (or_beyond ps k) [
      | inl h ↦ rw (drop-cons ps k [] h, add-one k) refl
      | inr h ↦ rw (drop_of_length-le ps h, no_piece ps k h, drop_of_length-le ps (let b : length ps ≤ k + 1 = omega arith in b)) refl
    ]

pub part_skipped : (ps : List (List ℕ)) (k at : ℕ) → length (piece_of ps k) ≤ at
    → first_of_pieces (piece_of ps (k + 1)) (drop (k + 1 + 1) ps) ≡ first_of_pieces (drop at (piece_of ps k)) (drop (k + 1) ps)
part_skipped ps k at h =
    sym (part_from ps (k + 1)) ∙ ap (λ (xs : List ℕ). first_of_pieces xs (drop (k + 1) ps)) (sym (drop_of_length-le (piece_of ps k) h))

-- ---- the walker

-- of the bytes from a place on a walker tells what it tells of the rest of the piece, and then what it tells after that
pub fed : (old new : UWalker) (ps : List (List ℕ)) (k at used : ℕ) (items : List Item) →
    Tells old new (take used (take (length (piece_of ps k) - at) (drop at (piece_of ps k)))) items →
    tells old (bytes_from ps k at) ≡ after items (tells new (bytes_from ps k (at + used)))
fed old new ps k at used items t = ap (tells old) (used_of ps k at used) ∙ t (bytes_from ps k (at + used))

-- the same of a piece that is at hand
pub fed_piece : (old new : UWalker) (ps : List (List ℕ)) (k at used : ℕ) (items : List Item) (p : List ℕ) → p ≡ piece_of ps k →
    Tells old new (take used (take (length p - at) (drop at p))) items →
    tells old (bytes_from ps k at) ≡ after items (tells new (bytes_from ps k (at + used)))
fed_piece old new ps k at used items p e t =
    let P : List ℕ → Type 0 = λ (x : List ℕ). Tells old new (take used (take (length x - at) (drop at x))) items in
    fed old new ps k at used items (subst P e t)

-- a place that is not beyond the end of the piece
at_most : (p : List ℕ) (at : ℕ) → drop (min at (length p)) p ≡ drop at p
at_most p at =
    elim (inside_or_not p at) [
      | inl h ↦ ap (λ k. drop k p) (let e : min at (length p) ≡ at = omega (arith, h) in e)
      | inr h ↦ rw (drop_of_length-le p h, drop_of_length-le p (let b : length p ≤ min at (length p) = omega (arith, h) in b)) refl
    ]

-- the rest of a piece, and what begins after it
pub passed_of : (ps : List (List ℕ)) (k at from : ℕ) (p : List ℕ) → p ≡ piece_of ps k → from ≡ min at (length p) →
    bytes_from ps k at ≡ take (length p - from) (drop from p) ++ bytes_from ps (k + 1) 0
passed_of ps k at from p e is =
    let all : take (length p - from) (drop from p) ≡ drop from p = take_all (length p - from) (drop from p) (omega (arith, length-drop from p)) in
    let same : drop from p ≡ drop at p = ap (λ n. drop n p) is ∙ at_most p at in
    let behind = joined (drop (k + 1) ps) in
    ap (λ (q : List ℕ). drop at q ++ behind) (sym e)
    ∙ ap (λ (xs : List ℕ). xs ++ behind) (sym (all ∙ same))
    ∙ ap (λ (xs : List ℕ). take (length p - from) (drop from p) ++ xs) (joined_from ps (k + 1))

-- a walker that passed the rest of a piece tells after it the refusal that it told before
pub passed : (old new : UWalker) (ps : List (List ℕ)) (k at from : ℕ) (p : List ℕ) → p ≡ piece_of ps k → from ≡ min at (length p) →
    ((rest : List ℕ) → (tells new rest).refusal ≡ (tells old (take (length p - from) (drop from p) ++ rest)).refusal) →
    (tells new (bytes_from ps (k + 1) 0)).refusal ≡ (tells old (bytes_from ps k at)).refusal
passed old new ps k at from p e is h =
    h (bytes_from ps (k + 1) 0) ∙ ap (λ (xs : List ℕ). (tells old xs).refusal) (sym (passed_of ps k at from p e is))

-- a refusal ends the walk
pub record Ends (before : Telling) (new : UWalker) (rest : List ℕ) : Type 0 where
  pub left : NothingLeft before.items (tells new rest).items
  pub refusal : (tells new rest).refusal ≡ before.refusal
  pub end : tells new rest ≡ tells new []

pub refused_ends : (before : Telling) (new : UWalker) (rest : List ℕ) (what : UFeed) (used : ℕ) (r : URefusal) → before ≡ after (feed_told what) (tells new rest) → what ≡ feed.Refused r →
    Answers new used what → Ends before new rest
refused_ends before new rest what used r is w a =
    let stays = (rw w at a).stays in
    let e : before ≡ refused r = is ∙ ap (λ (x : UFeed). after (feed_told x) (tells new rest)) w ∙ stays rest in
    record {
      left = record { before = ap (λ (t : Telling). t.items) e; behind = ap (λ (t : Telling). t.items) (stays rest) };
      refusal = ap (λ (t : Telling). t.refusal) (stays rest ∙ sym e);
      end = stays rest ∙ sym (stays []);
    }

-- so does the end of the last piece
pub nothing_ends : (before : Telling) (new : UWalker) (rest : List ℕ) → before ≡ tells new rest → rest ≡ [] → Ends before new rest
nothing_ends before new rest is none =
    let e : tells new rest ≡ tells new [] = ap (tells new) none in
    record {
      left = record { before = ap (λ (t : Telling). t.items) (is ∙ e) ∙ nothing_more new; behind = ap (λ (t : Telling). t.items) e ∙ nothing_more new };
      refusal = ap (λ (t : Telling). t.refusal) (sym is);
      end = e;
    }

-- where no PRB became complete nothing was told
pub none_joined : (method : Method) (prb n : ℕ) (kept : List ℕ) (before t : Telling) → n ≡ 0 → before ≡ after (blocks method prb n kept) t → before ≡ t
none_joined method prb zero kept before t none is = is
none_joined method prb (suc n) kept before t none is = absurd (omega arith)

-- any other answer that tells something tells one item
pub one_told : (what : UFeed) → what ≢ feed.More → ((r : URefusal) → what ≢ feed.Refused r) → length (feed_told what) ≡ 1
one_told feed.More m r = absurd (m refl)
one_told (feed.Head head) m r = refl
one_told (feed.Section s) m r = refl
one_told (feed.Block prb samples) m r = refl
one_told (feed.Refused x) m r = absurd (r x refl)

-- ---- a lease shows no more than 128 pieces of 16,384 bytes

bytes_short : (span : Option Span) (bytes : List ℕ) → length (bytes_of span bytes) ≤ end_of_span span
bytes_short None bytes = omega arith
bytes_short (Some s) bytes = omega (arith, length-take s.len (drop s.from bytes))

pieces_short : (spans : List (Option Span)) (bytes : List ℕ) (used n : ℕ) → Inside spans used → n ≤ 128 → length (joined (pieces_in spans bytes n)) ≤ n * used
pieces_short spans bytes used zero inside few = omega arith
pieces_short spans bytes used (suc n) inside few =
    let p = bytes_of (span_of spans n) bytes in
    let e = ap length (joined_one (pieces_in spans bytes n) p) in
    let here = pieces_short spans bytes used n inside (omega arith) in
    omega (arith, e, here, length-append (joined (pieces_in spans bytes n)) p, bytes_short (span_of spans n) bytes, inside n (omega arith))

pub message_short : (l : Lease) → length (message_bytes l) ≤ 128 * MESSAGE_BYTES
message_short l =
    let place = l.place.now in
    let short = pieces_short place.spans place.bytes place.used l.count place.inside l.within in
    let few : l.count * place.used ≤ 128 * place.used = mul-le-mul_right place.used l.within in
    omega (arith, short, place.filled, few)
