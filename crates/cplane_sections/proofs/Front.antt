-- Written bytes with other bytes after them, and what is written one after the other.
use Rattle.std.proofs.Common.{◌≡◌, ℕ, pos, ◌+◌, ◌*◌, ◌<◌, ◌≤◌, inl, inr, List, [], ◌∷◌, ◌++◌, length, take, drop, get_or, refl, sym, ap, ◌∙◌, arith}
use Rattle.std.proofs.lemmas.Bool.{cases_eq}
use Rattle.std.proofs.lemmas.Bool.Decides.{nat_tests}
use Rattle.std.proofs.lemmas.List.{length-append, length-take-le, get_or_append_left, get_or-take, get_or-drop, drop_at}
use Rattle.bfp_codec.specs.Field.{field, signed}
use Rattle.bfp_codec.proofs.Field.{field_same}
use Rattle.cplane_sections.specs.declared.values.CHead.{CHead}
use Rattle.cplane_sections.specs.declared.values.CSection.{CSection}
use Rattle.cplane_sections.specs.Header.{head_of, body_of, kind_of, size_of_head}
use Rattle.cplane_sections.specs.Section.{section_of, offset_of, size_of_section}
use Rattle.cplane_sections.specs.Writes.{WritesHead, WritesSection, StandsAt, AreWritten, WritesMessage}

-- the first n bytes are the same
pub record SameFront (n : ℕ) (xs ys : List ℕ) : Type 0 where
  pub each : (k : ℕ) → k < n → get_or xs k 0 ≡ get_or ys k 0

front_field : (n : ℕ) (xs ys : List ℕ) (i m : ℕ) → SameFront n xs ys → i + m ≤ 8 * n → field ys i m ≡ field xs i m
front_field n xs ys i m h fits = sym (field_same xs ys i m (λ k low high. h.each k (omega arith)))

pub front_take : (n : ℕ) (xs : List ℕ) → SameFront n xs (take n xs)
front_take n xs = record { each = λ k h. sym (get_or-take n xs k 0 h) }

pub front_append : (n : ℕ) (xs ys : List ℕ) → n ≤ length xs → SameFront n xs (xs ++ ys)
front_append n xs ys h = record { each = λ k lt. sym (get_or_append_left xs ys 0 k (omega arith)) }

pub front_drop : (place n : ℕ) (xs ys : List ℕ) → place + n ≤ length xs → SameFront n (drop place xs) (drop place (xs ++ ys))
front_drop place n xs ys h = record { each = λ k lt. get_or-drop place xs k 0 ∙ sym (get_or_append_left xs ys 0 (place + k) (omega arith)) ∙ sym (get_or-drop place (xs ++ ys) k 0) }

least_section : (kind : ℕ) → 8 ≤ size_of_section kind
least_section kind = grind (arith, nat_tests)

long_section : (kind : ℕ) → kind ≡ 3 → 12 ≤ size_of_section kind
long_section kind is = grind (arith, nat_tests)

offset_same : (kind : ℕ) (xs ys : List ℕ) → (kind ≡ 3 → field ys 64 24 ≡ field xs 64 24) → offset_of kind ys ≡ offset_of kind xs
offset_same kind xs ys h = elim (cases_eq kind 3) [
  | inl is ↦ rw is (ap (signed 24) (h is))
  | inr ne ↦ let mine : offset_of kind ys ≡ pos 0 = grind (arith, nat_tests) in let other : offset_of kind xs ≡ pos 0 = grind (arith, nat_tests) in mine ∙ sym other
]

-- a section is the bytes that it has
pub section_front : (kind : ℕ) (s : CSection) (xs ys : List ℕ) → SameFront (size_of_section kind) xs ys → WritesSection kind s xs → WritesSection kind s ys
section_front kind s xs ys h w =
    let size = least_section kind in
    let same = λ (i : ℕ) (m : ℕ) (fits : i + m ≤ 64). front_field (size_of_section kind) xs ys i m h (omega arith) in
    let id = same 0 12 (omega arith) in
    let rb = same 12 1 (omega arith) in
    let inc = same 13 1 (omega arith) in
    let prb = same 14 10 (omega arith) in
    let num = same 24 8 (omega arith) in
    let mask = same 32 12 (omega arith) in
    let symbols = same 44 4 (omega arith) in
    let ef = same 48 1 (omega arith) in
    let beam = same 49 15 (omega arith) in
    let long : (i m : ℕ) → kind ≡ 3 → i + m ≤ 96 → field ys i m ≡ field xs i m = λ i m is fits. let l = long_section kind is in front_field (size_of_section kind) xs ys i m h (omega arith) in
    let offset = offset_same kind xs ys (λ is. long 64 24 is (omega arith)) in
    let section : (before : ℕ) → section_of kind before ys ≡ section_of kind before xs = λ before. rw (id, inc, prb, num, mask, symbols, beam, offset) refl in
    record {
      reads = λ before. section before ∙ w.reads before;
      each_rb = rb ∙ w.each_rb;
      no_extension = ef ∙ w.no_extension;
      idle = λ is. beam ∙ w.idle is;
      offset = λ is. long 88 8 is (omega arith) ∙ w.offset is;
    }

least_head : (kind : ℕ) → 8 ≤ size_of_head kind
least_head kind = grind (arith, nat_tests)

long_head : (kind : ℕ) → (kind ≡ 1 → ⊥) → 12 ≤ size_of_head kind
long_head kind ne = grind (arith, nat_tests)

body_same : (kind : ℕ) (xs ys : List ℕ) → field ys 48 8 ≡ field xs 48 8
    → ((i m : ℕ) → (kind ≡ 1 → ⊥) → i + m ≤ 96 → field ys i m ≡ field xs i m) → body_of kind ys ≡ body_of kind xs
body_same kind xs ys comp long = elim (cases_eq kind 1) [
  | inl is ↦ rw (is, comp) refl
  | inr ne ↦
      let time = long 48 16 ne (omega arith) in
      let structure = long 64 8 ne (omega arith) in
      let cp = long 72 16 ne (omega arith) in
      let last = long 88 8 ne (omega arith) in
      rw (comp, time, structure, cp, last) refl
]

-- a header is the bytes that it has
pub head_front : (h : CHead) (xs ys : List ℕ) → SameFront (size_of_head (kind_of h.body)) xs ys → WritesHead h xs → WritesHead h ys
head_front h xs ys front w =
    let kind = kind_of h.body in
    let size = least_head kind in
    let same = λ (i : ℕ) (m : ℕ) (fits : i + m ≤ 64). front_field (size_of_head kind) xs ys i m front (omega arith) in
    let down = same 0 1 (omega arith) in
    let version = same 1 3 (omega arith) in
    let filter = same 4 4 (omega arith) in
    let frame = same 8 8 (omega arith) in
    let subframe = same 16 4 (omega arith) in
    let slot = same 20 6 (omega arith) in
    let start = same 26 6 (omega arith) in
    let count = same 32 8 (omega arith) in
    let type_is = same 40 8 (omega arith) in
    let long : (i m : ℕ) → (kind ≡ 1 → ⊥) → i + m ≤ 96 → field ys i m ≡ field xs i m = λ i m ne fits. let l = long_head kind ne in front_field (size_of_head kind) xs ys i m front (omega arith) in
    let body : body_of (field ys 40 8) ys ≡ body_of (field xs 40 8) xs =
    ap (λ k. body_of k ys) (type_is ∙ w.kind) ∙ body_same kind xs ys (same 48 8 (omega arith)) long ∙ ap (λ k. body_of k xs) (sym w.kind) in
    let head : head_of ys ≡ head_of xs = rw (down, filter, frame, subframe, slot, start, count, body) refl in
    record {
      reads = head ∙ w.reads;
      version = version ∙ w.version;
      kind = type_is ∙ w.kind;
      idle = λ is. long 88 8 (λ one. absurd (omega arith)) (omega arith) ∙ w.idle is;
      normal = λ is. same 56 8 (omega arith) ∙ w.normal is;
    }

-- one section more
written_more : (kind : ℕ) (front piece : List ℕ) (place : ℕ) (ss : List CSection) (s : CSection) → AreWritten kind front place ss → WritesSection kind s piece → length piece ≡ size_of_section kind
    → AreWritten kind (front ++ piece) place (ss ++ s ∷ [])
unfolding AreWritten
written_more kind front piece place [] s at w size =
    let whole = length-append front piece in
    let here : drop place (front ++ piece) ≡ piece = drop_at front piece place (sym at) in
    let stands : StandsAt kind s (front ++ piece) place = record { room = omega arith; writes = rw here w } in
    let ends : place + size_of_section kind ≡ length (front ++ piece) = omega arith in
    (stands, ends)
written_more kind front piece place (t ∷ ss) s (at, others) w size =
    let whole = length-append front piece in
    let room = at.room in
    let stands : StandsAt kind t (front ++ piece) place = record {
      room = omega arith;
      writes = section_front kind t (drop place front) (drop place (front ++ piece)) (front_drop place (size_of_section kind) front piece at.room) at.writes;
    } in
    (stands, written_more kind front piece (place + size_of_section kind) ss s others w size)

pub message_more : (h : CHead) (ss : List CSection) (s : CSection) (front piece : List ℕ) → WritesMessage h ss front → WritesSection (kind_of h.body) s piece → length piece ≡ size_of_section (kind_of h.body)
    → WritesMessage h (ss ++ s ∷ []) (front ++ piece)
message_more h ss s front piece m w size =
    let whole = length-append front piece in
    let room = m.room in
    record {
      room = omega arith;
      head_written = head_front h front (front ++ piece) (front_append (size_of_head (kind_of h.body)) front piece m.room) m.head_written;
      sections_written = written_more (kind_of h.body) front piece (size_of_head (kind_of h.body)) ss s m.sections_written w size;
    }

-- a header alone
pub message_head : (h : CHead) (bytes : List ℕ) (n : ℕ) → n ≡ size_of_head (kind_of h.body) → n ≤ length bytes → WritesHead h bytes → WritesMessage h [] (take n bytes)
unfolding AreWritten
message_head h bytes n size fits w =
    let length_is : length (take n bytes) ≡ n = length-take-le n bytes fits in
    let front : SameFront (size_of_head (kind_of h.body)) bytes (take n bytes) = rw (sym size) (front_take n bytes) in
    let ends : size_of_head (kind_of h.body) ≡ length (take n bytes) = omega arith in
    record { room = omega arith; head_written = head_front h bytes (take n bytes) front w; sections_written = ends }

-- a section after what was written
pub message_put : (h : CHead) (ss : List CSection) (s : CSection) (front bytes : List ℕ) (n : ℕ) → n ≡ size_of_section (kind_of h.body) → n ≤ length bytes
    → WritesSection (kind_of h.body) s bytes → WritesMessage h ss front → WritesMessage h (ss ++ s ∷ []) (front ++ take n bytes)
message_put h ss s front bytes n size fits w m =
    let same : SameFront (size_of_section (kind_of h.body)) bytes (take n bytes) = rw (sym size) (front_take n bytes) in
    message_more h ss s front (take n bytes) m (section_front (kind_of h.body) s bytes (take n bytes) same w) (length-take-le n bytes fits ∙ size)
