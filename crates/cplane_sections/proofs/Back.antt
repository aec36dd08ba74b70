-- What was written is read back.
use Rattle.std.proofs.Common.{◌≡◌, ℕ, ◌+◌, ◌<◌, ◌≤◌, ◌⊎◌, inl, inr, eqb, ltb, cond, List, [], ◌∷◌, ◌++◌, length, take, drop, false, Ok, refl, sym, ap, ◌∙◌, arith}
use Rattle.std.proofs.lemmas.Bool.Decides.{nat_tests}
use Rattle.std.proofs.lemmas.Bool.{le-ltb}
use Rattle.bfp_codec.specs.Field.{field, flag}
use Rattle.fh_base.specs.declared.values.Shape.{Shape}
use Rattle.cplane_sections.specs.declared.values.CBody.{CBody}
use Rattle.cplane_sections.specs.declared.values.CBody.TheVariants.{Idle, Normal, Offset}
use Rattle.cplane_sections.specs.declared.values.CHead.{CHead}
use Rattle.cplane_sections.specs.declared.values.CSection.{CSection}
use Rattle.cplane_sections.specs.Header.{head_of, kind_of, size_of_head}
use Rattle.cplane_sections.specs.Section.{section_of, size_of_section}
use Rattle.cplane_sections.specs.Tests.{◌>>=◌, head_checked, symbol_checked, walked, checked}
use Rattle.cplane_sections.specs.Message.{sections_of, IsAdmitted, AreAdmitted, Admits}
use Rattle.cplane_sections.specs.Writes.{carried, WritesHead, WritesSection, StandsAt, AreWritten, WritesMessage, IsReadAs}
use Rattle.cplane_sections.proofs.Front.{message_put}

kinds : (b : CBody) → (kind_of b ≡ 0) ⊎ ((kind_of b ≡ 1) ⊎ (kind_of b ≡ 3))
kinds (Idle t s c) = inl refl
kinds (Normal u) = inr (inl refl)
kinds (Offset t s c u) = inr (inr refl)

head_back : (shape : Shape) (h : CHead) (bytes : List ℕ) → WritesHead h bytes → size_of_head (kind_of h.body) ≤ length bytes
    → h.subframe ≤ 9 → h.slot < shape.slots → h.start_symbol < shape.symbols → 0 < h.count → head_checked shape bytes ≡ Ok h
head_back shape h bytes w room subframe slot symbol count =
    let known = kinds h.body in
    let subframe_is = ap (λ (x : CHead). x.subframe) w.reads in
    let slot_is = ap (λ (x : CHead). x.slot) w.reads in
    let symbol_is = ap (λ (x : CHead). x.start_symbol) w.reads in
    let count_is = ap (λ (x : CHead). x.count) w.reads in
    let kind_is = w.kind in
    let version_is = w.version in
    let result_is : head_checked shape bytes ≡ Ok (head_of bytes) = grind (arith, nat_tests) in
    result_is ∙ ap Ok w.reads

carried_is : (kind symbols before : ℕ) (s : CSection) → IsAdmitted kind symbols before s → carried kind before s ≡ s
carried_is kind symbols before s a =
    let symbol = sym a.maintained in
    let no_beam = a.no_beam in
    let no_offset = a.no_offset in
    let beam : cond (eqb kind 0) 0 s.beam ≡ s.beam = grind (arith, nat_tests) in
    let offset : (carried kind before s).freq_offset ≡ s.freq_offset = grind (arith, nat_tests) in
    rw (symbol, beam, offset) refl

step_back : (kind symbols : ℕ) (bytes : List ℕ) (place before : ℕ) (s : CSection) → StandsAt kind s bytes place → IsAdmitted kind symbols before s
    → (symbol_checked (size_of_section kind) symbols bytes place before ≡ Ok s.symbol) × (section_of kind before (drop place bytes) ≡ s)
step_back kind symbols bytes place before s at a =
    let w = at.writes in
    let inc : 0 + field (drop place bytes) 13 1 ≡ 0 + flag s.sym_inc = ap (λ (x : CSection). x.symbol) (w.reads 0) in
    let num : field (drop place bytes) 44 4 ≡ s.num_symbol = ap (λ (x : CSection). x.num_symbol) (w.reads 0) in
    let rb = w.each_rb in
    let ef = w.no_extension in
    let room = at.room in
    let some = a.some in
    let within = a.within in
    let maintained = a.maintained in
    let passes : symbol_checked (size_of_section kind) symbols bytes place before ≡ Ok (before + field (drop place bytes) 13 1) = grind (arith, nat_tests) in
    (passes ∙ ap Ok (omega arith), w.reads before ∙ carried_is kind symbols before s a)

sections_back : (kind symbols : ℕ) (bytes : List ℕ) (place before : ℕ) (ss : List CSection) → AreWritten kind bytes place ss → AreAdmitted kind symbols before ss
    → (walked (length ss) (size_of_section kind) symbols bytes place before ≡ Ok (length bytes)) × (sections_of (length ss) kind bytes place before ≡ ss)
unfolding walked sections_of AreWritten AreAdmitted
sections_back kind symbols bytes place before [] e a = (ap Ok e, refl)
sections_back kind symbols bytes place before (s ∷ ss) (at, others) (here, later) =
    let step = step_back kind symbols bytes place before s at here in
    let size = size_of_section kind in
    let rest = sections_back kind symbols bytes (place + size) s.symbol ss others later in
    let next : before + field (drop place bytes) 13 1 ≡ s.symbol = ap (λ (x : CSection). x.symbol) step.1 in (
      ap (λ r. r >>= λ n. walked (length ss) size symbols bytes (place + size) n) step.0 ∙ rest.0,
      ap (λ x. x ∷ sections_of (length ss) kind bytes (place + size) (before + field (drop place bytes) 13 1)) step.1
          ∙ ap (λ n. s ∷ sections_of (length ss) kind bytes (place + size) n) next ∙ ap (λ xs. s ∷ xs) rest.1,
    )

-- a message that is written is read as its header and its sections, where the tests admit them
pub message_back : (shape : Shape) (h : CHead) (ss : List CSection) (bytes : List ℕ) → WritesMessage h ss bytes → Admits shape h ss → IsReadAs shape h ss bytes
unfolding checked
message_back shape h ss bytes m a =
    let head = head_back shape h bytes m.head_written m.room a.subframe a.slot a.start_symbol a.some in
    let back = sections_back (kind_of h.body) shape.symbols bytes (size_of_head (kind_of h.body)) h.start_symbol ss m.sections_written a.sections in
    let whole : ltb (length bytes) (length bytes) ≡ false = le-ltb _ _ (omega arith) in
    let count = a.count in
    let walked_is : walked h.count (size_of_section (kind_of h.body)) shape.symbols bytes (size_of_head (kind_of h.body)) h.start_symbol ≡ Ok (length bytes) = rw count back.0 in
    record { head_read = rw (head, walked_is, whole) refl; sections_read = rw count back.1 }

-- one section more, read back
pub put_back : (shape : Shape) (h : CHead) (ss : List CSection) (s : CSection) (front bytes : List ℕ) (n : ℕ) → n ≡ size_of_section (kind_of h.body) → n ≤ length bytes
    → WritesSection (kind_of h.body) s bytes → WritesMessage h ss front → Admits shape h (ss ++ s ∷ []) → IsReadAs shape h (ss ++ s ∷ []) (front ++ take n bytes)
put_back shape h ss s front bytes n size fits w m a = message_back shape h (ss ++ s ∷ []) (front ++ take n bytes) (message_put h ss s front bytes n size fits w m) a
