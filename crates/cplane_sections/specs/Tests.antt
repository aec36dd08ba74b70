-- The tests of a C-plane message, in their order: the first that fails gives the reason and the place.
use Rattle.std.specs.Prelude.{◌≡◌, ℕ, zero, suc, ◌+◌, ◌-◌, ◌<◌, ◌^◌, Bool, List, length, drop, Result, Ok, Err, nat_lt, nat_le, is_ok, ◌==◌, ◌||◌, not, if◌then◌else◌}
use Rattle.fh_base.specs.declared.values.Shape.{Shape}
use Rattle.cplane_sections.specs.declared.values.CHead.{CHead}
use Rattle.cplane_sections.specs.declared.values.CRefusal.{CRefusal}
use Rattle.cplane_sections.specs.declared.values.CWhy.{CWhy}
use Rattle.cplane_sections.specs.declared.values.CWhy.TheVariants.{Truncated, Version, SectionType, SlotRange, SymbolRange, NoSections, EveryOtherRb, Extension, Trailing}
use Rattle.cplane_sections.specs.Header.{payloadVersion, sectionType, subframeId, slotId, startSymbolId, numberOfSections, size_of_head, head_of, kind_of}
use Rattle.cplane_sections.specs.Section.{rb, ef, symInc, numSymbol, size_of_section}

abbrev pub refusal : ℕ → CWhy → CRefusal
refusal place why = record { place = place; why = why }

-- the header
abbrev pub head_checked : Shape → List ℕ → Result CHead CRefusal
head_checked shape bytes =
    if nat_lt (length bytes) 6 then Err (refusal (length bytes) Truncated)
    else (if not (payloadVersion bytes == 1) then Err (refusal 0 Version)
    else (if not (sectionType bytes == 0 || sectionType bytes == 1 || sectionType bytes == 3) then Err (refusal 0 SectionType)
    else (if nat_lt (length bytes) (size_of_head (sectionType bytes)) then Err (refusal (length bytes) Truncated)
    else (if nat_lt 9 (subframeId bytes) || nat_le shape.slots (slotId bytes) then Err (refusal 0 SlotRange)
    else (if nat_le shape.symbols (startSymbolId bytes) then Err (refusal 0 SymbolRange)
    else (if numberOfSections bytes == 0 then Err (refusal 0 NoSections)
    else Ok (head_of bytes)))))))

infixl 10 ◌>>=◌
abbrev pub ◌>>=◌ : {A B : Type 0} → Result A CRefusal → (A → Result B CRefusal) → Result B CRefusal
(Ok x) >>= f = f x
(Err e) >>= f = Err e

-- the section of `size` bytes at a place; the maintained symbol number was `before`, and is then the answer
abbrev pub symbol_checked : ℕ → ℕ → List ℕ → ℕ → ℕ → Result ℕ CRefusal
symbol_checked size symbols bytes place before =
    if nat_lt (length bytes - place) size then Err (refusal (length bytes) Truncated)
    else (if rb (drop place bytes) == 1 then Err (refusal place EveryOtherRb)
    else (if ef (drop place bytes) == 1 then Err (refusal place Extension)
    else (if numSymbol (drop place bytes) == 0 then Err (refusal place SymbolRange)
    else (if nat_lt symbols (before + symInc (drop place bytes) + numSymbol (drop place bytes)) then Err (refusal place SymbolRange)
    else Ok (before + symInc (drop place bytes))))))

-- n sections from a place on; the answer is the place after them
unfoldable pub walked : ℕ → ℕ → ℕ → List ℕ → ℕ → ℕ → Result ℕ CRefusal
walked zero size symbols bytes place before = Ok place
walked (suc n) size symbols bytes place before = do
  symbol ← symbol_checked size symbols bytes place before
  walked n size symbols bytes (place + size) symbol

-- the sections of a message with this header
abbrev pub sections_checked : Shape → CHead → List ℕ → Result ℕ CRefusal
sections_checked shape head bytes =
    walked head.count (size_of_section (kind_of head.body)) shape.symbols bytes (size_of_head (kind_of head.body)) head.start_symbol

-- the whole message
unfoldable pub checked : Shape → List ℕ → Result CHead CRefusal
checked shape bytes = do
  head ← head_checked shape bytes
  end ← sections_checked shape head bytes
  if nat_lt end (length bytes) then Err (refusal end Trailing) else Ok head

-- a check of these bytes gave this header
pub record IsHeadOf (head : CHead) (bytes : List ℕ) : Type 0 where
  pub shape : Shape
  pub symbols : shape.symbols < 2 ^ 8
  pub is : checked shape bytes ≡ Ok head

-- n sections pass, in slots of as many symbols as can be told
abbrev pub sections_pass : ℕ → ℕ → List ℕ → ℕ → ℕ → Bool
sections_pass n size bytes place before = is_ok (walked n size 255 bytes place before)
