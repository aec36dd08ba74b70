-- From one part to the next.
use Rattle.std.proofs.Common.{◌≡◌, ℕ, zero, suc, ◌-◌, ◌<◌, ◌≤◌, List, [], ◌∷◌, length, drop, Result, Ok, Err, refl, ap, ◌∙◌, arith}
use Rattle.std.proofs.lemmas.List.{drop_all, nil_from_length}
use Rattle.pcap_frames.specs.declared.refusals.PcapWhy.{PcapWhy}
use Rattle.pcap_frames.specs.Parts.{Reading, part_of, after, after_part, behind_first, parts_from}
use Rattle.pcap_frames.specs.Blocks.{Block}

-- the first bytes belong to a part that was read
pub skip : (r : Reading) (n : ℕ) (bytes : List ℕ) → n ≤ length bytes → parts_from r n bytes ≡ parts_from r 0 (drop n bytes)
unfolding parts_from
skip r zero [] h = refl
skip r zero (b ∷ bytes) h = refl
skip r (suc n) [] h = absurd (omega arith)
skip r (suc n) (b ∷ bytes) h = skip r n bytes (omega arith)

-- a part, and those after it
abbrev joined : Reading → List ℕ → Result Block PcapWhy → List (Result Block PcapWhy)
joined r bytes part = part ∷ parts_from (after_part r part) (behind_first part (length bytes)) bytes

-- the others follow a part that is not refused
pub next : (r : Reading) (bytes : List ℕ) (part : Block) → part_of r bytes ≡ Ok part → 0 < part.size → part.size ≤ length bytes
    → parts_from r 0 bytes ≡ Ok part ∷ parts_from (after r part.held) 0 (drop part.size bytes)
unfolding parts_from
next r [] part e some within = absurd (omega (arith, some, within))
next r (b ∷ bytes) part e some within =
    let more : suc (part.size - 1) ≡ part.size = omega (arith, some) in
    ap (joined r bytes) e
    ∙ ap (λ ps. Ok part ∷ ps) (skip (after r part.held) (part.size - 1) bytes (omega (arith, some, within)) ∙ ap (λ n. parts_from (after r part.held) 0 (drop n (b ∷ bytes))) more)

-- one that is refused is the last
pub last : (r : Reading) (bytes : List ℕ) (why : PcapWhy) → 0 < length bytes → part_of r bytes ≡ Err why → parts_from r 0 bytes ≡ Err why ∷ []
unfolding parts_from
last r [] why some e = absurd (omega arith)
last r (b ∷ bytes) why some e =
    ap (joined r bytes) e
    ∙ ap (λ ps. Err why ∷ ps) (skip r (length bytes) bytes (omega arith) ∙ ap (parts_from r 0) (drop_all (length bytes) bytes (omega arith)))

-- where no byte is left, no part is
pub ended : (r : Reading) (bytes : List ℕ) → length bytes ≡ 0 → parts_from r 0 bytes ≡ []
unfolding parts_from
ended r bytes e = ap (parts_from r 0) (nil_from_length bytes e)
