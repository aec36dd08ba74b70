-- The pieces of a message, joined, are the message.
use Rattle.std.proofs.Common.{◌≡◌, ℕ, zero, suc, ◌+◌, ◌-◌, ◌*◌, ◌<◌, ◌≤◌, List, length, take, drop, sym, ap, ◌∙◌, arith}
use Rattle.std.proofs.lemmas.List.{take_all, drop-take, drop-drop}
use Rattle.std.proofs.Math.Seq.{take-add}
use Rattle.std.proofs.Math.Nat.{div-mul-le_self, mod-eq-sub-div-mul}
use Rattle.std.proofs.lemmas.Nat.{mod_below}
use Rattle.frame_bytes.specs.Cuts.{piece_at, joined_from, pieces_joined}
use Rattle.frame_bytes.proofs.CutBytes.{take_same}
use Rattle.ecpri_fragments.specs.Pieces.{piece_count}

piece_is : (fragment : ℕ) (message : List ℕ) (k : ℕ) → piece_at fragment message k ≡ take fragment (drop (k * fragment) message)
piece_is fragment message k =
    ap (drop (k * fragment)) (sym (take_same (k * fragment + fragment) message)) ∙ drop-take (k * fragment) fragment message

none_of : (n : ℕ) → 0 ≡ 0 * n
none_of n = omega arith

joined_is : (fragment : ℕ) (message : List ℕ) (k n : ℕ) → joined_from fragment message k n ≡ take (n * fragment) (drop (k * fragment) message)
joined_is fragment message k zero = ap (λ n. take n (drop (k * fragment) message)) (none_of fragment)
joined_is fragment message k (suc n) =
    let rest = drop (k * fragment) message in
    let place : k * fragment + fragment ≡ (k + 1) * fragment = omega arith in
    let next : drop ((k + 1) * fragment) message ≡ drop fragment rest = sym (drop-drop fragment (k * fragment) message ∙ ap (λ j. drop j message) place) in
    let size : fragment + n * fragment ≡ suc n * fragment = omega arith in
    let more = joined_is fragment message (k + 1) n ∙ ap (take (n * fragment)) next in
    let here = piece_is fragment message k in
    rw (here, more) (sym (take-add fragment (n * fragment) rest)) ∙ ap (λ j. take j rest) size

enough : (fragment size : ℕ) → 0 < fragment → size ≤ piece_count fragment size * fragment
enough fragment size some =
    let n = size + (fragment - 1) in
    omega (arith, div-mul-le_self n fragment, mod-eq-sub-div-mul n fragment, mod_below n fragment some)

pub joined_all : (fragment : ℕ) (message : List ℕ) → 0 < fragment → pieces_joined fragment message ≡ message
joined_all fragment message some =
    joined_is fragment message 0 (piece_count fragment (length message))
    ∙ ap (λ k. take (piece_count fragment (length message) * fragment) (drop k message)) (sym (none_of fragment))
    ∙ take_all (piece_count fragment (length message) * fragment) message (enough fragment (length message) some)
