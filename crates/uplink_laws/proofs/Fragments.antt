-- The fragments of a message: their sizes, and that joined they are the message.
use Rattle.std.proofs.Common.{◌≡◌, ℕ, zero, suc, ◌+◌, ◌-◌, ◌*◌, ◌<◌, ◌≤◌, min, List, ◌++◌, length, refl, ap, sym, ◌∙◌, arith, append-nil, append_assoc, length-append, zero-add}
use Rattle.fragment_laws.specs.Flow.{size_to}
use Rattle.fragment_laws.specs.Once.{texts}
use Rattle.unit_model.proofs.CountLemmas.{no_time}
use Rattle.frame_bytes.specs.Cuts.{joined_from, piece_at}
use Rattle.frame_bytes.proofs.CutBytes.{length_cut}
use Rattle.frame_bytes.proofs.Joining.{joined_all}
use Rattle.ecpri_fragments.specs.Pieces.{joined, piece_count}
use Rattle.ecpri_fragments.proofs.Cuts.{joined_one}

-- ---- sizes

pub piece_short : (fragment : ℕ) (bytes : List ℕ) (k : ℕ) → length (piece_at fragment bytes k) ≤ fragment
piece_short fragment bytes k =
    within (length (piece_at fragment bytes k)) (k * fragment) fragment (length bytes) (length_cut (k * fragment) (min (k * fragment + fragment) (length bytes)) bytes)
  where
    within : (n from f len : ℕ) → n ≡ min (min (from + f) len) len - from → n ≤ f
    within n from f len h = omega (arith, h)

-- ---- all of them

pub next_place : (k n : ℕ) → (k + 1) + n ≡ k + suc n
next_place k n = omega arith

from_last : (fragment : ℕ) (bytes : List ℕ) (k n : ℕ) → joined_from fragment bytes k (suc n) ≡ joined_from fragment bytes k n ++ piece_at fragment bytes (k + n)
from_last fragment bytes k zero = append-nil (piece_at fragment bytes k) ∙ ap (λ j. piece_at fragment bytes j) (no_time k)
from_last fragment bytes k (suc n) =
    ap (λ zs. piece_at fragment bytes k ++ zs) (from_last fragment bytes (k + 1) n)
    ∙ sym (append_assoc (piece_at fragment bytes k) (joined_from fragment bytes (k + 1) n) (piece_at fragment bytes ((k + 1) + n)))
    ∙ ap (λ j. (piece_at fragment bytes k ++ joined_from fragment bytes (k + 1) n) ++ piece_at fragment bytes j) (next_place k n)

texts_joined : (fragment : ℕ) (bytes : List ℕ) (n : ℕ) → joined (texts (piece_at fragment bytes) n) ≡ joined_from fragment bytes 0 n
texts_joined fragment bytes zero = refl
texts_joined fragment bytes (suc n) =
    joined_one (texts (piece_at fragment bytes) n) (piece_at fragment bytes n)
    ∙ ap (λ zs. zs ++ piece_at fragment bytes n) (texts_joined fragment bytes n)
    ∙ ap (λ j. joined_from fragment bytes 0 n ++ piece_at fragment bytes j) (sym (zero-add n))
    ∙ sym (from_last fragment bytes 0 n)

-- all fragments joined are the message
pub fragments_joined : (fragment : ℕ) (bytes : List ℕ) → 0 < fragment → joined (texts (piece_at fragment bytes) (piece_count fragment (length bytes))) ≡ bytes
fragments_joined fragment bytes some = texts_joined fragment bytes (piece_count fragment (length bytes)) ∙ joined_all fragment bytes some

pub size_joined : (text : ℕ → List ℕ) (n : ℕ) → size_to text n ≡ length (joined (texts text n))
size_joined text zero = refl
size_joined text (suc n) =
    ap (λ k. k + length (text n)) (size_joined text n) ∙ sym (length-append (joined (texts text n)) (text n)) ∙ ap length (sym (joined_one (texts text n) (text n)))
