-- The pieces that a lease shows.
use Rattle.std.proofs.Common.{◌≡◌, ℕ, zero, suc, ◌<◌, inl, inr, Bool, true, false, ◌&&◌, List, [], ◌∷◌, ◌++◌, length, get_or, replicate, Option, Some, None, is_some, refl, sym, ap, ◌∙◌, arith, length-append}
use Rattle.std.proofs.Math.ListN.{get_or-append}
use Rattle.std.proofs.Math.Seq.{get_or-append_seam}
use Rattle.std.specs.Option.{unwrap_or}
use Rattle.std.proofs.lemmas.Bool.{cases_lt, and_left}
use Rattle.ecpri_fragments.specs.declared.place.Span.{Span}
use Rattle.ecpri_fragments.specs.Generations.{Fragment}
use Rattle.ecpri_fragments.specs.Verdicts.{piece_at, pieces_below}
use Rattle.ecpri_fragments.specs.Spans.{span_of, shown, bytes_of, pieces_in, all_in}

pub length-pieces_in : (spans : List (Option Span)) (bytes : List ℕ) (n : ℕ) → length (pieces_in spans bytes n) ≡ n
length-pieces_in spans bytes zero = refl
length-pieces_in spans bytes (suc n) =
    omega (arith, length-append (pieces_in spans bytes n) (bytes_of (span_of spans n) bytes ∷ []), length-pieces_in spans bytes n)

pub get_or-pieces_in : (spans : List (Option Span)) (bytes : List ℕ) (n k : ℕ) → k < n → get_or (pieces_in spans bytes n) k [] ≡ bytes_of (span_of spans k) bytes
get_or-pieces_in spans bytes zero k h = absurd (omega arith)
get_or-pieces_in spans bytes (suc n) k h =
    let before = pieces_in spans bytes n in
    let here = bytes_of (span_of spans n) bytes in
    let len : length before ≡ n = length-pieces_in spans bytes n in
    elim (cases_lt k n) [
      | inl l ↦ get_or-append before (here ∷ []) [] k (omega (arith, len)) ∙ get_or-pieces_in spans bytes n k l
      | inr l ↦
          let e : k ≡ n = omega arith in
          rw e (ap (λ (i : ℕ). get_or (before ++ here ∷ []) i []) (sym len) ∙ get_or-append_seam before here [] [])
    ]

-- The pieces of a table are those of the fragments that it holds.
shown_bytes : (p : Option Span) (bytes : List ℕ) (q : Option (List ℕ)) → shown p bytes ≡ q → bytes_of p bytes ≡ unwrap_or q []
shown_bytes None bytes q e = rw (← e) refl
shown_bytes (Some p) bytes q e = rw (← e) refl

pub pieces_same : (spans : List (Option Span)) (bytes : List ℕ) (s : List Fragment) (n : ℕ) → ((k : ℕ) → k < n → shown (span_of spans k) bytes ≡ piece_at s k) → pieces_in spans bytes n ≡ pieces_below s n
pieces_same spans bytes s zero h = refl
pieces_same spans bytes s (suc n) h =
    rw (pieces_same spans bytes s n (λ k l. h k (omega arith)), shown_bytes (span_of spans n) bytes (piece_at s n) (h n (omega arith))) refl

-- a table with no span
pub none_there : (n k : ℕ) → span_of (replicate n None) k ≡ None
none_there zero k = refl
none_there (suc n) zero = refl
none_there (suc n) (suc k) = none_there n k

-- a missing span
pub lacks : (spans : List (Option Span)) (k n : ℕ) → k < n → is_some (span_of spans k) ≡ false → all_in spans n ≡ false
lacks spans k zero h e = absurd (omega arith)
lacks spans k (suc n) h e =
    elim (cases_lt k n) [
      | inl l ↦ fails (is_some (span_of spans n)) _ (lacks spans k n l e)
      | inr l ↦
          let i : k ≡ n = omega arith in
          and_left (is_some (span_of spans n)) (all_in spans n) (ap (λ (j : ℕ). is_some (span_of spans j)) (sym i) ∙ e)
    ]
  where
    fails : (x y : Bool) → y ≡ false → (x && y) ≡ false
    fails true y h = h
    fails false y h = refl
