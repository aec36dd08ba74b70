-- What is in a room when bytes were written over its first ones, one after the other.
use Rattle.std.proofs.Common.{◌≡◌, ℕ, ◌+◌, ◌≤◌, List, [], ◌++◌, length, take, drop, refl, sym, ap, ◌∙◌, arith, append_assoc, length-append}
use Rattle.std.proofs.lemmas.List.{drop-drop, drop-take, drop_at, length-take-le}
use Rattle.std.proofs.lemmas.Slice.{take-put_mid, drop-put_mid}
use borrow.Rule.Slice.PartMut.{put_mid}
use Rattle.std.proofs.Math.Seq.{take-append_seam, drop-append_seam, take-append-add, drop-append-add}

-- bytes written after `front`
next_written : (front rest bytes room new : List ℕ) (n : ℕ) → room ≡ front ++ rest → n ≡ length front
    → new ≡ (take n room ++ bytes) ++ drop (n + length bytes) room → new ≡ (front ++ bytes) ++ drop (length bytes) rest
next_written front rest bytes room new n room_is n_is new_is =
    new_is ∙ rw (room_is, n_is, take-append_seam front rest, drop-append-add front rest (length bytes)) refl

first_written : (bytes room new : List ℕ) → new ≡ (take 0 room ++ bytes) ++ drop (0 + length bytes) room → new ≡ bytes ++ drop (length bytes) room
first_written bytes room new h = next_written [] room bytes room new 0 refl refl h

pub three_written : (room a b c x y z : List ℕ) (m n : ℕ)
    → x ≡ (take 0 room ++ a) ++ drop (0 + length a) room
    → m ≡ length a → y ≡ (take m x ++ b) ++ drop (m + length b) x
    → n ≡ length a + length b → z ≡ (take n y ++ c) ++ drop (n + length c) y
    → z ≡ (a ++ (b ++ c)) ++ drop (length a + length b + length c) room
three_written room a b c x y z m n x_is m_is y_is n_is z_is =
    let one = first_written a room x x_is in
    let two = next_written a (drop (length a) room) b x y m one m_is y_is in
    let both : n ≡ length (a ++ b) = n_is ∙ sym (length-append a b) in
    let three = next_written (a ++ b) (drop (length b) (drop (length a) room)) c y z n two both z_is in
    let rest : drop (length c) (drop (length b) (drop (length a) room)) ≡ drop (length a + length b + length c) room = drop-drop (length c) (length b) (drop (length a) room) ∙ drop-drop (length b + length c) (length a) room ∙ ap (λ k. drop k room) (omega arith) in
    three ∙ rw (append_assoc a b c, rest) refl

pub front_back : (all room z : List ℕ) (n : ℕ) → n ≡ length all → z ≡ all ++ drop n room → (take n z ≡ all) × (drop n z ≡ drop n room)
front_back all room z n n_is z_is = (rw (z_is, n_is) (take-append_seam all (drop (length all) room)), rw (z_is, n_is) (drop-append_seam all (drop (length all) room)))

-- the first bytes of a room are a frame, and those after it are as they were
pub record HoldsFrame (all room new : List ℕ) (n : ℕ) : Type 0 where
  pub front : take n new ≡ all
  pub back : drop n new ≡ drop n room

pub three_held : (room a b c x y z : List ℕ) (m n : ℕ) → length a ≡ 8 → length b ≡ m → length c ≡ n
    → x ≡ (take 0 room ++ a) ++ drop (0 + length a) room
    → y ≡ (take 8 x ++ b) ++ drop (8 + length b) x
    → z ≡ (take (8 + m) y ++ c) ++ drop (8 + m + length c) y
    → HoldsFrame (a ++ (b ++ c)) room z (8 + m + n)
three_held room a b c x y z m n a8 bm cn x_is y_is z_is =
    let z3 = three_written room a b c x y z 8 (8 + m) x_is (sym a8) y_is (omega arith) z_is in
    let all : 8 + m + n ≡ length (a ++ (b ++ c)) = omega (arith, length-append a (b ++ c), length-append b c) in
    let count : length a + length b + length c ≡ 8 + m + n = omega arith in
    let both = front_back (a ++ (b ++ c)) room z (8 + m + n) all (z3 ∙ ap (λ k. (a ++ (b ++ c)) ++ drop k room) count) in
    record { front = both.0; back = both.1 }

-- a transport header written over the bytes before a piece
pub piece_held : (room t piece new : List ℕ) (k n : ℕ) → length t ≡ 8 → length piece ≡ n → k ≡ n → 8 + n ≤ length room
    → new ≡ t ++ drop (0 + length t) (put_mid 8 k room piece) → HoldsFrame (t ++ piece) room new (8 + n)
piece_held room t piece new k n t8 pn kn fits new_is =
    let p = put_mid 8 k room piece in
    let eight : 0 + length t ≡ 8 = omega arith in
    let size : 8 + n ≡ 8 + length piece = omega arith in
    let is : new ≡ t ++ drop 8 p = new_is ∙ ap (λ j. t ++ drop j p) eight in
    let before : length (take 8 room) ≡ 8 = length-take-le 8 room (omega arith) in
    let inside : take n (drop 8 p) ≡ piece =
    sym (drop-take 8 n p) ∙ ap (drop 8) (take-put_mid 8 k room piece (8 + n) size (omega arith)) ∙ drop_at (take 8 room) piece 8 before in
    let behind : drop n (drop 8 p) ≡ drop (8 + n) room = drop-drop n 8 p ∙ drop-put_mid 8 k room piece (8 + n) (omega arith) (omega arith) (omega arith) in
    let count : 8 + n ≡ length t + n = omega arith in
    record {
      front = rw is (ap (λ j. take j (t ++ drop 8 p)) count ∙ take-append-add t (drop 8 p) n ∙ ap (λ xs. t ++ xs) inside);
      back = ap (drop (8 + n)) is ∙ ap (λ j. drop j (t ++ drop 8 p)) count ∙ drop-append-add t (drop 8 p) n ∙ behind;
    }
