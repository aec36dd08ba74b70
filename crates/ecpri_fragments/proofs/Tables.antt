-- What a table holds once a fragment is stored in it, and why one is not.
use Rattle.std.proofs.Common.{◌≡◌, ℕ, zero, suc, ◌+◌, ◌<◌, ◌≤◌, inl, inr, Bool, true, false, cond, ◌&&◌, ◌||◌, eqb, ltb, List, [], ◌∷◌, ◌++◌, length, take, drop, max, set, Option, Some, None, is_some, refl, sym, ap, ◌∙◌, subst, arith, ℤ}
use Rattle.std.proofs.lemmas.List.{get_or-set_same, get_or-set_other, length-take-le, take-append-drop, take-append-le, drop-take, drop_at, append_assoc}
use Rattle.std.proofs.Math.Seq.{take-append_seam}
use Rattle.std.proofs.lemmas.Bool.{ltb-false, le-ltb, or_parts}
use Rattle.std.proofs.lemmas.Bool.Decides.{nat_tests, eqb_tells}
use Rattle.ecpri_fragments.specs.declared.place.Span.{Span}
use Rattle.ecpri_fragments.specs.declared.verdict.Verdict.TheVariants.{Repeat, Stray, TooLong}
use Rattle.ecpri_fragments.specs.Generations.{Fragment}
use Rattle.ecpri_fragments.specs.Verdicts.{piece_at, stands, end_of, all_stand, whole_to, is_past_end, has_greater, is_stray, refused, first_of}
use Rattle.ecpri_fragments.specs.Spans.{span_of, shown, Inside, end_of_span, all_in, whole_in}
use Rattle.ecpri_fragments.specs.Places.{Table, Holds, IsBelow, EndsAt, top_of, is_past, refused_in}

-- a part of the memory stays where more is written after it
kept : (bytes xs : List ℕ) (from len : ℕ) → from + len ≤ length bytes → take len (drop from (bytes ++ xs)) ≡ take len (drop from bytes)
kept bytes xs from len h =
    sym (drop-take from len (bytes ++ xs)) ∙ ap (λ (ys : List ℕ). drop from ys) (take-append-le (from + len) bytes xs h) ∙ drop-take from len bytes

-- and where more is written over what is after it
kept_before : (bytes ys : List ℕ) (used from len : ℕ) → from + len ≤ used → used ≤ length bytes → take len (drop from (take used bytes ++ ys)) ≡ take len (drop from bytes)
kept_before bytes ys used from len h r =
    let l : from + len ≤ length (take used bytes) = rw (length-take-le used bytes r) h in
    kept (take used bytes) ys from len l ∙ sym (kept (take used bytes) (drop used bytes) from len l) ∙ ap (λ (bs : List ℕ). take len (drop from bs)) (take-append-drop used bytes)

-- what is written is read
fresh : (bytes xs rest : List ℕ) (used : ℕ) → used ≤ length bytes → take (length xs) (drop used (take used bytes ++ (xs ++ rest))) ≡ xs
fresh bytes xs rest used r = rw (drop_at (take used bytes) (xs ++ rest) used (length-take-le used bytes r)) (take-append_seam xs rest)

shown_kept : (p : Option Span) (bytes ys : List ℕ) (used : ℕ) → end_of_span p ≤ used → used ≤ length bytes → shown p (take used bytes ++ ys) ≡ shown p bytes
shown_kept None bytes ys used h r = refl
shown_kept (Some p) bytes ys used h r = ap (λ (zs : List ℕ). Some zs) (kept_before bytes ys used p.from p.len h r)

there : (p : Option Span) (bytes : List ℕ) → is_some p ≡ is_some (shown p bytes)
there None bytes = refl
there (Some p) bytes = refl

all_same : (n : ℕ) (spans : List (Option Span)) (bytes : List ℕ) (s : List Fragment) → ((k : ℕ) → k < n → shown (span_of spans k) bytes ≡ piece_at s k) → all_in spans n ≡ all_stand s n
all_same zero spans bytes s h = refl
all_same (suc n) spans bytes s h =
    rw (there (span_of spans n) bytes, h n (omega arith), all_same n spans bytes s (λ k l. h k (omega arith))) refl

whole_same : (e : Option ℕ) (spans : List (Option Span)) (bytes : List ℕ) (s : List Fragment) → IsBelow 128 e → ((k : ℕ) → k < 128 → shown (span_of spans k) bytes ≡ piece_at s k) → whole_in spans e ≡ whole_to s e
whole_same None spans bytes s b h = refl
whole_same (Some e) spans bytes s b h = all_same (e + 1) spans bytes s (λ k l. h k (omega arith))

first_same : (top : ℕ) (first : ℤ) (s : List Fragment) (a : Fragment) → top ≡ top_of s → first ≡ first_of s → cond (eqb top 0) a.at first ≡ first_of (a ∷ s)
first_same top first [] a t f = rw t refl
first_same top first (b ∷ s) a t f =
    let e : eqb top 0 ≡ false = grind (arith, nat_tests) in
    rw e f

below_same : (last : Bool) (sub : ℕ) (e : Option ℕ) → sub < 128 → IsBelow 128 e → IsBelow 128 (cond last (Some sub) e)
below_same true sub e p h = p
below_same false sub e p h = h

-- the second rule
or_same : (x : Bool) → (x || x) ≡ x
or_same true = refl
or_same false = refl

past_some : (e : Option ℕ) (s : List Fragment) (k : ℕ) → EndsAt e s → is_past_end s k ≡ cond (is_some (end_of s)) (is_past e k) false
past_some e [] k h = refl
past_some e (b ∷ s) k h = go b.last h.0 (past_some e s k h.1)
  where
    joins : (o : Option ℕ) (x : Bool) → (x || cond (is_some o) x false) ≡ x
    joins None true = refl
    joins None false = refl
    joins (Some n) x = or_same x

    go : (last : Bool) → (last ≡ true → e ≡ Some b.sub) → is_past_end s k ≡ cond (is_some (end_of s)) (is_past e k) false →
        ((last && ltb b.sub k) || is_past_end s k) ≡ cond (is_some (cond last (Some b.sub) (end_of s))) (is_past e k) false
    go true f i = rw (i, f refl) (joins (end_of s) (ltb b.sub k))
    go false f i = i

past_same : (e : Option ℕ) (s : List Fragment) (k : ℕ) → EndsAt e s → e ≡ end_of s → is_past_end s k ≡ is_past e k
past_same e s k h q = past_some e s k h ∙ rw (← q) (go e)
  where
    go : (o : Option ℕ) → cond (is_some o) (is_past o k) false ≡ is_past o k
    go None = refl
    go (Some n) = refl

greater_one : (k b t : ℕ) → (ltb k b || ltb (k + 1) t) ≡ ltb (k + 1) (max t (b + 1))
greater_one k b t = grind (arith, nat_tests)

greater_same : (s : List Fragment) (k : ℕ) → has_greater s k ≡ ltb (k + 1) (top_of s)
greater_same [] k = sym (le-ltb (k + 1) 0 (omega arith))
greater_same (b ∷ s) k = rw (greater_same s k) (greater_one k b.sub (top_of s))

-- Why a fragment is not stored is told by the table.
pub refused_same : (t : Table) (s : List Fragment) (a : Fragment) → Holds t s → a.sub < 128 → refused s a ≡ refused_in t a.sub a.last (length a.bytes)
refused_same t s a h low =
    let x : stands s a.sub ≡ is_some (span_of t.spans a.sub) = sym (there (span_of t.spans a.sub) t.bytes ∙ ap is_some (h.pieces a.sub low)) in
    rw (← h.whole, x, past_same t.ending s a.sub h.ends h.ending, greater_same s a.sub, ← h.top, ← h.used) refl

-- what is known of a fragment that is stored
pub passed : (x y z : Bool) → cond x (Some Repeat) (cond y (Some Stray) (cond z (Some TooLong) None)) ≡ None → y ≡ false
passed true y z e = absurd (cc)
passed false true z e = absurd (cc)
passed false false z e = refl

ends_both : (s : List Fragment) (k : ℕ) → is_past_end s k ≡ false → has_greater s k ≡ false → EndsAt (Some k) s
ends_both [] k p g = tt
ends_both (b ∷ s) k p g =
    let x = or_parts (b.last && ltb b.sub k) (is_past_end s k) p in
    let y = or_parts (ltb k b.sub) (has_greater s k) g in
    (λ l. ap (λ (n : ℕ). Some n) (same b.last l x.0 (ltb-false k b.sub y.0)), ends_both s k x.1 y.1)
  where
    same : (last : Bool) → last ≡ true → (last && ltb b.sub k) ≡ false → b.sub ≤ k → k ≡ b.sub
    same true l e h = let f = ltb-false b.sub k e in omega arith
    same false l e h = absurd (cc)

ends_same : (t : Table) (s : List Fragment) (a : Fragment) → EndsAt t.ending s → is_stray s a ≡ false → EndsAt (cond a.last (Some a.sub) t.ending) (a ∷ s)
ends_same t s a h e =
    let x = or_parts (is_past_end s a.sub) (a.last && has_greater s a.sub) e in go a.last x.1 x.0
  where
    go : (last : Bool) → (last && has_greater s a.sub) ≡ false → is_past_end s a.sub ≡ false → (last ≡ true → cond last (Some a.sub) t.ending ≡ Some a.sub) × EndsAt (cond last (Some a.sub) t.ending) s
    go true g p = (λ l. refl, ends_both s a.sub p g)
    go false g p = (λ l. absurd (cc), h)

own : (spans : List (Option Span)) (bytes xs rest : List ℕ) (used sub : ℕ) → used ≤ length bytes → sub < length spans →
    shown (span_of (set spans sub (Some (record { from = used; len = length xs }))) sub) (take used bytes ++ (xs ++ rest)) ≡ Some xs
own spans bytes xs rest used sub r h =
    rw (get_or-set_same spans sub (Some (record { from = used; len = length xs })) None h) (ap (λ (ys : List ℕ). Some ys) (fresh bytes xs rest used r))

-- A fragment that is stored now, in memory after all others.
pub stored : (t u : Table) (s : List Fragment) (a : Fragment) (rest : List ℕ) → Holds t s → Inside t.spans t.used → refused s a ≡ None → a.sub < 128 → length t.spans ≡ 128 → t.used ≤ length t.bytes →
    u.spans ≡ set t.spans a.sub (Some (record { from = t.used; len = length a.bytes })) →
    u.bytes ≡ take t.used t.bytes ++ a.bytes ++ rest → u.used ≡ t.used + length a.bytes →
    u.ending ≡ cond a.last (Some a.sub) t.ending → u.top ≡ max t.top (a.sub + 1) → u.first ≡ cond (eqb t.top 0) a.at t.first → u.last ≡ a.at →
    (IsBelow 128 u.ending → u.whole ≡ whole_in u.spans u.ending) → Holds u (a ∷ s)
stored t u s a rest h inside passes low sizes room ps bs us es tops fs ls ws =
    let p : Option Span = Some (record { from = t.used; len = length a.bytes }) in
    let pieces : (k : ℕ) → k < 128 → shown (span_of u.spans k) u.bytes ≡ piece_at (a ∷ s) k = λ k l.
    rw (ps, bs ∙ append_assoc (take t.used t.bytes) a.bytes rest) (elim (eqb_tells a.sub k) [
      | inl e ↦ rw (e.0, ← e.1) (own t.spans t.bytes a.bytes rest t.used a.sub room (omega arith))
      | inr e ↦ rw (e.0, get_or-set_other t.spans a.sub k p None (λ q. e.1 (sym q)))
          (shown_kept (span_of t.spans k) t.bytes (a.bytes ++ rest) t.used (inside k l) room ∙ h.pieces k l)
    ]) in
    let below : IsBelow 128 u.ending = subst (IsBelow 128) (sym es) (below_same a.last a.sub t.ending low h.below) in
    let ending : u.ending ≡ end_of (a ∷ s) = es ∙ ap (λ (e : Option ℕ). cond a.last (Some a.sub) e) h.ending in
    let stray : is_stray s a ≡ false = passed _ (is_stray s a) _ passes in
    record {
      pieces = pieces;
      used = omega (arith, us, h.used);
      ending = ending;
      ends = subst (λ (e : Option ℕ). EndsAt e (a ∷ s)) (sym es) (ends_same t s a h.ends stray);
      below = below;
      top = tops ∙ ap (λ (n : ℕ). max n (a.sub + 1)) h.top;
      first = fs ∙ first_same t.top t.first s a h.top h.first;
      last = ls;
      whole = ws below ∙ whole_same u.ending u.spans u.bytes (a ∷ s) below pieces ∙ ap (whole_to (a ∷ s)) ending;
    }
