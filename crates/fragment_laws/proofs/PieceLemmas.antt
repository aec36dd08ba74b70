-- Copies of the fragments of one message, in the order in which they were received: what each of them is, and that one is Whole.
use Rattle.std.proofs.Common.{◌≡◌, ℕ, zero, suc, ◌≤ℤ◌, ◌+◌, ◌<◌, ◌≤◌, ◌⊎◌, inl, inr, List, [], ◌∷◌, ◌++◌, length, refl, ap, ap₂, sym, ◌∙◌, subst, arith, Option, Some, None, true, false, Bool, cond, if◌then◌else◌, ◌==◌, ◌&&◌, ◌||◌, nat_lt}
use Rattle.std.specs.Option.{unwrap_or}
use Rattle.std.proofs.lemmas.Int.{ints}
use Rattle.std.proofs.lemmas.Bool.{cases_eq, cases_Bool, eq-eqb, ne_eqb, le-ltb, and_parts, and_from, or_from}
use Rattle.ecpri_fragments.specs.Generations.{Fragment}
use Rattle.ecpri_fragments.specs.declared.verdict.Verdict.{Verdict}
use Rattle.ecpri_fragments.specs.Verdicts.{piece_at, stands, end_of, all_stand, whole_to, is_whole, is_past_end, has_greater, is_stray, size, refused, answer, with_one, verdict, standing, first_of, pieces_below, pieces_to}
use Rattle.ecpri_fragments.specs.declared.verdict.Verdict.TheVariants.{Stored, Whole, Repeat, Stray, TooLong}
use Rattle.fragment_laws.specs.Apart.{IsFalling}
use Rattle.fragment_laws.specs.Flow.{size_to}
use Rattle.fragment_laws.specs.Once.{Answered, answered, texts}
use Rattle.fragment_laws.proofs.SumLemmas.{sum_to, sum_to-same, sum_to-add, sum_to-one, sum_to-zero}
use Rattle.ecpri_fragments.specs.declared.place.TheConstants.{MESSAGE_BYTES}
use Rattle.fh_base.specs.Members.{IsIn}

-- a copy of a fragment of a message with n of them, whose bytes are these
pub record IsPiece (n : ℕ) (text : ℕ → List ℕ) (a : Fragment) : Type 0 where
  pub sub : a.sub < n
  pub last : a.last ≡ (a.sub + 1 == n)
  pub bytes : a.bytes ≡ text a.sub

abbrev pub ArePieces : ℕ → (ℕ → List ℕ) → List Fragment → Type 0
ArePieces n text s = (a : Fragment) → IsIn a s → IsPiece n text a

pub pieces_more : (n : ℕ) (text : ℕ → List ℕ) (a : Fragment) (s : List Fragment) → IsPiece n text a → ArePieces n text s → ArePieces n text (a ∷ s)
pieces_more n text a s p ps b m = elim m [ inl here ↦ subst (IsPiece n text) (sym here) p | inr there ↦ ps b there ]

-- what is stored with one fragment more
pub stands-own : (a : Fragment) (s : List Fragment) (k : ℕ) → a.sub ≡ k → stands (a ∷ s) k ≡ true
stands-own a s k e = let b = eq-eqb a.sub k e in rw b refl

stands-other : (a : Fragment) (s : List Fragment) (k : ℕ) → (a.sub ≡ k → ⊥) → stands (a ∷ s) k ≡ stands s k
stands-other a s k ne = let b = ne_eqb a.sub k ne in rw b refl

pub stands-more : (a : Fragment) (s : List Fragment) (k : ℕ) → stands s k ≡ true → stands (a ∷ s) k ≡ true
stands-more a s k there = elim (cases_eq a.sub k) [ inl e ↦ stands-own a s k e | inr ne ↦ stands-other a s k ne ∙ there ]

stands-again : (a : Fragment) (s : List Fragment) (k : ℕ) → stands s a.sub ≡ true → stands (a ∷ s) k ≡ stands s k
stands-again a s k there = elim (cases_eq a.sub k) [
  | inl e ↦ stands-own a s k e ∙ sym (ap (stands s) (sym e) ∙ there)
  | inr ne ↦ stands-other a s k ne
]

stands-same : (a : Fragment) (xs ys : List Fragment) (k : ℕ) → stands xs k ≡ stands ys k → stands (a ∷ xs) k ≡ stands (a ∷ ys) k
stands-same a xs ys k same = elim (cases_eq a.sub k) [
  | inl e ↦ stands-own a xs k e ∙ sym (stands-own a ys k e)
  | inr ne ↦ stands-other a xs k ne ∙ same ∙ sym (stands-other a ys k ne)
]

all_stand-same : (n : ℕ) (xs ys : List Fragment) → ((k : ℕ) → stands xs k ≡ stands ys k) → all_stand xs n ≡ all_stand ys n
all_stand-same zero xs ys same = refl
all_stand-same (suc n) xs ys same = ap₂ ◌&&◌ (same n) (all_stand-same n xs ys same)

all_stand-at : (n k : ℕ) (s : List Fragment) → all_stand s n ≡ true → k < n → stands s k ≡ true
all_stand-at zero k s all below = absurd (omega arith)
all_stand-at (suc n) k s all below =
    let parts = and_parts (stands s n) (all_stand s n) all in
    elim (cases_eq k n) [ inl e ↦ (ap (stands s) e ∙ parts.0) | inr ne ↦ all_stand-at n k s parts.1 (omega (arith, ne)) ]

pub all_stand-from : (n : ℕ) (s : List Fragment) → ((k : ℕ) → k < n → stands s k ≡ true) → all_stand s n ≡ true
all_stand-from zero s each = refl
all_stand-from (suc n) s each = and_from _ _ (each n (omega arith)) (all_stand-from n s (λ k b. each k (omega arith)))

-- where the fragment with E = 1 is stored it is the last one
data Ends (n : ℕ) (s : List Fragment) : Option ℕ → Type 0 where
  at_end : (e : ℕ) → e + 1 ≡ n → Ends n s (Some e)
  no_end : ((m : ℕ) → m + 1 ≡ n → stands s m ≡ false) → Ends n s None

-- both are empty, or the first of both were received at one time
pub data Like : List Fragment → List Fragment → Type 0 where
  empty : Like [] []
  both : (b : Fragment) (s : List Fragment) (c : Fragment) (h : List Fragment) → first_of (b ∷ s) ≡ first_of (c ∷ h) → Like (b ∷ s) (c ∷ h)

like_again : (a : Fragment) (s h : List Fragment) → stands h a.sub ≡ true → Like s h → Like s (a ∷ h)
like_again a [] [] stood empty = absurd (cc)
like_again a [] (_ ∷ _) stood l = elim l [ ]
like_again a (_ ∷ _) [] stood l = elim l [ ]
like_again a (_ ∷ _) (_ ∷ _) stood (both b s c h e) = both b s a (c ∷ h) e

like_now : (a : Fragment) (s h : List Fragment) → Like s h → Like (a ∷ s) (a ∷ h)
like_now a [] [] empty = both a [] a [] refl
like_now a [] (_ ∷ _) l = elim l [ ]
like_now a (_ ∷ _) [] l = elim l [ ]
like_now a (_ ∷ _) (_ ∷ _) (both b s c h e) = both a (b ∷ s) a (c ∷ h) e

first_same : (s h : List Fragment) → Like s h → first_of s ≡ first_of h
first_same [] [] empty = refl
first_same [] (_ ∷ _) l = elim l [ ]
first_same (_ ∷ _) [] l = elim l [ ]
first_same (_ ∷ _) (_ ∷ _) (both b s c h e) = e

module _ (n : ℕ) (text : ℕ → List ℕ) where
  rest : (a : Fragment) (s : List Fragment) → ArePieces n text (a ∷ s) → ArePieces n text s
  rest a s ps b m = ps b (inr m)

  ends : (s : List Fragment) → ArePieces n text s → Ends n s (end_of s)
  ends [] ps = no_end (λ m e. refl)
  ends (a ∷ s) ps =
      let l = (ps a (inl refl)).last in
      elim (cases_eq (a.sub + 1) n) [
        | inl e ↦ turn true (l ∙ eq-eqb _ _ e) (at_end a.sub e)
        | inr ne ↦ turn false (l ∙ ne_eqb _ _ ne) (go (end_of s) ne (ends s (rest a s ps)))
      ]
    where
      turn : (b : Bool) → a.last ≡ b → Ends n (a ∷ s) (cond b (Some a.sub) (end_of s)) → Ends n (a ∷ s) (end_of (a ∷ s))
      turn b e h = subst (λ (b : Bool). Ends n (a ∷ s) (cond b (Some a.sub) (end_of s))) (sym e) h

      go : (o : Option ℕ) → (a.sub + 1 ≡ n → ⊥) → Ends n s o → Ends n (a ∷ s) o
      go (Some _) ne (at_end e q) = at_end e q
      go None ne (no_end none) = no_end (λ m e. stands-other a s m (λ f. ne (omega (arith, e, f))) ∙ none m e)

  -- it is complete where all its pieces are stored
  pub is_whole-all : (m : ℕ) (s : List Fragment) → ArePieces n text s → n ≡ suc m → is_whole s ≡ all_stand s n
  is_whole-all m s ps some = go (end_of s) (ends s ps)
    where
      go : (o : Option ℕ) → Ends n s o → whole_to s o ≡ all_stand s n
      go (Some _) (at_end e q) = ap (all_stand s) q
      go None (no_end none) = let e = none m (omega (arith, some)) in rw some (rw e refl)

  -- the pieces that are stored are those of the message
  piece_at-is : (k : ℕ) (s : List Fragment) → ArePieces n text s → stands s k ≡ true → piece_at s k ≡ Some (text k)
  piece_at-is k [] ps there = absurd (cc)
  piece_at-is k (a ∷ s) ps there = elim (cases_eq a.sub k) [
    | inl e ↦ (let b = eq-eqb a.sub k e in rw b (ap (λ (x : List ℕ). Some x) ((ps a (inl refl)).bytes ∙ ap text e)))
    | inr ne ↦ (let b = ne_eqb a.sub k ne in rw b (piece_at-is k s (rest a s ps) (sym (stands-other a s k ne) ∙ there)))
  ]

  pieces_below-is : (k : ℕ) (s : List Fragment) → ArePieces n text s → all_stand s k ≡ true → pieces_below s k ≡ texts text k
  pieces_below-is zero s ps all = refl
  pieces_below-is (suc k) s ps all =
      let parts = and_parts (stands s k) (all_stand s k) all in
      ap₂ (λ (xs : List (List ℕ)) (x : List ℕ). xs ++ x ∷ []) (pieces_below-is k s ps parts.1) (ap (λ (o : Option (List ℕ)). unwrap_or o []) (piece_at-is k s ps parts.0))

  pub pieces_to-is : (m : ℕ) (s : List Fragment) → ArePieces n text s → n ≡ suc m → all_stand s n ≡ true → pieces_to s (end_of s) ≡ texts text n
  pieces_to-is m s ps some all = go (end_of s) (ends s ps)
    where
      go : (o : Option ℕ) → Ends n s o → pieces_to s o ≡ texts text n
      go (Some _) (at_end e q) = ap (pieces_below s) q ∙ pieces_below-is n s ps all
      go None (no_end none) = let e = none m (omega (arith, some)) in let f = all_stand-at n m s all (omega (arith, some)) in absurd (cc)

  -- of one message no fragment is stray
  and_none : (x : Bool) → (x && false) ≡ false
  and_none true = refl
  and_none false = refl

  not_past : (k : ℕ) (s : List Fragment) → ArePieces n text s → k < n → is_past_end s k ≡ false
  not_past k [] ps below = refl
  not_past k (b ∷ s) ps below =
      let l = (ps b (inl refl)).last in
      let one : (b.last && nat_lt b.sub k) ≡ false = elim (cases_eq (b.sub + 1) n) [
        | inl e ↦ (let f = le-ltb b.sub k (omega (arith, e, below)) in ap (λ (x : Bool). b.last && x) f ∙ and_none b.last)
        | inr ne ↦ ap (λ (x : Bool). x && nat_lt b.sub k) (l ∙ ne_eqb _ _ ne)
      ] in
      or_from _ _ one (not_past k s (rest b s ps) below)

  none_greater : (k : ℕ) (s : List Fragment) → ArePieces n text s → k + 1 ≡ n → has_greater s k ≡ false
  none_greater k [] ps e = refl
  none_greater k (b ∷ s) ps e =
      let l = (ps b (inl refl)).sub in
      or_from _ _ (le-ltb k b.sub (omega (arith, e, l))) (none_greater k s (rest b s ps) e)

  pub never_stray : (a : Fragment) (s : List Fragment) → IsPiece n text a → ArePieces n text s → is_stray s a ≡ false
  never_stray a s p ps = or_from _ _ (not_past a.sub s ps p.sub) (elim (cases_eq (a.sub + 1) n) [
    | inl e ↦ (let f = none_greater a.sub s ps e in ap (λ (x : Bool). a.last && x) f ∙ and_none a.last)
    | inr ne ↦ ap (λ (x : Bool). x && has_greater s a.sub) (p.last ∙ ne_eqb _ _ ne)
  ])

  -- the sizes of the pieces that are stored
  abbrev size_at : List Fragment → ℕ → ℕ
  size_at s k = if stands s k then length (text k) else 0

  abbrev sizes : List Fragment → ℕ
  sizes s = sum_to (size_at s) n

  size_at-more : (a : Fragment) (s : List Fragment) (k : ℕ) → stands s a.sub ≡ false → size_at (a ∷ s) k ≡ (if a.sub == k then length (text k) else 0) + size_at s k
  size_at-more a s k new = elim (cases_eq a.sub k) [
    | inl e ↦
        let d = eq-eqb a.sub k e in
        let f : stands s k ≡ false = ap (stands s) (sym e) ∙ new in
        let g = stands-own a s k e in
        ap (λ (x : Bool). cond x (length (text k)) 0) g ∙ rw (d, f) (omega arith)
    | inr ne ↦
        let d = ne_eqb a.sub k ne in
        let g = stands-other a s k ne in
        ap (λ (x : Bool). cond x (length (text k)) 0) g ∙ rw d (omega arith)
  ]

  sizes-more : (a : Fragment) (s : List Fragment) → IsPiece n text a → stands s a.sub ≡ false → sizes (a ∷ s) ≡ length a.bytes + sizes s
  sizes-more a s p new =
      sum_to-same (size_at (a ∷ s)) (λ k. (if a.sub == k then length (text k) else 0) + size_at s k) n (λ k b. size_at-more a s k new)
      ∙ sum_to-add (λ k. if a.sub == k then length (text k) else 0) (size_at s) n
      ∙ ap (λ (x : ℕ). x + sizes s) (sum_to-one (λ k. length (text k)) a.sub n p.sub ∙ sym (ap length p.bytes))

  at_most : (b : Bool) (k : ℕ) → cond b k 0 ≤ k
  at_most true k = omega arith
  at_most false k = omega arith

  sizes-most : (s : List Fragment) (k : ℕ) → sum_to (size_at s) k ≤ size_to text k
  sizes-most s zero = omega arith
  sizes-most s (suc k) = let r = sizes-most s k in let e = at_most (stands s k) (length (text k)) in omega (arith, r, e)

  -- what is stored of the fragments of the message that were received
  pub record IsStanding (held st : List Fragment) : Type 0 where
    pub within : (b : Fragment) → IsIn b st → IsIn b held
    pub same : (k : ℕ) → stands st k ≡ stands held k
    pub sum : size st ≡ sizes st
    pub like : Like st held

  module _ (m : ℕ) (some : n ≡ suc m) (short : size_to text n ≤ MESSAGE_BYTES) where
    repeat_one : (x y z : Bool) → x ≡ true → cond x (Some Repeat) (cond y (Some Stray) (cond z (Some TooLong) None)) ≡ Some Repeat
    repeat_one x y z e = rw e refl

    none_one : (x y z : Bool) → x ≡ false → y ≡ false → z ≡ false → cond x (Some Repeat) (cond y (Some Stray) (cond z (Some TooLong) None)) ≡ None
    none_one x y z e f g = rw (e, f, g) refl

    or_right : (a b : Bool) → b ≡ true → (a || b) ≡ true
    or_right true b e = refl
    or_right false b e = e

    fits : (a : Fragment) (s : List Fragment) → IsPiece n text a → size s ≡ sizes s → stands s a.sub ≡ false → nat_lt MESSAGE_BYTES (size s + length a.bytes) ≡ false
    fits a s p sum new =
        let more = sizes-more a s p new in
        let most = sizes-most (a ∷ s) n in
        le-ltb _ _ (omega (arith, more, most, sum, short))

    -- a fragment is refused where one of its subsequence was received before, and for no other cause
    pub refused_is : (a : Fragment) (held st : List Fragment) → IsPiece n text a → ArePieces n text held → IsStanding held st → refused st a ≡ cond (stands held a.sub) (Some Repeat) None
    refused_is a held st p ps s =
        let of : ArePieces n text st = λ b w. ps b (s.within b w) in
        elim (cases_Bool (stands held a.sub)) [
          | inl stood ↦ rw stood (repeat_one _ (is_stray st a) (nat_lt MESSAGE_BYTES (size st + length a.bytes)) (or_right (is_whole st) (stands st a.sub) (s.same a.sub ∙ stood)))
          | inr new ↦
              let fresh : stands st a.sub ≡ false = s.same a.sub ∙ new in
              let open_yet : is_whole st ≡ false = elim (cases_Bool (is_whole st)) [
                | inr not ↦ not
                | inl whole ↦ (let there = all_stand-at n a.sub st (sym (is_whole-all m st of some) ∙ whole) p.sub in absurd (let x = sym there ∙ fresh in cc))
              ] in
              rw new (none_one (is_whole st || stands st a.sub) (is_stray st a) (nat_lt MESSAGE_BYTES (size st + length a.bytes)) (or_from _ _ open_yet fresh) (never_stray a st p of) (fits a st p s.sum fresh))
        ]

    stands_again : (a : Fragment) (held st : List Fragment) → IsStanding held st → stands held a.sub ≡ true → IsStanding (a ∷ held) st
    stands_again a held st s stood = record { within = λ b w. inr (s.within b w); same = λ k. s.same k ∙ sym (stands-again a held k stood); sum = s.sum; like = like_again a st held stood s.like }

    stands_now : (a : Fragment) (held st : List Fragment) → IsPiece n text a → IsStanding held st → stands held a.sub ≡ false → IsStanding (a ∷ held) (a ∷ st)
    stands_now a held st p s new = record {
      within = λ b w. elim w [ inl here ↦ inl here | inr there ↦ inr (s.within b there) ];
      same = λ k. stands-same a st held k (s.same k);
      sum = ap (λ (x : ℕ). length a.bytes + x) s.sum ∙ sym (sizes-more a st p (s.same a.sub ∙ new));
      like = like_now a st held s.like;
    }

    pub standing_is : (held : List Fragment) → ArePieces n text held → IsStanding held (standing held)
    standing_is [] ps = record { within = λ b w. w; same = λ k. refl; sum = sym (sum_to-zero (size_at []) n (λ k b. refl)); like = empty }
    standing_is (a ∷ held) ps =
        let before = standing_is held (rest a held ps) in
        let p = ps a (inl refl) in
        let r = refused_is a held (standing held) p (rest a held ps) before in
        subst (λ (o : Option Verdict). IsStanding (a ∷ held) (with_one o a (standing held))) (sym r) (go (stands held a.sub) refl p before)
      where
        go : (b : Bool) → stands held a.sub ≡ b → IsPiece n text a → IsStanding held (standing held) → IsStanding (a ∷ held) (with_one (cond b (Some Repeat) None) a (standing held))
        go true e p s = stands_again a held (standing held) s e
        go false e p s = stands_now a held (standing held) p s e

    -- what a fragment of the message is
    pub verdict_is : (a : Fragment) (held : List Fragment) → IsPiece n text a → ArePieces n text held →
        verdict (standing held) a ≡ cond (stands held a.sub) Repeat (cond (all_stand (a ∷ held) n) Whole Stored)
    verdict_is a held p ps =
        let s = standing_is held ps in
        let r = refused_is a held (standing held) p ps s in
        elim (cases_Bool (stands held a.sub)) [
          | inl stood ↦ rw stood (ap (λ (o : Option Verdict). answer o (is_whole (a ∷ standing held))) (r ∙ ap (λ (x : Bool). cond x (Some Repeat) None) stood))
          | inr new ↦
              let now = stands_now a held (standing held) p s new in
              let w : is_whole (a ∷ standing held) ≡ all_stand (a ∷ held) n =
              is_whole-all m (a ∷ standing held) (λ b i. pieces_more n text a held p ps b (now.within b i)) some ∙ all_stand-same n (a ∷ standing held) (a ∷ held) now.same in
              rw new (ap₂ (λ (o : Option Verdict) (x : Bool). answer o x) (r ∙ ap (λ (x : Bool). cond x (Some Repeat) None) new) w)
        ]

-- what each of them is when it is received
abbrev pub answers_in : List Fragment → List Answered
answers_in [] = []
answers_in (a ∷ held) = answered (standing held) a ∷ answers_in held

-- one of these is Whole
pub record Once (n : ℕ) (text : ℕ → List ℕ) (held : List Fragment) (all : List Answered) : Type 0 where
  pub after : List Answered
  pub whole : Answered
  pub before : List Answered
  pub is : all ≡ after ++ whole ∷ before
  pub was : whole.was ≡ Whole
  pub repeats : (x : Answered) → IsIn x after → x.was ≡ Repeat
  pub waits : (x : Answered) → IsIn x before → (x.was ≡ Stored) ⊎ (x.was ≡ Repeat)
  pub pieces : whole.shows.pieces ≡ texts text n
  pub first : whole.shows.first ≡ first_of held
  pub last : whole.shows.last ≡ whole.fragment.at
  pub own : IsIn whole.fragment held
  pub there : (k : ℕ) → k < n → (b : Fragment) × IsIn b held × (b.sub ≡ k) × (b.at ≤ℤ whole.fragment.at)

pub data Made (n : ℕ) (text : ℕ → List ℕ) (held : List Fragment) (all : List Answered) : Bool → Type 0 where
  not_yet : ((x : Answered) → IsIn x all → (x.was ≡ Stored) ⊎ (x.was ≡ Repeat)) → Made n text held all false
  once : Once n text held all → Made n text held all true

first_kept : (a : Fragment) (s : List Fragment) (k : ℕ) → stands s k ≡ true → first_of (a ∷ s) ≡ first_of s
first_kept a [] k there = absurd (cc)
first_kept a (b ∷ s) k there = refl

find : (k : ℕ) (s : List Fragment) → stands s k ≡ true → (b : Fragment) × IsIn b s × (b.sub ≡ k)
find k [] there = absurd (cc)
find k (a ∷ s) there = elim (cases_eq a.sub k) [
  | inl e ↦ (a, inl refl, e)
  | inr ne ↦ (let r = find k s (sym (stands-other a s k ne) ∙ there) in (r.0, inr r.1, r.2))
]

-- none was received later than the newest
newest : (a : Fragment) (s : List Fragment) → IsFalling (a ∷ s) → (b : Fragment) → IsIn b (a ∷ s) → b.at ≤ℤ a.at
newest a s h b m = elim m [ inl here ↦ (let e = ap (λ (x : Fragment). x.at) here in omega (arith, ints)) | inr there ↦ h.0 b there ]

-- nor earlier than the first
pub oldest : (s : List Fragment) → IsFalling s → (b : Fragment) → IsIn b s → first_of s ≤ℤ b.at
oldest [] h b m = absurd m
oldest (a ∷ []) h b m = elim m [ inl here ↦ (let e = ap (λ (x : Fragment). x.at) here in omega (arith, ints)) | inr there ↦ absurd there ]
oldest (a ∷ c ∷ s) h b m =
    let before = oldest (c ∷ s) h.1 in
    elim m [
      | inl here ↦ (let e = ap (λ (x : Fragment). x.at) here in let x = before c (inl refl) in let y = h.0 c (inl refl) in omega (arith, ints))
      | inr there ↦ before b there
    ]

module _ (n : ℕ) (text : ℕ → List ℕ) (m : ℕ) (some : n ≡ suc m) (short : size_to text n ≤ MESSAGE_BYTES) where
  was : (a : Fragment) (held : List Fragment) (v : Verdict) → verdict (standing held) a ≡ v → (x : Answered) → x ≡ answered (standing held) a → x.was ≡ v
  was a held v e x f = ap (λ (y : Answered). y.was) f ∙ e

  pub made : (held : List Fragment) → IsFalling held → ArePieces n text held → Made n text held (answers_in held) (all_stand held n)
  made [] order ps = subst (Made n text [] []) (sym (ap (all_stand []) some)) (not_yet (λ x w. absurd w))
  made (a ∷ held) order ps = go (all_stand held n) refl (made held order.1 (rest n text a held ps))
    where
      p : IsPiece n text a
      p = ps a (inl refl)

      of : ArePieces n text held
      of = rest n text a held ps

      v : verdict (standing held) a ≡ cond (stands held a.sub) Repeat (cond (all_stand (a ∷ held) n) Whole Stored)
      v = verdict_is n text m some short a held p of

      turned : (b : Bool) → all_stand (a ∷ held) n ≡ b → Made n text (a ∷ held) (answers_in (a ∷ held)) b → Made n text (a ∷ held) (answers_in (a ∷ held)) (all_stand (a ∷ held) n)
      turned b e h = subst (Made n text (a ∷ held) (answers_in (a ∷ held))) (sym e) h

      go : (b : Bool) → all_stand held n ≡ b → Made n text held (answers_in held) b → Made n text (a ∷ held) (answers_in (a ∷ held)) (all_stand (a ∷ held) n)
      go true e (once o) =
          let stood = all_stand-at n a.sub held e p.sub in
          let r : verdict (standing held) a ≡ Repeat = v ∙ ap (λ (x : Bool). cond x Repeat (cond (all_stand (a ∷ held) n) Whole Stored)) stood in
          let all = all_stand-from n (a ∷ held) (λ k b. stands-more a held k (all_stand-at n k held e b)) in
          turned true all (once (record {
            after = answered (standing held) a ∷ o.after;
            whole = o.whole;
            before = o.before;
            is = ap (λ (xs : List Answered). answered (standing held) a ∷ xs) o.is;
            was = o.was;
            repeats = λ x w. elim w [ inl here ↦ was a held Repeat r x here | inr there ↦ o.repeats x there ];
            waits = o.waits;
            pieces = o.pieces;
            first = o.first ∙ sym (first_kept a held a.sub stood);
            last = o.last;
            own = inr o.own;
            there = λ k b. (let r = o.there k b in (r.0, inr r.1, r.2, r.3));
          }))
      go false e (not_yet waits) = elim (cases_Bool (stands held a.sub)) [
        | inl stood ↦
            let r : verdict (standing held) a ≡ Repeat = v ∙ ap (λ (x : Bool). cond x Repeat (cond (all_stand (a ∷ held) n) Whole Stored)) stood in
            turned false (all_stand-same n (a ∷ held) held (λ k. stands-again a held k stood) ∙ e)
            (not_yet (λ x w. elim w [ inl here ↦ inr (was a held Repeat r x here) | inr there ↦ waits x there ]))
        | inr new ↦
            let r : verdict (standing held) a ≡ cond (all_stand (a ∷ held) n) Whole Stored = v ∙ ap (λ (x : Bool). cond x Repeat (cond (all_stand (a ∷ held) n) Whole Stored)) new in
            elim (cases_Bool (all_stand (a ∷ held) n)) [
              | inl now ↦
                  let s = standing_is n text m some short held of in
                  let next = stands_now n text m some short a held (standing held) p s new in
                  let st : ArePieces n text (a ∷ standing held) = λ b i. ps b (next.within b i) in
                  let all : all_stand (a ∷ standing held) n ≡ true = all_stand-same n (a ∷ standing held) (a ∷ held) next.same ∙ now in
                  turned true now (once (record {
                    after = [];
                    whole = answered (standing held) a;
                    before = answers_in held;
                    is = refl;
                    was = r ∙ ap (λ (x : Bool). cond x Whole Stored) now;
                    repeats = λ x w. absurd w;
                    waits = waits;
                    pieces = pieces_to-is n text m (a ∷ standing held) st some all;
                    first = first_same (a ∷ standing held) (a ∷ held) next.like;
                    last = refl;
                    own = inl refl;
                    there = λ k b. (let r = find k (a ∷ held) (all_stand-at n k (a ∷ held) now b) in (r.0, r.1, r.2, newest a held order r.0 r.1));
                  }))
              | inr other ↦
                  turned false other (not_yet (λ x w. elim w [ inl here ↦ inl (was a held Stored (r ∙ ap (λ (x : Bool). cond x Whole Stored) other) x here) | inr there ↦ waits x there ]))
            ]
      ]
