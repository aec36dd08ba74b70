-- Documents of injected frames.
use Rattle.std.proofs.Common.{◌≡◌, ℕ, ◌+◌, ◌≤◌, ◌≢◌, List, [], ◌∷◌, ◌++◌, length, map, Bool, true, false, nat_lt, Some, refl, sym, ap, ◌∙◌, arith, append_assoc, append-nil}
use Rattle.std.specs.Prelude.{ℤ, pos, negsuc, Ok, Err, All, codes, if◌then◌else◌, ◌==◌}
use Rattle.std.specs.List.{list_all}
use Rattle.std.specs.Fmt.{signed_decimal}
use Rattle.std.proofs.lemmas.Int.{ints}
use Rattle.std.proofs.lemmas.List.Elements.{All-head, All-tail}
use Rattle.air_source.specs.declared.events.Side.{Side}
use Rattle.air_source.specs.declared.events.Side.TheVariants.{Ru, Du}
use Rattle.fh_document.specs.declared.document.Injection.{Injection}
use Rattle.fh_document.specs.declared.refusals.DocWhy.TheVariants as why
use Rattle.fh_document.specs.ConfigLines.{time_at}
use Rattle.fh_document.specs.Document.{finished, after_line, read_from}
use Rattle.fh_document.specs.Hex.{frame_of}
use Rattle.fh_document.specs.InjectLines.{side_of, injected, inject_line}
use Rattle.fh_document.specs.Lines.{start, line_of}
use Rattle.fh_document.specs.Proper.{IsFrom}
use Rattle.fh_document.specs.Refusals.{or_refuse, ◌>>=◌}
use Rattle.fh_document.specs.Steps.{Said, injections, with_frames}
use Rattle.fh_document.specs.Words.{is_text, number_in}
use Rattle.fh_document.specs.Joined.{is_word}
use Rattle.fh_document.specs.Laws.{IsFrame, InjectionsAreRead}
use Rattle.fh_document.specs.WrittenLines.{inject_text, injections_text}
use Rattle.fh_document.specs.LineWords.{frame_word, inject_words}
use Rattle.fh_document.proofs.Tests.{then_ok, then_some}
use Rattle.fh_document.proofs.JoinLemmas.{words_text, lines_are}
use Rattle.fh_document.proofs.NumberLemmas.{number_is, signed_word}
use Rattle.fh_document.proofs.HexLemmas.{frame_is, frame_visible}
use Rattle.fh_document.proofs.LineLemmas.{line_is}
use Rattle.fh_base.specs.declared.nanoseconds.TheConstants.{LAST_TIME}
use Rattle.fh_base.proofs.Orders.{not_none as not_zero, both_true, if_not}
use Rattle.air_source.specs.Units.{way_text}

pub way_is : (side : Side) → side_of (way_text side) ≡ Some side
way_is Ru = refl
way_is Du = refl

pub way_visible : (side : Side) → is_word (way_text side) ≡ true
way_visible Ru = refl
way_visible Du = refl

pub inject_visible : (i : Injection) → IsFrame i → list_all is_word (inject_words i) ≡ true
inject_visible i h =
    both_true _ _ (way_visible i.side) (both_true _ _ (signed_word 0 LAST_TIME i.at (omega arith) h.time) (both_true _ true (frame_visible i.frame) refl))

time_ok : (z : ℤ) → IsFrom 0 LAST_TIME z → (or_refuse (number_in 0 LAST_TIME (signed_decimal z)) why.Number >>= (λ n. Ok (pos n))) ≡ Ok z
time_ok (pos n) h = then_some (number_in 0 LAST_TIME (signed_decimal (pos n))) why.Number n (λ m. Ok (pos m)) (number_is 0 LAST_TIME n (omega arith) (omega (arith, ints, h.high)) (omega (arith, ints, h.high)))
time_ok (negsuc n) h = absurd (omega (arith, ints, h.low))

inject_is : (r : Said) (i : Injection) → IsFrame i → inject_line r (inject_words i) ≡ injected r i
inject_is r i h =
    then_some (side_of (way_text i.side)) why.Number i.side _ (way_is i.side)
    ∙ then_ok (time_at 0 LAST_TIME (inject_words i) 2) i.at _ (time_ok i.at h.time)
    ∙ then_some (frame_of (frame_word i.frame)) why.Number i.frame _ (frame_is i.frame h.bytes h.short)

-- where no measurement is listed, a frame may be injected
may_inject : (a b c d : Bool) → (if a then 4 else (if b then 3 else (if c then 2 else (if d then 1 else 0)))) ≤ 4
may_inject true b c d = omega arith
may_inject false true c d = omega arith
may_inject false false true d = omega arith
may_inject false false false true = omega arith
may_inject false false false false = omega arith

-- the frames that are listed, and one more
line_adds : (r : Said) (so_far : List Injection) (n : ℕ) (i : Injection) → n ≢ 1 → IsFrame i → r.measures ≡ []
    → line_of (with_frames r so_far) n (inject_text i) ≡ Ok (with_frames r (so_far ++ i ∷ []))
line_adds r so_far n i later h none =
    line_is (with_frames r so_far) n injections (inject_words i) later (inject_visible i h) refl refl (order r.measures none)
    ∙ inject_is (with_frames r so_far) i h
  where
    order : {X : Type 0} (ms : List X) → ms ≡ [] → (if nat_lt 0 (length ms) then 5 else (if nat_lt 0 (length so_far) then 4
        else (if nat_lt 0 (length r.deliveries) then 3 else (if nat_lt 0 (length r.plan) then 2 else (if nat_lt 0 (length r.endpoints) then 1 else 0))))) ≤ 4
    order [] e = may_inject (nat_lt 0 (length so_far)) (nat_lt 0 (length r.deliveries)) (nat_lt 0 (length r.plan)) (nat_lt 0 (length r.endpoints))
    order (m ∷ ms) e = absurd (cc e)

all_read : (r : Said) (so_far : List Injection) (n : ℕ) (is : List Injection) → 2 ≤ n → All IsFrame is → r.measures ≡ []
    → read_from n (with_frames r so_far) (map inject_text is) ≡ Ok (finished (with_frames r (so_far ++ is)))
all_read r so_far n [] later h none = ap (λ xs. Ok (finished (with_frames r xs))) (sym (append-nil so_far))
all_read r so_far n (i ∷ is) later h none =
    ap (λ x. after_line x (λ next. read_from (n + 1) next (map inject_text is)) (λ w. Err (n, w)))
    (line_adds r so_far n i (λ e. absurd (omega arith)) (All-head IsFrame i is h) none)
    ∙ all_read r (so_far ++ i ∷ []) (n + 1) is (omega arith) (All-tail IsFrame i is h) none
    ∙ ap (λ xs. Ok (finished (with_frames r xs))) (append_assoc so_far (i ∷ []) is)

inject_texts : (is : List Injection) → All IsFrame is → list_all is_text (map inject_text is) ≡ true
inject_texts [] h = refl
inject_texts (i ∷ is) h = both_true _ _ (words_text (inject_words i) (inject_visible i (All-head IsFrame i is h))) (inject_texts is (All-tail IsFrame i is h))

pub first_read : (lines : List (List ℕ)) → read_from 1 start (codes "fronthaul 1" ∷ lines) ≡ read_from 2 start lines
unfolding line_of
first_read lines = refl

pub document_is : InjectionsAreRead
document_is is h =
    let all = codes "fronthaul 1" ∷ map inject_text is in
    if_not (length (injections_text is) == 0) (Err (1, why.FirstLine)) _ (not_zero (length (injections_text is)) (omega arith))
    ∙ ap (read_from 1 start) (lines_are all (omega arith) (inject_texts is h))
    ∙ first_read (map inject_text is)
    ∙ all_read start [] 2 is (omega arith) h refl
