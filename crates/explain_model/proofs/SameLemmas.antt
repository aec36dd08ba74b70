-- What the tests of sameness say.
use Rattle.std.proofs.Common.{◌≡◌, ℕ, ◌==◌, true, refl, sym, ap, ◌∙◌}
use Rattle.std.specs.Prelude.{Option, Some, None, if◌then◌else◌}
use Rattle.std.proofs.lemmas.Bool.{and_parts, eqb-true}
use Rattle.explain_model.specs.Reasons.{word_of}
use Rattle.explain_model.specs.declared.reasons.Reason.{Reason}
use Rattle.explain_model.specs.declared.reasons.Reason.TheVariants as reason
use Rattle.explain_model.specs.declared.reasons.ReasonWord.{ReasonWord}
use Rattle.explain_model.specs.declared.reasons.ReasonWord.TheVariants as word
use Rattle.explain_model.specs.Same.{detail_of, from_of, pieces_of, place_of, same_reason, same_word}

-- the word at a place
abbrev word_at : ℕ → ReasonWord
word_at n =
    if n == 0 then word.Other
    else (if n == 1 then word.Late
    else (if n == 2 then word.Early
    else (if n == 3 then word.Refused
    else (if n == 4 then word.WrongWay
    else (if n == 5 then word.Repeated
    else (if n == 6 then word.Unfinished
    else (if n == 7 then word.CommandMismatch
    else (if n == 8 then word.CommandLate
    else (if n == 9 then word.CommandEarly
    else (if n == 10 then word.CommandRange
    else (if n == 11 then word.CommandRepeat
    else (if n == 12 then word.CommandOverlap
    else (if n == 13 then word.CommandFull
    else (if n == 14 then word.NoData
    else word.NoCommand))))))))))))))

word_back : (w : ReasonWord) → word_at (place_of w) ≡ w
word_back word.Other = refl
word_back word.Late = refl
word_back word.Early = refl
word_back word.Refused = refl
word_back word.WrongWay = refl
word_back word.Repeated = refl
word_back word.Unfinished = refl
word_back word.CommandMismatch = refl
word_back word.CommandLate = refl
word_back word.CommandEarly = refl
word_back word.CommandRange = refl
word_back word.CommandRepeat = refl
word_back word.CommandOverlap = refl
word_back word.CommandFull = refl
word_back word.NoData = refl
word_back word.NoCommand = refl

pub same_word_is : (a b : ReasonWord) → same_word a b ≡ true → a ≡ b
same_word_is a b h = sym (word_back a) ∙ ap word_at (eqb-true (place_of a) (place_of b) h) ∙ word_back b

-- the reason with a first word and three numbers
abbrev from_or : ℕ → ℕ → Option ℕ
from_or detail from = if detail == 0 then None else Some from

abbrev reason_at : ReasonWord → ℕ → ℕ → ℕ → Reason
reason_at word.Other from detail pieces = reason.Other detail from
reason_at word.Late from detail pieces = reason.Late detail from
reason_at word.Early from detail pieces = reason.Early detail from
reason_at word.Refused from detail pieces = reason.Refused from
reason_at word.WrongWay from detail pieces = reason.WrongWay from
reason_at word.Repeated from detail pieces = reason.Repeated detail from
reason_at word.Unfinished from detail pieces = reason.Unfinished detail pieces from
reason_at word.CommandMismatch from detail pieces = reason.CommandMismatch from
reason_at word.CommandLate from detail pieces = reason.CommandLate detail from
reason_at word.CommandEarly from detail pieces = reason.CommandEarly detail from
reason_at word.CommandRange from detail pieces = reason.CommandRange from
reason_at word.CommandRepeat from detail pieces = reason.CommandRepeat from
reason_at word.CommandOverlap from detail pieces = reason.CommandOverlap from
reason_at word.CommandFull from detail pieces = reason.CommandFull from
reason_at word.NoData from detail pieces = reason.NoData (from_or detail from)
reason_at word.NoCommand from detail pieces = reason.NoCommand

reason_back : (r : Reason) → reason_at (word_of r) (from_of r) (detail_of r) (pieces_of r) ≡ r
reason_back (reason.Other section from) = refl
reason_back (reason.Late by from) = refl
reason_back (reason.Early by from) = refl
reason_back (reason.Refused from) = refl
reason_back (reason.WrongWay from) = refl
reason_back (reason.Repeated seq from) = refl
reason_back (reason.Unfinished seq pieces from) = refl
reason_back (reason.CommandMismatch from) = refl
reason_back (reason.CommandLate by from) = refl
reason_back (reason.CommandEarly by from) = refl
reason_back (reason.CommandRange from) = refl
reason_back (reason.CommandRepeat from) = refl
reason_back (reason.CommandOverlap from) = refl
reason_back (reason.CommandFull from) = refl
reason_back (reason.NoData None) = refl
reason_back (reason.NoData (Some from)) = refl
reason_back reason.NoCommand = refl

reasons_equal : (w v : ReasonWord) (a b m n x y : ℕ) → w ≡ v → a ≡ b → m ≡ n → x ≡ y → reason_at w a m x ≡ reason_at v b n y
reasons_equal w v a b m n x y p q r s = cc

pub same_reason_is : (a b : Reason) → same_reason a b ≡ true → a ≡ b
same_reason_is a b h =
    let p = and_parts (same_word (word_of a) (word_of b)) _ h in
    let q = and_parts (from_of a == from_of b) _ p.1 in
    let r = and_parts (detail_of a == detail_of b) (pieces_of a == pieces_of b) q.1 in
    sym (reason_back a)
    ∙ reasons_equal (word_of a) (word_of b) (from_of a) (from_of b) (detail_of a) (detail_of b) (pieces_of a) (pieces_of b)
    (same_word_is (word_of a) (word_of b) p.0) (eqb-true _ _ q.0) (eqb-true _ _ r.0) (eqb-true _ _ r.1)
    ∙ reason_back b
