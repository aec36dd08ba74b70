-- The object of a line, member by member.
use Rattle.std.proofs.Common.{◌≡◌, ℕ, ◌+◌, ◌<◌, List, [], ◌∷◌, ◌++◌, false, take, length, get_or, refl, ap, sym, ◌∙◌, pos, negsuc, ℤ}
use Rattle.std.specs.Prelude.{◌||◌, codes}
use Rattle.std.proofs.lemmas.Bool.{or_from, or_parts}
use Rattle.std.proofs.lemmas.List.{map_more, get_or_default}
use Rattle.std.specs.Ordering.{nat_cmp, match_ordering}
use Rattle.std.specs.Cmp.Lexicographic.{slice_cmp}
use Rattle.std.specs.declared.cmp.Ordering.{Ordering}
use Rattle.std.specs.declared.cmp.Ordering.TheVariants.{Less, Equal, Greater}
use Rattle.serde_json.specs.Data.{Data, Members, no_members, member, string, put}
use Rattle.serde_json.specs.Find.{of_integer, is_float}
use Rattle.serde_json.specs.Written.{has_float, members_have_float}
use Rattle.capture_show.specs.declared.values.Field.{Field}
use Rattle.capture_show.specs.declared.values.Field.TheVariants.{Count, Signed, Word}
use Rattle.capture_show.specs.declared.values.Member.{Member}
use Rattle.capture_show.specs.Lines.{ShownLine, kind_text, name_text}
use Rattle.capture_show.specs.Texts.{data_of, shown_members, put_all, object_of}

put_more : (xs : List (List ℕ × Data)) (x : List ℕ × Data) (ms : Members) → put_all (xs ++ x ∷ []) ms ≡ put x.0 x.1 (put_all xs ms)
put_more [] x ms = refl
put_more (y ∷ xs) x ms = put_more xs x (put y.0 y.1 ms)

put_at : (ms : List Member) (i : ℕ) (m : Member) (start : Members) → i < length ms → m ≡ get_or ms i m
    → put_all (shown_members (take (i + 1) ms)) start ≡ put (name_text m.name) (data_of m.field) (put_all (shown_members (take i ms)) start)
put_at ms i m start h is =
    ap (λ l. put_all l start)
    (map_more (λ n. (name_text n.name, data_of n.field)) ms i m h
    ∙ ap (λ n. shown_members (take i ms) ++ (name_text n.name, data_of n.field) ∷ []) (sym is))
    ∙ put_more (shown_members (take i ms)) (name_text m.name, data_of m.field) start

-- one more member is put
pub put_get : (ms : List Member) (i : ℕ) (d : Member) (start : Members) → i < length ms
    → put (name_text (get_or ms i d).name) (data_of (get_or ms i d).field) (put_all (shown_members (take i ms)) start) ≡ put_all (shown_members (take (i + 1) ms)) start
put_get ms i d start h = sym (put_at ms i (get_or ms i d) start h (get_or_default ms i d (get_or ms i d) h))

-- ---- nothing that is shown is a float

integer_is_plain : (z : ℤ) → is_float (of_integer z) ≡ false
integer_is_plain (pos n) = refl
integer_is_plain (negsuc n) = refl

data_is_plain : (f : Field) → has_float (data_of f) ≡ false
data_is_plain (Count n) = refl
data_is_plain (Signed z) = integer_is_plain z
data_is_plain (Word w) = refl

chosen_is_plain : (o : Ordering) (k l : List ℕ) (d e : Data) (ms rest : Members) → has_float d ≡ false → (has_float e || members_have_float ms) ≡ false → members_have_float rest ≡ false
    → members_have_float (match_ordering o (member k d (member l e ms)) (member l d ms) (member l e rest)) ≡ false
chosen_is_plain Less k l d e ms rest p q r = or_from (has_float d) (has_float e || members_have_float ms) p q
chosen_is_plain Equal k l d e ms rest p q r = or_from (has_float d) (members_have_float ms) p (or_parts (has_float e) (members_have_float ms) q).1
chosen_is_plain Greater k l d e ms rest p q r = or_from (has_float e) (members_have_float rest) (or_parts (has_float e) (members_have_float ms) q).0 r

put_is_plain : (k : List ℕ) (d : Data) (ms : Members) → has_float d ≡ false → members_have_float ms ≡ false → members_have_float (put k d ms) ≡ false
put_is_plain k d no_members p q = or_from (has_float d) false p refl
put_is_plain k d (member l e ms) p q =
    chosen_is_plain (slice_cmp nat_cmp k l) k l d e ms (put k d ms) p q (put_is_plain k d ms p (or_parts (has_float e) (members_have_float ms) q).1)

all_plain : (xs : List Member) (ms : Members) → members_have_float ms ≡ false → members_have_float (put_all (shown_members xs) ms) ≡ false
all_plain [] ms q = q
all_plain (x ∷ xs) ms q =
    all_plain xs (put (name_text x.name) (data_of x.field) ms) (put_is_plain (name_text x.name) (data_of x.field) ms (data_is_plain x.field) q)

pub object_is_plain : (l : ShownLine) → has_float (object_of l) ≡ false
unfolding object_of
object_is_plain l = all_plain l.members (put (codes "line") (string (kind_text l.kind)) no_members) refl
