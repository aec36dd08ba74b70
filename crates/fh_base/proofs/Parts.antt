-- What was written of a text where not all of it was.
use Rattle.std.proofs.Common.{◌≡◌, ◌≢◌, ℕ, suc, ◌+◌, ◌<◌, List, [], ◌∷◌, ◌++◌, Option, length, take, drop, get_or, refl, sym, ap, subst, append_assoc, ◌∙◌, arith, length-append}
use Rattle.std.specs.List.{flat_map}
use Rattle.std.proofs.lemmas.List.{take-append-le}
use Rattle.std.proofs.Math.Seq.{take-append-add}
use Rattle.std.specs.Io.KnownBytes.{append_known}
use Rattle.fh_base.specs.Told.{WritesFront, WritesPart}
use Rattle.fh_base.specs.KnownLaws.{append_twice}
use Rattle.fh_base.specs.Owed.{Carried}
use Rattle.fh_base.proofs.OwedTelling.{texts_parted}

-- a part is a front
pub part_front : (old new : Option (List ℕ)) (text : List ℕ) → WritesPart old new text → WritesFront old new text
part_front old new text part = record { count = part.count; within = omega (arith, part.within); is = part.is }

-- a part of the first is one of both
pub part_first : (old new : Option (List ℕ)) (first second : List ℕ) → WritesPart old new first → WritesPart old new (first ++ second)
part_first old new first second part = record {
  count = part.count;
  within = omega (arith, length-append first second, part.within);
  is = part.is ∙ ap (append_known old) (sym (take-append-le part.count first second (omega (arith, part.within))));
}

-- after the whole of the first, a part of the second
pub part_second : (old middle new : Option (List ℕ)) (first second : List ℕ) → middle ≡ append_known old first → WritesPart middle new second → WritesPart old new (first ++ second)
part_second old middle new first second whole part = record {
  count = length first + part.count;
  within = omega (arith, length-append first second, part.within);
  is = part.is ∙ ap (λ o. append_known o (take part.count second)) whole ∙ append_twice old first (take part.count second)
      ∙ ap (append_known old) (sym (take-append-add first second part.count));
}

-- a text that is not empty has bytes
has_bytes : (text : List ℕ) → text ≢ [] → 0 < length text
has_bytes [] some = absurd (some refl)
has_bytes (b ∷ text) some = omega arith

-- a front of the first is a part of both, where the second is not empty
pub front_part : (old new : Option (List ℕ)) (first second : List ℕ) → second ≢ [] → WritesFront old new first → WritesPart old new (first ++ second)
front_part old new first second some front = record {
  count = front.count;
  within = omega (arith, length-append first second, front.within, has_bytes second some);
  is = front.is ∙ ap (append_known old) (sym (take-append-le front.count first second front.within));
}

-- ---- of text that is carried to a sink

-- a part of what is owed, after what was written, is one of what was owed and the text
pub part_pushed : (written : Option (List ℕ)) (owed text : List ℕ) (middle : Option (List ℕ)) (owed_now : List ℕ) (now : Option (List ℕ))
    → Carried written owed text middle owed_now → WritesPart middle now owed_now → WritesPart written now (owed ++ text)
part_pushed written owed text middle owed_now now h part =
    subst (λ (t : List ℕ). WritesPart written now t) h.splits (part_second written middle now h.pushed owed_now h.writes part)

-- a part of what is owed and more, after what was written, is one of the text and more
pub part_behind : (written : Option (List ℕ)) (owed text : List ℕ) (middle : Option (List ℕ)) (owed_now more : List ℕ) (now : Option (List ℕ))
    → Carried written owed text middle owed_now → WritesPart middle now (owed_now ++ more) → WritesPart written now (owed ++ (text ++ more))
part_behind written owed text middle owed_now more now h part =
    let splits = sym (append_assoc h.pushed owed_now more) ∙ ap (λ x. x ++ more) h.splits ∙ append_assoc owed text more in
    subst (λ (t : List ℕ). WritesPart written now t) splits (part_second written middle now h.pushed (owed_now ++ more) h.writes part)

-- a part of one item's text was told after those before it
pub part_at : {X : Type 0} (f : X → List ℕ) (xs : List X) (i : ℕ) (x d : X) (w v u : Option (List ℕ)) (o p : List ℕ) → i < length xs → x ≡ get_or xs i d
    → Carried w o (flat_map f (take i xs)) v p → WritesPart v u (p ++ f x) → WritesPart w u (o ++ flat_map f xs)
part_at f xs i x d w v u o p below is before part =
    let told = part_behind w o (flat_map f (take i xs)) v p (f x) u before part in
    let more = part_first w u (o ++ (flat_map f (take i xs) ++ f x)) (flat_map f (drop (suc i) xs)) told in
    subst (λ (t : List ℕ). WritesPart w u t)
    (append_assoc o (flat_map f (take i xs) ++ f x) (flat_map f (drop (suc i) xs)) ∙ ap (λ t. o ++ t) (texts_parted f xs i x d below is)) more

-- a part of what is owed and a text is one of these and more
pub part_before : (w v : Option (List ℕ)) (o first rest : List ℕ) → WritesPart w v (o ++ first) → WritesPart w v (o ++ (first ++ rest))
part_before w v o first rest part =
    subst (λ (t : List ℕ). WritesPart w v t) (append_assoc o first rest) (part_first w v (o ++ first) rest part)

-- a part of what was still owed was written
pub last_part : (w v u : Option (List ℕ)) (o told p : List ℕ) → o ≡ [] → Carried w o told v p → WritesPart v u p → WritesPart w u told
last_part w v u o told p none h part = subst (λ (t : List ℕ). WritesPart w u (t ++ told)) none (part_pushed w o told v p u h part)
