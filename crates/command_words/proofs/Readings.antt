-- The words of a command, read as it.
use Rattle.std.proofs.Common.{◌≡◌, ◌∙◌, ℕ, ◌≤◌, ◌<◌, map, take, List, [], ◌∷◌, codes, refl, false, true, Bool, ap, sym, length, arith, is_some, ap₂, subst}
use Rattle.std.specs.Prelude.{Some, None, Option, if◌then◌else◌, Result, ok_or}
use Rattle.std.specs.Borrow.{Bor}
use Rattle.std.specs.Str.{IsUtf8}
use Rattle.std.proofs.Math.Seq.{take-length}
use Rattle.std.proofs.lemmas.Str.{IsUtf8-from_ascii}
use Rattle.clap.specs.Words.{Text}
use Rattle.command_words.specs.Answered.{AnswersWords}
use Rattle.command_words.specs.Parsed.{Flags, Given, spelled}
use Rattle.command_words.specs.Words.{command_of, command_with_one}
use Rattle.command_words.specs.declared.commands.Command.{Command}
use Rattle.command_words.specs.declared.faults.WordsFault.{WordsFault}
use Rattle.command_words.specs.declared.faults.WordsFault.TheVariants.{BadWords}
use Rattle.command_words.proofs.Parses.{Gives, faults_gives, flags_of, given_of, json_gives, no_flags, plain_gives, words_of}
use Rattle.command_words.proofs.Walks.{ArePlain}
use Rattle.command_words.proofs.Plain.{ascii_of, bare_plain, four_plain, plain_word, three_plain, two_plain, two_words, word_ascii}
use Rattle.fh_base.specs.Numbers.{word_at}

pub some_of : {X : Type 0} (o : Option X) → is_some o ≡ true → (x : X) × (o ≡ Some x)
some_of None e = cc
some_of (Some x) e = (x, refl)

-- (a lemma of its own, as `cc` computes what its goal names: at a goal about a parse, the parse of any words, in 4 GB of memory)
not_some : {X : Type 0} (x : X) → None ≡ Some x → ⊥
not_some x e = cc

-- ---- words that are no command

pub many_texts : (texts : List (Bor Text)) → 6 ≤ length texts → None ≡ command_of (map (λ w. w.now) texts)
many_texts [] more = absurd (omega arith)
many_texts (a ∷ []) more = absurd (omega arith)
many_texts (a ∷ b ∷ []) more = absurd (omega arith)
many_texts (a ∷ b ∷ c ∷ []) more = absurd (omega arith)
many_texts (a ∷ b ∷ c ∷ d ∷ []) more = absurd (omega arith)
many_texts (a ∷ b ∷ c ∷ d ∷ e ∷ []) more = absurd (omega arith)
many_texts (a ∷ b ∷ c ∷ d ∷ e ∷ f ∷ ws) more = refl

-- a word that is no text is no word of a command
pub no_text : (ws : List Text) (i : ℕ) → i < length ws → (IsUtf8 (word_at ws i) → ⊥) → command_of ws ≡ None
no_text ws i inside not_utf8 = go (command_of ws) refl
  where
    go : (o : Option Command) → command_of ws ≡ o → o ≡ None
    go None e = refl
    go (Some c) e = absurd (not_utf8 (IsUtf8-from_ascii (word_at ws i) (word_ascii ws i inside (ascii_of ws c e))))

-- the texts are the words, all of them
pub all_texts : (texts : List (Bor Text)) (ws : List Text) (i n : ℕ) → length ws ≤ i → i ≤ length ws → n ≡ length ws → map (λ w. w.now) (take i texts) ≡ take i ws → map (λ w. w.now) (take n texts) ≡ ws
all_texts texts ws i n past within is h =
    let reached : i ≡ length ws = omega arith in
    ap (λ k. map (λ w. w.now) (take k texts)) (is ∙ sym reached) ∙ h ∙ ap (λ k. take k ws) reached ∙ take-length ws

-- ---- words that are one

-- what a parse gives of them spells it
pub record Spells (ws : List Text) (command : Command) : Type 0 where
  pub flags : Flags
  pub given : Given
  pub gives : Gives ws flags given
  pub is : spelled flags given ≡ Some command

spells_plain : (ws : List Text) (c : Command) → ArePlain ws → length ws ≤ 5 → spelled no_flags (given_of ws) ≡ Some c → Spells ws c
spells_plain ws c plain few is = record { flags = no_flags; given = given_of ws; gives = plain_gives ws plain few; is = is }

-- words that are these, of which this is given
same_spells : (a b x y : Text) (c : Command) → a ≡ x → b ≡ y → Spells (x ∷ y ∷ []) c → Spells (a ∷ b ∷ []) c
same_spells a b x y c first second s =
    subst (λ (w : Text). Spells (w ∷ b ∷ []) c) (sym first) (subst (λ (v : Text). Spells (x ∷ v ∷ []) c) (sym second) s)

moved : (a b x y : Text) (c : Command) → a ≡ x → b ≡ y → command_with_one a b ≡ Some c → command_with_one x y ≡ Some c
moved a b x y c first second e = ap₂ command_with_one (sym first) (sym second) ∙ e

pub spells : (ws : List Text) (c : Command) → command_of ws ≡ Some c → Spells ws c
spells [] c e = absurd (not_some c e)
spells (a ∷ []) c e = spells_plain (a ∷ []) c (plain_word a (bare_plain a c e), tt) (omega arith) e
spells (a ∷ b ∷ []) c e =
    two_words a b c e
    (λ first second. same_spells a b _ _ c first second (record { flags = _; given = _; gives = json_gives; is = moved a b _ _ c first second e }))
    (λ first second. same_spells a b _ _ c first second (record { flags = _; given = _; gives = faults_gives; is = moved a b _ _ c first second e }))
    (λ first second. same_spells a b _ _ c first second
    (spells_plain (codes "draw" ∷ codes "windows" ∷ []) c (plain_word _ refl, (plain_word _ refl, tt)) (omega arith) (moved a b _ _ c first second e)))
spells (a ∷ b ∷ d ∷ []) c e =
    let p = two_plain a b d c e in
    spells_plain (a ∷ b ∷ d ∷ []) c (plain_word a p.0, (plain_word b p.1, (plain_word d p.2, tt))) (omega arith) e
spells (a ∷ b ∷ d ∷ f ∷ []) c e =
    let p = three_plain a b d f c e in
    spells_plain (a ∷ b ∷ d ∷ f ∷ []) c (plain_word a p.0, (plain_word b p.1, (plain_word d p.2, (plain_word f p.3, tt)))) (omega arith) e
spells (a ∷ b ∷ d ∷ f ∷ g ∷ []) c e =
    let p = four_plain a b d f g c e in
    spells_plain (a ∷ b ∷ d ∷ f ∷ g ∷ []) c (plain_word a p.0, (plain_word b p.1, (plain_word d p.2, (plain_word f p.3, (plain_word g p.4, tt))))) (omega arith) e
spells (a ∷ b ∷ d ∷ f ∷ g ∷ h ∷ ws) c e = absurd (not_some c e)

-- ---- what the calls give

pub flag_of : (b r : Bool) (o : Option Text) → o ≡ Some (if b then codes "true" else codes "false") → (o ≡ Some (codes "true") → r ≡ true) → (o ≡ Some (codes "false") → r ≡ false) → r ≡ b
flag_of true r o e t f = t e
flag_of false r o e t f = f e

pub same_spelled : (flags flags' : Flags) (given given' : Given) → flags ≡ flags' → given ≡ given' → spelled flags given ≡ spelled flags' given'
same_spelled flags flags' given given' e1 e2 = rw (e1, e2) refl

pub same_flags : (a a' b b' : Bool) → a ≡ a' → b ≡ b' → flags_of a b ≡ flags_of a' b'
same_flags a a' b b' e1 e2 = rw (e1, e2) refl

pub same_given : (a a' b b' d d' f f' g g' : Option Text) → a ≡ a' → b ≡ b' → d ≡ d' → f ≡ f' → g ≡ g'
    → words_of a b d f g ≡ words_of a' b' d' f' g'
same_given a a' b b' d d' f f' g g' e1 e2 e3 e4 e5 = rw (e1, e2, e3, e4, e5) refl

pub answered : (wanted : Option Command) (c : Command) (o : Option Command) (r : Result Command WordsFault) → wanted ≡ Some c → o ≡ Some c → r ≡ ok_or o BadWords → AnswersWords wanted r
answered wanted c o r e1 e2 e3 = rw (e3, e2) e1
