-- What `clap` makes of words that do not begin with a hyphen: up to five go to the positionals, in order.
use Rattle.std.proofs.Common.{◌≡◌, ℕ, ◌≤◌, List, [], ◌∷◌, refl, false, true, Bool, ◌||◌, ◌&&◌, ◌∙◌, ap, ap₂, cond, length, arith}
use Rattle.std.specs.Prelude.{None, ◌==◌, option_and_then, fold}
use Rattle.std.specs.Str.{bytes_eq}
use Rattle.std.specs.List.{list_all}
use Rattle.std.specs.Option.{option_map_or}
use Rattle.clap.specs.Lexer.{long_of, short_of, strip_byte, long_of_rest, short_of_rest}
use Rattle.clap.specs.Words.{Row, Rule, Text, Shape, matches_of, built, takes}
use Rattle.clap.specs.Walk.{walk, walked, walk_from, nothing_held, Walk, Held, value, idle, word_met, after_step, long_or_other, short_or_plain, trailing, finished}
use Rattle.clap.specs.Takes.{word_passes, walk_passes, turn_passes, step_passes, flag_word_passes, bundle_passes, entered_passes, settle_passes, default_passes, is_valid}
use Rattle.clap.proofs.OnLiterals.{clap_on_literals}
use Rattle.command_words.specs.Parsed.{program}

-- ---- words that are no flags

pub record IsPlainWord (a : Text) : Type 0 where
  pub no_end : bytes_eq a (45 ∷ 45 ∷ []) ≡ false
  pub no_long : long_of a ≡ None
  pub no_short : short_of a ≡ None

strip_plain : (x : ℕ) (xs : Text) → (x == 45) ≡ false → strip_byte 45 (x ∷ xs) ≡ None
strip_plain x xs e = rw e refl

pub plain_word_is : (x : ℕ) (xs : Text) → (x == 45) ≡ false → IsPlainWord (x ∷ xs)
plain_word_is x xs e = record {
  no_end = rw e refl;
  no_long = ap (λ o. option_and_then long_of_rest (option_and_then (strip_byte 45) o)) (strip_plain x xs e);
  no_short = ap (λ o. option_and_then short_of_rest o) (strip_plain x xs e);
}

-- all of them are plain
abbrev pub ArePlain : List Text → Type 0
ArePlain [] = Unit {0}
ArePlain (w ∷ ws) = IsPlainWord w × ArePlain ws

word_met-plain : (c : List Rule) (p : ℕ) (a : Text) (h : Held) → IsPlainWord a → word_met c [] false idle p a h ≡ (h, value)
word_met-plain c p a h plain =
    ap (λ b. cond b (h, trailing p) (long_or_other c idle a (long_of a) h)) plain.no_end
    ∙ ap (λ o. long_or_other c idle a o h) plain.no_long
    ∙ ap (λ o. short_or_plain c idle a o h) plain.no_short

word_passes-plain : (s : Shape) (a : Text) (h : Held) → IsPlainWord a → word_passes s [] false idle a h ≡ true
word_passes-plain s a h plain =
    ap (λ b. b || flag_word_passes s.rules s.args_override_self (long_of a) a h) plain.no_end
    ∙ ap (λ o. flag_word_passes s.rules s.args_override_self o a h) plain.no_long
    ∙ ap (λ o. option_map_or (λ flags. bundle_passes s.rules s.args_override_self flags h) o true) plain.no_short

-- ---- the walk

abbrev pub top : Shape
top = (built program).top

abbrev start : Walk
start = walk_from nothing_held

-- the walk after one more word that goes to a positional
abbrev step : Walk → Text → Walk
step w a = after_step top.rules a w w.held value

-- the walk after words that all go to positionals
abbrev pub plainly : List Text → Walk
plainly = fold step start

first_walked : (a : Text) → IsPlainWord a → walked top.rules [] start a ≡ step start a
unfolding clap_on_literals
first_walked a plain = ap (λ m. after_step top.rules a start m.0 m.1) (word_met-plain top.rules 1 a nothing_held plain)

second_walked : (a b : Text) → IsPlainWord b → walked top.rules [] (step start a) b ≡ step (step start a) b
unfolding clap_on_literals
second_walked a b plain = ap (λ m. after_step top.rules b (step start a) m.0 m.1) (word_met-plain top.rules 2 b (step start a).held plain)

third_walked : (a b c : Text) → IsPlainWord c → walked top.rules [] (step (step start a) b) c ≡ step (step (step start a) b) c
unfolding clap_on_literals
third_walked a b c plain = ap (λ m. after_step top.rules c (step (step start a) b) m.0 m.1) (word_met-plain top.rules 3 c (step (step start a) b).held plain)

fourth_walked : (a b c d : Text) → IsPlainWord d → walked top.rules [] (step (step (step start a) b) c) d ≡ step (step (step (step start a) b) c) d
unfolding clap_on_literals
fourth_walked a b c d plain = ap (λ m. after_step top.rules d (step (step (step start a) b) c) m.0 m.1) (word_met-plain top.rules 4 d (step (step (step start a) b) c).held plain)

fifth_walked : (a b c d e : Text) → IsPlainWord e → walked top.rules [] (step (step (step (step start a) b) c) d) e ≡ step (step (step (step (step start a) b) c) d) e
unfolding clap_on_literals
fifth_walked a b c d e plain = ap (λ m. after_step top.rules e (step (step (step (step start a) b) c) d) m.0 m.1) (word_met-plain top.rules 5 e (step (step (step (step start a) b) c) d).held plain)

pub walk_is : (ws : List Text) → ArePlain ws → length ws ≤ 5 → walk top.rules [] nothing_held ws ≡ plainly ws
walk_is [] p few = refl
walk_is (a ∷ []) p few = first_walked a p.0
walk_is (a ∷ b ∷ []) p few = ap (λ w. walked top.rules [] w b) (first_walked a p.0) ∙ second_walked a b p.1.0
walk_is (a ∷ b ∷ c ∷ []) p few =
    ap (λ w. walked top.rules [] (walked top.rules [] w b) c) (first_walked a p.0)
    ∙ ap (λ w. walked top.rules [] w c) (second_walked a b p.1.0)
    ∙ third_walked a b c p.1.1.0
walk_is (a ∷ b ∷ c ∷ d ∷ []) p few =
    ap (λ w. walked top.rules [] (walked top.rules [] (walked top.rules [] w b) c) d) (first_walked a p.0)
    ∙ ap (λ w. walked top.rules [] (walked top.rules [] w c) d) (second_walked a b p.1.0)
    ∙ ap (λ w. walked top.rules [] w d) (third_walked a b c p.1.1.0)
    ∙ fourth_walked a b c d p.1.1.1.0
walk_is (a ∷ b ∷ c ∷ d ∷ e ∷ []) p few =
    ap (λ w. walked top.rules [] (walked top.rules [] (walked top.rules [] (walked top.rules [] w b) c) d) e) (first_walked a p.0)
    ∙ ap (λ w. walked top.rules [] (walked top.rules [] (walked top.rules [] w c) d) e) (second_walked a b p.1.0)
    ∙ ap (λ w. walked top.rules [] (walked top.rules [] w d) e) (third_walked a b c p.1.1.0)
    ∙ ap (λ w. walked top.rules [] w e) (fourth_walked a b c d p.1.1.1.0)
    ∙ fifth_walked a b c d e p.1.1.1.1.0
walk_is (a ∷ b ∷ c ∷ d ∷ e ∷ f ∷ ws) p few = absurd (omega arith)

abbrev pub rows_at_end : Walk → List Row
rows_at_end w = finished top.rules w.held

pub rows_are : (ws : List Text) → ArePlain ws → length ws ≤ 5 → matches_of program ws ≡ rows_at_end (plainly ws)
rows_are ws p few = ap rows_at_end (walk_is ws p few)

-- ---- a parse passes

-- one turn passes, and the walk goes on
first_turn : (a : Text) → IsPlainWord a → turn_passes top [] start a ≡ true
first_turn a p = ap₂ (λ b m. b && step_passes top 1 m.0 m.1) (word_passes-plain top a nothing_held p) (word_met-plain top.rules 1 a nothing_held p)

second_turn : (a b : Text) → IsPlainWord b → turn_passes top [] (step start a) b ≡ true
second_turn a b p = ap₂ (λ t m. t && step_passes top 2 m.0 m.1) (word_passes-plain top b (step start a).held p) (word_met-plain top.rules 2 b (step start a).held p)

third_turn : (a b c : Text) → IsPlainWord c → turn_passes top [] (step (step start a) b) c ≡ true
third_turn a b c p = ap₂ (λ t m. t && step_passes top 3 m.0 m.1) (word_passes-plain top c (step (step start a) b).held p) (word_met-plain top.rules 3 c (step (step start a) b).held p)

fourth_turn : (a b c d : Text) → IsPlainWord d → turn_passes top [] (step (step (step start a) b) c) d ≡ true
fourth_turn a b c d p = ap₂ (λ t m. t && step_passes top 4 m.0 m.1) (word_passes-plain top d (step (step (step start a) b) c).held p) (word_met-plain top.rules 4 d (step (step (step start a) b) c).held p)

fifth_turn : (a b c d e : Text) → IsPlainWord e → turn_passes top [] (step (step (step (step start a) b) c) d) e ≡ true
fifth_turn a b c d e p = ap₂ (λ t m. t && step_passes top 5 m.0 m.1) (word_passes-plain top e (step (step (step (step start a) b) c) d).held p) (word_met-plain top.rules 5 e (step (step (step (step start a) b) c) d).held p)

from_fifth : (a b c d : Text) (ws : List Text) → ArePlain ws → length ws ≤ 1 → walk_passes top [] (step (step (step (step start a) b) c) d) ws ≡ true
unfolding clap_on_literals
from_fifth a b c d [] p few = refl
from_fifth a b c d (e ∷ []) p few = ap (λ t. t && true) (fifth_turn a b c d e p.0)
from_fifth a b c d (e ∷ f ∷ ws) p few = absurd (omega arith)

from_fourth : (a b c : Text) (ws : List Text) → ArePlain ws → length ws ≤ 2 → walk_passes top [] (step (step (step start a) b) c) ws ≡ true
unfolding clap_on_literals
from_fourth a b c [] p few = refl
from_fourth a b c (d ∷ ws) p few =
    ap₂ (λ t w. t && walk_passes top [] w ws) (fourth_turn a b c d p.0) (fourth_walked a b c d p.0) ∙ from_fifth a b c d ws p.1 (omega arith)

from_third : (a b : Text) (ws : List Text) → ArePlain ws → length ws ≤ 3 → walk_passes top [] (step (step start a) b) ws ≡ true
unfolding clap_on_literals
from_third a b [] p few = refl
from_third a b (c ∷ ws) p few =
    ap₂ (λ t w. t && walk_passes top [] w ws) (third_turn a b c p.0) (third_walked a b c p.0) ∙ from_fourth a b c ws p.1 (omega arith)

from_second : (a : Text) (ws : List Text) → ArePlain ws → length ws ≤ 4 → walk_passes top [] (step start a) ws ≡ true
unfolding clap_on_literals
from_second a [] p few = refl
from_second a (b ∷ ws) p few =
    ap₂ (λ t w. t && walk_passes top [] w ws) (second_turn a b p.0) (second_walked a b p.0) ∙ from_third a b ws p.1 (omega arith)

walk_passes-plain : (ws : List Text) → ArePlain ws → length ws ≤ 5 → walk_passes top [] start ws ≡ true
unfolding clap_on_literals
walk_passes-plain [] p few = refl
walk_passes-plain (a ∷ ws) p few =
    ap₂ (λ t w. t && walk_passes top [] w ws) (first_turn a p.0) (first_walked a p.0) ∙ from_second a ws p.1 (omega arith)

-- the rest of a level, at the end of its walk
abbrev ends_well : Walk → Bool
ends_well w = settle_passes top.rules top.args_override_self w.held && (list_all default_passes top.rules && is_valid top (finished top.rules w.held) false)

abbrev whole : Bool → Walk → Bool
whole passed w = entered_passes (built program) w.stopped && (passed && ends_well w)

plainly_whole : (ws : List Text) → length ws ≤ 5 → whole true (plainly ws) ≡ true
plainly_whole [] few = refl
plainly_whole (a ∷ []) few = refl
plainly_whole (a ∷ b ∷ []) few = refl
plainly_whole (a ∷ b ∷ c ∷ []) few = refl
plainly_whole (a ∷ b ∷ c ∷ d ∷ []) few = refl
plainly_whole (a ∷ b ∷ c ∷ d ∷ e ∷ []) few = refl
plainly_whole (a ∷ b ∷ c ∷ d ∷ e ∷ f ∷ ws) few = absurd (omega arith)

-- the parse takes them
pub taken_plain : (ws : List Text) → ArePlain ws → length ws ≤ 5 → takes program ws ≡ true
taken_plain ws p few = ap₂ whole (walk_passes-plain ws p few) (walk_is ws p few) ∙ plainly_whole ws few
