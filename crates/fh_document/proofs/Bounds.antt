-- What a value is known to be where no reason was given.
use Rattle.std.proofs.Common.{◌≡◌, ℕ, ◌≤◌, List, Bool, true, false, Option, Some, None, refl, arith}
use Rattle.std.specs.Prelude.{ℤ, pos, ◌≤ℤ◌, Result, Ok, Err, IfOk, IfSome, if◌then◌else◌, int_lt}
use Rattle.std.proofs.lemmas.Int.{ints}
use Rattle.std.proofs.lemmas.Bool.Decides.{nat_tests}
use Rattle.window_config.specs.Limits.{IsRange}
use Rattle.fh_document.specs.declared.refusals.DocWhy.{DocWhy}
use Rattle.fh_document.specs.declared.refusals.DocWhy.TheVariants as why
use Rattle.fh_document.specs.Refusals.{or_refuse, ◌>>=◌}
use Rattle.fh_document.specs.Words.{number_in}
use Rattle.fh_document.specs.ConfigLines.{number_at, time_at, counted, ordered}
use Rattle.fh_document.specs.EndpointLines.{taking}
use Rattle.fh_document.specs.Proper.{IsFrom}
use Rattle.window_config.specs.declared.delays.TheConstants.{MOST_DELAY}
use Rattle.fh_base.specs.Numbers.{word_at}

pub ok_if : {A : Type 0} (P : A → Type 0) (b : Bool) (x y : Result A DocWhy) → (b ≡ true → IfOk x P) → (b ≡ false → IfOk y P) → IfOk (if b then x else y) P
ok_if P true x y f g = f refl
ok_if P false x y f g = g refl

pub ok_then : {A B : Type 0} (P : A → Type 0) (Q : B → Type 0) (x : Result A DocWhy) (next : A → Result B DocWhy) → IfOk x P → ((a : A) → P a → IfOk (next a) Q) → IfOk (x >>= next) Q
ok_then P Q (Ok a) next h f = f a h
ok_then P Q (Err w) next h f = tt

pub ok_or : {A : Type 0} (P : A → Type 0) (o : Option A) (w : DocWhy) → IfSome o P → IfOk (or_refuse o w) P
ok_or P None w h = tt
ok_or P (Some x) w h = h

pub some_if : {A : Type 0} (P : A → Type 0) (b : Bool) (x y : Option A) → (b ≡ true → IfSome x P) → (b ≡ false → IfSome y P) → IfSome (if b then x else y) P
some_if P true x y f g = f refl
some_if P false x y f g = g refl

pub some_then : {A B : Type 0} (P : A → Type 0) (Q : B → Type 0) (o : Option A) (next : A → Option B) → IfSome o P → ((a : A) → P a → IfSome (next a) Q) → IfSome (taking o next) Q
some_then P Q None next h f = tt
some_then P Q (Some x) next h f = f x h

-- nothing is known of the value itself
pub some_any : {A : Type 0} (o : Option A) → IfSome o (λ _. Unit {0})
some_any None = tt
some_any (Some x) = tt

abbrev pub Within : ℕ → ℕ → ℕ → Type 0
Within low high n = (low ≤ n) × (n ≤ high)

some_number : (low high : ℕ) (o : Option ℕ) → ((n : ℕ) → o ≡ Some n → Within low high n) → IfSome o (Within low high)
some_number low high None f = tt
some_number low high (Some n) f = f n refl

number_low : (low high : ℕ) (w : List ℕ) (n : ℕ) → number_in low high w ≡ Some n → low ≤ n
number_low low high w n e = grind (arith, nat_tests)

number_high : (low high : ℕ) (w : List ℕ) (n : ℕ) → number_in low high w ≡ Some n → n ≤ high
number_high low high w n e = grind (arith, nat_tests)

pub number_within : (low high : ℕ) (w : List ℕ) → IfSome (number_in low high w) (Within low high)
number_within low high w = some_number low high (number_in low high w) (λ n e. (number_low low high w n e, number_high low high w n e))

pub number_at_within : (low high : ℕ) (ws : List (List ℕ)) (i : ℕ) → IfOk (number_at low high ws i) (Within low high)
number_at_within low high ws i = ok_or (Within low high) (number_in low high (word_at ws i)) why.Number (number_within low high (word_at ws i))

pub from_number : (low high n : ℕ) → low ≤ n → n ≤ high → IsFrom low high (pos n)
from_number low high n l h = record { low = omega (arith, ints); high = omega (arith, ints) }

pub time_at_within : (low high : ℕ) (ws : List (List ℕ)) (i : ℕ) → IfOk (time_at low high ws i) (IsFrom low high)
time_at_within low high ws i =
    ok_then (Within low high) (IsFrom low high) (number_at low high ws i) (λ n. Ok (pos n)) (number_at_within low high ws i) (λ n h. from_number low high n h.0 h.1)

not_less : (a b : ℤ) → int_lt b a ≡ false → a ≤ℤ b
not_less a b e = grind (arith, ints)

pub ordered_within : (low : ℕ) (a b : ℤ) → IsFrom low MOST_DELAY a → IsFrom low MOST_DELAY b → IfOk (ordered a b) (IsRange low)
ordered_within low a b x y =
    ok_if (IsRange low) (int_lt b a) (Err why.MinMax) (Ok (record { min = a; max = b })) (λ t. tt)
    (λ f. record { low = x.low; order = not_less a b f; high = y.high })

pub counted_within : {A : Type 0} (P : A → Type 0) (n : ℕ) (ws : List (List ℕ)) (next : Result A DocWhy) → IfOk next P → IfOk (counted n ws next) P
counted_within P n ws next h = ok_if P _ next (Err why.Words) (λ t. h) (λ f. tt)

pub ok_weaker : {A : Type 0} (P Q : A → Type 0) (x : Result A DocWhy) → IfOk x P → ((a : A) → P a → Q a) → IfOk x Q
ok_weaker P Q (Ok a) h f = f a h
ok_weaker P Q (Err w) h f = tt

pub ok_any : {A : Type 0} (x : Result A DocWhy) → IfOk x (λ _. Unit {0})
ok_any (Ok a) = tt
ok_any (Err w) = tt

pub with_number : {B : Type 0} (Q : B → Type 0) (low high : ℕ) (ws : List (List ℕ)) (i : ℕ) (next : ℕ → Result B DocWhy)
    → ((n : ℕ) → Within low high n → IfOk (next n) Q) → IfOk (number_at low high ws i >>= next) Q
with_number Q low high ws i next f = ok_then (Within low high) Q (number_at low high ws i) next (number_at_within low high ws i) f

pub with_time : {B : Type 0} (Q : B → Type 0) (low high : ℕ) (ws : List (List ℕ)) (i : ℕ) (next : ℤ → Result B DocWhy)
    → ((ns : ℤ) → IsFrom low high ns → IfOk (next ns) Q) → IfOk (time_at low high ws i >>= next) Q
with_time Q low high ws i next f = ok_then (IsFrom low high) Q (time_at low high ws i) next (time_at_within low high ws i) f
