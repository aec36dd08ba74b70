-- Remainders of sums, and the samples that they make.
use Rattle.std.proofs.Common.{◌≡◌, ℕ, ◌+◌, ◌-◌, ◌*◌, ◌%◌, ◌<◌, ◌≤◌, inl, inr, ℤ, pos, ◌-ℤ◌, sym, ap, ap₂, ◌∙◌, arith}
use Rattle.std.proofs.Math.Nat.{mod-add-mod, add-mod-mod, add-mod_right, mod-eq_of_lt}
use Rattle.std.proofs.lemmas.Bool.{cases_lt}
use Rattle.air_source.specs.declared.places.RePlace.{RePlace}
use Rattle.bfp_codec.specs.declared.samples.Wide.{Wide}
use Rattle.air_source.specs.Tones.{base_of, number_of, wave, tone_of}
use Rattle.air_source.specs.declared.tones.Tone.{Tone}

-- the remainder of a sum is that of the remainders' sum
rest_of_sum : (a b m v n : ℕ) → a ≡ v % m → b ≡ n % m → (a + b) % m ≡ (v + n) % m
rest_of_sum a b m v n ea eb = ap₂ (λ x y. (x + y) % m) ea eb ∙ mod-add-mod v m (n % m) ∙ add-mod-mod v n m

pub below_turn : (a b m v n : ℕ) → a + b < m → a ≡ v % m → b ≡ n % m → a + b ≡ (v + n) % m
below_turn a b m v n lt ea eb = sym (mod-eq_of_lt lt) ∙ rest_of_sum a b m v n ea eb

pub past_turn : (a b m v n : ℕ) → m ≤ a + b → a + b - m < m → a ≡ v % m → b ≡ n % m → a + b - m ≡ (v + n) % m
past_turn a b m v n le lt ea eb =
    sym (mod-eq_of_lt lt) ∙ sym (add-mod_right (a + b - m) m) ∙ ap (λ x. x % m) (omega arith) ∙ rest_of_sum a b m v n ea eb

-- what is taken from a sum with 32 bits to spare, where no more than the sum is taken
past_wrap : (s m : ℕ) → s < 131072 → m ≤ s → (s + (4294967296 - m)) % 4294967296 ≡ s - m
past_wrap s m small le = ap (λ x. x % 4294967296) (first s m small le) ∙ add-mod_right (s - m) 4294967296 ∙ mod-eq_of_lt (omega arith)
  where
    first : (s m : ℕ) → s < 131072 → m ≤ s → s + (4294967296 - m) ≡ s - m + 4294967296
    first s m small le = omega arith

-- and where more is taken
below_wrap : (s m : ℕ) → m ≤ 65536 → s < m → (s + (4294967296 - m)) % 4294967296 ≡ s + (4294967296 - m)
below_wrap s m most lt = mod-eq_of_lt (omega arith)

-- the lesser of a sum and what is left of it by a turn is the sum's remainder: it wraps below 0 to more than the sum
pub less_is : (a b m v n : ℕ) → m ≤ 65536 → a < m → b < m → (a + b + (4294967296 - m)) % 4294967296 < a + b
    → a ≡ v % m → b ≡ n % m → (a + b + (4294967296 - m)) % 4294967296 ≡ (v + n) % m
less_is a b m v n most la lb less ea eb = elim (cases_lt (a + b) m) [
  | inl lt ↦ absurd (let e = below_wrap (a + b) m most lt in omega (arith, e, less))
  | inr ge ↦ past_wrap (a + b) m (omega arith) ge ∙ past_turn a b m v n ge (omega arith) ea eb
]

pub sum_is : (a b m v n : ℕ) → m ≤ 65536 → a < m → b < m → ((a + b + (4294967296 - m)) % 4294967296 < a + b → ⊥)
    → a ≡ v % m → b ≡ n % m → a + b ≡ (v + n) % m
sum_is a b m v n most la lb more ea eb = elim (cases_lt (a + b) m) [
  | inl lt ↦ below_turn a b m v n lt ea eb
  | inr ge ↦ absurd (more (let e = past_wrap (a + b) m (omega arith) ge in omega (arith, e, la, lb)))
]

thrice : (b r re : ℕ) → r ≡ re → 3 * b + 7 + 51 * re ≡ 3 * (b + 17 * r) + 7
thrice b r re e = omega arith

once : (b r re : ℕ) → r ≡ re → b + 17 * re ≡ b + 17 * r
once b r re e = omega arith

-- a number of the tone, from the remainders of its parts
wave_is : (a turn rest step sum v n all : ℕ) (w : ℤ) → turn ≡ 2 * a → rest ≡ v % (2 * a) → step ≡ n % (2 * a)
    → ((v n : ℕ) → rest ≡ v % turn → step ≡ n % turn → sum ≡ (v + n) % turn) → w ≡ pos sum -ℤ pos a → v + n ≡ all → w ≡ wave a all
wave_is a turn rest step sum v n all w tw er es f ew ea =
    let m : (x : ℕ) → x % (2 * a) ≡ x % turn = λ x. ap (λ y. x % y) (sym tw) in
    ew ∙ ap (λ s. pos s -ℤ pos a) (f v n (er ∙ m v) (es ∙ m n) ∙ sym (m (v + n)) ∙ ap (λ x. x % (2 * a)) ea)

-- a sample by its remainders for the PRB and its steps
pub sample_is : (t : Tone) (p : RePlace) (re turn rest_i rest_q step_i step_q sum_i sum_q : ℕ) (i q : ℤ) → turn ≡ 2 * t.amplitude → p.re ≡ re
    → rest_i ≡ base_of t p % (2 * t.amplitude) → rest_q ≡ (3 * base_of t p + 7) % (2 * t.amplitude)
    → step_i ≡ 17 * re % (2 * t.amplitude) → step_q ≡ 51 * re % (2 * t.amplitude)
    → ((v n : ℕ) → rest_i ≡ v % turn → step_i ≡ n % turn → sum_i ≡ (v + n) % turn)
    → ((v n : ℕ) → rest_q ≡ v % turn → step_q ≡ n % turn → sum_q ≡ (v + n) % turn)
    → i ≡ pos sum_i -ℤ pos t.amplitude → q ≡ pos sum_q -ℤ pos t.amplitude
    → ◌≡◌ {A = Wide} (record { i = i; q = q }) (tone_of t p)
unfolding tone_of
sample_is t p re turn rest_i rest_q step_i step_q sum_i sum_q i q tw pe ri rq si sq fi fq wi wq =
    ap₂ (λ (x y : ℤ). record { i = x; q = y })
    (wave_is t.amplitude turn rest_i step_i sum_i (base_of t p) (17 * re) (number_of t p) i tw ri si fi wi (once (base_of t p) p.re re pe))
    (wave_is t.amplitude turn rest_q step_q sum_q (3 * base_of t p + 7) (51 * re) (3 * number_of t p + 7) q tw rq sq fq wq (thrice (base_of t p) p.re re pe))
