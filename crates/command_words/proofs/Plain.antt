-- The words of a command are few, of ASCII, and begin with no hyphen.
use Rattle.std.proofs.Common.{◌≡◌, ℕ, zero, suc, ◌+◌, ◌-◌, ◌*◌, ◌<◌, List, [], ◌∷◌, codes, refl, false, true, Bool, ◌&&◌, not, sym, subst, length, nat_le, nat_lt, arith}
use Rattle.std.specs.Prelude.{Some, None, Option, ◌==◌, ◌%◌, ◌/◌, if◌then◌else◌, slice_index, Result, Ok, Err}
use Rattle.hex.specs.Hex.{◌>>=◌, decode_pairs, digit_or_error, hex_digit_value, value_at}
use Rattle.hex.specs.declared.error.FromHexError.{FromHexError}
use Rattle.hex.specs.declared.error.FromHexError.TheVariants.{OddLength, InvalidStringLength}
use Rattle.std.specs.Str.{bytes_eq, IsAscii}
use Rattle.std.specs.List.{list_all}
use Rattle.std.specs.Str.Parse.{digits_value}
use Rattle.std.proofs.lemmas.Slice.Eq.{bytes_eq-Decides}
use Rattle.std.proofs.lemmas.Str.Ascii.{IsAscii-nil, IsAscii-cons}
use Rattle.std.proofs.lemmas.Bool.Decides.{nat_tests}
use Rattle.air_source.specs.declared.events.Side.{Side}
use Rattle.air_source.specs.declared.events.Side.TheVariants.{Ru, Du}
use Rattle.fh_base.specs.Numbers.{number_in, is_decimal, word_at}
use Rattle.command_words.specs.Words.{address_in, bare_command, bytes_in, command_of, command_with_four, command_with_one, command_with_three, command_with_two, count_in, frame_in, whose_by, whose_in, least_in, plain_in, seed_in, slots_in, start_in, step_in, subframe_in, subframes_in, way_in, with_both, with_frames, with_grid}
use Rattle.command_words.specs.declared.commands.Command.{Command}
use Rattle.command_words.specs.declared.commands.Command.TheVariants.{Replay, Summary, Capture, Show, Explain, Sent, Windows, Fit, Generate, Trial, Shared, Pcap, PcapCapture}
use Rattle.pcap_frames.specs.declared.values.Whose.{Whose}
use Rattle.command_words.proofs.Walks.{IsPlainWord, plain_word_is}
use Rattle.fh_base.specs.declared.nanoseconds.TheConstants.{LAST_TIME}
use Rattle.fh_base.proofs.Orders.{is_false as not_true, both as both_true}

-- of ASCII, and begun by no hyphen
abbrev pub is_plain : List ℕ → Bool
is_plain w = not (slice_index w 0 == 45) && list_all (λ b. nat_lt b 128) w

-- ---- a literal

same_text : (a b : List ℕ) → bytes_eq a b ≡ true → a ≡ b
same_text a b e = (bytes_eq-Decides a b).0 e

-- the word is this text, or what follows holds of it
pub literal_or : {X : Type 0} (literal w : List ℕ) (o rest : Option X) (c : X) → is_plain literal ≡ true → (if bytes_eq w literal then o else rest) ≡ Some c
    → (rest ≡ Some c → is_plain w ≡ true) → is_plain w ≡ true
literal_or literal w o rest c plain e next = go (bytes_eq w literal) refl e
  where
    go : (t : Bool) → bytes_eq w literal ≡ t → (if t then o else rest) ≡ Some c → is_plain w ≡ true
    go true same e = subst (λ (v : List ℕ). is_plain v ≡ true) (sym (same_text w literal same)) plain
    go false same e = next e

-- ---- a number

digit_plain : (b : ℕ) (bs : List ℕ) → (nat_le 48 b && nat_le b 57) ≡ true → list_all (λ b. nat_lt b 128) bs ≡ true → is_plain (b ∷ bs) ≡ true
digit_plain b bs digit rest =
    let range = both_true (nat_le 48 b) (nat_le b 57) digit in
    let low : nat_le 48 b ≡ true = range.0 in
    let high : nat_le b 57 ≡ true = range.1 in
    let other : (b == 45) ≡ false = grind (arith, nat_tests) in
    let small : nat_lt b 128 ≡ true = grind (arith, nat_tests) in
    rw (other, small, rest) refl

decimal_ascii : (w : List ℕ) → is_decimal w ≡ true → list_all (λ b. nat_lt b 128) w ≡ true
decimal_ascii [] e = refl
decimal_ascii (b ∷ bs) e =
    let both = both_true (nat_le 48 b && nat_le b 57) (is_decimal bs) e in
    let range = both_true (nat_le 48 b) (nat_le b 57) both.0 in
    let high : nat_le b 57 ≡ true = range.1 in
    let small : nat_lt b 128 ≡ true = grind (arith, nat_tests) in
    rw (small, decimal_ascii bs both.1) refl

decimal_plain : (w : List ℕ) → is_decimal w ≡ true → is_plain w ≡ true
decimal_plain [] e = refl
decimal_plain (b ∷ bs) e =
    let both = both_true (nat_le 48 b && nat_le b 57) (is_decimal bs) e in
    digit_plain b bs both.0 (decimal_ascii bs both.1)

number_decimal : (most low high n : ℕ) (w : List ℕ) → number_in most low high w ≡ Some n → is_decimal w ≡ true
number_decimal most low high n w e =
    go (nat_lt 0 (length w)) (nat_le (length w) most) (is_decimal w) (nat_le low (digits_value 10 w) && nat_le (digits_value 10 w) high) e
  where
    go : (a b d r : Bool) → (if a && (b && (d && r)) then Some (digits_value 10 w) else None) ≡ Some n → d ≡ true
    go true true true r e = refl
    go true true false r e = cc
    go true false d r e = cc
    go false b d r e = cc

pub number_plain : (most low high n : ℕ) (w : List ℕ) → number_in most low high w ≡ Some n → is_plain w ≡ true
number_plain most low high n w e = decimal_plain w (number_decimal most low high n w e)

-- ---- the commands

pub bare_plain : (w : List ℕ) (c : Command) → bare_command w ≡ Some c → is_plain w ≡ true
bare_plain w c e =
    literal_or (codes "replay") w (Some Replay) _ c refl e (λ e.
    literal_or (codes "summary") w (Some Summary) _ c refl e (λ e.
    literal_or (codes "capture") w (Some Capture) _ c refl e (λ e.
    literal_or (codes "show") w (Some (Show false)) _ c refl e (λ e.
    literal_or (codes "explain") w (Some (Explain false)) _ c refl e (λ e.
    literal_or (codes "sent") w (Some Sent) _ c refl e (λ e.
    literal_or (codes "windows") w (Some Windows) _ c refl e (λ e.
    literal_or (codes "fit") w (Some Fit) None c refl e (λ e. cc))))))))

way_plain : (w : List ℕ) (side : Side) → way_in w ≡ Some side → is_plain w ≡ true
way_plain w side e =
    literal_or (codes "dl") w (Some Ru) _ side refl e (λ e.
    literal_or (codes "ul") w (Some Du) None side refl e (λ e. cc))

-- ---- an address

-- neither a hyphen nor beyond ASCII
abbrev is_small : ℕ → Bool
is_small b = not (b == 45) && nat_lt b 128

range_small : (l h b : ℕ) → 45 < l → h < 128 → (nat_le l b && nat_le b h) ≡ true → is_small b ≡ true
range_small l h b low high e =
    let range = both_true (nat_le l b) (nat_le b h) e in
    let at_least : nat_le l b ≡ true = range.0 in
    let at_most : nat_le b h ≡ true = range.1 in
    let other : (b == 45) ≡ false = grind (arith, nat_tests) in
    let small : nat_lt b 128 ≡ true = grind (arith, nat_tests) in
    rw (other, small) refl

digit_small : (b v : ℕ) → hex_digit_value b ≡ Some v → is_small b ≡ true
digit_small b v e = go (nat_le 65 b && nat_le b 70) (nat_le 97 b && nat_le b 102) (nat_le 48 b && nat_le b 57) refl refl refl e
  where
    go : (x y z : Bool) → (nat_le 65 b && nat_le b 70) ≡ x → (nat_le 97 b && nat_le b 102) ≡ y → (nat_le 48 b && nat_le b 57) ≡ z
        → (if x then Some (b - 55) else (if y then Some (b - 87) else (if z then Some (b - 48) else None))) ≡ Some v → is_small b ≡ true
    go true y z upper lower digit e = range_small 65 70 b (omega arith) (omega arith) upper
    go false true z upper lower digit e = range_small 97 102 b (omega arith) (omega arith) lower
    go false false true upper lower digit e = range_small 48 57 b (omega arith) (omega arith) digit
    go false false false upper lower digit e = cc

value_small : (b i v : ℕ) → value_at b i ≡ Ok v → is_small b ≡ true
value_small b i v e = go (hex_digit_value b) refl e
  where
    go : (o : Option ℕ) → hex_digit_value b ≡ o → digit_or_error b i o ≡ Ok v → is_small b ≡ true
    go (Some d) is e = digit_small b d is
    go None is e = cc

pairs_small : (i : ℕ) (w bs : List ℕ) → decode_pairs i w ≡ Ok bs → list_all is_small w ≡ true
unfolding decode_pairs
pairs_small i [] bs e = refl
pairs_small i (b ∷ []) bs e = cc
pairs_small i (b ∷ d ∷ rest) bs e = go (value_at b i) (value_at d (i + 1)) (decode_pairs (i + 2) rest) refl refl refl (λ z. pairs_small (i + 2) rest z) e
  where
    go : (x y : Result ℕ FromHexError) (z : Result (List ℕ) FromHexError) → value_at b i ≡ x → value_at d (i + 1) ≡ y → decode_pairs (i + 2) rest ≡ z
        → ((z : List ℕ) → decode_pairs (i + 2) rest ≡ Ok z → list_all is_small rest ≡ true)
        → ((x >>= (λ h. y >>= (λ l. Ok (h * 16 + l)))) >>= (λ byte. z >>= (λ bytes. Ok (byte ∷ bytes)))) ≡ Ok bs → list_all is_small (b ∷ d ∷ rest) ≡ true
    go (Ok x) (Ok y) (Ok z) high low others small e = rw (value_small b i x high, value_small d (i + 1) y low, small z others) refl
    go (Ok x) (Ok y) (Err z) high low others small e = cc
    go (Ok x) (Err y) z high low others small e = cc
    go (Err x) y z high low others small e = cc

small_ascii : (w : List ℕ) → list_all is_small w ≡ true → list_all (λ b. nat_lt b 128) w ≡ true
small_ascii [] e = refl
small_ascii (b ∷ bs) e =
    let both = both_true (is_small b) (list_all is_small bs) e in
    rw ((both_true (not (b == 45)) (nat_lt b 128) both.0).1, small_ascii bs both.1) refl

small_plain : (w : List ℕ) → list_all is_small w ≡ true → is_plain w ≡ true
small_plain [] e = refl
small_plain (b ∷ bs) e =
    let first = both_true (is_small b) (list_all is_small bs) e in
    rw ((both_true (not (b == 45)) (nat_lt b 128) first.0).0, small_ascii (b ∷ bs) e) refl

address_plain : (w bs : List ℕ) → address_in w ≡ Some bs → is_plain w ≡ true
address_plain w bs e = go (length w % 2 == 1) (length w / 2 == 6) (decode_pairs 0 w) refl e
  where
    go : (o s : Bool) (r : Result (List ℕ) FromHexError) → decode_pairs 0 w ≡ r
        → bytes_in (if o then Err OddLength else (if s then r else Err InvalidStringLength)) ≡ Some bs → is_plain w ≡ true
    go false true (Ok bytes) is e = small_plain w (pairs_small 0 w bytes is)
    go false true (Err why) is e = cc
    go false false r is e = cc
    go true s r is e = cc

wanted_plain : (w : List ℕ) (whose : Whose) → whose_in w ≡ Some whose → is_plain w ≡ true
wanted_plain w whose e = go (way_in w) (address_in w) refl refl e
  where
    go : (way : Option Side) (address : Option (List ℕ)) → way_in w ≡ way → address_in w ≡ address → whose_by way address ≡ Some whose → is_plain w ≡ true
    go (Some side) address is_way is_address e = way_plain w side is_way
    go None (Some bytes) is_way is_address e = address_plain w bytes is_address
    go None None is_way is_address e = cc

-- ---- the commands of several words

-- both are there of which something was made
both_there : {A B : Type 0} (make : A → B → Command) (a : Option A) (b : Option B) (c : Command) → with_both make a b ≡ Some c → ((x : A) × (a ≡ Some x)) × ((y : B) × (b ≡ Some y))
both_there make None b c e = cc
both_there make (Some x) None c e = cc
both_there make (Some x) (Some y) c e = ((x, refl), (y, refl))

abbrev ArePlainTwo : List ℕ → List ℕ → Type 0
ArePlainTwo first second = (is_plain first ≡ true) × (is_plain second ≡ true)

numbers_plain : (make : ℕ → ℕ → Command) (first second : List ℕ) (c : Command) → with_both make (seed_in first) (slots_in second) ≡ Some c → ArePlainTwo first second
numbers_plain make first second c e =
    let both = both_there make (seed_in first) (slots_in second) c e in
    (number_plain 10 0 4294967295 both.0.0 first both.0.1, number_plain 3 1 400 both.1.0 second both.1.1)

units_plain : (first second : List ℕ) (c : Command) → with_both Shared (count_in first) (step_in second) ≡ Some c → ArePlainTwo first second
units_plain first second c e =
    let both = both_there Shared (count_in first) (step_in second) c e in
    (number_plain (length first) 2 8 both.0.0 first both.0.1, number_plain (length second) 0 1000000 both.1.0 second both.1.1)

frames_plain : (make : Whose → ℕ → Command) (first second : List ℕ) (c : Command) → with_both make (whose_in first) (start_in second) ≡ Some c → ArePlainTwo first second
frames_plain make first second c e =
    let both = both_there make (whose_in first) (start_in second) c e in
    (wanted_plain first both.0.0 both.0.1, number_plain 13 0 LAST_TIME both.1.0 second both.1.1)

-- where the word is a literal, what that gives is wanted; or else the rest
pub either : {X P : Type 0} (t : Bool) (o rest : Option X) (x : X) → (if t then o else rest) ≡ Some x → (o ≡ Some x → P) → (rest ≡ Some x → P) → P
either true o rest x e f g = f e
either false o rest x e f g = g e

pub two_plain : (w first second : List ℕ) (c : Command) → command_with_two w first second ≡ Some c → (is_plain w ≡ true) × (is_plain first ≡ true) × (is_plain second ≡ true)
two_plain w first second c e =
    let numbers =
    either (bytes_eq w (codes "generate")) _ _ c e (numbers_plain Generate first second c) (λ e.
    either (bytes_eq w (codes "trial")) _ _ c e (numbers_plain Trial first second c) (λ e.
    either (bytes_eq w (codes "shared")) _ _ c e (units_plain first second c) (λ e.
    either (bytes_eq w (codes "pcap")) _ _ c e (frames_plain Pcap first second c) (λ e.
    either (bytes_eq w (codes "pcap-capture")) _ None c e (frames_plain PcapCapture first second c) (λ e. cc)))))
    in
    let word : is_plain w ≡ true =
    literal_or (codes "generate") w _ _ c refl e (λ e.
    literal_or (codes "trial") w _ _ c refl e (λ e.
    literal_or (codes "shared") w _ _ c refl e (λ e.
    literal_or (codes "pcap") w _ _ c refl e (λ e.
    literal_or (codes "pcap-capture") w _ None c refl e (λ e. cc)))))
    in
    (word, numbers.0, numbers.1)

-- all three are there of which something was made
all_there : (a b m : Option ℕ) (c : Command) → with_frames a b m ≡ Some c → ((x : ℕ) × (a ≡ Some x)) × ((y : ℕ) × (b ≡ Some y)) × ((z : ℕ) × (m ≡ Some z))
all_there None b m c e = cc
all_there (Some x) None m c e = cc
all_there (Some x) (Some y) None c e = cc
all_there (Some x) (Some y) (Some z) c e = ((x, refl), (y, refl), (z, refl))

pub three_plain : (w first second third : List ℕ) (c : Command) → command_with_three w first second third ≡ Some c
    → (is_plain w ≡ true) × (is_plain first ≡ true) × (is_plain second ≡ true) × (is_plain third ≡ true)
three_plain w first second third c e =
    let made = either (bytes_eq w (codes "idle")) (with_frames (frame_in first) (frame_in second) (least_in third)) None c e (λ e. e) (λ e. cc) in
    let all = all_there (frame_in first) (frame_in second) (least_in third) c made in
    let word : is_plain w ≡ true = literal_or (codes "idle") w _ _ c refl e (λ e. cc) in
    (word, number_plain (length first) 1 99999 all.0.0 first all.0.1, number_plain (length second) 1 99999 all.1.0 second all.1.1, number_plain (length third) 1 9999 all.2.0 third all.2.1)

-- all three are there of which a picture was made
grid_there : (a b m : Option ℕ) (c : Command) → with_grid a b m ≡ Some c → ((x : ℕ) × (a ≡ Some x)) × ((y : ℕ) × (b ≡ Some y)) × ((z : ℕ) × (m ≡ Some z))
grid_there None b m c e = cc
grid_there (Some x) None m c e = cc
grid_there (Some x) (Some y) None c e = cc
grid_there (Some x) (Some y) (Some z) c e = ((x, refl), (y, refl), (z, refl))

-- where both words are literals, what that gives is wanted; or else the rest
pub both_or : {X P : Type 0} (x y w v : List ℕ) (o rest : Option X) (c : X) → (if bytes_eq w x && bytes_eq v y then o else rest) ≡ Some c
    → (w ≡ x → v ≡ y → o ≡ Some c → P) → (rest ≡ Some c → P) → P
both_or {P = P} x y w v o rest c e f g = go (bytes_eq w x) (bytes_eq v y) refl refl e
  where
    go : (s t : Bool) → bytes_eq w x ≡ s → bytes_eq v y ≡ t → (if s && t then o else rest) ≡ Some c → P
    go true true first second e = f (same_text w x first) (same_text v y second) e
    go true false first second e = g e
    go false t first second e = g e

pub four_plain : (w first second third fourth : List ℕ) (c : Command) → command_with_four w first second third fourth ≡ Some c
    → (is_plain w ≡ true) × (is_plain first ≡ true) × (is_plain second ≡ true) × (is_plain third ≡ true) × (is_plain fourth ≡ true)
four_plain w first second third fourth c e =
    both_or (codes "draw") (codes "grid") w first (with_grid (plain_in 0 99999 second) (subframe_in third) (subframes_in fourth)) None c e
    (λ is_draw is_grid e.
    let all = grid_there (plain_in 0 99999 second) (subframe_in third) (subframes_in fourth) c e in
    let word : is_plain w ≡ true = subst (λ (v : List ℕ). is_plain v ≡ true) (sym is_draw) refl in
    let one : is_plain first ≡ true = subst (λ (v : List ℕ). is_plain v ≡ true) (sym is_grid) refl in
    (word, one, number_plain (length second) 0 99999 all.0.0 second all.0.1, number_plain (length third) 0 9 all.1.0 third all.1.1, number_plain (length fourth) 1 10 all.2.0 fourth all.2.1))
    (λ e. cc)

-- the two words of a command: one with its flag, or two
pub two_words : {P : Type 0} (w second : List ℕ) (c : Command) → command_with_one w second ≡ Some c
    → (w ≡ codes "show" → second ≡ codes "--json" → P) → (w ≡ codes "explain" → second ≡ codes "--faults" → P) → (w ≡ codes "draw" → second ≡ codes "windows" → P) → P
two_words w second c e json faults windows =
    both_or (codes "show") (codes "--json") w second _ _ c e (λ a b e. json a b) (λ e.
    both_or (codes "explain") (codes "--faults") w second _ _ c e (λ a b e. faults a b) (λ e.
    both_or (codes "draw") (codes "windows") w second _ None c e (λ a b e. windows a b) (λ e. cc)))

abbrev pub is_ascii : List ℕ → Bool
is_ascii w = list_all (λ b. nat_lt b 128) w

pub plain_ascii : (w : List ℕ) → is_plain w ≡ true → is_ascii w ≡ true
plain_ascii w e = (both_true (not (slice_index w 0 == 45)) (is_ascii w) e).1

two_ascii : (a b x y : List ℕ) → a ≡ x → b ≡ y → is_ascii x ≡ true → is_ascii y ≡ true → list_all is_ascii (a ∷ b ∷ []) ≡ true
two_ascii a b x y first second is_x is_y = rw (first, second, is_x, is_y) refl

-- all words of a command are of ASCII
pub ascii_of : (ws : List (List ℕ)) (c : Command) → command_of ws ≡ Some c → list_all is_ascii ws ≡ true
ascii_of [] c e = cc
ascii_of (a ∷ []) c e = rw (plain_ascii a (bare_plain a c e)) refl
ascii_of (a ∷ b ∷ []) c e =
    two_words a b c e (λ first second. two_ascii a b _ _ first second refl refl) (λ first second. two_ascii a b _ _ first second refl refl) (λ first second. two_ascii a b _ _ first second refl refl)
ascii_of (a ∷ b ∷ d ∷ []) c e =
    let p = two_plain a b d c e in
    rw (plain_ascii a p.0, plain_ascii b p.1, plain_ascii d p.2) refl
ascii_of (a ∷ b ∷ d ∷ f ∷ []) c e =
    let p = three_plain a b d f c e in
    rw (plain_ascii a p.0, plain_ascii b p.1, plain_ascii d p.2, plain_ascii f p.3) refl
ascii_of (a ∷ b ∷ d ∷ f ∷ g ∷ []) c e =
    let p = four_plain a b d f g c e in
    rw (plain_ascii a p.0, plain_ascii b p.1, plain_ascii d p.2, plain_ascii f p.3, plain_ascii g p.4) refl
ascii_of (a ∷ b ∷ d ∷ f ∷ g ∷ h ∷ ws) c e = cc

-- ---- what plain words are

pub plain_word : (w : List ℕ) → is_plain w ≡ true → IsPlainWord w
plain_word [] e = record { no_end = refl; no_long = refl; no_short = refl }
plain_word (x ∷ xs) e = plain_word_is x xs (not_true (x == 45) (both_true (not (x == 45)) (list_all (λ b. nat_lt b 128) (x ∷ xs)) e).0)

ascii_from : (w : List ℕ) → list_all (λ b. nat_lt b 128) w ≡ true → IsAscii w
ascii_from [] e = IsAscii-nil
ascii_from (b ∷ bs) e =
    let both = both_true (nat_lt b 128) (list_all (λ b. nat_lt b 128) bs) e in
    let small : nat_lt b 128 ≡ true = both.0 in
    let below : b < 128 = grind (arith, nat_tests) in
    IsAscii-cons b bs below (ascii_from bs both.1)

-- each word of them
pub word_ascii : (ws : List (List ℕ)) (i : ℕ) → i < length ws → list_all is_ascii ws ≡ true → IsAscii (word_at ws i)
word_ascii [] i lt e = absurd (omega arith)
word_ascii (w ∷ ws) zero lt e = ascii_from w (both_true (is_ascii w) (list_all is_ascii ws) e).0
word_ascii (w ∷ ws) (suc i) lt e = word_ascii ws i (omega arith) (both_true (is_ascii w) (list_all is_ascii ws) e).1
