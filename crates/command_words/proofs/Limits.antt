-- The numbers of a command are within their limits.
use Rattle.std.proofs.Common.{◌≡◌, ℕ, ◌+◌, ◌≤◌, ◌<◌, ◌^◌, List, [], ◌∷◌, codes, refl, true, false, ◌&&◌, nat_le, subst, arith}
use Rattle.std.specs.Prelude.{Some, None, Option}
use Rattle.std.specs.Str.{bytes_eq}
use Rattle.command_words.specs.Words.{bare_command, command_of, command_with_four, command_with_one, command_with_three, command_with_two, count_in, frame_in, whose_in, least_in, plain_in, seed_in, slots_in, start_in, step_in, subframe_in, subframes_in, with_both, with_frames, with_grid}
use Rattle.command_words.specs.declared.commands.Command.{Command}
use Rattle.command_words.specs.declared.commands.Command.TheVariants.{Replay, Summary, Capture, Show, Explain, Sent, Windows, Fit, Generate, Trial, Shared, Idle, DrawGrid, DrawWindows, Pcap, PcapCapture}
use Rattle.command_words.proofs.Plain.{either}
use Rattle.fh_base.proofs.CommonLemmas.{number_within}

-- a seed of 32 bits, and from 1 to 400 slots
abbrev pub AreNumbers : ℕ → ℕ → Type 0
AreNumbers seed slots = (seed < 2 ^ 32) × (1 ≤ slots) × (slots ≤ 400)

abbrev pub HasLimits : Command → Type 0
HasLimits (Generate seed slots) = AreNumbers seed slots
HasLimits (Trial seed slots) = AreNumbers seed slots
HasLimits command = Unit {0}

-- ---- a number

numbers_are : (first second : List ℕ) (seed slots : ℕ) → seed_in first ≡ Some seed → slots_in second ≡ Some slots → AreNumbers seed slots
numbers_are first second seed slots a b =
    let s = number_within 10 0 4294967295 seed first a in
    let t = number_within 3 1 400 slots second b in
    let most = s.1 in (omega (arith, most), t.0, t.1)

-- ---- the commands

of_some : (x c : Command) → HasLimits x → Some x ≡ Some c → HasLimits c
of_some x c h e = let same : x ≡ c = cc e in subst HasLimits same h

bare_limits : (w : List ℕ) (c : Command) → bare_command w ≡ Some c → HasLimits c
bare_limits w c e =
    either (bytes_eq w (codes "replay")) _ _ c e (of_some Replay c tt) (λ e.
    either (bytes_eq w (codes "summary")) _ _ c e (of_some Summary c tt) (λ e.
    either (bytes_eq w (codes "capture")) _ _ c e (of_some Capture c tt) (λ e.
    either (bytes_eq w (codes "show")) _ _ c e (of_some (Show false) c tt) (λ e.
    either (bytes_eq w (codes "explain")) _ _ c e (of_some (Explain false) c tt) (λ e.
    either (bytes_eq w (codes "sent")) _ _ c e (of_some Sent c tt) (λ e.
    either (bytes_eq w (codes "windows")) _ _ c e (of_some Windows c tt) (λ e.
    either (bytes_eq w (codes "fit")) _ None c e (of_some Fit c tt) (λ e. cc))))))))

one_limits : (w flag : List ℕ) (c : Command) → command_with_one w flag ≡ Some c → HasLimits c
one_limits w flag c e =
    either (bytes_eq w (codes "show") && bytes_eq flag (codes "--json")) _ _ c e (of_some (Show true) c tt) (λ e.
    either (bytes_eq w (codes "explain") && bytes_eq flag (codes "--faults")) _ _ c e (of_some (Explain true) c tt) (λ e.
    either (bytes_eq w (codes "draw") && bytes_eq flag (codes "windows")) _ None c e (of_some DrawWindows c tt) (λ e. cc)))

both_limits : {A B : Type 0} (make : A → B → Command) (a : Option A) (b : Option B) (c : Command) → ((x : A) (y : B) → a ≡ Some x → b ≡ Some y → HasLimits (make x y))
    → with_both make a b ≡ Some c → HasLimits c
both_limits make None b c h e = cc
both_limits make (Some x) None c h e = cc
both_limits make (Some x) (Some y) c h e = of_some (make x y) c (h x y refl refl) e

two_limits : (w first second : List ℕ) (c : Command) → command_with_two w first second ≡ Some c → HasLimits c
two_limits w first second c e =
    either (bytes_eq w (codes "generate")) _ _ c e (both_limits Generate (seed_in first) (slots_in second) c (numbers_are first second)) (λ e.
    either (bytes_eq w (codes "trial")) _ _ c e (both_limits Trial (seed_in first) (slots_in second) c (numbers_are first second)) (λ e.
    either (bytes_eq w (codes "shared")) _ _ c e (both_limits Shared (count_in first) (step_in second) c (λ count step a b. tt)) (λ e.
    either (bytes_eq w (codes "pcap")) _ _ c e (both_limits Pcap (whose_in first) (start_in second) c (λ whose start a b. tt)) (λ e.
    either (bytes_eq w (codes "pcap-capture")) _ None c e (both_limits PcapCapture (whose_in first) (start_in second) c (λ whose start a b. tt)) (λ e. cc)))))

frames_limits : (a b m : Option ℕ) (c : Command) → with_frames a b m ≡ Some c → HasLimits c
frames_limits None b m c e = cc
frames_limits (Some first) None m c e = cc
frames_limits (Some first) (Some last) None c e = cc
frames_limits (Some first) (Some last) (Some min) c e = either (nat_le first last && nat_le last (first + 9)) _ None c e (of_some (Idle first last min) c tt) (λ e. cc)

three_limits : (w first second third : List ℕ) (c : Command) → command_with_three w first second third ≡ Some c → HasLimits c
three_limits w first second third c e =
    either (bytes_eq w (codes "idle")) _ None c e (frames_limits (frame_in first) (frame_in second) (least_in third) c) (λ e. cc)

grid_limits : (a b m : Option ℕ) (c : Command) → with_grid a b m ≡ Some c → HasLimits c
grid_limits None b m c e = cc
grid_limits (Some x) None m c e = cc
grid_limits (Some x) (Some y) None c e = cc
grid_limits (Some x) (Some y) (Some z) c e = of_some (DrawGrid x y z) c tt e

four_limits : (w first second third fourth : List ℕ) (c : Command) → command_with_four w first second third fourth ≡ Some c → HasLimits c
four_limits w first second third fourth c e =
    either (bytes_eq w (codes "draw") && bytes_eq first (codes "grid")) _ None c e (grid_limits (plain_in 0 99999 second) (subframe_in third) (subframes_in fourth) c) (λ e. cc)

pub limits_are : (ws : List (List ℕ)) (c : Command) → command_of ws ≡ Some c → HasLimits c
limits_are [] c e = cc
limits_are (a ∷ []) c e = bare_limits a c e
limits_are (a ∷ b ∷ []) c e = one_limits a b c e
limits_are (a ∷ b ∷ d ∷ []) c e = two_limits a b d c e
limits_are (a ∷ b ∷ d ∷ f ∷ []) c e = three_limits a b d f c e
limits_are (a ∷ b ∷ d ∷ f ∷ g ∷ []) c e = four_limits a b d f g c e
limits_are (a ∷ b ∷ d ∷ f ∷ g ∷ h ∷ ws) c e = cc
