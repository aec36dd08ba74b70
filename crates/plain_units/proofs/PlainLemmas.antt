-- What a unit stands for, one step further.
use Rattle.std.proofs.Common.{◌≡◌, ℕ, ℤ, ◌+◌, List, [], ◌∷◌, ◌++◌, All, reverse, refl, sym, ap, ◌∙◌, subst, arith}
use Rattle.std.specs.Prelude.{Option, Some, None}
use Rattle.std.specs.Option.{option_map}
use Rattle.std.proofs.lemmas.List.{reverse-append}
use Rattle.std.proofs.lemmas.List.Elements.{All-cons, All-same}
use Rattle.fault_counters.specs.declared.kinds.Counter.{Counter}
use Rattle.fault_counters.specs.declared.kinds.Counter.TheVariants as counter
use Rattle.fault_counters.specs.Counts.{capped, once, times}
use Rattle.unit_model.specs.Terms.{Side, Config, Delays, EndpointConfig, Class}
use Rattle.window_config.specs.declared.verdicts.Class.TheVariants as class
use Rattle.ecpri_fragments.specs.Generations.{Fragment}
use Rattle.ecpri_fragments.specs.declared.assembly.Assembly.{Assembly}
use Rattle.ecpri_fragments.specs.declared.verdict.Verdict.{Verdict}
use Rattle.ecpri_fragments.specs.Assemblies.{Took}
use Rattle.ecpri_fragments.specs.Verdicts.{Message, verdict_on, whole_now}
use Rattle.ecpri_frames.specs.Messages.{Message as WholeMessage, pdu}
use Rattle.unit_model.specs.Blocks.{timely, data_class, data_verdict, data_verdicts, with_timely}
use Rattle.unit_model.specs.Commands.{accepted, command_verdict, command_verdicts, with_accepted}
use Rattle.unit_model.specs.Counts.{data_counter, refusal_counted, decoded_counted, fragment_counter, piece_counted, messages_counted, frames_counted, commands_counted, data_counted, counted_of}
use Rattle.fh_base.specs.Lists.{onto}
use Rattle.unit_model.specs.Decoding.{Decoded, decode, sections_of, data_told, decoded_now, data_now, data_sections}
use Rattle.unit_model.specs.Meetings.{Arrival, Meeting, met_in, Ignored, Commands, Piece, commands, fragments}
use Rattle.plain_units.specs.Owned.{owned, IsTaken}
use Rattle.plain_units.specs.Plain.{PlainHolds, PlainStands}
use Rattle.unit_model.specs.Reports.{hold_of}
use Rattle.plain_units.specs.declared.taking.OwnedMessage.{OwnedMessage}
use Rattle.unit_model.specs.Proper.{IsProperAllocation, IsProperData, IsTime}
use Rattle.unit_model.specs.declared.allocations.Allocation.{Allocation}
use Rattle.unit_model.specs.declared.decoded.ControlSection.{ControlSection}
use Rattle.unit_model.specs.declared.decoded.UserSection.{UserSection}
use Rattle.plain_units.specs.declared.plain.Plain.{Plain}
use Rattle.unit_model.specs.declared.verdicts.CommandVerdict.{CommandVerdict}
use Rattle.unit_model.specs.declared.verdicts.DataVerdict.{DataVerdict}
use Rattle.unit_model.proofs.VerdictLemmas.{kept_proper}
use Rattle.unit_model.proofs.CountLemmas.{capped_data, times-append, one_time}

-- ---- counters

-- the same numbers in another form
pub counted_as : (u : Plain) (side : Side) (c : Config) (n m : Counter → ℕ) (fs : List Fragment) (cs : List ControlSection) (ds : List UserSection)
    → ((k : Counter) → n k ≡ m k) → PlainHolds u side c n fs cs ds → PlainHolds u side c m fs cs ds
counted_as u side c n m fs cs ds same h = record {
  fragments = h.fragments;
  came = h.came;
  endpoints = h.endpoints;
  hold = h.hold;
  accepted = h.accepted;
  commands = h.commands;
  timely = h.timely;
  user = h.user;
  counts = λ k. h.counts k ∙ ap (λ x. capped (x + (times (commands_counted (command_verdicts c.delays cs)) k + times (data_counted (data_verdicts side c.delays ds)) k))) (same k);
  allocations = h.allocations;
  sections = h.sections;
}

-- ---- fragments

-- what an assembly that took a fragment stands for
pub taken_holds : (u : Plain) (a : Assembly) (side : Side) (c : Config) (n : Counter → ℕ) (fs : List Fragment) (cs : List ControlSection) (ds : List UserSection) (f : Fragment)
    → Took u.assembly a f → IsTime f.at → PlainHolds u side c n fs cs ds → PlainHolds (record u { assembly = a }) side c n (f ∷ fs) cs ds
taken_holds u a side c n fs cs ds f took time h = record {
  fragments = took.stands fs h.fragments;
  came = All-cons (λ (g : Fragment). IsTime g.at) f fs time h.came;
  endpoints = took.endpoints ∙ h.endpoints;
  hold = took.hold ∙ h.hold;
  accepted = h.accepted;
  commands = h.commands;
  timely = h.timely;
  user = h.user;
  counts = h.counts;
  allocations = h.allocations;
  sections = h.sections;
}

none_whole : (side : Side) (e : EndpointConfig) (f : Fragment) (m : Option Message) → None ≡ option_map owned m → decoded_now side e f m ≡ None
none_whole side e f None h = refl
none_whole side e f (Some m) h = absurd cc

some_whole : (side : Side) (e : EndpointConfig) (f : Fragment) (m : Option Message) (o : OwnedMessage) → Some o ≡ option_map owned m
    → decoded_now side e f m ≡ Some (decode side f.ep e o.first.0 o.last.0 o.bytes)
some_whole side e f None o h = absurd cc
some_whole side e f (Some m) o h =
    let same : owned m ≡ o = cc in
    ap (λ (x : OwnedMessage). Some (decode side f.ep e x.first.0 x.last.0 x.bytes)) same

piece_number : (n o d : ℕ) (told : List Counter) (x k : Counter) → times told k ≡ d → once x k ≡ o → (n + o) + d ≡ n + times (told ++ x ∷ []) k
piece_number n o d told x k h g = omega (arith, times-append told (x ∷ []) k)

module _ (u : Plain) (side : Side) (c : Config) (n : Counter → ℕ) (fs : List Fragment) (cs : List ControlSection) (ds : List UserSection) (e : EndpointConfig) (f : Fragment) where
  abbrev hold : ℤ
  hold = hold_of side c.delays

  -- it stands for these and a fragment, of which was said so much
  abbrev After : Verdict → Option Decoded → Type 0
  After v told = PlainHolds u side c (λ k. n k + times (decoded_counted told ++ fragment_counter v ∷ []) k) (f ∷ fs) cs (data_told told ++ ds)

  abbrev pub AfterPiece : Type 0
  AfterPiece = After (verdict_on hold f fs) (data_now side hold e f fs)

  -- a fragment that makes no message whole
  pub piece_none : (v : Verdict) → IsTaken hold f fs v None → PlainHolds u side c (λ k. n k + once (fragment_counter v) k) (f ∷ fs) cs ds → AfterPiece
  piece_none v taken h =
      let base : After v None = counted_as u side c _ _ (f ∷ fs) cs ds (λ k. one_time (n k) (once (fragment_counter v) k)) h in
      let told : data_now side hold e f fs ≡ None = none_whole side e f (whole_now hold f fs) taken.message_is in
      let P : Option Decoded → Type 0 = λ (x : Option Decoded). After (verdict_on hold f fs) x in
      let Q : Verdict → Type 0 = λ (w : Verdict). After w None in
      subst P (sym told) (subst Q taken.verdict_is base)

  -- one that does
  pub piece_some : (v : Verdict) (o : OwnedMessage) → IsTaken hold f fs v (Some o)
      → PlainHolds u side c (λ k. (n k + once (fragment_counter v) k) + times (decoded_counted (Some (decode side f.ep e o.first.0 o.last.0 o.bytes))) k) (f ∷ fs) cs
      (sections_of (decode side f.ep e o.first.0 o.last.0 o.bytes) ++ ds)
      → AfterPiece
  piece_some v o taken h =
      let d = decode side f.ep e o.first.0 o.last.0 o.bytes in
      let base : After v (Some d) =
      counted_as u side c _ _ (f ∷ fs) cs (sections_of d ++ ds) (λ k. piece_number (n k) _ _ (decoded_counted (Some d)) (fragment_counter v) k refl refl) h in
      let told : data_now side hold e f fs ≡ Some d = some_whole side e f (whole_now hold f fs) o taken.message_is in
      let P : Option Decoded → Type 0 = λ (x : Option Decoded). After (verdict_on hold f fs) x in
      let Q : Verdict → Type 0 = λ (w : Verdict). After w (Some d) in
      subst P (sym told) (subst Q taken.verdict_is base)

-- ---- messages

message_number : (a m o x : ℕ) → ((a + m) + o) + x ≡ a + ((m + o) + x)
message_number a m o x = omega arith

command_number : (a m o : ℕ) → (a + m) + o ≡ a + (m + o)
command_number a m o = omega arith

piece_message : (a m o : ℕ) (p : List Counter) (ms : List Counter) (k : Counter) → times ms k ≡ m → once counter.Messages k ≡ o
    → ((a + m) + o) + times p k ≡ a + times (p ++ counter.Messages ∷ [] ++ ms) k
piece_message a m o p ms k h g =
    omega (arith, times-append (p ++ counter.Messages ∷ []) ms k, times-append p (counter.Messages ∷ []) k)

module _ (u : Plain) (side : Side) (c : Config) (arrivals : List Arrival) (ms : List Meeting) where
  abbrev held : ℤ
  held = hold_of side c.delays

  -- so many were counted before a message, and the message itself
  abbrev pub met_so_far : Counter → ℕ
  met_so_far k = counted_of side held arrivals ms k + once counter.Messages k

  pub stands_ignored : (x : Counter) → PlainHolds u side c (λ k. met_so_far k + once x k) (fragments ms) (commands ms) (data_sections side held ms) → PlainStands u side c arrivals (Ignored x ∷ ms)
  unfolding fragments commands data_sections messages_counted
  stands_ignored x h =
      counted_as u side c _ _ (fragments ms) (commands ms) (data_sections side held ms)
      (λ k. message_number (times (frames_counted arrivals) k) (times (messages_counted side held ms) k) (once counter.Messages k) (once x k)) h

  pub stands_commands : (cs : List ControlSection) → PlainHolds u side c met_so_far (fragments ms) (onto (commands ms) cs) (data_sections side held ms) → PlainStands u side c arrivals (Commands cs ∷ ms)
  unfolding fragments commands data_sections messages_counted
  stands_commands cs h =
      counted_as u side c _ _ (fragments ms) (onto (commands ms) cs) (data_sections side held ms)
      (λ k. command_number (times (frames_counted arrivals) k) (times (messages_counted side held ms) k) (once counter.Messages k)) h

  pub stands_piece : (e : EndpointConfig) (f : Fragment) → AfterPiece u side c met_so_far (fragments ms) (commands ms) (data_sections side held ms) e f
      → PlainStands u side c arrivals (Piece e f ∷ ms)
  unfolding fragments commands data_sections messages_counted
  stands_piece e f h =
      let told = data_now side held e f (fragments ms) in
      counted_as u side c _ _ (f ∷ fragments ms) (commands ms) (data_told told ++ data_sections side held ms)
      (λ k. piece_message (times (frames_counted arrivals) k) _ _ (piece_counted held f (fragments ms) told) (messages_counted side held ms) k refl refl) h

frame_number : (f m o r : ℕ) (rs rest : List Counter) (k : Counter) → times rest k ≡ f → times rs k ≡ r → once counter.Frames k ≡ o
    → (f + m) + times (rs ++ counter.Frames ∷ []) k ≡ times (rs ++ counter.Frames ∷ rest) k + m
frame_number f m o r rs rest k a b h = omega (arith, times-append rs (counter.Frames ∷ []) k, times-append rs (counter.Frames ∷ rest) k)

-- a frame of which no message was treated
pub stands_frame : (u : Plain) (side : Side) (c : Config) (arrivals : List Arrival) (ms : List Meeting) (a : Arrival)
    → PlainHolds u side c (λ k. counted_of side (hold_of side c.delays) arrivals ms k + times (refusal_counted (pdu a.frame).refusal ++ counter.Frames ∷ []) k) (fragments ms) (commands ms)
    (data_sections side (hold_of side c.delays) ms)
    → PlainStands u side c (a ∷ arrivals) ms
unfolding frames_counted
stands_frame u side c arrivals ms a h =
    counted_as u side c _ _ (fragments ms) (commands ms) (data_sections side (hold_of side c.delays) ms)
    (λ k. frame_number (times (frames_counted arrivals) k) (times (messages_counted side (hold_of side c.delays) ms) k) _ _ (refusal_counted (pdu a.frame).refusal)
    (frames_counted arrivals) k refl refl refl) h

-- the messages of a frame are treated but for these
pub record MetSoFar (u : Plain) (side : Side) (c : Config) (at : ℤ) (arrivals : List Arrival) (all : List Meeting) (left : List WholeMessage) : Type 0 where
  pub so_far : List Meeting
  pub stands : PlainStands u side c arrivals so_far
  pub are : onto so_far (met_in side c.endpoints at left) ≡ all

-- ---- sections of commands

pub commands_on : (d : Delays) (c : ControlSection) (cs : List ControlSection) (old : List Allocation) (vs ws : List CommandVerdict) (v : CommandVerdict) → old ≡ accepted d cs
    → v ≡ command_verdict d old c → vs ≡ reverse (command_verdicts d cs) → ws ≡ vs ++ v ∷ [] → ws ≡ reverse (command_verdicts d (c ∷ cs))
unfolding command_verdicts
commands_on d c cs old vs ws v o e before n =
    n ∙ ap (λ xs. xs ++ v ∷ []) before ∙ ap (λ w. reverse (command_verdicts d cs) ++ w ∷ []) (e ∙ ap (λ xs. command_verdict d xs c) o)
    ∙ sym (reverse-append (command_verdict d (accepted d cs) c ∷ []) (command_verdicts d cs))

pub allocations_on : (es : List EndpointConfig) (v : CommandVerdict) (a : Allocation) (old new : List Allocation) → (v ≡ CommandVerdict.Accepted → IsProperAllocation es a)
    → All (IsProperAllocation es) old → new ≡ with_accepted v a old → All (IsProperAllocation es) new
allocations_on es v a old new here all n = All-same (IsProperAllocation es) new (with_accepted v a old) n (kept_proper es v a old here all)

-- ---- sections of data

pub timely_on : (side : Side) (d : Delays) (x : UserSection) (ds : List UserSection) (old new : List UserSection) (k : Class) → old ≡ timely side d ds → k ≡ data_class side d x
    → new ≡ with_timely k x old → new ≡ timely side d (x ∷ ds)
unfolding timely
timely_on side d x ds old new k o e n = n ∙ ap (λ w. with_timely w x old) e ∙ ap (with_timely (data_class side d x) x) o

pub user_on : (side : Side) (d : Delays) (x : UserSection) (ds : List UserSection) (old : List UserSection) (vs ws : List DataVerdict) (v : DataVerdict) → old ≡ timely side d ds
    → v ≡ data_verdict side d old x → vs ≡ reverse (data_verdicts side d ds) → ws ≡ vs ++ v ∷ [] → ws ≡ reverse (data_verdicts side d (x ∷ ds))
unfolding data_verdicts
user_on side d x ds old vs ws v o e before n =
    n ∙ ap (λ xs. xs ++ v ∷ []) before ∙ ap (λ w. reverse (data_verdicts side d ds) ++ w ∷ []) (e ∙ ap (λ xs. data_verdict side d xs x) o)
    ∙ sym (reverse-append (data_verdict side d (timely side d ds) x ∷ []) (data_verdicts side d ds))

pub data_count : (side : Side) (d : Delays) (x : UserSection) (ds : List UserSection) (old : List UserSection) (v : DataVerdict) (p q n a : ℕ) (k : Counter) → old ≡ timely side d ds
    → v ≡ data_verdict side d old x → p ≡ capped (n + (a + times (data_counted (data_verdicts side d ds)) k)) → q ≡ capped (p + once (data_counter v) k)
    → q ≡ capped (n + (a + times (data_counted (data_verdicts side d (x ∷ ds))) k))
unfolding data_verdicts
data_count side d x ds old v p q n a k o e before now =
    capped_data p q n (once (data_counter v) k) a (times (data_counted (data_verdicts side d ds)) k) before now
    ∙ ap (λ w. capped (n + (a + (times (data_counted (data_verdicts side d ds)) k + once (data_counter w) k)))) (e ∙ ap (λ xs. data_verdict side d xs x) o)

kept_sections : (es : List EndpointConfig) (k : Class) (x : UserSection) (old : List UserSection) → IsProperData es x → All (IsProperData es) old → All (IsProperData es) (with_timely k x old)
kept_sections es class.Late x old here all = all
kept_sections es class.Early x old here all = all
kept_sections es class.OnTime x old here all = All-cons (IsProperData es) x old here all

pub sections_on : (es : List EndpointConfig) (k : Class) (x : UserSection) (old new : List UserSection) → IsProperData es x → All (IsProperData es) old → new ≡ with_timely k x old
    → All (IsProperData es) new
sections_on es k x old new here all n = All-same (IsProperData es) new (with_timely k x old) n (kept_sections es k x old here all)
