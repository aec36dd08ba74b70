-- The complete messages of a stream's parts are those of the definition, with their numbers, times and frames.
use Rattle.std.proofs.Common.{◌≡◌, ℕ, pos, ◌+◌, ◌*◌, ◌+ℤ◌, Bool, true, false, min, if◌then◌else◌, List, [], ◌∷◌, length, map, refl, ap, ap₂, sym, ◌∙◌, zero-mul, arith}
use Rattle.window_config.specs.declared.config.Config.{Config}
use Rattle.window_config.specs.declared.endpoints.EndpointConfig.{EndpointConfig}
use Rattle.plan_model.specs.declared.departures.Departures.{Departures}
use Rattle.plan_model.specs.declared.lines.PlannedLine.{PlannedLine}
use Rattle.plan_model.specs.declared.sizes.MessageSize.{MessageSize}
use Rattle.plan_model.specs.Departures.{departures_of, start_of_part}
use Rattle.plan_model.specs.Packs.{Message, Numbered, alone as message_alone, parts_of, with_part, size_of, same_symbol, takes, packs_behind, packs, frames_before, numbered_behind, numbered}
use Rattle.plan_model.specs.Sizes.{measured}
use Rattle.plan_model.specs.Streams.{Part, frames_in, most_parts, part_fields, messages_of, parts_in}
use Rattle.plan_model.specs.declared.streams.Stream.{Stream}
use Rattle.plan_model.specs.declared.streams.Stream.TheVariants.{DownCommands, UpCommands, DownData, UpData}
use Rattle.plan_model.proofs.PackLemmas.{before_alike, measured_more, measured_one, symbol_alike, wait_more}
use Rattle.du_scheduler.specs.declared.turns.Run.{Run}
use Rattle.du_scheduler.specs.Runs.{run_of}
use Rattle.du_scheduler.specs.OpenMessages.{grown}
use Rattle.du_scheduler.specs.Parts.{timed}
use Rattle.du_scheduler.specs.PlanRuns.{PartsMakeRuns, limits_of}
use Rattle.schedule_laws.specs.MessageParts.{first_sections, stream_begins}
use Rattle.du_scheduler.specs.Walks.{begins, begins_from, complete, complete_from, frames_needed, run_from, run_next_to, runs_from}
use Rattle.du_scheduler.specs.declared.limits.Limits.{Limits}
use Rattle.du_scheduler.specs.declared.open_messages.OpenMessage.{OpenMessage}
use Rattle.du_scheduler.specs.declared.parts.TimedPart.{TimedPart}

abbrev made : TimedPart → MessageSize → ℕ → OpenMessage
made first size wait = record { first = first; size = size; wait = wait }

-- a message of the definition, as it is complete
abbrev pub completed : Config → Stream → Numbered Part → OpenMessage
completed c stream n =
    made (timed stream n.message.first) (measured part_fields n.message) (min (n.before * (departures_of c stream).gap) (departures_of c stream).spread)

module _ (c : Config) (stream : Stream) (ep : ℕ) where
  abbrev l : Limits
  l = limits_of c stream ep

  abbrev d : Departures
  d = departures_of c stream

  abbrev frames : Message Part → ℕ
  frames m = frames_in c stream m

  -- ---- the messages, one after the other

  frames_are : (s : Stream) (m : Message Part) → frames_needed (limits_of c s ep).fragment (size_of part_fields m) ≡ frames_in c s m
  frames_are DownCommands m = refl
  frames_are UpCommands m = refl
  frames_are DownData m = refl
  frames_are UpData m = refl

  -- a message after these, the newest first
  abbrev before : List (Message Part) → Message Part → ℕ
  before earlier m = frames_before part_fields frames m earlier

  abbrev at : List (Message Part) → Message Part → OpenMessage
  at earlier m = completed c stream (record { message = m; number = length earlier; before = before earlier m })

  grown_at : (earlier : List (Message Part)) (m : Message Part) (p : Part) → grown (at earlier m) (timed stream p) ≡ at earlier (with_part m p)
  grown_at earlier m p =
      ap₂ (λ (s : MessageSize) (n : ℕ). made (timed stream m.first) s (min (n * d.gap) d.spread)) (measured_more part_fields m p)
      (before_alike frames m (with_part m p) earlier (λ r. refl))

  next_at : (earlier : List (Message Part)) (m : Message Part) (p : Part) → run_next_to l (at earlier m) (timed stream p) ≡ at (m ∷ earlier) (message_alone p)
  unfolding frames_before
  next_at earlier m p = ap₂ (made (timed stream p)) (measured_one part_fields p) (go (same_symbol part_fields p m.first) refl)
    where
      count : ℕ
      count = frames_needed l.fragment (size_of part_fields m)

      go : (t : Bool) → same_symbol part_fields p m.first ≡ t
          → (let w : ℕ = if same_symbol part_fields p m.first then min (min (before earlier m * d.gap) d.spread + count * d.gap) d.spread else 0 in w)
          ≡ min ((let n : ℕ = if same_symbol part_fields p m.first then frames m + before earlier (message_alone p) else 0 in n) * d.gap) d.spread
      go false e = rw e (omega (arith, zero-mul d.gap))
      go true e = rw e
          (ap (λ (n : ℕ). min (min (before earlier m * d.gap) d.spread + n * d.gap) d.spread) (frames_are stream m)
          ∙ wait_more (before earlier m) (frames m) d.gap d.spread
          ∙ ap (λ (n : ℕ). min ((frames m + n) * d.gap) d.spread) (before_alike frames m (message_alone p) earlier (λ r. sym (symbol_alike p m.first r e))))

  complete_behind : (earlier : List (Message Part)) (m : Message Part) (ps : List Part)
      → complete_from l (at earlier m) (map (timed stream) ps) ≡ map (completed c stream) (numbered_behind part_fields frames earlier (packs_behind part_fields (most_parts c stream) m ps))
  unfolding complete_from numbered_behind packs_behind
  complete_behind earlier m [] = refl
  complete_behind earlier m (p ∷ ps) =
      go (takes part_fields (most_parts c stream) m p) refl
      (ap (λ (o : OpenMessage). complete_from l o (map (timed stream) ps)) (grown_at earlier m p) ∙ complete_behind earlier (with_part m p) ps)
      (ap (λ (o : OpenMessage). complete_from l o (map (timed stream) ps)) (next_at earlier m p) ∙ complete_behind (m ∷ earlier) (message_alone p) ps)
    where
      joined : List OpenMessage
      joined = complete_from l (grown (at earlier m) (timed stream p)) (map (timed stream) ps)

      next : List OpenMessage
      next = complete_from l (run_next_to l (at earlier m) (timed stream p)) (map (timed stream) ps)

      go : (t : Bool) → takes part_fields (most_parts c stream) m p ≡ t
          → joined ≡ map (completed c stream) (numbered_behind part_fields frames earlier (packs_behind part_fields (most_parts c stream) (with_part m p) ps))
          → next ≡ map (completed c stream) (numbered_behind part_fields frames (m ∷ earlier) (packs_behind part_fields (most_parts c stream) (message_alone p) ps))
          → (let os : List OpenMessage = if takes part_fields (most_parts c stream) m p then joined else at earlier m ∷ next in os)
          ≡ map (completed c stream) (numbered_behind part_fields frames earlier (let ms : List (Message Part) = if takes part_fields (most_parts c stream) m p
          then packs_behind part_fields (most_parts c stream) (with_part m p) ps else m ∷ packs_behind part_fields (most_parts c stream) (message_alone p) ps in ms))
      go true e is behind = rw e is
      go false e is behind = rw e (ap (λ (os : List OpenMessage). at earlier m ∷ os) behind)

  pub complete_are : (ps : List Part) → complete l (map (timed stream) ps) ≡ map (completed c stream) (numbered part_fields frames (packs part_fields (most_parts c stream) ps))
  unfolding numbered_behind frames_before
  complete_are [] = refl
  complete_are (p ∷ ps) =
      let none : 0 ≡ min (0 * d.gap) d.spread = omega (arith, zero-mul d.gap) in
      ap (λ (o : OpenMessage). complete_from l o (map (timed stream) ps)) (ap₂ (made (timed stream p)) (measured_one part_fields p) none) ∙ complete_behind [] (message_alone p) ps

  -- ---- what is made of them

  run_is : (n : Numbered Part) → run_from l n.number (completed c stream n) ≡ run_of c stream ep n
  run_is n =
      let none : n.before ≡ n.before + 0 = omega arith in
      ap₂ (λ (before left : ℕ). (let r : Run = record {
        turn = record { at = record { 0 = (start_of_part n.message.first +ℤ d.from.0) +ℤ pos (min (before * d.gap) d.spread) }; endpoint = ep; stream = stream; number = n.number; sub = 0 };
        last = record { 0 = (start_of_part n.message.first +ℤ d.from.0) +ℤ pos d.spread };
        left = left;
      } in r)) none (frames_are stream n.message)

  runs_are : (earlier ms : List (Message Part))
      → runs_from l (length earlier) (map (completed c stream) (numbered_behind part_fields frames earlier ms)) ≡ map (run_of c stream ep) (numbered_behind part_fields frames earlier ms)
  unfolding numbered_behind runs_from
  runs_are earlier [] = refl
  runs_are earlier (m ∷ ms) =
      let one : length earlier + 1 ≡ length (m ∷ earlier) = omega arith in
      ap₂ (λ (r : Run) (rs : List Run). r ∷ rs) (run_is (record { message = m; number = length earlier; before = before earlier m }))
      (ap (λ (n : ℕ). runs_from l n (map (completed c stream) (numbered_behind part_fields frames (m ∷ earlier) ms))) one ∙ runs_are (m ∷ earlier) ms)

  begins_are : (place : ℕ) (earlier ms : List (Message Part)) → begins_from place (map (completed c stream) (numbered_behind part_fields frames earlier ms)) ≡ first_sections place ms
  unfolding numbered_behind begins_from first_sections
  begins_are place earlier [] = refl
  begins_are place earlier (m ∷ ms) = ap (λ (ns : List ℕ). place ∷ ns) (begins_are (place + length (parts_of m)) (m ∷ earlier) ms)

pub parts_make_runs : PartsMakeRuns
unfolding messages_of
parts_make_runs c lines stream ep e =
    let ps = parts_in lines stream ep e in
    ap (runs_from (limits_of c stream ep) 0) (complete_are c stream ep ps) ∙ runs_are c stream ep [] (packs part_fields (most_parts c stream) ps)

pub make_begins : (c : Config) (lines : List PlannedLine) (stream : Stream) (ep : ℕ) (e : EndpointConfig) → begins (limits_of c stream ep) (map (timed stream) (parts_in lines stream ep e)) ≡ stream_begins c lines stream ep e
make_begins c lines stream ep e =
    let ps = parts_in lines stream ep e in
    ap (begins_from 0) (complete_are c stream ep ps) ∙ begins_are c stream ep 0 [] (packs part_fields (most_parts c stream) ps)
