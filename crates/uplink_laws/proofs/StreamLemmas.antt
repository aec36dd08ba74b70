-- The messages and frames of the uplink lines of a plan are those of its uplink stream.
use Rattle.std.proofs.Common.{◌≡◌, ℕ, suc, ◌+◌, inl, inr, Bool, true, false, ◌&&◌, ◌==◌, nat_le, nat_lt, if◌then◌else◌, List, [], ◌∷◌, ◌++◌, map, sum, Option, Some, None, refl, ap, ap₂, sym, ◌∙◌, subst}
use Rattle.std.specs.Prelude.{filter}
use Rattle.std.specs.List.{slice_get}
use Rattle.std.specs.Option.{option_map_or}
use Rattle.std.proofs.lemmas.List.{length-map, map-append}
use Rattle.window_config.specs.declared.config.Config.{Config}
use Rattle.window_config.specs.declared.endpoints.EndpointConfig.{EndpointConfig}
use Rattle.window_config.specs.declared.plan.PlanLine.{PlanLine}
use Rattle.air_source.specs.declared.links.LinkFrame.{LinkFrame}
use Rattle.fh_base.specs.Lists.{each}
use Rattle.unit_model.specs.Proper.{IsAt}
use Rattle.unit_model.specs.Times.{end_of_time}
use Rattle.unit_model.specs.declared.jobs.UplinkJob.{UplinkJob}
use Rattle.plan_model.specs.Lines.{planned}
use Rattle.plan_model.specs.Packs.{Message, Numbered, PartFields, alone, numbered_behind as packs_numbered, frames_before as packs_before, packs, packs_behind, parts_of, same_symbol, size_of, takes, with_part}
use Rattle.plan_model.specs.Streams.{Part, frames_in, messages_of as stream_messages, part_fields, parts_in, section_size}
use Rattle.plan_model.specs.declared.lines.PlannedLine.{PlannedLine}
use Rattle.plan_model.specs.declared.streams.Stream.TheVariants.{UpData}
use Rattle.plan_model.proofs.SchedulePackLemmas.{message_from, part_from}
use Rattle.plan_model.proofs.PlanLemmas.{line_of}
use Rattle.uplink_model.specs.Frames.{Antenna, uplink_frame_of, frames_behind, uplink_frames_from, uplink_message_frames}
use Rattle.uplink_model.specs.Messages.{frame_count, job_fields, uplink_messages_of}
use Rattle.uplink_laws.specs.Laws.{FramesAreTheStream, JobsAreParts, MessagesAreTheStream, TestReadsFirstFrames, first_leaves}
use Rattle.uplink_laws.specs.Streams.{is_message_of, job_for, message_for, message_frames_for, jobs_numbered_behind, numbered_for, planned_allocations, planned_frames, planned_jobs, planned_messages, stream_frames_for}
use Rattle.uplink_laws.proofs.StreamJobs.{jobs_in_order, jobs_of_parts, jobs_timed, up_part}
use Rattle.uplink_laws.proofs.ListLemmas.{filter_joined, map_map, map_same}
use Rattle.uplink_laws.proofs.StreamMessages.{message_first, messages_found, messages_order}
use Rattle.uplink_laws.proofs.NumberLemmas.{numbered_own}
use Rattle.unit_model.specs.Terms.{joined, piece_count, MESSAGE_BYTES}
use Rattle.fh_base.specs.Members.{IsIn}
use Rattle.fh_base.proofs.MemberLemmas.{in_either}
use Rattle.fh_base.proofs.MadeLists.{of_each}
use Rattle.fh_base.proofs.EachLemmas.{each_same}

pub jobs_are_parts : JobsAreParts
jobs_are_parts c lines ep e at =
    jobs_of_parts c.endpoints (planned c.endpoints lines) (λ p m. (line_of c.endpoints 0 lines p m).at) ep e at

-- ---- parts as jobs

module _ (c : Config) where
  abbrev f : PartFields UplinkJob
  f = job_fields c.endpoints

  -- its line is at an endpoint of the configuration
  abbrev Stands : Part → Type 0
  Stands x = IsAt c.endpoints x.planned.ep x.planned.endpoint

  abbrev AllStand : List Part → Type 0
  AllStand xs = (x : Part) → IsIn x xs → Stands x

  size_is : (x : Part) → Stands x → f.size (job_for x) ≡ part_fields.size x
  size_is x h = ap (λ (o : Option EndpointConfig). option_map_or (λ e. section_size e x.planned.line.num_prb) o 0) h

  sizes_are : (xs : List Part) → AllStand xs → map f.size (map job_for xs) ≡ map part_fields.size xs
  sizes_are xs h = map_map job_for f.size xs ∙ map_same (λ (x : Part). f.size (job_for x)) part_fields.size xs (λ x m. size_is x (h x m))

  message_size : (m : Message Part) → AllStand (parts_of m) → size_of f (message_for m) ≡ size_of part_fields m
  message_size m h = ap (λ (ns : List ℕ). 4 + sum ns) (sizes_are (parts_of m) h)

  pub frames_are : (m : Message Part) → AllStand (parts_of m) → frame_count c (message_for m) ≡ frames_in c UpData m
  frames_are m h = ap (piece_count c.fragment) (message_size m h)

  takes_is : (m : Message Part) (x : Part) → AllStand (parts_of m) → Stands x → takes f c.pack (message_for m) (job_for x) ≡ takes part_fields c.pack m x
  takes_is m x h k =
      let same = same_symbol part_fields m.first x in
      ap₂ (λ (n size : ℕ). same && ((part_fields.filter m.first == part_fields.filter x) && (nat_lt (suc n) c.pack && nat_le size MESSAGE_BYTES)))
      (length-map m.more job_for) (ap₂ (λ (a b : ℕ). a + b) (message_size m h) (size_is x k))

  with_is : (m : Message Part) (x : Part) → message_for (with_part m x) ≡ with_part (message_for m) (job_for x)
  with_is m x = ap (λ (js : List UplinkJob). let n : Message UplinkJob = record { first = job_for m.first; more = js } in n) (map-append job_for m.more (x ∷ []))

  with_stands : (m : Message Part) (x : Part) → AllStand (parts_of m) → Stands x → AllStand (parts_of (with_part m x))
  with_stands m x h k y i = elim (in_either y (parts_of m) (x ∷ []) i) [
    | inl l ↦ h y l
    | inr r ↦ elim r [ inl e ↦ subst Stands (sym e) k | inr t ↦ absurd t ]
  ]

  alone_stands : (x : Part) → Stands x → AllStand (parts_of (alone x))
  alone_stands x k y i = elim i [ inl e ↦ subst Stands (sym e) k | inr t ↦ absurd t ]

  behind_is : (m : Message Part) (xs : List Part) → AllStand (parts_of m) → AllStand xs
      → packs_behind f c.pack (message_for m) (map job_for xs) ≡ map message_for (packs_behind part_fields c.pack m xs)
  unfolding packs_behind
  behind_is m [] h k = refl
  behind_is m (x ∷ xs) h k =
      ap (λ (b : Bool). let ms : List (Message UplinkJob) =
      if b then packs_behind f c.pack (with_part (message_for m) (job_for x)) (map job_for xs) else message_for m ∷ packs_behind f c.pack (alone (job_for x)) (map job_for xs) in ms)
      (takes_is m x h (k x (inl refl)))
      ∙ go (takes part_fields c.pack m x)
      (ap (λ (n : Message UplinkJob). packs_behind f c.pack n (map job_for xs)) (sym (with_is m x))
      ∙ behind_is (with_part m x) xs (with_stands m x h (k x (inl refl))) (λ y i. k y (inr i)))
      (behind_is (alone x) xs (alone_stands x (k x (inl refl))) (λ y i. k y (inr i)))
    where
      go : (b : Bool)
          → packs_behind f c.pack (with_part (message_for m) (job_for x)) (map job_for xs) ≡ map message_for (packs_behind part_fields c.pack (with_part m x) xs)
          → packs_behind f c.pack (alone (job_for x)) (map job_for xs) ≡ map message_for (packs_behind part_fields c.pack (alone x) xs)
          → (let ms : List (Message UplinkJob) =
          if b then packs_behind f c.pack (with_part (message_for m) (job_for x)) (map job_for xs) else message_for m ∷ packs_behind f c.pack (alone (job_for x)) (map job_for xs) in ms)
          ≡ map message_for (let ms : List (Message Part) = if b then packs_behind part_fields c.pack (with_part m x) xs else m ∷ packs_behind part_fields c.pack (alone x) xs in ms)
      go true joined next = joined
      go false joined next = ap (λ (ms : List (Message UplinkJob)). message_for m ∷ ms) next

  packs_are : (xs : List Part) → AllStand xs → packs f c.pack (map job_for xs) ≡ map message_for (packs part_fields c.pack xs)
  packs_are [] h = refl
  packs_are (x ∷ xs) h = behind_is (alone x) xs (alone_stands x (h x (inl refl))) (λ y i. h y (inr i))

  -- ---- numbers

  abbrev MessagesStand : List (Message Part) → Type 0
  MessagesStand ms = (m : Message Part) → IsIn m ms → AllStand (parts_of m)

  before_is : (m : Message Part) (earlier : List (Message Part)) → MessagesStand earlier
      → packs_before f (frame_count c) (message_for m) (map message_for earlier) ≡ packs_before part_fields (frames_in c UpData) m earlier
  unfolding packs_before
  before_is m [] h = refl
  before_is m (n ∷ earlier) h =
      ap₂ (λ (a b : ℕ). let k : ℕ = if same_symbol part_fields m.first n.first then a + b else 0 in k)
      (frames_are n (h n (inl refl))) (before_is m earlier (λ x i. h x (inr i)))

  numbered_is : (earlier ms : List (Message Part)) → MessagesStand earlier → MessagesStand ms
      → packs_numbered f (frame_count c) (map message_for earlier) (map message_for ms) ≡ map numbered_for (packs_numbered part_fields (frames_in c UpData) earlier ms)
  unfolding packs_numbered
  numbered_is earlier [] h k = refl
  numbered_is earlier (m ∷ ms) h k =
      ap₂ (λ (n : Numbered UplinkJob) (ns : List (Numbered UplinkJob)). n ∷ ns)
      (ap₂ (λ (a b : ℕ). let n : Numbered UplinkJob = record { message = message_for m; number = a; before = b } in n) (length-map earlier message_for) (before_is m earlier h))
      (numbered_is (m ∷ earlier) ms (λ x i. elim i [ inl e ↦ k x (inl e) | inr t ↦ h x t ]) (λ x i. k x (inr i)))

-- ---- the stream

module _ (c : Config) (lines : List PlanLine) (ep : ℕ) (e : EndpointConfig) (at : IsAt c.endpoints ep e) where
  abbrev ps : List PlannedLine
  ps = planned c.endpoints lines

  abbrev js : List UplinkJob
  js = planned_jobs c ps

  parts_stand : (x : Part) → IsIn x (parts_in ps UpData ep e) → IsAt c.endpoints x.planned.ep x.planned.endpoint
  parts_stand x m = (line_of c.endpoints 0 lines x.planned (up_part ps ep e x m).0).at

  messages_stand : (m : Message Part) → IsIn m (packs part_fields c.pack (parts_in ps UpData ep e)) → (x : Part) → IsIn x (parts_of m) → IsAt c.endpoints x.planned.ep x.planned.endpoint
  messages_stand m i x k = parts_stand x (part_from part_fields c.pack (parts_in ps UpData ep e) m x i k)

  pub messages_are : filter (is_message_of ep) (planned_messages c ps) ≡ map numbered_for (stream_messages c ps UpData ep e)
  unfolding stream_messages
  messages_are =
      let order = jobs_in_order (planned_allocations ps) c.endpoints end_of_time in
      let timed = jobs_timed (planned_allocations ps) c.endpoints end_of_time in
      let parts = parts_in ps UpData ep e in
      numbered_own c ep (uplink_messages_of c js) (λ n i. timed n.first (message_first c js n i)) (messages_order c js order)
      ∙ ap (packs_numbered (job_fields c.endpoints) (frame_count c) [])
      (messages_found c ep js timed order
      ∙ ap (packs (job_fields c.endpoints) c.pack) (jobs_are_parts c lines ep e at)
      ∙ packs_are c parts parts_stand)
      ∙ numbered_is c [] (packs part_fields c.pack parts) (λ m i. absurd i) messages_stand

pub messages_are_the_stream : MessagesAreTheStream
messages_are_the_stream c lines ep e at = messages_are c lines ep e at

-- ---- frames

-- the frames of a numbered message
abbrev numbered_frames : Config → Antenna → Numbered UplinkJob → List LinkFrame
numbered_frames c antenna n =
    option_map_or (λ e. uplink_frames_from c antenna e n.message n.number n.before 0 (frame_count c n.message)) (slice_get c.endpoints n.message.first.ep) []

frames_numbered : (c : Config) (antenna : Antenna) (earlier ms : List (Message UplinkJob))
    → frames_behind c antenna earlier ms ≡ joined (map (numbered_frames c antenna) (jobs_numbered_behind c earlier ms))
unfolding frames_behind uplink_message_frames jobs_numbered_behind
frames_numbered c antenna earlier [] = refl
frames_numbered c antenna earlier (m ∷ ms) = ap (λ (fs : List LinkFrame). uplink_message_frames c antenna earlier m ++ fs) (frames_numbered c antenna (m ∷ earlier) ms)

frame_ep : (c : Config) (antenna : Antenna) (n : Numbered UplinkJob) (x : LinkFrame) → IsIn x (numbered_frames c antenna n) → x.ep ≡ n.message.first.ep
frame_ep c antenna n x m = go (slice_get c.endpoints n.message.first.ep) m
  where
    go : (o : Option EndpointConfig) → IsIn x (option_map_or (λ e. uplink_frames_from c antenna e n.message n.number n.before 0 (frame_count c n.message)) o []) → x.ep ≡ n.message.first.ep
    go None i = absurd i
    go (Some e) i =
        let w = of_each x 0 (frame_count c n.message) (λ k. uplink_frame_of c antenna e n.message n.number n.before k ∷ []) i in
        elim w.3 [ inl e ↦ ap (λ (y : LinkFrame). y.ep) e | inr t ↦ absurd t ]

module _ (c : Config) (antenna : Antenna) (lines : List PlanLine) (ep : ℕ) (e : EndpointConfig) (at : IsAt c.endpoints ep e) where
  abbrev lines_at : List PlannedLine
  lines_at = planned c.endpoints lines

  -- what is known of a message of the stream
  own_ep : (n : Numbered Part) → IsIn n (stream_messages c lines_at UpData ep e) → n.message.first.planned.ep ≡ ep
  unfolding stream_messages
  own_ep n m =
      let parts = parts_in lines_at UpData ep e in
      let i = message_from part_fields (frames_in c UpData) (packs part_fields c.pack parts) n m in
      (up_part lines_at ep e n.message.first (part_from part_fields c.pack parts n.message n.message.first i (inl refl))).1

  own_count : (n : Numbered Part) → IsIn n (stream_messages c lines_at UpData ep e) → frame_count c (message_for n.message) ≡ frames_in c UpData n.message
  unfolding stream_messages
  own_count n m =
      let parts = parts_in lines_at UpData ep e in
      let i = message_from part_fields (frames_in c UpData) (packs part_fields c.pack parts) n m in
      frames_are c n.message (messages_stand c lines ep e at n.message i)

  one_message : (n : Numbered Part) → IsIn n (stream_messages c lines_at UpData ep e) → numbered_frames c antenna (numbered_for n) ≡ message_frames_for c antenna ep e n
  one_message n m =
      let same = own_ep n m in
      let make = λ (k : ℕ). uplink_frame_of c antenna e (message_for n.message) n.number n.before k in
      ap (λ (o : Option EndpointConfig). option_map_or (λ d. uplink_frames_from c antenna d (message_for n.message) n.number n.before 0 (frame_count c (message_for n.message))) o [])
      (ap (slice_get c.endpoints) same ∙ at)
      ∙ ap (λ (k : ℕ). each 0 k (λ sub. make sub ∷ [])) (own_count n m)
      ∙ each_same 0 (frames_in c UpData n.message) (λ sub. make sub ∷ []) _ (λ sub.
      ap (λ (k : ℕ). let x : List LinkFrame = record (make sub) { ep = k } ∷ [] in x) same)

  pub frames_are_stream : filter (λ x. x.ep == ep) (planned_frames c antenna lines_at) ≡ stream_frames_for c antenna lines_at ep e
  frames_are_stream =
      let numbered = planned_messages c lines_at in
      let stream = stream_messages c lines_at UpData ep e in
      ap (filter (λ (x : LinkFrame). x.ep == ep)) (frames_numbered c antenna [] (uplink_messages_of c (planned_jobs c lines_at)))
      ∙ filter_joined (numbered_frames c antenna) (is_message_of ep) (λ (x : LinkFrame). x.ep == ep) numbered (λ n x m. ap (λ (k : ℕ). k == ep) (frame_ep c antenna n x m))
      ∙ ap (λ (ns : List (Numbered UplinkJob)). joined (map (numbered_frames c antenna) ns)) (messages_are c lines ep e at)
      ∙ ap joined (map_map numbered_for (numbered_frames c antenna) stream
      ∙ map_same (λ (n : Numbered Part). numbered_frames c antenna (numbered_for n)) (message_frames_for c antenna ep e) stream one_message)

pub frames_are_the_stream : FramesAreTheStream
frames_are_the_stream c antenna lines ep e at = frames_are_stream c antenna lines ep e at

pub test_reads_first_frames : TestReadsFirstFrames
test_reads_first_frames c lines ep e at =
    let stream = stream_messages c (planned c.endpoints lines) UpData ep e in
    map_map _ (λ s. s.at.0) stream
    ∙ sym (map_map numbered_for (first_leaves c) stream)
    ∙ ap (map (first_leaves c)) (sym (messages_are c lines ep e at))
