-- The counters are the numbers of lines with their words.
use Rattle.std.proofs.Common.{◌≡◌, ℕ, suc, ◌+◌, ◌*◌, ℤ, Bool, true, false, List, [], ◌∷◌, ◌++◌, length, refl, sym, ap, ap₂, subst, ◌∙◌, append-nil, true≢false, arith}
use Rattle.std.proofs.Math.Nat.{add-mul}
use Rattle.std.specs.Prelude.{◌==◌, ◌||◌, not, nat_lt, if◌then◌else◌, replicate, ⊤, Option, Some, None, Result, Ok, Err}
use Rattle.std.specs.List.{AllByRecursion, flat_map}
use Rattle.std.proofs.lemmas.Bool.{and_parts}
use Rattle.std.proofs.lemmas.Grind.{flat_map-append}
use Rattle.fh_base.specs.Numbering.{shape_of}
use Rattle.fh_base.specs.declared.values.Ticks.{Ticks}
use Rattle.cplane_sections.specs.Tests.{checked}
use Rattle.cplane_sections.specs.declared.values.CHead.{CHead}
use Rattle.cplane_sections.specs.declared.values.CRefusal.{CRefusal}
use Rattle.ecpri_fragments.specs.Pieces.{joined}
use Rattle.ecpri_fragments.specs.Sequence.{application, id_of, is_fragmented, sequence_of}
use Rattle.ecpri_fragments.specs.Verdicts.{Message as Whole, verdict_on, whole_now}
use Rattle.ecpri_frames.specs.Gathering.{whole_messages}
use Rattle.ecpri_frames.specs.Messages.{Message}
use Rattle.ecpri_frames.specs.declared.heads.TheConstants.{ONE_WAY_DELAY, REAL_TIME_CONTROL, IQ_DATA}
use Rattle.uplane_sections.specs.Messages.{told as read}
use Rattle.bfp_codec.specs.declared.samples.Wide.{Wide}
use Rattle.fault_counters.specs.Counts.{once, times}
use Rattle.fault_counters.specs.declared.kinds.Counter.{Counter}
use Rattle.fault_counters.specs.declared.kinds.Counter.TheVariants as counter
use Rattle.air_source.specs.Units.{same_side}
use Rattle.air_source.specs.declared.events.AirCell.{AirCell}
use Rattle.air_source.specs.declared.events.Event.{Event}
use Rattle.air_source.specs.declared.events.Event.TheVariants as event
use Rattle.air_source.specs.declared.events.Side.{Side}
use Rattle.air_source.specs.declared.events.Side.TheVariants.{Ru, Du}
use Rattle.window_config.specs.declared.config.Config.{Config}
use Rattle.window_config.specs.declared.endpoints.EndpointConfig.{EndpointConfig}
use Rattle.unit_model.specs.Blocks.{data_verdicts}
use Rattle.unit_model.specs.Commands.{command_verdicts}
use Rattle.unit_model.specs.Counts.{block_counter, cells_counted, frames_counted, messages_counted}
use Rattle.unit_model.specs.Decoding.{Backwards, Decoded, Refused, Sections, data_sections, decode_message}
use Rattle.fh_base.specs.Lists.{onto}
use Rattle.unit_model.specs.Meetings.{Arrival, Meeting, Ignored, Commands, Piece, command_read, commands, control_met, find_endpoint, fragments, meet, meetings, met_by}
use Rattle.unit_model.specs.Reports.{arrivals_counted, hold_of, met}
use Rattle.unit_model.specs.Terms.{URefusal}
use Rattle.unit_model.specs.declared.decoded.ControlSection.{ControlSection}
use Rattle.unit_model.specs.declared.decoded.UserSection.{UserSection}
use Rattle.unit_model.proofs.CountLemmas.{times-append}
use Rattle.unit_model.specs.Judgements.{Judgement, Met, Commanded, Fragmented, Unread, Turned, Given, judged_by, judged_commands, judged_data, judged_decoded, judged_in, judged_meeting, judged_now, judged_whole}
use Rattle.explain_laws.specs.JudgedCounted.{ignored_counted, judged_counted, judgement_counted}
use Rattle.explain_laws.proofs.CountedLemmas.{are_counted}
use Rattle.unit_model.specs.Heard.{arrivals_heard, cells_heard, is_of}
use Rattle.explain_model.specs.declared.values.CellWord.{CellWord}
use Rattle.explain_model.specs.declared.values.CellWord.TheVariants.{Shown, Missing}
use Rattle.explain_model.specs.declared.values.ExplainLine.{ExplainLine}
use Rattle.explain_model.specs.declared.values.ExplainLine.TheVariants as line
use Rattle.explain_model.specs.Cells.{Entry, Lines, Of, entries, entries_after, entry_of, lines_in, piece_lines, run_from, runs_on, same_symbol, same_word, word_by}
use Rattle.explain_model.specs.Judged.{judged_before}
use Rattle.explain_model.specs.Messages.{answer_by, command_answer, line_to, message_lines}
use Rattle.explain_model.specs.Pieces.{AreLinked, pieces}
use Rattle.explain_model.specs.Sections.{control_line, data_line, frame_line, judged_lines, judgement_lines, story_lines, whole_line}
use Rattle.explain_model.specs.Stories.{Story, Told, arrival_count, arrival_with, story, told_after, told_of}
use Rattle.explain_model.proofs.MarginLemmas.{lines_both}
use Rattle.explain_model.proofs.PieceLemmas.{are_pieces}
use Rattle.explain_laws.specs.Counted.{WordsAreCounted, answer_words, cell_counter, delay_count, here_after, is_of_unit, of_unit, word_count, words}
use Rattle.explain_laws.proofs.EachLemmas.{IsInner, judged_inner}
use Rattle.unit_model.proofs.ArrivalLemmas.{arrivals-append}
use Rattle.fh_base.proofs.MemberLemmas.{all_join as all_both}

module _ (side : Side) (k : Counter) where
  -- ---- the words of some lines of the unit

  abbrev number : Bool → List ExplainLine → ℕ
  number here ls = times (flat_map words (of_unit side here ls)) k

  -- of one line
  abbrev own : Bool → ExplainLine → ℕ
  own b l = if b then times (words l) k else 0

  own_first : (b : Bool) (l : ExplainLine) (rest : List ExplainLine)
      → times (flat_map words ((if b then l ∷ [] else []) ++ rest)) k ≡ own b l + times (flat_map words rest) k
  own_first true l rest = times-append (words l) (flat_map words rest) k
  own_first false l rest = omega arith

  number_first : (here : Bool) (l : ExplainLine) (ls : List ExplainLine) → number here (l ∷ ls) ≡ own (is_of_unit side here l) l + number (here_after side here l) ls
  unfolding of_unit
  number_first here l ls = own_first (is_of_unit side here l) l (of_unit side (here_after side here l) ls)

  number_none : (here : Bool) → number here [] ≡ 0
  unfolding of_unit
  number_none here = refl

  -- whether the last frame of some lines is the unit's
  abbrev here_behind : Bool → List ExplainLine → Bool
  here_behind here [] = here
  here_behind here (l ∷ ls) = here_behind (here_after side here l) ls

  number_both : (here : Bool) (xs ys : List ExplainLine) → number here (xs ++ ys) ≡ number here xs + number (here_behind here xs) ys
  number_both here [] ys = omega (arith, number_none here)
  number_both here (l ∷ xs) ys =
      omega (arith, number_first here l (xs ++ ys), number_first here l xs, number_both (here_after side here l) xs ys)

  -- ---- the lines after a frame

  inner_kept : (here : Bool) (l : ExplainLine) → IsInner l → (is_of_unit side here l ≡ here) × (here_after side here l ≡ here)
  inner_kept here (line.Measure number place size) h = (refl, refl)
  inner_kept here (line.Other number place kind size) h = (refl, refl)
  inner_kept here (line.Short number place kind size) h = (refl, refl)
  inner_kept here (line.Unknown message kind) h = (refl, refl)
  inner_kept here (line.Command message said) h = (refl, refl)
  inner_kept here (line.Control s) h = (refl, refl)
  inner_kept here (line.Fragment message bytes verdict) h = (refl, refl)
  inner_kept here (line.Whole w) h = (refl, refl)
  inner_kept here (line.Data s) h = (refl, refl)
  inner_kept here _ h = absurd h

  inner_first : (here : Bool) (l : ExplainLine) (ls : List ExplainLine) → IsInner l → number here (l ∷ ls) ≡ own here l + number here ls
  inner_first here l ls h =
      let is = inner_kept here l h in
      number_first here l ls ∙ ap₂ (λ (a b : Bool). own a l + number b ls) is.0 is.1

  -- the unit's own, and those of the other
  inner_own : (ls : List ExplainLine) → AllByRecursion IsInner ls → number true ls ≡ times (flat_map words ls) k
  inner_own [] h = number_none true
  inner_own (l ∷ ls) h = omega (arith, inner_first true l ls h.0, inner_own ls h.1, times-append (words l) (flat_map words ls) k)

  inner_other : (ls : List ExplainLine) → AllByRecursion IsInner ls → number false ls ≡ 0
  inner_other [] h = number_none false
  inner_other (l ∷ ls) h = omega (arith, inner_first false l ls h.0, inner_other ls h.1)

  -- ---- entries

  abbrev weight : Entry → ℕ
  weight (Lines ls) = number false ls
  weight (Of a w) = if same_side a.side side then once (cell_counter w) k else 0

  abbrev total : List Entry → ℕ
  total [] = 0
  total (x ∷ xs) = weight x + total xs

  total_both : (xs ys : List Entry) → total (xs ++ ys) ≡ total xs + total ys
  total_both [] ys = omega arith
  total_both (x ∷ xs) ys = omega (arith, total_both xs ys)

  -- what is before an entry's lines makes no difference
  abbrev IsFree : Entry → Type 0
  IsFree (Lines ls) = (here : Bool) → number here ls ≡ number false ls
  IsFree (Of a w) = ⊤

  -- ---- runs

  abbrev run_number : Bool → Counter → ℕ → ℕ
  run_number b x n = if b then times (replicate n x) k else 0

  run_next : (b : Bool) (x : Counter) (n : ℕ) → run_number b x (suc n) ≡ (if b then once x k else 0) + run_number b x n
  run_next true x n = omega arith
  run_next false x n = omega arith

  side_same : (a b : Side) → same_side a b ≡ true → a ≡ b
  side_same Ru Ru h = refl
  side_same Ru Du h = absurd cc
  side_same Du Ru h = absurd cc
  side_same Du Du h = refl

  word_counter : (a b : CellWord) → same_word a b ≡ true → cell_counter a ≡ cell_counter b
  word_counter (Shown a) (Shown b) h = refl
  word_counter (Shown a) Missing h = absurd cc
  word_counter Missing (Shown b) h = absurd cc
  word_counter Missing Missing h = refl

  run_total : (a : AirCell) (w : CellWord) (rest : List Entry) → AreLinked runs_on (Of a w ∷ rest)
      → run_number (same_side a.side side) (cell_counter w) (length (Of a w ∷ rest)) ≡ total (Of a w ∷ rest)
  run_total a w [] h = omega (arith, run_next (same_side a.side side) (cell_counter w) 0, run_none (same_side a.side side))
    where
      run_none : (b : Bool) → run_number b (cell_counter w) 0 ≡ 0
      run_none true = refl
      run_none false = refl
  run_total a w (Lines ls ∷ rest) h = absurd (true≢false (sym h.0))
  run_total a w (Of b v ∷ rest) h =
      let p = and_parts (same_symbol a b) _ h.0 in
      let q = and_parts (same_side a.side b.side) _ p.0 in
      let r = and_parts (same_word w v) _ p.1 in
      let n = length (Of b v ∷ rest) in
      let same : run_number (same_side a.side side) (cell_counter w) n ≡ run_number (same_side b.side side) (cell_counter v) n =
      ap₂ (λ (s : Side) (x : Counter). run_number (same_side s side) x n) (side_same a.side b.side q.0) (word_counter w v r.0) in
      omega (arith, run_next (same_side a.side side) (cell_counter w) n, same, run_total b v rest h.1)

  -- ---- all entries

  of_piece : (here : Bool) (p : List Entry) → AreLinked runs_on p → AllByRecursion IsFree p → number here (piece_lines p) ≡ total p
  of_piece here [] h f = number_none here
  of_piece here (Lines ls ∷ []) h f = omega (arith, ap (number here) (append-nil ls), f.0 here)
  of_piece here (Lines ls ∷ Lines ks ∷ rest) h f = absurd (true≢false (sym h.0))
  of_piece here (Lines ls ∷ Of a w ∷ rest) h f = absurd (true≢false (sym h.0))
  of_piece here (Of a w ∷ rest) h f =
      let r = run_from a w (length (Of a w ∷ rest)) in
      omega (arith, number_first here (line.Cells r.run r.mask r.word) [], number_none here, run_total a w rest h)

  of_pieces : (here : Bool) (ps : List (List Entry)) → AllByRecursion (AreLinked runs_on) ps → AllByRecursion (AllByRecursion IsFree) ps
      → number here (flat_map piece_lines ps) ≡ total (joined ps)
  of_pieces here [] h f = number_none here
  of_pieces here (p ∷ ps) h f =
      omega (
        arith,
        number_both here (piece_lines p) (flat_map piece_lines ps),
        of_piece here p h.0 f.0,
        of_pieces (here_behind here (piece_lines p)) ps h.1 f.1,
        total_both p (joined ps),
      )

  -- all of a joined list, piece by piece
  all_left : (xs ys : List Entry) → AllByRecursion IsFree (xs ++ ys) → AllByRecursion IsFree xs × AllByRecursion IsFree ys
  all_left [] ys h = (tt, h)
  all_left (x ∷ xs) ys h = let r = all_left xs ys h.1 in ((h.0, r.0), r.1)

  in_pieces : (ps : List (List Entry)) → AllByRecursion IsFree (joined ps) → AllByRecursion (AllByRecursion IsFree) ps
  in_pieces [] h = tt
  in_pieces (p ∷ ps) h = let r = all_left p (joined ps) h in (r.0, in_pieces ps r.1)

  of_lines : (es : List Entry) → AllByRecursion IsFree es → word_count side k (lines_in es) ≡ total es
  unfolding lines_in
  of_lines es f =
      let are = are_pieces runs_on es in
      of_pieces false (pieces runs_on es) are.linked (in_pieces (pieces runs_on es) (subst (AllByRecursion IsFree) (sym are.all) f)) ∙ ap total are.all

  -- ---- what is judged of an arrival

  abbrev said : List ExplainLine → ℕ
  said ls = times (flat_map words ls) k

  said_both : (xs ys : List ExplainLine) → said (xs ++ ys) ≡ said xs + said ys
  said_both xs ys = omega (arith, ap (λ l. times l k) (flat_map-append words xs ys), times-append (flat_map words xs) (flat_map words ys) k)

  module _ (c : Config) (at : ℤ) (n : ℕ) where
    abbrev judged : List Judgement → ℕ
    judged js = times (judged_counted side c.endpoints at js) k

    judged_both : (xs ys : List Judgement) → judged (xs ++ ys) ≡ judged xs + judged ys
    judged_both [] ys = omega arith
    judged_both (j ∷ xs) ys =
        omega (
          arith,
          judged_both xs ys,
          times-append (judgement_counted side c.endpoints at j) (judged_counted side c.endpoints at (xs ++ ys)) k,
          times-append (judgement_counted side c.endpoints at j) (judged_counted side c.endpoints at xs) k,
        )

    -- sections, and whole messages without any
    abbrev IsPlain : Judgement → Type 0
    IsPlain (Met m) = ⊥
    IsPlain (Commanded s v) = ⊤
    IsPlain (Fragmented e f v) = ⊥
    IsPlain (Unread ep e m why) = ⊤
    IsPlain (Turned ep e m) = ⊤
    IsPlain (Given h v) = ⊤

    plain_one : (before : List Judgement) (j : Judgement) → IsPlain j → said (judgement_lines c side n before j) ≡ times (judgement_counted side c.endpoints at j) k
    unfolding control_line data_line whole_line
    plain_one before (Met m) h = absurd h
    plain_one before (Commanded s v) h = refl
    plain_one before (Fragmented e f v) h = absurd h
    plain_one before (Unread ep e m why) h = refl
    plain_one before (Turned ep e m) h = refl
    plain_one before (Given s v) h = refl

    plain : (before js : List Judgement) → AllByRecursion IsPlain js → said (judged_lines c side n before js) ≡ judged js
    unfolding judged_lines
    plain before [] h = refl
    plain before (j ∷ js) h =
        omega (
          arith,
          said_both (judgement_lines c side n before j) (judged_lines c side n (j ∷ before) js),
          plain_one before j h.0,
          plain (j ∷ before) js h.1,
          times-append (judgement_counted side c.endpoints at j) (judged_counted side c.endpoints at js) k,
        )

    commands_plain : (earlier cs : List ControlSection) → AllByRecursion IsPlain (judged_commands c.delays earlier cs)
    unfolding judged_commands
    commands_plain earlier [] = tt
    commands_plain earlier (s ∷ cs) = (tt, commands_plain (s ∷ earlier) cs)

    data_plain : (earlier ss : List UserSection) → AllByRecursion IsPlain (judged_data side c.delays earlier ss)
    unfolding judged_data
    data_plain earlier [] = tt
    data_plain earlier (s ∷ ss) = all_both IsPlain (judged_data side c.delays earlier ss) _ (data_plain earlier ss) (tt, tt)

    decoded_plain : (ep : ℕ) (e : EndpointConfig) (m : Whole) (earlier : List UserSection) (x : Decoded) → AllByRecursion IsPlain (judged_decoded side c.delays ep e m earlier x)
    decoded_plain ep e m earlier Refused = tt
    decoded_plain ep e m earlier Backwards = (tt, tt)
    decoded_plain ep e m earlier (Sections ss) = data_plain earlier ss

    refusal_plain : (ep : ℕ) (e : EndpointConfig) (m : Whole) (earlier : List UserSection) (o : Option URefusal) → AllByRecursion IsPlain (judged_by side c.delays ep e m earlier o)
    refusal_plain ep e m earlier (Some why) = (tt, tt)
    refusal_plain ep e m earlier None = decoded_plain ep e m earlier (decode_message side ep e m)

    whole_plain : (ep : ℕ) (e : EndpointConfig) (m : Whole) (earlier : List UserSection) → AllByRecursion IsPlain (judged_whole side c.delays ep e m earlier)
    unfolding judged_whole
    whole_plain ep e m earlier = refusal_plain ep e m earlier (read e.format e.prbs (shape_of e.numerology) (joined m.pieces)).refusal

    now_plain : (ep : ℕ) (e : EndpointConfig) (earlier : List UserSection) (o : Option Whole) → AllByRecursion IsPlain (judged_now side c.delays ep e earlier o)
    now_plain ep e earlier None = tt
    now_plain ep e earlier (Some m) = whole_plain ep e m earlier

    -- ---- a message

    -- the words of the line of a message that is met so; that of a message of data is its fragment's
    abbrev met_words : Meeting → List Counter
    met_words (Ignored x) = x ∷ counter.Messages ∷ []
    met_words (Commands cs) = counter.Messages ∷ []
    met_words (Piece e f) = []

    module _ (m : Message) where
      read_words : (ep : ℕ) (e : EndpointConfig) (payload : List ℕ) (r : Result CHead CRefusal)
          → answer_words (answer_by r) ++ counter.Messages ∷ [] ≡ met_words (command_read ep e at payload r)
      read_words ep e payload (Ok head) = refl
      read_words ep e payload (Err r) = refl

      command_words : (ep : ℕ) (e : EndpointConfig) (fragmented : Bool) → is_fragmented (sequence_of m.payload) ≡ fragmented
          → answer_words (command_answer Ru e m.payload) ++ counter.Messages ∷ [] ≡ met_words (control_met Ru ep e at m.payload)
      command_words ep e true is = rw is refl
      command_words ep e false is = rw is (read_words ep e (application m.payload) (checked (shape_of e.numerology) (application m.payload)))

      control_words : (s : Side) (ep : ℕ) (e : EndpointConfig) → answer_words (command_answer s e m.payload) ++ counter.Messages ∷ [] ≡ met_words (control_met s ep e at m.payload)
      control_words Ru ep e = command_words ep e (is_fragmented (sequence_of m.payload)) refl
      control_words Du ep e = refl

      kind_words : (ep : ℕ) (e : EndpointConfig) (control : Bool) → (m.head.kind == REAL_TIME_CONTROL) ≡ control
          → flat_map words (line_to side n m (Some (ep, e))) ≡ met_words (met_by side m.head.kind at m.payload (Some (ep, e)))
      kind_words ep e true is = rw is (append-nil (answer_words (command_answer side e m.payload) ++ counter.Messages ∷ []) ∙ control_words side ep e)
      kind_words ep e false is = rw is refl

      endpoint_words : (o : Option (ℕ × EndpointConfig)) → flat_map words (line_to side n m o) ≡ met_words (met_by side m.head.kind at m.payload o)
      endpoint_words None = refl
      endpoint_words (Some found) = kind_words found.0 found.1 (m.head.kind == REAL_TIME_CONTROL) refl

      tests_words : (delay other short : Bool)
          → flat_map words (if delay then line.Measure n m.place (length m.payload) ∷ []
          else (if other then line.Other n m.place m.head.kind (length m.payload) ∷ []
          else (if short then line.Short n m.place m.head.kind (length m.payload) ∷ []
          else line_to side n m (find_endpoint c.endpoints (id_of m.payload)))))
          ≡ met_words (if delay then Ignored counter.Delay else (if other then Ignored counter.OtherType else (if short then Ignored counter.Short else met_by side m.head.kind at m.payload (find_endpoint c.endpoints (id_of m.payload)))))
      tests_words true o s = refl
      tests_words false true s = refl
      tests_words false false true = refl
      tests_words false false false = endpoint_words (find_endpoint c.endpoints (id_of m.payload))

      message_words : flat_map words (message_lines side c.endpoints n m) ≡ met_words (meet side c.endpoints at m)
      unfolding meet message_lines
      message_words = tests_words (m.head.kind == ONE_WAY_DELAY) (not (m.head.kind == IQ_DATA || m.head.kind == REAL_TIME_CONTROL)) (nat_lt (length m.payload) 4)

      -- what is judged of it, and the lines of that
      meeting_said : (before : List Judgement) (ms : List Meeting) (x : Meeting) → flat_map words (message_lines side c.endpoints n m) ≡ met_words x
          → said (message_lines side c.endpoints n m) + said (judged_lines c side n before (judged_meeting side c ms x))
          ≡ times (ignored_counted x ++ counter.Messages ∷ []) k + judged (judged_meeting side c ms x)
      unfolding judged_lines
      meeting_said before ms (Ignored x) is = omega (arith, ap (λ l. times l k) is)
      meeting_said before ms (Commands cs) is = omega (arith, ap (λ l. times l k) is, plain before (judged_commands c.delays (commands ms) cs) (commands_plain (commands ms) cs))
      meeting_said before ms (Piece e f) is =
          let hold = hold_of side c.delays in
          let v = verdict_on hold f (fragments ms) in
          let now = judged_now side c.delays f.ep e (data_sections side hold ms) (whole_now hold f (fragments ms)) in
          omega (
            arith,
            ap (λ l. times l k) is,
            plain (Fragmented e f v ∷ before) now (now_plain f.ep e (data_sections side hold ms) (whole_now hold f (fragments ms))),
          )

    pub messages_said : (before : List Judgement) (ms : List Meeting) (messages : List Message)
        → said (judged_lines c side n before (judged_in side c at ms messages)) ≡ judged (judged_in side c at ms messages)
    unfolding judged_in judged_lines
    messages_said before ms [] = refl
    messages_said before ms (m ∷ rest) =
        let x = meet side c.endpoints at m in
        let now = judged_meeting side c ms x in
        let later = judged_in side c at (x ∷ ms) rest in
        omega (
          arith,
          ap said (lines_both c side n before (Met m ∷ now) later),
          said_both (judged_lines c side n before (Met m ∷ now)) (judged_lines c side n (onto before (Met m ∷ now)) later),
          said_both (message_lines side c.endpoints n m) (judged_lines c side n (Met m ∷ before) now),
          meeting_said m (Met m ∷ before) ms x (message_words m),
          messages_said (onto before (Met m ∷ now)) (x ∷ ms) rest,
          judged_both (Met m ∷ now) later,
          times-append (ignored_counted x ++ counter.Messages ∷ []) (judged_counted side c.endpoints at now) k,
        )

  -- ---- an arrival

  -- a story of the unit, or of the other one
  abbrev story_own : Bool → ℕ → ℕ
  story_own b n = if b then n else 0

  number_by : (c : Config) (b : Bool) (ls : List ExplainLine) → AllByRecursion IsInner ls → number b ls ≡ story_own b (said ls)
  number_by c true ls h = inner_own ls h
  number_by c false ls h = inner_other ls h

  sum_own : (b : Bool) (x y : ℕ) → story_own b x + story_own b y ≡ story_own b (x + y)
  sum_own true x y = refl
  sum_own false x y = refl

  story_number : (c : Config) (here : Bool) (before : List Judgement) (s : Story)
      → number here (story_lines c before s) ≡ story_own (same_side s.side side) (times (words (frame_line s)) k + said (judged_lines c s.side s.number before s.judged))
  unfolding story_lines
  story_number c here before s =
      let ls = judged_lines c s.side s.number before s.judged in
      number_first here (frame_line s) ls
      ∙ ap (λ m. own (same_side s.side side) (frame_line s) + m) (number_by c (same_side s.side side) ls (judged_inner c s.side s.number before s.judged))
      ∙ sum_own (same_side s.side side) (times (words (frame_line s)) k) (said ls)

  story_free : (c : Config) (before : List Judgement) (s : Story) → IsFree (Lines (story_lines c before s))
  story_free c before s here = story_number c here before s ∙ sym (story_number c false before s)

  delay_number : (here : Bool) (at : Ticks) (at_side : Side) (id : ℕ) (value : ℤ) → number here (line.Delay at at_side id value ∷ []) ≡ (if same_side at_side side then 1 else 0) * once counter.DelayResult k
  delay_number here at at_side id value = number_first here (line.Delay at at_side id value) [] ∙ delay_own (same_side at_side side)
    where
      delay_own : (b : Bool) → own b (line.Delay at at_side id value) + number here [] ≡ (if b then 1 else 0) * once counter.DelayResult k
      delay_own true = omega (arith, number_none here)
      delay_own false = omega (arith, number_none here)

  -- ---- what is told of an event

  event_free : (c : Config) (earlier : List Told) (before : List Event) (e : Event) → IsFree (entry_of c earlier (told_of c before e))
  event_free c earlier before (event.Arrival at_side at frame) =
      story_free c (judged_before at_side earlier) (story c (suc (arrival_count before)) at_side (arrivals_heard at_side [] before) (arrival_with at.0 frame))
  event_free c earlier before (event.Cell a) = tt
  event_free c earlier before (event.Delay at at_side id value) = λ here. delay_number here (record { 0 = at.0 }) at_side id value ∙ sym (delay_number false (record { 0 = at.0 }) at_side id value)
  event_free c earlier before (event.Count at_side counted value) = λ here. number_none here ∙ sym (number_none false)

  events_free : (c : Config) (earlier : List Told) (before es : List Event) → AllByRecursion IsFree (entries_after c earlier (told_after c before es))
  unfolding entries_after told_after
  events_free c earlier before [] = tt
  events_free c earlier before (e ∷ es) = (event_free c earlier before e, events_free c (earlier ++ told_of c before e ∷ []) (before ++ e ∷ []) es)

  cell_word : (b : Bool) (earlier : List Told) (a : AirCell) (o : Option (List Wide))
      → (if b then once (cell_counter (word_by earlier a o)) k else 0) ≡ (if b then once (block_counter o) k else 0)
  cell_word b earlier a None = refl
  cell_word b earlier a (Some samples) = refl

  -- the unit's cells of a cell and of what follows
  heard_cell : (b : Bool) (a : AirCell) (rest : List AirCell)
      → times (cells_counted (let l : List AirCell = if b then a ∷ rest else rest in l)) k ≡ times (cells_counted rest) k + (if b then once (block_counter a.block) k else 0)
  heard_cell true a rest = refl
  heard_cell false a rest = omega arith

-- the two tests of a unit are one
one_test : (side other : Side) → is_of side other ≡ same_side other side
one_test Ru Ru = refl
one_test Ru Du = refl
one_test Du Ru = refl
one_test Du Du = refl

-- what all arrivals, cells and delays are counted as, after these arrivals
abbrev counted_then : Side → Counter → Config → List Arrival → List Event → ℕ
counted_then side k c heard es =
    times (arrivals_counted side c (arrivals_heard side heard es)) k + (times (cells_counted (cells_heard side es)) k + delay_count side es * once counter.DelayResult k)

module _ (k : Counter) (c : Config) where
  -- an arrival at the unit
  arrival_own : (side : Side) (earlier : List Told) (before : List Event) (at : ℤ) (frame : List ℕ)
      → weight side k (Lines (story_lines c (judged_before side earlier) (story c (suc (arrival_count before)) side (arrivals_heard side [] before) (arrival_with at frame))))
      + times (arrivals_counted side c (arrivals_heard side [] before)) k
      ≡ times (arrivals_counted side c (arrival_with at frame ∷ arrivals_heard side [] before)) k
  arrival_own side earlier before at frame =
      let heard = arrivals_heard side [] before in
      let a = arrival_with at frame in
      let s = story c (suc (arrival_count before)) side heard a in
      omega (
        arith,
        story_number side k c false (judged_before side earlier) s,
        ap (λ b. story_own side k b (times (words (frame_line s)) k + said side k (judged_lines c side s.number (judged_before side earlier) s.judged))) (side_own side),
        messages_said side k c at s.number (judged_before side earlier) (met side c heard) (whole_messages frame),
        are_counted side c heard a k,
      )
    where
      side_own : (s : Side) → same_side s s ≡ true
      side_own Ru = refl
      side_own Du = refl

  -- and one at the other
  arrival_other : (side other : Side) → same_side other side ≡ false → (earlier : List Told) (before : List Event) (at : ℤ) (frame : List ℕ)
      → weight side k (Lines (story_lines c (judged_before other earlier) (story c (suc (arrival_count before)) other (arrivals_heard other [] before) (arrival_with at frame)))) ≡ 0
  arrival_other side other differs earlier before at frame =
      let s = story c (suc (arrival_count before)) other (arrivals_heard other [] before) (arrival_with at frame) in
      story_number side k c false (judged_before other earlier) s
      ∙ ap (λ b. story_own side k b (times (words (frame_line s)) k + said side k (judged_lines c other s.number (judged_before other earlier) s.judged))) differs

  -- the arrivals that the unit heard, with one more event
  heard_more : (side : Side) (before : List Event) (e : Event) → arrivals_heard side [] (before ++ e ∷ []) ≡ arrivals_heard side (arrivals_heard side [] before) (e ∷ [])
  heard_more side before e = arrivals-append side [] before (e ∷ [])

  events_total : (side : Side) (earlier : List Told) (before : List Event) (heard : List Arrival) → arrivals_heard side [] before ≡ heard → (es : List Event)
      → total side k (entries_after c earlier (told_after c before es)) + times (arrivals_counted side c heard) k ≡ counted_then side k c heard es
  unfolding entries_after told_after arrivals_heard cells_heard delay_count
  events_total side earlier before heard is [] = omega arith
  events_total Ru earlier before heard is (event.Arrival Ru at frame ∷ es) =
      let e = event.Arrival Ru at frame in
      let a = arrival_with at.0 frame in
      omega (
        arith,
        subst (λ h. weight Ru k (entry_of c earlier (told_of c before e)) + times (arrivals_counted Ru c h) k ≡ times (arrivals_counted Ru c (a ∷ h)) k) is (arrival_own Ru earlier before at.0 frame),
        events_total Ru (earlier ++ told_of c before e ∷ []) (before ++ e ∷ []) (a ∷ heard) (heard_more Ru before e ∙ ap (λ h. a ∷ h) is) es,
      )
  events_total Ru earlier before heard is (event.Arrival Du at frame ∷ es) =
      let e = event.Arrival Du at frame in
      omega (
        arith,
        arrival_other Ru Du refl earlier before at.0 frame,
        events_total Ru (earlier ++ told_of c before e ∷ []) (before ++ e ∷ []) heard (heard_more Ru before e ∙ is) es,
      )
  events_total Du earlier before heard is (event.Arrival Ru at frame ∷ es) =
      let e = event.Arrival Ru at frame in
      omega (
        arith,
        arrival_other Du Ru refl earlier before at.0 frame,
        events_total Du (earlier ++ told_of c before e ∷ []) (before ++ e ∷ []) heard (heard_more Du before e ∙ is) es,
      )
  events_total Du earlier before heard is (event.Arrival Du at frame ∷ es) =
      let e = event.Arrival Du at frame in
      let a = arrival_with at.0 frame in
      omega (
        arith,
        subst (λ h. weight Du k (entry_of c earlier (told_of c before e)) + times (arrivals_counted Du c h) k ≡ times (arrivals_counted Du c (a ∷ h)) k) is (arrival_own Du earlier before at.0 frame),
        events_total Du (earlier ++ told_of c before e ∷ []) (before ++ e ∷ []) (a ∷ heard) (heard_more Du before e ∙ ap (λ h. a ∷ h) is) es,
      )
  events_total side earlier before heard is (event.Cell a ∷ es) =
      let e = event.Cell a in
      omega (
        arith,
        cell_word side k (same_side a.side side) earlier a a.block,
        heard_cell side k (is_of side a.side) a (cells_heard side es),
        ap (λ (b : Bool). if b then once (block_counter a.block) k else 0) (one_test side a.side),
        events_total side (earlier ++ told_of c before e ∷ []) (before ++ e ∷ []) heard (heard_more side before e ∙ is) es,
      )
  events_total side earlier before heard is (event.Delay at at_side id value ∷ es) =
      let e = event.Delay at at_side id value in
      delays (if same_side at_side side then 1 else 0) (weight side k (entry_of c earlier (told_of c before e)))
      (total side k (entries_after c (earlier ++ told_of c before e ∷ []) (told_after c (before ++ e ∷ []) es))) (times (arrivals_counted side c heard) k)
      (times (arrivals_counted side c (arrivals_heard side heard es)) k) (times (cells_counted (cells_heard side es)) k) (delay_count side es) (once counter.DelayResult k)
      (delay_number side k false (record { 0 = at.0 }) at_side id value)
      (events_total side (earlier ++ told_of c before e ∷ []) (before ++ e ∷ []) heard (heard_more side before e ∙ is) es)
    where
      delays : (n w t h a x d o : ℕ) → w ≡ n * o → t + h ≡ a + (x + d * o) → (w + t) + h ≡ a + (x + (n + d) * o)
      delays n w t h a x d o p q = rw (p, add-mul n d o) (omega (arith, q))
  events_total side earlier before heard is (event.Count at_side counted value ∷ es) =
      let e = event.Count at_side counted value in
      omega (
        arith,
        number_none side k false,
        events_total side (earlier ++ told_of c before e ∷ []) (before ++ e ∷ []) heard (heard_more side before e ∙ is) es,
      )

-- with no arrivals nothing is counted of them
pub none_counted : (side : Side) (c : Config) (k : Counter) → times (arrivals_counted side c []) k ≡ 0
unfolding frames_counted messages_counted meetings commands data_sections command_verdicts data_verdicts
none_counted side c k = refl

nothing_heard : (side : Side) → arrivals_heard side [] [] ≡ []
unfolding arrivals_heard
nothing_heard side = refl

pub any_events : WordsAreCounted
any_events c es side k =
    omega (
      arith,
      of_lines side k (entries c es) (events_free side k c [] [] es),
      events_total k c side [] [] [] (nothing_heard side) es,
      none_counted side c k,
    )
