-- What the distributed unit decodes: a section for each part of a plan's uplink stream, on time.
use Rattle.std.proofs.Common.{◌≡◌, ℕ, ℤ, pos, ◌+ℤ◌, ◌*ℤ◌, ◌-ℤ◌, ◌≤ℤ◌, ◌<ℤ◌, ◌⊎◌, inl, inr, true, List, [], ◌∷◌, ◌++◌, map, Option, Some, refl, ap, ap₂, sym, ◌∙◌, subst, arith}
use Rattle.std.specs.List.{slice_get}
use Rattle.std.specs.Option.{option_map_or}
use Rattle.std.proofs.lemmas.Int.{ints}
use Rattle.fh_base.specs.Air.{air_of}
use Rattle.fh_base.specs.Frame.{absolute_frame}
use Rattle.fh_base.specs.declared.values.Slot.{Slot}
use Rattle.air_source.specs.declared.events.Side.TheVariants.{Du}
use Rattle.ecpri_fragments.specs.Generations.{Fragment}
use Rattle.ecpri_fragments.specs.Verdicts.{Message as WholeMessage, message, standing_before, verdict_on, whole_of}
use Rattle.ecpri_fragments.specs.declared.verdict.Verdict.{Verdict}
use Rattle.ecpri_fragments.specs.declared.verdict.Verdict.TheVariants.{Stored, Whole, Repeat, Stray, TooLong}
use Rattle.fragment_laws.specs.Apart.{Numbers, number_of, of_message}
use Rattle.fragment_laws.specs.Flow.{numbers_of}
use Rattle.fragment_laws.specs.Once.{Answered, Completed, answered, answers, texts, wholes, with_whole}
use Rattle.fragment_laws.proofs.FlowLemmas.{copy}
use Rattle.window_config.specs.Classes.{class_up_of}
use Rattle.window_config.specs.declared.config.Config.{Config}
use Rattle.window_config.specs.declared.endpoints.EndpointConfig.{EndpointConfig}
use Rattle.window_config.specs.declared.plan.PlanLine.{PlanLine}
use Rattle.window_config.specs.declared.verdicts.Class.TheVariants.{OnTime}
use Rattle.window_config.proofs.Timing.{class_up_on_time}
use Rattle.unit_model.specs.Blocks.{data_class, data_slot, data_start}
use Rattle.unit_model.specs.Claims.{is_from}
use Rattle.unit_model.specs.Decoding.{Decoded, data_now, data_sections, data_told, decode, decode_message, decoded_now, sections_of}
use Rattle.fh_base.specs.Lists.{onto}
use Rattle.unit_model.specs.Meetings.{Arrival, Meeting, Piece, fragments, meetings}
use Rattle.unit_model.specs.Proper.{IsAt}
use Rattle.unit_model.specs.declared.decoded.UserSection.{UserSection}
use Rattle.unit_model.proofs.ReachLaws.{symbol_soon}
use Rattle.unit_laws.proofs.FarLemmas.{endpoints_equal}
use Rattle.plan_model.specs.Departures.{start_of_part}
use Rattle.plan_model.specs.Lines.{planned, is_up_line}
use Rattle.plan_model.specs.Packs.{Numbered, parts_of}
use Rattle.plan_model.specs.Streams.{Part, frames_in, messages_of, part_in}
use Rattle.plan_model.specs.declared.lines.PlannedLine.{PlannedLine}
use Rattle.plan_model.specs.declared.streams.Stream.TheVariants.{UpData}
use Rattle.schedule_laws.proofs.FragmentLemmas.{answers_from, answers_there, the_whole, whole_in}
use Rattle.plan_model.proofs.SweptLists.{numerology_short}
use Rattle.plan_model.proofs.TimeLemmas.{frame_is}
use Rattle.sent_frames.specs.Messages.{Source}
use Rattle.uplink_model.specs.Frames.{Antenna}
use Rattle.uplink_laws.specs.Data.{AreUplinkSections, IsUplinkDataFor, IsUplinkDecoded, antenna_blocks, said_by}
use Rattle.uplink_laws.specs.Flows.{uplink_bounds_of, uplink_flow_of, fragment_text}
use Rattle.uplink_laws.specs.Premise.{BothArrive}
use Rattle.uplink_laws.proofs.ArrivalLemmas.{AllCame, IsHere, came, delivered, fragments_piece, here_message, here_of, read_of, sounds}
use Rattle.uplink_laws.proofs.FlowLemmas.{below_at, here, pieces_at, starts_at, text_at}
use Rattle.uplink_laws.proofs.PartLemmas.{PartFacts, line_part, message_facts, same_start}
use Rattle.uplink_laws.proofs.ReadLemmas.{IsSectionOf, fragment_at, is_decoded, section_for, section_from}
use Rattle.uplink_laws.proofs.WholeLemmas.{InTime, in_time, whole_once}
use Rattle.fh_base.specs.declared.frames.TheConstants.{FRAME, HALF_CYCLE}
use Rattle.window_config.specs.declared.delays.TheConstants.{MOST_DELAY}
use Rattle.fh_base.proofs.Order.{same_fields as same_slot_fields}
use Rattle.ecpri_fragments.specs.Pieces.{joined}
use Rattle.fh_base.specs.declared.nanoseconds.TheConstants.{NANOSECOND}
use Rattle.schedule_laws.proofs.DataLemmas.{told_whole, whole_told}
use Rattle.fh_base.specs.Members.{IsIn}
use Rattle.fh_base.proofs.MemberLemmas.{in_either, in_left, in_right}
use Rattle.fh_base.proofs.MadeLists.{in_onto, onto_right}

-- ---- the sections that a fragment makes

sections_piece : (c : Config) (hold : ℤ) (a : Arrival) (earlier : List Arrival) (e : EndpointConfig) (x : Fragment) → read_of c a ≡ Piece e x ∷ []
    → data_sections Du hold (meetings Du c.endpoints (a ∷ earlier)) ≡ data_told (data_now Du hold e x (fragments (meetings Du c.endpoints earlier))) ++ data_sections Du hold (meetings Du c.endpoints earlier)
unfolding meetings onto data_sections
sections_piece c hold a earlier e x h = ap (λ (ms : List Meeting). data_sections Du hold (onto (meetings Du c.endpoints earlier) ms)) h

cons_same : (x y : Fragment) (xs ys : List Fragment) → x ∷ xs ≡ y ∷ ys → (x ≡ y) × (xs ≡ ys)
cons_same x y xs ys e = (cc, cc)

not_none : (later earlier : List Fragment) (x : Fragment) → [] ≡ later ++ x ∷ earlier → ⊥
not_none [] earlier x e = cc
not_none (y ∷ later) earlier x e = cc

split_of : (later earlier all : List Fragment) (x y : Fragment) → y ∷ all ≡ later ++ x ∷ earlier → ((y ≡ x) × (all ≡ earlier)) ⊎ ((rest : List Fragment) × (all ≡ rest ++ x ∷ earlier))
split_of [] earlier all x y e = inl (cons_same y x all earlier e)
split_of (z ∷ later) earlier all x y e = inr (later, (cons_same y z all (later ++ x ∷ earlier) e).1)

-- ---- times

-- what is received within 2 ms after a symbol's start is near to its frame
near_frame : (f s at most : ℤ) → (f *ℤ FRAME) ≤ℤ s → s <ℤ (f *ℤ FRAME +ℤ pos 76800000000) → s ≤ℤ at → (at -ℤ s) ≤ℤ (most *ℤ pos NANOSECOND) → most ≤ℤ pos MOST_DELAY
    → ((at -ℤ HALF_CYCLE) ≤ℤ (f *ℤ FRAME)) × ((f *ℤ FRAME) <ℤ (at +ℤ HALF_CYCLE))
near_frame f s at most low high begun soon few = (omega (arith, ints), omega (arith, ints))

module _ (c : Config) (lines : List PlanLine) (source : Source) (antenna : Antenna) (down up : List Arrival) (h : BothArrive c lines source antenna down up) where
  abbrev ps : List PlannedLine
  ps = planned c.endpoints lines

  abbrev all : List Fragment
  all = fragments (meetings Du c.endpoints up)

  abbrev hold : ℤ
  hold = (uplink_bounds_of c).hold

  abbrev num : Numbers
  num = numbers_of (uplink_bounds_of c) (uplink_flow_of c antenna ps)

  abbrev Is : ℕ → ℕ → Type 0
  Is ep j = IsHere c lines source antenna down up h ep j

  abbrev AreCame : List Arrival → Type 0
  AreCame arrivals = AllCame c lines source antenna down up h arrivals

  -- ---- each section is of what a fragment makes whole

  record IsTold (arrivals : List Arrival) (d : UserSection) : Type 0 where
    later : List Fragment
    x : Fragment
    earlier : List Fragment
    is : fragments (meetings Du c.endpoints arrivals) ≡ later ++ x ∷ earlier
    e : EndpointConfig
    at : IsAt c.endpoints x.ep e
    told : IsIn d (data_told (data_now Du hold e x earlier))

  told_in : (arrivals : List Arrival) → AreCame arrivals → (d : UserSection) → IsIn d (data_sections Du hold (meetings Du c.endpoints arrivals)) → IsTold arrivals d
  unfolding meetings data_sections
  told_in [] came d m = absurd m
  told_in (a ∷ earlier) came d m =
      let w = came a (inl refl) in
      let x = fragment_at c lines source h.sendable antenna h.can w.ep w.e w.n w.sub a.at in
      elim (in_either d (data_told (data_now Du hold w.e x (fragments (meetings Du c.endpoints earlier)))) (data_sections Du hold (meetings Du c.endpoints earlier))
      (subst (λ (xs : List UserSection). IsIn d xs) (sections_piece c hold a earlier w.e x w.read) m)) [
        | inl here ↦ record {
          later = [];
          x = x;
          earlier = fragments (meetings Du c.endpoints earlier);
          is = fragments_piece c a earlier w.e x w.read;
          e = w.e;
          at = w.at;
          told = here;
        }
        | inr there ↦
            let t = told_in earlier (λ b n. came b (inr n)) d there in
            record {
              later = x ∷ t.later;
              x = t.x;
              earlier = t.earlier;
              is = fragments_piece c a earlier w.e x w.read ∙ ap (λ (xs : List Fragment). x ∷ xs) t.is;
              e = t.e;
              at = t.at;
              told = t.told;
            }
      ]

  -- so all of them are what the whole messages say
  said_now : (x : Fragment) (s : List Fragment) (e : EndpointConfig) (ws : List Completed) (v : Verdict) → IsAt c.endpoints x.ep e
      → data_told (decoded_now Du e x (whole_of v x s)) ++ joined (map (said_by c) ws) ≡ joined (map (said_by c) (with_whole x (whole_of v x s) ws))
  said_now x s e ws Stored at = refl
  said_now x s e ws Whole at =
      ap (λ (o : Option EndpointConfig). option_map_or (λ f. sections_of (decode_message Du x.ep f (message (x ∷ s)))) o [] ++ joined (map (said_by c) ws)) (sym at)
  said_now x s e ws Repeat at = refl
  said_now x s e ws Stray at = refl
  said_now x s e ws TooLong at = refl

  said : (arrivals : List Arrival) → AreCame arrivals → data_sections Du hold (meetings Du c.endpoints arrivals) ≡ joined (map (said_by c) (wholes hold (fragments (meetings Du c.endpoints arrivals))))
  unfolding meetings data_sections fragments
  said [] came = refl
  said (a ∷ earlier) came =
      let w = came a (inl refl) in
      let x = fragment_at c lines source h.sendable antenna h.can w.ep w.e w.n w.sub a.at in
      let before = fragments (meetings Du c.endpoints earlier) in
      sections_piece c hold a earlier w.e x w.read
      ∙ ap (λ (ds : List UserSection). data_told (data_now Du hold w.e x before) ++ ds) (said earlier (λ b n. came b (inr n)))
      ∙ said_now x (standing_before hold x before) w.e (wholes hold before) (verdict_on hold x before) w.at
      ∙ ap (λ (xs : List Fragment). joined (map (said_by c) (wholes hold xs))) (sym (fragments_piece c a earlier w.e x w.read))

  pub sections_of_wholes : data_sections Du (uplink_bounds_of c).hold (meetings Du c.endpoints up) ≡ joined (map (said_by c) (wholes (uplink_bounds_of c).hold (fragments (meetings Du c.endpoints up))))
  sections_of_wholes = said up (came c lines source antenna down up h)

  -- and all of that is told
  told_there : (arrivals : List Arrival) → AreCame arrivals → (later earlier : List Fragment) (x : Fragment) (e : EndpointConfig) (d : UserSection) → IsAt c.endpoints x.ep e
      → fragments (meetings Du c.endpoints arrivals) ≡ later ++ x ∷ earlier → IsIn d (data_told (data_now Du hold e x earlier)) → IsIn d (data_sections Du hold (meetings Du c.endpoints arrivals))
  unfolding meetings fragments
  told_there [] came later earlier x e d at is m = absurd (not_none later earlier x is)
  told_there (a ∷ before) came later earlier x e d at is m =
      let w = came a (inl refl) in
      let y = fragment_at c lines source h.sendable antenna h.can w.ep w.e w.n w.sub a.at in
      let rest = fragments (meetings Du c.endpoints before) in
      let old = data_sections Du hold (meetings Du c.endpoints before) in
      subst (λ (xs : List UserSection). IsIn d xs) (sym (sections_piece c hold a before w.e y w.read))
      (elim (split_of later earlier rest x y (sym (fragments_piece c a before w.e y w.read) ∙ is)) [
        | inl now ↦
            let same = endpoints_equal c.endpoints x.ep w.ep e w.e at w.at (ap (λ (z : Fragment). z.ep) (sym now.0)) in
            in_left d (data_told (data_now Du hold w.e y rest)) old
            (subst (λ (z : Fragment). IsIn d (data_told (data_now Du hold w.e z rest))) (sym now.0)
            (subst (λ (g : EndpointConfig). IsIn d (data_told (data_now Du hold g x rest))) same
            (subst (λ (xs : List Fragment). IsIn d (data_told (data_now Du hold e x xs))) (sym now.1) m)))
        | inr further ↦ in_right d (data_told (data_now Du hold w.e y rest)) old (told_there before (λ b n. came b (inr n)) further.0 earlier x e d at further.1 m)
      ])

  -- ---- what a fragment that is Whole says

  -- the message and its sections
  record SaysNow (x : Fragment) (earlier : List Fragment) : Type 0 where
    j : ℕ
    is_here : Is x.ep j
    number : number_of num x ≡ j
    first : ℤ
    last : ℤ
    sections : List UserSection
    are : AreUplinkSections (antenna_blocks c antenna) first last (onto [] (parts_of is_here.n.message)) sections
    is : (e : EndpointConfig) → e ≡ is_here.e → sections_of (decode_message Du x.ep e (message (x ∷ standing_before hold x earlier))) ≡ sections
    time : InTime c lines source antenna down up h (start_of_part is_here.n.message.first) first last

  decoded_as : (ep j : ℕ) (a : Is ep j) (m : WholeMessage) (e : EndpointConfig) (s : IsUplinkDecoded c antenna ep a.e a.n m.first m.last)
      → m.pieces ≡ texts ((uplink_flow_of c antenna ps ep).text j) ((uplink_flow_of c antenna ps ep).pieces j) → e ≡ a.e → sections_of (decode_message Du ep e m) ≡ s.sections
  decoded_as ep j a m e s pieces same =
      let text = text_at c lines h.sendable.config h.sendable.lines_fit h.sendable.valid h.check antenna ep j a in
      let count = pieces_at c lines h.sendable.config h.sendable.lines_fit h.sendable.valid h.check antenna ep j a in
      let pieces_n : m.pieces ≡ texts (fragment_text c antenna a.e a.n) (frames_in c UpData a.n.message) = pieces ∙ ap₂ (λ (t : ℕ → List ℕ) (k : ℕ). texts t k) text count in
      ap (λ (f : EndpointConfig). sections_of (decode Du ep f m.first m.last (joined m.pieces))) same
      ∙ ap (λ (ts : List (List ℕ)). sections_of (decode Du ep a.e m.first m.last (joined ts))) pieces_n
      ∙ ap (λ (r : Decoded). sections_of r) s.is

  says_now : (later earlier : List Fragment) (x : Fragment) → all ≡ later ++ x ∷ earlier → verdict_on hold x earlier ≡ Whole → SaysNow x earlier
  says_now later earlier x is v =
      let x_in : IsIn x all = subst (λ (xs : List Fragment). IsIn x xs) (sym is) (in_right x later (x ∷ earlier) (inl refl)) in
      let j = number_of num x in
      let flow = uplink_flow_of c antenna ps in
      let copied = copy (uplink_bounds_of c) flow (sounds c lines source antenna down up h) all (delivered c lines source antenna down up h) x x_in in
      let a = here c lines h.sendable.config h.sendable.lines_fit h.sendable.valid h.check antenna x.ep j copied.below in
      let once = whole_once c lines source antenna down up h x.ep j copied.below in
      let y = answered (standing_before hold x earlier) x in
      let there : IsIn y (answers hold num x.ep j all) = subst (λ (xs : List Fragment). IsIn y (answers hold num x.ep j xs)) (sym is) (answers_there hold num later earlier x) in
      let same : y ≡ once.whole = the_whole (uplink_bounds_of c) (flow x.ep) j (of_message num x.ep j all) (answers hold num x.ep j all) once y there v in
      let m = message (x ∷ standing_before hold x earlier) in
      let shows : once.whole.shows ≡ m = sym (ap (λ (z : Answered). z.shows) same) in
      let time = in_time c lines source antenna down up h x.ep j once.whole.shows.first once.whole.shows.last copied.below once.first_from once.last_from once.last_to in
      let s = is_decoded c lines source h.sendable antenna h.can x.ep a.e a.n a.at a.there m.first m.last in
      record {
        j = j;
        is_here = a;
        number = refl;
        first = m.first;
        last = m.last;
        sections = s.sections;
        are = s.are;
        is = λ e q. decoded_as x.ep j a m e s (ap (λ (z : WholeMessage). z.pieces) (sym shows) ∙ once.pieces) q;
        time = subst (λ (z : WholeMessage). InTime c lines source antenna down up h (start_of_part a.n.message.first) z.first z.last) shows
            (subst (λ t. InTime c lines source antenna down up h t once.whole.shows.first once.whole.shows.last)
            (starts_at c lines h.sendable.config h.sendable.lines_fit h.sendable.valid h.check antenna x.ep j a) time);
      }

  -- ---- on time

  -- a section that is on time, of this part
  pub record IsTimely (x : Part) (d : UserSection) : Type 0 where
    pub ep : ℕ
    pub e : EndpointConfig
    pub facts : PartFacts c.endpoints (planned c.endpoints lines) ep e x
    pub carries : IsUplinkDataFor (antenna_blocks c antenna) x d
    pub slot_is : data_slot d ≡ x.planned.line.slot
    pub class : data_class Du c.delays d ≡ OnTime

  slot_named : (x : Part) (d : UserSection) → IsUplinkDataFor (antenna_blocks c antenna) x d → absolute_frame d.head.frame_id d.last.0 ≡ x.planned.line.slot.frame → data_slot d ≡ x.planned.line.slot
  slot_named x d carries f = same_slot_fields (data_slot d) x.planned.line.slot f carries.subframe carries.slot

  start_named : (x : Part) (d : UserSection) → IsUplinkDataFor (antenna_blocks c antenna) x d → data_slot d ≡ x.planned.line.slot → data_start d ≡ start_of_part x
  start_named x d carries s =
      ap (λ (e : EndpointConfig). air_of e.numerology (data_slot d) d.section.symbol) carries.endpoint
      ∙ ap₂ (λ (t : Slot) (y : ℕ). air_of x.planned.endpoint.numerology t y) s carries.symbol

  -- a section of a part whose message was received in time
  timely_by : (ep : ℕ) (e : EndpointConfig) (x : Part) (d : UserSection) (first last : ℤ) → PartFacts c.endpoints ps ep e x → IsSectionOf (antenna_blocks c antenna) first last x d
      → InTime c lines source antenna down up h (start_of_part x) first last → IsTimely x d
  timely_by ep e x d first last facts s time =
      let g = facts.line in
      let soon = symbol_soon x.planned.endpoint.numerology x.planned.line.slot x.symbol (numerology_short x.planned.endpoint.numerology) (record { subframe = g.fits.subframe; slot = g.slot }) facts.below in
      let near = near_frame x.planned.line.slot.frame (start_of_part x) last c.delays.ta4.max soon.0 soon.1 time.begun time.in_window.soon_enough h.sendable.config.delays.ta4.high in
      let frame : absolute_frame d.head.frame_id last ≡ x.planned.line.slot.frame = frame_is d.head.frame_id last x.planned.line.slot.frame s.carries.frame_id near.0 near.1 in
      let slot = slot_named x d s.carries (ap (λ t. absolute_frame d.head.frame_id t) s.last_is ∙ frame) in
      record {
        ep = ep;
        e = e;
        facts = facts;
        carries = s.carries;
        slot_is = slot;
        class = ap (λ t. class_up_of d.first.0 d.last.0 t c.delays.ta4) (start_named x d s.carries slot)
            ∙ ap₂ (λ p q. class_up_of p q (start_of_part x) c.delays.ta4) s.first_is s.last_is
            ∙ (class_up_on_time first last (start_of_part x) c.delays.ta4).1 time.in_window;
      }

  timely_section : (x : Fragment) (earlier : List Fragment) (s : SaysNow x earlier) (part : Part) (d : UserSection) → IsIn part (parts_of s.is_here.n.message)
      → IsSectionOf (antenna_blocks c antenna) s.first s.last part d → IsTimely part d
  timely_section x earlier s part d i section =
      let a = s.is_here in
      timely_by x.ep a.e part d s.first s.last (message_facts c lines h.sendable.config h.sendable.lines_fit h.sendable.valid x.ep a.e a.n part a.at a.there i) section
      (subst (λ t. InTime c lines source antenna down up h t s.first s.last)
      (sym (same_start c lines h.sendable.config h.sendable.lines_fit h.sendable.valid x.ep a.e a.n part a.at a.there i)) s.time)

  -- ---- each section, and every part

  abbrev pub ds : List UserSection
  ds = data_sections Du (uplink_bounds_of c).hold (meetings Du c.endpoints up)

  pub each_timely : (d : UserSection) → IsIn d (data_sections Du (uplink_bounds_of c).hold (meetings Du c.endpoints up)) → (x : Part) × IsTimely x d
  each_timely d m =
      let t = told_in up (came c lines source antenna down up h) d m in
      let v = told_whole Du (verdict_on hold t.x t.earlier) t.e t.x (standing_before hold t.x t.earlier) d t.told in
      let s = says_now t.later t.earlier t.x t.is v.0 in
      let same = endpoints_equal c.endpoints t.x.ep t.x.ep t.e s.is_here.e t.at s.is_here.at refl in
      let parts = parts_of s.is_here.n.message in
      let got = section_from (antenna_blocks c antenna) s.first s.last (onto [] parts) s.sections d s.are (subst (λ (xs : List UserSection). IsIn d xs) (s.is t.e same) v.1) in
      let in_message : IsIn got.0 parts = elim (in_onto got.0 [] parts got.1) [ inl none ↦ absurd none | inr i ↦ i ] in
      (got.0, timely_section t.x t.earlier s got.0 d in_message got.2)

  some_same : (m n : Numbered Part) → Some m ≡ Some n → m ≡ n
  some_same m n e = cc

  -- each part of a message has its section
  part_sent : (ep j : ℕ) (a : Is ep j) (x : Part) → IsIn x (parts_of a.n.message) → (d : UserSection) × IsIn d ds × IsTimely x d
  part_sent ep j a x m =
      let below = below_at c lines h.sendable.config h.sendable.lines_fit h.sendable.valid h.check antenna ep j a in
      let once = whole_once c lines source antenna down up h ep j below in
      let o = answers_from hold num ep j all once.whole (whole_in (uplink_bounds_of c) (uplink_flow_of c antenna ps ep) j (of_message num ep j all) (answers hold num ep j all) once) in
      let v : verdict_on hold o.x o.earlier ≡ Whole = sym (ap (λ (z : Answered). z.was) o.answer) ∙ once.was in
      let s = says_now o.later o.earlier o.x o.is v in
      let ep_is : ep ≡ o.x.ep = sym o.ep_is in
      let j_is : j ≡ s.j = sym o.number ∙ s.number in
      let same_e = endpoints_equal c.endpoints ep o.x.ep a.e s.is_here.e a.at s.is_here.at ep_is in
      let got : slice_get (messages_of c ps UpData o.x.ep s.is_here.e) s.j ≡ Some a.n =
      subst (λ k. slice_get (messages_of c ps UpData o.x.ep s.is_here.e) k ≡ Some a.n) j_is
      (subst (λ (e : EndpointConfig). slice_get (messages_of c ps UpData o.x.ep e) j ≡ Some a.n) same_e
      (subst (λ k. slice_get (messages_of c ps UpData k a.e) j ≡ Some a.n) ep_is a.got)) in
      let same_n : a.n ≡ s.is_here.n = some_same a.n s.is_here.n (sym got ∙ s.is_here.got) in
      let in_message : IsIn x (parts_of s.is_here.n.message) = subst (λ (n : Numbered Part). IsIn x (parts_of n.message)) same_n m in
      let d = section_for (antenna_blocks c antenna) s.first s.last (onto [] (parts_of s.is_here.n.message)) s.sections x s.are (onto_right x [] (parts_of s.is_here.n.message) in_message) in
      let d_told = whole_told Du (verdict_on hold o.x o.earlier) s.is_here.e o.x (standing_before hold o.x o.earlier) d.0 v (subst (λ (xs : List UserSection). IsIn d.0 xs) (sym (s.is s.is_here.e refl)) d.1) in (
        d.0,
        told_there up (came c lines source antenna down up h) o.later o.earlier o.x s.is_here.e d.0 s.is_here.at o.is d_told,
        timely_section o.x o.earlier s x d.0 in_message d.2,
      )

  -- each uplink line has one in each of its symbols
  pub line_sent : (p : PlannedLine) (symbol : ℕ) → IsIn p (planned c.endpoints lines) → is_up_line p ≡ true → is_from p.line.symbol p.line.count symbol ≡ true
      → (d : UserSection) × IsIn d (data_sections Du (uplink_bounds_of c).hold (meetings Du c.endpoints up)) × IsTimely (part_in symbol p) d
  line_sent p symbol m uplink within =
      let w = line_part c lines h.sendable.config h.sendable.lines_fit h.sendable.valid p symbol m uplink within in
      let n = w.1 in
      line_by p.ep p.endpoint n.0 w.0 n.1 (part_in symbol p) n.2
    where
      line_by : (ep : ℕ) (e : EndpointConfig) (n : Numbered Part) (at : IsAt c.endpoints ep e) (there : IsIn n (messages_of c ps UpData ep e)) (x : Part) → IsIn x (parts_of n.message)
          → (d : UserSection) × IsIn d ds × IsTimely x d
      line_by ep e n at there x i =
          let a = here_of c lines source antenna down up h ep e n at there in
          part_sent ep n.number a x (subst (λ (k : Numbered Part). IsIn x (parts_of k.message)) (sym (here_message c lines source antenna down up h ep e n at there)) i)
