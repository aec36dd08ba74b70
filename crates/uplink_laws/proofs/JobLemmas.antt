-- The uplink sections that are accepted of a plan's commands, and their jobs.
use Rattle.std.proofs.Common.{◌≡◌, ◌≢◌, ℕ, ◌⊎◌, inl, inr, Bool, true, false, not, ◌&&◌, if◌then◌else◌, List, [], ◌∷◌, ◌++◌, map, refl, ap, sym, ◌∙◌, subst, true≢false, append_assoc}
use Rattle.std.specs.Prelude.{filter, reverse, IsPermutation}
use Rattle.std.specs.List.{list_any}
use Rattle.std.proofs.lemmas.Bool.{and_parts, cases_Bool}
use Rattle.fh_base.specs.Air.{air_of}
use Rattle.fh_base.specs.declared.values.Slot.{Slot}
use Rattle.air_source.specs.declared.events.Side.TheVariants.{Ru}
use Rattle.window_config.specs.Relations.{PassesCheck}
use Rattle.window_config.specs.declared.config.Config.{Config}
use Rattle.window_config.specs.declared.endpoints.EndpointConfig.{EndpointConfig}
use Rattle.window_config.specs.declared.plan.PlanKind.{PlanKind}
use Rattle.window_config.specs.declared.plan.PlanKind.TheVariants.{Down, Up, Idle}
use Rattle.window_config.specs.declared.plan.PlanLine.{PlanLine}
use Rattle.unit_model.specs.Commands.{accepted, allocation_of as named_by, command_verdict, is_uplink as is_sent_up, with_accepted}
use Rattle.unit_model.specs.Meetings.{Arrival}
use Rattle.unit_model.specs.Radiated.{first_clock}
use Rattle.unit_model.specs.Reports.{accepted_of, commands_of}
use Rattle.unit_model.specs.Uplink.{jobs, sends_in, symbol_jobs}
use Rattle.unit_model.specs.declared.allocations.Allocation.{Allocation}
use Rattle.unit_model.specs.declared.decoded.ControlSection.{ControlSection}
use Rattle.unit_model.specs.declared.verdicts.CommandVerdict.{CommandVerdict}
use Rattle.unit_model.specs.declared.verdicts.CommandVerdict.TheVariants.{Accepted, Repeat}
use Rattle.unit_model.proofs.SweepLemmas.{sweep-same}
use Rattle.plan_model.specs.Lines.{line_allocation, is_down_kind, is_idle_kind, planned, uplink_allocations, is_up_line}
use Rattle.plan_model.specs.Validity.{clash}
use Rattle.plan_model.specs.declared.lines.PlannedLine.{PlannedLine}
use Rattle.plan_model.specs.declared.streams.Stream.{Stream}
use Rattle.plan_model.specs.declared.streams.Stream.TheVariants.{DownCommands, UpCommands, DownData, UpData}
use Rattle.schedule_laws.specs.Commands.{AreCommandedOnce}
use Rattle.plan_model.proofs.AcceptedLemmas.{AreDistinct, AreNamed}
use Rattle.plan_model.proofs.ScheduleClashLemmas.{own_clash}
use Rattle.schedule_laws.proofs.CommandLemmas.{commanded_by}
use Rattle.plan_model.proofs.LineLemmas.{are_one, good, line_proper}
use Rattle.plan_model.proofs.PlanLemmas.{AreTested, valid_tested, later_clear}
use Rattle.schedule_laws.proofs.ReadingLemmas.{IsCommandStream}
use Rattle.sent_frames.specs.Messages.{Source}
use Rattle.uplink_laws.specs.Frames.{texts_of}
use Rattle.uplink_laws.specs.Sent.{IsSendable}
use Rattle.uplink_laws.proofs.RadiatedLemmas.{copy_is}
use Rattle.uplink_laws.specs.Jobs.{AreJobsOfPlan, JobsAreOfPlan}
use Rattle.uplink_laws.specs.Premise.{CommandsArrive}
use Rattle.uplink_laws.proofs.MemberLemmas.{distinct_filter, distinct_reverse, in_reverse, of_reverse, same_members, split}
use Rattle.uplink_laws.proofs.SortLemmas.{sorted_same}
use Rattle.fh_base.specs.Members.{IsIn}
use Rattle.fh_base.proofs.MemberLemmas.{among, any_in, in_filter, in_right, of_filter}
use Rattle.fh_base.proofs.MadeLists.{in_map, of_map}

-- ---- no line twice

distinct_lines : (earlier : List Allocation) (ps : List PlannedLine) → AreTested earlier ps → ((p : PlannedLine) → IsIn p ps → clash (line_allocation p) (line_allocation p) ≡ true)
    → AreDistinct (map line_allocation ps)
distinct_lines earlier [] t own = tt
distinct_lines earlier (p ∷ ps) t own = (
  λ m.
      (let w = of_map line_allocation (line_allocation p) ps m in
      let none = later_clear (line_allocation p ∷ earlier) ps w.0 (line_allocation p) t.3 w.1 (inl refl) in
      true≢false (sym (own p (inl refl)) ∙ ap (λ (a : Allocation). clash a (line_allocation p)) w.2 ∙ none)),
  distinct_lines (line_allocation p ∷ earlier) ps t.3 (λ q m. own q (inr m)),
)

-- the uplink lines are some of them
distinct_some : (p : PlannedLine → Bool) (ps : List PlannedLine) → AreDistinct (map line_allocation ps) → AreDistinct (map line_allocation (filter p ps))
distinct_some p [] d = tt
distinct_some p (q ∷ ps) d = go (p q) (distinct_some p ps d.1)
  where
    go : (b : Bool) → AreDistinct (map line_allocation (filter p ps)) → AreDistinct (map line_allocation (if b then q ∷ filter p ps else filter p ps))
    go true rest = (
      λ m. (let w = of_map line_allocation (line_allocation q) (filter p ps) m in d.0 (subst (λ (a : Allocation). IsIn a (map line_allocation ps)) (sym w.2) (in_map line_allocation w.0 ps (of_filter p w.0 ps w.1).0))),
      rest,
    )
    go false rest = rest

-- ---- what an uplink line names is sent for

pub up_sent : (k : PlanKind) → not (is_down_kind k) ≡ true → (not (is_down_kind k) && not (is_idle_kind k)) ≡ true
up_sent Down h = absurd cc
up_sent Up h = refl
up_sent Idle h = absurd cc

pub in_uplink : (ps : List PlannedLine) (p : PlannedLine) → IsIn p ps → is_sent_up (line_allocation p) ≡ true → IsIn (line_allocation p) (uplink_allocations ps)
in_uplink ps p m is = in_map line_allocation p (filter is_up_line ps) (in_filter is_up_line p ps m (and_parts (not (is_down_kind p.line.kind)) (not (is_idle_kind p.line.kind)) is).0)

pub of_uplink : (ps : List PlannedLine) (a : Allocation) → IsIn a (uplink_allocations ps) → (p : PlannedLine) × IsIn p ps × (is_up_line p ≡ true) × (a ≡ line_allocation p)
of_uplink ps a m =
    let w = of_map line_allocation a (filter is_up_line ps) m in
    let f = of_filter is_up_line w.0 ps w.1 in
    (w.0, f.0, f.1, w.2)

-- ---- what was accepted

-- a command is not data
not_data : (stream : Stream) → IsCommandStream stream → stream ≢ DownData
not_data DownCommands h e = cc
not_data UpCommands h e = cc
not_data DownData h e = h
not_data UpData h e = h

module _ (c : Config) (lines : List PlanLine) (source : Source) (down : List Arrival) (s : IsSendable c lines source) (check : PassesCheck c.delays)
    (h : CommandsArrive c (planned c.endpoints lines) source down) where
  abbrev ps : List PlannedLine
  ps = planned c.endpoints lines

  abbrev cs : List ControlSection
  cs = commands_of Ru c down

  commanded : AreCommandedOnce c ps down
  commanded =
      commanded_by c lines (texts_of c ps source) down (record {
        config = s.config;
        lines_fit = s.lines_fit;
        valid = s.valid;
        check = check;
        came = λ a m. (let w = h.came a m in (w.0, w.1, copy_is c lines source s w.0 a w.1 w.2));
        every = λ f m stream. (let w = h.every f m (not_data f.stream stream) in (w.0, w.1, copy_is c lines source s f w.0 m w.2));
      })

  own : (p : PlannedLine) → IsIn p ps → clash (line_allocation p) (line_allocation p) ≡ true
  own p m = own_clash (line_allocation p) (line_proper c.endpoints p (good c lines s.config s.lines_fit s.valid p m))

  line_for : (d : ControlSection) → IsIn d cs → (p : PlannedLine) × IsIn p ps × (named_by d ≡ line_allocation p)
  line_for d m =
      let w = split d cs m in
      let a = commanded.answers w.before w.after d w.is in
      (a.line, a.planned_is, a.names)

  module _ (d : ControlSection) (earlier : List ControlSection) where
    again : command_verdict c.delays (accepted c.delays earlier) d ≡ Repeat → accepted c.delays (d ∷ earlier) ≡ accepted c.delays earlier
    unfolding accepted
    again e = ap (λ (v : CommandVerdict). with_accepted v (named_by d) (accepted c.delays earlier)) e

    new : command_verdict c.delays (accepted c.delays earlier) d ≡ Accepted → accepted c.delays (d ∷ earlier) ≡ named_by d ∷ accepted c.delays earlier
    unfolding accepted
    new e = ap (λ (v : CommandVerdict). with_accepted v (named_by d) (accepted c.delays earlier)) e

    abbrev Names : List Allocation → Type 0
    Names xs = ((x : Allocation) → IsIn x xs → (y : ControlSection) × IsIn y (d ∷ earlier) × (named_by y ≡ x)) × ((y : ControlSection) → IsIn y (d ∷ earlier) → IsIn (named_by y) xs) × AreDistinct xs

    names_repeat : AreNamed c.delays earlier → IsIn (named_by d) (accepted c.delays earlier) → Names (accepted c.delays earlier)
    names_repeat n there = (
      λ x m. (let w = n.from x m in (w.0, inr w.1, w.2)),
      λ y m. elim m [ inl here ↦ subst (λ (z : ControlSection). IsIn (named_by z) (accepted c.delays earlier)) (sym here) there | inr t ↦ n.all y t ],
      n.distinct,
    )

    names_new : AreNamed c.delays earlier → (IsIn (named_by d) (accepted c.delays earlier) → ⊥) → Names (named_by d ∷ accepted c.delays earlier)
    names_new n none = (
      λ x m. elim m [ inl here ↦ (d, inl refl, sym here) | inr t ↦ (let w = n.from x t in (w.0, inr w.1, w.2)) ],
      λ y m. elim m [ inl here ↦ inl (ap (λ (z : ControlSection). named_by z) here) | inr t ↦ inr (n.all y t) ],
      (none, n.distinct),
    )

    named_from : Names (accepted c.delays (d ∷ earlier)) → AreNamed c.delays (d ∷ earlier)
    named_from w = record { from = w.0; all = w.1; distinct = w.2 }

  -- what was accepted is what commands named, each once
  named : (later earlier : List ControlSection) → cs ≡ later ++ earlier → AreNamed c.delays earlier
  unfolding accepted
  named later [] e = record { from = λ a m. absurd m; all = λ d m. absurd m; distinct = tt }
  named later (d ∷ earlier) e =
      let n = named (later ++ d ∷ []) earlier (e ∙ sym (append_assoc later (d ∷ []) earlier)) in
      let a = commanded.answers later earlier d e in
      let within = λ (x : ControlSection) (m : IsIn x earlier). (let t : IsIn x cs = subst (λ (xs : List ControlSection). IsIn x xs) (sym e) (in_right x later (d ∷ earlier) (inr m)) in t) in
      go later earlier d n a.line a.planned_is a.names a.first a.further within (cases_Bool (list_any (clash (line_allocation a.line)) (accepted c.delays earlier)))
    where
      go : (later earlier : List ControlSection) (d : ControlSection) → AreNamed c.delays earlier → (p : PlannedLine) → IsIn p ps → named_by d ≡ line_allocation p
          → (((x : ControlSection) → IsIn x earlier → named_by x ≢ line_allocation p) → command_verdict c.delays (accepted c.delays earlier) d ≡ Accepted)
          → ((x : ControlSection) → IsIn x earlier → named_by x ≡ line_allocation p → command_verdict c.delays (accepted c.delays earlier) d ≡ Repeat)
          → ((x : ControlSection) → IsIn x earlier → IsIn x cs)
          → (list_any (clash (line_allocation p)) (accepted c.delays earlier) ≡ true) ⊎ (list_any (clash (line_allocation p)) (accepted c.delays earlier) ≡ false) → AreNamed c.delays (d ∷ earlier)
      go later earlier d n p m names first further within (inl is) =
          let k = among (clash (line_allocation p)) (accepted c.delays earlier) is in
          let x = n.from k.x k.there in
          let q = line_for x.0 (within x.0 x.1) in
          let one = are_one c lines s.config s.lines_fit s.valid p q.0 m q.1 (ap (λ (b : Allocation). clash (line_allocation p) b) (sym q.2 ∙ x.2) ∙ k.is) in
          let same : named_by x.0 ≡ line_allocation p = q.2 ∙ ap (λ (l : PlannedLine). line_allocation l) (sym one) in
          let there : IsIn (named_by d) (accepted c.delays earlier) = subst (λ (b : Allocation). IsIn b (accepted c.delays earlier)) (sym x.2 ∙ same ∙ sym names) k.there in
          named_from d earlier (subst (Names d earlier) (sym (again d earlier (further x.0 x.1 same))) (names_repeat d earlier n there))
      go later earlier d n p m names first further within (inr other) =
          let none : (b : Allocation) → IsIn b (accepted c.delays earlier) → b ≡ line_allocation p → ⊥ =
          λ b i e. true≢false (sym (any_in (clash (line_allocation p)) b (accepted c.delays earlier) i (ap (λ (z : Allocation). clash (line_allocation p) z) e ∙ own p m)) ∙ other) in
          named_from d earlier (subst (Names d earlier) (sym (new d earlier (first (λ x i e. none (named_by x) (n.all x i) e)))) (names_new d earlier n (λ i. none (named_by d) i names)))

  abbrev up : List Allocation
  up = accepted_of c down

  all_named : AreNamed c.delays cs
  all_named = named [] cs refl

  -- ---- the lines

  from_line : (a : Allocation) → IsIn a up → (p : PlannedLine) × IsIn p ps × (a ≡ line_allocation p)
  from_line a m =
      let x = all_named.from a m in
      let p = line_for x.0 x.1 in
      (p.0, p.1, sym x.2 ∙ p.2)

  line_accepted : (p : PlannedLine) → IsIn p ps → IsIn (line_allocation p) up
  line_accepted p m =
      let w = commanded.every p m in
      subst (λ (a : Allocation). IsIn a up) w.names (all_named.all w.command w.came)

  abbrev ls : List Allocation
  ls = map line_allocation ps

  lines_once : AreDistinct ls
  lines_once = distinct_lines [] ps (valid_tested c lines s.valid) own

  into_lines : (a : Allocation) → IsIn a up → IsIn a ls
  into_lines a m = let p = from_line a m in subst (λ (b : Allocation). IsIn b ls) (sym p.2) (in_map line_allocation p.0 ps p.1)

  from_lines : (a : Allocation) → IsIn a ls → IsIn a up
  from_lines a m = let p = of_map line_allocation a ps m in subst (λ (b : Allocation). IsIn b up) (sym p.2) (line_accepted p.0 p.1)

  accepted_lines : IsPermutation (uplink_allocations ps) (filter is_sent_up up)
  accepted_lines =
      same_members (uplink_allocations ps) (filter is_sent_up up) (distinct_some is_up_line ps lines_once) (distinct_filter is_sent_up up all_named.distinct)
      (λ a m.
      (let p = of_uplink ps a m in
      in_filter is_sent_up a up (subst (λ (b : Allocation). IsIn b up) (sym p.3) (line_accepted p.0 p.1)) (ap (λ (b : Allocation). is_sent_up b) p.3 ∙ up_sent p.0.line.kind p.2)))
      (λ a m.
      (let w = of_filter is_sent_up a up m in
      let p = from_line a w.0 in
      subst (λ (b : Allocation). IsIn b (uplink_allocations ps)) (sym p.2) (in_uplink ps p.0 p.1 (ap (λ (b : Allocation). is_sent_up b) (sym p.2) ∙ w.1))))

  -- ---- the jobs

  symbol_same : (ep : ℕ) (e : EndpointConfig) (slot : Slot) (symbol : ℕ) → symbol_jobs up ep e slot symbol ≡ symbol_jobs (reverse ls) ep e slot symbol
  unfolding symbol_jobs
  symbol_same ep e slot symbol =
      let test = sends_in ep slot symbol in
      let back = reverse ls in
      sorted_same ep (air_of e.numerology slot symbol) slot symbol (filter test (reverse up)) (filter test (reverse back))
      (distinct_filter test (reverse up) (distinct_reverse up all_named.distinct))
      (distinct_filter test (reverse back) (distinct_reverse back (distinct_reverse ls lines_once)))
      (λ a m.
      (let w = of_filter test a (reverse up) m in
      in_filter test a (reverse back) (in_reverse a back (in_reverse a ls (into_lines a (of_reverse a up w.0)))) w.1))
      (λ a m.
      (let w = of_filter test a (reverse back) m in
      in_filter test a (reverse up) (in_reverse a up (from_lines a (of_reverse a ls (of_reverse a back w.0)))) w.1))

  pub jobs_planned : AreJobsOfPlan c (planned c.endpoints lines) down
  unfolding jobs
  jobs_planned = record {
    accepted = accepted_lines;
    jobs_are = λ to. sweep-same (symbol_jobs up) (symbol_jobs (reverse ls)) c.endpoints first_clock _ (λ ep e slot symbol tick low high swept. symbol_same ep e slot symbol);
  }

pub jobs_are_of_plan : JobsAreOfPlan
jobs_are_of_plan = jobs_planned
