-- The tests of lines by themselves, and those against earlier lines; lines that are at endpoints of a list.
use Rattle.std.proofs.Common.{◌≡◌, ℕ, zero, suc, ◌+◌, ◌≤◌, Bool, true, false, if◌then◌else◌, List, [], ◌∷◌, ◌++◌, length, map, drop, append_assoc, Option, Some, None, Result, Ok, Err, refl, ap, ap₂, sym, ◌∙◌, arith, ◌<◌, get_or, subst}
use Rattle.std.specs.Prelude.{slice_get, All}
use Rattle.std.proofs.lemmas.List.{append-nil, drop_all}
use Rattle.window_config.specs.declared.endpoints.EndpointConfig.{EndpointConfig}
use Rattle.window_config.specs.declared.plan.PlanLine.{PlanLine}
use Rattle.fh_base.specs.Lists.{or_else}
use Rattle.unit_model.specs.declared.allocations.Allocation.{Allocation}
use Rattle.unit_model.specs.Meetings.{find_endpoint}
use Rattle.plan_model.specs.Lines.{line_allocation, planned_with, planned_at, planned_from}
use Rattle.plan_model.specs.Validity.{is_out_of_range, why_claimed, why_found, refused_at, with_line, refused_from}
use Rattle.plan_model.specs.declared.lines.PlannedLine.{PlannedLine}
use Rattle.plan_model.specs.declared.refusals.PlanWhy.{PlanWhy}
use Rattle.plan_model.specs.declared.refusals.PlanWhy.TheVariants.{Range}
use Rattle.std.specs.Option.{option_to_list}
use Rattle.schedule_laws.specs.PlacedLines.{why_alone, placing, placed_on, placed_from, stopped_from, IsPlaced, HasEndpoint, ArePlaced}
use Rattle.schedule_laws.specs.SlotTests.{refused_along, numbered_lines, entry_of}
use Rattle.std.specs.List.{AllByRecursion}
use Rattle.std.proofs.lemmas.Option.{same_Some, get_or_from_slice_get}
use Rattle.window_config.specs.Plans.{IsPlanLine}
use Rattle.unit_model.specs.Proper.{IsAt}
use Rattle.window_config.specs.Endpoints.{IsEndpoint}
use Rattle.plan_model.proofs.ListLemmas.{endpoint_is}
use Rattle.unit_laws.proofs.FarLemmas.{endpoints_equal}
use Rattle.std.proofs.lemmas.List.Elements.{recursion_from_All}
use Rattle.fh_base.proofs.MemberLemmas.{all_in}
use Rattle.unit_model.proofs.EndpointLemmas.{found_at}

-- a line that is refused by itself is refused whatever is before it; else it goes by these
later_of : (k : ℕ) (w : Option PlanWhy) (x y : Option (ℕ × PlanWhy)) → or_else (refused_at k w x) y ≡ refused_at k w (or_else x y)
later_of k None x y = refl
later_of k (Some why) x y = refl

pub refused_apart : (es : List EndpointConfig) (earlier : List Allocation) (k : ℕ) (lines : List PlanLine)
    → refused_from es earlier k lines ≡ or_else (refused_along why_claimed earlier k (map line_allocation (placed_from es k lines))) (stopped_from es k lines)
unfolding refused_from refused_along placed_from stopped_from
refused_apart es earlier k [] = refl
refused_apart es earlier k (line ∷ lines) = go (planned_at es k line) (λ p. refused_apart es (line_allocation p ∷ earlier) (k + 1) lines)
  where
    Later : PlannedLine → Type 0
    Later p = refused_from es (line_allocation p ∷ earlier) (k + 1) lines
        ≡ or_else (refused_along why_claimed (line_allocation p ∷ earlier) (k + 1) (map line_allocation (placed_from es (k + 1) lines))) (stopped_from es (k + 1) lines)

    ranged : (p : PlannedLine) (t : Bool) → Later p
        → refused_at k (let w : Option PlanWhy = if t then Some Range else why_claimed earlier (line_allocation p) in w) (refused_from es (line_allocation p ∷ earlier) (k + 1) lines)
        ≡ or_else (refused_along why_claimed earlier k (map line_allocation (let ps : List PlannedLine = if t then [] else p ∷ placed_from es (k + 1) lines in ps)))
        (refused_at k (let w : Option PlanWhy = if t then Some Range else None in w) (stopped_from es (k + 1) lines))
    ranged p true h = refl
    ranged p false h =
        ap (refused_at k (why_claimed earlier (line_allocation p))) h
        ∙ sym (later_of k (why_claimed earlier (line_allocation p)) _ _)

    go : (o : Option PlannedLine) → ((p : PlannedLine) → Later p)
        → refused_at k (why_found earlier o) (refused_from es (with_line o earlier) (k + 1) lines)
        ≡ or_else (refused_along why_claimed earlier k (map line_allocation (placed_on o (placed_from es (k + 1) lines)))) (refused_at k (why_alone o) (stopped_from es (k + 1) lines))
    go None h = refl
    go (Some p) h = ranged p (is_out_of_range p.endpoint p.line) (h p)

-- the numbers of placed lines are their places
abbrev pub index_or : ℕ → Option PlannedLine → ℕ
index_or k None = k
index_or k (Some p) = p.index

pub index_is : (k : ℕ) (line : PlanLine) (o : Option (ℕ × EndpointConfig)) → index_or k (planned_with k line o) ≡ k
index_is k line None = refl
index_is k line (Some found) = refl

pub placed_numbered : (es : List EndpointConfig) (k : ℕ) (lines : List PlanLine)
    → map entry_of (placed_from es k lines) ≡ numbered_lines k (map line_allocation (placed_from es k lines))
unfolding placed_from numbered_lines
placed_numbered es k [] = refl
placed_numbered es k (line ∷ lines) = go (planned_at es k line) (index_is k line (find_endpoint es line.id)) (placed_numbered es (k + 1) lines)
  where
    Later : Type 0
    Later = map entry_of (placed_from es (k + 1) lines) ≡ numbered_lines (k + 1) (map line_allocation (placed_from es (k + 1) lines))

    ranged : (p : PlannedLine) (t : Bool) → p.index ≡ k → Later
        → map entry_of (let ps : List PlannedLine = if t then [] else p ∷ placed_from es (k + 1) lines in ps)
        ≡ numbered_lines k (map line_allocation (let ps : List PlannedLine = if t then [] else p ∷ placed_from es (k + 1) lines in ps))
    ranged p true e h = refl
    ranged p false e h = ap₂ (λ (i : ℕ) (xs : List (ℕ × Allocation)). (i, line_allocation p) ∷ xs) e h

    go : (o : Option PlannedLine) → index_or k o ≡ k → Later
        → map entry_of (placed_on o (placed_from es (k + 1) lines)) ≡ numbered_lines k (map line_allocation (placed_on o (placed_from es (k + 1) lines)))
    go None e h = refl
    go (Some p) e h = ranged p (is_out_of_range p.endpoint p.line) e h

-- where no line stops them, all are placed
pub placed_all : (es : List EndpointConfig) (k : ℕ) (lines : List PlanLine) → stopped_from es k lines ≡ None → placed_from es k lines ≡ planned_from es k lines
unfolding placed_from stopped_from planned_from
placed_all es k [] h = refl
placed_all es k (line ∷ lines) h = go (planned_at es k line) (placed_all es (k + 1) lines) h
  where
    Later : Type 0
    Later = stopped_from es (k + 1) lines ≡ None → placed_from es (k + 1) lines ≡ planned_from es (k + 1) lines

    open_one : (p : PlannedLine) (t : Bool) → Later
        → refused_at k (let w : Option PlanWhy = if t then Some Range else None in w) (stopped_from es (k + 1) lines) ≡ None
        → (let ps : List PlannedLine = if t then [] else p ∷ placed_from es (k + 1) lines in ps) ≡ p ∷ planned_from es (k + 1) lines
    open_one p true h g = cc
    open_one p false h g = ap (λ (xs : List PlannedLine). p ∷ xs) (h g)

    go : (o : Option PlannedLine) → Later → refused_at k (why_alone o) (stopped_from es (k + 1) lines) ≡ None
        → placed_on o (placed_from es (k + 1) lines) ≡ option_to_list o ++ planned_from es (k + 1) lines
    go None h g = cc
    go (Some p) h g = open_one p (is_out_of_range p.endpoint p.line) h g

-- ---- line by line

pub drop_at : {X : Type 0} (k : ℕ) (xs : List X) (x : X) → slice_get xs k ≡ Some x → drop k xs ≡ x ∷ drop (k + 1) xs
drop_at k [] x h = cc
drop_at zero (y ∷ ys) x h = cc
drop_at (suc k) (y ∷ ys) x h =
    let e : suc (k + 1) ≡ suc k + 1 = omega arith in
    drop_at k ys x h ∙ ap (λ (n : ℕ). x ∷ drop n (y ∷ ys)) e

placing_ok : (o : Option PlannedLine) (p : PlannedLine) → placing o ≡ Ok p → (later : List PlannedLine) → placed_on o later ≡ p ∷ later
placing_ok None p h later = cc
placing_ok (Some q) p h later = go (is_out_of_range q.endpoint q.line) h
  where
    go : (t : Bool) → (let r : Result PlannedLine PlanWhy = if t then Err Range else Ok q in r) ≡ Ok p → (let ps : List PlannedLine = if t then [] else q ∷ later in ps) ≡ p ∷ later
    go true g = cc
    go false g = cc

alone_ok : (o : Option PlannedLine) (p : PlannedLine) → placing o ≡ Ok p → why_alone o ≡ None
alone_ok None p h = cc
alone_ok (Some q) p h = go (is_out_of_range q.endpoint q.line) h
  where
    go : (t : Bool) → (let r : Result PlannedLine PlanWhy = if t then Err Range else Ok q in r) ≡ Ok p → (let w : Option PlanWhy = if t then Some Range else None in w) ≡ None
    go true g = cc
    go false g = refl

placing_err : (o : Option PlannedLine) (why : PlanWhy) → placing o ≡ Err why → (later : List PlannedLine) → placed_on o later ≡ []
placing_err None why h later = refl
placing_err (Some q) why h later = go (is_out_of_range q.endpoint q.line) h
  where
    go : (t : Bool) → (let r : Result PlannedLine PlanWhy = if t then Err Range else Ok q in r) ≡ Err why → (let ps : List PlannedLine = if t then [] else q ∷ later in ps) ≡ []
    go true g = refl
    go false g = cc

alone_err : (o : Option PlannedLine) (why : PlanWhy) → placing o ≡ Err why → why_alone o ≡ Some why
alone_err None why h = cc
alone_err (Some q) why h = go (is_out_of_range q.endpoint q.line) h
  where
    go : (t : Bool) → (let r : Result PlannedLine PlanWhy = if t then Err Range else Ok q in r) ≡ Err why → (let w : Option PlanWhy = if t then Some Range else None in w) ≡ Some why
    go true g = cc
    go false g = cc

-- a line that is placed, and the line that stops them
pub record Goes (es : List EndpointConfig) (k : ℕ) (lines : List PlanLine) (p : PlannedLine) : Type 0 where
  pub placed : placed_from es k (drop k lines) ≡ p ∷ placed_from es (k + 1) (drop (k + 1) lines)
  pub stopped : stopped_from es k (drop k lines) ≡ stopped_from es (k + 1) (drop (k + 1) lines)

pub goes_on : (es : List EndpointConfig) (k : ℕ) (lines : List PlanLine) (line : PlanLine) (p : PlannedLine) → slice_get lines k ≡ Some line
    → placing (planned_at es k line) ≡ Ok p → Goes es k lines p
unfolding placed_from stopped_from
goes_on es k lines line p at is = record {
  placed = ap (placed_from es k) (drop_at k lines line at) ∙ placing_ok (planned_at es k line) p is (placed_from es (k + 1) (drop (k + 1) lines));
  stopped = ap (stopped_from es k) (drop_at k lines line at)
      ∙ ap (λ (w : Option PlanWhy). refused_at k w (stopped_from es (k + 1) (drop (k + 1) lines))) (alone_ok (planned_at es k line) p is);
}

pub record Stops (es : List EndpointConfig) (k : ℕ) (lines : List PlanLine) (stop : Option (ℕ × PlanWhy)) : Type 0 where
  pub placed : placed_from es k (drop k lines) ≡ []
  pub stopped : stopped_from es k (drop k lines) ≡ stop

pub stops_at : (es : List EndpointConfig) (k : ℕ) (lines : List PlanLine) (line : PlanLine) (why : PlanWhy) → slice_get lines k ≡ Some line
    → placing (planned_at es k line) ≡ Err why → Stops es k lines (Some (k, why))
unfolding placed_from stopped_from
stops_at es k lines line why at is = record {
  placed = ap (placed_from es k) (drop_at k lines line at) ∙ placing_err (planned_at es k line) why is (placed_from es (k + 1) (drop (k + 1) lines));
  stopped = ap (stopped_from es k) (drop_at k lines line at)
      ∙ ap (λ (w : Option PlanWhy). refused_at k w (stopped_from es (k + 1) (drop (k + 1) lines))) (alone_err (planned_at es k line) why is);
}

pub ends_at : (es : List EndpointConfig) (k : ℕ) (lines : List PlanLine) → length lines ≤ k → Stops es k lines None
unfolding placed_from stopped_from
ends_at es k lines h = record { placed = ap (placed_from es k) (drop_all k lines h); stopped = ap (stopped_from es k) (drop_all k lines h) }

-- what is placed so far, and what follows
pub record Follows (es : List EndpointConfig) (k : ℕ) (lines : List PlanLine) (so_far : List PlannedLine) : Type 0 where
  pub placed : so_far ++ placed_from es k (drop k lines) ≡ placed_from es 0 lines
  pub stopped : stopped_from es k (drop k lines) ≡ stopped_from es 0 lines

pub follows_more : (es : List EndpointConfig) (k : ℕ) (lines : List PlanLine) (placed new : List PlannedLine) (line : PlanLine) (p : PlannedLine) → Follows es k lines placed
    → slice_get lines k ≡ Some line → placing (planned_at es k line) ≡ Ok p → new ≡ placed ++ p ∷ [] → Follows es (k + 1) lines new
follows_more es k lines placed new line p f at is new_is =
    let g = goes_on es k lines line p at is in
    record {
      placed = ap (λ (xs : List PlannedLine). xs ++ placed_from es (k + 1) (drop (k + 1) lines)) new_is
          ∙ append_assoc placed (p ∷ []) (placed_from es (k + 1) (drop (k + 1) lines)) ∙ ap (λ (xs : List PlannedLine). placed ++ xs) (sym g.placed) ∙ f.placed;
      stopped = sym g.stopped ∙ f.stopped;
    }

pub record Placing (es : List EndpointConfig) (lines : List PlanLine) (all : List PlannedLine) (last : Option (ℕ × PlanWhy)) : Type 0 where
  pub placed : all ≡ placed_from es 0 lines
  pub stop : last ≡ stopped_from es 0 lines

pub placed_whole : (es : List EndpointConfig) (k : ℕ) (lines : List PlanLine) (placed : List PlannedLine) (stop : Option (ℕ × PlanWhy)) → Follows es k lines placed → Stops es k lines stop
    → Placing es lines placed stop
placed_whole es k lines placed stop f s = record {
  placed = sym (append-nil placed) ∙ ap (λ (xs : List PlannedLine). placed ++ xs) (sym s.placed) ∙ f.placed;
  stop = sym s.stopped ∙ f.stopped;
}

pub follows_start : (es : List EndpointConfig) (lines : List PlanLine) (placed : List PlannedLine) → placed ≡ [] → Follows es 0 lines placed
follows_start es lines placed none = record { placed = ap (λ (xs : List PlannedLine). xs ++ placed_from es 0 lines) none; stopped = refl }

-- ---- the lines that are placed

planned_is : (es : List EndpointConfig) (k : ℕ) (line : PlanLine) (p : PlannedLine) → planned_at es k line ≡ Some p → IsAt es p.ep p.endpoint × (p.line ≡ line)
planned_is es k line p h = go (find_endpoint es line.id) refl h
  where
    go : (o : Option (ℕ × EndpointConfig)) → find_endpoint es line.id ≡ o → planned_with k line o ≡ Some p → IsAt es p.ep p.endpoint × (p.line ≡ line)
    go None e g = cc
    go (Some (ep, f)) e g =
        let is = same_Some (record { index = k; ep = ep; endpoint = f; line = line }) p g in
        (subst (λ (q : PlannedLine). IsAt es q.ep q.endpoint) is (found_at es line.id ep f e), sym (ap (λ (q : PlannedLine). q.line) is))

placed_each : (es : List EndpointConfig) (k : ℕ) (lines : List PlanLine) → AllByRecursion IsPlanLine lines → AllByRecursion (IsPlaced es) (placed_from es k lines)
unfolding placed_from
placed_each es k [] all = tt
placed_each es k (line ∷ lines) all = go (planned_at es k line) (λ p h. planned_is es k line p h) (placed_each es (k + 1) lines all.1)
  where
    ranged : (p : PlannedLine) (t : Bool) → is_out_of_range p.endpoint p.line ≡ t → IsAt es p.ep p.endpoint → p.line ≡ line → AllByRecursion (IsPlaced es) (placed_from es (k + 1) lines)
        → AllByRecursion (IsPlaced es) (let ps : List PlannedLine = if t then [] else p ∷ placed_from es (k + 1) lines in ps)
    ranged p true e at is rest = tt
    ranged p false e at is rest = (record { at = at; ranges = subst IsPlanLine (sym is) all.0; inside = e }, rest)

    go : (o : Option PlannedLine) → ((p : PlannedLine) → o ≡ Some p → IsAt es p.ep p.endpoint × (p.line ≡ line)) → AllByRecursion (IsPlaced es) (placed_from es (k + 1) lines)
        → AllByRecursion (IsPlaced es) (placed_on o (placed_from es (k + 1) lines))
    go None h rest = tt
    go (Some p) h rest = let r = h p refl in ranged p (is_out_of_range p.endpoint p.line) refl r.0 r.1 rest

pub placed_lines : (es : List EndpointConfig) (lines : List PlanLine) (placed : List PlannedLine) → All IsPlanLine lines → placed ≡ placed_from es 0 lines → AllByRecursion (IsPlaced es) placed
placed_lines es lines placed all is =
    subst (λ (ps : List PlannedLine). AllByRecursion (IsPlaced es) ps) (sym is) (placed_each es 0 lines (recursion_from_All IsPlanLine lines all))

-- ---- at endpoints

pub are_placed : (es : List EndpointConfig) (lines : List PlannedLine) → All IsEndpoint es → AllByRecursion (IsPlaced es) lines → ArePlaced lines
are_placed es lines ends all = record {
  endpoint = λ p m. endpoint_is es p.ep p.endpoint ends (all_in (IsPlaced es) lines p all m).at;
  same = λ p q m n e. endpoints_equal es p.ep q.ep p.endpoint q.endpoint (all_in (IsPlaced es) lines p all m).at (all_in (IsPlaced es) lines q all n).at e;
  ranges = λ p m. (all_in (IsPlaced es) lines p all m).ranges;
  inside = λ p m. (all_in (IsPlaced es) lines p all m).inside;
}

pub has_endpoint : (es : List EndpointConfig) (lines : List PlannedLine) (ep : ℕ) (d : EndpointConfig) → AllByRecursion (IsPlaced es) lines → HasEndpoint lines ep (get_or es ep d)
has_endpoint es lines ep d all = λ p m e.
    let is = all_in (IsPlaced es) lines p all m in
    sym (ap (λ (i : ℕ). get_or es i d) (sym e) ∙ get_or_from_slice_get es p.ep p.endpoint d is.at)

-- an endpoint, where there is one
pub some_of : (es : List EndpointConfig) (k : ℕ) → k < length es → EndpointConfig
some_of [] k below = absurd (omega (arith, below))
some_of (e ∷ es) k below = e
