-- The lines of a plan at their endpoints, one after the other; those of a plan of which none is refused are at their places.
use Rattle.std.proofs.Common.{◌≡◌, ℕ, ◌+◌, ◌≤◌, List, [], ◌∷◌, ◌++◌, length, drop, Option, Some, refl, ap, sym, ◌∙◌, append-nil, append_assoc, suc, map, inl, inr, None, ap₂, arith, zero-add}
use Rattle.std.specs.List.{slice_get}
use Rattle.std.specs.Option.{option_to_list, option_map}
use Rattle.std.proofs.lemmas.List.{drop_all}
use Rattle.window_config.specs.declared.endpoints.EndpointConfig.{EndpointConfig}
use Rattle.window_config.specs.declared.plan.PlanLine.{PlanLine}
use Rattle.plan_model.specs.Lines.{planned_at, planned_from, line_allocation, planned, planned_with}
use Rattle.plan_model.specs.declared.lines.PlannedLine.{PlannedLine}
use Rattle.schedule_laws.proofs.PlacedLemmas.{drop_at, index_is, index_or}
use Rattle.std.proofs.lemmas.Option.{slice_get-map, slice_get_past}
use Rattle.window_config.specs.declared.config.Config.{Config}
use Rattle.fh_base.specs.Lists.{or_else}
use Rattle.unit_model.specs.Meetings.{find_endpoint}
use Rattle.unit_model.specs.declared.allocations.Allocation.{Allocation}
use Rattle.unit_model.proofs.CountLemmas.{no_time}
use Rattle.plan_model.specs.Dense.{dense}
use Rattle.plan_model.specs.Valid.{IsValid, dense_refused}
use Rattle.plan_model.specs.Validity.{first_refused, refused_at, refused_from, why_found, why_planned, with_line}
use Rattle.plan_model.specs.declared.dense.Dense.{Dense}
use Rattle.plan_model.specs.declared.refusals.PlanWhy.{PlanWhy}
use Rattle.fh_base.specs.Members.{IsIn}

-- ---- one after the other

-- the lines so far, and those to follow, are all
abbrev pub Goes : List EndpointConfig → ℕ → List PlanLine → List PlannedLine → Type 0
Goes es k lines so_far = so_far ++ planned_from es k (drop k lines) ≡ planned_from es 0 lines

next_lines : (es : List EndpointConfig) (k : ℕ) (line : PlanLine) (lines : List PlanLine) → planned_from es k (line ∷ lines) ≡ option_to_list (planned_at es k line) ++ planned_from es (k + 1) lines
unfolding planned_from
next_lines es k line lines = refl

no_lines : (es : List EndpointConfig) (k : ℕ) → planned_from es k [] ≡ []
unfolding planned_from
no_lines es k = refl

pub goes_on : (es : List EndpointConfig) (k : ℕ) (lines : List PlanLine) (line : PlanLine) (so_far : List PlannedLine) (o : Option PlannedLine) → Goes es k lines so_far
    → slice_get lines k ≡ Some line → o ≡ planned_at es k line → Goes es (k + 1) lines (so_far ++ option_to_list o)
goes_on es k lines line so_far o goes at is =
    append_assoc so_far (option_to_list o) (planned_from es (k + 1) (drop (k + 1) lines))
    ∙ ap (λ (x : Option PlannedLine). so_far ++ (option_to_list x ++ planned_from es (k + 1) (drop (k + 1) lines))) is
    ∙ ap (λ (ps : List PlannedLine). so_far ++ ps) (sym (next_lines es k line (drop (k + 1) lines)))
    ∙ ap (λ (ls : List PlanLine). so_far ++ planned_from es k ls) (sym (drop_at k lines line at))
    ∙ goes

pub goes_all : (es : List EndpointConfig) (k : ℕ) (lines : List PlanLine) (so_far : List PlannedLine) → Goes es k lines so_far → length lines ≤ k → so_far ≡ planned_from es 0 lines
goes_all es k lines so_far goes end =
    sym (append-nil so_far)
    ∙ ap (λ (ps : List PlannedLine). so_far ++ ps) (sym (no_lines es k))
    ∙ ap (λ (ls : List PlanLine). so_far ++ planned_from es k ls) (sym (drop_all k lines end))
    ∙ goes

-- ---- at their places

abbrev line_or : PlanLine → Option PlannedLine → PlanLine
line_or l None = l
line_or l (Some p) = p.line

line_is : (k : ℕ) (line : PlanLine) (o : Option (ℕ × EndpointConfig)) → line_or line (planned_with k line o) ≡ line
line_is k line None = refl
line_is k line (Some found) = refl

none_refused : (k : ℕ) (w : Option PlanWhy) (later : Option (ℕ × PlanWhy)) → refused_at k w later ≡ None → later ≡ None
none_refused k None later h = h
none_refused k (Some why) later h = absurd cc

-- a line at its place, where the first has the place k
pub record IsPlaceOf (p : PlannedLine) (k : ℕ) (ps : List PlannedLine) : Type 0 where
  pub i : ℕ
  pub index : p.index ≡ k + i
  pub at : slice_get ps i ≡ Some p

next_place : (k i : ℕ) → k + 1 + i ≡ k + suc i
next_place k i = omega arith

places : (es : List EndpointConfig) (earlier : List Allocation) (k : ℕ) (lines : List PlanLine) → refused_from es earlier k lines ≡ None → (p : PlannedLine) → IsIn p (planned_from es k lines)
    → IsPlaceOf p k (planned_from es k lines)
unfolding refused_from planned_from
places es earlier k [] h p m = absurd m
places es earlier k (line ∷ lines) h p m = go (planned_at es k line) (index_is k line (find_endpoint es line.id)) h (λ q g. places es (line_allocation q ∷ earlier) (k + 1) lines g p) m
  where
    go : (o : Option PlannedLine) → index_or k o ≡ k → refused_at k (why_found earlier o) (refused_from es (with_line o earlier) (k + 1) lines) ≡ None
        → ((q : PlannedLine) → refused_from es (line_allocation q ∷ earlier) (k + 1) lines ≡ None → IsIn p (planned_from es (k + 1) lines) → IsPlaceOf p (k + 1) (planned_from es (k + 1) lines))
        → IsIn p (option_to_list o ++ planned_from es (k + 1) lines) → IsPlaceOf p k (option_to_list o ++ planned_from es (k + 1) lines)
    go None e g rest i = absurd cc
    go (Some q) e g rest i = elim i [
      | inl same ↦ record { i = 0; index = ap (λ (x : PlannedLine). x.index) same ∙ e ∙ no_time k; at = ap (λ (x : PlannedLine). Some x) (sym same) }
      | inr t ↦ (let r = rest q (none_refused k (why_planned earlier q) (refused_from es (line_allocation q ∷ earlier) (k + 1) lines) g) t in
          record { i = suc r.i; index = r.index ∙ next_place k r.i; at = r.at })
    ]

-- and they are all the lines
kept : (es : List EndpointConfig) (earlier : List Allocation) (k : ℕ) (lines : List PlanLine) → refused_from es earlier k lines ≡ None → map (λ p. p.line) (planned_from es k lines) ≡ lines
unfolding refused_from planned_from
kept es earlier k [] h = refl
kept es earlier k (line ∷ lines) h = go (planned_at es k line) (line_is k line (find_endpoint es line.id)) h (λ q. kept es (line_allocation q ∷ earlier) (k + 1) lines)
  where
    go : (o : Option PlannedLine) → line_or line o ≡ line → refused_at k (why_found earlier o) (refused_from es (with_line o earlier) (k + 1) lines) ≡ None
        → ((q : PlannedLine) → refused_from es (line_allocation q ∷ earlier) (k + 1) lines ≡ None → map (λ p. p.line) (planned_from es (k + 1) lines) ≡ lines)
        → map (λ p. p.line) (option_to_list o ++ planned_from es (k + 1) lines) ≡ line ∷ lines
    go None e g rest = absurd cc
    go (Some q) e g rest = ap₂ (λ (l : PlanLine) (ls : List PlanLine). l ∷ ls) e (rest q (none_refused k (why_planned earlier q) (refused_from es (line_allocation q ∷ earlier) (k + 1) lines) g))

no_else : (x : Option (ℕ × PlanWhy)) (d : Option Dense) → or_else x (dense_refused d) ≡ None → x ≡ None
no_else (Some w) d h = absurd cc
no_else None d h = refl

none_first : (c : Config) (lines : List PlanLine) → IsValid c lines → first_refused c.endpoints lines ≡ None
none_first c lines valid = no_else (first_refused c.endpoints lines) (dense c (planned c.endpoints lines)) valid

pub line_place : (c : Config) (lines : List PlanLine) → IsValid c lines → (p : PlannedLine) → IsIn p (planned c.endpoints lines) → slice_get (planned c.endpoints lines) p.index ≡ Some p
line_place c lines valid p m =
    let r = places c.endpoints [] 0 lines (none_first c lines valid) p m in
    let here : p.index ≡ r.i = r.index ∙ zero-add r.i in
    ap (λ i. slice_get (planned c.endpoints lines) i) here ∙ r.at

pub lines_kept : (c : Config) (lines : List PlanLine) → IsValid c lines → map (λ p. p.line) (planned c.endpoints lines) ≡ lines
lines_kept c lines valid = kept c.endpoints [] 0 lines (none_first c lines valid)

-- the line of what is there
line_of_place : (ps : List PlannedLine) (k : ℕ) (o : Option PlannedLine) → slice_get ps k ≡ o → slice_get (map (λ (q : PlannedLine). q.line) ps) k ≡ option_map (λ (q : PlannedLine). q.line) o
line_of_place ps k o at = slice_get-map (λ (q : PlannedLine). q.line) ps k ∙ ap (option_map (λ (q : PlannedLine). q.line)) at

-- what is at a place of the lines
pub line_here : (c : Config) (lines : List PlanLine) (ps : List PlannedLine) (k : ℕ) (p : PlannedLine) → IsValid c lines → ps ≡ planned c.endpoints lines → slice_get ps k ≡ Some p → Some p.line ≡ slice_get lines k
line_here c lines ps k p valid is at =
    sym (line_of_place ps k (Some p) at) ∙ ap (λ (qs : List PlannedLine). slice_get (map (λ (q : PlannedLine). q.line) qs) k) is ∙ ap (λ (ls : List PlanLine). slice_get ls k) (lines_kept c lines valid)

pub no_line : (c : Config) (lines : List PlanLine) (ps : List PlannedLine) (k : ℕ) → IsValid c lines → ps ≡ planned c.endpoints lines → length ps ≤ k → None ≡ slice_get lines k
no_line c lines ps k valid is past =
    sym (line_of_place ps k None (slice_get_past ps k past)) ∙ ap (λ (qs : List PlannedLine). slice_get (map (λ (q : PlannedLine). q.line) qs) k) is ∙ ap (λ (ls : List PlanLine). slice_get ls k) (lines_kept c lines valid)
