-- One arrival more in a tally.
use Rattle.std.proofs.Common.{◌≡◌, ℕ, ℤ, ◌+◌, ◌<◌, ◌≤◌, Bool, true, false, cond, if◌then◌else◌, List, [], ◌∷◌, ◌++◌, length, get_or, Option, None, Some, IfSome, refl, sym, ap, subst, ◌∙◌, arith, append_assoc, append-nil}
use Rattle.std.specs.List.{count_by, flat_map}
use Rattle.std.proofs.Math.ListN.{set}
use Rattle.std.proofs.lemmas.List.Concat.{flat_map-append}
use Rattle.std.proofs.lemmas.List.Sums.{count_by-le-length, fold-append}
use Rattle.pictures.specs.declared.arrivals.Arrival.{Arrival}
use Rattle.pictures.specs.declared.arrivals.Kind.{Kind}
use Rattle.pictures.specs.declared.arrivals.Kind.TheVariants.{OnTime, Late, Early}
use Rattle.pictures.specs.declared.tallies.Counts.{Counts}
use Rattle.pictures.specs.declared.tallies.TheConstants.{COLUMNS}
use Rattle.pictures.specs.Counts.{Mark, IsBelow, is_on_time, is_late, is_early, no_counts, counted, mark_at, last_marks, marks_of, columns_of}
use Rattle.pictures.specs.Tallies.{Tally, sections_of, lesser, least_of, tally_of, marked, marked_last, marked_both, measured}
use Rattle.pictures.proofs.Counting.{columns_below, columns_length, columns_more, count_more, counts_eq, marks_few, plus_none}

-- ---- of a tally

pub tally_length : (came : List Arrival) (t : Tally) → t ≡ tally_of came → length t.columns ≡ 1041
unfolding tally_of
tally_length came t is = ap (λ x. length x.columns) is ∙ columns_length COLUMNS (flat_map marks_of came)

pub tally_below : (came : List Arrival) (t : Tally) (c : ℕ) → t ≡ tally_of came → length came < 500000000 → IsBelow 1000000000 (get_or t.columns c no_counts)
unfolding tally_of
tally_below came t c is small =
    subst (λ (x : Tally). IsBelow 1000000000 (get_or x.columns c no_counts)) (sym is) (columns_below COLUMNS (flat_map marks_of came) c 1000000000 (omega (arith, marks_few came)))

pub sections_below : (came : List Arrival) (t : Tally) → t ≡ tally_of came → length came < 500000000 → IsBelow 2000000000 t.sections
unfolding tally_of
sections_below came t is small =
    subst (λ (x : Tally). IsBelow 2000000000 x.sections) (sym is)
    (record {
      on_time = omega (arith, count_by-le-length (λ (a : Arrival). is_on_time a.kind) came);
      late = omega (arith, count_by-le-length (λ (a : Arrival). is_late a.kind) came);
      early = omega (arith, count_by-le-length (λ (a : Arrival). is_early a.kind) came);
    })

one_section : (test : Kind → Bool) (came : List Arrival) (a : Arrival) (kind : Kind) → a.kind ≡ kind
    → count_by (λ (x : Arrival). test x.kind) (came ++ a ∷ []) ≡ count_by (λ (x : Arrival). test x.kind) came + cond (test kind) 1 0
one_section test came a kind is = count_more (λ (x : Arrival). test x.kind) came a ∙ ap (λ k. count_by (λ (x : Arrival). test x.kind) came + cond (test k) 1 0) is

sections_at : (kind : Kind) (came : List Arrival) (a : Arrival) → a.kind ≡ kind → sections_of (came ++ a ∷ []) ≡ counted kind (sections_of came)
sections_at OnTime came a is =
    counts_eq _ _ _ _ _ _ (one_section is_on_time came a OnTime is) (plus_none _ _ (one_section is_late came a OnTime is)) (plus_none _ _ (one_section is_early came a OnTime is))
sections_at Late came a is =
    counts_eq _ _ _ _ _ _ (plus_none _ _ (one_section is_on_time came a Late is)) (one_section is_late came a Late is) (plus_none _ _ (one_section is_early came a Late is))
sections_at Early came a is =
    counts_eq _ _ _ _ _ _ (plus_none _ _ (one_section is_on_time came a Early is)) (plus_none _ _ (one_section is_late came a Early is)) (one_section is_early came a Early is)

least_more : (f : Arrival → ℤ) (came : List Arrival) (a : Arrival) → least_of f (came ++ a ∷ []) ≡ (if is_on_time a.kind then lesser (least_of f came) (f a) else least_of f came)
least_more f came a = fold-append (λ least x. if is_on_time x.kind then lesser least (f x) else least) None came (a ∷ [])

-- the columns of one mark, or two
columns_last : (n : ℕ) (ms : List Mark) (kind : Kind) (last : Option ℕ) (t : Tally) → t.columns ≡ columns_of n ms → (marked_last t kind last).columns ≡ columns_of n (ms ++ last_marks kind last)
columns_last n ms kind None t is = is ∙ ap (columns_of n) (sym (append-nil ms))
columns_last n ms kind (Some c) t is = ap (λ xs. set xs c (counted kind (get_or xs c no_counts))) is ∙ sym (columns_more n ms kind c)

columns_both : (n : ℕ) (ms : List Mark) (a : Arrival) (t : Tally) → t.columns ≡ columns_of n ms → (marked_both t a).columns ≡ columns_of n (ms ++ marks_of a)
columns_both n ms a t is =
    columns_last n (ms ++ mark_at a.kind a.first ∷ []) a.kind a.last (marked t a.first a.kind)
    (ap (λ xs. set xs a.first (counted a.kind (get_or xs a.first no_counts))) is ∙ sym (columns_more n ms a.kind a.first))
    ∙ ap (columns_of n) (append_assoc ms (mark_at a.kind a.first ∷ []) (last_marks a.kind a.last))

-- the marks of one arrival more
marks_more : (came : List Arrival) (a : Arrival) → flat_map marks_of (came ++ a ∷ []) ≡ flat_map marks_of came ++ marks_of a
marks_more came a = flat_map-append marks_of came (a ∷ []) ∙ ap (λ ms. flat_map marks_of came ++ ms) (append-nil (marks_of a))

marked_rest : (t : Tally) (kind : Kind) (last : Option ℕ) → ((marked_last t kind last).since ≡ t.since) × ((marked_last t kind last).until ≡ t.until)
marked_rest t kind None = (refl, refl)
marked_rest t kind (Some c) = (refl, refl)

abbrev measured_by : Bool → Tally → Arrival → Tally
measured_by b t a = if b then record t { since = lesser t.since a.margins.since; until = lesser t.until a.margins.until } else t

-- with its margins, where it is on time
margins_more : (b : Bool) (t : Tally) (a : Arrival)
    → ((measured_by b t a).columns ≡ t.columns) × ((measured_by b t a).sections ≡ t.sections)
    × ((measured_by b t a).since ≡ (if b then lesser t.since a.margins.since else t.since)) × ((measured_by b t a).until ≡ (if b then lesser t.until a.margins.until else t.until))
margins_more true t a = (refl, refl, refl, refl)
margins_more false t a = (refl, refl, refl, refl)

tally_eq : (a : List Counts) (b : Counts) (c d : Option ℤ) (x : List Counts) (y : Counts) (z w : Option ℤ) → a ≡ x → b ≡ y → c ≡ z → d ≡ w
    → (let one : Tally = record { columns = a; sections = b; since = c; until = d } in one) ≡ (let other : Tally = record { columns = x; sections = y; since = z; until = w } in other)
tally_eq a b c d x y z w p q r s = cc

pub same_sections : (t : Tally) (kind : Kind) (last : Option ℕ) → (marked_last t kind last).sections ≡ t.sections
same_sections t kind None = refl
same_sections t kind (Some c) = refl

-- a tally with other sections, by its parts
pub tally_parts : (a : List Counts) (b : Counts) (c d : Option ℤ) (t : Tally) (k : Counts) → a ≡ t.columns → b ≡ k → c ≡ t.since → d ≡ t.until
    → (let one : Tally = record { columns = a; sections = b; since = c; until = d } in one) ≡ record t { sections = k }
tally_parts a b c d t k p q r w = tally_eq a b c d _ _ _ _ p q r w

pub last_within : (last : Option ℕ) (n : ℕ) → n ≡ 1041 → IfSome last (λ c. c ≤ 1040) → IfSome last (λ c. c < n)
last_within None n is h = tt
last_within (Some c) n is h = omega (arith, is, h)

-- an arrival is counted
pub tally_more : (came : List Arrival) (a : Arrival) (t new : Tally) → t ≡ tally_of came
    → new ≡ measured (record (marked_both t a) { sections = counted a.kind t.sections }) a → new ≡ tally_of (came ++ a ∷ [])
unfolding tally_of
tally_more came a t new is more =
    let between : Tally = record (marked_both t a) { sections = counted a.kind t.sections } in
    let by = margins_more (is_on_time a.kind) between a in
    let rest = marked_rest (marked t a.first a.kind) a.kind a.last in
    more ∙ tally_eq _ _ _ _ _ _ _ _
    (by.0 ∙ columns_both COLUMNS (flat_map marks_of came) a t (ap (λ x. x.columns) is) ∙ ap (columns_of COLUMNS) (sym (marks_more came a)))
    (by.1 ∙ ap (λ x. counted a.kind x.sections) is ∙ sym (sections_at a.kind came a refl))
    (by.2 ∙ ap (λ z. if is_on_time a.kind then lesser z a.margins.since else z) (rest.0 ∙ ap (λ x. x.since) is) ∙ sym (least_more (λ (x : Arrival). x.margins.since) came a))
    (by.3 ∙ ap (λ z. if is_on_time a.kind then lesser z a.margins.until else z) (rest.1 ∙ ap (λ x. x.until) is) ∙ sym (least_more (λ (x : Arrival). x.margins.until) came a))
