-- Spans that are told one after the other.
use Rattle.std.proofs.Common.{◌≡◌, ℕ, ◌+◌, ◌-◌, ◌*◌, ◌<◌, ◌≤◌, Bool, true, false, ◌||◌, List, [], ◌∷◌, ◌++◌, length, get_or, map, Option, Some, None, refl, sym, ap, ap₂, subst, ◌∙◌, arith, append_assoc, append-nil}
use Rattle.std.specs.List.{flat_map, list_any}
use Rattle.std.proofs.lemmas.Grind.{flat_map-append}
use Rattle.std.proofs.lemmas.List.{length-map, map-append}
use Rattle.std.proofs.lemmas.List.Folds.{list_any-append}
use Rattle.fh_base.specs.Told.{WritesFront}
use Rattle.fh_base.specs.Owed.{Carried}
use Rattle.fh_base.specs.CarriedLaws.{carried_more, carried_none}
use Rattle.fh_base.proofs.Carrying.{front_behind}
use Rattle.fh_base.proofs.OwedTelling.{front_before}
use Rattle.window_config.specs.Endpoints.{no_endpoint}
use Rattle.window_config.specs.declared.endpoints.EndpointConfig.{EndpointConfig}
use Rattle.air_source.specs.declared.events.AirCell.{AirCell}
use Rattle.fh_base.specs.Lists.{each}
use Rattle.idle_spans.specs.Runs.{HasNoSpan, IsNextSpan, span_of}
use Rattle.idle_spans.specs.Silence.{is_silent}
use Rattle.idle_spans.specs.Symbols.{symbol_at, symbol_count}
use Rattle.idle_spans.specs.Tables.{RowValue, SpansValue, endpoint_at, endpoint_in, endpoints_of, row_at, symbols_in}
use Rattle.idle_spans.specs.declared.places.Place.{Place}
use Rattle.idle_spans.specs.declared.places.Span.{Span}
use Rattle.idle_spans.proofs.TableLemmas.{endpoint_is}
use Rattle.idle_text.specs.Lines.{span_line_text}
use Rattle.idle_text.specs.Listed.{Run, listed_runs, run_at}
use Rattle.idle_text.specs.Tables.{IsTableOf}
use Rattle.idle_text.proofs.NextLemmas.{IsAt, IsFound, all_found, found}
use Rattle.idle_text.proofs.RunLemmas.{each_parted}
use Rattle.fh_base.proofs.EachLemmas.{each_zero}

-- ---- the table of an endpoint

pub endpoint_same : (s : SpansValue) (ep : ℕ) (e : EndpointConfig) (first last : ℕ) (cells : List AirCell) → IsTableOf s ep e first last cells → e ≡ endpoint_in s ep
endpoint_same s ep e first last cells t = t.is ∙ ap (λ (es : List EndpointConfig). get_or es ep no_endpoint) (sym t.stands.endpoints)

pub count_is : (s : SpansValue) (ep : ℕ) (e : EndpointConfig) (first last : ℕ) (cells : List AirCell) → ep < length (endpoints_of s) → IsTableOf s ep e first last cells
    → symbols_in s ep ≡ symbol_count e.numerology first last
count_is s ep e first last cells inside t =
    let below : ep < length s.rows = subst (λ (n : ℕ). ep < n) (length-map s.rows (λ (r : RowValue). r.endpoint)) inside in
    (t.stands.rows ep below).size
    ∙ ap (λ (x : EndpointConfig). symbol_count x.numerology first last) (endpoint_is s t.config ep below t.stands.endpoints ∙ sym t.is)

-- ---- the runs that begin below a number

abbrev pub runs_to : EndpointConfig → ℕ → ℕ → List AirCell → ℕ → ℕ → List Run
runs_to e first last cells min from = each 0 from (run_at (is_silent e first cells) (symbol_count e.numerology first last) min)

abbrev pub span_at : EndpointConfig → ℕ → List AirCell → Run → Span
span_at e first cells r = span_of e first cells r.first r.len

abbrev pub runs_text : EndpointConfig → ℕ → List AirCell → List Run → List ℕ
runs_text e first cells rs = flat_map (span_line_text e.id) (map (span_at e first cells) rs)

pub runs_text-append : (e : EndpointConfig) (first : ℕ) (cells : List AirCell) (xs ys : List Run) → runs_text e first cells (xs ++ ys) ≡ runs_text e first cells xs ++ runs_text e first cells ys
runs_text-append e first cells xs ys =
    ap (flat_map (span_line_text e.id)) (map-append (span_at e first cells) xs ys)
    ∙ flat_map-append (span_line_text e.id) (map (span_at e first cells) xs) (map (span_at e first cells) ys)

runs_text-more : (e : EndpointConfig) (first : ℕ) (cells : List AirCell) (xs : List Run) (r : Run)
    → runs_text e first cells (xs ++ r ∷ []) ≡ runs_text e first cells xs ++ span_line_text e.id (span_at e first cells r)
runs_text-more e first cells xs r =
    runs_text-append e first cells xs (r ∷ []) ∙ ap (λ (t : List ℕ). runs_text e first cells xs ++ t) (append-nil (span_line_text e.id (span_at e first cells r)))

-- ---- a span that was told

abbrev run_from : ℕ → ℕ → Run
run_from first len = record { first = first; len = len }

pub record IsTold (e : EndpointConfig) (first last : ℕ) (cells : List AirCell) (min from total : ℕ) (span : Span) (number : ℕ) : Type 0 where
  pub is : span ≡ span_of e first cells number span.symbols
  pub low : from ≤ number
  pub some : 1 ≤ span.symbols
  pub within : number + span.symbols ≤ total
  pub told : runs_to e first last cells min (number + 1) ≡ runs_to e first last cells min from ++ run_from number span.symbols ∷ []

is_told : (e : EndpointConfig) (first last : ℕ) (cells : List AirCell) (after : Option Place) (min from total : ℕ) (span : Span) (f : IsFound e first last cells after min from span)
    → total ≡ symbol_count e.numerology first last → IsTold e first last cells min from total span f.number
is_told e first last cells after min from total span f total_is =
    let len : f.len ≡ span.symbols = sym (ap (λ (s : Span). s.symbols) f.is) in
    subst (λ (n : ℕ). (span ≡ span_of e first cells f.number n) → 1 ≤ n → f.number + n ≤ total
    → runs_to e first last cells min (f.number + 1) ≡ runs_to e first last cells min from ++ run_from f.number n ∷ [] → IsTold e first last cells min from total span f.number) (sym len)
    (λ is some within told. record { is = is; low = f.low; some = some; within = within; told = told })
    f.is f.some (subst (λ (n : ℕ). f.number + f.len ≤ n) (sym total_is) f.within) f.told

-- of the span that is found after a place, whose first symbol has this number
pub span_told : (s : SpansValue) (ep : ℕ) (e : EndpointConfig) (first last : ℕ) (cells : List AirCell) (after : Option Place) (min from : ℕ) (span : Span) (number : ℕ)
    → ep < length (endpoints_of s) → (t : IsTableOf s ep e first last cells) → IsAt e first (symbol_count e.numerology first last) after from
    → IsNextSpan (endpoint_at t.config ep) first last cells after min span
    → ((k : ℕ) → k < symbols_in s ep → span.first ≡ symbol_at e.numerology first k → number ≡ k)
    → IsTold e first last cells min from (symbols_in s ep) span number
span_told s ep e first last cells after min from span number inside t at next same =
    let f = found e first last cells after min from span at (subst (λ (x : EndpointConfig). IsNextSpan x first last cells after min span) (sym t.is) next) in
    let told = is_told e first last cells after min from (symbols_in s ep) span f (count_is s ep e first last cells inside t) in
    let some = told.some in
    let within = told.within in
    let is : number ≡ f.number = same f.number (omega arith) (ap (λ (x : Span). x.first) f.is) in
    subst (λ (n : ℕ). IsTold e first last cells min from (symbols_in s ep) span n) (sym is) told

-- ---- what was told so far

pub none_carried : (w : Option (List ℕ)) (o : List ℕ) (e : EndpointConfig) (first last : ℕ) (cells : List AirCell) (min : ℕ) → Carried w o (runs_text e first cells (runs_to e first last cells min 0)) w o
none_carried w o e first last cells min =
    subst (λ (rs : List Run). Carried w o (runs_text e first cells rs) w o) (sym (each_zero 0 (run_at (is_silent e first cells) (symbol_count e.numerology first last) min))) (carried_none w o)

pub span_carried : (w v u : Option (List ℕ)) (o p q : List ℕ) (e : EndpointConfig) (first last : ℕ) (cells : List AirCell) (min from total : ℕ) (span : Span) (number : ℕ)
    → IsTold e first last cells min from total span number → Carried w o (runs_text e first cells (runs_to e first last cells min from)) v p → Carried v p (span_line_text e.id span) u q
    → Carried w o (runs_text e first cells (runs_to e first last cells min (number + 1))) u q
span_carried w v u o p q e first last cells min from total span number t before now =
    subst (λ (x : List ℕ). Carried w o x u q)
    (ap (λ (s : Span). runs_text e first cells (runs_to e first last cells min from) ++ span_line_text e.id s) t.is
    ∙ sym (runs_text-more e first cells (runs_to e first last cells min from) (run_from number span.symbols))
    ∙ ap (runs_text e first cells) (sym t.told))
    (carried_more w v u o p q _ _ before now)

-- a front of a span's line is one of the lines of all
pub span_cut : (w v u : Option (List ℕ)) (o p : List ℕ) (e : EndpointConfig) (first last : ℕ) (cells : List AirCell) (min from total : ℕ) (span : Span) (number : ℕ)
    → IsTold e first last cells min from total span number → total ≡ symbol_count e.numerology first last
    → Carried w o (runs_text e first cells (runs_to e first last cells min from)) v p → WritesFront v u (p ++ span_line_text e.id span)
    → WritesFront w u (o ++ runs_text e first cells (listed_runs e first last cells min))
span_cut w v u o p e first last cells min from total span number t total_is before front =
    let f = run_at (is_silent e first cells) (symbol_count e.numerology first last) min in
    let some = t.some in
    let within = t.within in
    let upto : number + 1 ≤ symbol_count e.numerology first last = subst (λ (n : ℕ). number + 1 ≤ n) total_is (omega arith) in
    let rest = each (number + 1) (symbol_count e.numerology first last - (number + 1)) f in
    let here = front_behind w o (runs_text e first cells (runs_to e first last cells min from)) v p (span_line_text e.id span) u before front in
    let more = front_before w u o _ (runs_text e first cells rest) here in
    subst (λ (x : List ℕ). WritesFront w u (o ++ x))
    (ap (λ (x : List ℕ). x ++ runs_text e first cells rest)
    (ap (λ (s : Span). runs_text e first cells (runs_to e first last cells min from) ++ span_line_text e.id s) t.is
    ∙ sym (runs_text-more e first cells (runs_to e first last cells min from) (run_from number span.symbols))
    ∙ ap (runs_text e first cells) (sym t.told))
    ∙ sym (runs_text-append e first cells (runs_to e first last cells min (number + 1)) rest)
    ∙ ap (runs_text e first cells) (sym (each_parted (number + 1) (symbol_count e.numerology first last) f upto)))
    more

or_false : (b t : Bool) → t ≡ false → b ≡ (b || t)
or_false true t e = refl
or_false false t e = sym e

either : (a b c : Bool) → ((a || b) || c) ≡ (a || (b || (c || false)))
either true b c = refl
either false true c = refl
either false false true = refl
either false false false = refl

pub none_flagged : (p : Run → Bool) (old : Bool) (e : EndpointConfig) (first last : ℕ) (cells : List AirCell) (min : ℕ) → old ≡ (old || list_any p (runs_to e first last cells min 0))
none_flagged p old e first last cells min =
    or_false old _ (ap (list_any p) (each_zero 0 (run_at (is_silent e first cells) (symbol_count e.numerology first last) min)))

pub span_flagged : (p : Run → Bool) (old middle new : Bool) (e : EndpointConfig) (first last : ℕ) (cells : List AirCell) (min from total : ℕ) (span : Span) (number : ℕ)
    → IsTold e first last cells min from total span number → middle ≡ (old || list_any p (runs_to e first last cells min from)) → new ≡ (middle || p (run_from number span.symbols))
    → new ≡ (old || list_any p (runs_to e first last cells min (number + 1)))
span_flagged p old middle new e first last cells min from total span number t before now =
    now
    ∙ ap (λ (m : Bool). m || p (run_from number span.symbols)) before
    ∙ either old (list_any p (runs_to e first last cells min from)) (p (run_from number span.symbols))
    ∙ ap (λ (x : Bool). old || x)
    (sym (list_any-append p (runs_to e first last cells min from) (run_from number span.symbols ∷ [])) ∙ ap (list_any p) (sym t.told))

-- all were told
pub all_runs : (s : SpansValue) (ep : ℕ) (e : EndpointConfig) (first last : ℕ) (cells : List AirCell) (after : Option Place) (min from : ℕ) (t : IsTableOf s ep e first last cells)
    → IsAt e first (symbol_count e.numerology first last) after from → HasNoSpan (endpoint_at t.config ep) first last cells after min
    → runs_to e first last cells min from ≡ listed_runs e first last cells min
all_runs s ep e first last cells after min from t at none =
    sym (all_found e first last cells after min from at (subst (λ (x : EndpointConfig). HasNoSpan x first last cells after min) (sym t.is) none))
