-- The margins of endpoints before any section, and with one section more.
use Rattle.std.proofs.Common.{◌≡◌, ℕ, zero, suc, Bool, true, false, List, [], ◌∷◌, ◌++◌, map, get_or, length, ◌≤◌, refl, sym, ap, ap₂, ◌∙◌, arith}
use Rattle.std.specs.Prelude.{◌==◌, ◌&&◌, if◌then◌else◌, slice_set}
use Rattle.std.proofs.lemmas.Bool.{eq-eqb, ne_eqb}
use Rattle.std.proofs.lemmas.List.{append-nil}
use Rattle.std.proofs.lemmas.List.Elements.{filter-append}
use Rattle.explain_units.specs.Margins.{added_at, margins_after, margins_by, no_margin, no_margins, with_one}
use Rattle.explain_units.specs.declared.kept_margins.EndpointMargins.{EndpointMargins}
use Rattle.explain_model.specs.declared.places.Timing.{Timing}
use Rattle.explain_model.specs.declared.values.Margin.{Margin}
use Rattle.explain_model.specs.declared.values.MarginClass.{MarginClass}
use Rattle.explain_model.specs.declared.values.MarginClass.TheVariants.{Down, Up, Data}
use Rattle.explain_model.specs.Growing.{margin_by}
use Rattle.explain_model.specs.Margins.{Dated, dated_at, margin_of, same_margin}
use Rattle.explain_model.proofs.MarginLemmas.{margins_go_on}
use Rattle.unit_laws.proofs.DifferLemmas.{id_is}
use Rattle.unit_laws.proofs.UnitLemmas.{same_ids}
use Rattle.unit_model.specs.Proper.{IsAt}
use Rattle.window_config.specs.Endpoints.{AreEndpoints}
use Rattle.window_config.specs.declared.endpoints.EndpointConfig.{EndpointConfig}
use Rattle.window_config.specs.declared.verdicts.Class.{Class}

-- the margin of a class with one section more, which may be of another
one_more : (of : MarginClass) (id : ℕ) (ds : List Dated) (d : Dated)
    → (if same_margin d.of of && (d.id == id) then margin_by d.class (margin_of (dated_at of id ds)) d.timing else margin_of (dated_at of id ds)) ≡ margin_of (dated_at of id (ds ++ d ∷ []))
one_more of id ds d =
    by (same_margin d.of of && (d.id == id)) ∙ sym (ap margin_of (filter-append (λ (x : Dated). same_margin x.of of && (x.id == id)) ds (d ∷ [])))
  where
    by : (b : Bool) → (if b then margin_by d.class (margin_of (dated_at of id ds)) d.timing else margin_of (dated_at of id ds)) ≡ margin_of (dated_at of id ds ++ (if b then d ∷ [] else []))
    by true = sym (margins_go_on (dated_at of id ds) d)
    by false = ap margin_of (sym (append-nil (dated_at of id ds)))

-- it changes the margin of its class alone
by_class : (of : MarginClass) (b : Bool) (class : Class) (t : Timing) (m : EndpointMargins)
    → (if b then with_one of class t m else m) ≡ record {
      id = m.id;
      down = if same_margin of Down && b then margin_by class m.down t else m.down;
      up = if same_margin of Up && b then margin_by class m.up t else m.up;
      «data» = if same_margin of Data && b then margin_by class m.«data» t else m.«data»;
    }
by_class Down true class t m = refl
by_class Down false class t m = refl
by_class Up true class t m = refl
by_class Up false class t m = refl
by_class Data true class t m = refl
by_class Data false class t m = refl

record_by : (id : ℕ) (a b c x y z : Margin) → a ≡ x → b ≡ y → c ≡ z
    → ◌≡◌ {A = EndpointMargins} (record { id = id; down = a; up = b; «data» = c }) (record { id = id; down = x; up = y; «data» = z })
record_by id a b c x y z p q r =
    ap (λ (n : Margin). kept_as n b c) p ∙ ap (λ (n : Margin). kept_as x n c) q ∙ ap (λ (n : Margin). kept_as x y n) r
  where
    kept_as : Margin → Margin → Margin → EndpointMargins
    kept_as k l m = record { id = id; down = k; up = l; «data» = m }

-- the margins of an endpoint with one section more, which may be of another
added_one : (ds : List Dated) (d : Dated) (e : EndpointConfig) → (if d.id == e.id then with_one d.of d.class d.timing (margins_by ds e) else margins_by ds e) ≡ margins_by (ds ++ d ∷ []) e
added_one ds d e =
    by_class d.of (d.id == e.id) d.class d.timing (margins_by ds e)
    ∙ record_by e.id _ _ _ _ _ _ (one_more Down e.id ds d) (one_more Up e.id ds d) (one_more Data e.id ds d)

of_it : (ds : List Dated) (d : Dated) (e : EndpointConfig) → d.id ≡ e.id → with_one d.of d.class d.timing (margins_by ds e) ≡ margins_by (ds ++ d ∷ []) e
of_it ds d e same =
    sym (ap (λ (b : Bool). if b then with_one d.of d.class d.timing (margins_by ds e) else margins_by ds e) (eq-eqb d.id e.id same)) ∙ added_one ds d e

of_another : (ds : List Dated) (d : Dated) (e : EndpointConfig) → (d.id ≡ e.id → ⊥) → margins_by ds e ≡ margins_by (ds ++ d ∷ []) e
of_another ds d e other =
    sym (ap (λ (b : Bool). if b then with_one d.of d.class d.timing (margins_by ds e) else margins_by ds e) (ne_eqb d.id e.id other)) ∙ added_one ds d e

-- a section of none of these endpoints
of_others : (es : List EndpointConfig) (ds : List Dated) (d : Dated) → ((k : ℕ) (e : EndpointConfig) → IsAt es k e → d.id ≡ e.id → ⊥) → margins_after es ds ≡ margins_after es (ds ++ d ∷ [])
of_others [] ds d other = refl
of_others (e ∷ es) ds d other =
    ap₂ (λ (m : EndpointMargins) (ms : List EndpointMargins). m ∷ ms) (of_another ds d e (other 0 e refl)) (of_others es ds d (λ k f at. other (suc k) f at))

-- a section of the endpoint with this index, whose id no other one has
more_at : (es : List EndpointConfig) (ep : ℕ) (e : EndpointConfig) (ds : List Dated) (d : Dated) → IsAt es ep e → d.id ≡ e.id
    → ((k : ℕ) (f : EndpointConfig) → IsAt es k f → d.id ≡ f.id → ep ≡ k)
    → added_at ep d.of d.class d.timing (margins_after es ds) ≡ margins_after es (ds ++ d ∷ [])
more_at [] ep e ds d at same alone = refl
more_at (f ∷ es) zero e ds d at same alone =
    ap₂ (λ (m : EndpointMargins) (ms : List EndpointMargins). m ∷ ms) (of_it ds d f (same ∙ sym (id_is (f ∷ es) 0 e at).1))
    (of_others es ds d (λ k g at_k equal. omega (arith, alone (suc k) g at_k equal)))
more_at (f ∷ es) (suc ep) e ds d at same alone =
    ap₂ (λ (m : EndpointMargins) (ms : List EndpointMargins). m ∷ ms) (of_another ds d f (λ equal. omega (arith, alone 0 f refl equal)))
    (more_at es ep e ds d at same (λ k g at_k equal. omega (arith, alone (suc k) g at_k equal)))

pub margins_more : (es : List EndpointConfig) (ep : ℕ) (e : EndpointConfig) (ds : List Dated) (d : Dated) → AreEndpoints es → IsAt es ep e → d.id ≡ e.id
    → added_at ep d.of d.class d.timing (margins_after es ds) ≡ margins_after es (ds ++ d ∷ [])
margins_more es ep e ds d are at same = more_at es ep e ds d at same (λ k f at_k equal. same_ids es ep k e f are.differ at at_k (sym same ∙ equal))

-- ---- in the memory of a unit

pub set_added : (ms : List EndpointMargins) (ep : ℕ) (of : MarginClass) (class : Class) (t : Timing) (m : EndpointMargins)
    → slice_set ms ep (with_one of class t (get_or ms ep m)) ≡ added_at ep of class t ms
set_added [] ep of class t m = refl
set_added (x ∷ ms) zero of class t m = refl
set_added (x ∷ ms) (suc ep) of class t m = ap (λ (ys : List EndpointMargins). x ∷ ys) (set_added ms ep of class t m)

pub none_added : (ms : List EndpointMargins) (ep : ℕ) (of : MarginClass) (class : Class) (t : Timing) → length ms ≤ ep → added_at ep of class t ms ≡ ms
none_added [] ep of class t past = refl
none_added (m ∷ ms) zero of class t past = absurd (omega (arith, past))
none_added (m ∷ ms) (suc ep) of class t past = ap (λ (xs : List EndpointMargins). m ∷ xs) (none_added ms ep of class t (omega (arith, past)))

-- ---- no section

no_margin_is : no_margin ≡ margin_of []
unfolding margin_of
no_margin_is = refl

pub margins_none : (es : List EndpointConfig) → map no_margins es ≡ margins_after es []
margins_none [] = refl
margins_none (e ∷ es) =
    ap (λ (m : EndpointMargins). m ∷ map no_margins es) (record_by e.id _ _ _ _ _ _ no_margin_is no_margin_is no_margin_is)
    ∙ ap (λ (ms : List EndpointMargins). margins_by [] e ∷ ms) (margins_none es)
