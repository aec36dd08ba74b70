-- The laws of hearing.
use Rattle.std.specs.Prelude.{◌≡◌, Bool, List, [], ◌∷◌, ◌++◌}
use Rattle.std.proofs.Common.{refl, sym, ap, subst, ◌∙◌, append-nil, append_assoc}
use Rattle.air_source.specs.declared.events.Side.{Side}
use Rattle.explain_heard.specs.Heard.{HearsAll, Keeps, all_heard, heard_of}
use Rattle.explain_heard.specs.declared.heard.Heard.{Heard}
use Rattle.unit_model.specs.Judgements.{Judgement}
use Rattle.window_config.specs.declared.endpoints.EndpointConfig.{EndpointConfig}

all_both : (side : Side) (es : List EndpointConfig) (first second : List Judgement) → all_heard side es (first ++ second) ≡ all_heard side es first ++ all_heard side es second
all_both side es [] second = refl
all_both side es (j ∷ first) second = ap (λ (ks : List Heard). heard_of side es j ∷ ks) (all_both side es first second)

-- what is unchanged heard nothing
pub hears_none : (side : Side) (es : List EndpointConfig) (old : List Heard) (was : Bool) → HearsAll side es old was [] side es old was
hears_none side es old was = record {
  side = refl;
  endpoints = refl;
  keeps = record { was = λ fine. fine; kept = λ _. sym (append-nil old) };
}

keeps_more : (side : Side) (es : List EndpointConfig) (a b c : List Heard) (p q r : Bool) (first second : List Judgement)
    → Keeps a p (all_heard side es first) b q → Keeps b q (all_heard side es second) c r → Keeps a p (all_heard side es (first ++ second)) c r
keeps_more side es a b c p q r first second h k = record {
  was = λ fine. h.was (k.was fine);
  kept = λ fine.
      k.kept fine ∙ ap (λ (xs : List Heard). xs ++ all_heard side es second) (h.kept (k.was fine)) ∙ append_assoc a (all_heard side es first) (all_heard side es second)
      ∙ ap (λ (xs : List Heard). a ++ xs) (sym (all_both side es first second));
}

-- hearing one list and then another is hearing both in turn
pub hears_more : (x y z : Side) (ds es fs : List EndpointConfig) (a b c : List Heard) (p q r : Bool) (first second : List Judgement)
    → HearsAll x ds a p first y es b q → HearsAll y es b q second z fs c r → HearsAll x ds a p (first ++ second) z fs c r
hears_more x y z ds es fs a b c p q r first second h k = record {
  side = k.side ∙ h.side;
  endpoints = k.endpoints ∙ h.endpoints;
  keeps = keeps_more x ds a b c p q r first second h.keeps
      (subst (λ (side : Side). Keeps b q (all_heard side ds second) c r) h.side
      (subst (λ (es : List EndpointConfig). Keeps b q (all_heard y es second) c r) h.endpoints k.keeps));
}
