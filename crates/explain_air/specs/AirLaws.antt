-- The laws of the air that writes an explanation.
use Rattle.std.specs.Prelude.{ℕ, Bool, List, [], ◌++◌, Option}
use Rattle.std.proofs.Common.{sym, subst, append-nil, append_assoc}
use Rattle.air_source.specs.declared.events.Event.{Event}
use Rattle.explain_air.specs.Airs.{Grew, IsAfter}
use Rattle.explain_air.specs.declared.kept.Kept.{Kept}
use Rattle.window_config.specs.declared.config.Config.{Config}

pub grew_none : (c : Config) (earlier : List Event) (f : Bool) (k : Option Kept) (w : Option (List ℕ)) (o : List ℕ) → Grew c earlier f k w o [] f k w o
grew_none c earlier f k w o = record {
  after = λ s faults base is h. subst (λ (es : List Event). IsAfter s faults base es f k w o) (sym (append-nil earlier)) h;
}

pub grew_more : (c : Config) (earlier : List Event) (f g h : Bool) (k l m : Option Kept) (u v w : Option (List ℕ)) (o p q : List ℕ) (first second : List Event)
    → Grew c earlier f k u o first g l v p → Grew c (earlier ++ first) g l v p second h m w q → Grew c earlier f k u o (first ++ second) h m w q
grew_more c earlier f g h k l m u v w o p q first second x y = record {
  after = λ s faults base is at.
      subst (λ (es : List Event). IsAfter s faults base es h m w q) (append_assoc earlier first second) (y.after s faults base is (x.after s faults base is at));
}
